-- What the type of a machine says, out of its ghost fields.
use Rattle.std.proofs.Common.{◌≡◌, ℕ, List}
use mathlib.Core.Bool.{Bool-set}
use mathlib.Core.Logic.{∥∥₁_elim}
use native.Mathlib.Bridge.{le_prop}
use Rattle.machine.specs.Arrays.{Array, Ordered}
use Rattle.machine.specs.Steps.{Reached}

ordered_prop : (a : Array) (rank : ℕ → ℕ) (x y : Ordered a rank) → x ≡ y
ordered_prop a rank x y =
    λ t.
    record {
      few = le_prop x.few y.few t;
      ranks = λ i l. le_prop (x.ranks i l) (y.ranks i l) t;
      taps = λ i l k d m. (Bool-set _ _ (x.taps i l k d m).0 (y.taps i l k d m).0 t, λ s e. le_prop ((x.taps i l k d m).1 s e) ((y.taps i l k d m).1 s e) t);
    }

pub in_order : (a : Array) (rank : ℕ → ℕ) → ∥ Ordered a rank ∥₁ → Ordered a rank
in_order a rank t = ∥∥₁_elim t (ordered_prop a rank) (λ x. x)

reached_prop : (a : Array) (lines : List ℕ) (x y : Reached a lines) → x ≡ y
reached_prop a lines x y =
    λ t. record { taps = λ i l k d m. le_prop (x.taps i l k d m) (y.taps i l k d m) t; output_node = le_prop x.output_node y.output_node t; output = le_prop x.output y.output t }

pub in_reach : (a : Array) (lines : List ℕ) → ∥ Reached a lines ∥₁ → Reached a lines
in_reach a lines t = ∥∥₁_elim t (reached_prop a lines) (λ x. x)
