-- A node's taps, a source at a time.
use Rattle.std.proofs.Common.{◌≡◌, ℕ, suc, ◌+◌, List, [], ◌∷◌, ◌++◌, Some, None, Option, sym, refl, ap, ◌∙◌, arith}
use Rattle.std.proofs.lemmas.List.{append-nil}
use Rattle.words.specs.declared.program_table.Tap.{Tap}
use Rattle.bench.specs.Tables.{tap_at, taps_to}

module _ (row : ℕ → Option ℕ) (k : ℕ) (taps : List Tap) (so_far : taps ≡ taps_to row k) where
  taps_push : taps_to row (k + 1) ≡ taps ++ tap_at k (row k)
  unfolding taps_to
  taps_push = ap (taps_to row) (let on : k + 1 ≡ suc k = omega arith in on) ∙ ap (λ ts. ts ++ tap_at k (row k)) (sym so_far)

  -- a source that feeds the node
  pub taps_more : (d : ℕ) → row k ≡ Some d → taps ++ record { source = k; delay = d } ∷ [] ≡ taps_to row (k + 1)
  taps_more d is = sym (taps_push ∙ ap (λ o. taps ++ tap_at k o) is)

  -- one that does not
  pub taps_same : row k ≡ None → taps ≡ taps_to row (k + 1)
  taps_same is = sym (taps_push ∙ ap (λ o. taps ++ tap_at k o) is ∙ append-nil taps)

pub taps_none : (row : ℕ → Option ℕ) → [] ≡ taps_to row 0
unfolding taps_to
taps_none row = refl
