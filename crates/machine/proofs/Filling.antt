-- A history, filled a node at a time.
use Rattle.std.proofs.Common.{◌≡◌, ℕ, ◌+◌, ◌*◌, ◌<◌, ◌≤◌, ◌⊎◌, List, map, length, get_or, set, Option, sym, ap, ◌∙◌, inl, inr, ⊎_elim, mul-le-mul_right, arith}
use Rattle.std.proofs.lemmas.List.{get_or-set_same, get_or-set_other}
use Rattle.std.proofs.lemmas.Bool.{cases_lt, cases_eq}
use Rattle.words.specs.declared.graph.Graph.{Graph}
use Rattle.words.specs.Designs.{InRange, node_at, feed_at}
use Rattle.bench.specs.Firing.{place_in}
use Rattle.bench.specs.Orders.{Ranked}
use Rattle.cells.specs.Meaning.{Meaning, applied}
use Rattle.machine.specs.declared.cell.Cell.{Cell}
use Rattle.machine.specs.Values.{heard, operand, Solves}
use Rattle.machine.specs.Plans.{taps_in, Planned}
use Rattle.machine.specs.Buffers.{value_in}
use Rattle.machine.specs.Simulation.{Filled}
use Rattle.machine.proofs.Histories.{operands_alike}

module _ {E A : Type 0} (g : Graph) (range : InRange g) (order : List ℕ) (ranked : Ranked g.count (feed_at g) order) (m : Meaning E A) (rest x : ℕ → E)
    (v : ℕ → ℕ → E) (solves : Solves g m rest x v) (h : List E) (d : E) (t r : ℕ) (lr : r < g.count) (filled : Filled g.count order v h d t r) where
  abbrev n : ℕ
  n = g.count

  -- the node of rank r
  abbrev node : ℕ
  node = get_or order r 0

  its_rank : place_in order node ≡ r
  its_rank = ranked.once r (omega (arith, ranked.whole))

  -- its value is the design's
  pub value_is : (cell : Cell) (e : E) → Planned g node cell → e ≡ applied m cell.operation (map (operand (heard rest (value_in n h d) x t)) (taps_in cell)) → e ≡ v node t
  value_is cell e planned is =
      is ∙ ap (λ o. applied m o (map (operand (heard rest (value_in n h d) x t)) (taps_in cell))) planned.operation
      ∙ ap (λ ts. applied m (node_at g node).operation (map (operand (heard rest (value_in n h d) x t)) ts)) planned.taps
      ∙ ap (applied m (node_at g node).operation) (operands_alike g range order ranked m rest x (value_in n h d) v node t (ranked.below r lr) known)
      ∙ sym (solves node t (ranked.below r lr))
    where
      known : (j s : ℕ) → j < n → s * n + place_in order j < t * n + place_in order node → s ≤ t → value_in n h d j s ≡ v j s
      known j s lj lt le =
          filled j s lj
          (⊎_elim
          (λ (earlier : s < t). inl earlier)
          (λ (now : t ≤ s). let same : s ≡ t = omega arith in inr (same, omega (arith, its_rank, ap (λ k. k * n) same)))
          (cases_lt s t))

  -- with its value written, the history holds one node more
  pub filled_more : (place : ℕ) (e : E) → place ≡ t * n + node → place < length h → e ≡ v node t → Filled n order v (set h place e) d t (r + 1)
  filled_more place e at inside is i s li when =
      ⊎_elim
      (λ (same : i ≡ node). ⊎_elim (λ (now : s ≡ t). here same now) (λ (other : s ≡ t → ⊥). apart (before same other)) (cases_eq s t))
      (λ (other : i ≡ node → ⊥). apart (beside other))
      (cases_eq i node)
    where
      ln : node < n
      ln = ranked.below r lr

      here : i ≡ node → s ≡ t → value_in n (set h place e) d i s ≡ v i s
      here same now =
          let where-it-is : s * n + i ≡ place = omega (arith, at, ap (λ k. k * n) now, same) in
          ap (λ p. get_or (set h place e) p d) where-it-is ∙ get_or-set_same h place e d inside ∙ is ∙ ap (λ j. v j t) (sym same) ∙ ap (v i) (sym now)

      earlier_place : s < t → s * n + i ≡ place → ⊥
      earlier_place lt eq = omega (arith, at, mul-le-mul_right n lt, li)

      before : i ≡ node → (s ≡ t → ⊥) → (s * n + i ≡ place → ⊥) × ((s < t) ⊎ ((s ≡ t) × (place_in order i < r)))
      before same other = ⊎_elim (λ (lt : s < t). (earlier_place lt, inl lt)) (λ (now : (s ≡ t) × (place_in order i < r + 1)). absurd (other now.0)) when

      low : (i ≡ node → ⊥) → place_in order i < r + 1 → place_in order i < r
      low other lt =
          ⊎_elim (λ (l : place_in order i < r). l) (λ (l : r ≤ place_in order i). let eq : place_in order i ≡ r = omega arith in absurd (other (sym (ranked.found i li).1 ∙ ap (λ k. get_or order k 0) eq)))
          (cases_lt (place_in order i) r)

      beside : (i ≡ node → ⊥) → (s * n + i ≡ place → ⊥) × ((s < t) ⊎ ((s ≡ t) × (place_in order i < r)))
      beside other =
          ⊎_elim
          (λ (lt : s < t). (earlier_place lt, inl lt))
          (λ (now : (s ≡ t) × (place_in order i < r + 1)). ((λ eq. other (omega (arith, at, ap (λ k. k * n) now.0))), inr (now.0, low other now.1)))
          when

      apart : (s * n + i ≡ place → ⊥) × ((s < t) ⊎ ((s ≡ t) × (place_in order i < r))) → value_in n (set h place e) d i s ≡ v i s
      apart p = get_or-set_other h place (s * n + i) e d p.0 ∙ filled i s li p.1

-- all nodes of a time filled
pub filled_on : {E : Type 0} (n : ℕ) (delay : ℕ → ℕ → Option ℕ) (order : List ℕ) → Ranked n delay order → (v : ℕ → ℕ → E) (h : List E) (d : E) (t r : ℕ) → r ≡ n →
    Filled n order v h d t r → Filled n order v h d (t + 1) 0
filled_on n delay order ranked v h d t r all filled i s li when =
    filled i s li
    (⊎_elim
    (λ (lt : s < t + 1). ⊎_elim (λ (l : s < t). inl l) (λ (l : t ≤ s). inr (omega arith, omega (arith, (ranked.found i li).0))) (cases_lt s t))
    (λ (now : (s ≡ t + 1) × (place_in order i < 0)). absurd (omega (arith, now.1)))
    when)
