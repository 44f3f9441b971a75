-- A whole simulation.
use Rattle.std.proofs.Common.{◌≡◌, ℕ, ◌-◌, ◌<◌, List, sym, ap, ◌∙◌, inl, arith}
use Rattle.words.specs.declared.graph.Graph.{Graph}
use Rattle.words.specs.Designs.{InRange, node_at, feed_at}
use Rattle.bench.specs.Orders.{Ranked}
use Rattle.cells.specs.Meaning.{Meaning, applied}
use Rattle.machine.specs.Values.{past, heard, Solves, SolvesBefore, output}
use Rattle.machine.specs.Buffers.{value_in}
use Rattle.machine.specs.Simulation.{Filled}
use Rattle.machine.proofs.Histories.{past_alike, given_node, operands_alike}

module _ {E A : Type 0} (g : Graph) (range : InRange g) (order : List ℕ) (m : Meaning E A) (rest x : ℕ → E)
    (v : ℕ → ℕ → E) (h : List E) (d : E) (T : ℕ) (filled : Filled g.count order v h d T 0) where
  held : (i s : ℕ) → i < g.count → s < T → value_in g.count h d i s ≡ v i s
  held i s li lt = filled i s li (inl lt)

  -- what is heard at the output is the output of the values
  pub output_heard : (t : ℕ) → t < T → heard rest (value_in g.count h d) x t g.output.node g.output.delay ≡ output g rest v t
  output_heard t lt =
      let o = g.output.node in
      ap (λ f. past f (rest o) t g.output.delay) (given_node (value_in g.count h d) x o (λ e. omega (arith, range.output_node, range.few)))
      ∙ past_alike (value_in g.count h d o) (v o) (rest o) t g.output.delay (λ l. held o (t - g.output.delay) range.output_node (omega arith))

  -- the output of the values is that of the history
  pub output_held : (t : ℕ) → t < T → output g rest v t ≡ output g rest (value_in g.count h d) t
  output_held t lt = past_alike (v g.output.node) (value_in g.count h d g.output.node) (rest g.output.node) t g.output.delay
      (λ l. sym (held g.output.node (t - g.output.delay) range.output_node (omega arith)))

  pub held_solves : Ranked g.count (feed_at g) order → Solves g m rest x v → SolvesBefore T g m rest x (value_in g.count h d)
  held_solves ranked solves i t li lt =
      held i t li lt ∙ solves i t li
      ∙ ap (applied m (node_at g i).operation) (operands_alike g range order ranked m rest x v (value_in g.count h d) i t li (λ j s lj low le. sym (held j s lj (omega arith))))
