-- A plan of a design can fire.
use Rattle.std.proofs.Common.{◌≡◌, ℕ, ◌<◌, ◌≤◌, true, List, length, get_or, take, sym, ◌∙◌, subst, arith}
use Rattle.std.proofs.lemmas.List.{length-take-le, get_or-take}
use Rattle.std.specs.List.{AllByRecursion}
use Rattle.words.specs.declared.graph.Graph.{Graph}
use Rattle.words.specs.Designs.{InRange, feed_at, is_source, sources}
use Rattle.bench.specs.Orders.{Ranked}
use Rattle.words.specs.declared.program_table.Tap.{Tap}
use Rattle.machine.specs.declared.cell.Cell.{Cell}
use Rattle.machine.specs.Plans.{Planned, Whole, Ready}
use Rattle.machine.proofs.Histories.{taps_all}

module _ (g : Graph) (range : InRange g) (order : List ℕ) (ranked : Ranked g.count (feed_at g) order) where
  pub ready : (k : ℕ) (cell : Cell) → k < g.count → Planned g (get_or order k 0) cell → Ready g.count cell
  ready k cell l planned =
      let i = get_or order k 0 in
      let li : i < g.count = ranked.below k l in
      record {
        node = omega (arith, planned.node, li);
        table = planned.table;
        few = planned.few;
        taps = subst (AllByRecursion (λ (tap : Tap). is_source g.count tap.source ≡ true)) (sym planned.taps)
            (taps_all (λ (tap : Tap). is_source g.count tap.source ≡ true) (feed_at g i) sources (λ j a lj e. (range.nodes i (omega (arith, range.few))).heard j a e));
      }

  pub all_ready : (cells : List Cell) (count : ℕ) → count ≡ g.count → ((k : ℕ) (d : Cell) → k < g.count → Planned g (get_or order k 0) (get_or cells k d)) →
      (k : ℕ) (d : Cell) → k < count → Ready count (get_or cells k d)
  all_ready cells count all planned k d l =
      subst (λ n. Ready n (get_or cells k d)) (sym all) (ready k (get_or cells k d) (omega (arith, all)) (planned k d (omega (arith, all))))

-- the first of a table of cells fire a design
pub whole_of : (g : Graph) (order : List ℕ) (cells : List Cell) (count : ℕ) → count ≤ length cells → count ≡ g.count →
    ((k : ℕ) (d : Cell) → k < g.count → Planned g (get_or order k 0) (get_or cells k d)) → Whole g order (take count cells)
whole_of g order cells count room all planned =
    record {
      count = length-take-le count cells room ∙ all;
      cells = λ k d l. subst (Planned g (get_or order k 0)) (sym (get_or-take count cells k d (omega (arith, all)))) (planned k d l);
    }
