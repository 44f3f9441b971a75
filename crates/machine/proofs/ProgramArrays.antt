-- The array of a bench's program is that of its design, slowed and lagged.
use Rattle.std.proofs.Common.{◌≡◌, ℕ, ◌+◌, ◌<◌, ◌≤◌, true, eqb, List, [], ◌∷◌, map, length, get_or, sym, refl, ap, ◌∙◌, subst, ⊎_elim, arith}
use Rattle.std.specs.List.{All}
use Rattle.std.proofs.lemmas.List.Elements.{All-from_recursion, All-map}
use Rattle.std.proofs.lemmas.List.{get_or_default, get_or-map, length-map}
use Rattle.std.proofs.lemmas.List.FromFn.{get_or-map-range_with_len}
use Rattle.std.proofs.lemmas.Bool.{cond-true, cond-false, eq-eqb, ne_eqb, cases_eq}
use Rattle.words.specs.declared.graph.Graph.{Graph}
use Rattle.words.specs.declared.program_table.Cell.{Cell}
use Rattle.words.specs.declared.program_table.ProgramTable.{ProgramTable}
use Rattle.words.specs.Designs.{InRange, input, is_source, node_at, sources}
use Rattle.words.specs.ProgramDrafts.{nodes_of, no_cell}
use Rattle.words.specs.ProgramEncoding.{line_source}
use Rattle.bench.specs.declared.retiming.Retiming.{Retiming}
use Rattle.bench.specs.Firing.{has, place_in}
use Rattle.bench.specs.Orders.{Ranked}
use Rattle.bench.specs.Programs.{line_length}
use Rattle.bench.specs.Retimings.{current_delay, lag_at, order}
use Rattle.bench.specs.Tables.{taps_to, cell_at, line_lengths, program_of}
use Rattle.bench.proofs.Emitting.{reaches}
use Rattle.bench.proofs.Lists.{place_at, place_below}
use Rattle.machine.specs.Arrays.{array_of, array_in, cell_of, rank_in, Ordered}
use Rattle.machine.specs.ProgramArrays.{Alike, CellOf, ProgramOf}
use Rattle.machine.specs.Steps.{Reached, line_long}
use Rattle.machine.proofs.Alike.{alike_back, ordered_alike, reached_alike}
use Rattle.machine.proofs.Cycles.{tap_source, in_firing_order}
use Rattle.machine.proofs.Histories.{taps_all, node_source, source_node}

-- where a node has a cell, it is found
pub cell_found : (P : Cell → Type 0) (t : ProgramTable) (i : ℕ) → All P t.cells.items → has (nodes_of t.cells.items) i ≡ true → P (cell_of t i) × ((cell_of t i).node ≡ i)
cell_found P t i all h =
    let within : rank_in t i < length t.cells.items = omega (arith, place_below (nodes_of t.cells.items) i h, length-map t.cells.items (λ (c : Cell). c.node)) in
    (all (rank_in t i) no_cell within, sym (get_or-map (λ (c : Cell). c.node) t.cells.items (rank_in t i) no_cell 0 within) ∙ place_at (nodes_of t.cells.items) i h)

module _ (g : Graph) (p : Retiming) (fires : Ranked g.count (current_delay g p) (order g p)) (t : ProgramTable) (is : ProgramOf g p t) where
  -- each node has its cell
  pub cell_is : (i : ℕ) → i < g.count → CellOf g p (cell_of t i) × ((cell_of t i).node ≡ i)
  cell_is i l = cell_found (CellOf g p) t i is.cells (ap (λ nodes. has nodes i) is.order ∙ fires.every i l)

  pub program_alike : Alike (array_in t) (array_of g p)
  program_alike =
      record {
        count = is.count;
        operation = λ i l. let c = cell_is i (omega (arith, is.count)) in c.0.operation ∙ ap (λ n. (node_at g n).operation) c.1;
        lag = λ i l. let c = cell_is i (omega (arith, is.count)) in c.0.lag ∙ ap (lag_at p) c.1;
        taps = λ i l. let c = cell_is i (omega (arith, is.count)) in c.0.taps ∙ ap (λ n. taps_to (current_delay g p n) sources) c.1;
        output = is.output;
        output_delay = is.output_delay;
      }

  module _ (range : InRange g) where
    -- the lines are as long as they are read
    reached_of : Reached (array_of g p) t.lines.items
    reached_of =
        record {
          taps = λ i l.
              All-from_recursion (λ tap. tap.delay ≤ line_long g.count t.lines.items tap.source) (taps_to (current_delay g p i) sources)
              (taps_all (λ tap. tap.delay ≤ line_long g.count t.lines.items tap.source) (current_delay g p i) sources
              (λ j d lj e. omega (arith, is.lines j (tap_source g range p (order g p) fires i j d l e), (reaches g p j).taps i d l e)));
          output_node = range.output_node;
          output = omega (arith, is.lines g.output.node (node_source g.count g.output.node range.output_node), (reaches g p g.output.node).output refl);
        }

    pub program_ordered : Ordered (array_in t) (place_in (order g p))
    program_ordered = ordered_alike (array_of g p) (array_in t) (alike_back (array_in t) (array_of g p) program_alike) (place_in (order g p)) (in_firing_order g range p (order g p) fires)

    pub program_reached : Reached (array_in t) t.lines.items
    program_reached = reached_alike (array_of g p) (array_in t) (alike_back (array_in t) (array_of g p) program_alike) t.lines.items reached_of

-- a bench's program is one of its design, slowed and lagged
module _ (g : Graph) (p : Retiming) (fires : Ranked g.count (current_delay g p) (order g p)) where
  cell_nodes : (nodes : List ℕ) → nodes_of (map (cell_at g p) nodes) ≡ nodes
  cell_nodes [] = refl
  cell_nodes (i ∷ nodes) = λ k. i ∷ cell_nodes nodes k

  line_is : (j : ℕ) → is_source g.count j ≡ true → line_long g.count (line_lengths g p) j ≡ line_length g p j
  line_is j s =
      ⊎_elim
      (λ (e : j ≡ input).
      ap (λ k. get_or (line_lengths g p) k 0) (cond-true (eqb j input) g.count j (eq-eqb j input e))
      ∙ at_line g.count (omega arith)
      ∙ ap (line_length g p) (cond-true (eqb g.count g.count) input g.count (eq-eqb g.count g.count refl) ∙ sym e))
      (λ (other : j ≡ input → ⊥).
      let l = source_node g.count j s other in
      ap (λ k. get_or (line_lengths g p) k 0) (cond-false (eqb j input) g.count j (ne_eqb j input other))
      ∙ at_line j (omega arith)
      ∙ ap (line_length g p) (cond-false (eqb j g.count) input j (ne_eqb j g.count (λ e. omega arith))))
      (cases_eq j input)
    where
      at_line : (k : ℕ) → k < g.count + 1 → get_or (line_lengths g p) k 0 ≡ line_length g p (line_source g.count k)
      at_line k l = get_or-map-range_with_len (λ k. line_length g p (line_source g.count k)) 0 (g.count + 1) k k 0 l (omega arith)

  pub program_is : ProgramOf g p (program_of g p)
  program_is =
      record {
        count = refl;
        factor = refl;
        lines = line_is;
        order = cell_nodes (order g p);
        cells = All-map (CellOf g p) (cell_at g p) (order g p)
            (λ k d l. record { node = listed k d l; operation = refl; lag = refl; taps = refl });
        output = refl;
        output_delay = refl;
      }
    where
      listed : (k d : ℕ) → k < length (order g p) → get_or (order g p) k d < g.count
      listed k d l = subst (λ i. i < g.count) (get_or_default (order g p) k 0 d l) (fires.below k (omega (arith, fires.whole)))
