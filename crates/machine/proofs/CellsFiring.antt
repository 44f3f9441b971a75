-- Cells that have fired, a cell at a time.
use Rattle.std.proofs.Common.{◌≡◌, ℕ, zero, suc, ◌+◌, ◌<◌, ◌≤◌, true, cond, ◌&&◌, ltb, eqb, List, [], ◌∷◌, map, length, get_or, set, sum, Some, None, sym, refl, ap, ◌∙◌, subst, ⊎_elim, arith}
use Rattle.std.specs.List.{All}
use Rattle.std.proofs.lemmas.List.{get_or-set_same, get_or-set_other, get_or-map, drop-set-lt}
use Rattle.std.proofs.lemmas.List.Sums.{sum_by_more, sum_by-take-le}
use Rattle.std.proofs.lemmas.Bool.{cond-true, cond-false, lt-ltb, le-ltb, eq-eqb, ne_eqb, cases_eq}
use Rattle.words.specs.declared.program_table.Tap.{Tap}
use Rattle.words.specs.declared.program_table.Cell.{Cell}
use Rattle.words.specs.declared.program_table.ProgramTable.{ProgramTable}
use Rattle.words.specs.Designs.{input, is_source}
use Rattle.words.specs.ProgramDrafts.{no_cell, nodes_of}
use Rattle.words.specs.ProgramTables.{ProgramInRange}
use Rattle.cells.specs.Meaning.{Meaning, applied}
use Rattle.bench.proofs.Lists.{place_at}
use Rattle.machine.specs.Arrays.{Earlier, Ordered, array_in, rank_in, cell_of}
use Rattle.machine.specs.Buffers.{rest_place}
use Rattle.machine.specs.Fired.{CellsFired, heard_by}
use Rattle.machine.specs.Reading.{register_value, wire_operand}
use Rattle.machine.specs.Steps.{Registers, registers_in, hears, line_long, line_place, present_place, needed, Reached}
use Rattle.machine.specs.Values.{operand}
use Rattle.machine.specs.Wirings.{register_at, wire_of}
use Rattle.machine.proofs.Histories.{source_node}
use Rattle.machine.proofs.Loaded.{has_cell, rank_low, rank_at}
use Rattle.machine.proofs.Resting.{place_low}
use Rattle.machine.proofs.Stepping.{map_alike_by}

pub cells_none : {E A : Type 0} (t : ProgramTable) (m : Meaning E A) (cycle : ℕ) (x d : E) (row : List E) → CellsFired t m cycle x d row row 0
cells_none t m cycle x d row = record { lines = λ q l. refl; past = refl; fired = λ i l r. absurd (omega arith); held = λ i l r. refl }

module _ (t : ProgramTable) (range : ProgramInRange t) where
  -- the place in a line that a tap reads lies among the lines
  pub line_inside : (j p : ℕ) → is_source t.count j ≡ true → p < line_long t.count t.lines.items j → line_place t.count t.lines.items j p < sum t.lines.items
  line_inside j p s l =
      let low = place_low t.count j s in
      omega (arith, sum_by_more (λ y. y) t.lines.items (rest_place t.count j) 0 (omega (arith, range.lines)), sum_by-take-le (λ y. y) t.lines.items (rest_place t.count j + 1))

  -- the node at a place of the order
  node_of_rank : (i : ℕ) → i < t.count → (k : ℕ) → rank_in t i ≡ k → (get_or t.cells.items k no_cell).node ≡ i
  node_of_rank i l k e =
      sym (get_or-map (λ (c : Cell). c.node) t.cells.items k no_cell 0 (omega (arith, e, rank_low t range i l, range.cells)))
      ∙ ap (λ r. get_or (nodes_of t.cells.items) r 0) (sym e) ∙ place_at (nodes_of t.cells.items) i (has_cell t range i l)

module _ {E A : Type 0} (t : ProgramTable) (range : ProgramInRange t) (ordered : Ordered (array_in t) (rank_in t)) (reached : Reached (array_in t) t.lines.items) (m : Meaning E A)
    (cycle : ℕ) (x d : E) (before now : List E) (k : ℕ) (below : k < t.count) (so_far : CellsFired t m cycle x d before now k) where
  abbrev n : ℕ
  n = t.count

  abbrev lines : List ℕ
  lines = t.lines.items

  abbrev cell : Cell
  cell = get_or t.cells.items k no_cell

  abbrev i : ℕ
  i = cell.node

  node_low : i < n
  node_low = (range.ranges k no_cell (omega (arith, range.cells))).node

  rank : rank_in t i ≡ k
  rank = rank_at t range k below

  same_cell : cell_of t i ≡ cell
  same_cell = ap (λ r. get_or t.cells.items r no_cell) rank

  abbrev old : Registers E
  old = registers_in n lines before d

  -- the cell holds its present value
  pub cell_held : cycle < cell.lag → CellsFired t m cycle x d before now (k + 1)
  cell_held early =
      record {
        lines = so_far.lines;
        past = so_far.past;
        fired = λ j lj r.
            ⊎_elim
            (λ (last : rank_in t j ≡ k).
            let same = node_of_rank t range j lj k last in
            so_far.held j lj (omega (arith, last))
            ∙ sym (cond-true (ltb cycle ((array_in t).lag j)) (get_or before (present_place lines j) d) (heard_by (array_in t) m x old (registers_in n lines now d) j) (lt-ltb cycle ((array_in t).lag j) (omega (arith, early, ap (λ r. (get_or t.cells.items r no_cell).lag) last)))))
            (λ (other : rank_in t j ≡ k → ⊥). so_far.fired j lj (omega (arith, other)))
            (cases_eq (rank_in t j) k);
        held = λ j lj r. so_far.held j lj (omega arith);
      }

  -- what a tap reads by its wire
  wire_hears : (tap : Tap) → is_source n tap.source ≡ true → tap.delay ≤ line_long n lines tap.source → (delay : ℕ) → tap.delay ≡ delay →
      register_value x now d (cond (eqb delay 0 && eqb tap.source input) None (Some (register_at n lines tap.source delay))) ≡ hears old.line (registers_in n lines now d).present x tap.source delay
  wire_hears tap s short zero e =
      ⊎_elim
      (λ (outside : tap.source ≡ input).
      ap (λ b. register_value x now d (cond b None (Some (register_at n lines tap.source 0)))) (eq-eqb tap.source input outside)
      ∙ sym (cond-true (eqb tap.source input) x (get_or now (present_place lines tap.source) d) (eq-eqb tap.source input outside)))
      (λ (node : tap.source ≡ input → ⊥).
      ap (λ b. register_value x now d (cond b None (Some (register_at n lines tap.source 0)))) (ne_eqb tap.source input node)
      ∙ sym (cond-false (eqb tap.source input) x (get_or now (present_place lines tap.source) d) (ne_eqb tap.source input node)))
      (cases_eq tap.source input)
  wire_hears tap s short (suc p) e =
      ap (λ b. register_value x now d (cond (b && eqb tap.source input) None (Some (register_at n lines tap.source (suc p))))) (ne_eqb (suc p) 0 (λ z. omega arith))
      ∙ so_far.lines (line_place n lines tap.source p) (line_inside t range tap.source p s (omega (arith, e)))

  wire_operands : (taps : List Tap) → All (λ tap. is_source n tap.source ≡ true) taps → All (λ tap. tap.delay ≤ line_long n lines tap.source) taps →
      map (wire_operand x now d) (map (wire_of n lines) taps) ≡ map (operand (hears old.line (registers_in n lines now d).present x)) taps
  wire_operands taps sources short =
      map-map taps
      ∙ map_alike_by (λ tap. wire_operand x now d (wire_of n lines tap)) (operand (hears old.line (registers_in n lines now d).present x)) (λ tap. is_source n tap.source ≡ true) (λ tap. tap.delay ≤ line_long n lines tap.source)
      (λ tap s l. ap (λ v. (tap.source, v)) (wire_hears tap s l tap.delay refl)) taps sources short
    where
      map-map : (ts : List Tap) → map (wire_operand x now d) (map (wire_of n lines) ts) ≡ map (λ tap. wire_operand x now d (wire_of n lines tap)) ts
      map-map [] = refl
      map-map (tap ∷ ts) = λ j. wire_operand x now d (wire_of n lines tap) ∷ map-map ts j

  module _ (v : E) (room : needed n lines ≤ length now)
      (value : v ≡ applied m cell.operation (map (wire_operand x now d) (map (wire_of n lines) cell.taps.items))) (late : cell.lag ≤ cycle) where
    abbrev next : List E
    next = set now (present_place lines i) v

    -- a present value of another node
    other_present : (j : ℕ) → (j ≡ i → ⊥) → get_or next (present_place lines j) d ≡ get_or now (present_place lines j) d
    other_present j other = get_or-set_other now (present_place lines i) (present_place lines j) v d (λ e. other (omega (arith, e)))

    -- nodes that have fired, and the cell itself, hear what they heard
    hears_still : (j : ℕ) → j < n → rank_in t j ≤ k → heard_by (array_in t) m x old (registers_in n lines now d) j ≡ heard_by (array_in t) m x old (registers_in n lines next d) j
    hears_still j lj r =
        ap (applied m (cell_of t j).operation)
        (map_alike_by (operand (hears old.line (registers_in n lines now d).present x)) (operand (hears old.line (registers_in n lines next d).present x)) (Earlier (array_in t) (rank_in t) j)
        (λ tap. tap.delay ≤ line_long n lines tap.source) (λ tap earlier short. ap (λ e. (tap.source, e)) (by tap earlier tap.delay refl)) (cell_of t j).taps.items (ordered.taps j lj) (reached.taps j lj))
      where
        by : (tap : Tap) → Earlier (array_in t) (rank_in t) j tap → (delay : ℕ) → tap.delay ≡ delay →
            hears old.line (registers_in n lines now d).present x tap.source delay ≡ hears old.line (registers_in n lines next d).present x tap.source delay
        by tap earlier (suc p) e = refl
        by tap earlier zero e =
            ⊎_elim
            (λ (outside : tap.source ≡ input).
            cond-true (eqb tap.source input) x (get_or now (present_place lines tap.source) d) (eq-eqb tap.source input outside)
            ∙ sym (cond-true (eqb tap.source input) x (get_or next (present_place lines tap.source) d) (eq-eqb tap.source input outside)))
            (λ (node : tap.source ≡ input → ⊥).
            let low = source_node n tap.source earlier.0 node in
            let before-it = earlier.1 low e in
            ap (cond (eqb tap.source input) x) (sym (other_present tap.source (λ same. omega (arith, before-it, r, rank, ap (rank_in t) same)))))
            (cases_eq tap.source input)

    value_is : v ≡ heard_by (array_in t) m x old (registers_in n lines now d) i
    value_is =
        value
        ∙ ap (applied m cell.operation) (wire_operands cell.taps.items (λ a b c. ((range.ranges k no_cell (omega (arith, below, range.cells))).taps a b c).source)
        (subst (λ c. All (λ tap. tap.delay ≤ line_long n lines tap.source) c.taps.items) same_cell (reached.taps i node_low)))
        ∙ ap (λ c. applied m c.operation (map (operand (hears old.line (registers_in n lines now d).present x)) c.taps.items)) (sym same_cell)

    inside : present_place lines i < length now
    inside = omega (arith, room, node_low)

    -- the cell computes
    pub cell_fired : CellsFired t m cycle x d before next (k + 1)
    cell_fired =
        record {
          lines = λ q l. get_or-set_other now (present_place lines i) q v d (λ e. omega (arith, e, l)) ∙ so_far.lines q l;
          past = drop-set-lt (needed n lines) now (present_place lines i) v (omega (arith, node_low)) ∙ so_far.past;
          fired = λ j lj r.
              ⊎_elim
              (λ (last : rank_in t j ≡ k).
              let same = node_of_rank t range j lj k last in
              ap (λ q. get_or next (present_place lines q) d) (sym same) ∙ get_or-set_same now (present_place lines i) v d inside ∙ value_is ∙ hears_still i node_low (omega (arith, rank))
              ∙ ap (heard_by (array_in t) m x old (registers_in n lines next d)) same
              ∙ sym (cond-false (ltb cycle ((array_in t).lag j)) (get_or before (present_place lines j) d) (heard_by (array_in t) m x old (registers_in n lines next d) j) (le-ltb cycle ((array_in t).lag j) (omega (arith, late, ap (λ r. (get_or t.cells.items r no_cell).lag) last)))))
              (λ (other : rank_in t j ≡ k → ⊥).
              other_present j (λ same. other (ap (rank_in t) same ∙ rank))
              ∙ so_far.fired j lj (omega (arith, other))
              ∙ ap (cond (ltb cycle ((array_in t).lag j)) (get_or before (present_place lines j) d)) (hears_still j lj (omega arith)))
              (cases_eq (rank_in t j) k);
          held = λ j lj r. other_present j (λ same. omega (arith, r, rank, ap (rank_in t) same)) ∙ so_far.held j lj (omega arith);
        }
