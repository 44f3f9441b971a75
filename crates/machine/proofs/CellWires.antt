-- A cell of a wiring, and its wires.
use Rattle.std.proofs.Common.{◌≡◌, ℕ, zero, suc, ◌+◌, ◌-◌, ◌<◌, ◌≤◌, true, cond, ◌&&◌, eqb, List, ◌++◌, map, length, get_or, take, drop, Some, None, IfSome, sym, refl, ap, ◌∙◌, subst, ⊎_elim, append_assoc, arith}
use Rattle.std.specs.List.{All, slice_range}
use Rattle.std.proofs.lemmas.List.{take-append-drop, length-append, take_at, drop_at, get_or_default}
use Rattle.std.proofs.lemmas.List.Concat.{flat_map-append}
use Rattle.std.proofs.lemmas.List.Elements.{All-map}
use Rattle.std.proofs.lemmas.List.FromFn.{get_or-map-range_with_len, length-map-range_with_len}
use Rattle.std.proofs.lemmas.Bool.{cases_eq, eq-eqb, ne_eqb}
use Rattle.words.specs.declared.program_table.Tap.{Tap}
use Rattle.words.specs.declared.program_table.Cell.{Cell}
use Rattle.words.specs.declared.program_table.ProgramTable.{ProgramTable}
use Rattle.words.specs.Designs.{input, is_source}
use Rattle.words.specs.ProgramDrafts.{no_cell}
use Rattle.words.specs.ProgramTables.{ProgramInRange}
use Rattle.machine.specs.declared.wiring.Wire.{Wire}
use Rattle.machine.specs.declared.wiring.WiredCell.{WiredCell}
use Rattle.machine.specs.Reading.{WireInRow}
use Rattle.machine.specs.Steps.{line_long, needed}
use Rattle.machine.specs.Wirings.{register_at, wire_of, wires_of, wired_cell, wiring_of}
use Rattle.machine.proofs.CellsFiring.{line_inside}
use Rattle.machine.proofs.Histories.{source_node, node_source}
use Rattle.machine.proofs.Wires.{wires_more}

module _ (t : ProgramTable) (range : ProgramInRange t) (k : ℕ) (below : k < t.count) where
  abbrev n : ℕ
  n = t.count

  abbrev lines : List ℕ
  lines = t.lines.items

  abbrev cells : List Cell
  cells = t.cells.items

  abbrev cell : Cell
  cell = get_or cells k no_cell

  abbrev taps : List Wire
  taps = map (wire_of n lines) cell.taps.items

  inside : k < length cells
  inside = omega (arith, range.cells)

  pub cell_wired : (d : WiredCell) → get_or (wiring_of t).cells.items k d ≡ wired_cell n lines cells k
  unfolding wiring_of
  cell_wired d = get_or-map-range_with_len (wired_cell n lines cells) 0 (length cells) k k d inside (omega arith)

  before : List Wire
  before = wires_of n lines (take k cells)

  up_to : wires_of n lines (take (k + 1) cells) ≡ wires_of n lines (take k cells) ++ taps
  up_to = wires_more n lines cells k inside cell (get_or_default cells k no_cell cell inside)

  pub first_end : length (wires_of n lines (take (k + 1) cells)) ≡ length (wires_of n lines (take k cells)) + length taps
  first_end = ap length up_to ∙ length-append (wires_of n lines (take k cells)) taps

  whole : wires_of n lines cells ≡ wires_of n lines (take k cells) ++ (taps ++ wires_of n lines (drop (k + 1) cells))
  whole =
      ap (wires_of n lines) (sym (take-append-drop (k + 1) cells)) ∙ flat_map-append (λ (c : Cell). map (wire_of n lines) c.taps.items) (take (k + 1) cells) (drop (k + 1) cells)
      ∙ ap (λ ws. ws ++ wires_of n lines (drop (k + 1) cells)) up_to ∙ append_assoc (wires_of n lines (take k cells)) taps (wires_of n lines (drop (k + 1) cells))

  pub wires_low : length (wires_of n lines (take (k + 1) cells)) ≤ length (wiring_of t).wires.items
  unfolding wiring_of
  wires_low = omega (arith, first_end, ap length whole, length-append (wires_of n lines (take k cells)) (taps ++ wires_of n lines (drop (k + 1) cells)), length-append taps (wires_of n lines (drop (k + 1) cells)))

  pub wires_are : (ws : List Wire) (first end : ℕ) → ws ≡ (wiring_of t).wires.items → first ≡ length (wires_of n lines (take k cells)) → end ≡ length (wires_of n lines (take (k + 1) cells)) → slice_range ws first end ≡ taps
  unfolding wiring_of
  wires_are ws first end is at to =
      (λ i. slice_range ((is ∙ whole) i) (at i) ((to ∙ first_end) i))
      ∙ ap (λ m. take m (drop (length (wires_of n lines (take k cells))) (wires_of n lines (take k cells) ++ (taps ++ wires_of n lines (drop (k + 1) cells)))))
      {x = length (wires_of n lines (take k cells)) + length taps - length (wires_of n lines (take k cells))} {y = length taps} (omega arith)
      ∙ ap (take (length taps)) (drop_at (wires_of n lines (take k cells)) (taps ++ wires_of n lines (drop (k + 1) cells)) (length (wires_of n lines (take k cells))) refl)
      ∙ take_at taps (wires_of n lines (drop (k + 1) cells)) (length taps) refl

  module _ (long : ℕ) (room : needed n lines ≤ long) where
    register_in_row : (tap : Tap) → is_source n tap.source ≡ true → tap.delay ≤ line_long n lines tap.source → (delay : ℕ) → tap.delay ≡ delay →
        IfSome (cond (eqb delay 0 && eqb tap.source input) None (Some (register_at n lines tap.source delay))) (λ r. r < long)
    register_in_row tap s short zero e =
        ⊎_elim
        (λ (outside : tap.source ≡ input).
        subst (λ b. IfSome (cond b None (Some (register_at n lines tap.source 0))) (λ r. r < long)) (sym (eq-eqb tap.source input outside)) tt)
        (λ (node : tap.source ≡ input → ⊥).
        subst (λ b. IfSome (cond b None (Some (register_at n lines tap.source 0))) (λ r. r < long)) (sym (ne_eqb tap.source input node)) (omega (arith, room, source_node n tap.source s node)))
        (cases_eq tap.source input)
    register_in_row tap s short (suc p) e =
        subst (λ b. IfSome (cond (b && eqb tap.source input) None (Some (register_at n lines tap.source (suc p)))) (λ r. r < long)) (sym (ne_eqb (suc p) 0 (λ z. omega arith)))
        (omega (arith, room, line_inside t range tap.source p s (omega (arith, e))))

    source_low : (j : ℕ) → is_source n j ≡ true → j ≤ 32
    source_low j s = ⊎_elim (λ (e : j ≡ input). omega arith) (λ (other : j ≡ input → ⊥). omega (arith, range.few, source_node n j s other)) (cases_eq j input)

    pub wires_in_row : All (λ tap. tap.delay ≤ line_long n lines tap.source) cell.taps.items → All (WireInRow long) taps
    wires_in_row reached =
        All-map (WireInRow long) (wire_of n lines) cell.taps.items
        (λ q d l.
        let tap = get_or cell.taps.items q d in
        let s = ((range.ranges k no_cell inside).taps q d l).source in
        record { source = source_low tap.source s; register = register_in_row tap s (reached q d l) tap.delay refl })

-- how many cells there are
pub cells_count : (t : ProgramTable) → ProgramInRange t → length (wiring_of t).cells.items ≡ t.count
unfolding wiring_of
cells_count t range = length-map-range_with_len (wired_cell t.count t.lines.items t.cells.items) 0 (length t.cells.items) ∙ range.cells

-- the register that the output is read from
pub output_register : (t : ProgramTable) → (wiring_of t).output ≡ register_at t.count t.lines.items t.output.source t.output.delay
unfolding wiring_of
output_register t = refl

pub output_low : (t : ProgramTable) → ProgramInRange t → t.output.delay ≤ line_long t.count t.lines.items t.output.source → register_at t.count t.lines.items t.output.source t.output.delay < needed t.count t.lines.items
output_low t range short = by t.output.delay refl
  where
    by : (delay : ℕ) → t.output.delay ≡ delay → register_at t.count t.lines.items t.output.source delay < needed t.count t.lines.items
    by zero e = omega (arith, range.output_node)
    by (suc p) e = omega (arith, line_inside t range t.output.source p (node_source t.count t.output.source range.output_node) (omega (arith, e, short)))
