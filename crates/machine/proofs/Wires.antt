-- The cells of a program and their taps in one row, a cell at a time.
use Rattle.std.proofs.Common.{◌≡◌, ℕ, ◌+◌, ◌*◌, ◌<◌, ◌≤◌, List, [], ◌∷◌, ◌++◌, map, length, get_or, take, sym, ap, ◌∙◌, arith}
use Rattle.std.specs.List.{All, flat_map, range_with_len}
use Rattle.std.proofs.lemmas.List.{take_more, length-take-le, length-map, append-nil, get_or_default}
use Rattle.std.proofs.lemmas.List.Concat.{flat_map-append, length-flat_map}
use Rattle.std.proofs.lemmas.List.Elements.{All-take}
use Rattle.std.proofs.lemmas.List.Sums.{sum_by-le}
use Rattle.std.proofs.lemmas.List.FromFn.{map-range_with_len_more}
use Rattle.words.specs.declared.program_table.Cell.{Cell}
use Rattle.words.specs.declared.program_table.ProgramTable.{ProgramTable}
use Rattle.words.specs.ProgramDrafts.{no_cell}
use Rattle.words.specs.ProgramTables.{ProgramInRange}
use Rattle.words.proofs.ProgramEncodings.{cell_taps_few}
use Rattle.machine.specs.declared.wiring.WiredCell.{WiredCell}
use Rattle.machine.specs.Steps.{present_place}
use Rattle.machine.specs.Wirings.{wire_of, wires_of, wired_cell}

-- a program's taps have room
pub wires_few : (p : ProgramTable) → ProgramInRange p → (k : ℕ) → k ≤ length p.cells.items → length (wires_of p.count p.lines.items (take k p.cells.items)) ≤ k * 33
wires_few p range k l =
    let cells = take k p.cells.items in
    let wires = λ (c : Cell). map (wire_of p.count p.lines.items) c.taps.items in
    let few : All (λ c. length (wires c) ≤ 33) cells =
    All-take (λ c. length (wires c) ≤ 33) k p.cells.items (λ i d li. omega (arith, length-map (get_or p.cells.items i d).taps.items (wire_of p.count p.lines.items), cell_taps_few p.count range.few (get_or p.cells.items i d) (range.ranges i d li))) in
    let most = sum_by-le (λ c. length (wires c)) 33 cells few in
    omega (arith, length-flat_map wires cells, length-take-le k p.cells.items l)

module _ (n : ℕ) (lines : List ℕ) (cells : List Cell) (k : ℕ) (l : k < length cells) where
  -- with the taps of one cell more
  pub wires_more : (cell : Cell) → cell ≡ get_or cells k cell → wires_of n lines (take (k + 1) cells) ≡ wires_of n lines (take k cells) ++ map (wire_of n lines) cell.taps.items
  wires_more cell is =
      let wires = λ (c : Cell). map (wire_of n lines) c.taps.items in
      ap (flat_map wires) (take_more cells k cell l) ∙ flat_map-append wires (take k cells) (get_or cells k cell ∷ [])
      ∙ ap (λ ws. wires_of n lines (take k cells) ++ ws) (append-nil (wires (get_or cells k cell)) ∙ ap wires (sym is))

  -- one cell more
  pub cells_more : (so_far : List WiredCell) (cell : Cell) (present first end : ℕ) → so_far ≡ map (wired_cell n lines cells) (range_with_len 0 k) → cell ≡ get_or cells k cell →
      present ≡ present_place lines cell.node → first ≡ length (wires_of n lines (take k cells)) → end ≡ length (wires_of n lines (take (k + 1) cells)) →
      so_far ++ record { present = present; operation = cell.operation; lag = cell.lag; first = first; end = end } ∷ [] ≡ map (wired_cell n lines cells) (range_with_len 0 (k + 1))
  cells_more so_far cell present first end before is at begin stop =
      let same : cell ≡ get_or cells k no_cell = is ∙ get_or_default cells k cell no_cell l in
      ap (λ xs. xs ++ record { present = present; operation = cell.operation; lag = cell.lag; first = first; end = end } ∷ []) before
      ∙ (λ i.
      map (wired_cell n lines cells) (range_with_len 0 k)
      ++ record {
        present = (at ∙ ap (λ (c : Cell). present_place lines c.node) same) i;
        operation = ap (λ (c : Cell). c.operation) same i;
        lag = ap (λ (c : Cell). c.lag) same i;
        first = begin i;
        end = stop i;
      } ∷ [])
      ∙ sym (map-range_with_len_more (wired_cell n lines cells) 0 k k (omega arith))
