-- The words of a program: what is seen of each, and where it stands.
use Rattle.std.proofs.Common.{◌≡◌, ℕ, suc, ◌+◌, ◌*◌, ◌^◌, ◌<◌, ◌≤◌, false, cond, List, [], ◌∷◌, ◌++◌, map, filter, length, Some, refl, ap, ◌∙◌, arith}
use Rattle.std.specs.List.{All}
use Rattle.std.proofs.lemmas.List.{map-append}
use Rattle.std.proofs.lemmas.List.Elements.{filter-append, All-head, All-tail}
use Rattle.words.specs.declared.kinds.ProgramKind.{ProgramKind}
use Rattle.words.specs.declared.kinds.ProgramKind.TheVariants as kind
use Rattle.words.specs.declared.program_table.Tap.{Tap}
use Rattle.words.specs.declared.program_table.Cell.{Cell}
use Rattle.words.specs.Fields.{field}
use Rattle.words.specs.ProgramKinds.{program_kind_of, is_cell}
use Rattle.words.specs.Programs.{array_word, line_word, cell_word, tap_word, array_output_word}
use Rattle.words.specs.ProgramEncoding.{line_source, line_words, tap_words}
use Rattle.words.specs.ProgramQuestions.{cells_in}
use Rattle.words.specs.ProgramTables.{TapInRange, CellInRange}
use Rattle.words.proofs.Sources.{source_place}
use Rattle.words.proofs.ProgramEncodings.{line_heard}
use Rattle.words.proofs.ProgramWholes.{program_kind_made, cell_node}
use Rattle.machine.specs.Loading.{place_of, number_of}

-- a line, a tap and the output, from their fields
module _ (place number : ℕ) (p : place < 64) (n : number < 4096) where
  pub line_kind : program_kind_of (line_word place number) ≡ Some kind.Line
  line_kind = program_kind_made (Some kind.Line) (number * 2 ^ 6 + place) (omega arith)

  pub tap_kind : program_kind_of (tap_word place number) ≡ Some kind.Tap
  tap_kind = program_kind_made (Some kind.Tap) (number * 2 ^ 6 + place) (omega arith)

  pub output_kind : program_kind_of (array_output_word place number) ≡ Some kind.Output
  output_kind = program_kind_made (Some kind.Output) (number * 2 ^ 6 + place) (omega arith)

  pub line_place : place_of (line_word place number) ≡ place
  line_place = omega arith

  pub line_number : number_of (line_word place number) ≡ number
  line_number = omega arith

  pub tap_place : place_of (tap_word place number) ≡ place
  tap_place = omega arith

  pub tap_number : number_of (tap_word place number) ≡ number
  tap_number = omega arith

  pub output_place : place_of (array_output_word place number) ≡ place
  output_place = omega arith

  pub output_number : number_of (array_output_word place number) ≡ number
  output_number = omega arith

pub cell_kind : (node operation lag : ℕ) → node < 32 → operation < 256 → lag < 4096 → program_kind_of (cell_word node operation lag) ≡ Some kind.Cell
cell_kind node operation lag n o l = program_kind_made (Some kind.Cell) (lag * 2 ^ 13 + operation * 2 ^ 5 + node) (omega arith)

-- the cells among words, one part after the other
pub cells_join : (xs ys : List ℕ) → cells_in (xs ++ ys) ≡ cells_in xs ++ cells_in ys
unfolding cells_in
cells_join xs ys =
    let of_cell = λ (w : ℕ). is_cell (program_kind_of w) in
    ap (map (field 0 5)) (filter-append of_cell xs ys) ∙ map-append (field 0 5) (filter of_cell xs) (filter of_cell ys)

pub cells_nil : cells_in [] ≡ []
unfolding cells_in
cells_nil = refl

cells_of_kind : (w : ℕ) (k : ProgramKind) → program_kind_of w ≡ Some k → is_cell (Some k) ≡ false → cells_in (w ∷ []) ≡ []
unfolding cells_in
cells_of_kind w k e other = ap (λ b. map (field 0 5) (cond b (w ∷ []) [])) (ap is_cell e ∙ other)

-- a cell's word names its node
pub cells_of_cell : (n : ℕ) → n ≤ 32 → (c : Cell) → CellInRange n c → cells_in (cell_word c.node c.operation c.lag ∷ []) ≡ c.node ∷ []
unfolding cells_in
cells_of_cell n few c r =
    let w = cell_word c.node c.operation c.lag in
    ap (λ b. map (field 0 5) (cond b (w ∷ []) [])) (ap is_cell (cell_kind c.node c.operation c.lag (omega (arith, r.node)) r.operation (omega (arith, r.lag))))
    ∙ ap (λ j. j ∷ []) (cell_node c.node c.operation c.lag (omega (arith, r.node)) r.operation (omega (arith, r.lag)))

-- taps name none
pub cells_of_taps : (n : ℕ) → n ≤ 32 → (ts : List Tap) → All (TapInRange n) ts → cells_in (tap_words ts) ≡ []
cells_of_taps n few [] each = cells_nil
cells_of_taps n few (t ∷ ts) each =
    let r = All-head (TapInRange n) t ts each in
    cells_join (tap_word t.source t.delay ∷ []) (tap_words ts)
    ∙ (λ i.
    cells_of_kind (tap_word t.source t.delay) kind.Tap (tap_kind t.source t.delay (omega (arith, source_place n t.source few r.source)) (omega (arith, r.delay))) refl i
    ++ cells_of_taps n few ts (All-tail (TapInRange n) t ts each) i)

-- nor do lines or the head
pub cells_of_lines : (n k : ℕ) (ls : List ℕ) → n ≤ 32 → k + length ls ≤ n + 1 → All (λ l. l ≤ 4095) ls → cells_in (line_words n k ls) ≡ []
unfolding line_words
cells_of_lines n k [] few fits each = cells_nil
cells_of_lines n k (l ∷ ls) few fits each =
    let small : line_source n k < 33 = source_place n (line_source n k) few (line_heard n k (omega arith)) in
    cells_join (line_word (line_source n k) l ∷ []) (line_words n (suc k) ls)
    ∙ (λ i.
    cells_of_kind (line_word (line_source n k) l) kind.Line (line_kind (line_source n k) l (omega arith) (omega (arith, All-head (λ m. m ≤ 4095) l ls each))) refl i
    ++ cells_of_lines n (suc k) ls few (omega arith) (All-tail (λ m. m ≤ 4095) l ls each) i)

pub cells_of_head : (n factor : ℕ) → n ≤ 32 → factor ≤ 64 → cells_in (array_word n factor ∷ []) ≡ []
cells_of_head n factor few slow = cells_of_kind (array_word n factor) kind.Head (program_kind_made (Some kind.Head) (factor * 2 ^ 6 + n) (omega arith)) refl
