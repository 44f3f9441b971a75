-- Question 15 of a program's words is that of its table.
use Rattle.std.proofs.Common.{◌≡◌, ℕ, suc, ◌+◌, ◌-◌, ◌*◌, ◌^◌, ◌<◌, ◌≤◌, Bool, true, false, not, ◌&&◌, ◌||◌, eqb, List, [], ◌∷◌, ◌++◌, map, filter, length, get_or, take, Some, None, is_some, cond, sym, refl, ap, ap₂, ◌∙◌, subst, append_assoc, append-nil, arith}
use Rattle.std.specs.List.{All}
use Rattle.std.proofs.lemmas.List.{map-append, take-append-le, take_all, length_push}
use Rattle.std.proofs.lemmas.List.Elements.{filter-append, All-head, All-tail, All-cons}
use Rattle.std.proofs.lemmas.Bool.{true≢false, cond-true}
use Rattle.words.specs.declared.kinds.ProgramKind.TheVariants as kind
use Rattle.words.specs.declared.program_table.Tap.{Tap}
use Rattle.words.specs.declared.program_table.Cell.{Cell}
use Rattle.words.specs.declared.program_table.ProgramTable.{ProgramTable}
use Rattle.words.specs.Designs.{input, max_nodes}
use Rattle.words.specs.Fields.{field}
use Rattle.words.specs.Programs.{array_word, line_word, cell_word, tap_word, array_output_word, array_end_word}
use Rattle.words.specs.ProgramKinds.{program_kind_of, is_cell, is_tap}
use Rattle.words.specs.ProgramTables.{TapInRange, CellInRange, ProgramInRange, max_delay}
use Rattle.words.specs.ProgramEncoding.{line_source, line_words, tap_words, cell_words, program_front, program_body, encoded_program}
use Rattle.words.specs.ProgramQuestions.{cells_in}
use Rattle.words.proofs.Wholes.{low_field, high_field}
use Rattle.words.proofs.ProgramWholes.{program_kind_made, cell_node}
use Rattle.words.proofs.Sources.{source_place}
use Rattle.words.proofs.ProgramEncodings.{line_heard, program_few}
use Rattle.bench.specs.Firing.{has}
use Rattle.bench.proofs.Searches.{first_none, first_all}
use Rattle.machine.specs.Loading.{place_of, number_of, earlier_in, can_hear, is_late_tap, tap_fault_in, tap_fault}
use Rattle.machine.specs.Refusals.{late_cell}
use Rattle.machine.specs.Fitting.{tap_hears, Fireable}
use Rattle.machine.proofs.Along.{Along, along_join, along_first, along_rest, along_at, along_all}

-- no tap that is too early
abbrev Fine : List ℕ → ℕ → Type 0
Fine before w = is_late_tap before w ≡ false

-- the words of a program in range
module _ (n : ℕ) (few : n ≤ max_nodes) where
  module _ (tap : Tap) (r : TapInRange n tap) where
    place : tap.source < 64
    place = omega (arith, source_place n tap.source few r.source)

    pub tap_kind : program_kind_of (tap_word tap.source tap.delay) ≡ Some kind.Tap
    tap_kind = program_kind_made (Some kind.Tap) (tap.delay * 2 ^ 6 + tap.source) (omega (arith, place, r.delay))

    pub tap_place : place_of (tap_word tap.source tap.delay) ≡ tap.source
    tap_place = low_field 6 12 10 11 tap.source tap.delay refl place (omega (arith, r.delay))

    pub tap_number : number_of (tap_word tap.source tap.delay) ≡ tap.delay
    tap_number = high_field 6 12 10 11 tap.source tap.delay refl place (omega (arith, r.delay))

  pub cell_kind : (c : Cell) → CellInRange n c → program_kind_of (cell_word c.node c.operation c.lag) ≡ Some kind.Cell
  cell_kind c r = program_kind_made (Some kind.Cell) (c.lag * 2 ^ 13 + c.operation * 2 ^ 5 + c.node) (omega (arith, few, r.node, r.operation, r.lag))

  pub line_kind : (k l : ℕ) → k ≤ n → l ≤ max_delay → program_kind_of (line_word (line_source n k) l) ≡ Some kind.Line
  line_kind k l below short = program_kind_made (Some kind.Line) (l * 2 ^ 6 + line_source n k) (omega (arith, source_place n (line_source n k) few (line_heard n k below)))

-- cells named by words, one list after another
pub cells_join : (xs ys : List ℕ) → cells_in (xs ++ ys) ≡ cells_in xs ++ cells_in ys
unfolding cells_in
cells_join xs ys = ap (map (field 0 5)) (filter-append (λ w. is_cell (program_kind_of w)) xs ys) ∙ map-append (field 0 5) (filter (λ w. is_cell (program_kind_of w)) xs) (filter (λ w. is_cell (program_kind_of w)) ys)

cells_one : (w : ℕ) → is_cell (program_kind_of w) ≡ true → cells_in (w ∷ []) ≡ field 0 5 w ∷ []
unfolding cells_in
cells_one w is = ap (map (field 0 5)) (cond-true (is_cell (program_kind_of w)) (w ∷ []) [] is)

cells_other : (w : ℕ) → is_cell (program_kind_of w) ≡ false → cells_in (w ∷ []) ≡ []
unfolding cells_in
cells_other w is = ap (λ b. map (field 0 5) (cond b (w ∷ []) [])) is

cells_same : (before : List ℕ) (w : ℕ) → is_cell (program_kind_of w) ≡ false → cells_in (before ++ w ∷ []) ≡ cells_in before
cells_same before w is = cells_join before (w ∷ []) ∙ ap (λ l. cells_in before ++ l) (cells_other w is) ∙ append-nil (cells_in before)

cells_more : (before : List ℕ) (w : ℕ) → is_cell (program_kind_of w) ≡ true → cells_in (before ++ w ∷ []) ≡ cells_in before ++ field 0 5 w ∷ []
cells_more before w is = cells_join before (w ∷ []) ∙ ap (λ l. cells_in before ++ l) (cells_one w is)

earlier_same : (before : List ℕ) (w : ℕ) → is_cell (program_kind_of w) ≡ false → earlier_in (before ++ w ∷ []) ≡ earlier_in before
earlier_same before w is = ap (λ cells. take (length cells - 1) cells) (cells_same before w is)

earlier_more : (before : List ℕ) (w : ℕ) → is_cell (program_kind_of w) ≡ true → earlier_in (before ++ w ∷ []) ≡ cells_in before
earlier_more before w is =
    let xs = cells_in before in
    let new : List ℕ = field 0 5 w ∷ [] in
    ap (λ cells. take (length cells - 1) cells) (cells_more before w is)
    ∙ ap (λ k. take k (xs ++ new)) {x = length (xs ++ new) - 1} {y = length xs} (omega (arith, length_push xs (field 0 5 w)))
    ∙ take-append-le (length xs) xs new (omega arith) ∙ take_all (length xs) xs (omega arith)

-- a word that is no tap is no late one
plain : (before : List ℕ) (w : ℕ) → is_tap (program_kind_of w) ≡ false → Fine before w
plain before w is = ap (λ b. b && not (can_hear (earlier_in before) w)) is

heard_false : (b : Bool) → not b ≡ false → b ≡ true
heard_false true e = refl
heard_false false e = absurd (true≢false e)

module _ (n : ℕ) (few : n ≤ max_nodes) where
  module _ (fired before : List ℕ) (earlier : earlier_in before ≡ fired) (tap : Tap) (r : TapInRange n tap) where
    asks : is_late_tap before (tap_word tap.source tap.delay) ≡ not (tap_hears fired tap)
    asks =
        ap (λ k. is_tap k && not (can_hear (earlier_in before) (tap_word tap.source tap.delay))) (tap_kind n few tap r)
        ∙ ap (λ f. not (can_hear f (tap_word tap.source tap.delay))) earlier
        ∙ ap₂ (λ d j. not (not (eqb d 0) || (eqb j input || has fired j))) (tap_number n few tap r) (tap_place n few tap r)

  tap_same : (before : List ℕ) (tap : Tap) → TapInRange n tap → earlier_in (before ++ tap_word tap.source tap.delay ∷ []) ≡ earlier_in before
  tap_same before tap r = earlier_same before (tap_word tap.source tap.delay) (ap is_cell (tap_kind n few tap r))

  tap_names : (before : List ℕ) (taps : List Tap) → All (TapInRange n) taps → cells_in (before ++ tap_words taps) ≡ cells_in before
  tap_names before [] r = ap cells_in (append-nil before)
  tap_names before (tap ∷ taps) r =
      ap cells_in (sym (append_assoc before (tap_word tap.source tap.delay ∷ []) (tap_words taps)))
      ∙ tap_names (before ++ tap_word tap.source tap.delay ∷ []) taps (All-tail (TapInRange n) tap taps r)
      ∙ cells_same before (tap_word tap.source tap.delay) (ap is_cell (tap_kind n few tap (All-head (TapInRange n) tap taps r)))

  taps_fine : (fired : List ℕ) (taps : List Tap) → All (TapInRange n) taps → (before : List ℕ) → earlier_in before ≡ fired →
      All (λ tap. tap_hears fired tap ≡ true) taps → Along Fine before (tap_words taps)
  taps_fine fired [] r before e h = tt
  taps_fine fired (tap ∷ taps) r before e h =
      let range = All-head (TapInRange n) tap taps r in (
        asks fired before e tap range ∙ ap not (All-head (λ t. tap_hears fired t ≡ true) tap taps h),
        taps_fine fired taps (All-tail (TapInRange n) tap taps r) (before ++ tap_word tap.source tap.delay ∷ []) (tap_same before tap range ∙ e)
            (All-tail (λ t. tap_hears fired t ≡ true) tap taps h),
      )

  taps_heard : (fired : List ℕ) (taps : List Tap) → All (TapInRange n) taps → (before : List ℕ) → earlier_in before ≡ fired →
      Along Fine before (tap_words taps) → All (λ tap. tap_hears fired tap ≡ true) taps
  taps_heard fired [] r before e fine = λ k d l. absurd (omega arith)
  taps_heard fired (tap ∷ taps) r before e fine =
      let range = All-head (TapInRange n) tap taps r in
      All-cons (λ t. tap_hears fired t ≡ true) tap taps (heard_false (tap_hears fired tap) (sym (asks fired before e tap range) ∙ fine.0))
      (taps_heard fired taps (All-tail (TapInRange n) tap taps r) (before ++ tap_word tap.source tap.delay ∷ []) (tap_same before tap range ∙ e) fine.1)

  module _ (before : List ℕ) (c : Cell) (r : CellInRange n c) where
    abbrev cell : ℕ
    cell = cell_word c.node c.operation c.lag

    named : cells_in (before ++ cell ∷ []) ≡ cells_in before ++ c.node ∷ []
    named = cells_more before cell (ap is_cell (cell_kind n few c r)) ∙ ap (λ i. cells_in before ++ i ∷ []) (cell_node c.node c.operation c.lag (omega (arith, few, r.node)) r.operation (omega (arith, r.lag)))

    before_cell : earlier_in (before ++ cell ∷ []) ≡ cells_in before
    before_cell = earlier_more before cell (ap is_cell (cell_kind n few c r))

  pub cells_fine : (cs : List Cell) → All (CellInRange n) cs → (before : List ℕ) → Fireable (cells_in before) cs → Along Fine before (cell_words cs)
  unfolding cell_words
  cells_fine [] r before f = tt
  cells_fine (c ∷ cs) r before f =
      let range = All-head (CellInRange n) c cs r in
      let at : List ℕ = before ++ cell before c range ∷ [] in (
        plain before (cell before c range) (ap is_tap (cell_kind n few c range)),
        along_join Fine at (tap_words c.taps.items) (cell_words cs) (taps_fine (cells_in before) c.taps.items range.taps at (before_cell before c range) f.0)
            (cells_fine cs (All-tail (CellInRange n) c cs r) (at ++ tap_words c.taps.items)
            (subst (λ l. Fireable l cs) (sym (tap_names at c.taps.items range.taps ∙ named before c range)) f.1)),
      )

  pub cells_fireable : (cs : List Cell) → All (CellInRange n) cs → (before : List ℕ) → Along Fine before (cell_words cs) → Fireable (cells_in before) cs
  unfolding cell_words
  cells_fireable [] r before fine = tt
  cells_fireable (c ∷ cs) r before fine =
      let range = All-head (CellInRange n) c cs r in
      let at : List ℕ = before ++ cell before c range ∷ [] in (
        taps_heard (cells_in before) c.taps.items range.taps at (before_cell before c range) (along_first Fine at (tap_words c.taps.items) (cell_words cs) fine.1),
        subst (λ l. Fireable l cs) (tap_names at c.taps.items range.taps ∙ named before c range)
            (cells_fireable cs (All-tail (CellInRange n) c cs r) (at ++ tap_words c.taps.items) (along_rest Fine at (tap_words c.taps.items) (cell_words cs) fine.1)),
      )

  lines_fine : (ls : List ℕ) (k : ℕ) → k + length ls ≤ n + 1 → All (λ l. l ≤ max_delay) ls → (before : List ℕ) → Along Fine before (line_words n k ls)
  unfolding line_words
  lines_fine [] k room short before = tt
  lines_fine (l ∷ ls) k room short before =
      (plain before (line_word (line_source n k) l) (ap is_tap (line_kind n few k l (omega arith) (All-head (λ m. m ≤ max_delay) l ls short))), lines_fine ls (suc k) (omega arith) (All-tail (λ m. m ≤ max_delay) l ls short) (before ++ line_word (line_source n k) l ∷ []))

  lines_name : (ls : List ℕ) (k : ℕ) → k + length ls ≤ n + 1 → All (λ l. l ≤ max_delay) ls → (before : List ℕ) → cells_in (before ++ line_words n k ls) ≡ cells_in before
  unfolding line_words
  lines_name [] k room short before = ap cells_in (append-nil before)
  lines_name (l ∷ ls) k room short before =
      ap cells_in (sym (append_assoc before (line_word (line_source n k) l ∷ []) (line_words n (suc k) ls)))
      ∙ lines_name ls (suc k) (omega arith) (All-tail (λ m. m ≤ max_delay) l ls short) (before ++ line_word (line_source n k) l ∷ [])
      ∙ cells_same before (line_word (line_source n k) l) (ap is_cell (line_kind n few k l (omega arith) (All-head (λ m. m ≤ max_delay) l ls short)))

-- what a test refuses nowhere, and where it refuses nothing
pub passes : {E : Type 0} (b : Bool) (f : E) → b ≡ false → cond b (Some f) None ≡ None
passes b f e = ap (λ c. cond c (Some f) None) e

pub passed : {E : Type 0} (b : Bool) (f : E) → cond b (Some f) None ≡ None → b ≡ false
passed true f e = absurd (true≢false (ap is_some e))
passed false f e = refl

-- of a program in range: all its words, but for the cells and their taps, are no taps
module _ (t : ProgramTable) (r : ProgramInRange t) where
  abbrev head : ℕ
  head = array_word t.count t.factor

  abbrev lines : List ℕ
  lines = line_words t.count 0 t.lines.items

  abbrev out : ℕ
  out = array_output_word t.output.source t.output.delay

  abbrev end : ℕ
  end = array_end_word (length (program_body t) + 1)

  pub head_kind : program_kind_of head ≡ Some kind.Head
  head_kind = program_kind_made (Some kind.Head) (t.factor * 2 ^ 6 + t.count) (omega (arith, r.few, r.slow))

  pub out_kind : program_kind_of out ≡ Some kind.Output
  out_kind = program_kind_made (Some kind.Output) (t.output.delay * 2 ^ 6 + t.output.source) (omega (arith, r.few, r.output_node, r.output_delay))

  pub end_kind : program_kind_of end ≡ Some kind.End
  end_kind = program_kind_made (Some kind.End) (length (program_body t) + 1) (omega (arith, program_few t r))

  pub out_place : place_of out ≡ t.output.source
  out_place = low_field 6 12 10 12 t.output.source t.output.delay refl (omega (arith, r.few, r.output_node)) (omega (arith, r.output_delay))

  pub out_number : number_of out ≡ t.output.delay
  out_number = high_field 6 12 10 12 t.output.source t.output.delay refl (omega (arith, r.few, r.output_node)) (omega (arith, r.output_delay))

  unnamed : cells_in ((head ∷ []) ++ lines) ≡ []
  unnamed = lines_name t.count r.few t.lines.items 0 (omega (arith, r.lines)) r.lengths (head ∷ []) ∙ cells_other head (ap is_cell head_kind)

  all_fine : Fireable [] t.cells.items → Along Fine [] (encoded_program t)
  unfolding encoded_program
  all_fine f =
      along_join Fine [] (program_body t) (end ∷ [])
      (along_join Fine [] (program_front t) (out ∷ []) (
        plain [] head (ap is_tap head_kind),
        along_join Fine (head ∷ []) lines (cell_words t.cells.items) (lines_fine t.count r.few t.lines.items 0 (omega (arith, r.lines)) r.lengths (head ∷ []))
            (cells_fine t.count r.few t.cells.items r.ranges ((head ∷ []) ++ lines) (subst (λ l. Fireable l t.cells.items) (sym unnamed) f)),
      )
      (plain (program_front t) out (ap is_tap out_kind), tt))
      (plain (program_body t) end (ap is_tap end_kind), tt)

  -- 15 passes the words of a program whose taps read earlier cells
  pub taps_pass : Fireable [] t.cells.items → tap_fault (encoded_program t) ≡ None
  taps_pass f =
      first_all (tap_fault_in (encoded_program t)) (length (encoded_program t))
      (λ k l. passes (is_late_tap (take k (encoded_program t)) (get_or (encoded_program t) k 0)) (late_cell k) (along_at Fine [] (encoded_program t) (all_fine f) k l))

  all_passed : tap_fault (encoded_program t) ≡ None → Along Fine [] (encoded_program t)
  all_passed none =
      along_all Fine [] (encoded_program t)
      (λ k l. passed (is_late_tap (take k (encoded_program t)) (get_or (encoded_program t) k 0)) (late_cell k) (first_none (tap_fault_in (encoded_program t)) (length (encoded_program t)) k none l))

  fireable_from : Along Fine [] (encoded_program t) → Fireable [] t.cells.items
  unfolding encoded_program
  fireable_from fine =
      let front = along_first Fine [] (program_front t) (out ∷ []) (along_first Fine [] (program_body t) (end ∷ []) fine) in
      let cells = along_rest Fine (head ∷ []) lines (cell_words t.cells.items) front.1 in
      subst (λ l. Fireable l t.cells.items) unnamed (cells_fireable t.count r.few t.cells.items r.ranges ((head ∷ []) ++ lines) cells)

  -- and no others
  pub taps_passed : tap_fault (encoded_program t) ≡ None → Fireable [] t.cells.items
  taps_passed none = fireable_from (all_passed none)
