-- Question 16 of a program's words is that of its table.
use Rattle.std.proofs.Common.{◌≡◌, ℕ, zero, suc, ◌+◌, ◌<◌, ◌≤◌, Bool, true, false, not, ◌&&◌, eqb, List, [], ◌∷◌, ◌++◌, length, get_or, None, sym, refl, ap, ap₂, ◌∙◌, arith}
use Rattle.std.specs.List.{All}
use Rattle.std.proofs.lemmas.List.Elements.{All-head, All-tail}
use Rattle.std.proofs.lemmas.Bool.{true≢false, eqb-true, eq-eqb}
use Rattle.words.specs.declared.program_table.Tap.{Tap}
use Rattle.words.specs.declared.program_table.Cell.{Cell}
use Rattle.words.specs.declared.program_table.ProgramTable.{ProgramTable}
use Rattle.words.specs.Designs.{max_nodes}
use Rattle.words.specs.Programs.{line_word, cell_word, tap_word}
use Rattle.words.specs.ProgramKinds.{program_kind_of, is_line}
use Rattle.words.specs.ProgramTables.{TapInRange, CellInRange, ProgramInRange, max_delay}
use Rattle.words.specs.ProgramEncoding.{line_source, line_words, tap_words, cell_words, program_front, program_body, encoded_program}
use Rattle.words.proofs.Wholes.{low_field, high_field}
use Rattle.words.proofs.Sources.{source_place}
use Rattle.words.proofs.ProgramEncodings.{line_heard}
use Rattle.bench.proofs.Searches.{first_none, first_all}
use Rattle.machine.specs.Refusals.{wrong_line}
use Rattle.machine.specs.Loading.{place_of, number_of, greatest_delay, is_wrong_line, line_fault_in, line_fault}
use Rattle.machine.specs.Fitting.{Fitting}
use Rattle.machine.proofs.Along.{Along, along_join, along_first, along_at, along_all}
use Rattle.machine.proofs.Decoded.{tap_kind, cell_kind, line_kind, passes, passed, head_kind, out_kind, end_kind}

-- in some words, the word is no line of a wrong length
abbrev Fits : List ℕ → List ℕ → ℕ → Type 0
Fits words before w = is_wrong_line words w ≡ false

equal_false : (a b : ℕ) → not (eqb a b) ≡ false → a ≡ b
equal_false a b e = eqb-true a b (by (eqb a b) e)
  where
    by : (c : Bool) → not c ≡ false → c ≡ true
    by true e = refl
    by false e = absurd (true≢false e)

module _ (words : List ℕ) where
  -- a word that is no line
  plain : (w : ℕ) → is_line (program_kind_of w) ≡ false → is_wrong_line words w ≡ false
  plain w is = ap (λ b. b && not (eqb (number_of w) (greatest_delay words (place_of w)))) is

  module _ (n : ℕ) (few : n ≤ max_nodes) where
    module _ (k l : ℕ) (below : k ≤ n) (short : l ≤ max_delay) where
      place : line_source n k < 64
      place = omega (arith, source_place n (line_source n k) few (line_heard n k below))

      asks : is_wrong_line words (line_word (line_source n k) l) ≡ not (eqb l (greatest_delay words (line_source n k)))
      asks =
          ap (λ kind. is_line kind && not (eqb (number_of (line_word (line_source n k) l)) (greatest_delay words (place_of (line_word (line_source n k) l))))) (line_kind n few k l below short)
          ∙ ap₂ (λ d j. not (eqb d (greatest_delay words j))) (high_field 6 12 10 9 (line_source n k) l refl place (omega (arith, short))) (low_field 6 12 10 9 (line_source n k) l refl place (omega (arith, short)))

    lines_fit : (ls : List ℕ) (k : ℕ) → k + length ls ≤ n + 1 → All (λ l. l ≤ max_delay) ls → ((i : ℕ) → i < length ls → get_or ls i 0 ≡ greatest_delay words (line_source n (k + i))) →
        (before : List ℕ) → Along (Fits words) before (line_words n k ls)
    unfolding line_words
    lines_fit [] k room short each before = tt
    lines_fit (l ∷ ls) k room short each before = (
      asks k l (omega arith) (All-head (λ m. m ≤ max_delay) l ls short)
          ∙ ap not (eq-eqb l (greatest_delay words (line_source n k)) (each 0 (omega arith) ∙ ap (λ i. greatest_delay words (line_source n i)) {x = k + 0} {y = k} (omega arith))),
      lines_fit ls (suc k) (omega arith) (All-tail (λ m. m ≤ max_delay) l ls short)
          (λ i li. each (suc i) (omega arith) ∙ ap (λ j. greatest_delay words (line_source n j)) {x = k + suc i} {y = suc k + i} (omega arith))
          (before ++ line_word (line_source n k) l ∷ []),
    )

    lines_as : (ls : List ℕ) (k : ℕ) → k + length ls ≤ n + 1 → All (λ l. l ≤ max_delay) ls → (before : List ℕ) → Along (Fits words) before (line_words n k ls) →
        (i : ℕ) → i < length ls → get_or ls i 0 ≡ greatest_delay words (line_source n (k + i))
    unfolding line_words
    lines_as [] k room short before fit i li = absurd (omega arith)
    lines_as (l ∷ ls) k room short before fit zero li =
        equal_false l (greatest_delay words (line_source n k)) (sym (asks k l (omega arith) (All-head (λ m. m ≤ max_delay) l ls short)) ∙ fit.0)
        ∙ ap (λ i. greatest_delay words (line_source n i)) {x = k} {y = k + 0} (omega arith)
    lines_as (l ∷ ls) k room short before fit (suc i) li =
        lines_as ls (suc k) (omega arith) (All-tail (λ m. m ≤ max_delay) l ls short) (before ++ line_word (line_source n k) l ∷ []) fit.1 i (omega arith)
        ∙ ap (λ j. greatest_delay words (line_source n j)) {x = suc k + i} {y = k + suc i} (omega arith)

    taps_plain : (taps : List Tap) → All (TapInRange n) taps → (before : List ℕ) → Along (Fits words) before (tap_words taps)
    taps_plain [] r before = tt
    taps_plain (tap ∷ taps) r before =
        (plain (tap_word tap.source tap.delay) (ap is_line (tap_kind n few tap (All-head (TapInRange n) tap taps r))), taps_plain taps (All-tail (TapInRange n) tap taps r) (before ++ tap_word tap.source tap.delay ∷ []))

    cells_plain : (cs : List Cell) → All (CellInRange n) cs → (before : List ℕ) → Along (Fits words) before (cell_words cs)
    unfolding cell_words
    cells_plain [] r before = tt
    cells_plain (c ∷ cs) r before =
        let range = All-head (CellInRange n) c cs r in
        let at : List ℕ = before ++ cell_word c.node c.operation c.lag ∷ [] in (
          plain (cell_word c.node c.operation c.lag) (ap is_line (cell_kind n few c range)),
          along_join (Fits words) at (tap_words c.taps.items) (cell_words cs) (taps_plain c.taps.items range.taps at) (cells_plain cs (All-tail (CellInRange n) c cs r) (at ++ tap_words c.taps.items)),
        )

module _ (t : ProgramTable) (r : ProgramInRange t) where
  abbrev words : List ℕ
  words = encoded_program t

  all_fit : (ws : List ℕ) → ((k : ℕ) → k < t.count + 1 → get_or t.lines.items k 0 ≡ greatest_delay ws (line_source t.count k)) → Along (Fits ws) [] (encoded_program t)
  unfolding encoded_program
  all_fit ws each =
      along_join (Fits ws) [] (program_body t) _
      (along_join (Fits ws) [] (program_front t) _ (
        plain ws _ (ap is_line (head_kind t r)),
        along_join (Fits ws) (_ ∷ []) (line_words t.count 0 t.lines.items) (cell_words t.cells.items)
            (lines_fit ws t.count r.few t.lines.items 0 (omega (arith, r.lines)) r.lengths (λ i l. each i (omega (arith, r.lines)) ∙ ap (λ j. greatest_delay ws (line_source t.count j)) {x = i} {y = 0 + i} (omega arith)) (_ ∷ []))
            (cells_plain ws t.count r.few t.cells.items r.ranges _),
      )
      (plain ws _ (ap is_line (out_kind t r)), tt))
      (plain ws _ (ap is_line (end_kind t r)), tt)

  -- 16 passes the words of a program whose lines fit
  pub lines_pass : Fitting t → line_fault (encoded_program t) ≡ None
  lines_pass fitting =
      first_all (line_fault_in (encoded_program t)) (length (encoded_program t))
      (λ k l. passes (is_wrong_line (encoded_program t) (get_or (encoded_program t) k 0)) (wrong_line k) (along_at (Fits (encoded_program t)) [] (encoded_program t) (all_fit (encoded_program t) fitting) k l))

  fit_from : (ws : List ℕ) → Along (Fits ws) [] (encoded_program t) → (k : ℕ) → k < t.count + 1 → get_or t.lines.items k 0 ≡ greatest_delay ws (line_source t.count k)
  unfolding encoded_program
  fit_from ws fit k l =
      let front = along_first (Fits ws) [] (program_front t) _ (along_first (Fits ws) [] (program_body t) _ fit) in
      let lines = along_first (Fits ws) (_ ∷ []) (line_words t.count 0 t.lines.items) (cell_words t.cells.items) front.1 in
      lines_as ws t.count r.few t.lines.items 0 (omega (arith, r.lines)) r.lengths (_ ∷ []) lines k (omega (arith, r.lines))
      ∙ ap (λ j. greatest_delay ws (line_source t.count j)) {x = 0 + k} {y = k} (omega arith)

  -- and no others
  pub lines_passed : line_fault (encoded_program t) ≡ None → Fitting t
  lines_passed none =
      fit_from (encoded_program t)
      (along_all (Fits (encoded_program t)) [] (encoded_program t)
      (λ k l. passed (is_wrong_line (encoded_program t) (get_or (encoded_program t) k 0)) (wrong_line k) (first_none (line_fault_in (encoded_program t)) (length (encoded_program t)) k none l)))
