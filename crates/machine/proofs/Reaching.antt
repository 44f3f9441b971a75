-- Question 16: in a program that passes it, each line is as long as the greatest delay at which its source is read.
use Rattle.std.proofs.Common.{◌≡◌, ℕ, zero, suc, ◌+◌, ◌<◌, ◌≤◌, Bool, true, false, not, cond, ◌&&◌, ◌||◌, ◌==◌, eqb, max, fold, List, [], ◌∷◌, ◌++◌, map, length, get_or, is_some, Some, None, sym, refl, ap, ◌∙◌, subst, ⊎_elim, add-zero, add-suc, suc-add, arith}
use Rattle.std.specs.List.{Contains}
use Rattle.std.proofs.lemmas.List.{get_or-map, length-map, get_or_default}
use Rattle.std.proofs.lemmas.List.Elements.{Contains-append_left, Contains-append_right}
use Rattle.std.proofs.lemmas.Bool.{true≢false, cond-true, cond-false, eq-eqb, eqb-true, ne_eqb, not-false, and_from, or_left, or_right, cases_eq}
use Rattle.words.specs.declared.faults.Fault.{Fault}
use Rattle.words.specs.declared.program_table.Tap.{Tap}
use Rattle.words.specs.declared.program_table.Cell.{Cell}
use Rattle.words.specs.declared.program_table.ProgramTable.{ProgramTable}
use Rattle.words.specs.Designs.{input, is_source}
use Rattle.words.specs.Programs.{array_word, line_word, cell_word, tap_word, array_output_word, array_end_word}
use Rattle.words.specs.ProgramDrafts.{no_cell}
use Rattle.words.specs.ProgramKinds.{program_kind_of, is_line, is_tap, is_array_output}
use Rattle.words.specs.ProgramEncoding.{line_source, line_words, tap_words, cell_words, program_front, program_body, encoded_program}
use Rattle.words.specs.ProgramTables.{ProgramInRange}
use Rattle.words.proofs.Sources.{source_place}
use Rattle.bench.proofs.Searches.{first_none}
use Rattle.machine.specs.Buffers.{rest_place}
use Rattle.machine.specs.Loading.{place_of, number_of, delay_at, greatest_delay, is_wrong_line, line_fault_in, line_fault}
use Rattle.machine.specs.Refusals.{wrong_line}
use Rattle.machine.specs.Steps.{line_long}
use Rattle.machine.proofs.Histories.{node_source, source_node}
use Rattle.machine.proofs.ProgramWords.{line_kind, tap_kind, output_kind, line_place, line_number, tap_place, tap_number, output_place, output_number}
use Rattle.machine.proofs.Resting.{place_low}

-- a question that is answered no nowhere
pub not_asked : (b : Bool) (f : Fault) → cond b (Some f) None ≡ None → b ≡ false
not_asked true f e = absurd (true≢false (ap is_some e))
not_asked false f e = refl

-- the greatest of a list and a number is none of them below
fold_low : (xs : List ℕ) (a : ℕ) → a ≤ fold max a xs
fold_low [] a = omega arith
fold_low (x ∷ xs) a = omega (arith, fold_low xs (max a x))

fold_has : (xs : List ℕ) (a k : ℕ) → k < length xs → get_or xs k 0 ≤ fold max a xs
fold_has [] a k l = absurd (omega arith)
fold_has (x ∷ xs) a zero l = omega (arith, fold_low xs (max a x))
fold_has (x ∷ xs) a (suc k) l = fold_has xs (max a x) k (omega arith)

-- a word reads no source at a greater delay
reads_below : (words : List ℕ) (w j : ℕ) → Contains words w → delay_at j w ≤ greatest_delay words j
unfolding greatest_delay
reads_below words w j has =
    let k = has.0 in
    let is : get_or (map (delay_at j) words) k 0 ≡ delay_at j w = get_or-map (delay_at j) words k w 0 has.1 ∙ ap (delay_at j) has.2 in
    omega (arith, fold_has (map (delay_at j) words) 0 k (omega (arith, has.1, length-map words (delay_at j))))

-- where words stand
contains_next : (w x : ℕ) (ws : List ℕ) → Contains ws x → Contains (w ∷ ws) x
contains_next w x ws has = Contains-append_right (w ∷ []) ws x has

contains_line : (n k : ℕ) (ls : List ℕ) (i : ℕ) → i < length ls → Contains (line_words n k ls) (line_word (line_source n (k + i)) (get_or ls i 0))
unfolding line_words
contains_line n k [] i l = absurd (omega arith)
contains_line n k (x ∷ ls) zero l =
    subst (λ m. Contains (line_word (line_source n k) x ∷ line_words n (suc k) ls) (line_word (line_source n m) x)) (sym (add-zero k)) (0, omega arith, refl)
contains_line n k (x ∷ ls) (suc i) l =
    subst (λ m. Contains (line_word (line_source n k) x ∷ line_words n (suc k) ls) (line_word (line_source n m) (get_or ls i 0))) (suc-add k i ∙ sym (add-suc k i))
    (contains_next (line_word (line_source n k) x) _ (line_words n (suc k) ls) (contains_line n (suc k) ls i (omega arith)))

contains_tap : (ts : List Tap) (i : ℕ) (d : Tap) → i < length ts → Contains (tap_words ts) (tap_word (get_or ts i d).source (get_or ts i d).delay)
contains_tap ts i d l =
    (i, omega (arith, length-map ts (λ (t : Tap). tap_word t.source t.delay)), get_or-map (λ (t : Tap). tap_word t.source t.delay) ts i d _ l)

contains_cell_tap : (cs : List Cell) (r i : ℕ) (c : Cell) (d : Tap) → r < length cs → i < length (get_or cs r c).taps.items →
    Contains (cell_words cs) (tap_word (get_or (get_or cs r c).taps.items i d).source (get_or (get_or cs r c).taps.items i d).delay)
unfolding cell_words
contains_cell_tap [] r i c d l m = absurd (omega arith)
contains_cell_tap (x ∷ cs) zero i c d l m =
    contains_next (cell_word x.node x.operation x.lag) _ (tap_words x.taps.items ++ cell_words cs) (Contains-append_left (tap_words x.taps.items) (cell_words cs) _ (contains_tap x.taps.items i d m))
contains_cell_tap (x ∷ cs) (suc r) i c d l m =
    contains_next (cell_word x.node x.operation x.lag) _ (tap_words x.taps.items ++ cell_words cs) (Contains-append_right (tap_words x.taps.items) (cell_words cs) _ (contains_cell_tap cs r i c d (omega arith) m))

module _ (p : ProgramTable) (range : ProgramInRange p) where
  abbrev n : ℕ
  n = p.count

  abbrev lines : List ℕ
  lines = p.lines.items

  -- what the front of a program has, its words have
  in_front : (w : ℕ) → Contains (line_words n 0 lines ++ cell_words p.cells.items) w → Contains (encoded_program p) w
  unfolding encoded_program
  in_front w has =
      Contains-append_left (program_body p) (array_end_word (length (program_body p) + 1) ∷ []) w
      (Contains-append_left (program_front p) (array_output_word p.output.source p.output.delay ∷ []) w
      (contains_next (array_word n p.factor) w (line_words n 0 lines ++ cell_words p.cells.items) has))

  has_line : (k : ℕ) → k < length lines → Contains (encoded_program p) (line_word (line_source n k) (get_or lines k 0))
  has_line k l =
      in_front _ (Contains-append_left (line_words n 0 lines) (cell_words p.cells.items) _
      (subst (λ m. Contains (line_words n 0 lines) (line_word (line_source n m) (get_or lines k 0))) {x = 0 + k} {y = k} (omega arith) (contains_line n 0 lines k l)))

  has_tap : (r i : ℕ) (d : Tap) → r < length p.cells.items → i < length (get_or p.cells.items r no_cell).taps.items →
      let t = get_or (get_or p.cells.items r no_cell).taps.items i d in Contains (encoded_program p) (tap_word t.source t.delay)
  has_tap r i d l m = in_front _ (Contains-append_right (line_words n 0 lines) (cell_words p.cells.items) _ (contains_cell_tap p.cells.items r i no_cell d l m))

  has_output : Contains (encoded_program p) (array_output_word p.output.source p.output.delay)
  unfolding encoded_program
  has_output =
      Contains-append_left (program_body p) (array_end_word (length (program_body p) + 1) ∷ []) _
      (Contains-append_right (program_front p) (array_output_word p.output.source p.output.delay ∷ []) _ (0, omega arith, refl))

  -- line k is that of the source that has its rest value at k
  source_line : (j : ℕ) → is_source n j ≡ true → line_source n (rest_place n j) ≡ j
  source_line j s =
      ⊎_elim
      (λ (e : j ≡ input).
      let at : rest_place n j ≡ n = cond-true (eqb j input) n j (eq-eqb j input e) in cond-true (eqb (rest_place n j) n) input (rest_place n j) (eq-eqb (rest_place n j) n at) ∙ sym e)
      (λ (other : j ≡ input → ⊥).
      let at : rest_place n j ≡ j = cond-false (eqb j input) n j (ne_eqb j input other) in
      let low = source_node n j s other in
      cond-false (eqb (rest_place n j) n) input (rest_place n j) (ne_eqb (rest_place n j) n (λ e. omega arith)) ∙ at)
      (cases_eq j input)

  module _ (passed : line_fault (encoded_program p) ≡ None) where
    right_line : (w : ℕ) → Contains (encoded_program p) w → is_wrong_line (encoded_program p) w ≡ false
    right_line w has =
        let words = encoded_program p in
        let k = has.0 in
        let is : get_or words k 0 ≡ w = get_or_default words k 0 w has.1 ∙ has.2 in
        subst (λ v. is_wrong_line words v ≡ false) is
        (not_asked (is_wrong_line words (get_or words k 0)) (wrong_line k) (first_none (line_fault_in words) (length words) k passed has.1))

    -- a line is as long as the greatest delay at which its source is read
    pub line_reaches : (j : ℕ) → is_source n j ≡ true → line_long n lines j ≡ greatest_delay (encoded_program p) j
    line_reaches j s =
        let k = rest_place n j in
        let low : k < length lines = omega (arith, place_low n j s, range.lines) in
        let l = get_or lines k 0 in
        let small : j < 33 = source_place n j range.few s in
        let short : l ≤ 4095 = range.lengths k 0 low in
        let w = line_word j l in
        let stands : Contains (encoded_program p) w = subst (λ i. Contains (encoded_program p) (line_word i l)) (source_line j s) (has_line k low) in
        let kind : is_line (program_kind_of w) ≡ true = ap is_line (line_kind j l (omega arith) (omega arith)) in
        let same = number_of w == greatest_delay (encoded_program p) (place_of w) in
        let right : not same ≡ false = sym (ap (λ b. b && not same) kind) ∙ right_line w stands in
        sym (line_number j l (omega arith) (omega arith))
        ∙ eqb-true (number_of w) (greatest_delay (encoded_program p) (place_of w)) (not-false same right)
        ∙ ap (greatest_delay (encoded_program p)) (line_place j l (omega arith) (omega arith))

    pub tap_reached : (r i : ℕ) (d : Tap) → r < length p.cells.items → i < length (get_or p.cells.items r no_cell).taps.items →
        let t = get_or (get_or p.cells.items r no_cell).taps.items i d in t.delay ≤ line_long n lines t.source
    tap_reached r i d l m =
        let t = get_or (get_or p.cells.items r no_cell).taps.items i d in
        let ok = (range.ranges r no_cell l).taps i d m in
        let small : t.source < 33 = source_place n t.source range.few ok.source in
        let w = tap_word t.source t.delay in
        let kind : is_tap (program_kind_of w) ≡ true = ap is_tap (tap_kind t.source t.delay (omega arith) (omega (arith, ok.delay))) in
        let place : place_of w ≡ t.source = tap_place t.source t.delay (omega arith) (omega (arith, ok.delay)) in
        let reads : delay_at t.source w ≡ t.delay =
        cond-true ((is_tap (program_kind_of w) || is_array_output (program_kind_of w)) && place_of w == t.source) (number_of w) 0
        (and_from _ _ (or_left _ _ kind) (eq-eqb (place_of w) t.source place)) ∙ tap_number t.source t.delay (omega arith) (omega (arith, ok.delay)) in
        omega (arith, reads_below (encoded_program p) w t.source (has_tap r i d l m), line_reaches t.source ok.source)

    pub output_reached : p.output.delay ≤ line_long n lines p.output.source
    output_reached =
        let o = p.output in
        let w = array_output_word o.source o.delay in
        let kind : is_array_output (program_kind_of w) ≡ true = ap is_array_output (output_kind o.source o.delay (omega (arith, range.output_node, range.few)) (omega (arith, range.output_delay))) in
        let place : place_of w ≡ o.source = output_place o.source o.delay (omega (arith, range.output_node, range.few)) (omega (arith, range.output_delay)) in
        let reads : delay_at o.source w ≡ o.delay =
        cond-true ((is_tap (program_kind_of w) || is_array_output (program_kind_of w)) && place_of w == o.source) (number_of w) 0
        (and_from _ _ (or_right _ _ kind) (eq-eqb (place_of w) o.source place))
        ∙ output_number o.source o.delay (omega (arith, range.output_node, range.few)) (omega (arith, range.output_delay)) in
        omega (arith, reads_below (encoded_program p) w o.source has_output, line_reaches o.source (node_source n o.source range.output_node))
