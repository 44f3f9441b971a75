-- The greatest delay at which a program's words read a source.
use Rattle.std.proofs.Common.{◌≡◌, ℕ, suc, ◌+◌, ◌<◌, ◌≤◌, false, cond, max, ◌&&◌, ◌||◌, eqb, ◌⊎◌, List, [], ◌∷◌, ◌++◌, map, length, fold, ap, ap₂, ◌∙◌, subst, inl, inr, ⊎_elim, arith}
use Rattle.std.specs.List.{All}
use Rattle.std.proofs.lemmas.List.{get_or_append_left, get_or-append-add, get_or-map, length-append, length-map}
use Rattle.std.proofs.lemmas.List.Elements.{All-head, All-tail, All-map, All-append, All-cons}
use Rattle.std.proofs.lemmas.Bool.{cases_lt, cases_eq, eq-eqb, ne_eqb, cond-true, cond-false}
use Rattle.words.specs.declared.program_table.Tap.{Tap}
use Rattle.words.specs.declared.program_table.Cell.{Cell}
use Rattle.words.specs.declared.program_table.ProgramTable.{ProgramTable}
use Rattle.words.specs.Designs.{max_nodes}
use Rattle.words.specs.Programs.{line_word, cell_word, tap_word, array_output_word}
use Rattle.words.specs.ProgramKinds.{program_kind_of, is_tap, is_array_output}
use Rattle.words.specs.ProgramTables.{TapInRange, CellInRange, ProgramInRange, max_delay}
use Rattle.words.specs.ProgramEncoding.{line_source, line_words, tap_words, cell_words, program_front, program_body, encoded_program}
use Rattle.machine.specs.Loading.{place_of, number_of, delay_at, greatest_delay}
use Rattle.machine.proofs.Decoded.{tap_kind, tap_place, tap_number, cell_kind, line_kind, head_kind, out_kind, out_place, out_number, end_kind}

max_either : (a b : ℕ) → ((max a b ≡ a) × (b ≤ a)) ⊎ ((max a b ≡ b) × (a ≤ b))
max_either a b = ⊎_elim (λ (l : a < b). inr (omega arith, omega arith)) (λ (l : b ≤ a). inl (omega arith, l)) (cases_lt a b)

-- a greatest number is a bound, and below every other bound
fold_above : (a : ℕ) (xs : List ℕ) → a ≤ fold max a xs
fold_above a [] = omega arith
fold_above a (x ∷ xs) =
    ⊎_elim
    (λ (h : (max a x ≡ a) × (x ≤ a)). omega (arith, h.0, fold_above (max a x) xs))
    (λ (h : (max a x ≡ x) × (a ≤ x)). omega (arith, h.0, h.1, fold_above (max a x) xs))
    (max_either a x)

fold_bounds : (a : ℕ) (xs : List ℕ) → All (λ x. x ≤ fold max a xs) xs
fold_bounds a [] = λ k d l. absurd (omega arith)
fold_bounds a (x ∷ xs) =
    All-cons (λ y. y ≤ fold max (max a x) xs) x xs
    (⊎_elim
    (λ (h : (max a x ≡ a) × (x ≤ a)). omega (arith, h.0, h.1, fold_above (max a x) xs))
    (λ (h : (max a x ≡ x) × (a ≤ x)). omega (arith, h.0, fold_above (max a x) xs))
    (max_either a x))
    (fold_bounds (max a x) xs)

fold_least : (a : ℕ) (xs : List ℕ) (m : ℕ) → a ≤ m → All (λ x. x ≤ m) xs → fold max a xs ≤ m
fold_least a [] m la each = la
fold_least a (x ∷ xs) m la each =
    fold_least (max a x) xs m
    (⊎_elim
    (λ (h : (max a x ≡ a) × (x ≤ a)). omega (arith, h.0))
    (λ (h : (max a x ≡ x) × (a ≤ x)). omega (arith, h.0, All-head (λ y. y ≤ m) x xs each))
    (max_either a x))
    (All-tail (λ y. y ≤ m) x xs each)

-- what holds of a list holds of its parts
pub all_first : {X : Type 0} (P : X → Type 0) (xs ys : List X) → All P (xs ++ ys) → All P xs
all_first P xs ys all k d l = subst P (get_or_append_left xs ys d k l) (all k d (omega (arith, length-append xs ys)))

pub all_rest : {X : Type 0} (P : X → Type 0) (xs ys : List X) → All P (xs ++ ys) → All P ys
all_rest P xs ys all k d l = subst P (get_or-append-add xs ys k d) (all (length xs + k) d (omega (arith, length-append xs ys)))

module _ (words : List ℕ) (j : ℕ) where
  pub reads_below : All (λ w. delay_at j w ≤ greatest_delay words j) words
  unfolding greatest_delay
  reads_below k d l =
      subst (λ x. x ≤ fold max 0 (map (delay_at j) words)) (get_or-map (delay_at j) words k d 0 l)
      (fold_bounds 0 (map (delay_at j) words) k 0 (omega (arith, length-map words (delay_at j))))

  pub reads_least : (m : ℕ) → All (λ w. delay_at j w ≤ m) words → greatest_delay words j ≤ m
  unfolding greatest_delay
  reads_least m each = fold_least 0 (map (delay_at j) words) m (omega arith) (All-map (λ x. x ≤ m) (delay_at j) words each)

-- how far back words read a source
module _ (n : ℕ) (few : n ≤ max_nodes) (j : ℕ) where
  tap_reads : (tap : Tap) → TapInRange n tap → delay_at j (tap_word tap.source tap.delay) ≡ cond (eqb tap.source j) tap.delay 0
  tap_reads tap r =
      ap (λ k. cond ((is_tap k || is_array_output k) && eqb (place_of (tap_word tap.source tap.delay)) j) (number_of (tap_word tap.source tap.delay)) 0) (tap_kind n few tap r)
      ∙ ap₂ (λ s d. cond (eqb s j) d 0) (tap_place n few tap r) (tap_number n few tap r)

  -- a word that is no tap and no output reads nothing
  other_reads : (w : ℕ) → is_tap (program_kind_of w) ≡ false → is_array_output (program_kind_of w) ≡ false → delay_at j w ≡ 0
  other_reads w tap out =
      ap₂ (λ a b. cond ((a || b) && eqb (place_of w) j) (number_of w) 0) tap out

  -- taps that read the source at no more than a delay
  abbrev pub Within : ℕ → Tap → Type 0
  Within m tap = tap.source ≡ j → tap.delay ≤ m

  taps_within : (m : ℕ) (taps : List Tap) → All (TapInRange n) taps → All (λ w. delay_at j w ≤ m) (tap_words taps) → All (Within m) taps
  taps_within m [] r each = λ k d l. absurd (omega arith)
  taps_within m (tap ∷ taps) r each =
      All-cons (Within m) tap taps
      (λ same.
      omega (
        arith,
        All-head (λ w. delay_at j w ≤ m) (tap_word tap.source tap.delay) (tap_words taps) each,
        tap_reads tap (All-head (TapInRange n) tap taps r),
        cond-true (eqb tap.source j) tap.delay 0 (eq-eqb tap.source j same),
      ))
      (taps_within m taps (All-tail (TapInRange n) tap taps r) (All-tail (λ w. delay_at j w ≤ m) (tap_word tap.source tap.delay) (tap_words taps) each))

  taps_bounded : (m : ℕ) (taps : List Tap) → All (TapInRange n) taps → All (Within m) taps → All (λ w. delay_at j w ≤ m) (tap_words taps)
  taps_bounded m [] r each = λ k d l. absurd (omega arith)
  taps_bounded m (tap ∷ taps) r each =
      All-cons (λ w. delay_at j w ≤ m) (tap_word tap.source tap.delay) (tap_words taps)
      (⊎_elim
      (λ (same : tap.source ≡ j).
      omega (arith, tap_reads tap (All-head (TapInRange n) tap taps r), cond-true (eqb tap.source j) tap.delay 0 (eq-eqb tap.source j same), All-head (Within m) tap taps each same))
      (λ (other : tap.source ≡ j → ⊥).
      omega (arith, tap_reads tap (All-head (TapInRange n) tap taps r), cond-false (eqb tap.source j) tap.delay 0 (ne_eqb tap.source j other)))
      (cases_eq tap.source j))
      (taps_bounded m taps (All-tail (TapInRange n) tap taps r) (All-tail (Within m) tap taps each))

  pub cells_within : (m : ℕ) (cs : List Cell) → All (CellInRange n) cs → All (λ w. delay_at j w ≤ m) (cell_words cs) → All (λ c. All (Within m) c.taps.items) cs
  unfolding cell_words
  cells_within m [] r each = λ k d l. absurd (omega arith)
  cells_within m (c ∷ cs) r each =
      let range = All-head (CellInRange n) c cs r in
      let later = All-tail (λ w. delay_at j w ≤ m) (cell_word c.node c.operation c.lag) (tap_words c.taps.items ++ cell_words cs) each in
      All-cons (λ d. All (Within m) d.taps.items) c cs
      (taps_within m c.taps.items range.taps (all_first (λ w. delay_at j w ≤ m) (tap_words c.taps.items) (cell_words cs) later))
      (cells_within m cs (All-tail (CellInRange n) c cs r) (all_rest (λ w. delay_at j w ≤ m) (tap_words c.taps.items) (cell_words cs) later))

  pub cells_bounded : (m : ℕ) (cs : List Cell) → All (CellInRange n) cs → All (λ c. All (Within m) c.taps.items) cs → All (λ w. delay_at j w ≤ m) (cell_words cs)
  unfolding cell_words
  cells_bounded m [] r each = λ k d l. absurd (omega arith)
  cells_bounded m (c ∷ cs) r each =
      let range = All-head (CellInRange n) c cs r in
      All-cons (λ w. delay_at j w ≤ m) (cell_word c.node c.operation c.lag) (tap_words c.taps.items ++ cell_words cs)
      (omega (arith, other_reads (cell_word c.node c.operation c.lag) (ap is_tap (cell_kind n few c range)) (ap is_array_output (cell_kind n few c range))))
      (All-append (λ w. delay_at j w ≤ m) (tap_words c.taps.items) (cell_words cs)
      (taps_bounded m c.taps.items range.taps (All-head (λ d. All (Within m) d.taps.items) c cs each))
      (cells_bounded m cs (All-tail (CellInRange n) c cs r) (All-tail (λ d. All (Within m) d.taps.items) c cs each)))

  lines_read : (m : ℕ) (ls : List ℕ) (k : ℕ) → k + length ls ≤ n + 1 → All (λ l. l ≤ max_delay) ls → All (λ w. delay_at j w ≤ m) (line_words n k ls)
  unfolding line_words
  lines_read m [] k room short = λ i d l. absurd (omega arith)
  lines_read m (l ∷ ls) k room short =
      let kind = line_kind n few k l (omega arith) (All-head (λ x. x ≤ max_delay) l ls short) in
      All-cons (λ w. delay_at j w ≤ m) (line_word (line_source n k) l) (line_words n (suc k) ls)
      (omega (arith, other_reads (line_word (line_source n k) l) (ap is_tap kind) (ap is_array_output kind)))
      (lines_read m ls (suc k) (omega arith) (All-tail (λ x. x ≤ max_delay) l ls short))

-- a program's words read a source at no more than a delay where its taps and its output do
module _ (t : ProgramTable) (r : ProgramInRange t) (j m : ℕ) where
  out_reads : delay_at j (array_output_word t.output.source t.output.delay) ≡ cond (eqb t.output.source j) t.output.delay 0
  out_reads =
      ap (λ k. cond ((is_tap k || is_array_output k) && eqb (place_of (array_output_word t.output.source t.output.delay)) j) (number_of (array_output_word t.output.source t.output.delay)) 0) (out_kind t r)
      ∙ ap₂ (λ s d. cond (eqb s j) d 0) (out_place t r) (out_number t r)

  abbrev Short : ℕ → Type 0
  Short w = delay_at j w ≤ m

  pub words_bounded : All (λ c. All (Within t.count r.few j m) c.taps.items) t.cells.items → (t.output.source ≡ j → t.output.delay ≤ m) → All Short (encoded_program t)
  unfolding encoded_program
  words_bounded cells out =
      All-append Short (program_body t) _
      (All-append Short (program_front t) _
      (All-cons Short _ _ (omega (arith, other_reads t.count r.few j _ (ap is_tap (head_kind t r)) (ap is_array_output (head_kind t r))))
      (All-append Short (line_words t.count 0 t.lines.items) (cell_words t.cells.items)
      (lines_read t.count r.few j m t.lines.items 0 (omega (arith, r.lines)) r.lengths)
      (cells_bounded t.count r.few j m t.cells.items r.ranges cells)))
      (All-cons Short _ [] read (λ k d l. absurd (omega arith))))
      (All-cons Short _ [] (omega (arith, other_reads t.count r.few j _ (ap is_tap (end_kind t r)) (ap is_array_output (end_kind t r)))) (λ k d l. absurd (omega arith)))
    where
      read : Short (array_output_word t.output.source t.output.delay)
      read =
          ⊎_elim
          (λ (same : t.output.source ≡ j). omega (arith, out_reads, cond-true (eqb t.output.source j) t.output.delay 0 (eq-eqb t.output.source j same), out same))
          (λ (other : t.output.source ≡ j → ⊥). omega (arith, out_reads, cond-false (eqb t.output.source j) t.output.delay 0 (ne_eqb t.output.source j other)))
          (cases_eq t.output.source j)

  pub words_within : All Short (encoded_program t) → All (λ c. All (Within t.count r.few j m) c.taps.items) t.cells.items × (t.output.source ≡ j → t.output.delay ≤ m)
  unfolding encoded_program
  words_within each =
      let body = all_first Short (program_body t) _ each in
      let front = all_first Short (program_front t) _ body in
      let out = all_rest Short (program_front t) _ body in (
        cells_within t.count r.few j m t.cells.items r.ranges (all_rest Short (line_words t.count 0 t.lines.items) (cell_words t.cells.items) (All-tail Short _ _ front)),
        λ same. omega (arith, All-head Short _ [] out, out_reads, cond-true (eqb t.output.source j) t.output.delay 0 (eq-eqb t.output.source j same)),
      )
