-- Laws of a program's words, and of its lists of taps and nodes.
use Rattle.std.proofs.Common.{◌≡◌, ℕ, zero, suc, ◌+◌, ◌*◌, ◌<◌, ◌≤◌, true, false, ◌||◌, eqb, ltb, List, [], ◌∷◌, ◌++◌, length, get_or, sym, refl, ap, ◌∙◌, ⊎_elim, append_assoc, add-zero, add-suc, suc-add, arith}
use Rattle.std.specs.List.{All, AllPairs}
use Rattle.std.specs.Set.{is_member}
use Rattle.std.proofs.lemmas.List.{length-append, length_push, length-map}
use Rattle.std.proofs.lemmas.List.Folds.{list_any-append}
use Rattle.std.proofs.lemmas.Bool.{cases_eq, eq-eqb, ne_eqb, or_left, or_right, lt-ltb, cond-true, cond-false}
use Rattle.words.specs.declared.program_table.Tap.{Tap}
use Rattle.words.specs.declared.program_table.Cell.{Cell}
use Rattle.words.specs.declared.program_table.ProgramTable.{ProgramTable}
use Rattle.words.specs.Designs.{is_source, input, max_nodes, sources}
use Rattle.words.specs.Programs.{line_word, cell_word, tap_word, array_output_word}
use Rattle.words.specs.ProgramTables.{CellInRange, ProgramInRange}
use Rattle.words.proofs.Sources.{source_place}
use Rattle.words.specs.ProgramEncoding.{line_source, line_words, tap_words, cell_words, program_front, program_body}

-- line k is that of a source
pub line_heard : (n k : ℕ) → k ≤ n → is_source n (line_source n k) ≡ true
line_heard n k few =
    ⊎_elim
    (λ (e : k ≡ n). ap (is_source n) (cond-true _ _ _ (eq-eqb k n e)) ∙ or_right (ltb input n) (eqb input input) (eq-eqb input input refl))
    (λ (ne : k ≡ n → ⊥). ap (is_source n) (cond-false _ _ _ (ne_eqb k n ne)) ∙ or_left (ltb k n) (eqb k input) (lt-ltb k n (omega (arith, ne))))
    (cases_eq k n)

-- words, one part after the other
pub lines_join : (n k : ℕ) (xs ys : List ℕ) → line_words n k (xs ++ ys) ≡ line_words n k xs ++ line_words n (k + length xs) ys
unfolding line_words
lines_join n k [] ys = ap (λ m. line_words n m ys) (sym (add-zero k))
lines_join n k (x ∷ xs) ys =
    ap (λ ws. line_word (line_source n k) x ∷ ws) (lines_join n (suc k) xs ys ∙ ap (λ m. line_words n (suc k) xs ++ line_words n m ys) (suc-add k (length xs) ∙ sym (add-suc k (length xs))))

pub cells_join : (xs ys : List Cell) → cell_words (xs ++ ys) ≡ cell_words xs ++ cell_words ys
unfolding cell_words
cells_join [] ys = refl
cells_join (x ∷ xs) ys =
    ap (λ ws. cell_word x.node x.operation x.lag ∷ (tap_words x.taps.items ++ ws)) (cells_join xs ys)
    ∙ ap (λ ws. cell_word x.node x.operation x.lag ∷ ws) (sym (append_assoc (tap_words x.taps.items) (cell_words xs) (cell_words ys)))

-- how many words there are
pub lines_count : (n k : ℕ) (ls : List ℕ) → length (line_words n k ls) ≡ length ls
unfolding line_words
lines_count n k [] = refl
lines_count n k (l ∷ ls) = ap suc (lines_count n (suc k) ls)

-- taps that ascend are no more than the sources
tap_at : (taps : List Tap) → AllPairs (λ s t. s.source < t.source) taps → (k : ℕ) (d : Tap) → k < length taps → k ≤ (get_or taps k d).source
tap_at taps up zero d l = omega arith
tap_at taps up (suc k) d l = omega (arith, tap_at taps up k d (omega arith), up k (suc k) d (omega arith) l)

pub taps_few : (b : ℕ) (taps : List Tap) → AllPairs (λ s t. s.source < t.source) taps → All (λ t. t.source < b) taps → length taps ≤ b
taps_few b [] up below = omega arith
taps_few b (t ∷ ts) up below = omega (arith, tap_at (t ∷ ts) up (length ts) t (omega arith), below (length ts) t (omega arith))

pub cell_taps_few : (n : ℕ) → n ≤ max_nodes → (c : Cell) → CellInRange n c → length c.taps.items ≤ sources
cell_taps_few n few c r = taps_few sources c.taps.items r.ascending (λ k d l. source_place n _ few (r.taps k d l).source)

cells_few : (n : ℕ) → n ≤ max_nodes → (cs : List Cell) → All (CellInRange n) cs → length (cell_words cs) ≤ length cs * 34
unfolding cell_words
cells_few n few [] each = omega arith
cells_few n few (c ∷ cs) each =
    omega (
      arith,
      length-append (tap_words c.taps.items) (cell_words cs),
      length-map c.taps.items (λ (t : Tap). tap_word t.source t.delay),
      cell_taps_few n few c (each 0 c (omega arith)),
      cells_few n few cs (λ k d l. each (suc k) d (omega arith)),
    )

-- a program has at most 1,124 words
pub program_few : (p : ProgramTable) → ProgramInRange p → length (program_body p) ≤ 1123
program_few p r =
    let out = length_push (program_front p) (array_output_word p.output.source p.output.delay) in
    let front = length-append (line_words p.count 0 p.lines.items) (cell_words p.cells.items) in
    let lines = lines_count p.count 0 p.lines.items in
    let cells = cells_few p.count r.few p.cells.items r.ranges in
    omega (arith, r.lines, r.cells, r.few)

-- one node more
pub member_push : (nodes : List ℕ) (x y : ℕ) → is_member eqb nodes x ≡ false → (y ≡ x → ⊥) → is_member eqb (nodes ++ y ∷ []) x ≡ false
member_push nodes x y none apart =
    list_any-append (eqb x) nodes (y ∷ []) ∙ ap (λ b. b || (eqb x y || false)) none ∙ ap (λ b. b || false) (ne_eqb x y (λ e. apart (sym e)))
