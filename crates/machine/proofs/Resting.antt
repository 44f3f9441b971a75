-- Registers filled from a rest row, a line at a time.
use Rattle.std.proofs.Common.{◌≡◌, ℕ, zero, suc, ◌+◌, ◌<◌, ◌≤◌, List, [], ◌∷◌, ◌++◌, length, get_or, sum, take, drop, replicate, sym, refl, ap, ◌∙◌, ⊎_elim, eqb, true, append_assoc, zero-add, arith}
use Rattle.std.proofs.lemmas.List.{get_or-append-add, get_or_append_left, get_or-replicate, get_or-take, take_more, length-append, length-replicate, length-take-le, take_at, drop_at, drop-drop, append-nil}
use Rattle.std.proofs.lemmas.List.Sums.{sum_by-cons, sum_by_more_le}
use Rattle.std.proofs.lemmas.Bool.{cond-true, cond-false, eq-eqb, ne_eqb, cases_eq}
use borrow.Rule.Slice.PartMut.{put_mid}
use Rattle.words.specs.declared.program_table.ProgramTable.{ProgramTable}
use Rattle.words.specs.ProgramTables.{ProgramInRange}
use Rattle.words.specs.Designs.{input, is_source, max_nodes}
use Rattle.machine.specs.Arrays.{array_in}
use Rattle.machine.specs.Buffers.{rest_place, rest_in}
use Rattle.machine.specs.Steps.{AtRest, registers_in, line_long, line_place, present_place}
use Rattle.machine.proofs.Histories.{source_node}
use Rattle.machine.specs.Starting.{lines_at_rest, registers_at_rest}

pub rest_none : {E : Type 0} → lines_at_rest {E = E} [] [] ≡ []
unfolding lines_at_rest
rest_none = refl

-- a source's line and its rest value have the same place in their rows
pub place_low : (n j : ℕ) → is_source n j ≡ true → rest_place n j ≤ n
place_low n j s =
    ⊎_elim
    (λ (e : j ≡ input). let is = cond-true (eqb j input) n j (eq-eqb j input e) in omega (arith, is))
    (λ (other : j ≡ input → ⊥). let is = cond-false (eqb j input) n j (ne_eqb j input other) in omega (arith, is, source_node n j s other))
    (cases_eq j input)

place_node : (n i : ℕ) → n ≤ max_nodes → i < n → rest_place n i ≡ i
place_node n i few l = cond-false (eqb i input) n i (ne_eqb i input (λ e. omega arith))

module _ {E : Type 0} where
  rest_push : (ls : List ℕ) (rs : List E) (l : ℕ) (r : E) → length rs ≡ length ls → lines_at_rest (ls ++ l ∷ []) (rs ++ r ∷ []) ≡ lines_at_rest ls rs ++ replicate l r
  unfolding lines_at_rest
  rest_push [] [] l r e = append-nil (replicate l r)
  rest_push [] (x ∷ rs) l r e = absurd (omega arith)
  rest_push (n ∷ ls) [] l r e = absurd (omega arith)
  rest_push (n ∷ ls) (x ∷ rs) l r e =
      ap (λ xs. replicate n x ++ xs) (rest_push ls rs l r (omega arith)) ∙ sym (append_assoc (replicate n x) (lines_at_rest ls rs) (replicate l r))

  -- one line more
  pub rest_more : (lines : List ℕ) (rest : List E) (k : ℕ) (d : E) → length rest ≡ length lines → k < length lines →
      lines_at_rest (take (k + 1) lines) (take (k + 1) rest) ≡ lines_at_rest (take k lines) (take k rest) ++ replicate (get_or lines k 0) (get_or rest k d)
  rest_more lines rest k d e l =
      (λ i. lines_at_rest (take_more lines k 0 l i) (take_more rest k d (omega arith) i))
      ∙ rest_push (take k lines) (take k rest) (get_or lines k 0) (get_or rest k d) (omega (arith, length-take-le k lines (omega arith), length-take-le k rest (omega arith)))

  pub rest_long : (lines : List ℕ) (rest : List E) → length rest ≡ length lines → length (lines_at_rest lines rest) ≡ sum lines
  unfolding lines_at_rest
  rest_long [] [] e = refl
  rest_long [] (r ∷ rs) e = absurd (omega arith)
  rest_long (l ∷ ls) [] e = absurd (omega arith)
  rest_long (l ∷ ls) (r ∷ rs) e =
      omega (arith, length-append (replicate l r) (lines_at_rest ls rs), length-replicate l r, rest_long ls rs (omega arith), sum_by-cons (λ x. x) l ls)

  -- so many lines
  pub rest_long_of : (lines : List ℕ) (rest : List E) (k : ℕ) → length rest ≡ length lines → k ≤ length lines → length (lines_at_rest (take k lines) (take k rest)) ≡ sum (take k lines)
  rest_long_of lines rest k e l = rest_long (take k lines) (take k rest) (omega (arith, length-take-le k lines l, length-take-le k rest (omega arith)))

  -- a part written over what follows a front
  pub front_more : (front row part now : List E) (s n at k : ℕ) → length front ≡ s → at ≡ s → k ≡ n → now ≡ part → put_mid at k (front ++ drop s row) now ≡ (front ++ part) ++ drop (s + n) row
  front_more front row part now s n at k long is is_k written =
      (λ i. put_mid (is i) (is_k i) (front ++ drop s row) (written i))
      ∙ (λ i. take_at front (drop s row) s (long) i ++ (part ++ drop n (drop_at front (drop s row) s long i)))
      ∙ ap (λ xs. front ++ (part ++ xs)) (drop-drop n s row)
      ∙ sym (append_assoc front part (drop (s + n) row))

  -- how many registers there are at rest
  pub registers_long : (p : ProgramTable) → ProgramInRange p → (rest : List E) → length rest ≡ p.count + 1 → 0 + length (registers_at_rest p rest) ≡ sum p.lines.items + p.count
  registers_long p range rest long =
      omega (
        arith,
        length-append (lines_at_rest p.lines.items rest) (take p.count rest),
        rest_long p.lines.items rest (omega (arith, range.lines)),
        length-take-le p.count rest (omega arith),
      )

  -- what stands after a front
  after_front : (xs ys : List E) (n m : ℕ) (d : E) → length xs ≡ n → get_or (xs ++ ys) (n + m) d ≡ get_or ys m d
  after_front xs ys n m d e = ap (λ k. get_or (xs ++ ys) (k + m) d) (sym e) ∙ get_or-append-add xs ys m d

  -- every place of line k holds the rest value of its source
  at_line : (lines : List ℕ) (rest : List E) (k q : ℕ) (d : E) → length rest ≡ length lines → k < length lines → q < get_or lines k 0 →
      get_or (lines_at_rest lines rest) (sum (take k lines) + q) d ≡ get_or rest k d
  unfolding lines_at_rest
  at_line [] rest k q d e l m = absurd (omega arith)
  at_line (n ∷ ls) [] k q d e l m = absurd (omega arith)
  at_line (n ∷ ls) (r ∷ rs) zero q d e l m =
      ap (λ i. get_or (replicate n r ++ lines_at_rest ls rs) i d) (zero-add q)
      ∙ get_or_append_left (replicate n r) (lines_at_rest ls rs) d q (omega (arith, length-replicate n r)) ∙ get_or-replicate n q r d m
  at_line (n ∷ ls) (r ∷ rs) (suc k) q d e l m =
      ap (λ i. get_or (replicate n r ++ lines_at_rest ls rs) i d) {x = sum (take (suc k) (n ∷ ls)) + q} {y = n + (sum (take k ls) + q)} (omega (arith, sum_by-cons (λ x. x) n (take k ls)))
      ∙ after_front (replicate n r) (lines_at_rest ls rs) n (sum (take k ls) + q) d (length-replicate n r)
      ∙ at_line ls rs k q d (omega arith) (omega arith) m

  -- the registers of a program at rest hold the rest values
  pub at_rest : (p : ProgramTable) → ProgramInRange p → (rest after : List E) → length rest ≡ p.count + 1 → (d : E) →
      AtRest (array_in p) p.lines.items (rest_in p.count rest d) (registers_in p.count p.lines.items (registers_at_rest p rest ++ after) d)
  at_rest p range rest after long d = record { line = line; present = present }
    where
      same : length rest ≡ length p.lines.items
      same = omega (arith, range.lines)

      lines_front : length (lines_at_rest p.lines.items rest) ≡ sum p.lines.items
      lines_front = rest_long p.lines.items rest same

      line : (j q : ℕ) → is_source p.count j ≡ true → q < line_long p.count p.lines.items j → get_or (registers_at_rest p rest ++ after) (line_place p.count p.lines.items j q) d ≡ rest_in p.count rest d j
      line j q s l =
          let k = rest_place p.count j in
          let low : k < length p.lines.items = omega (arith, place_low p.count j s, range.lines) in
          let inside = sum_by_more_le (λ x. x) p.lines.items k 0 low in
          get_or_append_left (registers_at_rest p rest) after d (line_place p.count p.lines.items j q) (omega (arith, registers_long p range rest long))
          ∙ get_or_append_left (lines_at_rest p.lines.items rest) (take p.count rest) d (line_place p.count p.lines.items j q) (omega (arith, lines_front))
          ∙ at_line p.lines.items rest k q d same low l

      present : (i : ℕ) → i < p.count → get_or (registers_at_rest p rest ++ after) (present_place p.lines.items i) d ≡ rest_in p.count rest d i
      present i l =
          get_or_append_left (registers_at_rest p rest) after d (present_place p.lines.items i) (omega (arith, registers_long p range rest long))
          ∙ after_front (lines_at_rest p.lines.items rest) (take p.count rest) (sum p.lines.items) i d lines_front
          ∙ get_or-take p.count rest i d l
          ∙ ap (λ k. get_or rest k d) (sym (place_node p.count i range.few l))
