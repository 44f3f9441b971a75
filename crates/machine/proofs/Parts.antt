-- A row of which a part is written anew.
use Rattle.std.proofs.Common.{◌≡◌, ℕ, ◌+◌, ◌-◌, ◌<◌, ◌≤◌, List, ◌++◌, length, get_or, take, drop, sym, ap, ◌∙◌, arith}
use Rattle.std.proofs.lemmas.List.{get_or_append_left, get_or-append-add, get_or-take, get_or-drop, length-append, length-take-le, length-drop, drop-drop, drop_at}
use borrow.Rule.Slice.PartMut.{put_mid}

module _ {E : Type 0} (row part : List E) (at n : ℕ) (long : length part ≡ n) (room : at + n ≤ length row) where
  front : length (take at row) ≡ at
  front = length-take-le at row (omega arith)

  pub part_long : length (put_mid at n row part) ≡ length row
  part_long = omega (arith, front, length-append (take at row) (part ++ drop n (drop at row)), length-append part (drop n (drop at row)), length-drop n (drop at row), length-drop at row)

  pub part_before : (i : ℕ) (d : E) → i < at → get_or (put_mid at n row part) i d ≡ get_or row i d
  part_before i d l = get_or_append_left (take at row) (part ++ drop n (drop at row)) d i (omega (arith, front)) ∙ get_or-take at row i d l

  pub part_in : (i : ℕ) (d : E) → i < n → get_or (put_mid at n row part) (at + i) d ≡ get_or part i d
  part_in i d l =
      ap (λ k. get_or (put_mid at n row part) k d) {x = at + i} {y = length (take at row) + i} (omega (arith, front))
      ∙ get_or-append-add (take at row) (part ++ drop n (drop at row)) i d ∙ get_or_append_left part (drop n (drop at row)) d i (omega arith)

  pub part_after : drop (at + n) (put_mid at n row part) ≡ drop (at + n) row
  part_after =
      sym (drop-drop n at (put_mid at n row part)) ∙ ap (drop n) (drop_at (take at row) (part ++ drop n (drop at row)) at front) ∙ drop_at part (drop n (drop at row)) n long ∙ drop-drop n at row

-- a place from which on two rows are alike
pub alike_from : {E : Type 0} (a b : List E) (s q : ℕ) (d : E) → drop s a ≡ drop s b → s ≤ q → get_or a q d ≡ get_or b q d
alike_from a b s q d same l =
    ap (λ k. get_or a k d) {x = q} {y = s + (q - s)} (omega arith) ∙ sym (get_or-drop s a (q - s) d) ∙ ap (λ xs. get_or xs (q - s) d) same ∙ get_or-drop s b (q - s) d
    ∙ ap (λ k. get_or b k d) {x = s + (q - s)} {y = q} (omega arith)
