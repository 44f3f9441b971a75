-- Lines that have moved on, a line at a time.
use Rattle.std.proofs.Common.{◌≡◌, ℕ, zero, suc, ◌+◌, ◌<◌, ◌≤◌, List, ◌∷◌, length, get_or, sum, take, drop, sym, refl, ap, ◌∙◌, ⊎_elim, arith}
use Rattle.std.proofs.lemmas.List.{get_or-take, get_or-drop, length-take-le, length-drop, drop-drop}
use Rattle.std.proofs.lemmas.List.Sums.{sum_by_more}
use Rattle.std.proofs.lemmas.Bool.{cases_eq}
use borrow.Rule.Slice.PartMut.{put_mid}
use Rattle.machine.specs.Moving.{newest_of, LinesMoved}
use Rattle.machine.proofs.Parts.{part_before, part_in, part_after, alike_from}

-- lines before another end where it begins, or before
pub ends_before : (lines : List ℕ) (i k : ℕ) → i < k → k ≤ length lines → sum (take i lines) + get_or lines i 0 ≤ sum (take k lines)
ends_before lines i (suc k) l few =
    ⊎_elim
    (λ (last : i ≡ k). omega (arith, ap (λ j. sum (take j lines) + get_or lines j 0) last, sum_by_more (λ x. x) lines k 0 (omega arith), ap (λ j. sum (take j lines)) {x = k + 1} {y = suc k} (omega arith)))
    (λ (other : i ≡ k → ⊥).
    omega (arith, ends_before lines i k (omega (arith, other)) (omega arith), sum_by_more (λ x. x) lines k 0 (omega arith), ap (λ j. sum (take j lines)) {x = k + 1} {y = suc k} (omega arith)))
    (cases_eq i k)
ends_before lines i zero l few = absurd (omega arith)

pub lines_none : {E : Type 0} (n : ℕ) (lines : List ℕ) (x d : E) (row : List E) → LinesMoved n lines x d row row 0
lines_none n lines x d row = record { newest = λ i l. absurd (omega arith); moved = λ i p l. absurd (omega arith); rest = refl }

module _ {E : Type 0} (n : ℕ) (lines : List ℕ) (x d : E) (before now part : List E) (k at len : ℕ) (v : E) (so_far : LinesMoved n lines x d before now k) (below : k < length lines)
    (begins : at ≡ sum (take k lines)) (long : len ≡ get_or lines k 0) (room : at + len ≤ length now) (newest : v ≡ newest_of n lines x d before k)
    (written : part ≡ take len (v ∷ take len (drop at now))) where
  segment : length (take len (drop at now)) ≡ len
  segment = length-take-le len (drop at now) (omega (arith, length-drop at now))

  part_len : length part ≡ len
  part_len = ap length written ∙ length-take-le len (v ∷ take len (drop at now)) (omega (arith, segment))

  ends : at + len ≡ sum (take (k + 1) lines)
  ends = omega (arith, begins, long, sum_by_more (λ y. y) lines k 0 below)

  -- what stood there before
  unmoved : (q : ℕ) → at ≤ q → get_or now q d ≡ get_or before q d
  unmoved q l = alike_from now before (sum (take k lines)) q d so_far.rest (omega (arith, begins))

  first : 0 < len → get_or (put_mid at len now part) (sum (take k lines)) d ≡ v
  first some =
      ap (λ q. get_or (put_mid at len now part) q d) {x = sum (take k lines)} {y = at + 0} (omega (arith, begins))
      ∙ part_in now part at len part_len room 0 d some ∙ ap (λ xs. get_or xs 0 d) written ∙ get_or-take len (v ∷ take len (drop at now)) 0 d some

  later : (p : ℕ) → suc p < len → get_or (put_mid at len now part) (sum (take k lines) + suc p) d ≡ get_or before (sum (take k lines) + p) d
  later p l =
      ap (λ q. get_or (put_mid at len now part) q d) {x = sum (take k lines) + suc p} {y = at + suc p} (omega (arith, begins))
      ∙ part_in now part at len part_len room (suc p) d l ∙ ap (λ xs. get_or xs (suc p) d) written ∙ get_or-take len (v ∷ take len (drop at now)) (suc p) d l
      ∙ get_or-take len (drop at now) p d (omega arith) ∙ get_or-drop at now p d ∙ unmoved (at + p) (omega arith)
      ∙ ap (λ q. get_or before q d) {x = at + p} {y = sum (take k lines) + p} (omega (arith, begins))

  pub lines_more : LinesMoved n lines x d before (put_mid at len now part) (k + 1)
  lines_more =
      record {
        newest = λ i l some.
            ⊎_elim
            (λ (same : i ≡ k).
            ap (λ j. get_or (put_mid at len now part) (sum (take j lines)) d) same ∙ first (omega (arith, long, ap (λ j. get_or lines j 0) same)) ∙ newest ∙ ap (newest_of n lines x d before) (sym same))
            (λ (other : i ≡ k → ⊥).
            let li : i < k = omega (arith, other) in
            part_before now part at len part_len room (sum (take i lines)) d (omega (arith, begins, ends_before lines i k li (omega arith))) ∙ so_far.newest i li some)
            (cases_eq i k);
        moved = λ i p l some.
            ⊎_elim
            (λ (same : i ≡ k).
            ap (λ j. get_or (put_mid at len now part) (sum (take j lines) + suc p) d) same ∙ later p (omega (arith, long, ap (λ j. get_or lines j 0) same)) ∙ ap (λ j. get_or before (sum (take j lines) + p) d) (sym same))
            (λ (other : i ≡ k → ⊥).
            let li : i < k = omega (arith, other) in
            part_before now part at len part_len room (sum (take i lines) + suc p) d (omega (arith, begins, ends_before lines i k li (omega arith))) ∙ so_far.moved i p li some)
            (cases_eq i k);
        rest =
            ap (λ q. drop q (put_mid at len now part)) (sym ends) ∙ part_after now part at len part_len room
            ∙ sym (drop-drop len at now) ∙ ap (drop len) (ap (λ q. drop q now) begins ∙ so_far.rest ∙ ap (λ q. drop q before) (sym begins)) ∙ drop-drop len at before ∙ ap (λ q. drop q before) ends;
      }
