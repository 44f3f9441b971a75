-- Where lines begin in the registers.
use Rattle.std.proofs.Common.{◌≡◌, ℕ, ◌+◌, ◌<◌, ◌≤◌, List, [], ◌∷◌, ◌++◌, map, length, get_or, sum, take, sym, ap, ◌∙◌, arith}
use Rattle.std.specs.List.{range_with_len}
use Rattle.std.proofs.lemmas.List.Sums.{sum_by_more}
use Rattle.std.proofs.lemmas.List.FromFn.{length-map-range_with_len, get_or-map-range_with_len, map-range_with_len_more}
use Rattle.machine.specs.Wirings.{line_starts}

module _ (lines : List ℕ) where
  abbrev begins : ℕ → ℕ
  begins k = sum (take k lines)

  pub starts_long : length (line_starts lines) ≡ length lines + 1
  starts_long = length-map-range_with_len begins 0 (length lines + 1)

  pub starts_at : (k : ℕ) → k ≤ length lines → get_or (line_starts lines) k 0 ≡ begins k
  starts_at k l = get_or-map-range_with_len begins 0 (length lines + 1) k k 0 (omega arith) (omega arith)

  -- the lines so far
  pub starts_some : (starts : List ℕ) (k : ℕ) → starts ≡ map begins (range_with_len 0 k) → length starts ≡ k
  starts_some starts k is = ap length is ∙ length-map-range_with_len begins 0 k

  -- one more
  pub starts_more : (starts : List ℕ) (k start : ℕ) → starts ≡ map begins (range_with_len 0 k) → start ≡ begins k → starts ++ start ∷ [] ≡ map begins (range_with_len 0 (k + 1))
  starts_more starts k start is at = ap (λ xs. xs ++ start ∷ []) is ∙ ap (λ n. map begins (range_with_len 0 k) ++ n ∷ []) at ∙ sym (map-range_with_len_more begins 0 k k (omega arith))

  pub begins_more : (k : ℕ) → k < length lines → begins (k + 1) ≡ begins k + get_or lines k 0
  begins_more k l = sum_by_more (λ x. x) lines k 0 l
