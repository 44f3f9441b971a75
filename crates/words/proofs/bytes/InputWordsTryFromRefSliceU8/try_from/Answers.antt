use Rattle.std.proofs.Common.{◌≡◌, ℕ, zero, suc, ◌+◌, ◌*◌, ◌/◌, ◌%◌, ◌<◌, ◌≤◌, min, List, [], length, get_or, map, take, drop, sym, ap, ◌∙◌, ⊎_elim, arith}
use Rattle.std.specs.Simd.{first_chunks}
use Rattle.std.specs.List.{range_with_len}
use Rattle.std.proofs.lemmas.List.{length-take, length-map, take_all, get_or-take, get_or-drop, get_or-map}
use Rattle.std.proofs.lemmas.List.FromFn.{fill_by_all}
use Rattle.std.proofs.lemmas.Bool.{cases_lt, eqb-true, eq-eqb, true≢false}
use Rattle.words.specs.Bytes.{word_at, taken, packed, max_bytes}
use Rattle.words.specs.Refusals.{no_word}
use Rattle.words.proofs.bytes.InputWordsTryFromRefSliceU8.try_from.Goals as goal

-- the part of the bytes that is packed is what is taken
part : (bytes : List ℕ) (n : ℕ) → n ≡ min (length bytes) max_bytes → take n bytes ≡ taken bytes
part bytes n e =
    ⊎_elim
    (λ (l : length bytes < max_bytes). take_all n bytes (omega arith) ∙ sym (take_all max_bytes bytes (omega arith)))
    (λ (l : max_bytes ≤ length bytes). let same : n ≡ max_bytes = omega arith in ap (λ m. take m bytes) same)
    (cases_lt (length bytes) max_bytes)

-- at most 1,092 whole words are taken
few : (bytes : List ℕ) (n m : ℕ) → n ≡ min (length bytes) max_bytes → m ≡ length (take n bytes) / 4 → m ≤ 1092
few bytes n m e is = omega (arith, length-take n bytes)

-- byte j of pack k
byte_of : (n k j : ℕ) (xs : List ℕ) → k < n → j < 4 → get_or (get_or (first_chunks 4 n xs) k []) j 0 ≡ get_or xs (4 * k + j) 0
byte_of zero k j xs l m = absurd (omega arith)
byte_of (suc n) zero j xs l m = get_or-take 4 xs j 0 m ∙ ap (λ i. get_or xs i 0) {x = j} {y = 4 * zero + j} (omega arith)
byte_of (suc n) (suc k) j xs l m =
    byte_of n k j (drop 4 xs) (omega arith) m ∙ get_or-drop 4 xs (4 * k + j) 0 ∙ ap (λ i. get_or xs i 0) {x = 4 + (4 * k + j)} {y = 4 * suc k + j} (omega arith)

-- the word of pack k
word_of : (n k : ℕ) (xs : List ℕ) → k < n → word_at (get_or (first_chunks 4 n xs) k []) 0 ≡ word_at xs k
word_of n k xs l =
    let p : List ℕ = get_or (first_chunks 4 n xs) k [] in
    ap (λ a. ((a * 256 + get_or p 1 0) * 256 + get_or p 2 0) * 256 + get_or p 3 0) (byte_of n k 0 xs l (omega arith) ∙ ap (λ i. get_or xs i 0) {x = 4 * k + 0} {y = 4 * k} (omega arith))
    ∙ ap (λ a. ((get_or xs (4 * k) 0 * 256 + a) * 256 + get_or p 2 0) * 256 + get_or p 3 0) (byte_of n k 1 xs l (omega arith))
    ∙ ap (λ a. ((get_or xs (4 * k) 0 * 256 + get_or xs (4 * k + 1) 0) * 256 + a) * 256 + get_or p 3 0) (byte_of n k 2 xs l (omega arith))
    ∙ ap (λ a. ((get_or xs (4 * k) 0 * 256 + get_or xs (4 * k + 1) 0) * 256 + get_or xs (4 * k + 2) 0) * 256 + a) (byte_of n k 3 xs l (omega arith))

-- so the words of the packs are those of the bytes
words_packed : (n : ℕ) (xs : List ℕ) (packs : List (List ℕ)) → packs ≡ first_chunks 4 n xs → length packs ≡ n → map (λ pack. word_at pack 0) packs ≡ map (word_at xs) (range_with_len 0 n)
words_packed n xs packs e long =
    fill_by_all (word_at xs) (map (λ pack. word_at pack 0) packs) n 0 (length-map packs (λ pack. word_at pack 0) ∙ long) (λ k l.
    get_or-map (λ (pack : List ℕ). word_at pack 0) packs k [] 0 (omega (arith, long)) ∙ ap (λ ps. word_at (get_or ps k []) 0) e ∙ word_of n k xs l)

pub fill-requires : goal.fill-requires
fill-requires c = few c.args.bytes.now c.min.result _ c.min.ensures c.as_chunks.ensures.front_len

pub returns-then-not-is_empty : goal.returns-then-not-is_empty
returns-then-not-is_empty c =
    let p = part c.args.bytes.now c.min.result c.min.ensures in (
      λ h. true≢false (sym (eq-eqb _ _ (c.as_chunks.ensures.back_len ∙ ap (λ bs. length bs % 4) p ∙ h)) ∙ sym c.if-not-is_empty.ensures),
      c.at.ensures ∙ ap no_word (c.as_chunks.ensures.front_len ∙ ap (λ bs. length bs / 4) p),
    )

pub invariant_of-result : goal.invariant_of-result
invariant_of-result c = record { few = few c.args.bytes.now c.min.result _ c.min.ensures c.as_chunks.ensures.front_len }

pub returns : goal.returns
returns c =
    let bs : List ℕ = take c.min.result c.args.bytes.now in
    let p = part c.args.bytes.now c.min.result c.min.ensures in
    let packs = c.as_chunks.ensures in (
      ap (λ xs. length xs % 4) (sym p) ∙ sym packs.back_len ∙ eqb-true _ _ (sym c.if-not-is_empty.ensures),
      c.fill.ensures ∙ words_packed (length bs / 4) bs c.as_chunks.result.0.now packs.front packs.front_len
          ∙ ap packed p,
    )
