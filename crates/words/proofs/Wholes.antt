-- A word is made of its kind and its fields, and falls into them again.
use Rattle.std.proofs.Common.{◌≡◌, ℕ, ◌+◌, ◌*◌, ◌/◌, ◌%◌, ◌^◌, ◌<◌, sym, refl, ap, ◌∙◌, add-zero, add_assoc, mod-eq_of_lt, mul_assoc, add-mul, zero-add, zero-mul, div-one, arith, Some, None, Option}
use native.Mathlib.Nat.{mod-one}
use Rattle.std.proofs.lemmas.Nat.{shr-shr, shr_below, shr_split, shr_high, mod_low, pow-add, pow_pos}
use Rattle.std.proofs.lemmas.Bool.Decides.{nat_tests}
use Rattle.words.specs.declared.kinds.Kind.{Kind}
use Rattle.words.specs.declared.kinds.Kind.TheVariants as kind
use Rattle.words.specs.Fields.{field, word_of, kind_number}
use Rattle.words.specs.Kinds.{kind_of, kind_numbered, number_of}

powers : (a b c k : ℕ) → a + b + c ≡ 28 → k * 2 ^ c * 2 ^ b * 2 ^ a ≡ k * 2 ^ 28
powers a b c k sum =
    let order : c + (b + a) ≡ 28 = omega arith in
    mul_assoc (k * 2 ^ c) (2 ^ b) (2 ^ a) ∙ mul_assoc k (2 ^ c) (2 ^ b * 2 ^ a)
    ∙ ap (λ n. k * n) (ap (λ n. 2 ^ c * n) (sym (pow-add 2 b a)) ∙ sym (pow-add 2 c (b + a)) ∙ ap (λ n. 2 ^ n) order)

-- a word of kind k with a field of `a` bits, above it one of `b` bits, and `c` unnamed bits above that
pub whole_two : (a b c k w : ℕ) → a + b + c ≡ 28 → w < 2 ^ 32 → kind_number w ≡ k → field (a + b) c w ≡ 0 → w ≡ word_of k (field a b w * 2 ^ a + field 0 a w)
whole_two a b c k w sum fits kind clear =
    let top : w / 2 ^ 28 ≡ k = sym (mod-eq_of_lt (shr_below w 4 28 fits)) ∙ kind in
    let high : w / 2 ^ (a + b) ≡ k * 2 ^ c =
    sym (shr_split (w / 2 ^ (a + b)) c) ∙ ap (λ n. w / 2 ^ (a + b) / 2 ^ c * 2 ^ c + n) clear ∙ add-zero _
    ∙ ap (λ n. n * 2 ^ c) (shr-shr w (a + b) c ∙ ap (λ n. w / 2 ^ n) sum ∙ top) in
    let mid : w / 2 ^ a ≡ k * 2 ^ c * 2 ^ b + field a b w =
    sym (shr_split (w / 2 ^ a) b) ∙ ap (λ n. n * 2 ^ b + field a b w) (shr-shr w a b ∙ high) in
    let low : field 0 a w ≡ w % 2 ^ a = ap (λ n. n % 2 ^ a) (div-one w) in
    sym (shr_split w a) ∙ ap (λ n. n * 2 ^ a + w % 2 ^ a) mid ∙ ap (λ n. n + w % 2 ^ a) (add-mul (k * 2 ^ c * 2 ^ b) (field a b w) (2 ^ a))
    ∙ add_assoc _ _ _ ∙ ap (λ n. n + (field a b w * 2 ^ a + w % 2 ^ a)) (powers a b c k sum) ∙ ap (λ n. k * 2 ^ 28 + (field a b w * 2 ^ a + n)) (sym low)

-- and such a word falls into its fields again
module _ (a b c k x y : ℕ) (sum : a + b + c ≡ 28) (low : x < 2 ^ a) (high : y < 2 ^ b) where
  apart : word_of k (y * 2 ^ a + x) ≡ (k * 2 ^ c * 2 ^ b + y) * 2 ^ a + x
  apart = ap (λ n. n + (y * 2 ^ a + x)) (sym (powers a b c k sum)) ∙ sym (add_assoc (k * 2 ^ c * 2 ^ b * 2 ^ a) (y * 2 ^ a) x) ∙ ap (λ n. n + x) (sym (add-mul (k * 2 ^ c * 2 ^ b) y (2 ^ a)))

  shifted : word_of k (y * 2 ^ a + x) / 2 ^ a ≡ k * 2 ^ c * 2 ^ b + y
  shifted = ap (λ n. n / 2 ^ a) apart ∙ shr_high (k * 2 ^ c * 2 ^ b + y) a x low

  pub low_field : field 0 a (word_of k (y * 2 ^ a + x)) ≡ x
  low_field = ap (λ n. n % 2 ^ a) (div-one (word_of k (y * 2 ^ a + x)) ∙ apart) ∙ mod_low (k * 2 ^ c * 2 ^ b + y) a x low

  pub high_field : field a b (word_of k (y * 2 ^ a + x)) ≡ y
  high_field = ap (λ n. n % 2 ^ b) shifted ∙ mod_low (k * 2 ^ c) b y high

  pub clear_field : field (a + b) c (word_of k (y * 2 ^ a + x)) ≡ 0
  clear_field =
      ap (λ n. n % 2 ^ c) (sym (shr-shr (word_of k (y * 2 ^ a + x)) a b) ∙ ap (λ n. n / 2 ^ b) shifted ∙ shr_high (k * 2 ^ c) b y high ∙ sym (add-zero (k * 2 ^ c)))
      ∙ mod_low k c 0 (pow_pos c)

-- with one field of `a` bits
pub whole_one : (a c k w : ℕ) → a + c ≡ 28 → w < 2 ^ 32 → kind_number w ≡ k → field a c w ≡ 0 → w ≡ word_of k (field 0 a w)
whole_one a c k w sum fits kind clear =
    let e = whole_two a 0 c k w (ap (λ n. n + c) (add-zero a) ∙ sum) fits kind (ap (λ n. field n c w) (add-zero a) ∙ clear) in
    e ∙ ap (λ n. word_of k (n * 2 ^ a + field 0 a w)) (mod-one (w / 2 ^ a)) ∙ ap (λ n. word_of k (n + field 0 a w)) (zero-mul (2 ^ a)) ∙ ap (word_of k) (zero-add (field 0 a w))

module _ (a c k x : ℕ) (sum : a + c ≡ 28) (low : x < 2 ^ a) where
  alone : word_of k (0 * 2 ^ a + x) ≡ word_of k x
  alone = ap (λ n. word_of k (n + x)) (zero-mul (2 ^ a)) ∙ ap (word_of k) (zero-add x)

  pub low_only : field 0 a (word_of k x) ≡ x
  low_only = ap (field 0 a) (sym alone) ∙ low_field a 0 c k x 0 (ap (λ n. n + c) (add-zero a) ∙ sum) low (omega arith)

  pub clear_only : field a c (word_of k x) ≡ 0
  clear_only =
      ap (λ n. field n c (word_of k x)) (sym (add-zero a)) ∙ ap (field (a + 0) c) (sym alone) ∙ clear_field a 0 c k x 0 (ap (λ n. n + c) (add-zero a) ∙ sum) low (omega arith)

-- a word's kind is the one that it was made with
pub kind_made : (k : Option Kind) (x : ℕ) → x < 2 ^ 28 → kind_of (word_of (number_of k) x) ≡ k
unfolding kind_numbered
kind_made k x h = ap kind_numbered (numbered k) ∙ back k
  where
    small : (κ : Option Kind) → number_of κ < 16
    small (Some kind.Head) = omega arith
    small (Some kind.Node) = omega arith
    small (Some kind.Feed) = omega arith
    small (Some kind.Output) = omega arith
    small (Some kind.End) = omega arith
    small None = omega arith

    numbered : (κ : Option Kind) → kind_number (word_of (number_of κ) x) ≡ number_of κ
    numbered κ = omega (arith, small κ)

    back : (κ : Option Kind) → kind_numbered (number_of κ) ≡ κ
    back (Some kind.Head) = refl
    back (Some kind.Node) = refl
    back (Some kind.Feed) = refl
    back (Some kind.Output) = refl
    back (Some kind.End) = refl
    back None = refl

-- a word of a design's kind has that kind's number
pub kind_found : (w : ℕ) (k : Option Kind) → kind_of w ≡ k → 0 < number_of k → kind_number w ≡ number_of k
unfolding kind_numbered
kind_found w k e h =
    let n : ℕ = kind_number w in
    let z : ◌≡◌ {A = Option Kind} (kind_numbered n) k = e in
    let m : number_of (kind_numbered n) ≡ number_of k = ap number_of e in
    grind (arith, nat_tests)
