-- Lists of nodes: which it has, at which place, and how many.
use Rattle.std.proofs.Common.{◌≡◌, ℕ, zero, suc, ◌+◌, ◌<◌, ◌≤◌, Bool, true, false, eqb, ◌⊎◌, List, [], ◌∷◌, ◌++◌, length, get_or, sym, refl, ap, ◌∙◌, subst, inl, inr, ⊎_elim, arith}
use Rattle.std.proofs.lemmas.List.{length_push, get_or_append_left, get_or_push}
use Rattle.std.proofs.lemmas.Bool.{false≢true, both_ways, cases_Bool, cases_eq, cases_lt, eqb-true, eq-eqb, or_cases, or_left, or_right, or_parts, cond-true, cond-false}
use Rattle.bench.specs.Firing.{has, place_in}

-- one node more
pub has_old : (l : List ℕ) (x i : ℕ) → has l i ≡ true → has (l ++ x ∷ []) i ≡ true
unfolding has
has_old [] x i h = absurd (false≢true h)
has_old (y ∷ l) x i h =
    ⊎_elim (λ (e : eqb y i ≡ true). or_left _ _ e) (λ (e : has l i ≡ true). or_right _ _ (has_old l x i e)) (or_cases (eqb y i) (has l i) h)

pub has_new : (l : List ℕ) (x : ℕ) → has (l ++ x ∷ []) x ≡ true
unfolding has
has_new [] x = or_left _ _ (eq-eqb x x refl)
has_new (y ∷ l) x = or_right _ _ (has_new l x)

pub has_push : (l : List ℕ) (x i : ℕ) → has (l ++ x ∷ []) i ≡ true → (has l i ≡ true) ⊎ (x ≡ i)
unfolding has
has_push [] x i h = ⊎_elim (λ (e : eqb x i ≡ true). inr (eqb-true x i e)) (λ (e : false ≡ true). absurd (false≢true e)) (or_cases (eqb x i) false h)
has_push (y ∷ l) x i h =
    ⊎_elim
    (λ (e : eqb y i ≡ true). inl (or_left _ _ e))
    (λ (e : has (l ++ x ∷ []) i ≡ true). ⊎_elim (λ (o : has l i ≡ true). inl (or_right (eqb y i) (has l i) o)) (λ (o : x ≡ i). inr o) (has_push l x i e))
    (or_cases (eqb y i) (has (l ++ x ∷ []) i) h)

pub has_other : (l : List ℕ) (x i : ℕ) → (x ≡ i → ⊥) → has (l ++ x ∷ []) i ≡ has l i
has_other l x i ne =
    ⊎_elim
    (λ (h : has l i ≡ true). has_old l x i h ∙ sym h)
    (λ (h : has l i ≡ false).
    ⊎_elim
    (λ (k : has (l ++ x ∷ []) i ≡ true). ⊎_elim (λ (o : has l i ≡ true). k ∙ sym o) (λ (e : x ≡ i). absurd (ne e)) (has_push l x i k))
    (λ (k : has (l ++ x ∷ []) i ≡ false). k ∙ sym h)
    (cases_Bool (has (l ++ x ∷ []) i)))
    (cases_Bool (has l i))

pub place_old : (l : List ℕ) (x i : ℕ) → has l i ≡ true → place_in (l ++ x ∷ []) i ≡ place_in l i
unfolding has place_in
place_old [] x i h = absurd (false≢true h)
place_old (y ∷ l) x i h =
    ⊎_elim
    (λ (e : eqb y i ≡ true). cond-true _ _ _ e ∙ sym (cond-true _ _ _ e))
    (λ (e : eqb y i ≡ false).
    cond-false _ _ _ e ∙ ap suc (place_old l x i (⊎_elim (λ (t : eqb y i ≡ true). absurd (both_ways (eqb y i) e t)) (λ (t : has l i ≡ true). t) (or_cases (eqb y i) (has l i) h))) ∙ sym (cond-false _ _ _ e))
    (cases_Bool (eqb y i))

pub place_new : (l : List ℕ) (x : ℕ) → has l x ≡ false → place_in (l ++ x ∷ []) x ≡ length l
unfolding has place_in
place_new [] x h = cond-true _ _ _ (eq-eqb x x refl)
place_new (y ∷ l) x h = let p = or_parts (eqb y x) (has l x) h in cond-false _ _ _ p.0 ∙ ap suc (place_new l x p.1)

pub place_below : (l : List ℕ) (i : ℕ) → has l i ≡ true → place_in l i < length l
unfolding has place_in
place_below [] i h = absurd (false≢true h)
place_below (y ∷ l) i h =
    ⊎_elim
    (λ (e : eqb y i ≡ true). subst (λ m. m < suc (length l)) (sym (cond-true _ _ _ e)) (omega arith))
    (λ (e : eqb y i ≡ false).
    let t : has l i ≡ true = ⊎_elim (λ (t : eqb y i ≡ true). absurd (both_ways (eqb y i) e t)) (λ (t : has l i ≡ true). t) (or_cases (eqb y i) (has l i) h) in
    let b = place_below l i t in
    subst (λ m. m < suc (length l)) (sym (cond-false _ 0 (suc (place_in l i)) e)) (omega arith))
    (cases_Bool (eqb y i))

pub place_at : (l : List ℕ) (i : ℕ) → has l i ≡ true → get_or l (place_in l i) 0 ≡ i
unfolding has place_in
place_at [] i h = absurd (false≢true h)
place_at (y ∷ l) i h =
    ⊎_elim
    (λ (e : eqb y i ≡ true). ap (λ m. get_or (y ∷ l) m 0) (cond-true _ 0 (suc (place_in l i)) e) ∙ eqb-true y i e)
    (λ (e : eqb y i ≡ false).
    let t : has l i ≡ true = ⊎_elim (λ (t : eqb y i ≡ true). absurd (both_ways (eqb y i) e t)) (λ (t : has l i ≡ true). t) (or_cases (eqb y i) (has l i) h) in
    ap (λ m. get_or (y ∷ l) m 0) (cond-false _ 0 (suc (place_in l i)) e) ∙ place_at l i t)
    (cases_Bool (eqb y i))

pub has_at : (l : List ℕ) (k : ℕ) → k < length l → has l (get_or l k 0) ≡ true
unfolding has
has_at [] k h = absurd (omega arith)
has_at (y ∷ l) zero h = or_left _ _ (eq-eqb y y refl)
has_at (y ∷ l) (suc k) h = or_right _ _ (has_at l k (omega arith))

one_if : Bool → ℕ
one_if true = 1
one_if false = 0

if_true : (b : Bool) → b ≡ true → one_if b ≡ 1
unfolding one_if
if_true b e = ap one_if e

if_false : (b : Bool) → b ≡ false → one_if b ≡ 0
unfolding one_if
if_false b e = ap one_if e

one_or_none : (b : Bool) → one_if b ≤ 1
unfolding one_if
one_or_none true = omega arith
one_or_none false = omega arith

-- how many of the first m nodes it has
pub counted : ℕ → List ℕ → ℕ
counted zero l = 0
counted (suc m) l = counted m l + one_if (has l m)

pub counted_le : (m : ℕ) (l : List ℕ) → counted m l ≤ m
unfolding counted
counted_le zero l = omega arith
counted_le (suc m) l = omega (arith, counted_le m l, one_or_none (has l m))

counted_nil : (m : ℕ) → counted m [] ≡ 0
unfolding counted has one_if
counted_nil zero = refl
counted_nil (suc m) = omega (arith, counted_nil m)

counted_same : (m : ℕ) (l : List ℕ) (x : ℕ) → m ≤ x → counted m (l ++ x ∷ []) ≡ counted m l
unfolding counted
counted_same zero l x h = refl
counted_same (suc m) l x h =
    let e : one_if (has (l ++ x ∷ []) m) ≡ one_if (has l m) = ap one_if (has_other l x m (λ q. omega arith)) in omega (arith, counted_same m l x (omega arith))

counted_more : (m : ℕ) (l : List ℕ) (x : ℕ) → x < m → has l x ≡ false → counted m (l ++ x ∷ []) ≡ counted m l + 1
unfolding counted
counted_more zero l x h no' = absurd (omega arith)
counted_more (suc m) l x h no' =
    ⊎_elim
    (λ (q : x ≡ m).
    let new : one_if (has (l ++ x ∷ []) m) ≡ 1 = if_true _ (subst (λ n. has (l ++ x ∷ []) n ≡ true) q (has_new l x)) in
    let old : one_if (has l m) ≡ 0 = if_false _ (subst (λ n. has l n ≡ false) q no') in
    omega (arith, counted_same m l x (omega arith)))
    (λ (q : x ≡ m → ⊥).
    let e : one_if (has (l ++ x ∷ []) m) ≡ one_if (has l m) = ap one_if (has_other l x m q) in omega (arith, counted_more m l x (omega (arith, q)) no'))
    (cases_eq x m)

-- it has all where it has as many
pub counted_full : (m : ℕ) (l : List ℕ) → counted m l ≡ m → (i : ℕ) → i < m → has l i ≡ true
unfolding counted
counted_full zero l h i k = absurd (omega arith)
counted_full (suc m) l h i k =
    let few = counted_le m l in
    let one = one_or_none (has l m) in
    ⊎_elim
    (λ (q : i ≡ m).
    ⊎_elim
    (λ (t : has l m ≡ true). ap (has l) q ∙ t)
    (λ (t : has l m ≡ false). let z : one_if (has l m) ≡ 0 = if_false _ t in absurd (omega arith))
    (cases_Bool (has l m)))
    (λ (q : i ≡ m → ⊥). counted_full m l (omega arith) i (omega (arith, q)))
    (cases_eq i m)

-- and lacks one where it has fewer
pub counted_short : (m : ℕ) (l : List ℕ) → counted m l < m → (i : ℕ) × (i < m) × (has l i ≡ false)
unfolding counted
counted_short zero l h = absurd (omega arith)
counted_short (suc m) l h = by (has l m) refl (counted_short m l)
  where
    by : (b : Bool) → has l m ≡ b → (counted m l < m → (i : ℕ) × (i < m) × (has l i ≡ false)) → (i : ℕ) × (i < suc m) × (has l i ≡ false)
    by true e below =
        let one : one_if (has l m) ≡ 1 = if_true _ e in
        let r = below (omega arith) in (r.0, omega (arith, r.1), r.2)
    by false e below = (m, omega arith, e)

-- nodes below n, no two the same
pub record Distinct (n : ℕ) (l : List ℕ) : Type 0 where
  pub below : (i : ℕ) → has l i ≡ true → i < n
  pub apart : (k : ℕ) → k < length l → place_in l (get_or l k 0) ≡ k
  pub total : counted n l ≡ length l

pub distinct_none : (n : ℕ) → Distinct n []
unfolding has
distinct_none n = record { below = λ i h. absurd (false≢true h); apart = λ k h. absurd (omega arith); total = counted_nil n }

pub distinct_push : (n : ℕ) (l : List ℕ) (x : ℕ) → Distinct n l → x < n → has l x ≡ false → Distinct n (l ++ x ∷ [])
distinct_push n l x d h no' =
    record {
      below = λ i k. ⊎_elim (λ (o : has l i ≡ true). d.below i o) (λ (e : x ≡ i). subst (λ m. m < n) e h) (has_push l x i k);
      apart = λ k m.
          ⊎_elim
          (λ (o : k < length l). ap (place_in (l ++ x ∷ [])) (get_or_append_left l (x ∷ []) 0 k o) ∙ place_old l x (get_or l k 0) (has_at l k o) ∙ d.apart k o)
          (λ (o : length l ≤ k).
          let last : length l ≡ k = omega (arith, length_push l x) in
          ap (place_in (l ++ x ∷ [])) (get_or_push l x 0 k last) ∙ place_new l x no' ∙ last)
          (cases_lt k (length l));
      total = counted_more n l x h no' ∙ ap (λ m. m + 1) d.total ∙ sym (length_push l x);
    }

-- so there are at most n, and all where there are n
pub distinct_few : (n : ℕ) (l : List ℕ) → Distinct n l → length l ≤ n
distinct_few n l d = omega (arith, d.total, counted_le n l)

pub distinct_all : (n : ℕ) (l : List ℕ) → Distinct n l → length l ≡ n → (i : ℕ) → i < n → has l i ≡ true
distinct_all n l d e i h = counted_full n l (d.total ∙ e) i h

pub distinct_lacks : (n : ℕ) (l : List ℕ) → Distinct n l → length l < n → (i : ℕ) × (i < n) × (has l i ≡ false)
distinct_lacks n l d h = counted_short n l (omega (arith, d.total))
