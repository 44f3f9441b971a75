-- Where reading stops, no encoding goes on.
use Rattle.std.proofs.Common.{◌≡◌, ℕ, ◌+◌, ◌<◌, ◌≤◌, Bool, true, false, cond, ◌&&◌, eqb, List, [], ◌∷◌, ◌++◌, length, get_or, take, drop, is_some, Some, None, Option, sym, refl, ap, ◌∙◌, subst, inl, inr, ⊎_elim, append_assoc, arith}
use Rattle.std.proofs.lemmas.List.{append-nil, length-append, length-drop, take_more, take_all, nil_from_length}
use Rattle.std.proofs.lemmas.Bool.{true≢false, cases_Bool, and_parts, eqb-true, cases_lt, cond-true, cond-false}
use Rattle.std.specs.Option.{option_or}
use Rattle.words.specs.declared.faults.Fault.{Fault}
use Rattle.words.specs.Fields.{field}
use Rattle.words.specs.Formats.{Format, kind_in, clear_and_in_range, ends_well_in, asked_in, asked_of_in, refused_from_in, refused_in}
use Rattle.words.specs.Refusals.{misplaced, out_of_range, out_of_order, wrong_end}
use Rattle.words.specs.Readings.{BeginsOne, StopsOneAt}

-- four tests that refuse
tests : (a b c d : Bool) → Fault → Fault → Fault → Fault → Option Fault
tests a b c d v x y z = cond a (cond b (cond c (cond d None (Some v)) (Some x)) (Some y)) (Some z)

-- nothing is refused only where each test passes
all_pass : (a b c d : Bool) (v x y z : Fault) → tests a b c d v x y z ≡ None → (a ≡ true) × (b ≡ true) × (c ≡ true) × (d ≡ true)
unfolding tests
all_pass true true true true v x y z h = (refl, refl, refl, refl)
all_pass true true true false v x y z h = absurd (true≢false (ap is_some h))
all_pass true true false d v x y z h = absurd (true≢false (ap is_some h))
all_pass true false c d v x y z h = absurd (true≢false (ap is_some h))
all_pass false b c d v x y z h = absurd (true≢false (ap is_some h))

neither : (o later : Option Fault) → option_or o later ≡ None → (o ≡ None) × (later ≡ None)
neither None later h = (refl, h)
neither (Some f) later h = absurd (true≢false (ap is_some h))

module _ {K : Type 0} (format : Format K) where
  asked_tests : (p : List ℕ) (w : ℕ) (after : List ℕ) (k : Option K) →
      asked_of_in format p w after k
      ≡ tests (format.may_stand p k) (clear_and_in_range format p w k) (format.in_order p w k) (ends_well_in format p w after k) (wrong_end (length p)) (out_of_order (length p)) (out_of_range (length p)) (misplaced (length p))
  unfolding tests
  asked_tests p w after k = refl

  -- a word that passes, passes each question
  pub passed : (p : List ℕ) (w : ℕ) (after : List ℕ) → asked_in format p w after ≡ None →
      (format.may_stand p (kind_in format w) ≡ true) × (clear_and_in_range format p w (kind_in format w) ≡ true) × (format.in_order p w (kind_in format w) ≡ true)
      × (ends_well_in format p w after (kind_in format w) ≡ true)
  unfolding asked_in
  passed p w after h = all_pass _ _ _ _ _ _ _ _ (sym (asked_tests p w after (kind_in format w)) ∙ h)

  -- an end that passes is the last
  end_last : (p : List ℕ) (w : ℕ) (after : List ℕ) (k : Option K) → format.ends k ≡ true → asked_of_in format p w after k ≡ None → length after ≡ 0
  end_last p w after k e h =
      let well = sym (cond-true _ _ _ e) ∙ (all_pass _ _ _ _ _ _ _ _ (sym (asked_tests p w after k) ∙ h)).3 in
      eqb-true (length after) 0 (and_parts (eqb (field 0 11 w) (length p + 1)) (eqb (length after) 0) well).1

  -- only the end looks at the words after it
  differs : (p : List ℕ) (w : ℕ) (after later : List ℕ) (f : Fault) (k : Option K) → asked_of_in format p w after k ≡ Some f → asked_of_in format p w later k ≡ None →
      (later ≡ []) × (0 < length after)
  differs p w after later f k a b =
      let same : ends_well_in format p w after k ≡ ends_well_in format p w later k → ⊥ =
      λ e.
      let c = ap (λ d. tests (format.may_stand p k) (clear_and_in_range format p w k) (format.in_order p w k) d (wrong_end (length p)) (out_of_order (length p)) (out_of_range (length p)) (misplaced (length p))) e in
      true≢false (ap is_some (sym a ∙ asked_tests p w after k ∙ c ∙ sym (asked_tests p w later k) ∙ b)) in
      ⊎_elim
      (λ (t : format.ends k ≡ true).
      let none : length later ≡ 0 = end_last p w later k t b in (
        nil_from_length later none,
        ⊎_elim
            (λ (l : 0 < length after). l)
            (λ (l : length after ≤ 0).
            let e : length after ≡ length later = omega arith in
            absurd (same (ap (λ n. cond (format.ends k) (eqb (field 0 11 w) (length p + 1) && eqb n 0) true) e)))
            (cases_lt 0 (length after)),
      ))
      (λ (t : format.ends k ≡ false). absurd (same (cond-false _ _ _ t ∙ sym (cond-false _ _ _ t))))
      (cases_Bool (format.ends k))

  -- the last word of a prefix of what passes, passes
  inner : (q p : List ℕ) (w : ℕ) (later : List ℕ) → refused_from_in format q (p ++ w ∷ later) ≡ None → asked_in format (q ++ p) w later ≡ None
  unfolding refused_from_in asked_in
  inner q [] w later h = ap (λ r. asked_in format r w later) (append-nil q) ∙ (neither _ _ h).0
  inner q (v ∷ p) w later h =
      let parts : (asked_in format q v (p ++ w ∷ later) ≡ None) × (cond (format.ends (kind_in format v)) None (refused_from_in format (q ++ v ∷ []) (p ++ w ∷ later)) ≡ None) = neither _ _ h in
      ⊎_elim
      (λ (t : format.ends (kind_in format v) ≡ true).
      absurd (omega (arith, end_last q v (p ++ w ∷ later) (kind_in format v) t parts.0, length-append p (w ∷ later))))
      (λ (t : format.ends (kind_in format v) ≡ false).
      ap (λ r. asked_in format r w later) (sym (append_assoc q (v ∷ []) p)) ∙ inner (q ++ v ∷ []) p w later (sym (cond-false _ _ _ t) ∙ parts.1))
      (cases_Bool (format.ends (kind_in format v)))

  module _ {T : Type 0} (InRange : T → Type 0) (encoded : T → List ℕ) (passes : (t : T) → InRange t → refused_in format (encoded t) ≡ None) (words : List ℕ) where
    -- at a word that is refused
    pub stops : (i : ℕ) (f : Fault) → i < length words → BeginsOne InRange encoded (take i words) →
        asked_in format (take i words) (get_or words i 0) (drop (i + 1) words) ≡ Some f → StopsOneAt InRange encoded words i
    unfolding asked_in
    stops i f l from refuses =
        record {
          within = omega arith;
          begins = from;
          no_further = λ t later r q.
              let w : ℕ = get_or words i 0 in
              let p : List ℕ = take i words in
              let whole : encoded t ≡ p ++ w ∷ later = q ∙ ap (λ ws. ws ++ later) (take_more words i 0 l) ∙ append_assoc p (w ∷ []) later in
              let yes : asked_in format p w later ≡ None = inner [] p w later (sym (ap (refused_from_in format []) whole) ∙ passes t r) in
              let d = differs p w (drop (i + 1) words) later f (kind_in format w) refuses yes in
              inr (d.0, omega (arith, d.1, length-drop (i + 1) words));
        }

    -- where the words run out
    pub runs_out : BeginsOne InRange encoded words → StopsOneAt InRange encoded words (length words)
    runs_out from =
        record {
          within = omega arith;
          begins = subst (BeginsOne InRange encoded) (sym (take_all (length words) words (omega arith))) from;
          no_further = λ t later r q. inl refl;
        }
