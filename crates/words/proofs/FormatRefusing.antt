-- A reader's ways out, whatever the format: a refusal at a word, one at the words' end, and the end.
use Rattle.std.proofs.Common.{◌≡◌, ℕ, ◌+◌, ◌<◌, Bool, true, false, cond, List, [], ◌∷◌, ◌++◌, length, get_or, take, drop, Some, None, Option, sym, refl, ap, ◌∙◌, subst, arith}
use Rattle.std.proofs.lemmas.List.{take_all, take_more, drop_more, drop_all, length-drop, length-take-le}
use Rattle.std.proofs.lemmas.Bool.{cond-true}
use Rattle.std.specs.Option.{option_or}
use Rattle.words.specs.declared.faults.Fault.{Fault}
use Rattle.words.specs.declared.faults.WordsQuestion.{WordsQuestion}
use Rattle.words.specs.Formats.{Format, kind_in, clear_and_in_range, ends_well_in, asked_in, refused_from_in, refused_in}
use Rattle.words.specs.Refusals.{words_fault, no_word, misplaced, out_of_range, out_of_order, wrong_end, place_of}
use Rattle.words.specs.Readings.{BeginsOne, StopsOneAt, RefusesIn, FailedAmong}
use Rattle.words.proofs.FormatAsking.{hands_on}
use Rattle.words.proofs.FormatStopping.{stops, runs_out}

-- every refusal at a word is at its index
IsPlacedAt : Option Fault → ℕ → Type 0
IsPlacedAt None i = Unit {0}
IsPlacedAt (Some f) i = place_of f ≡ i

placed : (a b c d : Bool) (v x y z : Fault) (i : ℕ) → place_of v ≡ i → place_of x ≡ i → place_of y ≡ i → place_of z ≡ i →
    IsPlacedAt (cond a (cond b (cond c (cond d None (Some v)) (Some x)) (Some y)) (Some z)) i
unfolding IsPlacedAt
placed true true true true v x y z i pv px py pz = tt
placed true true true false v x y z i pv px py pz = pv
placed true true false d v x y z i pv px py pz = px
placed true false c d v x y z i pv px py pz = py
placed false b c d v x y z i pv px py pz = pz

module _ {K : Type 0} (format : Format K) where
  asked_place : (p : List ℕ) (w : ℕ) (after : List ℕ) (f : Fault) → asked_in format p w after ≡ Some f → place_of f ≡ length p
  unfolding asked_in IsPlacedAt
  asked_place p w after f h =
      let k : Option K = kind_in format w in
      subst (λ o. IsPlacedAt o (length p)) h
      (placed (format.may_stand p k) (clear_and_in_range format p w k) (format.in_order p w k) (ends_well_in format p w after k) (wrong_end (length p)) (out_of_order (length p)) (out_of_range (length p)) (misplaced (length p)) (length p)
      refl refl refl refl)

  module _ (words : List ℕ) where
    -- one word more
    pub walked_on : (i : ℕ) → i < length words → format.ends (kind_in format (get_or words i 0)) ≡ false → refused_from_in format (take i words) (drop i words) ≡ refused_in format words →
        asked_in format (take i words) (get_or words i 0) (drop (i + 1) words) ≡ None → refused_from_in format (take (i + 1) words) (drop (i + 1) words) ≡ refused_in format words
    walked_on i l more walked h =
        ap (λ p. refused_from_in format p (drop (i + 1) words)) (take_more words i 0 l)
        ∙ sym (hands_on format (take i words) (get_or words i 0) (drop (i + 1) words) (kind_in format (get_or words i 0)) refl more h)
        ∙ ap (refused_from_in format (take i words)) (sym (drop_more words i 0 l)) ∙ walked

    -- the end, which is the last word
    pub ended : (i : ℕ) → i < length words → refused_from_in format (take i words) (drop i words) ≡ refused_in format words → format.ends (kind_in format (get_or words i 0)) ≡ true →
        i + 1 ≡ length words → asked_in format (take i words) (get_or words i 0) [] ≡ None → (refused_in format words ≡ None) × (take i words ++ get_or words i 0 ∷ [] ≡ words)
    unfolding refused_from_in
    ended i l walked e last h =
        let w : ℕ = get_or words i 0 in
        let p : List ℕ = take i words in
        let none : drop (i + 1) words ≡ [] = drop_all (i + 1) words (omega arith) in
        let rest : drop i words ≡ w ∷ [] = drop_more words i 0 l ∙ ap (λ ws. w ∷ ws) none in (
          sym walked ∙ ap (refused_from_in format p) rest
              ∙ ap (λ o. option_or o (cond (format.ends (kind_in format w)) None (refused_from_in format (p ++ w ∷ []) []))) h
              ∙ cond-true _ _ _ e,
          sym (take_more words i 0 l) ∙ take_all (i + 1) words (omega arith),
        )

    module _ {T : Type 0} (InRange : T → Type 0) (encoded : T → List ℕ) (passes : (t : T) → InRange t → refused_in format (encoded t) ≡ None) where
      -- a refusal at a word
      pub refused_here : (i : ℕ) (f : Fault) → i < length words → refused_from_in format (take i words) (drop i words) ≡ refused_in format words →
          BeginsOne InRange encoded (take i words) → asked_in format (take i words) (get_or words i 0) (drop (i + 1) words) ≡ Some f → RefusesIn InRange encoded format words f
      unfolding refused_from_in
      refused_here i f l walked from h =
          let w : ℕ = get_or words i 0 in
          let p : List ℕ = take i words in
          let at : place_of f ≡ i = asked_place p w (drop (i + 1) words) f h ∙ length-take-le i words (omega arith) in (
            sym walked ∙ ap (refused_from_in format p) (drop_more words i 0 l)
                ∙ ap (λ o. option_or o (cond (format.ends (kind_in format w)) None (refused_from_in format (p ++ w ∷ []) (drop (i + 1) words)))) h,
            subst (StopsOneAt InRange encoded words) (sym at) (stops format InRange encoded passes words i f l from h),
          )

      -- the words ran out
      pub refused_short : (i : ℕ) (f : Fault) → i ≡ length words → f ≡ no_word (length words) → refused_from_in format (take i words) (drop i words) ≡ refused_in format words →
          BeginsOne InRange encoded (take i words) → RefusesIn InRange encoded format words f
      unfolding refused_from_in
      refused_short i f e is walked from =
          let all : take i words ≡ words = take_all i words (omega arith) in
          let none : drop i words ≡ [] = drop_all i words (omega arith) in
          let at : place_of f ≡ length words = ap place_of is in (
            sym walked ∙ ap (refused_from_in format (take i words)) none ∙ ap (λ ws. Some (no_word (length ws))) all ∙ ap Some (sym is),
            subst (StopsOneAt InRange encoded words) (sym at) (runs_out format InRange encoded passes words (subst (BeginsOne InRange encoded) all from)),
          )

      -- a word that is refused is what reading refuses
      pub failed_reads : (i : ℕ) (q : WordsQuestion) → i < length words → refused_from_in format (take i words) (drop i words) ≡ refused_in format words →
          BeginsOne InRange encoded (take i words) → FailedAmong format (length words) (take i words) (get_or words i 0) q → RefusesIn InRange encoded format words (words_fault q i)
      failed_reads i q l walked from h =
          let long : length (take i words) ≡ i = length-take-le i words (omega arith) in
          refused_here i (words_fault q i) l walked from
          (h (drop (i + 1) words) (omega (arith, long, length-drop (i + 1) words)) ∙ ap (λ n. Some (words_fault q n)) long)
