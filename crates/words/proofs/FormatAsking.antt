-- What the questions of a format answer at a word whose kind is known.
use Rattle.std.proofs.Common.{◌≡◌, ℕ, true, false, cond, List, [], ◌∷◌, ◌++◌, length, Some, None, ap, ◌∙◌, Option}
use Rattle.std.proofs.lemmas.Bool.{cond-true, cond-false}
use Rattle.std.specs.Option.{option_or}
use Rattle.words.specs.Formats.{Format, kind_in, clear_and_in_range, ends_well_in, asked_in, asked_of_in, refused_from_in}
use Rattle.words.specs.Refusals.{misplaced, out_of_range, out_of_order, wrong_end}

module _ {K : Type 0} (format : Format K) (p : List ℕ) (w : ℕ) (after : List ℕ) (k : Option K) (e : kind_in format w ≡ k) where
  asked_as : asked_in format p w after ≡ asked_of_in format p w after k
  unfolding asked_in
  asked_as = ap (asked_of_in format p w after) e

  pub refuse_2 : format.may_stand p k ≡ false → asked_in format p w after ≡ Some (misplaced (length p))
  refuse_2 a = asked_as ∙ cond-false _ _ _ a

  pub refuse_3 : format.may_stand p k ≡ true → clear_and_in_range format p w k ≡ false → asked_in format p w after ≡ Some (out_of_range (length p))
  refuse_3 a b = asked_as ∙ cond-true _ _ _ a ∙ cond-false _ _ _ b

  pub refuse_4 : format.may_stand p k ≡ true → clear_and_in_range format p w k ≡ true → format.in_order p w k ≡ false → asked_in format p w after ≡ Some (out_of_order (length p))
  refuse_4 a b c = asked_as ∙ cond-true _ _ _ a ∙ cond-true _ _ _ b ∙ cond-false _ _ _ c

  pub refuse_5 : format.may_stand p k ≡ true → clear_and_in_range format p w k ≡ true → format.in_order p w k ≡ true → ends_well_in format p w after k ≡ false →
      asked_in format p w after ≡ Some (wrong_end (length p))
  refuse_5 a b c d = asked_as ∙ cond-true _ _ _ a ∙ cond-true _ _ _ b ∙ cond-true _ _ _ c ∙ cond-false _ _ _ d

  pub allow : format.may_stand p k ≡ true → clear_and_in_range format p w k ≡ true → format.in_order p w k ≡ true → ends_well_in format p w after k ≡ true →
      asked_in format p w after ≡ None
  allow a b c d = asked_as ∙ cond-true _ _ _ a ∙ cond-true _ _ _ b ∙ cond-true _ _ _ c ∙ cond-true _ _ _ d

  -- a word that passes hands on to the next
  pub hands_on : format.ends k ≡ false → asked_in format p w after ≡ None → refused_from_in format p (w ∷ after) ≡ refused_from_in format (p ++ w ∷ []) after
  unfolding refused_from_in
  hands_on more none =
      ap (λ o. option_or o (cond (format.ends (kind_in format w)) None (refused_from_in format (p ++ w ∷ []) after))) none
      ∙ ap (λ κ. cond (format.ends κ) None (refused_from_in format (p ++ w ∷ []) after)) e
      ∙ cond-false _ _ _ more
