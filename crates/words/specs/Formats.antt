-- What is asked of a list of words, whatever the format: of each word in turn, given the words before it and those after it.
use Rattle.std.specs.Prelude.{ℕ, ◌+◌, ◌-◌, Bool, true, cond, ◌&&◌, List, [], ◌∷◌, ◌++◌, length, Some, None, Option, ◌==◌}
use Rattle.std.specs.Option.{option_or}
use Rattle.words.specs.declared.faults.Fault.{Fault}
use Rattle.words.specs.Fields.{field, kind_number}
use Rattle.words.specs.Refusals.{no_word, misplaced, out_of_range, out_of_order, wrong_end}

-- a format: its kinds by number, how many bits at the low end of a word of a kind are named, which kind ends it, and questions 2, 3 and 4
-- at a word of a kind after the words so far
pub record Format (K : Type 0) : Type 0 where
  pub numbered : ℕ → Option K
  pub named : Option K → ℕ
  pub ends : Option K → Bool
  pub may_stand : List ℕ → Option K → Bool
  pub in_range : List ℕ → ℕ → Option K → Bool
  pub in_order : List ℕ → ℕ → Option K → Bool

module _ {K : Type 0} (format : Format K) where
  abbrev pub kind_in : ℕ → Option K
  kind_in w = format.numbered (kind_number w)

  -- the unnamed bits of a word of that kind: those from the named ones up to bit 27
  abbrev pub unnamed_of : ℕ → Option K → ℕ
  unnamed_of w k = field (format.named k) (28 - format.named k) w

  -- 3: are the unnamed bits zero, and the fields in range?
  abbrev pub clear_and_in_range : List ℕ → ℕ → Option K → Bool
  clear_and_in_range before w k = unnamed_of w k == 0 && format.in_range before w k

  -- 5: at the end, is its count right, and is it the last given?
  abbrev pub ends_well_in : List ℕ → ℕ → List ℕ → Option K → Bool
  ends_well_in before w after k = cond (format.ends k) (field 0 11 w == length before + 1 && length after == 0) true

  -- what is refused at a word of that kind: the first question answered no
  abbrev pub asked_of_in : List ℕ → ℕ → List ℕ → Option K → Option Fault
  asked_of_in before w after k =
      cond (format.may_stand before k)
      (cond (clear_and_in_range before w k)
      (cond (format.in_order before w k)
      (cond (ends_well_in before w after k) None (Some (wrong_end (length before))))
      (Some (out_of_order (length before))))
      (Some (out_of_range (length before))))
      (Some (misplaced (length before)))

  unfoldable pub asked_in : List ℕ → ℕ → List ℕ → Option Fault
  asked_in before w after = asked_of_in before w after (kind_in w)

  -- what is refused of the words from here on: each in turn, up to the end word
  unfoldable pub refused_from_in : List ℕ → List ℕ → Option Fault
  refused_from_in before [] = Some (no_word (length before))
  refused_from_in before (w ∷ after) = option_or (asked_in before w after) (cond (format.ends (kind_in w)) None (refused_from_in (before ++ w ∷ []) after))

  -- the first question answered no, at the lowest word that has one
  abbrev pub refused_in : List ℕ → Option Fault
  refused_in words = refused_from_in [] words
