-- What reading a list of words promises, whatever the format: what is read is a T in range, whose words are its encoding.
use Rattle.std.specs.Prelude.{◌≡◌, ℕ, ◌+◌, ◌^◌, ◌<◌, ◌≤◌, Bool, true, false, ◌⊎◌, List, [], ◌∷◌, ◌++◌, length, take, Some, None, Result, MatchResult}
use Rattle.words.specs.declared.faults.Fault.{Fault}
use Rattle.words.specs.declared.faults.WordsQuestion.{WordsQuestion}
use Rattle.words.specs.Formats.{Format, kind_in, asked_in, refused_in}
use Rattle.words.specs.Refusals.{words_fault, place_of}

module _ {K : Type 0} (format : Format K) where
  -- the question that is answered no at a word
  abbrev pub FailedIn : List ℕ → ℕ → WordsQuestion → Type 0
  FailedIn before w question = (after : List ℕ) → asked_in format before w after ≡ Some (words_fault question (length before))

  -- the same of a word among so many in all
  abbrev pub FailedAmong : ℕ → List ℕ → ℕ → WordsQuestion → Type 0
  FailedAmong given before w question =
      (after : List ℕ) → length before + 1 + length after ≡ given → asked_in format before w after ≡ Some (words_fault question (length before))

  -- an end word, which passes as the last of so many words
  pub record EndsIn (before : List ℕ) (w given : ℕ) : Type 0 where
    pub word : w < 2 ^ 32
    pub end : format.ends (kind_in format w) ≡ true
    pub last : length before + 1 ≡ given
    pub passes : asked_in format before w [] ≡ None

module _ {T : Type 0} (InRange : T → Type 0) (encoded : T → List ℕ) where
  -- some encoding begins with these words
  abbrev pub BeginsOne : List ℕ → Type 0
  BeginsOne words = (t : T) × (later : List ℕ) × InRange t × (encoded t ≡ words ++ later)

  -- Where reading stops, in the format's own words: what stands before the index begins an encoding. With one word more none begins, unless
  -- there is no such word, or it ends the encoding and more words were given.
  pub record StopsOneAt (words : List ℕ) (index : ℕ) : Type 0 where
    pub within : index ≤ length words
    pub begins : BeginsOne (take index words)
    pub no_further : (t : T) (later : List ℕ) → InRange t → encoded t ≡ take (index + 1) words ++ later →
        (index ≡ length words) ⊎ ((later ≡ []) × (index + 1 < length words))

  module _ {K : Type 0} (format : Format K) where
    -- reading refuses by the first question answered no
    abbrev pub RefusesIn : List ℕ → Fault → Type 0
    RefusesIn words f = (refused_in format words ≡ Some f) × StopsOneAt words (place_of f)

    -- one word more, which passes every question: the words with it begin an encoding
    abbrev pub PassedIn : List ℕ → ℕ → List ℕ → Type 0
    PassedIn before w with_it = (with_it ≡ before ++ w ∷ []) × BeginsOne with_it × ((after : List ℕ) → asked_in format before w after ≡ None)

    -- the head read; a reader is seen as the words so far
    abbrev pub BegunIn : {R : Type 0} → (R → List ℕ) → ℕ → Result R WordsQuestion → Type 0
    BegunIn words w r = MatchResult r (λ reader. (format.ends (kind_in format w) ≡ false) × PassedIn [] w (words reader)) (FailedIn format [] w)

    -- a word read, among so many: one more that passes, or the end
    abbrev pub ReadIn : List ℕ → List ℕ → ℕ → ℕ → Result Bool WordsQuestion → Type 0
    ReadIn before with_it w given r =
        MatchResult r
        (λ ended.
        (format.ends (kind_in format w) ≡ ended) × (ended ≡ false → PassedIn before w with_it) × (ended ≡ true → (with_it ≡ before) × EndsIn format before w given))
        (FailedAmong format given before w)

    -- what is made at the end: its encoding is the words so far, with the end
    abbrev pub FinishedIn : List ℕ → ℕ → T → Type 0
    FinishedIn before given t = (w : ℕ) → EndsIn format before w given → encoded t ≡ before ++ w ∷ []

    -- the answer: where no question is answered no, that whose encoding the words are, and else the refusal
    abbrev pub ReadsIn : {W : Type 0} → (W → T) → List ℕ → Result W Fault → Type 0
    ReadsIn table words r = MatchResult r (λ whole. (refused_in format words ≡ None) × (encoded (table whole) ≡ words)) (RefusesIn words)
