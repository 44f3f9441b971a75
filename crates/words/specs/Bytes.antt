-- An input's bytes as words.
use Rattle.std.specs.Prelude.{◌≡◌, ℕ, ◌+◌, ◌*◌, ◌/◌, ◌%◌, List, map, length, take, Result, MatchResult, ◌≢◌, slice_index}
use Rattle.std.specs.List.{range_with_len}
use Rattle.words.specs.declared.faults.Fault.{Fault}
use Rattle.words.specs.declared.input.InputWords.{InputWords}
use Rattle.words.specs.Refusals.{no_word}

-- how many bytes of an input are taken at the most: one word more than the longest design
abbrev pub max_bytes : ℕ
max_bytes = 4368

abbrev pub taken : List ℕ → List ℕ
taken bytes = take max_bytes bytes

-- word k: four bytes, the first the highest
abbrev pub word_at : List ℕ → ℕ → ℕ
word_at bytes k = ((slice_index bytes (4 * k) * 256 + slice_index bytes (4 * k + 1)) * 256 + slice_index bytes (4 * k + 2)) * 256 + slice_index bytes (4 * k + 3)

-- the whole words of some bytes
abbrev pub packed : List ℕ → List ℕ
packed bytes = map (word_at bytes) (range_with_len 0 (length bytes / 4))

-- the words that were taken in
abbrev pub words_in : InputWords → List ℕ
words_in w = take w.count w.words

-- The words of the bytes that are taken; one to three bytes left over are refused by question 1, at the count of whole words.
abbrev pub Packs : List ℕ → Result InputWords Fault → Type 0
Packs bytes r =
    MatchResult r
    (λ w. (length (taken bytes) % 4 ≡ 0) × (words_in w ≡ packed (taken bytes)))
    (λ f. (length (taken bytes) % 4 ≢ 0) × (f ≡ no_word (length (taken bytes) / 4)))
