-- The words of an array program, from their fields.
use Rattle.std.specs.Prelude.{ℕ, ◌+◌, ◌*◌, ◌^◌}
use Rattle.words.specs.Fields.{word_of, place_word}

-- kind 8: n in bits 5 to 0, K in bits 12 to 6
abbrev pub array_word : ℕ → ℕ → ℕ
array_word n factor = place_word 8 n factor

-- kind 9: the source in bits 5 to 0, the length of its line in bits 17 to 6
abbrev pub line_word : ℕ → ℕ → ℕ
line_word source length = place_word 9 source length

-- kind 10: the node in bits 4 to 0, its operation in bits 12 to 5, its lag in bits 24 to 13
abbrev pub cell_word : ℕ → ℕ → ℕ → ℕ
cell_word node operation lag = word_of 10 (lag * 2 ^ 13 + operation * 2 ^ 5 + node)

-- kind 11: the source in bits 5 to 0, the delay in bits 17 to 6
abbrev pub tap_word : ℕ → ℕ → ℕ
tap_word source delay = place_word 11 source delay

-- kind 12: the node in bits 5 to 0, the delay in bits 17 to 6
abbrev pub array_output_word : ℕ → ℕ → ℕ
array_output_word node delay = place_word 12 node delay

-- kind 13: the number of words in bits 10 to 0
abbrev pub array_end_word : ℕ → ℕ
array_end_word count = word_of 13 count
