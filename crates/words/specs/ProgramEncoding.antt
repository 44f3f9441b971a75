-- The words of an array program.
use Rattle.std.specs.Prelude.{ℕ, suc, ◌+◌, cond, List, [], ◌∷◌, ◌++◌, map, length, ◌==◌}
use Rattle.words.specs.declared.program_table.Tap.{Tap}
use Rattle.words.specs.declared.program_table.Cell.{Cell}
use Rattle.words.specs.declared.program_table.ProgramTable.{ProgramTable}
use Rattle.words.specs.Designs.{input}
use Rattle.words.specs.Programs.{array_word, line_word, cell_word, tap_word, array_output_word, array_end_word}

-- whose line is line k of a program of n nodes: the nodes come in order, then the input
abbrev pub line_source : ℕ → ℕ → ℕ
line_source n k = cond (k == n) input k

-- the lines from line k on, of these lengths
unfoldable pub line_words : ℕ → ℕ → List ℕ → List ℕ
line_words n k [] = []
line_words n k (l ∷ ls) = line_word (line_source n k) l ∷ line_words n (suc k) ls

abbrev pub tap_words : List Tap → List ℕ
tap_words taps = map (λ t. tap_word t.source t.delay) taps

-- the cells, each followed by its taps
unfoldable pub cell_words : List Cell → List ℕ
cell_words [] = []
cell_words (c ∷ cs) = cell_word c.node c.operation c.lag ∷ tap_words c.taps.items ++ cell_words cs

-- the head, the lines and the cells
abbrev pub program_front : ProgramTable → List ℕ
program_front p = array_word p.count p.factor ∷ line_words p.count 0 p.lines.items ++ cell_words p.cells.items

-- all but the end
abbrev pub program_body : ProgramTable → List ℕ
program_body p = program_front p ++ array_output_word p.output.source p.output.delay ∷ []

-- the words of a program; the end counts itself
unfoldable pub encoded_program : ProgramTable → List ℕ
encoded_program p = program_body p ++ array_end_word (length (program_body p) + 1) ∷ []
