-- What questions 15 and 16 amount to, in a program's table.
use Rattle.std.specs.Prelude.{◌≡◌, ℕ, ◌+◌, ◌<◌, Bool, true, not, ◌||◌, List, [], ◌∷◌, ◌++◌, ◌==◌, slice_index}
use Rattle.std.specs.Bool.{⊤}
use Rattle.std.specs.List.{All}
use Rattle.words.specs.declared.program_table.Tap.{Tap}
use Rattle.words.specs.declared.program_table.Cell.{Cell}
use Rattle.words.specs.declared.program_table.ProgramTable.{ProgramTable}
use Rattle.words.specs.Designs.{input}
use Rattle.words.specs.ProgramEncoding.{line_source, encoded_program}
use Rattle.bench.specs.Firing.{has}
use Rattle.machine.specs.Loading.{greatest_delay}

-- a tap reads what it can hear where these cells have fired: at a delay above 0 any source, else the input or one of them
abbrev pub tap_hears : List ℕ → Tap → Bool
tap_hears fired tap = not (tap.delay == 0) || (tap.source == input || has fired tap.source)

-- the taps of these cells read earlier cells where they have delay 0 and are from nodes; some have fired before
abbrev pub Fireable : List ℕ → List Cell → Type 0
Fireable fired [] = ⊤
Fireable fired (c ∷ cs) = All (λ tap. tap_hears fired tap ≡ true) c.taps.items × Fireable (fired ++ c.node ∷ []) cs

-- each line is as long as the greatest delay at which its source is read
abbrev pub Fitting : ProgramTable → Type 0
Fitting t = (k : ℕ) → k < t.count + 1 → slice_index t.lines.items k ≡ greatest_delay (encoded_program t) (line_source t.count k)
