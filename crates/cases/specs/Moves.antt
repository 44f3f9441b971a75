-- The moves of a case: the text of one, and the call of a bench that makes it.
use Rattle.std.specs.Prelude.{◌≡◌, ℕ, List, Ok, ◌==◌, codes}
use Rattle.std.specs.Bool.{⊤}
use Rattle.std.specs.Int.{w32}
use Rattle.std.specs.List.{before_first, after_first}
use Rattle.std.specs.Str.Parse.{ParsesSigned, ParsesUnsigned}
use Rattle.bench.specs.declared.calls.Call.{Call}
use Rattle.bench.specs.declared.calls.Call.TheVariants as call
use Rattle.cases.specs.Rows.{IsRow}
use Rattle.cases.specs.declared.moves.Move.{Move}
use Rattle.cases.specs.declared.moves.Move.TheVariants as move

-- what stands before the first space of a text, and after it
abbrev pub name_in : List ℕ → List ℕ
name_in text = before_first (λ b. b == 32) text

abbrev pub rest_in : List ℕ → List ℕ
rest_in text = after_first (λ b. b == 32) text

-- the text names the move, and gives its shifts or its factor
abbrev pub Says : List ℕ → Move → Type 0
Says text (move.Lag row) = (name_in text ≡ codes "lag") × IsRow (λ item shift. ParsesSigned {E = Unit} w32 10 item (Ok shift)) (rest_in text) row.items
Says text (move.Slow factor) = (name_in text ≡ codes "slow") × ParsesUnsigned {E = Unit} 32 10 (rest_in text) (Ok factor)
Says text move.Settle = name_in text ≡ codes "settle"

-- the call has the move's kind, and its factor or its row
abbrev pub Lends : Move → Call → Type 0
Lends (move.Lag row) (call.Lag shifts) = shifts.now ≡ row.items
Lends (move.Slow factor) (call.Slow given) = given ≡ factor
Lends move.Settle call.Settle = ⊤
Lends _ _ = ⊥
