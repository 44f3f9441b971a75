use Rattle.std.proofs.Common.{◌≡◌, ◌∷◌, ◌++◌, drop, get_or, take}
use Rattle.machine.proofs.line.shift.Given as goal

-- the front has moved on, and the value that was written last is the next to be moved
abbrev pub invariant-loop-place : goal.invariant-loop-place
invariant-loop-place g l =
    let moved = l.initial.newest ∷ l.initial.line in
    (l.line ≡ take l.place-index moved ++ drop l.place-index l.initial.line) × (l.newest ≡ get_or moved l.place-index l.newest)
