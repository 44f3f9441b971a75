use Rattle.std.proofs.Common.{◌≡◌, ◌+◌, ◌≤◌, length, drop, Some, Option}
use Rattle.std.specs.Option.{option_or}
use Rattle.bench.specs.declared.calls.Call.{Call}
use Rattle.bench.specs.declared.calls.Call.TheVariants.{Settle}
use Rattle.bench.specs.Calls.{moves, ended, last_accepted}
use Rattle.bench.specs.Verdicts.{C1Holds, C2Holds}
use Rattle.bench.proofs.bench.Bench.send.Given as goal

-- what is to come ends as all would have ended; where the last accepted call is none of those to come, it is `last`
abbrev pub invariant-loop-call : goal.invariant-loop-call
invariant-loop-call l =
    (l.self.design ≡ l.initial.self.design)
    × (ended l.initial.self.design.graph l.self.retiming (drop l.call-index l.calls) ≡ ended l.initial.self.design.graph l.initial.self.retiming l.calls)
    × (l.accepted + length (moves l.initial.self.design.graph l.self.retiming (drop l.call-index l.calls)) ≡ length (moves l.initial.self.design.graph l.initial.self.retiming l.calls))
    × (l.accepted ≤ l.call-index)
    × ((last : Option Call)
    × (last_accepted l.initial.self.design.graph l.initial.self.retiming l.calls ≡ option_or (last_accepted l.initial.self.design.graph l.self.retiming (drop l.call-index l.calls)) last)
    × (last ≡ Some Settle → C1Holds l.initial.self.design.graph l.self.retiming × C2Holds l.initial.self.design.graph l.self.retiming))
