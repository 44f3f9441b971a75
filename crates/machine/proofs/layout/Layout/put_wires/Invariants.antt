use Rattle.std.proofs.Common.{◌≡◌, ◌++◌, map, take}
use Rattle.machine.specs.Wirings.{wire_of}
use Rattle.machine.proofs.layout.Layout.put_wires.Given as goal

abbrev pub invariant-loop-tap : goal.invariant-loop-tap
invariant-loop-tap l = l.wires.items ≡ l.initial.wires.items ++ map (wire_of l.self.count l.self.lines.now) (take l.tap-index l.taps)
