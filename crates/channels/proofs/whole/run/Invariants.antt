use Rattle.std.proofs.Common.{◌≡◌, take}
use Rattle.channels.specs.Events.{Ran, state}
use Rattle.channels.proofs.whole.run.Given as goal

-- the events so far have led here, with the answers so far
abbrev pub invariant-loop-place : goal.invariant-loop-place
invariant-loop-place g l =
    let m = g.L.CellLibrary.meaning in
    record {
      program : l.machine.program ≡ l.initial.machine.program;
      same : m l.library ≡ m l.initial.library;
      ran : Ran l.initial.machine.program.table (m l.initial.library) (state l.initial.machine.cycle l.initial.registers) (take l.place l.events) (take l.place l.answers) (state l.machine.cycle l.registers);
    }
