use Rattle.std.proofs.Common.{◌≡◌, ◌*◌, ◌≤◌, map, sum, take}
use Rattle.std.specs.List.{range_with_len}
use Rattle.machine.proofs.layout.line_starts.Given as goal

abbrev pub invariant-loop-line : goal.invariant-loop-line
invariant-loop-line l = record {
  starts : l.starts.items ≡ map (λ k. sum (take k l.lines)) (range_with_len 0 l.line-index);
  start : l.start ≡ sum (take l.line-index l.lines);
  short : l.start ≤ 65535 * l.line-index;
}
