use Rattle.std.proofs.Common.{◌≡◌, ◌+◌, map, length, take, sum, ap, ◌∙◌, arith}
use Rattle.std.specs.List.{range_with_len}
use Rattle.machine.proofs.Layouts.{starts_some, starts_more, begins_more}
use Rattle.machine.proofs.layout.line_starts.Goals as goal

pub push-requires : goal.push-requires
push-requires c =
    let long = starts_some c.args.lines.now c.loop-line.starts.items c.loop-line.line-index c.loop-line.invariant.starts in
    (omega arith, omega (arith, c.requires, c.loop-line-test.true))

pub loop-line-preserved : goal.loop-line-preserved
loop-line-preserved c =
    let lines = c.args.lines.now in
    let k = c.loop-line.line-index in
    let more = begins_more lines k c.loop-line-test.true in
    record {
      starts = c.push.ensures.items ∙ starts_more lines c.loop-line.starts.items k c.loop-line.start c.loop-line.invariant.starts c.loop-line.invariant.start;
      start = omega (arith, c.loop-line.invariant.start, c.from-start.ensures);
      short = omega (arith, c.loop-line.invariant.short, c.from-start.ensures, c.type_inv.lines k);
    }

pub push-requires-2 : goal.push-requires-2
push-requires-2 c =
    let long = starts_some c.args.lines.now c.loop-line.starts.items c.loop-line.line-index c.loop-line.invariant.starts in
    (omega arith, omega (arith, c.requires, c.loop-line.auto.line-index-end))

pub returns-clause-starts : goal.returns-clause-starts
returns-clause-starts c =
    let lines = c.args.lines.now in
    let all : c.loop-line.line-index ≡ length lines = omega (arith, c.loop-line-test.false, c.loop-line.auto.line-index-end) in
    c.push-2.ensures.items ∙ starts_more lines c.loop-line.starts.items c.loop-line.line-index c.loop-line.start c.loop-line.invariant.starts c.loop-line.invariant.start
    ∙ ap (λ n. map (λ k. sum (take k lines)) (range_with_len 0 (n + 1))) all
