use Rattle.std.proofs.Common.{◌≡◌, ℕ, ◌++◌, ap, ◌∙◌, arith}
use Rattle.words.specs.declared.graph.Graph.{Graph}
use Rattle.words.proofs.Ranges.{ranges}
use Rattle.bench.specs.declared.retiming.Retiming.{Retiming}
use Rattle.bench.specs.Programs.{in_turn, line_at}
use Rattle.bench.proofs.Emitting.{turn_none, turn_more, lines_long, node_line, input_line}
use Rattle.bench.proofs.bench.Bench.put_lines.Goals as goal

pub loop-node-init : goal.loop-node-init
loop-node-init c = turn_none _ _

pub put_line-requires : goal.put_line-requires
put_line-requires c =
    let g : Graph = c.args.self.now.design.graph in
    let r = ranges g c.args.self.now.design.sound in
    let long = lines_long g c.args.self.now.retiming c.args.program.now.items c.loop-node.node c.loop-node.invariant in
    record { source = omega (arith, r.few, c.loop-node-test.true, c.count-node-end.ensures); room = omega (arith, r.few, c.loop-node-test.true, c.count-node-end.ensures, c.requires) }

pub loop-node-preserved : goal.loop-node-preserved
loop-node-preserved c =
    let g : Graph = c.args.self.now.design.graph in
    let p : Retiming = c.args.self.now.retiming in
    let i : ℕ = c.loop-node.node in
    turn_more (line_at g p) c.args.program.now.items i c.loop-node.invariant
    (c.put_line.ensures ∙ ap (λ l. c.loop-node.program.items ++ l) (node_line g p i (omega (arith, c.loop-node-test.true, c.count-node-end.ensures))))

pub put_line-requires-2 : goal.put_line-requires-2
put_line-requires-2 c =
    let g : Graph = c.args.self.now.design.graph in
    let r = ranges g c.args.self.now.design.sound in
    let long = lines_long g c.args.self.now.retiming c.args.program.now.items c.loop-node.node c.loop-node.invariant in
    record { source = omega arith; room = omega (arith, r.few, c.loop-node.auto.node-end, c.count-node-end.ensures, c.requires) }

pub returns : goal.returns
returns c =
    let g : Graph = c.args.self.now.design.graph in
    let p : Retiming = c.args.self.now.retiming in
    let all : c.loop-node.node ≡ g.count = omega (arith, c.loop-node-test.false, c.loop-node.auto.node-end, c.count-node-end.ensures) in
    turn_more (line_at g p) c.args.program.now.items g.count (c.loop-node.invariant ∙ ap (λ n. c.args.program.now.items ++ in_turn (line_at g p) n) all)
    (c.put_line-2.ensures ∙ ap (λ l. c.loop-node.program.items ++ l) (input_line g p))
