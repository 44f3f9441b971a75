use Rattle.std.proofs.Common.{◌≡◌, ℕ, ◌<◌, max, get_or, None, sym, ap, ◌∙◌, ap₂, rules, arith}
use Rattle.std.proofs.lemmas.Bool.{cond-true, cond-false, eq-eqb, ne_eqb}
use Rattle.words.specs.declared.graph.Graph.{Graph}
use Rattle.words.specs.declared.graph.Node.{Node}
use Rattle.words.specs.declared.graph.Output.{Output}
use Rattle.words.specs.Designs.{absent, feed_at}
use Rattle.words.proofs.Ranges.{ranges}
use Rattle.bench.specs.Programs.{reach}
use Rattle.bench.specs.Retimings.{delay_of, output_delay}
use Rattle.bench.specs.declared.retiming.Retiming.{Retiming}
use Rattle.bench.proofs.Emitting.{reach_first, reach_some, reach_none}
use Rattle.bench.proofs.Soundness.{slice_long, slice_at}
use Rattle.bench.proofs.bench.Bench.line_length.Goals as goal
use Rattle.bench.proofs.bench.Bench.line_length.Goals.{then-output-source, else-output-source, in-Some, in_default}

pub loop-node-init : goal.loop-node-init
loop-node-init c =
    let g : Graph = c.args.self.now.design.graph in
    let p : Retiming = c.args.self.now.retiming in
    let node : c.output.result.node ≡ g.output.node = ap (λ (o : Output). o.node) c.output.ensures in
    reach_first g p c.args.source _
    (elim c.if-output-source.branch [
      | then-output-source w ↦
          w.length-is ∙ w.output_delay-length.ensures ∙ sym (cond-true _ (output_delay g p) 0 (eq-eqb g.output.node c.args.source (sym node ∙ w.if-output-source.true)))
      | else-output-source w ↦ w.length-is ∙ sym (cond-false _ (output_delay g p) 0 (ne_eqb g.output.node c.args.source (λ e. w.if-output-source.false (node ∙ e))))
    ])

pub loop-node-preserved : goal.loop-node-preserved
loop-node-preserved c =
    let g : Graph = c.args.self.now.design.graph in
    let p : Retiming = c.args.self.now.retiming in
    let j : ℕ = c.args.source in
    let k : ℕ = c.loop-node.node in
    let here : k < g.count = omega (arith, c.loop-node-test.true, slice_long g c.nodes-row-items.result.now (ranges g c.args.self.now.design.sound) c.nodes-row-items.ensures) in
    let row : c.flatten.result ≡ get_or (get_or c.nodes-row-items.result.now k absent).feeds j None = search rules in
    let feed : c.flatten.result ≡ feed_at g k j = row ∙ ap (λ (n : Node). get_or n.feeds j None) (slice_at g c.nodes-row-items.result.now k c.nodes-row-items.ensures here) in
    elim c.match-flatten.branch [
      | in-Some w ↦
          let delay : w.delay_of.result ≡ delay_of p k j w.in-Some.delay = w.delay_of.ensures ∙ ap (λ q. delay_of q k j w.in-Some.delay) c.retimed-retimed.ensures.retiming in
          w.length-is ∙ w.max-length.ensures ∙ ap₂ max c.loop-node.invariant delay ∙ reach_some g p j k w.in-Some.delay (sym feed ∙ w.in-Some.is)
      | in_default w ↦ w.length-is ∙ c.loop-node.invariant ∙ reach_none g p j k (sym feed ∙ w.in_default.is)
    ]

pub returns : goal.returns
returns c =
    let g : Graph = c.args.self.now.design.graph in
    let long = slice_long g c.nodes-row-items.result.now (ranges g c.args.self.now.design.sound) c.nodes-row-items.ensures in
    c.loop-node.invariant ∙ ap (reach g c.args.self.now.retiming c.args.source) (omega (arith, c.loop-node-test.false, long))
