use Rattle.std.proofs.Common.{◌≡◌, ℕ, ◌*◌, ◌<◌, List, get_or, Some, None, Option, sym, ap, ◌∙◌, arith}
use Rattle.std.proofs.lemmas.Bool.{cond-true, cond-false, le-leb, lt-leb}
use Rattle.words.specs.declared.faults.Fault.{Fault}
use Rattle.words.specs.declared.graph.Output.{Output}
use Rattle.words.specs.declared.graph.Graph.{Graph}
use Rattle.words.specs.declared.graph.Node.{Node}
use Rattle.words.specs.Designs.{absent, node_at, input}
use Rattle.words.proofs.Ranges.{ranges}
use Rattle.bench.specs.declared.retiming.Retiming.{Retiming}
use Rattle.bench.specs.First.{first}
use Rattle.bench.specs.Retimings.{output_delay}
use Rattle.words.specs.ProgramTables.{max_delay}
use Rattle.bench.specs.Moves.{delays_fault, node_fault, output_fault}
use Rattle.bench.specs.Refusals.{unless, delay_out}
use Rattle.bench.proofs.Outcomes.{unless_err, unless_none, refused}
use Rattle.bench.proofs.Searches.{none_or, some_or, first_start, first_found, first_more}
use Rattle.bench.proofs.Soundness.{slice_long, slice_at}
use Rattle.bench.proofs.delays.Moved.check_delays.Goals as goal
use Rattle.bench.proofs.delays.Moved.check_delays.Goals.{After-check_node, After-slowed}

-- what is wrong at a node
at : Retiming → Graph → ℕ → Option Fault
at p g i = node_fault p i (node_at g i)

module _ (g : Graph) (p : Retiming) where
  -- a feed out of range decides
  by_feeds : (f : Fault) → first (λ i. node_fault p i (node_at g i)) g.count ≡ Some f → delays_fault g p ≡ Some f
  unfolding delays_fault
  by_feeds f h = some_or _ (output_fault g p) f h

  -- where the feeds are in range, the output decides
  by_output : (n : ℕ) → g.count ≡ n → first (λ i. node_fault p i (node_at g i)) n ≡ None → delays_fault g p ≡ output_fault g p
  unfolding delays_fault
  by_output n e h = none_or _ (output_fault g p) (ap (first (λ i. node_fault p i (node_at g i))) e ∙ h)

pub loop-number-init : goal.loop-number-init
loop-number-init c = first_start _

pub check_node-requires : goal.check_node-requires
check_node-requires c =
    let r = ranges c.args.design.now.graph c.args.design.now.sound in
    omega (arith, r.few, slice_long c.args.design.now.graph c.nodes-node-items.result.now r c.nodes-node-items.ensures)

-- the node at hand is one of the graph's
here : (c : After-check_node) → (c.loop-number.number < c.args.design.now.graph.count) × (node_fault c.args.self.now.retiming c.loop-number.number (get_or c.nodes-node-items.result.now c.loop-number.number absent) ≡ at c.args.self.now.retiming c.args.design.now.graph c.loop-number.number)
unfolding at
here c =
    let g : Graph = c.args.design.now.graph in
    let k : ℕ = c.loop-number.number in
    let nodes : List Node = c.nodes-node-items.result.now in
    let l : k < g.count = omega (arith, c.loop-number-test.true, slice_long g nodes (ranges g c.args.design.now.sound) c.nodes-node-items.ensures) in
    (l, ap (node_fault c.args.self.now.retiming k) (slice_at g nodes k c.nodes-node-items.ensures l))

pub returns-in_err-check_node : goal.returns-in_err-check_node
unfolding at
returns-in_err-check_node c =
    let g : Graph = c.args.design.now.graph in
    let p : Retiming = c.args.self.now.retiming in
    let f : Fault = c.in_err-check_node.field-0.0 in
    let h = here (goal.at.returns-in_err-check_node c).After-check_node in
    refused c.from_residual.result _ tt f c.from_residual.ensures.1
    (by_feeds g p f (first_found (at p g) g.count c.loop-number.number f h.0 c.loop-number.invariant (sym h.1 ∙ unless_err _ tt f c.in_err-check_node.ensures)))

pub loop-number-preserved : goal.loop-number-preserved
unfolding at
loop-number-preserved c =
    let h = here (goal.at.loop-number-preserved c).After-check_node in
    first_more (at c.args.self.now.retiming c.args.design.now.graph) c.loop-number.number c.loop-number.invariant
    (sym h.1 ∙ unless_none _ tt c.in_ok-check_node.field-0 c.in_ok-check_node.ensures)

-- no feed is out of range: the output decides, whose delay to come was asked about
output_left : (c : After-slowed) → (delays_fault c.args.design.now.graph c.args.self.now.retiming ≡ output_fault c.args.design.now.graph c.args.self.now.retiming)
    × (c.slowed.result ≡ output_delay c.args.design.now.graph c.args.self.now.retiming)
output_left c =
    let g : Graph = c.args.design.now.graph in
    let p : Retiming = c.args.self.now.retiming in
    let long = slice_long g c.nodes-node-items.result.now (ranges g c.args.design.now.sound) c.nodes-node-items.ensures in (
      by_output g p c.loop-number.number (omega (arith, c.loop-number-test.false)) c.loop-number.invariant,
      c.slowed.ensures ∙ ap (λ (o : Output). p.factor * o.delay) c.output-output.ensures,
    )

pub returns-then-slowed-gt-MAX_DELAY : goal.returns-then-slowed-gt-MAX_DELAY
returns-then-slowed-gt-MAX_DELAY c =
    let h = output_left (goal.at.returns-then-slowed-gt-MAX_DELAY c).After-slowed in
    ap (λ o. unless o tt)
    (ap Some (c.refused.ensures ∙ ap (λ (x : Output). delay_out input x.node) c.output-output.ensures)
    ∙ sym (cond-false _ _ _ (lt-leb (output_delay c.args.design.now.graph c.args.self.now.retiming) max_delay (omega (arith, h.1, c.if-slowed-gt-MAX_DELAY.true)))) ∙ sym h.0)

pub returns : goal.returns
returns c =
    let h = output_left (goal.at.returns c).After-slowed in
    ap (λ o. unless o tt) (sym (cond-true _ _ _ (le-leb (output_delay c.args.design.now.graph c.args.self.now.retiming) max_delay (omega (arith, h.1, c.if-slowed-gt-MAX_DELAY.false)))) ∙ sym h.0)
