use Rattle.std.proofs.Common.{◌+◌, ◌&&◌, Some, None, sym, ap, ◌∙◌, ap₂, cond, rules, arith}
use Rattle.std.proofs.lemmas.Bool.{cond-false, and_left, and_right, le-ltb, lt-ltb}
use Rattle.words.specs.declared.graph.Graph.{Graph}
use Rattle.words.proofs.Ranges.{ranges}
use Rattle.bench.specs.declared.retiming.Retiming.{Retiming}
use Rattle.bench.specs.declared.verdict.Breach.TheVariants.{C2}
use Rattle.bench.specs.Retimings.{current_delay}
use Rattle.bench.specs.Verdicts.{c2_at, clash}
use Rattle.bench.proofs.Finding.{first_above_from}
use Rattle.bench.proofs.Searches.{first_all}
use Rattle.bench.proofs.Settled.{fed}
use Rattle.bench.proofs.Soundness.{feed_inside}
use Rattle.bench.proofs.bench.Bench.c2_of_node.Goals as goal

-- a node that does not hear the source clashes with none
pub returns-in_err-delay : goal.returns-in_err-delay
returns-in_err-delay c =
    let g : Graph = c.args.self.now.design.graph in
    let p : Retiming = c.args.self.now.retiming in
    c.from_residual.ensures
    ∙ sym (first_all (c2_at g p c.args.source c.args.smaller) g.count
    (λ k l. cond-false _ _ _ (and_right _ _ (ap (λ o. clash o (current_delay g p k c.args.source)) (sym c.delay.ensures ∙ c.in_err-delay.was)))))

pub overflow_add-smaller : goal.overflow_add-smaller
overflow_add-smaller c =
    let g : Graph = c.args.self.now.design.graph in
    let r = ranges g c.args.self.now.design.sound in
    let f = fed g c.args.self.now.retiming c.args.smaller c.args.source c.in_ok-delay.delay (sym c.delay.ensures ∙ c.in_ok-delay.was) in
    omega (arith, r.few, (feed_inside g r c.args.smaller c.args.source f.0 f.1).0)

pub returns : goal.returns
returns c =
    let g : Graph = c.args.self.now.design.graph in
    let p : Retiming = c.args.self.now.retiming in
    first_above_from (c2_at g p c.args.source c.args.smaller) (c.args.smaller + 1) (λ i l. cond-false _ _ _ (and_left _ _ (le-ltb c.args.smaller i (omega arith)))) g.count (cc) c.find_map.ensures.runs (λ x b h k. search rules)
    (λ x b m l k.
    ap (λ t. cond t (Some (C2 c.args.source c.args.smaller x)) None)
    (ap₂ (λ t o. t && clash o (current_delay g p x c.args.source)) (lt-ltb c.args.smaller x (omega arith)) (sym c.delay.ensures ∙ c.in_ok-delay.was))
    ∙ search rules)
