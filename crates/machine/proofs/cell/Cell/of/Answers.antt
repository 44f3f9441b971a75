use Rattle.std.proofs.Common.{◌≡◌, ℕ, ◌<◌, length, get_or, take, Some, None, Option, refl, ap, ◌∙◌, sym, arith}
use Rattle.std.proofs.lemmas.List.{length-set, take_more_set}
use Rattle.words.specs.declared.graph.Node.{Node}
use Rattle.words.specs.Designs.{feed_at, absent}
use Rattle.bench.proofs.Soundness.{slice_at}
use Rattle.machine.proofs.Taps.{taps_none, taps_more, taps_same}
use Rattle.machine.proofs.cell.Cell.of.Goals as goal
use Rattle.machine.proofs.cell.Cell.of.Goals.{in-Some, in_default}

pub loop-source-init : goal.loop-source-init
loop-source-init c =
    let row : ℕ → Option ℕ = feed_at c.args.design.now.graph c.args.node in
    record { table = refl; few = omega arith; so_far = taps_none row }

pub loop-source-preserved : goal.loop-source-preserved
loop-source-preserved c =
    let row : ℕ → Option ℕ = feed_at c.args.design.now.graph c.args.node in
    let k : ℕ = c.loop-source.source in
    let heard : get_or (get_or c.nodes.result.now c.args.node absent).feeds k None ≡ row k =
    ap (λ (node : Node). get_or node.feeds k None) (slice_at c.args.design.now.graph c.nodes.result.now c.args.node c.nodes.ensures c.requires) in
    let inside : c.loop-source.count < length c.loop-source.taps = omega (arith, c.loop-source.invariant.table, c.loop-source.invariant.few, c.loop-source-test.true) in
    elim c.match-feed.branch [
      | in-Some w ↦
          record {
            table = ap length w.taps-is ∙ length-set c.loop-source.taps c.loop-source.count _ ∙ c.loop-source.invariant.table;
            few = omega (arith, w.count-is, c.loop-source.invariant.few);
            so_far = ap (λ n. take n c.match-feed.taps) w.count-is ∙ ap (take _) w.taps-is ∙ take_more_set c.loop-source.taps c.loop-source.count _ inside
                ∙ taps_more row k _ c.loop-source.invariant.so_far w.from-delay.result (sym heard ∙ w.in-Some.is ∙ ap Some (sym w.from-delay.ensures));
          }
      | in_default w ↦
          record {
            table = ap length w.taps-is ∙ c.loop-source.invariant.table;
            few = omega (arith, w.count-is, c.loop-source.invariant.few);
            so_far = ap (λ n. take n c.match-feed.taps) w.count-is ∙ ap (take c.loop-source.count) w.taps-is ∙ taps_same row k _ c.loop-source.invariant.so_far (sym heard ∙ w.in_default.is);
          }
    ]
