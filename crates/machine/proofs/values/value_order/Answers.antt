use Rattle.words.proofs.Ranges.{ranges}
use Rattle.bench.specs.Firing.{place_in}
use Rattle.bench.specs.Retimings.{order as order-of}
use Rattle.bench.proofs.Complete.{ranked_order}
use Rattle.bench.proofs.Soundness.{sound}
use Rattle.machine.specs.Arrays.{array_of}
use Rattle.machine.proofs.Channels.{channels}
use Rattle.machine.proofs.Cycles.{determined as array_determined, in_firing_order}
use Rattle.machine.proofs.Histories.{determined}
use Rattle.machine.proofs.values.value_order.Goals as goal

pub returns : goal.returns
returns g c =
    let bench = c.args.bench.now in
    let graph = bench.design.graph in
    let range = ranges graph bench.design.sound in
    let order = c.source_order.result in
    let ranked = c.source_order.ensures.ranked in
    record {
      listed = c.source_order.ensures.listed;
      ranked = ranked;
      determined = λ m rest x. determined graph range order ranked m rest x;
      array = λ m rest x.
          let fires = ranked_order graph range.few bench.retiming (sound graph bench.retiming bench.sound) bench.ordered in
          let firing = order-of graph bench.retiming in
          array_determined (array_of graph bench.retiming) (place_in firing) (in_firing_order graph range bench.retiming firing fires) m rest x;
      channels = λ m. channels graph range bench.retiming (sound graph bench.retiming bench.sound) order ranked m;
    }
