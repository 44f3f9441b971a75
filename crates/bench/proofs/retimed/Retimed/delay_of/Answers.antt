use Rattle.std.proofs.Common.{arith}
use Rattle.words.proofs.Ranges.{ranges}
use Rattle.bench.proofs.Soundness.{sound, feed_fits}
use Rattle.bench.proofs.retimed.Retimed.delay_of.Goals as goal

-- the source's lag is at most `ahead`, by the range of the feed's current delay
pub overflow_sub-result : goal.overflow_sub-result
overflow_sub-result c =
    let ahead-is = c.ahead-ahead.ensures in
    let f = feed_fits c.args.self.now.design.now.graph c.args.self.now.retiming.now (ranges _ c.args.self.now.design.now.sound) (sound _ _ c.args.self.now.sound) c.args.node c.args.source c.args.delay c.requires in
    omega (arith, f.4, c.lag.ensures.source, c.lag.ensures.node)

-- and `ahead` itself fits
pub overflow_cast-result : goal.overflow_cast-result
overflow_cast-result c =
    let ahead-is = c.ahead-ahead.ensures in
    let f = feed_fits c.args.self.now.design.now.graph c.args.self.now.retiming.now (ranges _ c.args.self.now.design.now.sound) (sound _ _ c.args.self.now.sound) c.args.node c.args.source c.args.delay c.requires in
    omega (arith, f.2, f.3)
