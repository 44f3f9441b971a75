use Rattle.std.proofs.Common.{◌≡◌, ◌≤◌, length, sym, ap, ◌∙◌, arith}
use Rattle.std.proofs.lemmas.List.{length-take-le}
use Rattle.words.proofs.Ranges.{ranges, feed_past_nodes}
use Rattle.words.proofs.design.Design.feed.Goals as goal

pub returns-in_err-get : goal.returns-in_err-get
returns-in_err-get c =
    let r = ranges c.args.self.now.graph c.args.self.now.sound in
    let long : length c.nodes.result.now ≡ c.args.self.now.graph.count =
    ap length c.nodes.ensures ∙ length-take-le c.args.self.now.graph.count c.args.self.now.graph.nodes (omega (arith, r.few, r.table)) in
    let past : length c.nodes.result.now ≤ c.args.node = c.in_err-get.ensures.lookup.3 in
    c.from_residual.ensures ∙ sym (feed_past_nodes c.args.self.now.graph r c.args.node c.args.source (omega arith))
