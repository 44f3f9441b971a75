use Rattle.std.proofs.Common.{sym, ap₂, ◌∙◌, subst}
use Rattle.words.specs.declared.design.Design.{Design}
use Rattle.words.specs.declared.graph.Graph.{Graph}
use Rattle.words.specs.Designs.{feed_at}
use Rattle.words.proofs.Ranges.{ranges}
use Rattle.bench.specs.Orders.{Ranked}
use Rattle.bench.specs.Retimings.{at_rest, order}
use Rattle.bench.proofs.AtRest.{sound_rest}
use Rattle.bench.proofs.Complete.{ranked_order, ranked_rest}
use Rattle.bench.proofs.bench.Bench.source_order.Goals as goal

pub returns : goal.returns
returns c =
    let g : Graph = c.args.self.now.design.graph in
    let range = ranges g c.args.self.now.design.sound in
    let is = c.firing.ensures ∙ ap₂ (λ (d : Design) p. order d.graph p) c.at_rest.ensures.design c.at_rest.ensures.retiming in
    record {
      listed = is;
      ranked = subst (λ l. Ranked g.count (feed_at g) l) (sym is) (ranked_rest g (order g at_rest) (ranked_order g range.few at_rest (sound_rest g range) c.args.self.now.ordered));
    }
