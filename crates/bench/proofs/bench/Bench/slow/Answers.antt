use Rattle.std.proofs.Common.{◌≡◌, false, ◌&&◌, leb, [], Err, sym, refl, ap, ◌∙◌, rules}
use Rattle.bench.specs.Moves.{moved}
use Rattle.bench.specs.Refusals.{unless, unless_kept}
use Rattle.bench.proofs.Outcomes.{kept}
use Rattle.bench.proofs.Moved.{slow_wrong, slow_made}
use Rattle.bench.proofs.bench.Bench.slow.Goals as goal

pub returns-then-not-contains : goal.returns-then-not-contains
returns-then-not-contains c =
    let out : (leb 1 c.args.factor && leb c.args.factor 64) ≡ false = search rules in
    let h = slow_wrong c.args.self.now.design.graph c.args.self.now.retiming c.args.factor out in
    record { answer = ap Err c.refused.ensures ∙ sym (ap (λ o. unless o tt) h); design = refl; retiming = kept _ _ _ c.args.self.now.retiming h }

pub returns : goal.returns
returns c =
    let h = slow_made c.args.self.now.design.graph c.args.self.now.retiming c.args.factor (search rules) in
    record {
      answer = c.rescale.ensures.answer ∙ ap (λ o. unless o tt) (sym h);
      design = c.rescale.ensures.design;
      retiming = c.rescale.ensures.retiming ∙ ap (λ o. unless_kept o (moved c.args.self.now.retiming c.args.factor []) c.args.self.now.retiming) (sym h);
    }
