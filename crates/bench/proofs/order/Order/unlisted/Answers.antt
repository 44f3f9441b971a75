use Rattle.std.proofs.Common.{Bool, sym, ◌∙◌, true, false, ◌≡◌, cond, not, Some, None, Option, refl, ℕ, rules, tests}
use Rattle.bench.specs.Firing.{has}
use Rattle.bench.proofs.Finding.{first_where}
use Rattle.bench.proofs.Listed.{has_rank}
use Rattle.bench.proofs.order.Order.unlisted.Goals as goal

-- a test turned round
turned : (t b : Bool) (i : ℕ) → t ≡ not b → ◌≡◌ {A = Option ℕ} (cond t None (Some i)) (cond b (Some i) None)
turned t true i e = rw e refl
turned t false i e = rw e refl

pub returns : goal.returns
returns c =
    first_where _ (λ i. cond (has c.args.self.now i) None (Some i)) c.args.count (cc) c.find.ensures.ran
    (λ x b h k. (search rules, λ l. turned _ b x (sym (has_rank c.args.self.now x) ∙ search (rules, tests))))
