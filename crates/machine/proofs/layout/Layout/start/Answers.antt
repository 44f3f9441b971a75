use Rattle.std.proofs.Common.{◌≡◌, ℕ, length, get_or, sum, take, ap, ◌∙◌, List, arith}
use Rattle.std.proofs.lemmas.List.Sums.{sum_by-take-le}
use Rattle.machine.proofs.Layouts.{starts_long, starts_at}
use Rattle.machine.proofs.layout.Layout.start.Goals as goal

pub bounds-deref-k : goal.bounds-deref-k
bounds-deref-k c = omega (arith, ap length c.deref.ensures.0, ap length c.args.self.now.placed, starts_long c.args.self.now.lines.now, c.args.self.now.all, c.requires)

pub returns : goal.returns
returns c =
    let lines = c.args.self.now.lines.now in
    let k = c.args.k in
    let is : get_or c.deref.result.now k 0 ≡ sum (take k lines) =
    ap (λ (xs : List ℕ). get_or xs k 0) (c.deref.ensures.0 ∙ c.args.self.now.placed) ∙ starts_at lines k (omega (arith, c.args.self.now.all, c.requires)) in
    record { start = is; short = omega (arith, sum_by-take-le (λ x. x) lines k, c.args.self.now.short) }
