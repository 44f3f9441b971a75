use Rattle.std.proofs.Common.{◌≡◌, ℕ, List, length, pos, unwrap_or, ap, ◌∙◌, rules}
use Rattle.std.proofs.lemmas.Bool.{cond-true}
use Rattle.words.proofs.Made.{made_front}
use Rattle.bench.specs.Firing.{place_in}
use Rattle.bench.specs.Orders.{rank_of}
use Rattle.bench.proofs.order.Order.ranks_by_node.Goals as goal

pub returns-clause-ranks : goal.returns-clause-ranks
returns-clause-ranks c =
    let l : List ℕ = c.args.self.now in
    made_front (λ i. pos (place_in l i)) (length l) c.from_fn.result
    (λ i y q h. let made : y ≡ pos (unwrap_or (rank_of l i) 0) = search rules in (search rules, λ b. made ∙ ap (λ r. pos (unwrap_or r 0)) (cond-true _ _ _ (c.requires.whole i b))))
    32 (pos 0) c.requires.few c.from_fn.ensures.items
