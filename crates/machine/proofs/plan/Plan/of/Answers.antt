use Rattle.std.proofs.Common.{◌≡◌, ℕ, ◌+◌, ◌<◌, List, length, get_or, set, sym, ap, ◌∙◌, subst, ⊎_elim, rules, arith}
use Rattle.std.proofs.lemmas.Bool.{cases_eq}
use Rattle.std.proofs.lemmas.List.{length-set, get_or-set_same, get_or-set_other}
use Rattle.words.specs.declared.design.Design.{Design}
use Rattle.words.specs.declared.graph.Graph.{Graph}
use Rattle.words.specs.Designs.{feed_at}
use Rattle.words.proofs.Ranges.{ranges}
use Rattle.bench.specs.Orders.{Ranked}
use Rattle.bench.specs.Retimings.{order, at_rest}
use Rattle.machine.specs.declared.cell.Cell.{Cell}
use Rattle.machine.specs.Plans.{Planned}
use Rattle.machine.proofs.Planning.{all_ready, whole_of}
use Rattle.machine.proofs.plan.Plan.of.Goals as goal

pub invariant_of-result : goal.invariant_of-result
invariant_of-result c =
    let graph : Graph = c.args.bench.now.design.graph in
    let o = c.source_order-order.ensures in
    let listed = ap length c.nodes-nodes.ensures in
    let count : length c.nodes-nodes.result.now ≡ graph.count = omega (arith, listed, o.ranked.whole) in
    record {
      few = omega (arith, count, (ranges graph c.args.bench.now.design.sound).few);
      ready = all_ready graph (ranges graph c.args.bench.now.design.sound) (order graph at_rest) (subst (λ l. Ranked graph.count (feed_at graph) l) o.listed o.ranked)
          c.loop-rank.cells (length c.nodes-nodes.result.now) count (λ k d l. c.loop-rank.invariant.planned k d (omega (arith, count, c.loop-rank-test.false)));
    }

pub returns-clause-whole : goal.returns-clause-whole
returns-clause-whole c =
    let graph : Graph = c.args.bench.now.design.graph in
    let o = c.source_order-order.ensures in
    let listed = ap length c.nodes-nodes.ensures in
    let count : length c.nodes-nodes.result.now ≡ graph.count = omega (arith, listed, o.ranked.whole) in
    whole_of graph (order graph at_rest) c.loop-rank.cells (length c.nodes-nodes.result.now)
    (omega (arith, count, (ranges graph c.args.bench.now.design.sound).few, c.loop-rank.invariant.table)) count
    (λ k d l. c.loop-rank.invariant.planned k d (omega (arith, count, c.loop-rank-test.false)))

planned_by : {g h : Graph} {i j : ℕ} {cell : Cell} → Planned h j cell → h ≡ g → j ≡ i → Planned g i cell
planned_by {g = g} {j = j} {cell = cell} planned e q = subst (λ i. Planned g i cell) q (subst (λ x. Planned x j cell) e planned)

-- one cell more
more : (g : Graph) (o : List ℕ) (cells : List Cell) (cell : Cell) (i : ℕ) → i < length cells → Planned g (get_or o i 0) cell →
    ((k : ℕ) (d : Cell) → k < i → Planned g (get_or o k 0) (get_or cells k d)) → (k : ℕ) (d : Cell) → k < i + 1 → Planned g (get_or o k 0) (get_or (set cells i cell) k d)
more g o cells cell i inside here before k d l =
    ⊎_elim
    (λ (q : k ≡ i).
    subst (λ m. Planned g (get_or o m 0) (get_or (set cells i cell) m d)) (sym q) (subst (λ x. Planned g (get_or o i 0) x) (sym (get_or-set_same cells i cell d inside)) here))
    (λ (q : k ≡ i → ⊥).
    subst (λ x. Planned g (get_or o k 0) x) (sym (get_or-set_other cells i k cell d q)) (before k d (omega (arith, q))))
    (cases_eq k i)

pub loop-rank-preserved : goal.loop-rank-preserved
loop-rank-preserved c =
    let graph : Graph = c.args.bench.now.design.graph in
    let o : List ℕ = order graph at_rest in
    let i : ℕ = c.loop-rank.rank in
    let here : Planned graph (get_or o i 0) c.of.result = planned_by c.of.ensures (ap (λ (x : Design). x.graph) c.design.ensures.design) (search rules) in
    record {
      table = length-set c.loop-rank.cells i _ ∙ c.loop-rank.invariant.table;
      planned = more graph o c.loop-rank.cells c.of.result i (omega (arith, c.loop-rank.invariant.table, c.loop-rank-test.true, ap length c.nodes-nodes.ensures)) here c.loop-rank.invariant.planned;
    }
