-- A design's ranges, out of the fact that its type carries.
use Rattle.std.proofs.Common.{◌≡◌, ℕ, ◌<◌, ◌≤◌, length, get_or, None, ap, ◌∙◌, ⊎_elim, arith}
use mathlib.Core.Bool.{Bool-set}
use mathlib.Core.Logic.{∥∥₁_elim}
use native.Mathlib.Bridge.{le_prop}
use native.Mathlib.Nat.{ℕ_set}
use base.Stored.{Coded-set}
use Rattle.std.proofs.lemmas.List.{get_or_past, get_or-replicate}
use Rattle.std.proofs.lemmas.Bool.{cases_lt}
use Rattle.words.specs.contracts.graph.Node.{the_row}
use Rattle.words.specs.declared.graph.Node.{Node}
use Rattle.words.specs.declared.graph.Graph.{Graph}
use Rattle.words.specs.Designs.{NodeInRange, InRange, blank, absent, node_at, feed_at, sources, max_nodes}

node_set : (x y : Node) (p q : x ≡ y) → p ≡ q
node_set = Coded-set the_row.coded

node_prop : (n : ℕ) (node : Node) (p q : NodeInRange n node) → p ≡ q
node_prop n node p q =
    λ i.
    record {
      operation = le_prop p.operation q.operation i;
      row = ℕ_set _ _ p.row q.row i;
      delays = λ j d e. le_prop (p.delays j d e) (q.delays j d e) i;
      heard = λ j d e. Bool-set _ _ (p.heard j d e) (q.heard j d e) i;
    }

in_range_prop : (g : Graph) (p q : InRange g) → p ≡ q
in_range_prop g p q =
    λ i.
    record {
      some = le_prop p.some q.some i;
      few = le_prop p.few q.few i;
      table = ℕ_set _ _ p.table q.table i;
      nodes = λ k l. node_prop _ _ (p.nodes k l) (q.nodes k l) i;
      rest = λ k l m. node_set _ _ (p.rest k l m) (q.rest k l m) i;
      output_node = le_prop p.output_node q.output_node i;
      output_delay = le_prop p.output_delay q.output_delay i;
    }

pub ranges : (g : Graph) → ∥ InRange g ∥₁ → InRange g
ranges g t = ∥∥₁_elim t (in_range_prop g) (λ p. p)

-- a row of the table has a place for each source
row_length : (g : Graph) → InRange g → (i : ℕ) → length (node_at g i).feeds ≤ sources
row_length g r i =
    ⊎_elim
    (λ (l : i < max_nodes). omega (arith, (r.nodes i l).row))
    (λ (l : max_nodes ≤ i). let e = ap (λ (node : Node). length node.feeds) (get_or_past g.nodes i absent (omega (arith, r.table))) in omega arith)
    (cases_lt i max_nodes)

-- no feed is heard past the nodes
pub feed_past_nodes : (g : Graph) → InRange g → (i j : ℕ) → g.count ≤ i → feed_at g i j ≡ None
feed_past_nodes g r i j h =
    ⊎_elim
    (λ (l : i < max_nodes). ap (λ (node : Node). get_or node.feeds j None) (r.rest i h l) ∙ all_none j)
    (λ (l : max_nodes ≤ i). ap (λ (node : Node). get_or node.feeds j None) (get_or_past g.nodes i absent (omega (arith, r.table))))
    (cases_lt i max_nodes)
  where
    all_none : (k : ℕ) → get_or blank.feeds k None ≡ None
    all_none k =
        ⊎_elim
        (λ (l : k < sources). get_or-replicate sources k None None l)
        (λ (l : sources ≤ k). get_or_past blank.feeds k None l)
        (cases_lt k sources)

-- nor past the sources
pub feed_past_sources : (g : Graph) → InRange g → (i j : ℕ) → sources ≤ j → feed_at g i j ≡ None
feed_past_sources g r i j h = get_or_past (node_at g i).feeds j None (omega (arith, row_length g r i))
