-- The worked designs are in range: each of their numbers, looked at in turn.
use Rattle.std.proofs.Common.{◌≡◌, ℕ, ◌+◌, ◌-◌, ◌<◌, ◌≤◌, Bool, true, false, cond, ◌&&◌, eqb, ltb, List, ◌++◌, length, get_or, replicate, take, is_some, Some, None, Option, sym, refl, ap, ◌∙◌, ⊎_elim, arith}
use Rattle.std.proofs.lemmas.List.{get_or_past, get_or-replicate, get_or-append_right, length-append, length-replicate}
use Rattle.std.proofs.lemmas.Bool.{true≢false, and_parts, ltb-true, eqb-true, cases_lt}
use Rattle.words.specs.declared.graph.Node.{Node}
use Rattle.words.specs.declared.graph.Graph.{Graph}
use Rattle.words.specs.Designs.{NodeInRange, InRange, node_at, blank, absent, byte, is_source, sources, max_nodes}
use Rattle.bench.specs.First.{first}
use Rattle.bench.proofs.Searches.{first_none}
use Rattle.channels.specs.Examples.{design_e, loop, delayed, fir}

-- a feed out of range, by its source
feed_bad : ℕ → ℕ → Option ℕ → Option ℕ
feed_bad n j None = None
feed_bad n j (Some d) = cond (ltb d byte && is_source n j) None (Some j)

-- a node out of range
node_bad : ℕ → Node → Option ℕ
node_bad n node = cond (ltb node.operation byte && eqb (length node.feeds) sources) (first (λ j. feed_bad n j (get_or node.feeds j None)) sources) (Some 0)

passed : {X : Type 0} (b : Bool) (o : Option X) (x : X) → cond b o (Some x) ≡ None → (b ≡ true) × (o ≡ None)
passed true o x e = (refl, e)
passed false o x e = absurd (true≢false (ap is_some e))

feed_fine : (n j d : ℕ) → feed_bad n j (Some d) ≡ None → (d < byte) × (is_source n j ≡ true)
unfolding feed_bad
feed_fine n j d e =
    let parts = and_parts (ltb d byte) (is_source n j) (passed (ltb d byte && is_source n j) None j e).0 in
    (ltb-true d byte parts.0, parts.1)

node_fine : (n : ℕ) (node : Node) → node_bad n node ≡ None → NodeInRange n node
unfolding node_bad
node_fine n node e =
    let p = passed (ltb node.operation byte && eqb (length node.feeds) sources) _ 0 e in
    let parts = and_parts (ltb node.operation byte) (eqb (length node.feeds) sources) p.0 in
    let row : length node.feeds ≡ sources = eqb-true (length node.feeds) sources parts.1 in
    record {
      operation = ltb-true node.operation byte parts.0;
      row = row;
      delays = λ j d is. (fine row p.1 j d is).0;
      heard = λ j d is. (fine row p.1 j d is).1;
    }
  where
    fine : length node.feeds ≡ sources → first (λ j. feed_bad n j (get_or node.feeds j None)) sources ≡ None → (j d : ℕ) → get_or node.feeds j None ≡ Some d → (d < byte) × (is_source n j ≡ true)
    fine row none j d is =
        ⊎_elim
        (λ (l : j < sources). feed_fine n j d (ap (feed_bad n j) (sym is) ∙ first_none (λ k. feed_bad n k (get_or node.feeds k None)) sources j none l))
        (λ (l : sources ≤ j). absurd (true≢false (ap is_some (sym is ∙ get_or_past node.feeds j None (omega (arith, row))))))
        (cases_lt j sources)

-- all nodes at once
nodes_fine : (g : Graph) → first (λ i. node_bad g.count (node_at g i)) max_nodes ≡ None → (i : ℕ) → i < max_nodes → NodeInRange g.count (node_at g i)
nodes_fine g none i l = node_fine g.count (node_at g i) (first_none (λ k. node_bad g.count (node_at g k)) max_nodes i none l)

-- a design whose table is nodes, and blanks past them
module _ (g : Graph) (l : List Node) (k : ℕ) (table : g.nodes ≡ l ++ replicate k blank) (counted : length l ≡ g.count) (full : g.count + k ≡ max_nodes) where
  past : (i : ℕ) → g.count ≤ i → i < max_nodes → node_at g i ≡ blank
  past i h lt = ap (λ ns. get_or ns i absent) table ∙ get_or-append_right l (replicate k blank) g.count i absent counted h ∙ get_or-replicate k (i - g.count) blank absent (omega (arith, full))

  in_range : 1 ≤ g.count → g.output.node < g.count → g.output.delay < byte → first (λ i. node_bad g.count (node_at g i)) max_nodes ≡ None → InRange g
  in_range some node delay none =
      record {
        some = some;
        few = omega (arith, full);
        table = ap length table ∙ length-append l (replicate k blank) ∙ ap (λ n. length l + n) (length-replicate k blank) ∙ ap (λ n. n + k) counted ∙ full;
        nodes = nodes_fine g none;
        rest = past;
        output_node = node;
        output_delay = delay;
      }

pub e_in_range : InRange design_e
unfolding first node_bad feed_bad
e_in_range = in_range design_e (take design_e.count design_e.nodes) 30 refl refl refl (omega arith) (omega arith) (omega arith) refl

pub loop_in_range : InRange loop
unfolding first node_bad feed_bad
loop_in_range = in_range loop (take loop.count loop.nodes) 31 refl refl refl (omega arith) (omega arith) (omega arith) refl

pub delayed_in_range : InRange (delayed 63) × InRange (delayed 64) × InRange (delayed 65)
unfolding first node_bad feed_bad
delayed_in_range = (
  in_range (delayed 63) (take 1 (delayed 63).nodes) 31 refl refl refl (omega arith) (omega arith) (omega arith) refl,
  in_range (delayed 64) (take 1 (delayed 64).nodes) 31 refl refl refl (omega arith) (omega arith) (omega arith) refl,
  in_range (delayed 65) (take 1 (delayed 65).nodes) 31 refl refl refl (omega arith) (omega arith) (omega arith) refl,
)

pub fir_in_range : InRange fir
unfolding first node_bad feed_bad
fir_in_range = in_range fir (take fir.count fir.nodes) 28 refl refl refl (omega arith) (omega arith) (omega arith) refl
