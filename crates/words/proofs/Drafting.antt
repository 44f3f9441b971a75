-- The draft of one word more.
use Rattle.std.proofs.Common.{◌≡◌, ℕ, zero, suc, ◌⊎◌, inl, inr, ◌+◌, ◌<◌, ◌≤◌, false, List, [], ◌∷◌, ◌++◌, length, get_or, take, set, is_some, Some, None, Option, sym, refl, ap, ◌∙◌, subst, ⊎_elim, add-zero, add-suc, suc-add, arith}
use Rattle.std.proofs.lemmas.List.{get_or-set_same, get_or-set_other, get_or_past, get_or-replicate, length-set, append-nil}
use Rattle.std.proofs.lemmas.Bool.{cases_lt, cases_eq, true≢false}
use Rattle.words.specs.declared.graph.Node.{Node}
use Rattle.words.specs.declared.graph.Output.{Output}
use Rattle.words.specs.declared.graph.Graph.{Graph}
use Rattle.words.specs.declared.draft.Draft.{Draft}
use Rattle.words.specs.Designs.{NodeInRange, InRange, blank, absent, node_at, sources}
use Rattle.words.specs.Encoding.{head_word, node_word, feed_word, output_word, feed_words, node_words, body}
use Rattle.words.proofs.Encodings.{nodes_join}
use Rattle.words.specs.Drafts.{drafted, output_words, finished, Sound, with_node}

-- a blank node has no feed words
pub blank_none : (k : ℕ) → get_or blank.feeds k None ≡ None
blank_none k =
    ⊎_elim
    (λ (l : k < sources). get_or-replicate sources k None None l)
    (λ (l : sources ≤ k). get_or_past blank.feeds k None l)
    (cases_lt k sources)

pub blank_feeds : feed_words 0 blank.feeds ≡ []
unfolding feed_words
blank_feeds = refl

-- one node more at the end
pub nodes_push : (i : ℕ) (nodes : List Node) (node : Node) →
    node_words i (nodes ++ node ∷ []) ≡ node_words i nodes ++ (node_word (i + length nodes) node.operation ∷ feed_words 0 node.feeds)
unfolding node_words
nodes_push i nodes node =
    nodes_join i nodes (node ∷ []) ∙ ap (λ ws. node_words i nodes ++ (node_word (i + length nodes) node.operation ∷ ws)) (append-nil (feed_words 0 node.feeds))

-- a row with no feed has no words
pub feeds_none : (j : ℕ) (fs : List (Option ℕ)) → ((k : ℕ) → get_or fs k None ≡ None) → feed_words j fs ≡ []
unfolding feed_words
feeds_none j [] none = refl
feeds_none j (None ∷ fs) none = feeds_none (suc j) fs (λ k. none (suc k))
feeds_none j (Some e ∷ fs) none = absurd (true≢false (ap is_some (none 0)))

-- one feed more, above all that are there
pub feeds_set : (j : ℕ) (fs : List (Option ℕ)) (s d : ℕ) → s < length fs → ((k : ℕ) → s ≤ k → get_or fs k None ≡ None) →
    feed_words j (set fs s (Some d)) ≡ feed_words j fs ++ (feed_word (j + s) d ∷ [])
unfolding feed_words
feeds_set j [] s d h none = absurd (omega arith)
feeds_set j (f ∷ fs) zero d h none =
    ap (λ ws. feed_word j d ∷ ws) (feeds_none (suc j) fs (λ k. none (suc k) (omega arith)))
    ∙ ap (λ m. feed_word m d ∷ []) (sym (add-zero j))
    ∙ ap (λ ws. ws ++ (feed_word (j + 0) d ∷ [])) (sym (feeds_none j (f ∷ fs) (λ k. none k (omega arith))))
feeds_set j (None ∷ fs) (suc s) d h none =
    feeds_set (suc j) fs s d (omega arith) (λ k l. none (suc k) (omega arith)) ∙ ap (λ m. feed_words (suc j) fs ++ (feed_word m d ∷ [])) (suc-add j s ∙ sym (add-suc j s))
feeds_set j (Some e ∷ fs) (suc s) d h none =
    ap (λ ws. feed_word j e ∷ ws) (feeds_set (suc j) fs s d (omega arith) (λ k l. none (suc k) (omega arith)) ∙ ap (λ m. feed_words (suc j) fs ++ (feed_word m d ∷ [])) (suc-add j s ∙ sym (add-suc j s)))

-- what the table holds after a write
module _ (g : Graph) (r : InRange g) (i : ℕ) (l : i < g.count) (node : Node) where
  inside : i < length g.nodes
  inside = omega (arith, r.few, r.table)

  pub at_same : node_at (with_node g i node) i ≡ node
  at_same = get_or-set_same g.nodes i node absent inside

  pub at_other : (k : ℕ) → (k ≡ i → ⊥) → node_at (with_node g i node) k ≡ node_at g k
  at_other k ne = get_or-set_other g.nodes i k node absent ne

  -- a node in range keeps a design in range
  pub in_range_with : NodeInRange g.count node → InRange (with_node g i node)
  in_range_with n =
      record {
        some = r.some;
        few = r.few;
        table = length-set g.nodes i node ∙ r.table;
        nodes = λ k m.
            ⊎_elim
            (λ (e : k ≡ i). subst (NodeInRange g.count) (sym (ap (node_at (with_node g i node)) e ∙ at_same)) n)
            (λ (ne : k ≡ i → ⊥). subst (NodeInRange g.count) (sym (at_other k ne)) (r.nodes k m))
            (cases_eq k i);
        rest = λ k m o. at_other k (λ e. omega arith) ∙ r.rest k m o;
        output_node = r.output_node;
        output_delay = r.output_delay;
      }

-- the words of a draft whose output is still to come
pub open_words : (d : Draft) → d.output ≡ None → drafted d ≡ head_word d.graph.count ∷ node_words 0 (take d.seen d.graph.nodes)
open_words d e = ap (λ o. (head_word d.graph.count ∷ node_words 0 (take d.seen d.graph.nodes)) ++ output_words o) e ∙ append-nil _

-- an output is there or not
pub output_cases : (o : Option Output) → (o ≡ None) ⊎ ((x : Output) × (o ≡ Some x))
output_cases None = inl refl
output_cases (Some x) = inr (x, refl)

pub none_some : {x : Output} → ◌≡◌ {A = Option Output} None (Some x) → ⊥
none_some e = true≢false (ap is_some (sym e))

pub none_from : (o : Option Output) → is_some o ≡ false → o ≡ None
none_from None h = refl
none_from (Some x) h = absurd (true≢false h)

pub still_open : (d : Draft) → Sound d → d.seen < d.graph.count → d.output ≡ None
still_open d s l =
    ⊎_elim (λ (e : d.output ≡ None). e) (λ (there : (x : Output) × (d.output ≡ Some x)). absurd (omega (arith, (s.output there.0 there.1).0))) (output_cases d.output)

-- the design of a draft with its output
pub finished_words : (d : Draft) → Sound d → (o : Output) → d.output ≡ Some o → drafted d ≡ body (finished d o)
finished_words d s o e =
    ap (λ x. (head_word d.graph.count ∷ node_words 0 (take d.seen d.graph.nodes)) ++ output_words x) e
    ∙ ap (λ m. (head_word d.graph.count ∷ node_words 0 (take m d.graph.nodes)) ++ output_word o ∷ []) (s.output o e).0

pub finished_in_range : (d : Draft) → Sound d → (o : Output) → d.output ≡ Some o → InRange (finished d o)
finished_in_range d s o e =
    let r = s.ranges in
    let there = s.output o e in
    record { some = r.some; few = r.few; table = r.table; nodes = r.nodes; rest = r.rest; output_node = there.1; output_delay = there.2 }
