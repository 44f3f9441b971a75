-- Two designs in range with the same words are the same design.
use Rattle.std.proofs.Common.{◌≡◌, ℕ, suc, ◌+◌, ◌*◌, ◌^◌, ◌<◌, ◌≤◌, true, false, List, [], ◌∷◌, ◌++◌, length, get_or, take, drop, Some, None, Option, sym, refl, ap, ◌∙◌, subst, ap₂, ⊎_elim, append_assoc, arith}
use Rattle.std.specs.List.{AllByRecursion}
use Rattle.std.proofs.lemmas.List.{length-take-le, get_or-take, ext_get_or}
use Rattle.std.proofs.lemmas.Bool.{cases_lt, both_ways}
use Rattle.words.specs.declared.graph.Node.{Node}
use Rattle.words.specs.declared.graph.Graph.{Graph}
use Rattle.words.specs.declared.kinds.Kind.TheVariants as kind
use Rattle.words.specs.Fields.{field}
use Rattle.words.specs.Kinds.{kind_of, is_feed}
use Rattle.words.specs.Designs.{NodeInRange, InRange, absent, max_nodes, byte}
use Rattle.words.specs.Encoding.{feed_word, output_word, end_word, feed_words, node_words, body, encoded}
use Rattle.words.proofs.Wholes.{kind_made, low_field, high_field}
use Rattle.words.proofs.Encodings.{nodes_in_range}

pub first_same : {x y : ℕ} {xs ys : List ℕ} → x ∷ xs ≡ y ∷ ys → x ≡ y
first_same e = ap (λ l. get_or l 0 0) e

pub rest_same : {x y : ℕ} {xs ys : List ℕ} → x ∷ xs ≡ y ∷ ys → xs ≡ ys
rest_same e = ap (drop 1) e

-- these words do not go on with a feed
abbrev NoFeed : List ℕ → Type 0
NoFeed [] = Unit {0}
NoFeed (w ∷ ws) = is_feed (kind_of w) ≡ false

abbrev Small : List (Option ℕ) → Type 0
Small fs = (i d : ℕ) → get_or fs i None ≡ Some d → d < byte

feed_kind : (j d : ℕ) → j < 64 → d < byte → is_feed (kind_of (feed_word j d)) ≡ true
feed_kind j d l small = ap is_feed (kind_made (Some kind.Feed) (d * 2 ^ 6 + j) (omega arith))

-- feeds from above j do not begin with one from j
later : (fs : List (Option ℕ)) (k j e : ℕ) (ws rest : List ℕ) → j < k → k + length fs ≤ 64 → Small fs → e < byte → NoFeed ws →
    feed_words k fs ++ ws ≡ feed_word j e ∷ rest → ⊥
unfolding feed_words
later [] k j e ws rest above room small byte' none q =
    both_ways (is_feed (kind_of (feed_word j e))) (subst NoFeed q none) (feed_kind j e (omega arith) byte')
later (None ∷ fs) k j e ws rest above room small byte' none q =
    later fs (suc k) j e ws rest (omega arith) (omega arith) (λ i d h. small (suc i) d h) byte' none q
later (Some d ∷ fs) k j e ws rest above room small byte' none q =
    let p = low_field 6 8 14 3 k d refl (omega arith) (small 0 d refl) in
    let r = low_field 6 8 14 3 j e refl (omega arith) byte' in
    let same : k ≡ j = sym p ∙ ap (field 0 6) (first_same q) ∙ r in
    omega arith

feeds_tell : (fs gs : List (Option ℕ)) (j : ℕ) (ws vs : List ℕ) → length fs ≡ length gs → j + length fs ≤ 64 → Small fs → Small gs → NoFeed ws → NoFeed vs →
    feed_words j fs ++ ws ≡ feed_words j gs ++ vs → (fs ≡ gs) × (ws ≡ vs)
unfolding feed_words
feeds_tell [] [] j ws vs long room sf sg nw nv q = (refl, q)
feeds_tell [] (g ∷ gs) j ws vs long room sf sg nw nv q = absurd (omega arith)
feeds_tell (f ∷ fs) [] j ws vs long room sf sg nw nv q = absurd (omega arith)
feeds_tell (None ∷ fs) (None ∷ gs) j ws vs long room sf sg nw nv q =
    let r = feeds_tell fs gs (suc j) ws vs (omega arith) (omega arith) (λ i d h. sf (suc i) d h) (λ i d h. sg (suc i) d h) nw nv q in
    (ap (λ l. None ∷ l) r.0, r.1)
feeds_tell (None ∷ fs) (Some e ∷ gs) j ws vs long room sf sg nw nv q =
    absurd (later fs (suc j) j e ws _ (omega arith) (omega arith) (λ i d h. sf (suc i) d h) (sg 0 e refl) nw q)
feeds_tell (Some d ∷ fs) (None ∷ gs) j ws vs long room sf sg nw nv q =
    absurd (later gs (suc j) j d vs _ (omega arith) (omega arith) (λ i e h. sg (suc i) e h) (sf 0 d refl) nv (sym q))
feeds_tell (Some d ∷ fs) (Some e ∷ gs) j ws vs long room sf sg nw nv q =
    let w = first_same q in
    let same : d ≡ e = omega arith in
    let r = feeds_tell fs gs (suc j) ws vs (omega arith) (omega arith) (λ i a h. sf (suc i) a h) (λ i a h. sg (suc i) a h) nw nv (rest_same q) in
    (ap₂ (λ a l. Some a ∷ l) same r.0, r.1)

module _ (n : ℕ) (few : n ≤ max_nodes) where
  -- what follows a node's feeds is no feed
  no_feed : (i : ℕ) (nodes : List Node) (ws : List ℕ) → i + length nodes ≤ n → AllByRecursion (NodeInRange n) nodes → NoFeed ws → NoFeed (node_words i nodes ++ ws)
  unfolding node_words
  no_feed i [] ws room each none = none
  no_feed i (node ∷ nodes) ws room each none = ap is_feed (kind_made (Some kind.Node) (node.operation * 2 ^ 5 + i) (omega (arith, each.0.operation)))

  nodes_tell : (ns ms : List Node) (i : ℕ) (ws vs : List ℕ) → length ns ≡ length ms → i + length ns ≤ n → AllByRecursion (NodeInRange n) ns → AllByRecursion (NodeInRange n) ms → NoFeed ws → NoFeed vs →
      node_words i ns ++ ws ≡ node_words i ms ++ vs → (ns ≡ ms) × (ws ≡ vs)
  unfolding node_words
  nodes_tell [] [] i ws vs long room en em nw nv q = (refl, q)
  nodes_tell [] (y ∷ ms) i ws vs long room en em nw nv q = absurd (omega arith)
  nodes_tell (x ∷ ns) [] i ws vs long room en em nw nv q = absurd (omega arith)
  nodes_tell (x ∷ ns) (y ∷ ms) i ws vs long room en em nw nv q =
      let w = first_same q in
      let operation : x.operation ≡ y.operation = omega arith in
      let tails = sym (append_assoc (feed_words 0 x.feeds) (node_words (suc i) ns) ws) ∙ rest_same q ∙ append_assoc (feed_words 0 y.feeds) (node_words (suc i) ms) vs in
      let feeds =
      feeds_tell x.feeds y.feeds 0 (node_words (suc i) ns ++ ws) (node_words (suc i) ms ++ vs) (en.0.row ∙ sym em.0.row) (omega (arith, en.0.row)) en.0.delays em.0.delays
      (no_feed (suc i) ns ws (omega arith) en.1 nw) (no_feed (suc i) ms vs (omega arith) em.1 nv) tails in
      let rest = nodes_tell ns ms (suc i) ws vs (omega arith) (omega arith) en.1 em.1 nw nv feeds.1 in
      let here : x ≡ y = λ t. record { operation = operation t; feeds = feeds.0 t } in
      (ap₂ (λ a l. a ∷ l) here rest.0, rest.1)

pub encoded_tells : (g h : Graph) → InRange g → InRange h → encoded g ≡ encoded h → g ≡ h
unfolding encoded
encoded_tells g h r s q =
    let count : g.count ≡ h.count = omega (arith, first_same q) in
    let ns : List Node = take g.count g.nodes in
    let ms : List Node = take h.count h.nodes in
    let ln : length ns ≡ g.count = length-take-le g.count g.nodes (omega (arith, r.few, r.table)) in
    let lm : length ms ≡ h.count = length-take-le h.count h.nodes (omega (arith, s.few, s.table)) in
    let o : ℕ = output_word g.output in
    let p : ℕ = output_word h.output in
    let e : ℕ = end_word (length (body g) + 1) in
    let f : ℕ = end_word (length (body h) + 1) in
    let tails = sym (append_assoc (node_words 0 ns) (o ∷ []) (e ∷ [])) ∙ rest_same q ∙ append_assoc (node_words 0 ms) (p ∷ []) (f ∷ []) in
    let told =
    nodes_tell g.count r.few ns ms 0 (o ∷ (e ∷ [])) (p ∷ (f ∷ [])) (omega arith) (omega arith) (nodes_in_range g r)
    (subst (λ m. AllByRecursion (NodeInRange m) ms) (sym count) (nodes_in_range h s))
    (ap is_feed (kind_made (Some kind.Output) (g.output.delay * 2 ^ 6 + g.output.node) (omega (arith, r.output_delay, r.output_node, r.few))))
    (ap is_feed (kind_made (Some kind.Output) (h.output.delay * 2 ^ 6 + h.output.node) (omega (arith, s.output_delay, s.output_node, s.few)))) tails in
    let out : o ≡ p = first_same told.1 in
    let node : g.output.node ≡ h.output.node =
    sym (low_field 6 8 14 4 g.output.node g.output.delay refl (omega (arith, r.output_node, r.few)) r.output_delay) ∙ ap (field 0 6) out
    ∙ low_field 6 8 14 4 h.output.node h.output.delay refl (omega (arith, s.output_node, s.few)) s.output_delay in
    let delay : g.output.delay ≡ h.output.delay =
    sym (high_field 6 8 14 4 g.output.node g.output.delay refl (omega (arith, r.output_node, r.few)) r.output_delay) ∙ ap (field 6 8) out
    ∙ high_field 6 8 14 4 h.output.node h.output.delay refl (omega (arith, s.output_node, s.few)) s.output_delay in
    let nodes : g.nodes ≡ h.nodes =
    ext_get_or absent g.nodes h.nodes (r.table ∙ sym s.table)
    (λ i l.
    ⊎_elim
    (λ (b : i < g.count).
    sym (get_or-take g.count g.nodes i absent b) ∙ ap (λ xs. get_or xs i absent) told.0 ∙ get_or-take h.count h.nodes i absent (omega arith))
    (λ (b : g.count ≤ i). r.rest i b (omega (arith, r.table)) ∙ sym (s.rest i (omega arith) (omega (arith, r.table))))
    (cases_lt i g.count)) in
    λ t. record { count = count t; nodes = nodes t; output = record { node = node t; delay = delay t } }
