-- Laws of a design's words.
use Rattle.std.proofs.Common.{◌≡◌, ℕ, suc, ◌+◌, ◌*◌, ◌<◌, ◌≤◌, List, [], ◌∷◌, ◌++◌, length, take, Some, None, Option, sym, ap, ◌∙◌, subst, append_assoc, add-zero, add-suc, suc-add, arith}
use Rattle.std.specs.List.{AllByRecursion}
use Rattle.std.proofs.ByRecursion.{All-from_get_or}
use Rattle.std.proofs.lemmas.List.{length-append, length_push, length-take-le, get_or-take}
use Rattle.words.specs.declared.graph.Node.{Node}
use Rattle.words.specs.declared.graph.Graph.{Graph}
use Rattle.words.specs.Designs.{NodeInRange, InRange, absent}
use Rattle.words.specs.Encoding.{node_word, feed_word, output_word, feed_words, node_words, body}

-- a row's words, one part after the other
pub feeds_join : (j : ℕ) (xs ys : List (Option ℕ)) → feed_words j (xs ++ ys) ≡ feed_words j xs ++ feed_words (j + length xs) ys
unfolding feed_words
feeds_join j [] ys = ap (λ m. feed_words m ys) (sym (add-zero j))
feeds_join j (None ∷ xs) ys = feeds_join (suc j) xs ys ∙ ap (λ m. feed_words (suc j) xs ++ feed_words m ys) (suc-add j (length xs) ∙ sym (add-suc j (length xs)))
feeds_join j (Some d ∷ xs) ys =
    ap (λ ws. feed_word j d ∷ ws) (feeds_join (suc j) xs ys ∙ ap (λ m. feed_words (suc j) xs ++ feed_words m ys) (suc-add j (length xs) ∙ sym (add-suc j (length xs))))

-- the words of nodes, one part after the other
pub nodes_join : (i : ℕ) (xs ys : List Node) → node_words i (xs ++ ys) ≡ node_words i xs ++ node_words (i + length xs) ys
unfolding node_words
nodes_join i [] ys = ap (λ m. node_words m ys) (sym (add-zero i))
nodes_join i (x ∷ xs) ys =
    ap (λ ws. node_word i x.operation ∷ (feed_words 0 x.feeds ++ ws))
    (nodes_join (suc i) xs ys ∙ ap (λ m. node_words (suc i) xs ++ node_words m ys) (suc-add i (length xs) ∙ sym (add-suc i (length xs))))
    ∙ ap (λ ws. node_word i x.operation ∷ ws) (sym (append_assoc (feed_words 0 x.feeds) (node_words (suc i) xs) _))

-- how many words a row of feeds, and the nodes, have at the most
pub feeds_few : (j : ℕ) (fs : List (Option ℕ)) → length (feed_words j fs) ≤ length fs
unfolding feed_words
feeds_few j [] = omega arith
feeds_few j (None ∷ fs) = omega (arith, feeds_few (suc j) fs)
feeds_few j (Some d ∷ fs) = omega (arith, feeds_few (suc j) fs)

pub nodes_few : (n i : ℕ) (nodes : List Node) → AllByRecursion (NodeInRange n) nodes → length (node_words i nodes) ≤ length nodes * 34
unfolding node_words
nodes_few n i [] each = omega arith
nodes_few n i (node ∷ nodes) each =
    omega (arith, feeds_few 0 node.feeds, each.0.row, nodes_few n (suc i) nodes each.1, length-append (feed_words 0 node.feeds) (node_words (suc i) nodes))

-- a design's own nodes are in range
pub nodes_in_range : (g : Graph) → InRange g → AllByRecursion (NodeInRange g.count) (take g.count g.nodes)
nodes_in_range g r =
    All-from_get_or (NodeInRange g.count) (take g.count g.nodes) absent
    (λ i l.
    let m = length-take-le g.count g.nodes (omega (arith, r.few, r.table)) in
    let below : i < g.count = omega arith in
    subst (NodeInRange g.count) (sym (get_or-take g.count g.nodes i absent below)) (r.nodes i (omega (arith, r.few))))

-- a design has at most 1,091 words
pub body_few : (g : Graph) → InRange g → length (body g) ≤ 1090
body_few g r =
    let ns : List Node = take g.count g.nodes in
    let m = length-take-le g.count g.nodes (omega (arith, r.few, r.table)) in
    let few = nodes_few g.count 0 (take g.count g.nodes) (nodes_in_range g r) in
    let long = length_push (node_words 0 (take g.count g.nodes)) (output_word g.output) in
    omega (arith, r.few)
