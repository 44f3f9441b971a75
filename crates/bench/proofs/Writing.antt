-- The steps of writing a design.
use Rattle.std.proofs.Common.{◌≡◌, ℕ, zero, suc, ◌+◌, ◌*◌, ◌<◌, ◌≤◌, List, [], ◌∷◌, ◌++◌, length, get_or, take, Some, None, Option, ap, ◌∙◌, append_assoc, zero-add, arith}
use Rattle.std.specs.List.{AllByRecursion}
use Rattle.std.proofs.lemmas.List.{append-nil, take_more, length-take, length-take-le, length_push}
use Rattle.words.specs.declared.graph.Node.{Node}
use Rattle.words.specs.declared.graph.Graph.{Graph}
use Rattle.words.specs.Designs.{InRange, NodeInRange, absent}
use Rattle.words.specs.Encoding.{node_word, feed_word, end_word, feed_words, node_words, body, encoded}
use Rattle.words.proofs.Encodings.{feeds_join, feeds_few, nodes_join, nodes_few, nodes_in_range, body_few}

-- what is appended to what was appended
pub appended : (old xs ys : List ℕ) {x y : List ℕ} → x ≡ old ++ xs → y ≡ x ++ ys → y ≡ old ++ (xs ++ ys)
appended old xs ys p q = q ∙ ap (λ l. l ++ ys) p ∙ append_assoc old xs ys

-- the words of a row up to one source more
row_more : (fs : List (Option ℕ)) (s : ℕ) → s < length fs → feed_words 0 (take (s + 1) fs) ≡ feed_words 0 (take s fs) ++ feed_words s (get_or fs s None ∷ [])
row_more fs s l =
    ap (feed_words 0) (take_more fs s None l) ∙ feeds_join 0 (take s fs) (get_or fs s None ∷ [])
    ∙ ap (λ n. feed_words 0 (take s fs) ++ feed_words n (get_or fs s None ∷ [])) (zero-add _ ∙ length-take-le s fs (omega arith))

pub row_some : (fs : List (Option ℕ)) (s d : ℕ) → s < length fs → get_or fs s None ≡ Some d → feed_words 0 (take (s + 1) fs) ≡ feed_words 0 (take s fs) ++ feed_word s d ∷ []
unfolding feed_words
row_some fs s d l e = row_more fs s l ∙ ap (λ f. feed_words 0 (take s fs) ++ feed_words s (f ∷ [])) e

pub row_none : (fs : List (Option ℕ)) (s : ℕ) → s < length fs → get_or fs s None ≡ None → feed_words 0 (take (s + 1) fs) ≡ feed_words 0 (take s fs)
unfolding feed_words
row_none fs s l e = row_more fs s l ∙ ap (λ f. feed_words 0 (take s fs) ++ feed_words s (f ∷ [])) e ∙ append-nil _

-- a part of a row has at most a word for each source
pub row_few : (fs : List (Option ℕ)) (s : ℕ) → length (feed_words 0 (take s fs)) ≤ s
row_few fs s = omega (arith, feeds_few 0 (take s fs), length-take s fs)

-- the words of nodes up to one node more
pub nodes_more : (ns : List Node) (k : ℕ) → k < length ns →
    node_words 0 (take (k + 1) ns) ≡ node_words 0 (take k ns) ++ (node_word k (get_or ns k absent).operation ∷ feed_words 0 (get_or ns k absent).feeds)
unfolding node_words
nodes_more ns k l =
    ap (node_words 0) (take_more ns k absent l) ∙ nodes_join 0 (take k ns) (get_or ns k absent ∷ [])
    ∙ ap (λ n. node_words 0 (take k ns) ++ (node_word n (get_or ns k absent).operation ∷ (feed_words 0 (get_or ns k absent).feeds ++ []))) (zero-add _ ∙ length-take-le k ns (omega arith))
    ∙ ap (λ ws. node_words 0 (take k ns) ++ (node_word k (get_or ns k absent).operation ∷ ws)) (append-nil (feed_words 0 (get_or ns k absent).feeds))

-- the nodes so far have at most 34 words each
all_below : {X : Type 0} (P : X → Type 0) (k : ℕ) (xs : List X) → AllByRecursion P xs → AllByRecursion P (take k xs)
all_below P zero xs h = tt
all_below P (suc k) [] h = tt
all_below P (suc k) (x ∷ xs) h = (h.0, all_below P k xs h.1)

module _ (g : Graph) (r : InRange g) where
  pub nodes_so_far : (k : ℕ) → length (node_words 0 (take k (take g.count g.nodes))) ≤ k * 34
  nodes_so_far k =
      let ns : List Node = take g.count g.nodes in
      omega (arith, nodes_few g.count 0 (take k ns) (all_below (NodeInRange g.count) k ns (nodes_in_range g r)), length-take k ns)

  pub size_few : length (encoded g) ≤ 1091
  unfolding encoded
  size_few = omega (arith, length_push (body g) (end_word (length (body g) + 1)), body_few g r)

  -- the end counts the words
  pub size_is : length (encoded g) ≡ length (body g) + 1
  unfolding encoded
  size_is = length_push (body g) (end_word (length (body g) + 1))
