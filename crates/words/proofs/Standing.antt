-- How the words so far stand after one word more.
use Rattle.std.proofs.Common.{◌≡◌, ℕ, suc, ◌+◌, ◌<◌, true, false, not, cond, ◌&&◌, ◌||◌, List, [], ◌∷◌, ◌++◌, length, sym, refl, ap, ◌∙◌, arith, Some, Option}
use Rattle.std.proofs.lemmas.List.{length_push, get_or_push, get_or_append_left}
use Rattle.std.proofs.lemmas.List.Sums.{sum_by_push}
use Rattle.std.proofs.lemmas.Bool.{lt-ltb}
use Rattle.words.specs.declared.kinds.Kind.{Kind}
use Rattle.words.specs.declared.kinds.Kind.TheVariants as kind
use Rattle.words.specs.Fields.{field}
use Rattle.words.specs.Kinds.{kind_of, is_node, is_feed, is_output}
use Rattle.words.specs.Questions.{count_of, nodes_in, last_word, in_node, after_output, least_source}
use Rattle.words.specs.Drafts.{Stands}

pub push_last : (p : List ℕ) (w : ℕ) → last_word (p ++ w ∷ []) ≡ w
push_last p w = get_or_push p w 0 _ (omega (arith, length_push p w))

pub push_count : (p : List ℕ) (w : ℕ) → 0 < length p → count_of (p ++ w ∷ []) ≡ count_of p
unfolding count_of
push_count p w h = ap (field 0 6) (get_or_append_left p (w ∷ []) 0 0 h)

push_nodes : (p : List ℕ) (w : ℕ) → nodes_in (p ++ w ∷ []) ≡ nodes_in p + cond (is_node (kind_of w)) 1 0
unfolding nodes_in
push_nodes p w = sum_by_push (λ v. cond (is_node (kind_of v)) 1 0) p w

-- what the questions see of the last word, by its kind
module _ (p : List ℕ) (w : ℕ) (k : Option Kind) (e : kind_of w ≡ k) where
  last_kind : kind_of (last_word (p ++ w ∷ [])) ≡ k
  last_kind = ap kind_of (push_last p w) ∙ e

  push_in_node : in_node (p ++ w ∷ []) ≡ (is_node k || is_feed k)
  unfolding in_node
  push_in_node = ap (λ κ. is_node κ || is_feed κ) last_kind

  push_output : after_output (p ++ w ∷ []) ≡ is_output k
  unfolding after_output
  push_output = ap is_output last_kind

  push_least : least_source (p ++ w ∷ []) ≡ cond (is_feed k) (suc (field 0 6 w)) 0
  unfolding least_source
  push_least = ap (λ κ. cond (is_feed κ) (suc (field 0 6 (last_word (p ++ w ∷ [])))) 0) last_kind ∙ ap (λ v. cond (is_feed k) (suc (field 0 6 v)) 0) (push_last p w)

pub stands_head : (w : ℕ) → kind_of w ≡ (Some kind.Head) → Stands (w ∷ []) (field 0 6 w) 0 0 false
unfolding count_of nodes_in in_node after_output least_source
stands_head w e =
    record {
      some = omega arith;
      count = refl;
      nodes = push_nodes [] w ∙ ap (λ κ. 0 + cond (is_node κ) 1 0) e;
      least = push_least [] w (Some kind.Head) e;
      node = push_in_node [] w (Some kind.Head) e;
      output = push_output [] w (Some kind.Head) e;
    }

module _ (p : List ℕ) (n seen least : ℕ) (s : Stands p n seen least false) (w : ℕ) where
  some_more : 0 < length (p ++ w ∷ [])
  some_more = omega (arith, length_push p w)

  -- by the kind of the word that comes
  stands_as : (k : Option Kind) (e : kind_of w ≡ k) (more : ℕ) → seen + cond (is_node k) 1 0 ≡ more → 0 < more → (is_node k || is_feed k) ≡ not (is_output k) →
      Stands (p ++ w ∷ []) n more (cond (is_feed k) (suc (field 0 6 w)) 0) (is_output k)
  stands_as k e more all some kept =
      record {
        some = some_more;
        count = push_count p w s.some ∙ s.count;
        nodes = push_nodes p w ∙ ap (λ κ. nodes_in p + cond (is_node κ) 1 0) e ∙ ap (λ m. m + cond (is_node k) 1 0) s.nodes ∙ all;
        least = push_least p w k e;
        node = push_in_node p w k e ∙ kept ∙ sym (ap (λ b. b && not (is_output k)) (lt-ltb 0 more some));
        output = push_output p w k e;
      }

  pub stands_node : kind_of w ≡ (Some kind.Node) → Stands (p ++ w ∷ []) n (seen + 1) 0 false
  stands_node e = stands_as (Some kind.Node) e (seen + 1) refl (omega arith) refl

  pub stands_feed : 0 < seen → kind_of w ≡ (Some kind.Feed) → Stands (p ++ w ∷ []) n seen (suc (field 0 6 w)) false
  stands_feed h e = stands_as (Some kind.Feed) e seen (omega arith) h refl

  pub stands_output : 0 < seen → kind_of w ≡ (Some kind.Output) → Stands (p ++ w ∷ []) n seen 0 true
  stands_output h e = stands_as (Some kind.Output) e seen (omega arith) h refl
