-- Lists of nodes.
use Rattle.std.specs.Prelude.{◌≡◌, ℕ, ◌-◌, ◌<◌, ◌≤◌, true, cond, List, ◌++◌, length, take, drop, map, replicate, Some, None, Option, slice_index}
use Rattle.std.specs.List.{range_with_len}
use Rattle.std.proofs.Common.{sym, ap, ◌∙◌, subst}
use Rattle.std.proofs.lemmas.List.{length-take-le, take-append-drop}
use Rattle.words.specs.Designs.{max_nodes}
use Rattle.words.specs.declared.graph.Graph.{Graph}
use Rattle.bench.specs.declared.retiming.Retiming.{Retiming}
use Rattle.bench.specs.Firing.{has, place_in}
use Rattle.bench.specs.Retimings.{current_delay}

-- a node's rank, if it is listed
abbrev pub rank_of : List ℕ → ℕ → Option ℕ
rank_of l i = cond (has l i) (Some (place_in l i)) None

-- each node's rank, in order
abbrev pub ranks_of : List ℕ → List (Option ℕ)
ranks_of l = map (rank_of l) (range_with_len 0 max_nodes)

-- a list as the code keeps it: the first places of a table, and past them all places are 0; all are nodes, and a second table has their ranks
pub record Kept (nodes : List ℕ) (ranks : List (Option ℕ)) (count : ℕ) : Type 0 where
  pub table : length nodes ≡ max_nodes
  pub few : count ≤ max_nodes
  pub past : drop count nodes ≡ replicate (max_nodes - count) 0
  pub below : (i : ℕ) → has (take count nodes) i ≡ true → i < max_nodes
  pub ranked : ranks ≡ ranks_of (take count nodes)

-- so the list gives the tables and the number back
module _ (nodes : List ℕ) (ranks : List (Option ℕ)) (count : ℕ) (k : Kept nodes ranks count) where
  pub kept_count : length (take count nodes) ≡ count
  kept_count = length-take-le count nodes (subst (λ n. count ≤ n) (sym k.table) k.few)

  pub kept_nodes : take count nodes ++ replicate (max_nodes - length (take count nodes)) 0 ≡ nodes
  kept_nodes = ap (λ n. take count nodes ++ replicate (max_nodes - n) 0) kept_count ∙ ap (λ t. take count nodes ++ t) (sym k.past) ∙ take-append-drop count nodes

  pub kept_ranks : ranks_of (take count nodes) ≡ ranks
  kept_ranks = sym k.ranked

-- what an order by delays of 0 amounts to: it lists each of n nodes once, and ranks rise along every feed of delay 0
pub record Ranked (n : ℕ) (delay : ℕ → ℕ → Option ℕ) (l : List ℕ) : Type 0 where
  pub whole : length l ≡ n
  pub every : (i : ℕ) → i < n → has l i ≡ true
  pub only : (i : ℕ) → has l i ≡ true → i < n
  pub once : (k : ℕ) → k < length l → place_in l (slice_index l k) ≡ k
  pub below : (k : ℕ) → k < n → slice_index l k < n
  pub found : (i : ℕ) → i < n → (place_in l i < n) × (slice_index l (place_in l i) ≡ i)
  pub rises : (i j : ℕ) → i < n → j < n → delay i j ≡ Some 0 → place_in l j < place_in l i

-- what a firing order amounts to: it lists every node once, and ranks rise along every feed of current delay 0
pub record Fires (g : Graph) (p : Retiming) (l : List ℕ) : Type 0 where
  pub whole : length l ≡ g.count
  pub every : (i : ℕ) → i < g.count → has l i ≡ true
  pub only : (i : ℕ) → has l i ≡ true → i < g.count
  pub once : (k : ℕ) → k < length l → place_in l (slice_index l k) ≡ k
  pub rises : (i j : ℕ) → i < g.count → j < g.count → current_delay g p i j ≡ Some 0 → place_in l j < place_in l i
