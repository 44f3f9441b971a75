-- The order in which nodes fire, given which node must wait for which.
use Rattle.std.specs.Prelude.{ℕ, zero, suc, Bool, false, cond, not, ◌&&◌, ◌||◌, List, [], ◌∷◌, ◌++◌, Some, None, Option, ◌==◌}
use Rattle.bench.specs.First.{first}

-- whether a node is listed
unfoldable pub has : List ℕ → ℕ → Bool
has [] i = false
has (x ∷ xs) i = x == i || has xs i

-- its place in the list
unfoldable pub place_in : List ℕ → ℕ → ℕ
place_in [] i = 0
place_in (x ∷ xs) i = cond (x == i) 0 (suc (place_in xs i))

-- i, where none holds it
abbrev pub free : Option ℕ → ℕ → Option ℕ
free None i = Some i
free (Some j) i = None

-- a list with one node more, if there is one
abbrev pub add : Option ℕ → List ℕ → List ℕ
add None listed = listed
add (Some i) listed = listed ++ i ∷ []

-- n nodes, of which `waits i j` says that i must wait for j
module _ (n : ℕ) (waits : ℕ → ℕ → Bool) where
  -- the lowest node that i still has to wait for
  abbrev pub held_by : List ℕ → ℕ → Option ℕ
  held_by listed i = first (λ j. cond (waits i j && not (has listed j)) (Some j) None) n

  -- i, if it is unlisted and waits for none
  abbrev pub ready : List ℕ → ℕ → Option ℕ
  ready listed i = cond (has listed i) None (free (held_by listed i) i)

  -- the next to be listed: always the lowest that is unlisted and waits for none
  abbrev pub next : List ℕ → Option ℕ
  next listed = first (ready listed) n

  -- the list after so many turns
  unfoldable pub listed_after : ℕ → List ℕ
  listed_after zero = []
  listed_after (suc k) = add (next (listed_after k)) (listed_after k)

  abbrev pub firing : List ℕ
  firing = listed_after n
