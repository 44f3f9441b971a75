-- A design's values: what they hear, that there are some, and that they are the only ones.
use Rattle.std.proofs.Common.{◌≡◌, ℕ, zero, suc, ◌+◌, ◌-◌, ◌*◌, ◌<◌, ◌≤◌, true, false, ◌||◌, eqb, ltb, leb, List, [], ◌∷◌, map, Some, None, Option, sym, refl, ap, ◌∙◌, subst, ⊎_elim, mul-le-mul_right, mul_comm, arith}
use native.Mathlib.Nat.{sub-zero}
use native.Mathlib.Decide.{dec_le}
use Rattle.std.specs.List.{AllByRecursion}
use Rattle.std.proofs.lemmas.Bool.{cond-true, cond-false, le-leb, lt-leb, lt-ltb, eq-eqb, ne_eqb, eqb-true, ltb-true, cases_Bool, cases_eq}
use Rattle.std.proofs.ByRecursion.{All-append}
use Rattle.words.specs.declared.graph.Graph.{Graph}
use Rattle.words.specs.Designs.{InRange, node_at, feed_at, input, sources, is_source}
use Rattle.cells.specs.Meaning.{Meaning, applied}
use Rattle.bench.specs.Firing.{place_in}
use Rattle.bench.specs.Orders.{Ranked}
use Rattle.words.specs.declared.program_table.Tap.{Tap}
use Rattle.machine.specs.Values.{past, given, heard, taps_of, operand, operands, Solves, SolvesBefore, Determined}
use Rattle.bench.specs.Tables.{tap_at, taps_to}

-- all taps of a row, by their feeds
pub taps_all : (P : Tap → Type 0) (row : ℕ → Option ℕ) (k : ℕ) → ((j a : ℕ) → j < k → row j ≡ Some a → P (record { source = j; delay = a })) → AllByRecursion P (taps_to row k)
unfolding taps_to
taps_all P row zero h = tt
taps_all P row (suc k) h = All-append P (taps_to row k) (tap_at k (row k)) (taps_all P row k (λ j a l e. h j a (omega arith) e)) (last (row k) refl)
  where
    last : (o : Option ℕ) → row k ≡ o → AllByRecursion P (tap_at k o)
    last None e = tt
    last (Some a) e = (h k a (omega arith) e, tt)

-- lists made alike
pub map_alike : {X Y : Type 0} (f g : X → Y) (xs : List X) → AllByRecursion (λ x. f x ≡ g x) xs → map f xs ≡ map g xs
map_alike f g [] h = refl
map_alike f g (x ∷ xs) h = λ i. h.0 i ∷ map_alike f g xs h.1 i

module _ {E : Type 0} where
  pub past_at : (f : ℕ → E) (rest : E) (t d : ℕ) → d ≤ t → past f rest t d ≡ f (t - d)
  past_at f rest t d l = cond-true (leb d t) (f (t - d)) rest (le-leb d t l)

  pub past_rest : (f : ℕ → E) (rest : E) (t d : ℕ) → t < d → past f rest t d ≡ rest
  past_rest f rest t d l = cond-false (leb d t) (f (t - d)) rest (lt-leb d t l)

  pub past_alike : (f g : ℕ → E) (rest : E) (t d : ℕ) → (d ≤ t → f (t - d) ≡ g (t - d)) → past f rest t d ≡ past g rest t d
  past_alike f g rest t d h =
      elim (dec_le d t) [
        | yes l ↦ past_at f rest t d l ∙ h l ∙ sym (past_at g rest t d l)
        | no n ↦ past_rest f rest t d (omega arith) ∙ sym (past_rest g rest t d (omega arith))
      ]

  pub given_input : (v : ℕ → ℕ → E) (x : ℕ → E) (j : ℕ) → j ≡ input → given v x j ≡ x
  given_input v x j e = cond-true (eqb j input) x (v j) (eq-eqb j input e)

  pub given_node : (v : ℕ → ℕ → E) (x : ℕ → E) (j : ℕ) → (j ≡ input → ⊥) → given v x j ≡ v j
  given_node v x j n = cond-false (eqb j input) x (v j) (ne_eqb j input n)

  -- what is heard depends on the values that are read alone
  pub heard_alike : (rest : ℕ → E) (v w : ℕ → ℕ → E) (x : ℕ → E) (t j d : ℕ) → ((j ≡ input → ⊥) → d ≤ t → v j (t - d) ≡ w j (t - d)) → heard rest v x t j d ≡ heard rest w x t j d
  heard_alike rest v w x t j d h =
      past_alike (given v x j) (given w x j) (rest j) t d
      (λ l.
      ⊎_elim
      (λ (e : j ≡ input). ap (λ f. f (t - d)) (given_input v x j e ∙ sym (given_input w x j e)))
      (λ (n : j ≡ input → ⊥). ap (λ f. f (t - d)) (given_node v x j n) ∙ h n l ∙ ap (λ f. f (t - d)) (sym (given_node w x j n)))
      (cases_eq j input))

-- a source that is not the input is a node
pub source_node : (n j : ℕ) → is_source n j ≡ true → (j ≡ input → ⊥) → j < n
source_node n j s other =
    ⊎_elim
    (λ (b : ltb j n ≡ true). ltb-true j n b)
    (λ (b : ltb j n ≡ false). absurd (other (eqb-true j input (sym (ap (λ c. c || eqb j input) b) ∙ s))))
    (cases_Bool (ltb j n))

-- a node is a source
pub node_source : (n j : ℕ) → j < n → is_source n j ≡ true
node_source n j l = ap (λ b. b || eqb j input) (lt-ltb j n l)

-- every place of the history lies within it
pub place_within : (n T long s i : ℕ) → s < T → i < n → n * T ≤ long → s * n + i < long
place_within n T long s i ls li room = omega (arith, mul-le-mul_right n ls, mul_comm n T)

module _ {E A : Type 0} (g : Graph) (range : InRange g) (order : List ℕ) (ranked : Ranked g.count (feed_at g) order) (m : Meaning E A) (rest x : ℕ → E) where
  abbrev rank : ℕ → ℕ
  rank i = place_in order i

  -- operands agree where values do: at earlier times, and at the same time at lower ranks
  pub operands_alike : (v w : ℕ → ℕ → E) (i t : ℕ) → i < g.count → ((j s : ℕ) → j < g.count → s * g.count + rank j < t * g.count + rank i → s ≤ t → v j s ≡ w j s) →
      operands g rest v x i t ≡ operands g rest w x i t
  operands_alike v w i t li h =
      map_alike (operand (heard rest v x t)) (operand (heard rest w x t)) (taps_of g i)
      (taps_all (λ tap. operand (heard rest v x t) tap ≡ operand (heard rest w x t) tap) (feed_at g i) sources
      (λ j a lj e. ap (λ y. (j, y)) (heard_alike rest v w x t j a (λ n l. let jn : j < g.count = source_node g.count j ((range.nodes i (omega (arith, range.few))).heard j a e) n in h j (t - a) jn (falls j a jn e l) (omega arith)))))
    where
      falls : (j a : ℕ) → j < g.count → feed_at g i j ≡ Some a → a ≤ t → (t - a) * g.count + rank j < t * g.count + rank i
      falls j zero lj e l = subst (λ s. s * g.count + rank j < t * g.count + rank i) (sym (sub-zero t)) (omega (arith, ranked.rises i j li lj e))
      falls j (suc a) lj e l =
          let s : suc (t - suc a) ≤ t = omega arith in
          omega (arith, mul-le-mul_right g.count s, (ranked.found j lj).0)

  -- what node i holds at t, followed back as far as the fuel goes
  value : ℕ → ℕ → ℕ → E
  value zero i t = rest i
  value (suc f) i t = applied m (node_at g i).operation (operands g rest (value f) x i t)

  stable : (f h i t : ℕ) → i < g.count → t * g.count + rank i < f → t * g.count + rank i < h → value f i t ≡ value h i t
  unfolding value
  stable zero h i t l p q = absurd (omega arith)
  stable (suc f) zero i t l p q = absurd (omega arith)
  stable (suc f) (suc h) i t l p q =
      ap (applied m (node_at g i).operation) (operands_alike (value f) (value h) i t l (λ j s lj lt le. stable f h j s lj (omega arith) (omega arith)))

  history : ℕ → ℕ → E
  history i t = value (suc (t * g.count + rank i)) i t

  history_solves : Solves g m rest x history
  unfolding history value
  history_solves i t l =
      ap (applied m (node_at g i).operation)
      (operands_alike (value (t * g.count + rank i)) history i t l (λ j s lj lt le. stable (t * g.count + rank i) (suc (s * g.count + rank j)) j s lj lt (omega arith)))

  agree_by : (f T : ℕ) (v w : ℕ → ℕ → E) → SolvesBefore T g m rest x v → SolvesBefore T g m rest x w → (i t : ℕ) → i < g.count → t < T → t * g.count + rank i < f → v i t ≡ w i t
  agree_by zero T v w p q i t l lt b = absurd (omega arith)
  agree_by (suc f) T v w p q i t l lt b =
      p i t l lt ∙ ap (applied m (node_at g i).operation) (operands_alike v w i t l (λ j s lj low le. agree_by f T v w p q j s lj (omega arith) (omega arith))) ∙ sym (q i t l lt)

  pub determined : Determined g m rest x
  determined =
      record {
        history = history;
        solves = history_solves;
        agree = λ T v w p q i t l lt. agree_by (suc (t * g.count + rank i)) T v w p q i t l lt (omega arith);
      }
