-- A step carries registers that keep time with a history on by one cycle.
use Rattle.std.proofs.Common.{◌≡◌, ℕ, zero, suc, ◌+◌, ◌-◌, ◌<◌, ◌≤◌, true, ltb, eqb, List, [], ◌∷◌, map, sym, refl, ap, ◌∙◌, subst, ⊎_elim, arith}
use Rattle.std.specs.List.{All}
use Rattle.std.proofs.lemmas.List.Elements.{All-head, All-tail}
use Rattle.std.proofs.lemmas.Bool.{cond-true, cond-false, lt-ltb, le-ltb, eq-eqb, ne_eqb, cases_lt, cases_eq}
use Rattle.words.specs.Designs.{input, is_source}
use Rattle.cells.specs.Meaning.{Meaning, applied}
use Rattle.machine.specs.Arrays.{Array, Earlier, Ordered, Runs, put_out}
use Rattle.machine.specs.Values.{past, given, heard, operand}
use Rattle.machine.specs.Steps.{Registers, hears, line_long, Steps, Reached, KeepTime, AtRest}
use Rattle.machine.proofs.Histories.{past_at, past_rest, given_input, given_node, node_source, source_node}

-- lists made alike, by two facts of each item
pub map_alike_by : {X Y : Type 0} (f g : X → Y) (P Q : X → Type 0) → ((x : X) → P x → Q x → f x ≡ g x) → (xs : List X) → All P xs → All Q xs → map f xs ≡ map g xs
map_alike_by f g P Q same [] p q = refl
map_alike_by f g P Q same (x ∷ xs) p q =
    λ i. same x (All-head P x xs p) (All-head Q x xs q) i ∷ map_alike_by f g P Q same xs (All-tail P x xs p) (All-tail Q x xs q) i

module _ {E : Type 0} where
  pub past_now : (f : ℕ → E) (rest : E) (t : ℕ) → past f rest t 0 ≡ f t
  past_now f rest t = past_at f rest t 0 (omega arith) ∙ ap f {x = t - 0} {y = t} (omega arith)

  -- a cycle later the past lies one further back
  pub past_later : (f : ℕ → E) (rest : E) (t d : ℕ) → past f rest (t + 1) (suc d) ≡ past f rest t d
  past_later f rest t d =
      ⊎_elim
      (λ (l : t < d). past_rest f rest (t + 1) (suc d) (omega arith) ∙ sym (past_rest f rest t d l))
      (λ (l : d ≤ t). past_at f rest (t + 1) (suc d) (omega arith) ∙ ap f {x = t + 1 - suc d} {y = t - d} (omega arith) ∙ sym (past_at f rest t d l))
      (cases_lt t d)

-- registers filled with the rest values keep time with every history, before its first cycle
pub at_rest_keep : {E : Type 0} (a : Array) (lines : List ℕ) (rest x : ℕ → E) (u : ℕ → ℕ → E) (r : Registers E) → AtRest a lines rest r → KeepTime a lines rest x u 0 r
at_rest_keep a lines rest x u r filled =
    record {
      line = λ j p s l. filled.line j p s l ∙ sym (past_rest (given u x j) (rest j) 0 (suc p) (omega arith));
      present = λ i l. filled.present i l ∙ sym (past_rest (u i) (rest i) 0 1 (omega arith));
    }

module _ {E A : Type 0} (a : Array) (lines : List ℕ) (rank : ℕ → ℕ) (ordered : Ordered a rank) (reached : Reached a lines) (m : Meaning E A) (rest x : ℕ → E)
    (u : ℕ → ℕ → E) (runs : Runs a m rest x u) (τ : ℕ) (before after : Registers E) (y : E) (steps : Steps a lines m τ (x τ) before after y)
    (keep : KeepTime a lines rest x u τ before) where
  -- what is heard at delay 0 of a node whose present value is known
  heard_now : (j : ℕ) → is_source a.count j ≡ true → (j < a.count → after.present j ≡ u j τ) → hears before.line after.present (x τ) j 0 ≡ heard rest u x τ j 0
  heard_now j s known =
      ⊎_elim
      (λ (e : j ≡ input). cond-true (eqb j input) (x τ) (after.present j) (eq-eqb j input e) ∙ sym (past_now (given u x j) (rest j) τ ∙ ap (λ f. f τ) (given_input u x j e)))
      (λ (other : j ≡ input → ⊥).
      cond-false (eqb j input) (x τ) (after.present j) (ne_eqb j input other) ∙ known (source_node a.count j s other)
      ∙ sym (past_now (given u x j) (rest j) τ ∙ ap (λ f. f τ) (given_node u x j other)))
      (cases_eq j input)

  heard_at : (j d : ℕ) → is_source a.count j ≡ true → d ≤ line_long a.count lines j → (j < a.count → d ≡ 0 → after.present j ≡ u j τ) →
      hears before.line after.present (x τ) j d ≡ heard rest u x τ j d
  heard_at j zero s l known = heard_now j s (λ lj. known lj refl)
  heard_at j (suc p) s l known = keep.line j p s (omega arith)

  -- a cell before its lag holds its rest value
  held : (i : ℕ) → i < a.count → τ < a.lag i → before.present i ≡ u i τ
  held i li early =
      keep.present i li
      ∙ ⊎_elim
      (λ (first : τ < 1). past_rest (u i) (rest i) τ 1 first)
      (λ (later : 1 ≤ τ). past_at (u i) (rest i) τ 1 later ∙ runs.holds i (τ - 1) li (omega arith))
      (cases_lt τ 1)
      ∙ sym (runs.holds i τ li early)

  -- what the taps of a cell hear, where the present values that it reads at delay 0 are known
  hears_alike : (i : ℕ) → i < a.count → ((j : ℕ) → j < a.count → rank j < rank i → after.present j ≡ u j τ) →
      map (operand (hears before.line after.present (x τ))) (a.taps i) ≡ map (operand (heard rest u x τ)) (a.taps i)
  hears_alike i li known =
      map_alike_by (operand (hears before.line after.present (x τ))) (operand (heard rest u x τ)) (Earlier a rank i) (λ tap. tap.delay ≤ line_long a.count lines tap.source)
      (λ tap earlier short. ap (λ y. (tap.source, y)) (heard_at tap.source tap.delay earlier.0 short (λ lj e. known tap.source lj (earlier.1 lj e))))
      (a.taps i) (ordered.taps i li) (reached.taps i li)

  -- the present values after a step are those of the history, cell by cell in the order
  fired_by : (f i : ℕ) → i < a.count → rank i < f → after.present i ≡ u i τ
  fired_by zero i li b = absurd (omega arith)
  fired_by (suc f) i li b =
      steps.present i li
      ∙ ⊎_elim
      (λ (early : τ < a.lag i). cond-true (ltb τ (a.lag i)) (before.present i) _ (lt-ltb τ (a.lag i) early) ∙ held i li early)
      (λ (late : a.lag i ≤ τ).
      cond-false (ltb τ (a.lag i)) (before.present i) _ (le-ltb τ (a.lag i) late)
      ∙ ap (applied m (a.operation i)) (hears_alike i li (λ j lj lower. fired_by f j lj (omega arith)))
      ∙ sym (runs.computes i τ li late))
      (cases_lt τ (a.lag i))

  pub fired : (i : ℕ) → i < a.count → after.present i ≡ u i τ
  fired i li = fired_by (suc (rank i)) i li (omega arith)

  -- what is put out is what the history puts out
  pub puts_out : y ≡ put_out a rest u τ
  puts_out =
      let o : a.output ≡ input → ⊥ = λ e. omega (arith, ordered.few, reached.output_node) in
      steps.output
      ∙ heard_at a.output a.output_delay (node_source a.count a.output reached.output_node) reached.output (λ l e. fired a.output l)
      ∙ ap (λ f. past f (rest a.output) τ a.output_delay) (given_node u x a.output o)

  -- and the registers keep time a cycle later
  pub keep_on : KeepTime a lines rest x u (τ + 1) after
  keep_on =
      record {
        line = moved_on;
        present = λ i li. fired i li ∙ sym (past_later (u i) (rest i) τ 0 ∙ past_now (u i) (rest i) τ);
      }
    where
      moved_on : (j p : ℕ) → is_source a.count j ≡ true → p < line_long a.count lines j → after.line j p ≡ heard rest u x (τ + 1) j (suc p)
      moved_on j zero s l = steps.newest j s l ∙ heard_now j s (λ lj. fired j lj) ∙ sym (past_later (given u x j) (rest j) τ 0)
      moved_on j (suc p) s l = steps.moved j p s l ∙ keep.line j p s (omega arith) ∙ sym (past_later (given u x j) (rest j) τ (suc p))

-- Over a whole run from a start: registers keep time with the history at each cycle, and what is put out is what the history puts out.
module _ {E A : Type 0} (a : Array) (lines : List ℕ) (rank : ℕ → ℕ) (ordered : Ordered a rank) (reached : Reached a lines) (m : Meaning E A) (rest x : ℕ → E)
    (u : ℕ → ℕ → E) (runs : Runs a m rest x u) (T : ℕ) (r : ℕ → Registers E) (y : ℕ → E) (start : AtRest a lines rest (r 0))
    (steps : (τ : ℕ) → τ < T → Steps a lines m τ (x τ) (r τ) (r (τ + 1)) (y τ)) where
  pub run_keeps : (τ : ℕ) → τ ≤ T → KeepTime a lines rest x u τ (r τ)
  run_keeps zero l = at_rest_keep a lines rest x u (r 0) start
  run_keeps (suc τ) l =
      subst (λ n. KeepTime a lines rest x u n (r n)) {x = τ + 1} {y = suc τ} (omega arith)
      (keep_on a lines rank ordered reached m rest x u runs τ (r τ) (r (τ + 1)) (y τ) (steps τ (omega arith)) (run_keeps τ (omega arith)))

  pub run_puts_out : (τ : ℕ) → τ < T → y τ ≡ put_out a rest u τ
  run_puts_out τ l = puts_out a lines rank ordered reached m rest x u runs τ (r τ) (r (τ + 1)) (y τ) (steps τ l) (run_keeps τ (omega arith))
