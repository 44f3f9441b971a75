-- The words of a program list its cells.
use Rattle.std.proofs.Common.{◌≡◌, ℕ, zero, suc, ◌+◌, ◌<◌, ◌≤◌, List, [], ◌∷◌, ◌++◌, map, length, get_or, take, Some, None, Option, sym, refl, ap, ◌∙◌, subst, ap₂, ⊎_elim, add-one, add-zero, zero-add, arith}
use Rattle.std.specs.List.{All, AllPairs, Contains, flat_map, range_with_len}
use Rattle.std.proofs.Math.Seq.{take-suc}
use Rattle.std.proofs.lemmas.Bool.{cases_eq}
use Rattle.std.proofs.lemmas.List.{append-nil, append_assoc, length-append, length_push, get_or_append_left, map-append, take_all}
use Rattle.std.proofs.lemmas.List.Concat.{flat_map-append}
use Rattle.std.proofs.lemmas.List.Elements.{All-map, All-push, Contains-push}
use Rattle.std.proofs.lemmas.List.Quantifiers.{all_pairs_push}
use Rattle.words.specs.declared.graph.Graph.{Graph}
use Rattle.words.specs.declared.program_table.Tap.{Tap}
use Rattle.words.specs.declared.program_table.Cell.{Cell}
use Rattle.words.specs.Designs.{InRange, node_at, input, sources}
use Rattle.words.specs.ProgramEncoding.{tap_words, cell_words}
use Rattle.words.specs.Programs.{array_word, cell_word, tap_word, array_output_word, array_end_word}
use Rattle.bench.specs.declared.retiming.Retiming.{Retiming}
use Rattle.bench.specs.Cells.{Taps, word_of_line, ListsCells}
use Rattle.bench.specs.Orders.{Fires}
use Rattle.bench.specs.Programs.{in_turn, line_at, tap_if, taps, cell, cells, program_body, program}
use Rattle.bench.specs.Retimings.{lag_at, current_delay, output_delay, order}
use Rattle.bench.specs.Tables.{tap_at, taps_to, cell_at}
use Rattle.bench.proofs.Emitting.{node_line, input_line}
use Rattle.bench.proofs.Settled.{fed}
use Rattle.bench.proofs.Soundness.{feed_inside}

module _ (g : Graph) (p : Retiming) (i : ℕ) where
  -- node i's taps from sources below k
  abbrev below : ℕ → List Tap
  below k = taps_to (current_delay g p i) k

  word : (j : ℕ) (o : Option ℕ) → tap_words (tap_at j o) ≡ tap_if j o
  word j None = refl
  word j (Some d) = refl

  words : (k : ℕ) → tap_words (below k) ≡ taps g p i k
  unfolding in_turn taps_to
  words zero = refl
  words (suc k) = map-append (λ (t : Tap). tap_word t.source t.delay) (below k) (tap_at k (current_delay g p i k)) ∙ ap₂ (λ xs ys. xs ++ ys) (words k) (word k (current_delay g p i k))

  -- a source more
  more : (k : ℕ) (P : List Tap → Type 0) → (current_delay g p i k ≡ None → P (below k)) → ((d : ℕ) → current_delay g p i k ≡ Some d → P (below k ++ record { source = k; delay = d } ∷ [])) → P (below (suc k))
  unfolding taps_to
  more k P none some = by (current_delay g p i k) refl
    where
      by : (o : Option ℕ) → current_delay g p i k ≡ o → P (below k ++ tap_at k (current_delay g p i k))
      by None e = subst (λ o. P (below k ++ tap_at k o)) (sym e) (subst P (sym (append-nil (below k))) (none e))
      by (Some d) e = subst (λ o. P (below k ++ tap_at k o)) (sym e) (some d e)

  low : (k : ℕ) → All (λ t. t.source < k) (below k)
  unfolding taps_to
  low zero = λ m d l. absurd (omega arith)
  low (suc k) =
      let old : All (λ t. t.source < suc k) (below k) = λ m d l. omega (arith, low k m d l) in
      more k (λ ts. All (λ t. t.source < suc k) ts) (λ e. old) (λ d e. All-push (λ t. t.source < suc k) (below k) _ old (omega arith))

  only : (k : ℕ) → All (λ t. current_delay g p i t.source ≡ Some t.delay) (below k)
  unfolding taps_to
  only zero = λ m d l. absurd (omega arith)
  only (suc k) = more k (λ ts. All (λ t. current_delay g p i t.source ≡ Some t.delay) ts) (λ e. only k) (λ d e. All-push (λ t. current_delay g p i t.source ≡ Some t.delay) (below k) _ (only k) e)

  ascending : (k : ℕ) → AllPairs (λ s t. s.source < t.source) (below k)
  unfolding taps_to
  ascending zero = λ m n d l h. absurd (omega arith)
  ascending (suc k) = more k (λ ts. AllPairs (λ s t. s.source < t.source) ts) (λ e. ascending k) (λ d e. all_pairs_push (λ s t. s.source < t.source) (below k) _ (ascending k) (low k))

  kept : (ts us : List Tap) (t : Tap) → Contains ts t → Contains (ts ++ us) t
  kept ts us t c = (c.0, omega (arith, c.1, length-append ts us), get_or_append_left ts us t c.0 c.1 ∙ c.2)

  each : (k j d : ℕ) → j < k → current_delay g p i j ≡ Some d → Contains (below k) (record { source = j; delay = d })
  unfolding taps_to
  each zero j d l e = absurd (omega arith)
  each (suc k) j d l e =
      ⊎_elim
      (λ (q : j ≡ k).
      let here : current_delay g p i k ≡ Some d = ap (current_delay g p i) (sym q) ∙ e in
      subst (λ o. Contains (below k ++ tap_at k o) (record { source = j; delay = d })) (sym here)
      (subst (λ m. Contains (below k ++ record { source = m; delay = d } ∷ []) (record { source = j; delay = d })) q (Contains-push (below k) (record { source = j; delay = d }))))
      (λ (q : j ≡ k → ⊥). kept (below k) (tap_at k (current_delay g p i k)) (record { source = j; delay = d }) (each k j d (omega (arith, q)) e))
      (cases_eq j k)

  tapped : InRange g → Taps g p i (below sources)
  tapped r =
      record {
        each = λ j d e. let f = fed g p i j d e in each sources j d (feed_inside g r i j f.0 f.1).1 e;
        only = only sources;
        ascending = ascending sources;
      }

-- what is made in turn of the items of a list
turns : (f : ℕ → List ℕ) (xs : List ℕ) (k : ℕ) → k ≤ length xs → in_turn (λ r. f (get_or xs r 0)) k ≡ flat_map f (take k xs)
unfolding in_turn
turns f xs zero l = refl
turns f xs (suc k) l =
    ap₂ (λ ys zs. ys ++ zs) (turns f xs k (omega arith)) (sym (append-nil (f (get_or xs k 0)))) ∙ sym (flat_map-append f (take k xs) (get_or xs k 0 ∷ []))
    ∙ ap (flat_map f) (sym (take-suc xs k 0 (omega arith)))

range_push : (a n : ℕ) → range_with_len a (suc n) ≡ range_with_len a n ++ (a + n) ∷ []
range_push a zero = ap (λ m. m ∷ []) (sym (add-zero a))
range_push a (suc n) = ap (λ ms. a ∷ ms) (range_push (a + 1) n ∙ ap (λ m. range_with_len (a + 1) n ++ m ∷ []) {x = a + 1 + n} {y = a + suc n} (omega arith))

flat : (h : ℕ) (ls cs : List ℕ) (o e : ℕ) → (((h ∷ [] ++ ls) ++ cs) ++ o ∷ []) ++ e ∷ [] ≡ h ∷ (ls ++ (cs ++ o ∷ e ∷ []))
flat h ls cs o e = append_assoc ((h ∷ [] ++ ls) ++ cs) (o ∷ []) (e ∷ []) ∙ append_assoc (h ∷ [] ++ ls) cs (o ∷ e ∷ []) ∙ append_assoc (h ∷ []) ls (cs ++ o ∷ e ∷ [])

module _ (g : Graph) (p : Retiming) where
  node_lines : (k : ℕ) → k ≤ g.count → in_turn (line_at g p) k ≡ map (word_of_line g p) (range_with_len 0 k)
  unfolding in_turn
  node_lines zero l = refl
  node_lines (suc k) l =
      ap₂ (λ xs ys. xs ++ ys) (node_lines k (omega arith)) (sym (node_line g p k (omega arith))) ∙ sym (map-append (word_of_line g p) (range_with_len 0 k) (k ∷ []))
      ∙ ap (map (word_of_line g p)) (sym (range_push 0 k ∙ ap (λ m. range_with_len 0 k ++ m ∷ []) (zero-add k)))

  lines : in_turn (line_at g p) (g.count + 1) ≡ map (word_of_line g p) (range_with_len 0 g.count ++ input ∷ [])
  unfolding in_turn
  lines =
      ap (in_turn (line_at g p)) (add-one g.count) ∙ ap₂ (λ xs ys. xs ++ ys) (node_lines g.count (omega arith)) (sym (input_line g p))
      ∙ sym (map-append (word_of_line g p) (range_with_len 0 g.count) (input ∷ []))

  nodes_of : (xs : List ℕ) → map (λ (c : Cell). c.node) (map (cell_at g p) xs) ≡ xs
  nodes_of [] = refl
  nodes_of (x ∷ xs) = ap (λ ys. x ∷ ys) (nodes_of xs)

  words_of : (xs : List ℕ) → flat_map (cell g p) xs ≡ cell_words (map (cell_at g p) xs)
  unfolding cell_words
  words_of [] = refl
  words_of (x ∷ xs) = ap₂ (λ ts ys. (cell_word x (node_at g x).operation (lag_at p x) ∷ [] ++ ts) ++ ys) (sym (words g p x sources)) (words_of xs)

  -- the cells in turn are those of the order's nodes
  pub lists_cells : InRange g → Fires g p (order g p) → ListsCells g p (program g p)
  unfolding program
  lists_cells r fires =
      let o : List ℕ = order g p in
      let made : List Cell = map (cell_at g p) o in
      let out : ℕ = array_output_word g.output.node (output_delay g p) in
      let all : cells g p g.count ≡ cell_words made =
      turns (cell g p) o g.count (omega (arith, fires.whole)) ∙ ap (flat_map (cell g p)) (take_all g.count o (omega (arith, fires.whole))) ∙ words_of o in
      record {
        cells = made;
        are =
            record {
              ranked = nodes_of o;
              once = subst (Fires g p) (sym (nodes_of o)) fires;
              labelled = All-map (λ (c : Cell). (c.operation ≡ (node_at g c.node).operation) × (c.lag ≡ lag_at p c.node)) (cell_at g p) o (λ k d l. (refl, refl));
              tapped = All-map (λ (c : Cell). Taps g p c.node c.taps.items) (cell_at g p) o (λ k d l. tapped g p (get_or o k d) r);
            };
        listed =
            flat (array_word g.count p.factor) (in_turn (line_at g p) (g.count + 1)) (cells g p g.count) out (array_end_word (length (program_body g p) + 1))
            ∙ ap₂ (λ ls ws. array_word g.count p.factor ∷ (ls ++ ws)) lines
            (ap₂ (λ cs n. cs ++ out ∷ array_end_word n ∷ []) all (sym (length_push (program_body g p) (array_end_word (length (program_body g p) + 1)))));
      }
