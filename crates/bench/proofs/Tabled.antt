-- The words of a bench's program are those of its table.
use Rattle.std.proofs.Common.{◌≡◌, ℕ, zero, suc, ◌+◌, ◌<◌, ◌≤◌, ◌≢◌, List, [], ◌∷◌, ◌++◌, length, get_or, map, Some, None, Option, sym, refl, ap, ◌∙◌, ap₂, append_assoc, append-nil, subst, add-one, add-zero, arith}
use Rattle.std.specs.List.{range_with_len, flat_map, All, AllPairs}
use Rattle.std.proofs.lemmas.List.Elements.{All-append, All-push, All-map}
use Rattle.std.proofs.lemmas.List.Quantifiers.{all_pairs_push}
use Rattle.std.proofs.lemmas.List.FromFn.{length-map-range_with_len}
use Rattle.std.proofs.lemmas.Grind.{get_or_default_zero}
use Rattle.std.proofs.lemmas.List.{map-append, length_push, length-map, get_or-map}
use Rattle.std.proofs.Math.Seq.{get_or-append_seam}
use Rattle.words.specs.declared.graph.Graph.{Graph}
use Rattle.words.specs.declared.program_table.Tap.{Tap}
use Rattle.words.specs.Designs.{InRange, node_at, sources}
use Rattle.words.specs.ProgramTables.{TapInRange, CellInRange, ProgramInRange}
use Rattle.words.specs.Programs.{array_word, line_word, cell_word, tap_word, array_output_word, array_end_word}
use Rattle.words.specs.ProgramEncoding.{line_source, line_words, tap_words, cell_words, encoded_program}
use Rattle.bench.specs.declared.retiming.Retiming.{Retiming}
use Rattle.bench.specs.Programs.{in_turn, line_at, line_length, tap_if, cell, cells, program}
use Rattle.bench.specs.Firing.{place_in}
use Rattle.bench.specs.Orders.{Ranked}
use Rattle.bench.specs.Retimings.{Sound, order, current_delay, output_delay}
use Rattle.bench.specs.Tables.{tap_at, taps_to, cell_at, line_lengths, program_of}
use Rattle.bench.proofs.Emitting.{delay_few, line_few}
use Rattle.bench.proofs.Settled.{fed}

-- the words in turn are those of a range
turns_over : (f : ℕ → List ℕ) (a k : ℕ) → in_turn f (a + k) ≡ in_turn f a ++ flat_map f (range_with_len a k)
unfolding in_turn
turns_over f a zero = ap (in_turn f) (add-zero a) ∙ sym (append-nil (in_turn f a))
turns_over f a (suc k) =
    ap (in_turn f) {x = a + suc k} {y = a + 1 + k} (omega arith) ∙ turns_over f (a + 1) k
    ∙ ap (λ n. in_turn f n ++ flat_map f (range_with_len (a + 1) k)) (add-one a)
    ∙ append_assoc (in_turn f a) (f a) (flat_map f (range_with_len (a + 1) k))

in_range : (f : ℕ → List ℕ) (k : ℕ) → in_turn f k ≡ flat_map f (range_with_len 0 k)
unfolding in_turn
in_range f k = ap (in_turn f) {x = k} {y = 0 + k} (omega arith) ∙ turns_over f 0 k

-- a list, place by place
by_place : (f : ℕ → List ℕ) (before xs : List ℕ) (a : ℕ) → length before ≡ a → flat_map (λ k. f (get_or (before ++ xs) k 0)) (range_with_len a (length xs)) ≡ flat_map f xs
by_place f before [] a e = refl
by_place f before (x ∷ xs) a e =
    ap₂ ◌++◌ (ap f (ap (λ n. get_or (before ++ x ∷ xs) n 0) (sym e) ∙ get_or-append_seam before x xs 0)) (ap (λ l. flat_map (λ k. f (get_or l k 0)) (range_with_len (a + 1) (length xs))) (sym (append_assoc before (x ∷ []) xs)) ∙ by_place f (before ++ x ∷ []) xs (a + 1) (length_push before x ∙ ap (λ n. n + 1) e))

-- lines from line a on
lines_over : (n : ℕ) (h : ℕ → ℕ) (a k : ℕ) → line_words n a (map h (range_with_len a k)) ≡ flat_map (λ i. line_word (line_source n i) (h i) ∷ []) (range_with_len a k)
unfolding line_words
lines_over n h a zero = refl
lines_over n h a (suc k) = ap (λ l. line_word (line_source n a) (h a) ∷ l) (ap (λ b. line_words n b (map h (range_with_len (a + 1) k))) (sym (add-one a)) ∙ lines_over n h (a + 1) k)

-- the words of the taps of a row of delays
taps_over : (row : ℕ → Option ℕ) (k : ℕ) → tap_words (taps_to row k) ≡ in_turn (λ j. tap_if j (row j)) k
unfolding taps_to in_turn
taps_over row zero = refl
taps_over row (suc k) = map-append (λ t. tap_word t.source t.delay) (taps_to row k) (tap_at k (row k)) ∙ ap₂ ◌++◌ (taps_over row k) (one (row k))
  where
    one : (o : Option ℕ) → tap_words (tap_at k o) ≡ tap_if k o
    one None = refl
    one (Some d) = refl

module _ (g : Graph) (p : Retiming) where
  cells_over : (nodes : List ℕ) → cell_words (map (cell_at g p) nodes) ≡ flat_map (cell g p) nodes
  unfolding cell_words
  cells_over [] = refl
  cells_over (i ∷ nodes) =
      ap₂ (λ taps later. (cell_word i (node_at g i).operation (cell_at g p i).lag ∷ taps) ++ later) (taps_over (current_delay g p i) sources) (cells_over nodes)

  cells_words : length (order g p) ≡ g.count → cells g p g.count ≡ cell_words (map (cell_at g p) (order g p))
  cells_words whole =
      in_range (λ r. cell g p (get_or (order g p) r 0)) g.count
      ∙ ap (λ n. flat_map (λ r. cell g p (get_or (order g p) r 0)) (range_with_len 0 n)) (sym whole)
      ∙ by_place (cell g p) [] (order g p) 0 refl
      ∙ sym (cells_over (order g p))

  lines_words : in_turn (line_at g p) (g.count + 1) ≡ line_words g.count 0 (line_lengths g p)
  lines_words = in_range (line_at g p) (g.count + 1) ∙ sym (lines_over g.count (λ k. line_length g p (line_source g.count k)) 0 (g.count + 1))

  -- a bench's program is the encoding of its table
  pub program_table : length (order g p) ≡ g.count → program g p ≡ encoded_program (program_of g p)
  unfolding program encoded_program
  program_table whole =
      ap (λ front. (front ++ array_output_word g.output.node (output_delay g p) ∷ []) ++ array_end_word (length (front ++ array_output_word g.output.node (output_delay g p) ∷ []) + 1) ∷ [])
      (ap₂ (λ ls cs. array_word g.count p.factor ∷ ls ++ cs) lines_words (cells_words whole))

-- taps are in ascending order of source, and below the number of sources
module _ (row : ℕ → Option ℕ) where
  below_last : (k : ℕ) → All (λ t. t.source < k) (taps_to row k)
  unfolding taps_to
  below_last zero = λ i d l. absurd (omega arith)
  below_last (suc k) = All-append (λ t. t.source < suc k) (taps_to row k) (tap_at k (row k)) (λ i d l. omega (arith, below_last k i d l)) (last (row k))
    where
      last : (o : Option ℕ) → All (λ t. t.source < suc k) (tap_at k o)
      last None = λ i d l. absurd (omega arith)
      last (Some d) = All-push (λ t. t.source < suc k) [] _ (λ i e l. absurd (omega arith)) (omega arith)

  ascending : (k : ℕ) → AllPairs (λ s t. s.source < t.source) (taps_to row k)
  unfolding taps_to
  ascending zero = λ i j d l m. absurd (omega arith)
  ascending (suc k) = one (ascending k) (row k)
    where
      one : AllPairs (λ s t. s.source < t.source) (taps_to row k) → (o : Option ℕ) → AllPairs (λ s t. s.source < t.source) (taps_to row k ++ tap_at k o)
      one sofar None = subst (AllPairs (λ s t. s.source < t.source)) (sym (append-nil (taps_to row k))) sofar
      one sofar (Some d) = all_pairs_push (λ s t. s.source < t.source) (taps_to row k) _ sofar (λ i e l. below_last k i e l)

  -- what holds of each delay there is, with its source, holds of each tap
  pub each_tap : (P : Tap → Type 0) → ((j d : ℕ) → row j ≡ Some d → P (record { source = j; delay = d })) → (k : ℕ) → All P (taps_to row k)
  unfolding taps_to
  each_tap P holds zero = λ i d l. absurd (omega arith)
  each_tap P holds (suc k) = All-append P (taps_to row k) (tap_at k (row k)) (each_tap P holds k) (last (row k) refl)
    where
      last : (o : Option ℕ) → row k ≡ o → All P (tap_at k o)
      last None e = λ i d l. absurd (omega arith)
      last (Some d) e = All-push P [] _ (λ i f l. absurd (omega arith)) (holds k d e)

-- the table of a bench in range is a program in range
module _ (g : Graph) (r : InRange g) (p : Retiming) (s : Sound g p) (ranked : Ranked g.count (current_delay g p) (order g p)) where
  cell_range : (i : ℕ) → i < g.count → CellInRange g.count (cell_at g p i)
  cell_range i l =
      let node = r.nodes i (omega (arith, r.few)) in
      record {
        node = l;
        operation = node.operation;
        lag = s.lags i;
        taps = each_tap (current_delay g p i) (TapInRange g.count)
            (λ j d e. record { source = let f = fed g p i j d e in node.heard j f.0 f.1; delay = delay_few g r p s i j d e })
            sources;
        ascending = ascending (current_delay g p i) sources;
      }

  listed_below : All (λ i. i < g.count) (order g p)
  listed_below k d l = subst (λ i. i < g.count) (sym (get_or_default_zero (order g p) k d l)) (ranked.below k (omega (arith, ranked.whole)))

  nodes_apart : AllPairs (λ c d. c.node ≢ d.node) (map (cell_at g p) (order g p))
  nodes_apart i j d below l same =
      let few : j < length (order g p) = omega (arith, length-map (order g p) (cell_at g p)) in
      let node : (k : ℕ) → k < length (order g p) → (get_or (map (cell_at g p) (order g p)) k d).node ≡ get_or (order g p) k 0 =
      λ k lk. ap (λ c. c.node) (get_or-map (cell_at g p) (order g p) k 0 d lk) in
      let i_at = ranked.once i (omega arith) in
      let j_at = ranked.once j few in
      let listed : get_or (order g p) i 0 ≡ get_or (order g p) j 0 = sym (node i (omega arith)) ∙ same ∙ node j few in
      omega (arith, i_at, j_at, ap (place_in (order g p)) listed)

  pub table_in_range : ProgramInRange (program_of g p)
  table_in_range =
      record {
        some = r.some;
        few = r.few;
        slowed = s.slowed;
        slow = s.slow;
        lines = length-map-range_with_len (λ k. line_length g p (line_source g.count k)) 0 (g.count + 1);
        lengths = All-map (λ l. l ≤ 4095) (λ k. line_length g p (line_source g.count k)) (range_with_len 0 (g.count + 1)) (λ i d l. line_few g r p s (line_source g.count (get_or (range_with_len 0 (g.count + 1)) i d)));
        cells = length-map (order g p) (cell_at g p) ∙ ranked.whole;
        ranges = All-map (CellInRange g.count) (cell_at g p) (order g p) (λ k d l. cell_range (get_or (order g p) k d) (listed_below k d l));
        apart = nodes_apart;
        output_node = r.output_node;
        output_delay = s.output;
      }
