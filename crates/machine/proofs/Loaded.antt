-- Question 15: in a program that passes it, each tap of delay 0 from a node reads an earlier cell. And what a loaded program's array amounts to.
use Rattle.std.proofs.Common.{◌≡◌, ℕ, zero, suc, ◌+◌, ◌-◌, ◌<◌, ◌≤◌, true, false, not, ◌&&◌, ◌||◌, eqb, List, [], ◌∷◌, ◌++◌, length, get_or, take, drop, None, sym, refl, ap, ◌∙◌, subst, ⊎_elim, append_assoc, drop-cons, arith}
use Rattle.std.specs.List.{All}
use Rattle.std.proofs.lemmas.List.{get_or_at, take_at, get_or-map, get_or-take, length-append, length-map, length-take-le, take_all, take_more, take-append-drop, map-append, append-nil}
use Rattle.std.proofs.lemmas.List.Elements.{All-tail, All-take}
use Rattle.std.proofs.lemmas.Bool.{true≢false, false≢true, both_ways, cond-true, cond-false, eq-eqb, eqb-true, not-false, or_cases, cases_Bool}
use Rattle.words.specs.declared.program_table.Tap.{Tap}
use Rattle.words.specs.declared.program_table.Cell.{Cell}
use Rattle.words.specs.declared.program_table.ProgramTable.{ProgramTable}
use Rattle.words.specs.Designs.{input, is_source}
use Rattle.words.specs.Programs.{array_word, cell_word, tap_word, array_output_word, array_end_word}
use Rattle.words.specs.ProgramDrafts.{nodes_of, no_cell}
use Rattle.words.specs.ProgramKinds.{program_kind_of, is_tap}
use Rattle.words.specs.ProgramEncoding.{line_words, tap_words, cell_words, program_body, encoded_program}
use Rattle.words.specs.ProgramQuestions.{cells_in}
use Rattle.words.specs.ProgramTables.{TapInRange, CellInRange, ProgramInRange}
use Rattle.words.proofs.Sources.{source_place}
use Rattle.bench.specs.Firing.{has, place_in}
use Rattle.bench.proofs.Lists.{place_at, place_below, Distinct, distinct_none, distinct_push, distinct_all}
use Rattle.bench.proofs.Searches.{first_none}
use Rattle.machine.specs.Arrays.{array_in, rank_in, cell_of, Ordered}
use Rattle.machine.specs.Loading.{place_of, number_of, earlier_in, can_hear, is_late_tap, tap_fault_in, tap_fault, line_fault}
use Rattle.machine.specs.Refusals.{late_cell}
use Rattle.machine.specs.Steps.{Reached}
use Rattle.machine.proofs.ProgramWords.{tap_kind, tap_place, tap_number, cells_join, cells_of_cell, cells_of_taps, cells_of_lines, cells_of_head}
use Rattle.machine.proofs.Reaching.{not_asked, tap_reached, output_reached}

-- a node among the first r of a list has its place there
place_among : (xs : List ℕ) (r j : ℕ) → has (take r xs) j ≡ true → place_in xs j < r
unfolding has place_in
place_among xs zero j h = absurd (false≢true h)
place_among [] (suc r) j h = absurd (false≢true h)
place_among (x ∷ xs) (suc r) j h =
    ⊎_elim
    (λ (e : eqb x j ≡ true). subst (λ m. m < suc r) (sym (cond-true (eqb x j) 0 (suc (place_in xs j)) e)) (omega arith))
    (λ (e : eqb x j ≡ false).
    let t : has (take r xs) j ≡ true = ⊎_elim (λ (t : eqb x j ≡ true). absurd (both_ways (eqb x j) e t)) (λ (t : has (take r xs) j ≡ true). t) (or_cases (eqb x j) (has (take r xs) j) h) in
    let low = place_among xs r j t in
    subst (λ m. m < suc r) (sym (cond-false (eqb x j) 0 (suc (place_in xs j)) e)) (omega arith))
    (cases_Bool (eqb x j))

-- a tap among the words of its cell
regroup : (pre : List ℕ) (w : ℕ) (before : List ℕ) (t : ℕ) (taps cells post : List ℕ) → pre ++ (w ∷ ((before ++ t ∷ taps) ++ cells) ++ post) ≡ (pre ++ (w ∷ [] ++ before)) ++ t ∷ (taps ++ (cells ++ post))
regroup pre w before t taps cells post = simp append_assoc

module _ (words : List ℕ) (passed : tap_fault words ≡ None) (n : ℕ) (few : n ≤ 32) where
  -- no word is a late tap
  early : (pre post : List ℕ) (w : ℕ) → words ≡ pre ++ w ∷ post → is_late_tap pre w ≡ false
  early pre post w is =
      let k = length pre in
      let inside : k < length words = omega (arith, ap length is, length-append pre (w ∷ post)) in
      let front : take k words ≡ pre = ap (take k) is ∙ take_at pre (w ∷ post) k refl in
      let at : get_or words k 0 ≡ w = ap (λ ws. get_or ws k 0) is ∙ get_or_at pre w post 0 k refl in
      (λ i. is_late_tap (sym front i) (sym at i))
      ∙ not_asked (is_late_tap (take k words) (get_or words k 0)) (late_cell k) (first_none (tap_fault_in words) (length words) k passed inside)

  -- a tap of delay 0 from a node, after the words of its cell and of the taps before it
  hears_earlier : (pre post : List ℕ) (ns : List ℕ) (node : ℕ) (t : Tap) → words ≡ pre ++ tap_word t.source t.delay ∷ post → cells_in pre ≡ ns ++ node ∷ [] → TapInRange n t →
      t.delay ≡ 0 → (t.source ≡ input → ⊥) → has ns t.source ≡ true
  hears_earlier pre post ns node t is named ok now other =
      let w = tap_word t.source t.delay in
      let small : t.source < 33 = source_place n t.source few ok.source in
      let kind : is_tap (program_kind_of w) ≡ true = ap is_tap (tap_kind t.source t.delay (omega arith) (omega (arith, ok.delay))) in
      let place : place_of w ≡ t.source = tap_place t.source t.delay (omega arith) (omega (arith, ok.delay)) in
      let number : number_of w ≡ 0 = tap_number t.source t.delay (omega arith) (omega (arith, ok.delay)) ∙ now in
      let earlier : earlier_in pre ≡ ns =
      ap (λ cells. take (length cells - 1) cells) named
      ∙ ap (λ m. take m (ns ++ node ∷ [])) {x = length (ns ++ node ∷ []) - 1} {y = length ns} (omega (arith, length-append ns (node ∷ [])))
      ∙ take_at ns (node ∷ []) (length ns) refl in
      let on_time : not (can_hear (earlier_in pre) w) ≡ false = sym (ap (λ b. b && not (can_hear (earlier_in pre) w)) kind) ∙ early pre post w is in
      ⊎_elim
      (λ (h : not (eqb (number_of w) 0) ≡ true). absurd (true≢false (sym h ∙ ap not (eq-eqb (number_of w) 0 number))))
      (λ (h : (eqb (place_of w) input || has (earlier_in pre) (place_of w)) ≡ true).
      ⊎_elim
      (λ (e : eqb (place_of w) input ≡ true). absurd (other (sym place ∙ eqb-true (place_of w) input e)))
      (λ (e : has (earlier_in pre) (place_of w) ≡ true). (λ i. has (sym earlier i) (sym place i)) ∙ e)
      (or_cases (eqb (place_of w) input) (has (earlier_in pre) (place_of w)) h))
      (or_cases (not (eqb (number_of w) 0)) (eqb (place_of w) input || has (earlier_in pre) (place_of w)) (not-false (can_hear (earlier_in pre) w) on_time))

  -- each tap of the cells that follow these words, of which ns were named so far
  hears_among : (cs : List Cell) (pre post : List ℕ) (ns : List ℕ) → words ≡ pre ++ (cell_words cs ++ post) → cells_in pre ≡ ns → All (CellInRange n) cs →
      (r i : ℕ) (d : Tap) → r < length cs → i < length (get_or cs r no_cell).taps.items →
      let t = get_or (get_or cs r no_cell).taps.items i d in t.delay ≡ 0 → (t.source ≡ input → ⊥) → has (ns ++ take r (nodes_of cs)) t.source ≡ true
  unfolding cell_words
  hears_among [] pre post ns is named ok r i d l m now other = absurd (omega arith)
  hears_among (c ∷ cs) pre post ns is named ok zero i d l m now other =
      let ts = c.taps.items in
      let t = get_or ts i d in
      let w = cell_word c.node c.operation c.lag in
      let word = λ (s : Tap). tap_word s.source s.delay in
      let range = ok 0 c (omega arith) in
      let before = tap_words (take i ts) in
      let after = tap_words (drop (suc i) ts) ++ (cell_words cs ++ post) in
      let split : ts ≡ take i ts ++ t ∷ drop (suc i) ts = sym (take-append-drop i ts) ∙ ap (λ xs. take i ts ++ xs) (drop-cons ts i d m) in
      let taps : tap_words ts ≡ before ++ word t ∷ tap_words (drop (suc i) ts) = ap tap_words split ∙ map-append word (take i ts) (t ∷ drop (suc i) ts) in
      let whole : words ≡ (pre ++ (w ∷ [] ++ before)) ++ word t ∷ after =
      is ∙ ap (λ xs. pre ++ (w ∷ (xs ++ cell_words cs) ++ post)) taps ∙ regroup pre w before (word t) (tap_words (drop (suc i) ts)) (cell_words cs) post in
      let cells : cells_in (pre ++ (w ∷ [] ++ before)) ≡ ns ++ c.node ∷ [] =
      cells_join pre (w ∷ [] ++ before) ∙ ap (λ xs. cells_in pre ++ xs) (cells_join (w ∷ []) before)
      ∙ (λ j. named j ++ (cells_of_cell n few c range j ++ cells_of_taps n few (take i ts) (All-take (TapInRange n) i ts range.taps) j)) in
      ap (λ xs. has xs t.source) (append-nil ns) ∙ hears_earlier (pre ++ (w ∷ [] ++ before)) after ns c.node t whole cells (range.taps i d m) now other
  hears_among (c ∷ cs) pre post ns is named ok (suc r) i d l m now other =
      let w = cell_word c.node c.operation c.lag in
      let range = ok 0 c (omega arith) in
      let ts = c.taps.items in
      let whole : words ≡ (pre ++ (w ∷ [] ++ tap_words ts)) ++ (cell_words cs ++ post) =
      is ∙ ap (λ xs. pre ++ (w ∷ xs)) (append_assoc (tap_words ts) (cell_words cs) post) ∙ sym (append_assoc pre (w ∷ tap_words ts) (cell_words cs ++ post)) in
      let cells : cells_in (pre ++ (w ∷ [] ++ tap_words ts)) ≡ ns ++ c.node ∷ [] =
      cells_join pre (w ∷ [] ++ tap_words ts) ∙ ap (λ xs. cells_in pre ++ xs) (cells_join (w ∷ []) (tap_words ts))
      ∙ (λ j. named j ++ (cells_of_cell n few c range j ++ cells_of_taps n few ts range.taps j)) in
      ap (λ xs. has xs (get_or (get_or cs r no_cell).taps.items i d).source) (sym (append_assoc ns (c.node ∷ []) (take r (nodes_of cs))))
      ∙ hears_among cs (pre ++ (w ∷ [] ++ tap_words ts)) post (ns ++ c.node ∷ []) whole cells (All-tail (CellInRange n) c cs ok) r i d (omega arith) m now other

-- nodes below n that are all different
distinct_front : (n : ℕ) (xs : List ℕ) → ((k : ℕ) → k < length xs → get_or xs k 0 < n) → ((i j : ℕ) → i < j → j < length xs → get_or xs i 0 ≡ get_or xs j 0 → ⊥) → (k : ℕ) → k ≤ length xs → Distinct n (take k xs)
distinct_front n xs low apart zero l = distinct_none n
distinct_front n xs low apart (suc k) l =
    let x = get_or xs k 0 in
    let inside : k < length xs = omega arith in
    let more : take k xs ++ x ∷ [] ≡ take (suc k) xs = sym (take_more xs k 0 inside) ∙ ap (λ m. take m xs) {x = k + 1} {y = suc k} (omega arith) in
    subst (Distinct n) more (distinct_push n (take k xs) x (distinct_front n xs low apart k (omega arith)) (low k inside) (lacks x refl inside))
  where
    lacks : (x : ℕ) → x ≡ get_or xs k 0 → k < length xs → has (take k xs) x ≡ false
    lacks x is inside =
        ⊎_elim
        (λ (h : has (take k xs) x ≡ true).
        let at = place_in (take k xs) x in
        let below : at < k = omega (arith, place_below (take k xs) x h, length-take-le k xs (omega arith)) in
        absurd (apart at k below inside (sym (get_or-take k xs at 0 below) ∙ place_at (take k xs) x h ∙ is)))
        (λ (h : has (take k xs) x ≡ false). h)
        (cases_Bool (has (take k xs) x))

module _ (p : ProgramTable) (range : ProgramInRange p) where
  abbrev nodes : List ℕ
  nodes = nodes_of p.cells.items

  nodes_long : length nodes ≡ p.count
  nodes_long = length-map p.cells.items (λ (c : Cell). c.node) ∙ range.cells

  node_at : (k : ℕ) → k < length p.cells.items → get_or nodes k 0 ≡ (get_or p.cells.items k no_cell).node
  node_at k l = get_or-map (λ (c : Cell). c.node) p.cells.items k no_cell 0 l

  all_nodes : Distinct p.count nodes
  all_nodes =
      subst (Distinct p.count) (take_all (length nodes) nodes (omega arith))
      (distinct_front p.count nodes
      (λ k l. let at : k < length p.cells.items = omega (arith, nodes_long, range.cells) in omega (arith, node_at k at, (range.ranges k no_cell at).node))
      (λ i j l m e.
      let at : j < length p.cells.items = omega (arith, nodes_long, range.cells) in
      range.apart i j no_cell l at (sym (node_at i (omega arith)) ∙ e ∙ node_at j at))
      (length nodes) (omega arith))

  -- every node has a cell
  pub has_cell : (i : ℕ) → i < p.count → has nodes i ≡ true
  has_cell i l = distinct_all p.count nodes all_nodes nodes_long i l

  pub rank_low : (i : ℕ) → i < p.count → rank_in p i < p.count
  rank_low i l = omega (arith, place_below nodes i (has_cell i l), nodes_long)

  -- the cell at a place is that of its node
  pub rank_at : (k : ℕ) → k < p.count → rank_in p (get_or p.cells.items k no_cell).node ≡ k
  rank_at k l = ap (place_in nodes) (sym (node_at k (omega (arith, range.cells)))) ∙ all_nodes.apart k (omega (arith, nodes_long))

  -- the head and the lines, the cells, and what follows them
  in_parts : encoded_program p ≡ (array_word p.count p.factor ∷ [] ++ line_words p.count 0 p.lines.items) ++ (cell_words p.cells.items ++ (array_output_word p.output.source p.output.delay ∷ [] ++ array_end_word (length (program_body p) + 1) ∷ []))
  unfolding encoded_program
  in_parts = simp append_assoc

  pub ordered : tap_fault (encoded_program p) ≡ None → Ordered (array_in p) (rank_in p)
  ordered passed = record { few = range.few; ranks = rank_low; taps = λ i l k d m. (heard i l k d m, earlier i l k d m) }
    where
      heard : (i : ℕ) → i < p.count → (k : ℕ) (d : Tap) → k < length (cell_of p i).taps.items → is_source p.count (get_or (cell_of p i).taps.items k d).source ≡ true
      heard i l k d m = ((range.ranges (rank_in p i) no_cell (omega (arith, rank_low i l, range.cells))).taps k d m).source

      earlier : (i : ℕ) → i < p.count → (k : ℕ) (d : Tap) → k < length (cell_of p i).taps.items →
          let t = get_or (cell_of p i).taps.items k d in t.source < p.count → t.delay ≡ 0 → rank_in p t.source < rank_in p i
      earlier i l k d m node now =
          let t = get_or (cell_of p i).taps.items k d in
          place_among nodes (rank_in p i) t.source
          (hears_among (encoded_program p) passed p.count range.few p.cells.items (array_word p.count p.factor ∷ [] ++ line_words p.count 0 p.lines.items)
          (array_output_word p.output.source p.output.delay ∷ [] ++ array_end_word (length (program_body p) + 1) ∷ []) [] in_parts
          (cells_join (array_word p.count p.factor ∷ []) (line_words p.count 0 p.lines.items)
          ∙ (λ j. cells_of_head p.count p.factor range.few range.slow j ++ cells_of_lines p.count 0 p.lines.items range.few (omega (arith, range.lines)) (λ a b c. range.lengths a b c) j))
          range.ranges (rank_in p i) k d (omega (arith, rank_low i l, range.cells)) m now (λ e. omega (arith, range.few)))

  pub reached : line_fault (encoded_program p) ≡ None → Reached (array_in p) p.lines.items
  reached passed =
      record {
        taps = λ i l k d m. tap_reached p range passed (rank_in p i) k d (omega (arith, rank_low i l, range.cells)) m;
        output_node = range.output_node;
        output = output_reached p range passed;
      }
