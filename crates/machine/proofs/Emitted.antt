-- Every emitted program loads: its taps read earlier cells, and its lines fit.
use Rattle.std.proofs.Common.{◌≡◌, ℕ, zero, suc, ◌+◌, ◌<◌, ◌≤◌, true, not, ◌||◌, eqb, append_assoc, ◌⊎◌, List, [], ◌∷◌, ◌++◌, map, length, get_or, Some, None, Option, sym, refl, ap, ◌∙◌, subst, inl, inr, ⊎_elim, arith}
use Rattle.std.specs.List.{All}
use Rattle.std.proofs.lemmas.List.{get_or-map, length-map, length-append}
use Rattle.std.proofs.Math.Seq.{get_or-append_seam}
use Rattle.std.proofs.lemmas.List.FromFn.{get_or-map-range_with_len}
use Rattle.std.proofs.lemmas.List.Elements.{All-map}
use Rattle.std.proofs.lemmas.Bool.{cases_eq, eq-eqb, ne_eqb, cond-false, or_left, or_right}
use Rattle.std.proofs.lemmas.Grind.{get_or_default_zero}
use Rattle.words.specs.declared.graph.Graph.{Graph}
use Rattle.words.specs.declared.program_table.Tap.{Tap}
use Rattle.words.specs.Designs.{InRange, input, sources, is_source}
use Rattle.words.specs.ProgramTables.{ProgramInRange}
use Rattle.words.specs.ProgramEncoding.{line_source, encoded_program}
use Rattle.words.proofs.Sources.{source_place}
use Rattle.words.proofs.ProgramEncodings.{line_heard}
use Rattle.bench.specs.declared.retiming.Retiming.{Retiming}
use Rattle.bench.specs.Firing.{has, place_in}
use Rattle.bench.specs.Orders.{Ranked}
use Rattle.bench.specs.Programs.{program, line_length}
use Rattle.bench.specs.Retimings.{Sound, order, current_delay, output_delay}
use Rattle.bench.specs.Tables.{tap_at, taps_to, cell_at, program_of}
use Rattle.bench.proofs.Emitting.{reaches}
use Rattle.bench.proofs.Tabled.{each_tap, program_table, table_in_range}
use Rattle.bench.proofs.Settled.{fed}
use Rattle.machine.specs.Loading.{greatest_delay, tap_fault, line_fault}
use Rattle.machine.specs.Fitting.{tap_hears, Fireable, Fitting}
use Rattle.machine.proofs.Decoded.{taps_pass}
use Rattle.machine.proofs.Lined.{lines_pass}
use Rattle.machine.proofs.Histories.{source_node}
use Rattle.machine.proofs.Greatest.{all_first, all_rest, reads_below, reads_least, Within, words_bounded, words_within}

-- what holds of each tap of a row holds at each delay there is
at_delay : (row : ℕ → Option ℕ) (P : Tap → Type 0) (k : ℕ) → All P (taps_to row k) → (j d : ℕ) → j < k → row j ≡ Some d → P (record { source = j; delay = d })
unfolding taps_to
at_delay row P zero each j d l e = absurd (omega arith)
at_delay row P (suc k) each j d l e =
    ⊎_elim
    (λ (last : j ≡ k).
    subst (λ i. P (record { source = i; delay = d })) (sym last)
    (subst (λ o. All P (tap_at k o)) (ap row (sym last) ∙ e) (all_rest P (taps_to row k) (tap_at k (row k)) each) 0 (record { source = k; delay = d }) (omega arith)))
    (λ (other : j ≡ k → ⊥). at_delay row P k (all_first P (taps_to row k) (tap_at k (row k)) each) j d (omega (arith, other)) e)
    (cases_eq j k)

module _ (g : Graph) (r : InRange g) (p : Retiming) (s : Sound g p) (ranked : Ranked g.count (current_delay g p) (order g p)) where
  range : ProgramInRange (program_of g p)
  range = table_in_range g r p s ranked

  module _ (j : ℕ) (source : is_source g.count j ≡ true) where
    short : greatest_delay (encoded_program (program_of g p)) j ≤ line_length g p j
    short =
        let reach = reaches g p j in
        reads_least (encoded_program (program_of g p)) j (line_length g p j)
        (words_bounded (program_of g p) range j (line_length g p j)
        (All-map (λ c. All (Within g.count r.few j (line_length g p j)) c.taps.items) (cell_at g p) (order g p)
        (λ k d l. each_tap (current_delay g p (get_or (order g p) k d)) (Within g.count r.few j (line_length g p j))
        (λ i delay e same. reach.taps (get_or (order g p) k d) delay (ranked_below k d l) (ap (current_delay g p (get_or (order g p) k d)) (sym same) ∙ e)) sources))
        reach.output)
      where
        ranked_below : (k d : ℕ) → k < length (order g p) → get_or (order g p) k d < g.count
        ranked_below k d l = subst (λ i. i < g.count) (sym (get_or_default_zero (order g p) k d l)) (ranked.below k (omega (arith, ranked.whole)))

    abbrev greatest : ℕ
    greatest = greatest_delay (encoded_program (program_of g p)) j

    within : All (λ c. All (Within g.count r.few j greatest) c.taps.items) (map (cell_at g p) (order g p)) × (g.output.node ≡ j → output_delay g p ≤ greatest)
    within = words_within (program_of g p) range j greatest (reads_below (encoded_program (program_of g p)) j)

    far : line_length g p j ≤ greatest_delay (encoded_program (program_of g p)) j
    far =
        ⊎_elim
        (λ (none : line_length g p j ≡ 0). omega (arith, none))
        (λ read.
        ⊎_elim
        (λ (out : (g.output.node ≡ j) × (line_length g p j ≡ output_delay g p)). omega (arith, out.1, within.1 out.0))
        (λ (tap : (i : ℕ) × (i < g.count) × (current_delay g p i j ≡ Some (line_length g p j))).
        let place = ranked.found tap.0 tap.1 in
        let few : place_in (order g p) tap.0 < length (order g p) = omega (arith, place.0, ranked.whole) in
        let cell : get_or (map (cell_at g p) (order g p)) (place_in (order g p) tap.0) (cell_at g p 0) ≡ cell_at g p tap.0 =
        get_or-map (cell_at g p) (order g p) (place_in (order g p) tap.0) 0 (cell_at g p 0) few ∙ ap (cell_at g p) place.1 in
        let taps = subst (λ c. All (Within g.count r.few j greatest) c.taps.items) cell (within.0 (place_in (order g p) tap.0) (cell_at g p 0) (omega (arith, few, length-map (order g p) (cell_at g p)))) in
        at_delay (current_delay g p tap.0) (Within g.count r.few j greatest) sources taps j (line_length g p j) (source_place g.count j r.few source) tap.2 refl)
        read)
        (reaches g p j).reached

  -- every line of an emitted program fits
  pub emitted_fits : Fitting (program_of g p)
  emitted_fits k l =
      let j = line_source g.count k in
      let source = line_heard g.count k (omega arith) in
      get_or-map-range_with_len (λ i. line_length g p (line_source g.count i)) 0 (g.count + 1) k k 0 l (omega arith)
      ∙ omega (arith, short j source, far j source)

  -- what stands in an order before a place is in its front
  in_front : (l m : List ℕ) (j : ℕ) → place_in (l ++ m) j < length l → has l j ≡ true
  unfolding has place_in
  in_front [] m j lt = absurd (omega arith)
  in_front (x ∷ l) m j lt =
      ⊎_elim
      (λ (same : x ≡ j). or_left (eqb x j) (has l j) (eq-eqb x j same))
      (λ (other : x ≡ j → ⊥). or_right (eqb x j) (has l j) (in_front l m j (omega (arith, cond-false (eqb x j) 0 (suc (place_in (l ++ m) j)) (ne_eqb x j other), lt))))
      (cases_eq x j)

  -- the taps of the node at a place of the firing order, where those before it have fired
  hears_fired : (before after : List ℕ) (x : ℕ) → order g p ≡ before ++ x ∷ after → All (λ tap. tap_hears before tap ≡ true) (taps_to (current_delay g p x) sources)
  hears_fired before after x parts =
      each_tap (current_delay g p x) (λ tap. tap_hears before tap ≡ true) (λ j d e. by j d e (cases_eq d 0) (cases_eq j input)) sources
    where
      at_place : get_or (order g p) (length before) 0 ≡ x
      at_place = ap (λ l. get_or l (length before) 0) parts ∙ get_or-append_seam before x after 0

      within_order : length before < length (order g p)
      within_order = omega (arith, ap length parts, length-append before (x ∷ after))

      below : x < g.count
      below = subst (λ i. i < g.count) at_place (ranked.below (length before) (omega (arith, within_order, ranked.whole)))

      by : (j d : ℕ) → current_delay g p x j ≡ Some d → (d ≡ 0) ⊎ (d ≡ 0 → ⊥) → (j ≡ input) ⊎ (j ≡ input → ⊥) → tap_hears before (record { source = j; delay = d }) ≡ true
      by j d e (inr later) source = or_left (not (eqb d 0)) (eqb j input || has before j) (ap not (ne_eqb d 0 later))
      by j d e (inl now) (inl input-itself) = or_right (not (eqb d 0)) (eqb j input || has before j) (or_left (eqb j input) (has before j) (eq-eqb j input input-itself))
      by j d e (inl now) (inr node) =
          let f = fed g p x j d e in
          let heard = (r.nodes x (omega (arith, below, r.few))).heard j f.0 f.1 in
          let lj : j < g.count = source_node g.count j heard node in
          let rises = ranked.rises x j below lj (e ∙ ap Some now) in
          let place : place_in (order g p) x ≡ length before = ap (place_in (order g p)) (sym at_place) ∙ ranked.once (length before) within_order in
          or_right (not (eqb d 0)) (eqb j input || has before j)
          (or_right (eqb j input) (has before j) (in_front before (x ∷ after) j (omega (arith, rises, place, ap (λ l. place_in l j) parts))))

  fireable_from : (before nodes : List ℕ) → order g p ≡ before ++ nodes → Fireable before (map (cell_at g p) nodes)
  fireable_from before [] parts = tt
  fireable_from before (x ∷ nodes) parts =
      (hears_fired before nodes x parts, fireable_from (before ++ x ∷ []) nodes (parts ∙ sym (append_assoc before (x ∷ []) nodes)))

  -- every cell of an emitted program hears earlier cells
  pub emitted_fireable : Fireable [] (map (cell_at g p) (order g p))
  emitted_fireable = fireable_from [] (order g p) refl

  -- so an emitted program passes 15 and 16
  pub emitted_passes : (tap_fault (program g p) ≡ None) × (line_fault (program g p) ≡ None)
  emitted_passes =
      let words = program_table g p ranked.whole in
      (ap tap_fault words ∙ taps_pass (program_of g p) range emitted_fireable, ap line_fault words ∙ lines_pass (program_of g p) range emitted_fits)
