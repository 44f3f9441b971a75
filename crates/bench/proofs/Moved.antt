-- What a move makes is sound where none of its questions is answered no.
use Rattle.std.proofs.Common.{◌≡◌, ℕ, ◌+◌, ◌*◌, ◌<◌, ◌≤◌, Bool, true, false, cond, not, ◌&&◌, leb, List, [], map, length, get_or, ℤ, pos, negsuc, ◌+ℤ◌, is_some, Some, None, Option, sym, refl, ap, ◌∙◌, subst, ap₂, ⊎_elim, mul-pos, zero-mul, arith}
use Rattle.std.specs.List.{range_with_len, position, position_or_len}
use Rattle.std.proofs.lemmas.List.Quantifiers.{position-Some}
use Rattle.std.proofs.lemmas.List.Sums.{fails_before_first}
use Rattle.std.proofs.lemmas.List.FromFn.{length-map-range_with_len, get_or-map-range_with_len}
use Rattle.std.proofs.lemmas.List.{get_or_past}
use Rattle.std.proofs.lemmas.Bool.{true≢false, false≢true, not-true, not-false, lt-ltb, cases_lt, and_parts, leb-true, cond-true, cond-false, lt-leb, le-leb, eq-eqb, ne_eqb}
use Rattle.words.specs.declared.faults.Fault.{Fault}
use Rattle.words.specs.declared.graph.Graph.{Graph}
use Rattle.words.specs.Designs.{InRange, node_at, feed_at, sources, max_nodes}
use Rattle.bench.specs.declared.retiming.NodeRecord.{NodeRecord}
use Rattle.bench.specs.declared.retiming.Retiming.{Retiming}
use Rattle.std.specs.Option.{option_or}
use Rattle.bench.specs.First.{first}
use Rattle.bench.specs.Retimings.{Sound, unlagged, lag_at, source_lag, ahead}
use Rattle.words.specs.ProgramTables.{max_lag, max_delay, max_factor}
use Rattle.bench.specs.Moves.{moved, moved_lag, new_record, natural, is_lag, lags_fault, delays_fault, node_fault, feed_fault, output_fault, move_fault, made_fault, slow_fault, is_shift, shifts_fault, lag_fault}
use Rattle.bench.specs.Refusals.{lag_out, too_slow, wrong_factor, wrong_row, wrong_shift}
use Rattle.bench.proofs.Searches.{or_none, none_or, some_or, first_none, first_found, first_all, first_extend}
use Rattle.bench.proofs.Soundness.{feed_inside}

-- a test that refuses, and nothing is refused
pub passed : (b : Bool) (f : Fault) → ◌≡◌ {A = Option Fault} (cond b None (Some f)) None → b ≡ true
passed true f h = refl
passed false f h = absurd (true≢false (ap is_some h))

natural_lag : (z : ℤ) → is_lag z ≡ true → natural z ≤ max_lag
natural_lag (pos d) h = leb-true d max_lag h
natural_lag (negsuc d) h = absurd (true≢false (sym h))

-- what a move's questions come to
module _ (g : Graph) (p : Retiming) (factor : ℕ) (shifts : List ℤ) where
  pub made_slow : max_factor < p.factor * factor → made_fault g p factor shifts ≡ Some (too_slow p.factor factor)
  unfolding made_fault
  made_slow h = cond-false _ _ _ (lt-leb (p.factor * factor) max_factor h)

  pub made_move : p.factor * factor ≤ max_factor → made_fault g p factor shifts ≡ move_fault g p factor shifts
  unfolding made_fault
  made_move h = cond-true _ _ _ (le-leb (p.factor * factor) max_factor h)

  pub made_lags : p.factor * factor ≤ max_factor → (f : Fault) → lags_fault g.count (moved_lag p factor shifts) ≡ Some f → made_fault g p factor shifts ≡ Some f
  made_lags h f e = made_move h ∙ some_or _ (delays_fault g (moved p factor shifts)) f e

  pub made_delays : p.factor * factor ≤ max_factor → lags_fault g.count (moved_lag p factor shifts) ≡ None → made_fault g p factor shifts ≡ delays_fault g (moved p factor shifts)
  made_delays h e = made_move h ∙ none_or _ (delays_fault g (moved p factor shifts)) e

  made_none : made_fault g p factor shifts ≡ None → (p.factor * factor ≤ max_factor) × (move_fault g p factor shifts ≡ None)
  made_none h =
      ⊎_elim
      (λ (l : max_factor < p.factor * factor). absurd (true≢false (ap is_some (sym (made_slow l) ∙ h))))
      (λ (l : p.factor * factor ≤ max_factor). (l, sym (made_move l) ∙ h))
      (cases_lt max_factor (p.factor * factor))

module _ (p : Retiming) (factor : ℕ) (shifts : List ℤ) where
  -- the lags that a move makes
  pub lag_moved : (i : ℕ) → i < max_nodes → lag_at (moved p factor shifts) i ≡ natural (moved_lag p factor shifts i)
  unfolding moved
  lag_moved i l = ap (λ (r : NodeRecord). r.lag) (get_or-map-range_with_len (new_record p.records factor shifts) 0 max_nodes i i unlagged l (omega arith))

  lag_past : (i : ℕ) → max_nodes ≤ i → lag_at (moved p factor shifts) i ≡ 0
  unfolding moved
  lag_past i l =
      ap (λ (r : NodeRecord). r.lag) (get_or_past (map (new_record p.records factor shifts) (range_with_len 0 max_nodes)) i unlagged (omega (arith, length-map-range_with_len (new_record p.records factor shifts) 0 max_nodes)))

  -- a node with no lag and no shift stays
  lag_rest : (i : ℕ) → lag_at p i ≡ 0 → length shifts ≤ i → moved_lag p factor shifts i ≡ pos 0
  lag_rest i none past =
      ap₂ (λ d s. pos (d * factor) +ℤ s) none (get_or_past shifts i (pos 0) past) ∙ ap pos (omega (arith, zero-mul factor))

  module _ (g : Graph) (r : InRange g) (s : Sound g p) (few : length shifts ≤ g.count) where
    -- what stands past the nodes is never refused
    lags_past : lags_fault max_nodes (moved_lag p factor shifts) ≡ lags_fault g.count (moved_lag p factor shifts)
    lags_past =
        first_extend (λ i. cond (is_lag (moved_lag p factor shifts i)) None (Some (lag_out i))) g.count max_nodes r.few
        (λ i low high. cond-true _ _ _ (ap is_lag (lag_rest i (s.rest i low) (omega arith))))

    pub lags_table : lags_fault (length p.records) (moved_lag p factor shifts) ≡ lags_fault g.count (moved_lag p factor shifts)
    lags_table = ap (λ n. lags_fault n (moved_lag p factor shifts)) s.table ∙ lags_past

    pub sound_moved : 1 ≤ factor → made_fault g p factor shifts ≡ None → Sound g (moved p factor shifts)
    unfolding moved delays_fault
    sound_moved some accepted =
        let slow = (made_none g p factor shifts accepted).0 in
        let none = (made_none g p factor shifts accepted).1 in
        let parts = or_none (lags_fault g.count (moved_lag p factor shifts)) (delays_fault g (moved p factor shifts)) none in
        let q : Retiming = moved p factor shifts in
        let more = or_none (first (λ i. node_fault q i (node_at g i)) g.count) (output_fault g q) parts.1 in
        let feed : (i j a : ℕ) → i < g.count → feed_at g i j ≡ Some a → (leb (source_lag q j) (ahead q i a) && leb (ahead q i a) (source_lag q j + max_delay)) ≡ true =
        λ i j a l e.
        let none-at = first_none (λ m. feed_fault q i m (get_or (node_at g i).feeds m None)) sources j (first_none (λ m. node_fault q m (node_at g m)) g.count i more.0 l) (feed_inside g r i j a e).1 in
        passed _ _ (sym (ap (feed_fault q i j) e) ∙ none-at) in
        record {
          table = length-map-range_with_len (new_record p.records factor shifts) 0 max_nodes;
          rest = λ i l.
              ⊎_elim
              (λ (m : i < max_nodes). lag_moved i m ∙ ap natural (lag_rest i (s.rest i l) (omega arith)))
              (λ (m : max_nodes ≤ i). lag_past i m)
              (cases_lt i max_nodes);
          slowed = mul-pos s.slowed some;
          slow = slow;
          lags = λ i.
              ⊎_elim
              (λ (m : i < g.count).
              subst (λ n. n ≤ max_lag) (sym (lag_moved i (omega (arith, r.few))))
              (natural_lag (moved_lag p factor shifts i) (passed _ _ (first_none (λ k. cond (is_lag (moved_lag p factor shifts k)) None (Some (lag_out k))) g.count i parts.0 m))))
              (λ (m : g.count ≤ i).
              subst (λ n. n ≤ max_lag)
              (sym (⊎_elim (λ (k : i < max_nodes). lag_moved i k ∙ ap natural (lag_rest i (s.rest i m) (omega arith))) (λ (k : max_nodes ≤ i). lag_past i k) (cases_lt i max_nodes))) (omega arith))
              (cases_lt i g.count);
          low = λ i j a l e. leb-true _ _ (and_parts _ _ (feed i j a l e)).0;
          high = λ i j a l e. leb-true _ _ (and_parts (leb (source_lag q j) (ahead q i a)) _ (feed i j a l e)).1;
          output = leb-true _ _ (passed _ _ more.1);
        }

-- the retiming that the code makes
pub moved_by : (p : Retiming) (factor : ℕ) (shifts : List ℤ) (records : List NodeRecord) → length p.records ≡ max_nodes →
    records ≡ map (new_record p.records factor shifts) (range_with_len 0 (length p.records)) → ◌≡◌ {A = Retiming} (record { factor = p.factor * factor; records = records }) (moved p factor shifts)
unfolding moved
moved_by p factor shifts records long e =
    ap (λ rs. record { factor = p.factor * factor; records = rs }) (e ∙ ap (λ n. map (new_record p.records factor shifts) (range_with_len 0 n)) long)

module _ (g : Graph) (p : Retiming) (factor : ℕ) where
  pub slow_wrong : (leb 1 factor && leb factor max_factor) ≡ false → slow_fault g p factor ≡ Some (wrong_factor factor)
  unfolding slow_fault
  slow_wrong h = cond-false _ _ _ h

  pub slow_made : (leb 1 factor && leb factor max_factor) ≡ true → slow_fault g p factor ≡ made_fault g p factor []
  unfolding slow_fault
  slow_made h = cond-true _ _ _ h

-- a row that passes questions 8 and 9
module _ (g : Graph) (p : Retiming) (shifts : List ℤ) where
  pub lag_row : (length shifts ≡ g.count → ⊥) → lag_fault g p shifts ≡ Some (wrong_row (length shifts) g.count)
  unfolding lag_fault
  lag_row ne = cond-false _ _ _ (ne_eqb (length shifts) g.count ne)

  asks_shifts : length shifts ≡ g.count → lag_fault g p shifts ≡ option_or (shifts_fault shifts) (move_fault g p 1 shifts)
  unfolding lag_fault
  asks_shifts e = cond-true _ _ _ (eq-eqb (length shifts) g.count e)

  pub lag_shifts : length shifts ≡ g.count → (f : Fault) → shifts_fault shifts ≡ Some f → lag_fault g p shifts ≡ Some f
  lag_shifts e f h = asks_shifts e ∙ some_or (shifts_fault shifts) (move_fault g p 1 shifts) f h

  pub lag_made : length shifts ≡ g.count → shifts_fault shifts ≡ None → p.factor ≤ max_factor → lag_fault g p shifts ≡ made_fault g p 1 shifts
  lag_made e none slow =
      asks_shifts e ∙ none_or (shifts_fault shifts) (move_fault g p 1 shifts) none ∙ sym (made_move g p 1 shifts (omega arith))

-- the lowest shift out of range is what question 9 names
module _ (shifts : List ℤ) where
  shift_named : ℕ → Option Fault
  shift_named i = cond (is_shift (get_or shifts i (pos 0))) None (Some (wrong_shift i))

  pub shifts_some : (k : ℕ) → Some k ≡ position (λ s. not (is_shift s)) shifts → shifts_fault shifts ≡ Some (wrong_shift k)
  unfolding shift_named
  shifts_some k h =
      let at = position-Some (λ s. not (is_shift s)) shifts k (pos 0) (sym h) in
      first_found shift_named (length shifts) k (wrong_shift k) at.0 (first_all shift_named k (λ i l. cond-true _ _ _ (not-false _ (at.2 i l)))) (cond-false _ _ _ (not-true _ at.1))

  -- and where none is, each is in range; none is given past the row
  pub shifts_fit : None ≡ position (λ s. not (is_shift s)) shifts → (i : ℕ) → is_shift (get_or shifts i (pos 0)) ≡ true
  shifts_fit h i =
      ⊎_elim
      (λ (l : i < length shifts). not-false _ (fails_before_first (λ s. not (is_shift s)) shifts i (pos 0) (omega (arith, past))))
      (λ (l : length shifts ≤ i). ap is_shift (get_or_past shifts i (pos 0) l))
      (cases_lt i (length shifts))
    where
      past : length shifts ≤ position_or_len (λ s. not (is_shift s)) shifts
      past =
          ⊎_elim
          (λ (l : position_or_len (λ s. not (is_shift s)) shifts < length shifts). absurd (false≢true (ap is_some (h ∙ cond-true _ _ _ (lt-ltb _ _ l)))))
          (λ (l : length shifts ≤ position_or_len (λ s. not (is_shift s)) shifts). l)
          (cases_lt (position_or_len (λ s. not (is_shift s)) shifts) (length shifts))

  pub shifts_none : ((i : ℕ) → is_shift (get_or shifts i (pos 0)) ≡ true) → shifts_fault shifts ≡ None
  unfolding shift_named
  shifts_none fits = first_all shift_named (length shifts) (λ i l. cond-true _ _ _ (fits i))
