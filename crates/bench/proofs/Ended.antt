-- A list of calls on a well-defined design: what it leaves is in range, its firing order is complete, and it is systolic where the last accepted
-- call was settle.
use Rattle.std.proofs.Common.{◌≡◌, ℕ, zero, suc, ◌+◌, ◌<◌, ◌≤◌, Bool, true, false, cond, ◌&&◌, eqb, leb, List, [], ◌∷◌, ◌++◌, length, is_some, Some, None, Option, pos, sym, refl, ap, ◌∙◌, subst, ⊎_elim, one-mul, zero-mul, ◌*◌, ◌+ℤ◌, arith}
use Rattle.std.specs.Option.{option_or}
use Rattle.std.proofs.Math.IntN.{+ℤ_idl}
use Rattle.std.proofs.lemmas.List.FromFn.{length-map-range_with_len}
use Rattle.std.proofs.lemmas.List.{length_push}
use Rattle.std.proofs.lemmas.Bool.{true≢false, false≢true, cases_Bool, and_parts, eqb-true, leb-true}
use Rattle.words.specs.declared.faults.Fault.{Fault}
use Rattle.words.specs.declared.graph.Graph.{Graph}
use Rattle.words.specs.Designs.{InRange, max_nodes, feed_at}
use Rattle.bench.specs.declared.calls.Call.{Call}
use Rattle.bench.specs.declared.calls.Call.TheVariants.{Lag, Slow, Settle}
use Rattle.bench.specs.declared.retiming.Retiming.{Retiming}
use Rattle.bench.specs.Calls.{call_fault, counts_as, after, ended, moves, product, shifted, last_accepted, if_kept}
use Rattle.bench.specs.Cycles.{WellDefined}
use Rattle.bench.specs.First.{first}
use Rattle.bench.specs.Firing.{has, place_in, next, firing}
use Rattle.bench.specs.Moves.{moved, made_fault, slow_fault, lag_fault, settle_fault, shifts_fault, move_fault, ranks}
use Rattle.bench.specs.Orders.{Ranked}
use Rattle.bench.specs.Refusals.{unless_kept}
use Rattle.bench.specs.Retimings.{Sound, at_rest, order, waits, lag_at, current_delay}
use Rattle.bench.specs.Verdicts.{C1Holds, C2Holds}
use Rattle.bench.specs.Walks.{Closed}
use Rattle.bench.proofs.AtRest.{sound_rest, no_lag}
use Rattle.bench.proofs.Complete.{fires_order, ranked_order, ranked_rest}
use Rattle.bench.proofs.Fires.{next_none}
use Rattle.bench.proofs.Moved.{sound_moved, lag_made}
use Rattle.bench.proofs.Searches.{or_none}
use Rattle.bench.proofs.Sending.{law_ended}
use Rattle.bench.proofs.Settled.{settled_c1, settled_c2}
use Rattle.bench.proofs.Walking.{Path, path_none, path_room, path_push, path_closed, round, round_cycle, round_zero, left_out, none_out}

-- a test that refuses, and nothing is refused
passes : (b : Bool) (o : Option Fault) (f : Fault) → ◌≡◌ {A = Option Fault} (cond b o (Some f)) None → (b ≡ true) × (o ≡ None)
passes true o f h = (refl, h)
passes false o f h = absurd (true≢false (ap is_some h))

-- an accepted call is a move that is in range
module _ (g : Graph) (r : InRange g) where
  record Accepted (p : Retiming) (c : Call) : Type 0 where
    some : 1 ≤ (counts_as g p c).factor
    few : length (counts_as g p c).shifts ≤ g.count
    made : made_fault g p (counts_as g p c).factor (counts_as g p c).shifts ≡ None

  accepted : (p : Retiming) → Sound g p → (c : Call) → call_fault g p c ≡ None → Accepted p c
  unfolding slow_fault lag_fault settle_fault
  accepted p s (Lag shifts) h =
      let row = passes (eqb (length shifts.now) g.count) (option_or (shifts_fault shifts.now) (move_fault g p 1 shifts.now)) _ h in
      let long = eqb-true (length shifts.now) g.count row.0 in
      let fits = (or_none (shifts_fault shifts.now) (move_fault g p 1 shifts.now) row.1).0 in
      record { some = omega arith; few = omega (arith, long); made = sym (lag_made g p shifts.now long fits s.slow) ∙ h }
  accepted p s (Slow f) h =
      let row = passes (leb 1 f && leb f 64) (made_fault g p f []) _ h in
      record { some = leb-true 1 f (and_parts (leb 1 f) (leb f 64) row.0).0; few = omega arith; made = row.1 }
  accepted p s Settle h = record { some = r.some; few = omega (arith, length-map-range_with_len (λ k. pos (place_in (order g p) k)) 0 g.count); made = h }

  pub sound_after : (p : Retiming) → Sound g p → (c : Call) → Sound g (after g p c)
  sound_after p s c = by (call_fault g p c) refl
    where
      by : (o : Option Fault) → call_fault g p c ≡ o → Sound g (unless_kept o (moved p (counts_as g p c).factor (counts_as g p c).shifts) p)
      by (Some f) e = s
      by None e =
          let a = accepted p s c e in
          sound_moved p (counts_as g p c).factor (counts_as g p c).shifts g r s a.few a.some a.made

  pub sound_ended : (p : Retiming) → Sound g p → (cs : List Call) → Sound g (ended g p cs)
  unfolding ended
  sound_ended p s [] = s
  sound_ended p s (c ∷ cs) = sound_ended (after g p c) (sound_after p s c) cs

  pub sound_calls : (cs : List Call) → Sound g (ended g at_rest cs)
  sound_calls cs = sound_ended at_rest (sound_rest g r) cs

-- where no call is accepted, nothing is changed
none_accepted : (g : Graph) (p : Retiming) (cs : List Call) → last_accepted g p cs ≡ None → ended g p cs ≡ p
unfolding ended last_accepted
none_accepted g p [] h = refl
none_accepted g p (c ∷ cs) h =
    let none = or_none (last_accepted g (after g p c) cs) (if_kept (call_fault g p c) c) h in
    none_accepted g (after g p c) cs none.0 ∙ refused (call_fault g p c) none.1
  where
    refused : (o : Option Fault) → ◌≡◌ {A = Option Call} (if_kept o c) None → ◌≡◌ {A = Retiming} (unless_kept o (moved p (counts_as g p c).factor (counts_as g p c).shifts) p) p
    refused None e = absurd (true≢false (ap is_some e))
    refused (Some f) e = refl

-- the one that is kept
if_kept_is : (o : Option Fault) (c last : Call) → ◌≡◌ {A = Option Call} (if_kept o c) (Some last) → (o ≡ None) × (c ≡ last)
if_kept_is None c last e = (refl, same e)
  where
    same : ◌≡◌ {A = Option Call} (Some c) (Some last) → c ≡ last
    same s = cc
if_kept_is (Some f) c last e = absurd (false≢true (ap is_some e))

abbrev Systolic : Graph → Retiming → Type 0
Systolic g p = C1Holds g p × C2Holds g p

module _ (g : Graph) (r : InRange g) (all : length (order g at_rest) ≡ g.count) where
  settled : (p : Retiming) → Sound g p → settle_fault g p ≡ None → C1Holds g (moved p g.count (ranks g p)) × C2Holds g (moved p g.count (ranks g p))
  settled p s none =
      let fires = fires_order g r.few p s all in
      let after-it : Sound g (moved p g.count (ranks g p)) = subst (λ o. Sound g (unless_kept o (moved p g.count (ranks g p)) p)) none (sound_after g r p s Settle) in
      (settled_c1 g r.few p s fires after-it, settled_c2 g r.few p s fires after-it)

  -- where the last accepted call is settle, the bench is systolic
  pub last_settled : (p : Retiming) → Sound g p → (cs : List Call) → last_accepted g p cs ≡ Some Settle → C1Holds g (ended g p cs) × C2Holds g (ended g p cs)
  unfolding ended last_accepted
  last_settled p s [] h = absurd (false≢true (ap is_some h))
  last_settled p s (c ∷ cs) h = by (last_accepted g (after g p c) cs) refl h (λ e. last_settled (after g p c) (sound_after g r p s c) cs e)
    where
      here : (c ≡ Settle) → call_fault g p c ≡ None → Systolic g (after g p c)
      here is none =
          let none' : settle_fault g p ≡ None = ap (call_fault g p) (sym is) ∙ none in
          subst (λ d. Systolic g (after g p d)) (sym is) (subst (λ o. Systolic g (unless_kept o (moved p g.count (ranks g p)) p)) (sym none') (settled p s none'))

      by : (o : Option Call) → last_accepted g (after g p c) cs ≡ o → option_or o (if_kept (call_fault g p c) c) ≡ Some Settle →
          (last_accepted g (after g p c) cs ≡ Some Settle → C1Holds g (ended g (after g p c) cs) × C2Holds g (ended g (after g p c) cs)) → C1Holds g (ended g (after g p c) cs) × C2Holds g (ended g (after g p c) cs)
      by (Some last) e q later = later (e ∙ q)
      by None e q later =
          let kept = if_kept_is (call_fault g p c) c Settle q in
          subst (Systolic g) (sym (none_accepted g (after g p c) cs e)) (here kept.1 kept.0)

  pub settled_calls : (cs : List Call) → last_accepted g at_rest cs ≡ Some Settle → C1Holds g (ended g at_rest cs) × C2Holds g (ended g at_rest cs)
  settled_calls cs h = last_settled at_rest (sound_rest g r) cs h

-- In a well-defined design all nodes are listed at rest: from one that is left out a walk along nodes that hold each other would close on a cycle
-- of zero delays.
module _ (g : Graph) (well : WellDefined g) where
  abbrev listed : List ℕ
  listed = firing g.count (waits g at_rest)

  no_circle : (path : List ℕ) (node : ℕ) → Closed g.count (waits g at_rest) path node → ⊥
  no_circle path node closed =
      let above = well (round g path node closed) (round_cycle g path node closed) in
      let zero' = round_zero g path node closed above.0 above.2 in
      apart above.1 (sym above.3 ∙ zero') above.4
    where
      apart : (a : ℕ) → ◌≡◌ {A = Option ℕ} (Some a) (Some 0) → 0 < a → ⊥
      apart a e l = let same : a ≡ 0 = cc in omega arith

  walks : next g.count (waits g at_rest) listed ≡ None → (f : ℕ) (path : List ℕ) (node : ℕ) → Path g.count (waits g at_rest) listed path node → g.count ≤ length path + f → ⊥
  walks stuck zero path node p b =
      ⊎_elim
      (λ (h : has path node ≡ true). no_circle path node (path_closed g.count (waits g at_rest) listed path node p h))
      (λ (h : has path node ≡ false). omega (arith, path_room g.count (waits g at_rest) listed path node p h))
      (cases_Bool (has path node))
  walks stuck (suc f) path node p b =
      ⊎_elim
      (λ (h : has path node ≡ true). no_circle path node (path_closed g.count (waits g at_rest) listed path node p h))
      (λ (h : has path node ≡ false).
      let held = next_none g.count (waits g at_rest) listed stuck node p.below p.lacks in
      walks stuck f (path ++ node ∷ []) held.0 (path_push g.count (waits g at_rest) listed path node p held.0 h held.1) (omega (arith, length_push path node)))
      (cases_Bool (has path node))

  pub all_listed : length (order g at_rest) ≡ g.count
  all_listed = by (first (λ i. cond (has listed i) None (Some i)) g.count) refl
    where
      by : (o : Option ℕ) → first (λ i. cond (has listed i) None (Some i)) g.count ≡ o → length (order g at_rest) ≡ g.count
      by None e = none_out g.count (waits g at_rest) e
      by (Some i) e =
          let out = left_out g.count (waits g at_rest) i e in
          absurd (walks out.2 g.count [] i (path_none g.count (waits g at_rest) listed i out.0 out.1) (omega arith))

-- K is the product of the accepted factors, and each lag the sum of the node's accepted shifts, each times the factors accepted after it
module _ (g : Graph) (few : g.count ≤ max_nodes) (cs : List Call) where
  pub factor_calls : (ended g at_rest cs).factor ≡ product (moves g at_rest cs)
  factor_calls = (law_ended g at_rest cs few).factor ∙ one-mul (product (moves g at_rest cs))

  pub lag_calls : (i : ℕ) → i < g.count → pos (lag_at (ended g at_rest cs) i) ≡ shifted i (moves g at_rest cs)
  lag_calls i l =
      (law_ended g at_rest cs few).lags i l
      ∙ ap (λ n. pos n +ℤ shifted i (moves g at_rest cs)) {y = 0} (ap (λ n. n * product (moves g at_rest cs)) (no_lag i) ∙ zero-mul (product (moves g at_rest cs)))
      ∙ +ℤ_idl (shifted i (moves g at_rest cs))

-- so the design's own order and the firing order after a list of calls list all nodes, and ranks rise along the feeds of delay 0
module _ (g : Graph) (r : InRange g) (all : length (order g at_rest) ≡ g.count) where
  pub own_order : Ranked g.count (feed_at g) (order g at_rest)
  own_order = ranked_rest g (order g at_rest) (ranked_order g r.few at_rest (sound_rest g r) all)

  pub order_calls : (cs : List Call) → Ranked g.count (current_delay g (ended g at_rest cs)) (order g (ended g at_rest cs))
  order_calls cs = ranked_order g r.few (ended g at_rest cs) (sound_calls g r cs) all
