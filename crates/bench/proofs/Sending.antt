-- What a list of calls amounts to.
use Rattle.std.proofs.Common.{◌≡◌, ℕ, zero, suc, ◌+◌, ◌*◌, ◌<◌, ◌≤◌, Bool, true, false, cond, leb, List, [], ◌∷◌, length, get_or, drop, ℤ, pos, negsuc, ◌+ℤ◌, ◌*ℤ◌, is_some, is_ok, Some, None, Option, Ok, Result, subst, sym, refl, ap, ◌∙◌, ap₂, add-zero, add-one, mul_assoc, mul_comm, mul-one, arith}
use lib.IntN.{+ℤ_assoc, +ℤ_comm, zero-*ℤ, suc_ℤ-*ℤ}
use Rattle.std.specs.Option.{option_or}
use Rattle.std.proofs.lemmas.List.{drop_more, drop_all}
use Rattle.std.proofs.lemmas.Bool.{true≢false, false≢true}
use Rattle.words.specs.declared.faults.Fault.{Fault}
use Rattle.words.specs.declared.graph.Graph.{Graph}
use Rattle.words.specs.Designs.{max_nodes}
use Rattle.bench.specs.declared.calls.Call.{Call}
use Rattle.bench.specs.declared.calls.Call.TheVariants.{Lag, Slow, Settle}
use Rattle.bench.specs.declared.retiming.Retiming.{Retiming}
use Rattle.bench.specs.Calls.{call_fault, Move, counts_as, after, ended, if_accepted, moves, product, shifted, Law, last_accepted, if_kept}
use Rattle.bench.specs.Moves.{moved, moved_lag, natural, is_lag, lags_fault, delays_fault, move_fault, made_fault, slow_fault, shifts_fault, lag_fault, settle_fault, ranks}
use Rattle.bench.specs.Verdicts.{C1Holds, C2Holds}
use Rattle.bench.specs.Refusals.{lag_out, unless, unless_kept}
use Rattle.bench.specs.Retimings.{lag_at}
use Rattle.bench.proofs.Moved.{passed, lag_moved}
use Rattle.bench.proofs.Searches.{or_none, first_none}

-- a product with a sum
swap : (x y a b : ℤ) → (x +ℤ y) +ℤ (a +ℤ b) ≡ (x +ℤ a) +ℤ (y +ℤ b)
swap x y a b =
    +ℤ_assoc x y (a +ℤ b) ∙ ap (λ z. x +ℤ z) (sym (+ℤ_assoc y a b) ∙ ap (λ z. z +ℤ b) (+ℤ_comm y a) ∙ +ℤ_assoc a y b) ∙ sym (+ℤ_assoc x a (y +ℤ b))

times_sum : (n : ℕ) (a b : ℤ) → pos n *ℤ (a +ℤ b) ≡ pos n *ℤ a +ℤ pos n *ℤ b
times_sum zero a b = zero-*ℤ (a +ℤ b) ∙ sym (ap₂ ◌+ℤ◌ (zero-*ℤ a) (zero-*ℤ b))
times_sum (suc n) a b =
    suc_ℤ-*ℤ (pos n) (a +ℤ b) ∙ ap (λ z. z +ℤ (a +ℤ b)) (times_sum n a b) ∙ swap (pos n *ℤ a) (pos n *ℤ b) a b ∙ sym (ap₂ ◌+ℤ◌ (suc_ℤ-*ℤ (pos n) a) (suc_ℤ-*ℤ (pos n) b))

natural_is : (z : ℤ) → is_lag z ≡ true → pos (natural z) ≡ z
natural_is (pos d) h = refl
natural_is (negsuc d) h = absurd (true≢false (sym h))

cond_none : {E : Type 0} (b : Bool) (o : Option E) (e : E) → cond b o (Some e) ≡ None → o ≡ None
cond_none true o e h = h
cond_none false o e h = absurd (true≢false (ap is_some h))

module _ (g : Graph) (p : Retiming) where
  made_move : (f : ℕ) (s : List ℤ) → made_fault g p f s ≡ None → move_fault g p f s ≡ None
  unfolding made_fault
  made_move f s h = cond_none (leb (p.factor * f) 64) (move_fault g p f s) _ h

  slow_move : (f : ℕ) → slow_fault g p f ≡ None → move_fault g p f [] ≡ None
  unfolding slow_fault
  slow_move f h = made_move f [] (cond_none _ (made_fault g p f []) _ h)

  lag_move : (s : List ℤ) → lag_fault g p s ≡ None → move_fault g p 1 s ≡ None
  unfolding lag_fault
  lag_move s h = (or_none (shifts_fault s) (move_fault g p 1 s) (cond_none _ _ _ h)).1

  settle_move : settle_fault g p ≡ None → move_fault g p g.count (ranks g p) ≡ None
  unfolding settle_fault
  settle_move h = made_move g.count (ranks g p) h

  call_move : (c : Call) → call_fault g p c ≡ None → move_fault g p (counts_as g p c).factor (counts_as g p c).shifts ≡ None
  call_move (Lag shifts) h = lag_move shifts.now h
  call_move (Slow f) h = slow_move f h
  call_move Settle h = settle_move h

  -- the lags of an accepted move
  moved_by : (f : ℕ) (s : List ℤ) → move_fault g p f s ≡ None → g.count ≤ max_nodes → (i : ℕ) → i < g.count → pos (lag_at (moved p f s) i) ≡ pos (lag_at p i * f) +ℤ get_or s i (pos 0)
  moved_by f s h few i l =
      let none = (or_none (lags_fault g.count (moved_lag p f s)) (delays_fault g (moved p f s)) h).0 in
      let in_range = passed _ _ (first_none (λ k. cond (is_lag (moved_lag p f s k)) None (Some (lag_out k))) g.count i none l) in
      ap pos (lag_moved p f s i (omega arith)) ∙ natural_is (moved_lag p f s i) in_range

moved_factor : (p : Retiming) (f : ℕ) (s : List ℤ) → (moved p f s).factor ≡ p.factor * f
unfolding moved
moved_factor p f s = refl

-- one move, and what the others amount to
law_more : (g : Graph) (p : Retiming) (m : Move) (ms : List Move) (q : Retiming) → g.count ≤ max_nodes → move_fault g p m.factor m.shifts ≡ None →
    Law g (moved p m.factor m.shifts) ms q → Law g p (m ∷ ms) q
unfolding product shifted
law_more g p m ms q few none law =
    record {
      factor = law.factor ∙ ap (λ k. k * product ms) (moved_factor p m.factor m.shifts) ∙ mul_assoc p.factor m.factor (product ms);
      lags = λ i l.
          let d : ℕ = lag_at p i in
          let f : ℕ = m.factor in
          let s : ℤ = get_or m.shifts i (pos 0) in
          let n : ℕ = product ms in
          law.lags i l
          ∙ ap (λ z. z +ℤ shifted i ms)
          (ap pos (mul_comm (lag_at (moved p f m.shifts) i) n) ∙ ap (λ z. pos n *ℤ z) (moved_by g p f m.shifts none few i l) ∙ times_sum n (pos (d * f)) s
          ∙ ap (λ k. pos k +ℤ pos n *ℤ s) (mul_comm n (d * f) ∙ mul_assoc d f n))
          ∙ +ℤ_assoc (pos (d * (f * n))) (pos n *ℤ s) (shifted i ms);
    }

pub law_ended : (g : Graph) (p : Retiming) (cs : List Call) → g.count ≤ max_nodes → Law g p (moves g p cs) (ended g p cs)
unfolding moves ended product shifted
law_ended g p [] few =
    record { factor = sym (mul-one p.factor); lags = λ i l. ap pos (sym (add-zero (lag_at p i * 1) ∙ mul-one (lag_at p i))) }
law_ended g p (c ∷ cs) few = by (call_fault g p c) refl (law_ended g (after g p c) cs few)
  where
    by : (o : Option Fault) → call_fault g p c ≡ o →
        Law g (unless_kept o (moved p (counts_as g p c).factor (counts_as g p c).shifts) p) (moves g (unless_kept o (moved p (counts_as g p c).factor (counts_as g p c).shifts) p) cs)
        (ended g (unless_kept o (moved p (counts_as g p c).factor (counts_as g p c).shifts) p) cs) →
        Law g p (if_accepted o (counts_as g p c) (moves g (unless_kept o (moved p (counts_as g p c).factor (counts_as g p c).shifts) p) cs))
        (ended g (unless_kept o (moved p (counts_as g p c).factor (counts_as g p c).shifts) p) cs)
    by None e law = law_more g p (counts_as g p c) _ _ few (call_move g p c e) law
    by (Some f) e law = law

-- one call more, in a list that is being gone through
module _ (g : Graph) (p : Retiming) (cs : List Call) (k : ℕ) (d : Call) (l : k < length cs) where
  pub ended_more : ended g (after g p (get_or cs k d)) (drop (k + 1) cs) ≡ ended g p (drop k cs)
  unfolding ended
  ended_more = sym (ap (ended g p) (drop_more cs k d l))

  pub moves_more : moves g p (drop k cs) ≡ if_accepted (call_fault g p (get_or cs k d)) (counts_as g p (get_or cs k d)) (moves g (after g p (get_or cs k d)) (drop (k + 1) cs))
  unfolding moves
  moves_more = ap (moves g p) (drop_more cs k d l)

-- an accepted call counts as one move more, and a refused one as none
pub one_more : (o : Option Fault) (m : Move) (ms : List Move) → is_ok (unless o (tt {0})) ≡ true → length (if_accepted o m ms) ≡ length ms + 1
one_more None m ms h = sym (add-one (length ms))
one_more (Some f) m ms h = absurd (false≢true h)

pub none_more : (o : Option Fault) (m : Move) (ms : List Move) → is_ok (unless o (tt {0})) ≡ false → length (if_accepted o m ms) ≡ length ms
none_more None m ms h = absurd (true≢false h)
none_more (Some f) m ms h = refl

-- the last accepted call, one call on: an accepted one may be the last
pub last_more : (g : Graph) (p : Retiming) (cs : List Call) (k : ℕ) (d : Call) → k < length cs → (o : Option Call)
    → option_or (last_accepted g p (drop k cs)) o
    ≡ option_or (last_accepted g (after g p (get_or cs k d)) (drop (k + 1) cs)) (option_or (if_kept (call_fault g p (get_or cs k d)) (get_or cs k d)) o)
unfolding last_accepted
last_more g p cs k d l o = ap (λ x. option_or x o) (ap (last_accepted g p) (drop_more cs k d l)) ∙ option_or-assoc (last_accepted g (after g p (get_or cs k d)) (drop (k + 1) cs)) _ o
  where
    option_or-assoc : (a b c : Option Call) → option_or (option_or a b) c ≡ option_or a (option_or b c)
    option_or-assoc None b c = refl
    option_or-assoc (Some x) b c = refl

-- nothing is left
pub ended_all : (g : Graph) (p : Retiming) (cs : List Call) (k : ℕ) → length cs ≤ k → ended g p (drop k cs) ≡ p
unfolding ended
ended_all g p cs k l = ap (ended g p) (drop_all k cs l)

pub moves_all : (g : Graph) (p : Retiming) (cs : List Call) (k : ℕ) → length cs ≤ k → length (moves g p (drop k cs)) ≡ 0
unfolding moves
moves_all g p cs k l = ap (λ x. length (moves g p x)) (drop_all k cs l)

-- where the last accepted call is settle, the bench is systolic: it was this call, or one before it and this one was refused
pub last_settles : (g : Graph) (p : Retiming) (c : Call) (last : Option Call) (r : Result (Unit {0}) Fault) (q : Retiming) → r ≡ unless (call_fault g p c) tt → q ≡ after g p c
    → (c ≡ Settle → r ≡ Ok tt → C1Holds g q × C2Holds g q) → (last ≡ Some Settle → C1Holds g p × C2Holds g p)
    → option_or (if_kept (call_fault g p c) c) last ≡ Some Settle → C1Holds g q × C2Holds g q
last_settles g p c last r q answer state here before = by (call_fault g p c) answer state
  where
    by : (o : Option Fault) → r ≡ unless o tt → q ≡ unless_kept o (moved p (counts_as g p c).factor (counts_as g p c).shifts) p
        → option_or (if_kept o c) last ≡ Some Settle → C1Holds g q × C2Holds g q
    by None accepted to settle = here (same settle) accepted
      where
        same : ◌≡◌ {A = Option Call} (Some c) (Some Settle) → c ≡ Settle
        same s = cc
    by (Some f) refused to settle = let kept = before settle in (subst (C1Holds g) (sym to) kept.0, subst (C2Holds g) (sym to) kept.1)

pub last_all : (g : Graph) (p : Retiming) (cs : List Call) (k : ℕ) → length cs ≤ k → last_accepted g p (drop k cs) ≡ None
unfolding last_accepted
last_all g p cs k l = ap (last_accepted g p) (drop_all k cs l)
