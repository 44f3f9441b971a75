use Rattle.std.proofs.Common.{◌≡◌, ℕ, ◌+◌, ◌<◌, ◌≤◌, List, [], length, get_or, drop, is_ok, sym, ap, ◌∙◌, subst, arith}
use Rattle.words.specs.declared.design.Design.{Design}
use Rattle.words.specs.declared.graph.Graph.{Graph}
use Rattle.words.proofs.Ranges.{ranges}
use Rattle.bench.specs.declared.calls.Call.{Call}
use Rattle.bench.specs.declared.calls.Call.TheVariants.{Lag}
use Rattle.bench.specs.declared.retiming.Retiming.{Retiming}
use Rattle.std.specs.Option.{option_or}
use Rattle.bench.specs.Calls.{call_fault, counts_as, after, ended, moves, last_accepted, if_kept, Law}
use Rattle.bench.specs.Verdicts.{C1Holds, C2Holds}
use Rattle.bench.specs.Refusals.{unless}
use Rattle.bench.proofs.Sending.{law_ended, ended_more, moves_more, one_more, none_more, ended_all, moves_all, last_more, last_all, last_settles}
use Rattle.bench.proofs.bench.Bench.send.Goals as goal
use Rattle.bench.proofs.bench.Bench.send.Goals.{then-is_ok, else-is_ok}

pub loop-call-preserved : goal.loop-call-preserved
loop-call-preserved c =
    let g : Graph = c.args.self.now.design.graph in
    let p : Retiming = c.loop-call.self.retiming in
    let cs : List Call = c.args.calls.now in
    let k : ℕ = c.loop-call.call-index in
    let d : Call = Lag (record { ref_ptr = (0, 0); now = [] }) in
    let l : k < length cs = c.loop-call-test.true in
    let inv = c.loop-call.invariant in
    let graph : c.loop-call.self.design.graph ≡ g = ap (λ (x : Design). x.graph) inv.0 in
    let made : c.make.new.self.retiming ≡ after g p (get_or cs k d) = c.make.ensures.retiming ∙ ap (λ x. after x p (get_or cs k d)) graph in
    let answer : c.make.result ≡ unless (call_fault g p (get_or cs k d)) tt = c.make.ensures.answer ∙ ap (λ x. unless (call_fault x p (get_or cs k d)) tt) graph in
    let ok = c.is_ok.ensures.value ∙ ap is_ok answer in
    let rest = ap (λ q. length (moves g q (drop (k + 1) cs))) made in
    let more = ap length (moves_more g p cs k d l) in
    let counted : (c.if-is_ok.accepted + length (moves g c.make.new.self.retiming (drop (k + 1) cs)) ≡ length (moves g c.args.self.now.retiming cs)) × (c.if-is_ok.accepted ≤ k + 1) =
    elim c.if-is_ok.branch [
      | then-is_ok w ↦
          let one = one_more (call_fault g p (get_or cs k d)) (counts_as g p (get_or cs k d)) (moves g (after g p (get_or cs k d)) (drop (k + 1) cs)) (sym ok ∙ w.if-is_ok.true) in
          (omega (arith, w.accepted-is, inv.2), omega (arith, w.accepted-is, inv.3))
      | else-is_ok w ↦
          let none = none_more (call_fault g p (get_or cs k d)) (counts_as g p (get_or cs k d)) (moves g (after g p (get_or cs k d)) (drop (k + 1) cs)) (sym ok ∙ w.if-is_ok.false) in
          (omega (arith, w.accepted-is, inv.2), omega (arith, w.accepted-is, inv.3))
    ] in
    let last = inv.4 in (
      c.make.ensures.design ∙ inv.0,
      ap (λ q. ended g q (drop (k + 1) cs)) made ∙ ended_more g p cs k d l ∙ inv.1,
      counted.0,
      counted.1,
      (
        option_or (if_kept (call_fault g p (get_or cs k d)) (get_or cs k d)) last.0,
        last.1 ∙ last_more g p cs k d l last.0 ∙ ap (λ q. option_or (last_accepted g q (drop (k + 1) cs)) (option_or (if_kept (call_fault g p (get_or cs k d)) (get_or cs k d)) last.0)) (sym made),
        last_settles g p (get_or cs k d) last.0 c.make.result c.make.new.self.retiming answer made
            (λ settle ok. subst (λ x. C1Holds x c.make.new.self.retiming × C2Holds x c.make.new.self.retiming) graph (c.make.ensures.systolic settle ok)) last.2,
      ),
    )

pub returns : goal.returns
returns c =
    let g : Graph = c.args.self.now.design.graph in
    let p : Retiming = c.args.self.now.retiming in
    let cs : List Call = c.args.calls.now in
    let k : ℕ = c.loop-call.call-index in
    let inv = c.loop-call.invariant in
    let done : c.loop-call.self.retiming ≡ ended g p cs = sym (ended_all g c.loop-call.self.retiming cs k c.loop-call-test.false) ∙ inv.1 in
    record {
      count = omega (arith, inv.2, moves_all g c.loop-call.self.retiming cs k c.loop-call-test.false);
      design = inv.0;
      retiming = done;
      law = subst (λ q. Law g p (moves g p cs) q) (sym done) (law_ended g p cs (ranges g c.args.self.now.design.sound).few);
      systolic = λ settle.
          inv.4.2 (sym (ap (λ o. option_or o inv.4.0) (last_all g c.loop-call.self.retiming cs k c.loop-call-test.false)) ∙ sym inv.4.1 ∙ settle);
    }
