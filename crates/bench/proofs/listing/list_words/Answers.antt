use Rattle.std.proofs.Common.{◌≡◌, ℕ, ◌+◌, ◌-◌, ◌*◌, length, get_or, Ok, Err, sym, ap, ◌∙◌, arith}
use Rattle.std.proofs.lemmas.List.{take_all}
use Rattle.std.proofs.lemmas.Bool.{cond-true, cond-false, lt-ltb, le-ltb}
use Rattle.bench.specs.Buffers.{overlaid}
use Rattle.bench.specs.Listing.{line_of, listed}
use Rattle.bench.specs.Refusals.{too_short}
use Rattle.bench.proofs.Overlays.{overlaid_part}
use Rattle.bench.proofs.Listings.{listed_length, lines_more}
use Rattle.bench.proofs.listing.list_words.Goals as goal

pub returns-then-text-needed : goal.returns-then-text-needed
returns-then-text-needed c =
    let long = listed_length c.args.words.now in
    let yes' = lt-ltb (length c.args.text.now) (length (listed c.args.words.now)) (omega (arith, c.if-text-needed.true)) in
    record {
      answer = ap Err (c.refused.ensures ∙ ap (too_short (length c.args.text.now)) (sym long)) ∙ sym (cond-true _ _ _ yes');
      buffer = sym (cond-true _ _ _ yes');
    }

pub loop-k-preserved : goal.loop-k-preserved
loop-k-preserved c =
    let k : ℕ = c.loop-k.k in
    let line : c.copy_from_slice.new.self ≡ line_of (get_or c.args.words.now k 0) = c.copy_from_slice.ensures.after ∙ c.line_of.ensures in
    let wide : length c.copy_from_slice.new.self ≡ (k + 1) * 9 - k * 9 = ap length line ∙ omega arith in
    lines_more c.args.text.now c.loop-k.text _ c.args.words.now k c.loop-k-test.true c.if-text-needed.false c.loop-k.invariant
    (overlaid_part c.loop-k.text c.copy_from_slice.new.self (k * 9) _ wide ∙ ap (overlaid c.loop-k.text (k * 9)) line)

pub returns : goal.returns
returns c =
    let long = listed_length c.args.words.now in
    let no' = le-ltb (length c.args.text.now) (length (listed c.args.words.now)) (omega (arith, c.if-text-needed.false)) in
    record {
      answer = ap Ok (sym long) ∙ sym (cond-false _ _ _ no');
      buffer =
          c.loop-k.invariant ∙ ap (λ ws. overlaid c.args.text.now 0 (listed ws)) (take_all c.loop-k.k c.args.words.now c.loop-k-test.false) ∙ sym (cond-false _ _ _ no');
    }
