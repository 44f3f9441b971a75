use Rattle.std.proofs.Common.{◌≡◌, ℕ, ◌+◌, ◌<◌, Bool, List, [], ◌∷◌, ◌++◌, length, get_or, take, drop, Ok, Err, Result, sym, refl, ap, ◌∙◌, subst, subst₂, rules, add-one, arith}
use Rattle.std.proofs.lemmas.List.{take_more, length-take-le}
use Rattle.std.proofs.lemmas.Option.{MatchOption-at_none, MatchOption-at_some}
use Rattle.std.proofs.lemmas.Result.{err_from_is_err_and}
use Rattle.words.specs.declared.faults.WordsQuestion.TheVariants as question
use Rattle.words.specs.declared.faults.WordsQuestion.{WordsQuestion}
use Rattle.words.specs.Formats.{Format, kind_in, asked_in}
use Rattle.words.specs.Readings.{BeginsOne, BegunIn, ReadIn, EndsIn}
use Rattle.words.specs.Refusals.{words_fault}
use Rattle.words.proofs.FormatRefusing.{walked_on, ended, refused_here, refused_short, failed_reads}
use Rattle.words.proofs.Putting.{ok_or_err, put, put_ok, put_err}
use Rattle.words.proofs.reading.read_words.Goals as goal

-- the words after the head, at their own index
later : {words rest : List ℕ} {head : ℕ} → words ≡ head ∷ rest → (n : ℕ) → get_or words (n + 1) 0 ≡ get_or rest n 0
later {words = words} {rest = rest} {head = head} e n = ap (λ l. get_or l (n + 1) 0) e ∙ ap (λ m. get_or (head ∷ rest) m 0) (add-one n)

-- what a word's reading says, of the words given
module _ {K T : Type 0} (InRange : T → Type 0) (encoded : T → List ℕ) (format : Format K) where
  step : {words rest : List ℕ} {head : ℕ} {before : List ℕ} (after : List ℕ) (r : Result Bool WordsQuestion) (n : ℕ) → words ≡ head ∷ rest → before ≡ take (n + 1) words →
      ReadIn InRange encoded format before after (get_or rest n 0) (length words) r → ReadIn InRange encoded format (take (n + 1) words) after (get_or words (n + 1) 0) (length words) r
  step {words = words} after r n e so_far h = subst₂ (λ p w. ReadIn InRange encoded format p after w (length words) r) so_far (sym (later e n)) h

-- no head: no word was given
pub returns-in_err-head : goal.returns-in_err-head
returns-in_err-head g c = λ passes none'.
    let none : 0 ≡ length c.args.words.now = sym (MatchOption-at_none _ _ c.in_err-head.ensures.ok_part c.split_first.ensures.cases) in
    let p = err_from_is_err_and c.from_residual.result c.from_residual.ensures.1 in
    let f = ok_or_err _ _ _ (sym c.in_err-head.ensures.value) in
    rw (p.1, p.2)
    (refused_short g.R.Reading.format c.args.words.now g.R.Reading.in_range g.R.Reading.encoded passes 0 _ none (f.1 ∙ c.at.ensures ∙ ap (words_fault question.Word) none) refl none')

pub returns-in_err-reader : goal.returns-in_err-reader
returns-in_err-reader g c = λ passes none'.
    let parted = MatchOption-at_some _ _ _ c.in_ok-head.ensures.ok_part c.split_first.ensures.cases in
    let ws : List ℕ = c.args.words.now in
    let m = put 0 c.begin.result c.map_err.result (λ q f k. search rules) c.map_err.ensures.cases in
    let e = put_err 0 c.begin.result _ (sym m ∙ c.in_err-reader.was) in
    let p = err_from_is_err_and c.from_residual-in_err-reader.result c.from_residual-in_err-reader.ensures.1 in
    let no' = subst (BegunIn g.R.Reading.in_range g.R.Reading.encoded g.R.Reading.format g.R.Reading.words c.in_ok-head.head.now) e.1 c.begin.ensures in
    rw (p.1, p.2, e.2)
    (refused_here g.R.Reading.format ws g.R.Reading.in_range g.R.Reading.encoded passes 0 (words_fault e.0 0) (omega (arith, parted.1)) refl none'
    (ap (λ w. asked_in g.R.Reading.format [] w (drop 1 ws)) (ap (λ l. get_or l 0 0) parted.0) ∙ no' (drop 1 ws)))

pub loop-read-init : goal.loop-read-init
loop-read-init g c =
    let parted = MatchOption-at_some _ _ _ c.in_ok-head.ensures.ok_part c.split_first.ensures.cases in
    let ws : List ℕ = c.args.words.now in
    let m = put 0 c.begin.result c.map_err.result (λ q f k. search rules) c.map_err.ensures.cases in
    let yes =
    subst (BegunIn g.R.Reading.in_range g.R.Reading.encoded g.R.Reading.format g.R.Reading.words c.in_ok-head.head.now) (put_ok 0 c.begin.result _ (sym m ∙ c.in_ok-reader.was)) c.begin.ensures in
    let one : take 1 ws ≡ c.in_ok-head.head.now ∷ [] = ap (take 1) parted.0 in
    let first : get_or ws 0 0 ≡ c.in_ok-head.head.now = ap (λ l. get_or l 0 0) parted.0 in (
      yes.1.0 ∙ sym one,
      subst (BeginsOne g.R.Reading.in_range g.R.Reading.encoded) (yes.1.0 ∙ sym one) yes.1.1,
      walked_on g.R.Reading.format ws 0 (omega (arith, parted.1)) (ap (λ w. g.R.Reading.format.ends (kind_in g.R.Reading.format w)) first ∙ yes.0) refl
          (ap (λ w. asked_in g.R.Reading.format [] w (drop 1 ws)) first ∙ yes.1.2 (drop 1 ws)),
    )

pub returns-in_err-ended : goal.returns-in_err-ended
returns-in_err-ended g c = λ passes none'.
    let parted = MatchOption-at_some _ _ _ c.in_ok-head.ensures.ok_part c.split_first.ensures.cases in
    let m = put (c.loop-read.read + 1) c.read.result c.map_err-in-loop-read.result (λ q f k. search rules) c.map_err-in-loop-read.ensures.cases in
    let e = put_err (c.loop-read.read + 1) c.read.result _ (sym m ∙ c.in_err-ended.was) in
    let p = err_from_is_err_and c.from_residual-in_err-ended.result c.from_residual-in_err-ended.ensures.1 in
    let no' =
    step g.R.Reading.in_range g.R.Reading.encoded g.R.Reading.format (g.R.Reading.words c.read.new.self) (Err e.0) c.loop-read.read parted.0 c.loop-read.invariant.0
    (subst (ReadIn g.R.Reading.in_range g.R.Reading.encoded g.R.Reading.format _ _ _ _) e.1 c.read.ensures) in
    rw (p.1, p.2, e.2)
    (failed_reads g.R.Reading.format c.args.words.now g.R.Reading.in_range g.R.Reading.encoded passes (c.loop-read.read + 1) e.0 (omega (arith, parted.1)) c.loop-read.invariant.2
    c.loop-read.invariant.1 no')

pub returns-then-ended : goal.returns-then-ended
returns-then-ended g c = λ passes none'.
    let parted = MatchOption-at_some _ _ _ c.in_ok-head.ensures.ok_part c.split_first.ensures.cases in
    let m = put (c.loop-read.read + 1) c.read.result c.map_err-in-loop-read.result (λ q f k. search rules) c.map_err-in-loop-read.ensures.cases in
    let yes =
    step g.R.Reading.in_range g.R.Reading.encoded g.R.Reading.format (g.R.Reading.words c.read.new.self) (Ok c.in_ok-ended.ended) c.loop-read.read parted.0 c.loop-read.invariant.0
    (subst (ReadIn g.R.Reading.in_range g.R.Reading.encoded g.R.Reading.format _ _ _ _) (put_ok (c.loop-read.read + 1) c.read.result _ (sym m ∙ c.in_ok-ended.was)) c.read.ensures) in
    let ws : List ℕ = c.args.words.now in
    let i : ℕ = c.loop-read.read + 1 in
    let l : i < length ws = omega (arith, parted.1) in
    let done = yes.2 c.if-ended.true in
    let last : i + 1 ≡ length ws = omega (arith, done.1.last, length-take-le i ws (omega arith)) in
    let all = ended g.R.Reading.format ws i l c.loop-read.invariant.2 done.1.end last done.1.passes in
    (all.0, c.finish.ensures (get_or ws i 0) (subst (λ p. EndsIn g.R.Reading.format p (get_or ws i 0) (length ws)) (sym done.0) done.1) ∙ ap (λ p. p ++ get_or ws i 0 ∷ []) done.0 ∙ all.1)

pub finish-requires : goal.finish-requires
finish-requires g c =
    let parted = MatchOption-at_some _ _ _ c.in_ok-head.ensures.ok_part c.split_first.ensures.cases in
    let m = put (c.loop-read.read + 1) c.read.result c.map_err-in-loop-read.result (λ q f k. search rules) c.map_err-in-loop-read.ensures.cases in
    let yes =
    step g.R.Reading.in_range g.R.Reading.encoded g.R.Reading.format (g.R.Reading.words c.read.new.self) (Ok c.in_ok-ended.ended) c.loop-read.read parted.0 c.loop-read.invariant.0
    (subst (ReadIn g.R.Reading.in_range g.R.Reading.encoded g.R.Reading.format _ _ _ _) (put_ok (c.loop-read.read + 1) c.read.result _ (sym m ∙ c.in_ok-ended.was)) c.read.ensures) in
    let done = yes.2 c.if-ended.true in
    let w : ℕ = get_or c.args.words.now (c.loop-read.read + 1) 0 in
    (w, subst (λ p. EndsIn g.R.Reading.format p w (length c.args.words.now)) (sym done.0) done.1)

pub loop-read-preserved : goal.loop-read-preserved
loop-read-preserved g c =
    let parted = MatchOption-at_some _ _ _ c.in_ok-head.ensures.ok_part c.split_first.ensures.cases in
    let ws : List ℕ = c.args.words.now in
    let m = put (c.loop-read.read + 1) c.read.result c.map_err-in-loop-read.result (λ q f k. search rules) c.map_err-in-loop-read.ensures.cases in
    let all =
    step g.R.Reading.in_range g.R.Reading.encoded g.R.Reading.format (g.R.Reading.words c.read.new.self) (Ok c.in_ok-ended.ended) c.loop-read.read parted.0 c.loop-read.invariant.0
    (subst (ReadIn g.R.Reading.in_range g.R.Reading.encoded g.R.Reading.format _ _ _ _) (put_ok (c.loop-read.read + 1) c.read.result _ (sym m ∙ c.in_ok-ended.was)) c.read.ensures) in
    let yes = all.1 c.if-ended.false in
    let l : c.loop-read.read + 1 < length ws = omega (arith, parted.1) in
    let more : g.R.Reading.words c.read.new.self ≡ take (c.loop-read.read + 1 + 1) ws = yes.0 ∙ sym (take_more ws (c.loop-read.read + 1) 0 l) in (
      more,
      subst (BeginsOne g.R.Reading.in_range g.R.Reading.encoded) more yes.1,
      walked_on g.R.Reading.format ws (c.loop-read.read + 1) l (all.0 ∙ c.if-ended.false) c.loop-read.invariant.2 (yes.2 (drop (c.loop-read.read + 1 + 1) ws)),
    )

pub returns : goal.returns
returns g c = λ passes none'.
    let parted = MatchOption-at_some _ _ _ c.in_ok-head.ensures.ok_part c.split_first.ensures.cases in
    refused_short g.R.Reading.format c.args.words.now g.R.Reading.in_range g.R.Reading.encoded passes (c.loop-read.read + 1) c.at-2.result (omega (arith, parted.1)) c.at-2.ensures
    c.loop-read.invariant.2 c.loop-read.invariant.1
