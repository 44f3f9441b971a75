use Rattle.std.proofs.Common.{◌≡◌, ℕ, ◌<◌, ◌≤◌, ◌^◌, false, ◌&&◌, eqb, leb, [], sym, ap, ◌∙◌, subst, Some, rules, arith}
use Rattle.std.proofs.lemmas.Bool.{and_left, and_right, lt-leb, eqb-true}
use Rattle.std.proofs.lemmas.Result.{err_from_is_err_and}
use denote.Enum.Bare.{differs_true, differs_false}
use Rattle.words.specs.contracts.kinds.Kind.{the_type}
use Rattle.words.specs.declared.kinds.Kind.TheVariants as kind
use Rattle.words.specs.declared.faults.WordsQuestion.TheVariants as question
use Rattle.words.specs.Fields.{field}
use Rattle.words.specs.Kinds.{kind_of, is_end}
use Rattle.words.specs.Designs.{max_nodes}
use Rattle.words.specs.Drafts.{drafted, Sound, headed}
use Rattle.words.specs.Taking.{Passed, Failed}
use Rattle.words.proofs.Kinded.{kind_as, clear_as}
use Rattle.words.proofs.Putting.{ok_or_err}
use Rattle.words.proofs.Refusing.{first_2, first_3, head_passed, head_sound, unknown}
use Rattle.words.proofs.reader.ReaderReading.begin.Goals as goal
use Rattle.words.proofs.reader.ReaderReading.begin.Goals.{then-not-is_clear-via-then-not-is_clear, then-not-is_clear-via-else-not-is_clear+then-count-lt1, then-not-is_clear-via-else-not-is_clear+else-count-lt1+then-count-gt-MAX_NODES}

pub returns-in_err-word : goal.returns-in_err-word
returns-in_err-word c =
    let p = err_from_is_err_and c.from_residual.result c.from_residual.ensures.1 in
    let h = ok_or_err _ _ _ c.in_err-word.ensures in
    rw (p.1, p.2, h.1) (unknown [] c.args.word h.0)

pub returns-then-ne : goal.returns-then-ne
returns-then-ne c =
    let k : kind_of c.args.word ≡ Some c.in_ok-word.word.kind = ap kind_of (sym c.in_ok-word.ensures) ∙ c.in_ok-word.word.kinded in
    λ after. first_2 c.args.word after (λ (e : kind_of c.args.word ≡ Some kind.Head).
    let same : c.in_ok-word.word.kind ≡ kind.Head = let both = sym k ∙ e in cc in
    differs_true the_type _ _ (sym c.if-ne.ensures) same)

pub returns-then-not-is_clear : goal.returns-then-not-is_clear
returns-then-not-is_clear c = subst (λ w. Failed [] w question.Range) c.in_ok-word.ensures (λ after.
    let w : ℕ = c.in_ok-word.word.word in
    let n : ℕ = field 0 6 w in
    let head : c.in_ok-word.word.kind ≡ kind.Head = differs_false the_type (search rules) _ _ (sym c.if-ne.ensures) in
    first_3 w after (kind_as c.in_ok-word.word kind.Head head)
    (elim c.then-not-is_clear.branch [
      | then-not-is_clear-via-then-not-is_clear b ↦ and_left _ _ (sym (clear_as c.in_ok-word.word kind.Head head c.is_clear.ensures) ∙ b.if-not-is_clear.true)
      | then-not-is_clear-via-else-not-is_clear+then-count-lt1 b ↦
          and_right (eqb (field 6 22 w) 0) (leb 1 n && leb n max_nodes) (and_left _ _ (lt-leb 1 n (omega (arith, c.field-count.ensures, b.if-count-lt1.true))))
      | then-not-is_clear-via-else-not-is_clear+else-count-lt1+then-count-gt-MAX_NODES b ↦
          and_right (eqb (field 6 22 w) 0) (leb 1 n && leb n max_nodes)
          (and_right (leb 1 n) (leb n max_nodes) (lt-leb n max_nodes (omega (arith, c.field-count.ensures, b.if-count-gt-MAX_NODES.true))))
    ]))

-- what the head makes
module _ (c : goal.After-headed) where
  made : c.headed.result ≡ headed (field 0 6 c.in_ok-word.word.word)
  made = c.headed.ensures ∙ ap headed c.field-count.ensures

  head : c.in_ok-word.word.kind ≡ kind.Head
  head = differs_false the_type (search rules) _ _ (sym c.if-ne.ensures)

  clear : field 6 22 c.in_ok-word.word.word ≡ 0
  clear = eqb-true _ _ (sym (clear_as c.in_ok-word.word kind.Head head c.if-not-is_clear.ensures))

  some : 1 ≤ field 0 6 c.in_ok-word.word.word
  some = omega (arith, c.field-count.ensures, c.if-count-lt1.false)

  few : field 0 6 c.in_ok-word.word.word ≤ max_nodes
  few = omega (arith, c.field-count.ensures, c.if-count-gt-MAX_NODES.false)

  fits : c.in_ok-word.word.word < 2 ^ 32
  fits = omega (arith, c.in_ok-word.ensures)

pub invariant_of-result : goal.invariant_of-result
invariant_of-result c = subst Sound (sym (made c)) (head_sound c.in_ok-word.word.word (fits c) (kind_as c.in_ok-word.word kind.Head (head c)) (clear c) (some c) (few c))

pub returns : goal.returns
returns c =
    let k = kind_as c.in_ok-word.word kind.Head (head c) in
    subst (λ w. (is_end (kind_of w) ≡ false) × Passed [] w (drafted c.headed.result)) c.in_ok-word.ensures
    (ap is_end k, subst (λ d. Passed [] c.in_ok-word.word.word (drafted d)) (sym (made c)) (head_passed c.in_ok-word.word.word (fits c) k (clear c) (some c) (few c)))
