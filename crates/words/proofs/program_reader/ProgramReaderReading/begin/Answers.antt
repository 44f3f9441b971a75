use Rattle.std.proofs.Common.{◌≡◌, ℕ, ◌<◌, ◌≤◌, ◌^◌, false, ◌&&◌, eqb, leb, [], sym, ap, ap₂, ◌∙◌, subst, Some, rules, arith}
use Rattle.std.proofs.lemmas.Bool.{and_left, and_right, lt-leb, eqb-true}
use Rattle.std.proofs.lemmas.Result.{err_from_is_err_and}
use denote.Enum.Bare.{differs_true, differs_false}
use Rattle.words.specs.contracts.kinds.ProgramKind.{the_type}
use Rattle.words.specs.declared.kinds.ProgramKind.TheVariants as kind
use Rattle.words.specs.declared.faults.WordsQuestion.TheVariants as question
use Rattle.words.specs.Fields.{field}
use Rattle.words.specs.ProgramKinds.{program_kind_of, is_array_end}
use Rattle.words.specs.Designs.{max_nodes}
use Rattle.words.specs.ProgramTables.{max_factor}
use Rattle.words.specs.ProgramDrafts.{program_drafted, ProgramSound, program_headed}
use Rattle.words.specs.ProgramTaking.{ProgramPassed, ProgramFailed}
use Rattle.words.proofs.Kinded.{kind_as, clear_as}
use Rattle.words.proofs.Putting.{ok_or_err}
use Rattle.words.proofs.ProgramRefusing.{first_2, first_3, array_passed, array_sound, unknown}
use Rattle.words.proofs.program_reader.ProgramReaderReading.begin.Goals as goal
use Rattle.words.proofs.program_reader.ProgramReaderReading.begin.Goals.{then-not-is_clear-via-then-not-is_clear, then-not-is_clear-via-else-not-is_clear+then-count-lt1, then-not-is_clear-via-else-not-is_clear+else-count-lt1+then-count-gt-MAX_NODES, then-not-is_clear-via-else-not-is_clear+else-count-lt1+else-count-gt-MAX_NODES+then-factor-lt1, then-not-is_clear-via-else-not-is_clear+else-count-lt1+else-count-gt-MAX_NODES+else-factor-lt1+then-factor-gt-MAX_FACTOR}

pub returns-in_err-word : goal.returns-in_err-word
returns-in_err-word c =
    let p = err_from_is_err_and c.from_residual.result c.from_residual.ensures.1 in
    let h = ok_or_err _ _ _ c.in_err-word.ensures in
    rw (p.1, p.2, h.1) (unknown [] c.args.word h.0)

pub returns-then-ne : goal.returns-then-ne
returns-then-ne c =
    let k : program_kind_of c.args.word ≡ Some c.in_ok-word.word.kind = ap program_kind_of (sym c.in_ok-word.ensures) ∙ c.in_ok-word.word.kinded in
    first_2 c.args.word (λ (e : program_kind_of c.args.word ≡ Some kind.Head).
    let same : c.in_ok-word.word.kind ≡ kind.Head = let both = sym k ∙ e in cc in
    differs_true the_type _ _ (sym c.if-ne.ensures) same)

pub returns-then-not-is_clear : goal.returns-then-not-is_clear
returns-then-not-is_clear c = subst (λ w. ProgramFailed [] w question.Range) c.in_ok-word.ensures (
    let w : ℕ = c.in_ok-word.word.word in
    let n : ℕ = field 0 6 w in
    let f : ℕ = field 6 7 w in
    let head : c.in_ok-word.word.kind ≡ kind.Head = differs_false the_type (search rules) _ _ (sym c.if-ne.ensures) in
    first_3 w (kind_as c.in_ok-word.word kind.Head head)
    (elim c.then-not-is_clear.branch [
      | then-not-is_clear-via-then-not-is_clear b ↦ and_left _ _ (sym (clear_as c.in_ok-word.word kind.Head head c.is_clear.ensures) ∙ b.if-not-is_clear.true)
      | then-not-is_clear-via-else-not-is_clear+then-count-lt1 b ↦
          and_right (eqb (field 13 15 w) 0) ((leb 1 n && leb n max_nodes) && (leb 1 f && leb f max_factor))
          (and_left (leb 1 n && leb n max_nodes) (leb 1 f && leb f max_factor) (and_left (leb 1 n) (leb n max_nodes) (lt-leb 1 n (omega (arith, c.field-count.ensures, b.if-count-lt1.true)))))
      | then-not-is_clear-via-else-not-is_clear+else-count-lt1+then-count-gt-MAX_NODES b ↦
          and_right (eqb (field 13 15 w) 0) ((leb 1 n && leb n max_nodes) && (leb 1 f && leb f max_factor))
          (and_left (leb 1 n && leb n max_nodes) (leb 1 f && leb f max_factor) (and_right (leb 1 n) (leb n max_nodes) (lt-leb n max_nodes (omega (arith, c.field-count.ensures, b.if-count-gt-MAX_NODES.true)))))
      | then-not-is_clear-via-else-not-is_clear+else-count-lt1+else-count-gt-MAX_NODES+then-factor-lt1 b ↦
          and_right (eqb (field 13 15 w) 0) ((leb 1 n && leb n max_nodes) && (leb 1 f && leb f max_factor))
          (and_right (leb 1 n && leb n max_nodes) (leb 1 f && leb f max_factor) (and_left (leb 1 f) (leb f max_factor) (lt-leb 1 f (omega (arith, c.field-factor.ensures, b.if-factor-lt1.true)))))
      | then-not-is_clear-via-else-not-is_clear+else-count-lt1+else-count-gt-MAX_NODES+else-factor-lt1+then-factor-gt-MAX_FACTOR b ↦
          and_right (eqb (field 13 15 w) 0) ((leb 1 n && leb n max_nodes) && (leb 1 f && leb f max_factor))
          (and_right (leb 1 n && leb n max_nodes) (leb 1 f && leb f max_factor) (and_right (leb 1 f) (leb f max_factor) (lt-leb f max_factor (omega (arith, c.field-factor.ensures, b.if-factor-gt-MAX_FACTOR.true)))))
    ]))

-- what the head makes
module _ (c : goal.After-headed) where
  made : c.headed.result ≡ program_headed (field 0 6 c.in_ok-word.word.word) (field 6 7 c.in_ok-word.word.word)
  made = c.headed.ensures ∙ ap₂ program_headed c.field-count.ensures c.field-factor.ensures

  head : c.in_ok-word.word.kind ≡ kind.Head
  head = differs_false the_type (search rules) _ _ (sym c.if-ne.ensures)

  clear : field 13 15 c.in_ok-word.word.word ≡ 0
  clear = eqb-true _ _ (sym (clear_as c.in_ok-word.word kind.Head head c.if-not-is_clear.ensures))

  some : 1 ≤ field 0 6 c.in_ok-word.word.word
  some = omega (arith, c.field-count.ensures, c.if-count-lt1.false)

  few : field 0 6 c.in_ok-word.word.word ≤ max_nodes
  few = omega (arith, c.field-count.ensures, c.if-count-gt-MAX_NODES.false)

  slowed : 1 ≤ field 6 7 c.in_ok-word.word.word
  slowed = omega (arith, c.field-factor.ensures, c.if-factor-lt1.false)

  slow : field 6 7 c.in_ok-word.word.word ≤ max_factor
  slow = omega (arith, c.field-factor.ensures, c.if-factor-gt-MAX_FACTOR.false)

  fits : c.in_ok-word.word.word < 2 ^ 32
  fits = omega (arith, c.in_ok-word.ensures)

pub invariant_of-result : goal.invariant_of-result
invariant_of-result c =
    subst ProgramSound (sym (made c)) (array_sound c.in_ok-word.word.word (fits c) (kind_as c.in_ok-word.word kind.Head (head c)) (clear c) (some c) (few c) (slowed c) (slow c))

pub returns : goal.returns
returns c =
    let k = kind_as c.in_ok-word.word kind.Head (head c) in
    subst (λ w. (is_array_end (program_kind_of w) ≡ false) × ProgramPassed [] w (program_drafted c.headed.result)) c.in_ok-word.ensures
    (ap is_array_end k, subst (λ d. ProgramPassed [] c.in_ok-word.word.word (program_drafted d)) (sym (made c)) (array_passed c.in_ok-word.word.word (fits c) k (clear c) (some c) (few c) (slowed c) (slow c)))
