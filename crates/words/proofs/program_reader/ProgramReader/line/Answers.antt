use Rattle.std.proofs.Common.{sym, ap, ◌∙◌, subst, [], ◌∷◌, ◌++◌, Some, arith}
use Rattle.std.proofs.lemmas.Bool.{le-ltb, lt-ltb, and_left, and_right, and_from, ne_eqb, eqb-true}
use Rattle.words.specs.declared.faults.WordsQuestion.TheVariants as question
use Rattle.words.specs.declared.kinds.ProgramKind.TheVariants as kind
use Rattle.words.specs.Designs.{is_source}
use Rattle.words.specs.ProgramDrafts.{program_drafted, with_lines}
use Rattle.words.specs.ProgramTaking.{ProgramFailed, ProgramPassed}
use Rattle.words.proofs.Kinded.{kind_as, clear_as}
use Rattle.words.proofs.ProgramTaking.{no_2, no_3, no_4}
use Rattle.words.proofs.ProgramTakes.{line_adds, Adds}
use Rattle.words.proofs.program_reader.ProgramReader.line.Goals as goal
use Rattle.words.proofs.program_reader.ProgramReader.line.Goals.{then-not-is_clear-via-then-not-is_clear, then-not-is_clear-via-else-not-is_clear+then-not-has_source}

pub returns-then-len-table : goal.returns-then-len-table
returns-then-len-table c =
    subst (λ p. ProgramFailed p c.args.word.word question.Kind) c.self.view_is
    (no_2 c.self.inside.draft c.self.invariant c.args.word.word (Some kind.Line) (kind_as c.args.word kind.Line c.requires) (le-ltb _ _ (omega (arith, c.len.ensures.value, c.if-len-table.true))))

pub returns-then-not-is_clear : goal.returns-then-not-is_clear
returns-then-not-is_clear c =
    subst (λ p. ProgramFailed p c.args.word.word question.Range) c.self.view_is
    (no_3 c.self.inside.draft c.self.invariant c.args.word.word (Some kind.Line) (kind_as c.args.word kind.Line c.requires) (lt-ltb _ _ (omega (arith, c.len.ensures.value, c.if-len-table.false)))
    (elim c.then-not-is_clear.branch [
      | then-not-is_clear-via-then-not-is_clear w ↦ and_left _ _ (sym (clear_as c.args.word kind.Line c.requires c.is_clear.ensures) ∙ w.if-not-is_clear.true)
      | then-not-is_clear-via-else-not-is_clear+then-not-has_source w ↦
          and_right _ _ (ap (is_source c.self.inside.draft.table.count) (sym c.field-source.ensures) ∙ sym w.has_source.ensures ∙ w.if-not-has_source.true)
    ]))

pub returns-then-source-next_line : goal.returns-then-source-next_line
returns-then-source-next_line c =
    subst (λ p. ProgramFailed p c.args.word.word question.Order) c.self.view_is
    (no_4 c.self.inside.draft c.self.invariant c.args.word.word (Some kind.Line) (kind_as c.args.word kind.Line c.requires) (lt-ltb _ _ (omega (arith, c.len.ensures.value, c.if-len-table.false)))
    (and_from _ _ (sym (clear_as c.args.word kind.Line c.requires c.if-not-is_clear.ensures)) (ap (is_source c.self.inside.draft.table.count) (sym c.field-source.ensures) ∙ sym c.if-not-has_source.ensures))
    (ne_eqb _ _ (λ q. c.if-source-next_line.true (c.field-source.ensures ∙ q ∙ sym c.next_line.ensures))))

-- what the word adds to the draft
adds : (c : goal.After-push) → Adds c.self.inside.draft (with_lines c.self.inside.draft c.push.new.self) c.args.word.word
adds c =
    line_adds c.self.inside.draft c.self.invariant c.args.word.word (omega arith) (kind_as c.args.word kind.Line c.requires) (omega (arith, c.len.ensures.value, c.if-len-table.false))
    (eqb-true _ _ (sym (clear_as c.args.word kind.Line c.requires c.if-not-is_clear.ensures))) (sym c.field-source.ensures ∙ c.if-source-next_line.false ∙ c.next_line.ensures) c.push.new.self
    (c.push.ensures.items ∙ ap (λ l. c.self.inside.draft.table.lines.items ++ l ∷ []) c.field.ensures)

pub invariant_of-self-2 : goal.invariant_of-self-2
invariant_of-self-2 c = (adds c).0

pub returns : goal.returns
returns c = subst (λ p. ProgramPassed p c.args.word.word (program_drafted (with_lines c.self.inside.draft c.push.new.self))) c.self.view_is (adds c).1
