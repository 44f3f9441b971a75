use Rattle.std.proofs.Common.{sym, ap, ◌∙◌, subst, not, length, Some, arith}
use Rattle.std.proofs.lemmas.Bool.{le-ltb, lt-ltb, and_left, and_right, and_from, eq-eqb, ne_eqb, eqb-true}
use Rattle.words.specs.declared.faults.WordsQuestion.TheVariants as question
use Rattle.words.specs.declared.kinds.ProgramKind.TheVariants as kind
use Rattle.words.specs.Fields.{field}
use Rattle.words.specs.ProgramDrafts.{program_drafted, with_output}
use Rattle.words.specs.ProgramTaking.{ProgramFailed, ProgramPassed}
use Rattle.words.proofs.Kinded.{kind_as, clear_as}
use Rattle.words.proofs.ProgramTaking.{no_2, no_3}
use Rattle.words.proofs.ProgramTakes.{output_adds, Adds}
use Rattle.words.proofs.program_reader.ProgramReader.output.Goals as goal
use Rattle.words.proofs.program_reader.ProgramReader.output.Goals.{then-len-draft-via-then-len-draft, then-len-draft-via-else-len-draft+then-draft, then-not-is_clear-via-then-not-is_clear, then-not-is_clear-via-else-not-is_clear+then-node-draft}

pub returns-then-len-draft : goal.returns-then-len-draft
returns-then-len-draft c =
    subst (λ p. ProgramFailed p c.args.word.word question.Kind) c.self.view_is
    (no_2 c.self.inside.draft c.self.invariant c.args.word.word (Some kind.Output) (kind_as c.args.word kind.Output c.requires)
    (elim c.then-len-draft.branch [
      | then-len-draft-via-then-len-draft w ↦ and_right _ _ (ne_eqb _ _ (λ e. w.if-len-draft.true (c.len.ensures.value ∙ e)))
      | then-len-draft-via-else-len-draft+then-draft w ↦ and_left _ _ (and_right _ _ (ap not w.if-draft.true))
    ]))

pub returns-then-not-is_clear : goal.returns-then-not-is_clear
returns-then-not-is_clear c =
    subst (λ p. ProgramFailed p c.args.word.word question.Range) c.self.view_is
    (no_3 c.self.inside.draft c.self.invariant c.args.word.word (Some kind.Output) (kind_as c.args.word kind.Output c.requires)
    (and_from _ _
    (and_from _ _ (lt-ltb 0 (length c.self.inside.draft.table.cells.items) (omega (arith, c.self.invariant.some, c.len.ensures.value, c.if-len-draft.false))) (ap not c.if-draft.false))
    (eq-eqb _ _ (sym c.len.ensures.value ∙ c.if-len-draft.false)))
    (elim c.then-not-is_clear.branch [
      | then-not-is_clear-via-then-not-is_clear w ↦ and_left _ _ (sym (clear_as c.args.word kind.Output c.requires c.is_clear.ensures) ∙ w.if-not-is_clear.true)
      | then-not-is_clear-via-else-not-is_clear+then-node-draft w ↦
          and_right _ _ (le-ltb (field 0 6 c.args.word.word) c.self.inside.draft.table.count (omega (arith, c.field-node.ensures, w.if-node-draft.true)))
    ]))

-- what the word adds to the draft
adds : (c : goal.After-draft-4-1) → Adds c.self.inside.draft (with_output c.self.inside.draft (record { source = c.field-node.result; delay = c.field.result })) c.args.word.word
adds c =
    output_adds c.self.inside.draft c.self.invariant c.args.word.word (omega arith) (kind_as c.args.word kind.Output c.requires) (sym c.len.ensures.value ∙ c.if-len-draft.false) c.if-draft.false
    (eqb-true _ _ (sym (clear_as c.args.word kind.Output c.requires c.if-not-is_clear.ensures))) (omega (arith, c.field-node.ensures, c.if-node-draft.false))
    (record { source = c.field-node.result; delay = c.field.result }) c.field-node.ensures c.field.ensures

pub invariant_of-self-2 : goal.invariant_of-self-2
invariant_of-self-2 c = (adds c).0

pub returns : goal.returns
returns c =
    subst (λ p. ProgramPassed p c.args.word.word (program_drafted (with_output c.self.inside.draft (record { source = c.field-node.result; delay = c.field.result })))) c.self.view_is (adds c).1
