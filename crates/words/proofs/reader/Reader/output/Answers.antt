use Rattle.std.proofs.Common.{sym, ap, ◌∙◌, subst, subst₂, not, Some, arith}
use Rattle.std.proofs.lemmas.Bool.{le-ltb, lt-ltb, and_left, and_right, and_from, eq-eqb, ne_eqb, eqb-true}
use Rattle.words.specs.declared.faults.WordsQuestion.TheVariants as question
use Rattle.words.specs.declared.kinds.Kind.TheVariants as kind
use Rattle.words.specs.Fields.{field}
use Rattle.words.specs.Drafts.{drafted, output_read}
use Rattle.words.specs.Taking.{Failed, Passed}
use Rattle.words.proofs.Drafting.{none_from}
use Rattle.words.proofs.Kinded.{kind_as, clear_as}
use Rattle.words.proofs.Taking.{no_2, no_3}
use Rattle.words.proofs.Takes.{output_adds, Adds}
use Rattle.words.proofs.reader.Reader.output.Goals as goal
use Rattle.words.proofs.reader.Reader.output.Goals.{then-draft-via-then-draft, then-draft-via-else-draft+then-is_some, then-not-is_clear-via-then-not-is_clear, then-not-is_clear-via-else-not-is_clear+then-node-draft}

pub returns-then-draft : goal.returns-then-draft
returns-then-draft c =
    subst (λ p. Failed p c.args.word.word question.Kind) c.self.view_is
    (no_2 c.self.inside.draft c.self.invariant c.args.word.word (Some kind.Output) (kind_as c.args.word kind.Output c.requires)
    (elim c.then-draft.branch [
      | then-draft-via-then-draft w ↦ and_right _ _ (ne_eqb _ _ w.if-draft.true)
      | then-draft-via-else-draft+then-is_some w ↦ and_left _ _ (and_right _ _ (ap not (sym w.is_some.ensures ∙ w.if-is_some.true)))
    ]))

pub returns-then-not-is_clear : goal.returns-then-not-is_clear
returns-then-not-is_clear c =
    subst (λ p. Failed p c.args.word.word question.Range) c.self.view_is
    (no_3 c.self.inside.draft c.self.invariant c.args.word.word (Some kind.Output) (kind_as c.args.word kind.Output c.requires)
    (and_from _ _
    (and_from _ _ (lt-ltb 0 c.self.inside.draft.seen (omega (arith, c.self.invariant.ranges.some, c.if-draft.false))) (ap not (sym c.is_some.ensures ∙ c.if-is_some.false)))
    (eq-eqb _ _ c.if-draft.false))
    (elim c.then-not-is_clear.branch [
      | then-not-is_clear-via-then-not-is_clear w ↦ and_left _ _ (sym (clear_as c.args.word kind.Output c.requires c.is_clear.ensures) ∙ w.if-not-is_clear.true)
      | then-not-is_clear-via-else-not-is_clear+then-node-draft w ↦
          and_right _ _ (le-ltb (field 0 6 c.args.word.word) c.self.inside.draft.graph.count (omega (arith, c.field-node.ensures, w.if-node-draft.true)))
    ]))

-- what the word adds to the draft
adds : (c : goal.After-draft-3-1) → Adds c.self.inside.draft (output_read c.self.inside.draft (record { node = c.field-node.result; delay = c.field-delay.result })) c.args.word.word
adds c =
    subst₂ (λ i n. Adds c.self.inside.draft (output_read c.self.inside.draft (record { node = i; delay = n })) c.args.word.word) (sym c.field-node.ensures) (sym c.field-delay.ensures)
    (output_adds c.self.inside.draft c.self.invariant c.args.word.word (omega arith) (kind_as c.args.word kind.Output c.requires) c.if-draft.false
    (none_from c.self.inside.draft.output (sym c.is_some.ensures ∙ c.if-is_some.false))
    (eqb-true _ _ (sym (clear_as c.args.word kind.Output c.requires c.if-not-is_clear.ensures)))
    (omega (arith, c.field-node.ensures, c.if-node-draft.false)))

pub invariant_of-self-2 : goal.invariant_of-self-2
invariant_of-self-2 c = (adds c).0

pub returns : goal.returns
returns c =
    subst (λ p. Passed p c.args.word.word (drafted (output_read c.self.inside.draft (record { node = c.field-node.result; delay = c.field-delay.result })))) c.self.view_is (adds c).1
