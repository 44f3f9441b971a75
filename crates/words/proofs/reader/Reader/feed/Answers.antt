use Rattle.std.proofs.Common.{sym, ap, ◌∙◌, subst, subst₂, not, Some, arith}
use Rattle.std.proofs.lemmas.Bool.{le-ltb, lt-ltb, lt-leb, and_left, and_right, and_from, eqb-true}
use Rattle.words.specs.declared.faults.WordsQuestion.TheVariants as question
use Rattle.words.specs.declared.kinds.Kind.TheVariants as kind
use Rattle.words.specs.Fields.{field}
use Rattle.words.specs.Designs.{is_source}
use Rattle.words.specs.Drafts.{drafted, feed_read}
use Rattle.words.specs.Taking.{Failed, Passed}
use Rattle.words.proofs.Drafting.{none_from}
use Rattle.words.proofs.Kinded.{kind_as, clear_as}
use Rattle.words.proofs.Taking.{no_2, no_3, no_4}
use Rattle.words.proofs.Takes.{feed_adds, Adds}
use Rattle.words.proofs.reader.Reader.feed.Goals as goal
use Rattle.words.proofs.reader.Reader.feed.Goals.{then-draft-eq0-via-then-draft-eq0, then-draft-eq0-via-else-draft-eq0+then-is_some, then-not-is_clear-via-then-not-is_clear, then-not-is_clear-via-else-not-is_clear+then-not-has_source}

pub returns-then-draft-eq0 : goal.returns-then-draft-eq0
returns-then-draft-eq0 c =
    subst (λ p. Failed p c.args.word.word question.Kind) c.self.view_is
    (no_2 c.self.inside.draft c.self.invariant c.args.word.word (Some kind.Feed) (kind_as c.args.word kind.Feed c.requires)
    (elim c.then-draft-eq0.branch [
      | then-draft-eq0-via-then-draft-eq0 w ↦ and_left _ _ (le-ltb 0 c.self.inside.draft.seen (omega (arith, w.if-draft-eq0.true)))
      | then-draft-eq0-via-else-draft-eq0+then-is_some w ↦ and_right _ _ (ap not (sym w.is_some.ensures ∙ w.if-is_some.true))
    ]))

pub returns-then-not-is_clear : goal.returns-then-not-is_clear
returns-then-not-is_clear c =
    subst (λ p. Failed p c.args.word.word question.Range) c.self.view_is
    (no_3 c.self.inside.draft c.self.invariant c.args.word.word (Some kind.Feed) (kind_as c.args.word kind.Feed c.requires)
    (and_from _ _ (lt-ltb 0 c.self.inside.draft.seen (omega (arith, c.if-draft-eq0.false))) (ap not (sym c.is_some.ensures ∙ c.if-is_some.false)))
    (elim c.then-not-is_clear.branch [
      | then-not-is_clear-via-then-not-is_clear w ↦ and_left _ _ (sym (clear_as c.args.word kind.Feed c.requires c.is_clear.ensures) ∙ w.if-not-is_clear.true)
      | then-not-is_clear-via-else-not-is_clear+then-not-has_source w ↦
          and_right _ _ (ap (is_source c.self.inside.draft.graph.count) (sym c.field-source.ensures) ∙ sym w.has_source.ensures ∙ w.if-not-has_source.true)
    ]))

pub returns-then-source-draft : goal.returns-then-source-draft
returns-then-source-draft c =
    subst (λ p. Failed p c.args.word.word question.Order) c.self.view_is
    (no_4 c.self.inside.draft c.self.invariant c.args.word.word (Some kind.Feed) (kind_as c.args.word kind.Feed c.requires)
    (and_from _ _ (lt-ltb 0 c.self.inside.draft.seen (omega (arith, c.if-draft-eq0.false))) (ap not (sym c.is_some.ensures ∙ c.if-is_some.false)))
    (and_from _ _ (sym (clear_as c.args.word kind.Feed c.requires c.if-not-is_clear.ensures)) (ap (is_source c.self.inside.draft.graph.count) (sym c.field-source.ensures) ∙ sym c.if-not-has_source.ensures))
    (lt-leb c.self.inside.draft.least (field 0 6 c.args.word.word) (omega (arith, c.field-source.ensures, c.if-source-draft.true))))

-- what the word adds to the draft
adds : (c : goal.After-draft-2-1) → Adds c.self.inside.draft (feed_read c.self.inside.draft c.field-source.result c.field.result) c.args.word.word
adds c =
    subst₂ (λ j n. Adds c.self.inside.draft (feed_read c.self.inside.draft j n) c.args.word.word) (sym c.field-source.ensures) (sym c.field.ensures)
    (feed_adds c.self.inside.draft c.self.invariant c.args.word.word (omega arith) (kind_as c.args.word kind.Feed c.requires) (omega (arith, c.if-draft-eq0.false))
    (none_from c.self.inside.draft.output (sym c.is_some.ensures ∙ c.if-is_some.false))
    (eqb-true _ _ (sym (clear_as c.args.word kind.Feed c.requires c.if-not-is_clear.ensures)))
    (ap (is_source c.self.inside.draft.graph.count) (sym c.field-source.ensures) ∙ sym c.if-not-has_source.ensures)
    (omega (arith, c.field-source.ensures, c.if-source-draft.false)))

pub invariant_of-self-2 : goal.invariant_of-self-2
invariant_of-self-2 c = (adds c).0

pub returns : goal.returns
returns c = subst (λ p. Passed p c.args.word.word (drafted (feed_read c.self.inside.draft c.field-source.result c.field.result))) c.self.view_is (adds c).1
