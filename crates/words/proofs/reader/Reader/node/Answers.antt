use Rattle.std.proofs.Common.{sym, ◌∙◌, subst, Some, arith}
use Rattle.std.proofs.lemmas.Bool.{le-ltb, lt-ltb, and_left, and_right, and_from, ne_eqb, eqb-true}
use Rattle.words.specs.declared.faults.WordsQuestion.TheVariants as question
use Rattle.words.specs.declared.kinds.Kind.TheVariants as kind
use Rattle.words.specs.Fields.{field}
use Rattle.words.specs.Drafts.{drafted, node_read}
use Rattle.words.specs.Taking.{Failed, Passed}
use Rattle.words.proofs.Kinded.{kind_as, clear_as}
use Rattle.words.proofs.Taking.{no_2, no_3, no_4}
use Rattle.words.proofs.Takes.{node_adds, Adds}
use Rattle.words.proofs.reader.Reader.node.Goals as goal
use Rattle.words.proofs.reader.Reader.node.Goals.{then-not-is_clear-via-then-not-is_clear, then-not-is_clear-via-else-not-is_clear+then-number-draft}

pub returns-then-draft : goal.returns-then-draft
returns-then-draft c =
    subst (λ p. Failed p c.args.word.word question.Kind) c.self.view_is (no_2 c.self.inside.draft c.self.invariant c.args.word.word (Some kind.Node) (kind_as c.args.word kind.Node c.requires) (le-ltb _ _ c.if-draft.true))

pub returns-then-not-is_clear : goal.returns-then-not-is_clear
returns-then-not-is_clear c =
    subst (λ p. Failed p c.args.word.word question.Range) c.self.view_is
    (no_3 c.self.inside.draft c.self.invariant c.args.word.word (Some kind.Node) (kind_as c.args.word kind.Node c.requires) (lt-ltb _ _ c.if-draft.false)
    (elim c.then-not-is_clear.branch [
      | then-not-is_clear-via-then-not-is_clear w ↦ and_left _ _ (sym (clear_as c.args.word kind.Node c.requires c.is_clear.ensures) ∙ w.if-not-is_clear.true)
      | then-not-is_clear-via-else-not-is_clear+then-number-draft w ↦
          and_right _ _ (le-ltb (field 0 5 c.args.word.word) c.self.inside.draft.graph.count (omega (arith, c.field-number.ensures, w.if-number-draft.true)))
    ]))

pub returns-then-number-draft-2 : goal.returns-then-number-draft-2
returns-then-number-draft-2 c =
    subst (λ p. Failed p c.args.word.word question.Order) c.self.view_is
    (no_4 c.self.inside.draft c.self.invariant c.args.word.word (Some kind.Node) (kind_as c.args.word kind.Node c.requires) (lt-ltb _ _ c.if-draft.false)
    (and_from _ _ (sym (clear_as c.args.word kind.Node c.requires c.if-not-is_clear.ensures)) (lt-ltb (field 0 5 c.args.word.word) c.self.inside.draft.graph.count (omega (arith, c.field-number.ensures))))
    (ne_eqb _ _ (λ q. c.if-number-draft-2.true (c.field-number.ensures ∙ q))))

-- what the word adds to the draft
adds : (c : goal.After-draft-4-1) → Adds c.self.inside.draft (node_read c.self.inside.draft c.field.result) c.args.word.word
adds c =
    subst (λ n. Adds c.self.inside.draft (node_read c.self.inside.draft n) c.args.word.word) (sym c.field.ensures)
    (node_adds c.self.inside.draft c.self.invariant c.args.word.word (omega arith) (kind_as c.args.word kind.Node c.requires) c.if-draft.false (eqb-true _ _ (sym (clear_as c.args.word kind.Node c.requires c.if-not-is_clear.ensures)))
    (sym c.field-number.ensures ∙ c.if-number-draft-2.false))

pub invariant_of-self-2 : goal.invariant_of-self-2
invariant_of-self-2 c = (adds c).0

pub returns : goal.returns
returns c = subst (λ p. Passed p c.args.word.word (drafted (node_read c.self.inside.draft c.field.result))) c.self.view_is (adds c).1
