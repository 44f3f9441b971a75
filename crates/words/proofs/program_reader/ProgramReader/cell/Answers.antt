use Rattle.std.proofs.Common.{◌+◌, sym, ap, ◌∙◌, subst, not, eqb, length, Some, arith}
use Rattle.std.proofs.lemmas.Bool.{le-ltb, lt-ltb, and_left, and_right, and_from, eq-eqb, ne_eqb, eqb-true}
use Rattle.std.specs.Set.{is_member}
use Rattle.words.specs.declared.faults.WordsQuestion.TheVariants as question
use Rattle.words.specs.declared.kinds.ProgramKind.TheVariants as kind
use Rattle.words.specs.Fields.{field}
use Rattle.words.specs.ProgramDrafts.{program_drafted, with_cells, nodes_of}
use Rattle.words.specs.ProgramTaking.{ProgramFailed, ProgramPassed}
use Rattle.words.proofs.Kinded.{kind_as, clear_as}
use Rattle.words.proofs.ProgramTaking.{no_2, no_3, no_4}
use Rattle.words.proofs.ProgramTakes.{cell_adds, Adds}
use Rattle.words.proofs.program_reader.ProgramReader.cell.Goals as goal
use Rattle.words.proofs.program_reader.ProgramReader.cell.Goals.{then-len-draft-via-then-len-draft, then-len-draft-via-else-len-draft+then-len-draft-2, then-not-is_clear-via-then-not-is_clear, then-not-is_clear-via-else-not-is_clear+then-node-draft}

pub returns-then-len-draft : goal.returns-then-len-draft
returns-then-len-draft c =
    subst (λ p. ProgramFailed p c.args.word.word question.Kind) c.self.view_is
    (no_2 c.self.inside.draft c.self.invariant c.args.word.word (Some kind.Cell) (kind_as c.args.word kind.Cell c.requires)
    (elim c.then-len-draft.branch [
      | then-len-draft-via-then-len-draft w ↦ and_left _ _ (ne_eqb (length c.self.inside.draft.table.lines.items) (c.self.inside.draft.table.count + 1) (λ e. w.if-len-draft.true (c.len.ensures.value ∙ e)))
      | then-len-draft-via-else-len-draft+then-len-draft-2 w ↦ and_right _ _ (le-ltb (length c.self.inside.draft.table.cells.items) c.self.inside.draft.table.count (omega (arith, w.len-else-len-draft.ensures.value, w.if-len-draft-2.true)))
    ]))

pub returns-then-not-is_clear : goal.returns-then-not-is_clear
returns-then-not-is_clear c =
    subst (λ p. ProgramFailed p c.args.word.word question.Range) c.self.view_is
    (no_3 c.self.inside.draft c.self.invariant c.args.word.word (Some kind.Cell) (kind_as c.args.word kind.Cell c.requires)
    (and_from _ _ (eq-eqb _ _ (sym c.len.ensures.value ∙ c.if-len-draft.false)) (lt-ltb _ _ (omega (arith, c.len-else-len-draft.ensures.value, c.if-len-draft-2.false))))
    (elim c.then-not-is_clear.branch [
      | then-not-is_clear-via-then-not-is_clear w ↦ and_left _ _ (sym (clear_as c.args.word kind.Cell c.requires c.is_clear.ensures) ∙ w.if-not-is_clear.true)
      | then-not-is_clear-via-else-not-is_clear+then-node-draft w ↦
          and_right _ _ (le-ltb (field 0 5 c.args.word.word) c.self.inside.draft.table.count (omega (arith, c.field-node.ensures, w.if-node-draft.true)))
    ]))

pub returns-then-has_cell : goal.returns-then-has_cell
returns-then-has_cell c =
    subst (λ p. ProgramFailed p c.args.word.word question.Order) c.self.view_is
    (no_4 c.self.inside.draft c.self.invariant c.args.word.word (Some kind.Cell) (kind_as c.args.word kind.Cell c.requires)
    (and_from _ _ (eq-eqb _ _ (sym c.len.ensures.value ∙ c.if-len-draft.false)) (lt-ltb _ _ (omega (arith, c.len-else-len-draft.ensures.value, c.if-len-draft-2.false))))
    (and_from _ _ (sym (clear_as c.args.word kind.Cell c.requires c.if-not-is_clear.ensures)) (lt-ltb (field 0 5 c.args.word.word) c.self.inside.draft.table.count (omega (arith, c.field-node.ensures, c.if-node-draft.false))))
    (ap not (ap (is_member eqb (nodes_of c.self.inside.draft.table.cells.items)) (sym c.field-node.ensures) ∙ sym c.if-has_cell.ensures)))

-- what the word adds to the draft
adds : (c : goal.After-draft-2-1) → Adds c.self.inside.draft (with_cells c.self.inside.draft c.push.new.self 0) c.args.word.word
adds c =
    cell_adds c.self.inside.draft c.self.invariant c.args.word.word (omega arith) (kind_as c.args.word kind.Cell c.requires) (sym c.len.ensures.value ∙ c.if-len-draft.false)
    (omega (arith, c.len-else-len-draft.ensures.value, c.if-len-draft-2.false)) (eqb-true _ _ (sym (clear_as c.args.word kind.Cell c.requires c.if-not-is_clear.ensures)))
    (omega (arith, c.field-node.ensures, c.if-node-draft.false))
    (ap (is_member eqb (nodes_of c.self.inside.draft.table.cells.items)) (sym c.field-node.ensures) ∙ sym c.if-has_cell.ensures) c.push.new.self
    (record { node = c.field-node.result; operation = c.field.result; lag = c.field-2.result; taps = c.new.result }) c.push.ensures.items c.field-node.ensures c.field.ensures c.field-2.ensures
    c.new.ensures

pub invariant_of-self-2 : goal.invariant_of-self-2
invariant_of-self-2 c = (adds c).0

pub returns : goal.returns
returns c = subst (λ p. ProgramPassed p c.args.word.word (program_drafted (with_cells c.self.inside.draft c.push.new.self 0))) c.self.view_is (adds c).1
