use Rattle.std.proofs.Common.{◌+◌, ◌-◌, ◌<◌, sym, ap, ◌∙◌, subst, not, length, get_or, set, refl, Some, arith}
use Rattle.std.proofs.lemmas.Bool.{le-ltb, lt-ltb, lt-leb, and_left, and_right, and_from, eqb-true}
use Rattle.words.specs.declared.faults.WordsQuestion.TheVariants as question
use Rattle.words.specs.declared.kinds.ProgramKind.TheVariants as kind
use Rattle.words.specs.declared.program_table.Cell.{Cell}
use Rattle.words.specs.declared.program_draft.ProgramDraft.{ProgramDraft}
use Rattle.arrayvec.specs.ArrayVec.{with_items}
use Rattle.words.specs.Fields.{field}
use Rattle.words.specs.Designs.{is_source}
use Rattle.words.specs.ProgramDrafts.{program_drafted, with_cells}
use Rattle.words.specs.ProgramTaking.{ProgramFailed, ProgramPassed}
use Rattle.words.proofs.Kinded.{kind_as, clear_as}
use Rattle.words.proofs.ProgramTaking.{some_from, no_2, no_3, no_4}
use Rattle.words.proofs.ProgramTakes.{tap_adds, tap_room, Adds}
use Rattle.words.proofs.program_reader.ProgramReader.tap.Goals as goal
use Rattle.words.proofs.program_reader.ProgramReader.tap.Goals.{then-is_empty-via-then-is_empty, then-is_empty-via-else-is_empty+then-draft, then-not-is_clear-via-then-not-is_clear, then-not-is_clear-via-else-not-is_clear+then-not-has_source}

pub returns-then-is_empty : goal.returns-then-is_empty
returns-then-is_empty c =
    subst (λ p. ProgramFailed p c.args.word.word question.Kind) c.self.view_is
    (no_2 c.self.inside.draft c.self.invariant c.args.word.word (Some kind.Tap) (kind_as c.args.word kind.Tap c.requires)
    (elim c.then-is_empty.branch [
      | then-is_empty-via-then-is_empty w ↦
          and_left _ _ (le-ltb 0 (length c.self.inside.draft.table.cells.items) (omega (arith, eqb-true (length c.self.inside.draft.table.cells.items) 0 (sym c.is_empty.ensures ∙ w.if-is_empty.true))))
      | then-is_empty-via-else-is_empty+then-draft w ↦ and_right _ _ (ap not w.if-draft.true)
    ]))

pub returns-then-not-is_clear : goal.returns-then-not-is_clear
returns-then-not-is_clear c =
    let some : 0 < length c.self.inside.draft.table.cells.items = some_from _ (sym c.is_empty.ensures ∙ c.if-is_empty.false) in
    subst (λ p. ProgramFailed p c.args.word.word question.Range) c.self.view_is
    (no_3 c.self.inside.draft c.self.invariant c.args.word.word (Some kind.Tap) (kind_as c.args.word kind.Tap c.requires)
    (and_from _ _ (lt-ltb _ _ some) (ap not c.if-draft.false))
    (elim c.then-not-is_clear.branch [
      | then-not-is_clear-via-then-not-is_clear w ↦ and_left _ _ (sym (clear_as c.args.word kind.Tap c.requires c.is_clear.ensures) ∙ w.if-not-is_clear.true)
      | then-not-is_clear-via-else-not-is_clear+then-not-has_source w ↦
          and_right _ _ (ap (is_source c.self.inside.draft.table.count) (sym c.field-source.ensures) ∙ sym w.has_source.ensures ∙ w.if-not-has_source.true)
    ]))

pub returns-then-source-draft : goal.returns-then-source-draft
returns-then-source-draft c =
    let some : 0 < length c.self.inside.draft.table.cells.items = some_from _ (sym c.is_empty.ensures ∙ c.if-is_empty.false) in
    subst (λ p. ProgramFailed p c.args.word.word question.Order) c.self.view_is
    (no_4 c.self.inside.draft c.self.invariant c.args.word.word (Some kind.Tap) (kind_as c.args.word kind.Tap c.requires)
    (and_from _ _ (lt-ltb _ _ some) (ap not c.if-draft.false))
    (and_from _ _ (sym (clear_as c.args.word kind.Tap c.requires c.if-not-is_clear.ensures)) (ap (is_source c.self.inside.draft.table.count) (sym c.field-source.ensures) ∙ sym c.if-not-has_source.ensures))
    (lt-leb c.self.inside.draft.least (field 0 6 c.args.word.word) (omega (arith, c.field-source.ensures, c.if-source-draft.true))))

pub push-requires : goal.push-requires
push-requires c =
    let some : 0 < length c.self.inside.draft.table.cells.items = some_from _ (sym c.is_empty.ensures ∙ c.if-is_empty.false) in (
      omega arith,
      tap_room c.self.inside.draft c.self.invariant some c.if-draft.false c.field-source.result (sym c.if-not-has_source.ensures)
          (omega (arith, c.if-source-draft.false)) c.deref_mut.result.now c.deref_mut.ensures.value (c.len-last.result - 1) (omega (arith, c.len-last.ensures.value)) c.index-deref_mut-last.result,
    )

-- what the word adds to the draft
module _ (c : goal.After-draft-3-1) where
  new : Cell
  new =
      record {
        node = (get_or c.deref_mut.result.now (c.len-last.result - 1) c.index-deref_mut-last.result).node;
        operation = (get_or c.deref_mut.result.now (c.len-last.result - 1) c.index-deref_mut-last.result).operation;
        lag = (get_or c.deref_mut.result.now (c.len-last.result - 1) c.index-deref_mut-last.result).lag;
        taps = c.push.new.self;
      }

  after : ProgramDraft
  unfolding new
  after = with_cells c.self.inside.draft (with_items c.self.inside.draft.table.cells (set c.deref_mut.result.now (c.len-last.result - 1) new)) (c.field-source.result + 1)

  adds : Adds c.self.inside.draft after c.args.word.word
  unfolding new after
  adds =
      let some : 0 < length c.self.inside.draft.table.cells.items = some_from _ (sym c.is_empty.ensures ∙ c.if-is_empty.false) in
      tap_adds c.self.inside.draft c.self.invariant c.args.word.word (omega arith) (kind_as c.args.word kind.Tap c.requires) some c.if-draft.false
      (eqb-true _ _ (sym (clear_as c.args.word kind.Tap c.requires c.if-not-is_clear.ensures)))
      (ap (is_source c.self.inside.draft.table.count) (sym c.field-source.ensures) ∙ sym c.if-not-has_source.ensures)
      (omega (arith, c.field-source.ensures, c.if-source-draft.false))
      (record { source = c.field-source.result; delay = c.field.result }) c.field-source.ensures c.field.ensures c.deref_mut.result.now c.deref_mut.ensures.value (c.len-last.result - 1)
      (omega (arith, c.len-last.ensures.value)) c.index-deref_mut-last.result new refl refl refl c.push.ensures.items

pub invariant_of-self-2 : goal.invariant_of-self-2
unfolding after new
invariant_of-self-2 c = (adds c).0

pub returns : goal.returns
unfolding after new
returns c = subst (λ p. ProgramPassed p c.args.word.word (program_drafted (after c))) c.self.view_is (adds c).1
