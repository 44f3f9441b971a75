-- The questions at a program word, as the reader puts them to its draft.
use Rattle.std.proofs.Common.{◌≡◌, ℕ, zero, suc, ◌+◌, ◌<◌, Bool, true, false, not, ◌&&◌, eqb, ltb, leb, List, length, Some, None, refl, ap, ◌∙◌, arith, Option}
use Rattle.std.specs.Set.{is_member}
use Rattle.std.proofs.lemmas.Bool.{ne_eqb, lt-ltb, true≢false}
use Rattle.std.proofs.lemmas.List.{length-map}
use Rattle.words.specs.declared.faults.WordsQuestion.TheVariants as question
use Rattle.words.specs.declared.kinds.ProgramKind.{ProgramKind}
use Rattle.words.specs.declared.kinds.ProgramKind.TheVariants as kind
use Rattle.words.specs.declared.program_table.Cell.{Cell}
use Rattle.words.specs.declared.program_draft.ProgramDraft.{ProgramDraft}
use Rattle.words.specs.Fields.{field}
use Rattle.words.specs.ProgramKinds.{program_kind_of}
use Rattle.words.specs.ProgramEncoding.{line_source}
use Rattle.words.specs.Questions.{count_of}
use Rattle.words.specs.ProgramQuestions.{program_format, program_may_stand, program_fields_in_range, program_in_order, lines_in}
use Rattle.words.specs.ProgramDrafts.{program_drafted, ProgramSound, nodes_of}
use Rattle.words.specs.ProgramTaking.{ProgramFailed}
use Rattle.words.specs.Formats.{unnamed_of, clear_and_in_range, ends_well_in, asked_in}
use Rattle.words.specs.Refusals.{wrong_end}
use Rattle.words.proofs.FormatAsking.{refuse_2, refuse_3, refuse_4, refuse_5, allow}

-- some, where it is not none
pub some_from : (n : ℕ) → eqb n 0 ≡ false → 0 < n
some_from zero h = absurd (true≢false h)
some_from (suc n) h = omega arith

-- which kinds may stand after a draft's words
abbrev pub stands_of : ProgramDraft → Option ProgramKind → Bool
stands_of d (Some kind.Head) = false
stands_of d (Some kind.Line) = ltb (length d.table.lines.items) (d.table.count + 1)
stands_of d (Some kind.Cell) = eqb (length d.table.lines.items) (d.table.count + 1) && ltb (length d.table.cells.items) d.table.count
stands_of d (Some kind.Tap) = ltb 0 (length d.table.cells.items) && not d.complete
stands_of d (Some kind.Output) = (ltb 0 (length d.table.cells.items) && not d.complete) && eqb (length d.table.cells.items) d.table.count
stands_of d (Some kind.End) = d.complete
stands_of d None = false

-- which words are in order after a draft's words
abbrev pub orders_of : ProgramDraft → ℕ → Option ProgramKind → Bool
orders_of d w (Some kind.Head) = true
orders_of d w (Some kind.Line) = eqb (field 0 6 w) (line_source d.table.count (length d.table.lines.items))
orders_of d w (Some kind.Cell) = not (is_member eqb (nodes_of d.table.cells.items) (field 0 5 w))
orders_of d w (Some kind.Tap) = leb d.least (field 0 6 w)
orders_of d w (Some kind.Output) = true
orders_of d w (Some kind.End) = true
orders_of d w None = true

-- whether a word of that kind is clear where it must be, and its fields in range
abbrev pub in_range_of : ProgramDraft → ℕ → Option ProgramKind → Bool
in_range_of d w k = eqb (unnamed_of program_format w k) 0 && program_fields_in_range d.table.count w k

module _ (d : ProgramDraft) (s : ProgramSound d) where
  many : length (nodes_of d.table.cells.items) ≡ length d.table.cells.items
  many = length-map d.table.cells.items (λ (c : Cell). c.node)

  in_cell_is : (ltb 0 (length (nodes_of d.table.cells.items)) && not d.complete) ≡ (ltb 0 (length d.table.cells.items) && not d.complete)
  in_cell_is = ap (λ m. ltb 0 m && not d.complete) many

  may_stand_is : (k : Option ProgramKind) → program_may_stand (program_drafted d) k ≡ stands_of d k
  may_stand_is (Some kind.Head) = ne_eqb _ _ (λ q. omega arith)
  may_stand_is (Some kind.Line) =
      ap (λ b. b && ltb (lines_in (program_drafted d)) (count_of (program_drafted d) + 1)) (lt-ltb 0 (length (program_drafted d)) s.stands.some)
      ∙ (λ i. ltb (s.stands.lines i) (s.stands.count i + 1))
  may_stand_is (Some kind.Cell) =
      (λ i. eqb (s.stands.lines i) (s.stands.count i + 1) && ltb (length (s.stands.cells i)) (s.stands.count i))
      ∙ ap (λ m. eqb (length d.table.lines.items) (d.table.count + 1) && ltb m d.table.count) many
  may_stand_is (Some kind.Tap) = s.stands.cell ∙ in_cell_is
  may_stand_is (Some kind.Output) =
      (λ i. s.stands.cell i && eqb (length (s.stands.cells i)) (s.stands.count i)) ∙ (λ i. in_cell_is i && eqb (many i) d.table.count)
  may_stand_is (Some kind.End) = s.stands.output
  may_stand_is None = refl

  in_order_is : (w : ℕ) (k : Option ProgramKind) → program_in_order (program_drafted d) w k ≡ orders_of d w k
  in_order_is w (Some kind.Head) = refl
  in_order_is w (Some kind.Line) = λ i. eqb (field 0 6 w) (line_source (s.stands.count i) (s.stands.lines i))
  in_order_is w (Some kind.Cell) = ap (λ ns. not (is_member eqb ns (field 0 5 w))) s.stands.cells
  in_order_is w (Some kind.Tap) = ap (λ m. leb m (field 0 6 w)) s.stands.least
  in_order_is w (Some kind.Output) = refl
  in_order_is w (Some kind.End) = refl
  in_order_is w None = refl

  in_range_is : (w : ℕ) (k : Option ProgramKind) → clear_and_in_range program_format (program_drafted d) w k ≡ in_range_of d w k
  in_range_is w k = ap (λ n. eqb (unnamed_of program_format w k) 0 && program_fields_in_range n w k) s.stands.count

  -- the answers at a word
  module _ (w : ℕ) (k : Option ProgramKind) (e : program_kind_of w ≡ k) where
    pub no_2 : stands_of d k ≡ false → ProgramFailed (program_drafted d) w question.Kind
    no_2 a after = refuse_2 program_format (program_drafted d) w after k e (may_stand_is k ∙ a)

    pub no_3 : stands_of d k ≡ true → in_range_of d w k ≡ false → ProgramFailed (program_drafted d) w question.Range
    no_3 a b after = refuse_3 program_format (program_drafted d) w after k e (may_stand_is k ∙ a) (in_range_is w k ∙ b)

    pub no_4 : stands_of d k ≡ true → in_range_of d w k ≡ true → orders_of d w k ≡ false → ProgramFailed (program_drafted d) w question.Order
    no_4 a b c after = refuse_4 program_format (program_drafted d) w after k e (may_stand_is k ∙ a) (in_range_is w k ∙ b) (in_order_is w k ∙ c)

    pub no_5 : stands_of d k ≡ true → in_range_of d w k ≡ true → orders_of d w k ≡ true → (after : List ℕ) → ends_well_in program_format (program_drafted d) w after k ≡ false →
        asked_in program_format (program_drafted d) w after ≡ Some (wrong_end (length (program_drafted d)))
    no_5 a b c after h = refuse_5 program_format (program_drafted d) w after k e (may_stand_is k ∙ a) (in_range_is w k ∙ b) (in_order_is w k ∙ c) h

    pub yes : stands_of d k ≡ true → in_range_of d w k ≡ true → orders_of d w k ≡ true → (after : List ℕ) → ends_well_in program_format (program_drafted d) w after k ≡ true →
        asked_in program_format (program_drafted d) w after ≡ None
    yes a b c after h = allow program_format (program_drafted d) w after k e (may_stand_is k ∙ a) (in_range_is w k ∙ b) (in_order_is w k ∙ c) h
