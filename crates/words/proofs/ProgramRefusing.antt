-- The program reader's head, and its ways out.
use Rattle.std.proofs.Common.{◌≡◌, true, ℕ, ◌+◌, ◌*◌, ◌^◌, ◌<◌, ◌≤◌, false, ◌&&◌, eqb, leb, List, [], ◌∷◌, length, is_some, Some, None, Ok, Err, Option, Result, sym, refl, ap, ◌∙◌, subst, arith}
use Rattle.std.proofs.lemmas.Bool.{true≢false, and_parts, eqb-true, and_from, eq-eqb, le-leb, ne_eqb}
use Rattle.words.specs.declared.faults.Fault.{Fault}
use Rattle.words.specs.declared.faults.WordsQuestion.TheVariants as question
use Rattle.words.specs.declared.program.Program.{Program}
use Rattle.words.specs.declared.program_draft.ProgramDraft.{ProgramDraft}
use Rattle.words.specs.declared.kinds.ProgramKind.{ProgramKind}
use Rattle.words.specs.declared.kinds.ProgramKind.TheVariants as kind
use Rattle.words.specs.Fields.{field}
use Rattle.words.specs.Designs.{max_nodes}
use Rattle.words.specs.Programs.{array_word, array_end_word}
use Rattle.words.specs.ProgramKinds.{program_kind_of, program_numbered, is_array_end}
use Rattle.words.specs.ProgramTables.{ProgramInRange, max_factor}
use Rattle.words.specs.ProgramEncoding.{line_words, cell_words, encoded_program}
use Rattle.words.specs.Questions.{count_of}
use Rattle.words.specs.ProgramQuestions.{program_format, program_refused, program_may_stand, lines_in, cells_in, in_cell, after_array_output}
use Rattle.words.specs.ProgramDrafts.{program_drafted, program_headed, ProgramSound, ProgramStands}
use Rattle.words.specs.ProgramReading.{ProgramReads, ProgramReadsBack}
use Rattle.words.specs.ProgramTaking.{ProgramPassed, ProgramFailed}
use Rattle.words.specs.Formats.{clear_and_in_range, ends_well_in}
use Rattle.words.specs.Readings.{BeginsOne, EndsIn}
use Rattle.words.proofs.Wholes.{whole_one, whole_two, low_field}
use Rattle.words.proofs.ProgramWholes.{program_kind_made, program_kind_found}
use Rattle.words.proofs.ProgramStanding.{stands_array}
use Rattle.words.proofs.ProgramWalking.{program_passes}
use Rattle.words.proofs.ProgramTelling.{programs_tell}
use Rattle.words.proofs.ProgramRanges.{program_ranges}
use Rattle.words.proofs.ProgramDrafting.{program_begins}
use Rattle.words.proofs.FormatStopping.{passed}
use Rattle.words.proofs.FormatAsking.{refuse_2, refuse_3, allow}

-- before the head no other kind may stand
none_first : (k : Option ProgramKind) → (k ≡ Some kind.Head → ⊥) → program_may_stand [] k ≡ false
unfolding count_of lines_in cells_in in_cell after_array_output program_numbered
none_first (Some kind.Head) ne = absurd (ne refl)
none_first (Some kind.Line) ne = refl
none_first (Some kind.Cell) ne = refl
none_first (Some kind.Tap) ne = refl
none_first (Some kind.Output) ne = refl
none_first (Some kind.End) ne = refl
none_first None ne = refl

pub first_2 : (w : ℕ) → (program_kind_of w ≡ Some kind.Head → ⊥) → ProgramFailed [] w question.Kind
first_2 w ne after = refuse_2 program_format [] w after (program_kind_of w) refl (none_first (program_kind_of w) ne)

pub first_3 : (w : ℕ) → program_kind_of w ≡ Some kind.Head →
    (eqb (field 13 15 w) 0 && ((leb 1 (field 0 6 w) && leb (field 0 6 w) max_nodes) && (leb 1 (field 6 7 w) && leb (field 6 7 w) max_factor))) ≡ false → ProgramFailed [] w question.Range
first_3 w k h after = refuse_3 program_format [] w after (Some kind.Head) k refl h

-- a word of no kind may stand nowhere, nor a head after the first word
pub unknown : (p : List ℕ) (w : ℕ) → program_kind_of w ≡ None → ProgramFailed p w question.Kind
unknown p w e after = refuse_2 program_format p w after None e refl

pub headless : (p : List ℕ) (w : ℕ) → 0 < length p → program_kind_of w ≡ Some kind.Head → ProgramFailed p w question.Kind
headless p w some e after = refuse_2 program_format p w after (Some kind.Head) e (ne_eqb _ _ (λ q. omega arith))

-- the head that passes
module _ (n factor : ℕ) (some : 1 ≤ n) (few : n ≤ max_nodes) (slowed : 1 ≤ factor) (slow : factor ≤ max_factor) (w : ℕ) (k : program_kind_of w ≡ Some kind.Head) (count : field 0 6 w ≡ n) (whole : w ≡ array_word n factor) where
  head_drafted : program_drafted (program_headed n factor) ≡ w ∷ []
  unfolding line_words cell_words
  head_drafted = ap (λ v. v ∷ []) (sym whole)

  pub head_sound : ProgramSound (program_headed n factor)
  head_sound =
      record {
        some = some;
        few = few;
        slowed = slowed;
        slow = slow;
        lines = omega arith;
        lengths = λ i d h. absurd (omega arith);
        cells = omega arith;
        lined = λ h. absurd (omega arith);
        ranges = λ i d h. absurd (omega arith);
        apart = λ i j d h l. absurd (omega arith);
        first = λ h. refl;
        below = λ h i d l. absurd (omega arith);
        output_node = some;
        output_delay = omega arith;
        whole = λ h. absurd (true≢false (sym h));
        stands = subst (λ ws. ProgramStands ws n 0 [] 0 false) (sym head_drafted) (subst (λ m. ProgramStands (w ∷ []) m 0 [] 0 false) count (stands_array w k));
      }

-- a program's words begin with a head
pub begins_none : BeginsOne ProgramInRange encoded_program []
begins_none =
    let w : ℕ = array_word 1 1 in
    let k : program_kind_of w ≡ Some kind.Head = program_kind_made (Some kind.Head) (1 * 2 ^ 6 + 1) (omega arith) in
    let b = program_begins (program_headed 1 1) (head_sound 1 1 (omega arith) (omega arith) (omega arith) (omega arith) w k (low_field 6 7 15 8 1 1 refl (omega arith) (omega arith)) refl) in
    (b.0, encoded_program b.0, b.2, refl)

module _ (w : ℕ) (fits : w < 2 ^ 32) (k : program_kind_of w ≡ Some kind.Head) (clear : field 13 15 w ≡ 0) (some : 1 ≤ field 0 6 w) (few : field 0 6 w ≤ max_nodes)
    (slowed : 1 ≤ field 6 7 w) (slow : field 6 7 w ≤ max_factor) where
  whole : w ≡ array_word (field 0 6 w) (field 6 7 w)
  whole = whole_two 6 7 15 8 w refl fits (program_kind_found w (Some kind.Head) k (omega arith)) clear

  pub array_sound : ProgramSound (program_headed (field 0 6 w) (field 6 7 w))
  array_sound = head_sound (field 0 6 w) (field 6 7 w) some few slowed slow w k refl whole

  pub array_passed : ProgramPassed [] w (program_drafted (program_headed (field 0 6 w) (field 6 7 w)))
  array_passed = (
    head_drafted (field 0 6 w) (field 6 7 w) some few slowed slow w k refl whole,
    program_begins (program_headed (field 0 6 w) (field 6 7 w)) array_sound,
    λ after.
        allow program_format [] w after (Some kind.Head) k refl
        (and_from _ _ (eq-eqb _ _ clear) (and_from _ _ (and_from _ _ (le-leb _ _ some) (le-leb _ _ few)) (and_from _ _ (le-leb _ _ slowed) (le-leb _ _ slow)))) refl refl,
  )

-- the end that passes: it comes after the output, and counts the words
end_kind : (k : Option ProgramKind) → is_array_end k ≡ true → k ≡ Some kind.End
end_kind (Some kind.Head) h = absurd (true≢false (sym h))
end_kind (Some kind.Line) h = absurd (true≢false (sym h))
end_kind (Some kind.Cell) h = absurd (true≢false (sym h))
end_kind (Some kind.Tap) h = absurd (true≢false (sym h))
end_kind (Some kind.Output) h = absurd (true≢false (sym h))
end_kind (Some kind.End) h = refl
end_kind None h = absurd (true≢false (sym h))

pub end_passed : (p : List ℕ) (w given : ℕ) → EndsIn program_format p w given → (after_array_output p ≡ true) × (w ≡ array_end_word (length p + 1))
end_passed p w given e =
    let k : program_kind_of w ≡ Some kind.End = end_kind (program_kind_of w) e.end in
    let all = passed program_format p w [] e.passes in
    let clear : eqb (field 11 17 w) 0 ≡ true = (and_parts (eqb (field 11 17 w) 0) true (sym (ap (clear_and_in_range program_format p w) k) ∙ all.1)).0 in
    let count : eqb (field 0 11 w) (length p + 1) ≡ true = (and_parts (eqb (field 0 11 w) (length p + 1)) true (sym (ap (ends_well_in program_format p w []) k) ∙ all.3)).0 in (
      sym (ap (program_may_stand p) k) ∙ all.0,
      whole_one 11 17 13 w refl e.word (program_kind_found w (Some kind.End) k (omega arith)) (eqb-true _ _ clear) ∙ ap array_end_word (eqb-true _ _ count),
    )

-- so the draft has its output there
pub whole_at_end : (d : ProgramDraft) → ProgramSound d → (p : List ℕ) → program_drafted d ≡ p → (w given : ℕ) → EndsIn program_format p w given → d.complete ≡ true
whole_at_end d s p e w given end = sym s.stands.output ∙ ap after_array_output e ∙ (end_passed p w given end).0

-- every encoding is read as its program
pub back : (words : List ℕ) (r : Result Program Fault) → ProgramReads words r → ProgramReadsBack words r
back words (Ok p) h q n e = programs_tell p.table q (program_ranges p.table p.in_range) n (h.1 ∙ sym e)
back words (Err f) h q n e = true≢false (ap is_some (sym h.0 ∙ ap program_refused (sym e) ∙ program_passes q n))
