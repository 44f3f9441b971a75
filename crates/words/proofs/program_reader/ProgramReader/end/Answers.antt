use Rattle.std.proofs.Common.{◌≡◌, ◌+◌, [], length, Some, sym, refl, ap, ◌∙◌, subst, arith}
use Rattle.std.proofs.lemmas.Bool.{and_left, and_right, and_from, eq-eqb, ne_eqb, eqb-true}
use Rattle.words.specs.declared.kinds.ProgramKind.TheVariants as kind
use Rattle.words.specs.Fields.{field}
use Rattle.words.specs.ProgramDrafts.{program_drafted}
use Rattle.words.specs.ProgramKinds.{is_array_end}
use Rattle.words.specs.ProgramQuestions.{program_format}
use Rattle.words.specs.Readings.{EndsIn}
use Rattle.words.proofs.Kinded.{kind_as, clear_as}
use Rattle.words.proofs.ProgramTaking.{no_2, no_3, no_5, yes}
use Rattle.words.proofs.program_reader.ProgramReader.end.Goals as goal
use Rattle.words.proofs.program_reader.ProgramReader.end.Goals.{then-count-index-via-then-count-index, then-count-index-via-else-count-index+then-given-index}

pub returns-then-not-self : goal.returns-then-not-self
returns-then-not-self c = λ after _.
    rw (← c.self.view_is) (no_2 c.self.inside.draft c.self.invariant c.args.word.word (Some kind.End) (kind_as c.args.word kind.End c.requires.kind) c.if-not-self.true after)

pub returns-then-not-is_clear : goal.returns-then-not-is_clear
returns-then-not-is_clear c = λ after _.
    rw (← c.self.view_is)
    (no_3 c.self.inside.draft c.self.invariant c.args.word.word (Some kind.End) (kind_as c.args.word kind.End c.requires.kind) c.if-not-self.false
    (and_left _ _ (sym (clear_as c.args.word kind.End c.requires.kind c.if-not-is_clear.ensures))) after)

pub returns-then-count-index : goal.returns-then-count-index
returns-then-count-index c = λ after all.
    let long : length (program_drafted c.self.inside.draft) ≡ c.args.index = ap length c.self.view_is ∙ sym c.requires.index in
    rw (← c.self.view_is)
    (no_5 c.self.inside.draft c.self.invariant c.args.word.word (Some kind.End) (kind_as c.args.word kind.End c.requires.kind) c.if-not-self.false
    (and_from _ _ (sym (clear_as c.args.word kind.End c.requires.kind c.if-not-is_clear.ensures)) refl) refl after
    (elim c.then-count-index.branch [
      | then-count-index-via-then-count-index w ↦
          and_left _ _ (ne_eqb _ _ (λ e. w.if-count-index.true (c.field-count.ensures ∙ e ∙ ap (λ n. n + 1) long)))
      | then-count-index-via-else-count-index+then-given-index w ↦
          and_right _ _ (ne_eqb (length after) 0 (λ e. w.if-given-index.true (omega (arith, all, e, c.requires.index))))
    ]))

pub returns : goal.returns
returns c =
    let long : length (program_drafted c.self.inside.draft) ≡ c.args.index = ap length c.self.view_is ∙ sym c.requires.index in
    let end = kind_as c.args.word kind.End c.requires.kind in
    let clear : field 11 17 c.args.word.word ≡ 0 = eqb-true _ _ (sym (clear_as c.args.word kind.End c.requires.kind c.if-not-is_clear.ensures)) in
    let counted : field 0 11 c.args.word.word ≡ length (program_drafted c.self.inside.draft) + 1 = sym c.field-count.ensures ∙ c.if-count-index.false ∙ ap (λ n. n + 1) (sym long) in
    subst (λ p. EndsIn program_format p c.args.word.word c.args.given) c.self.view_is
    (record {
      word = omega arith;
      end = ap is_array_end end;
      last = ap (λ n. n + 1) long ∙ sym c.if-given-index.false;
      passes =
          yes c.self.inside.draft c.self.invariant c.args.word.word (Some kind.End) end c.if-not-self.false (and_from _ _ (eq-eqb _ _ clear) refl) refl []
          (and_from _ _ (eq-eqb _ _ counted) refl);
    })
