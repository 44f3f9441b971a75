use Rattle.std.proofs.Common.{◌+◌, [], ◌∷◌, ◌++◌, length, sym, ap, ◌∙◌}
use Rattle.words.specs.Programs.{array_end_word}
use Rattle.words.specs.ProgramEncoding.{encoded_program}
use Rattle.words.proofs.ProgramDrafting.{body_words, whole_in_range}
use Rattle.words.proofs.ProgramRefusing.{end_passed, whole_at_end}
use Rattle.words.proofs.program_reader.ProgramReaderReading.finish.Goals as goal

pub invariant_of-result : goal.invariant_of-result
invariant_of-result c =
    let whole = whole_at_end c.self.inside.draft c.self.invariant c.args.self c.self.view_is c.requires.0 c.args._given c.requires.1 in
    record { in_range = ∣ whole_in_range c.self.inside.draft c.self.invariant whole ∣₁ }

pub returns : goal.returns
unfolding encoded_program
returns c = λ w e.
    let whole = whole_at_end c.self.inside.draft c.self.invariant c.args.self c.self.view_is w c.args._given e in
    let end = end_passed c.args.self w c.args._given e in
    ap (λ ws. ws ++ array_end_word (length ws + 1) ∷ []) (sym (body_words c.self.inside.draft whole) ∙ c.self.view_is) ∙ ap (λ v. c.args.self ++ v ∷ []) (sym end.1)
