use Rattle.std.proofs.Common.{length, Some, sym, ap, ◌∙◌}
use Rattle.std.proofs.lemmas.List.{length_push}
use Rattle.words.proofs.Drafting.{finished_in_range}
use Rattle.words.proofs.Refusing.{end_encoded, output_at_end}
use Rattle.words.proofs.reader.ReaderReading.finish.Goals as goal

pub invariant_of-result : goal.invariant_of-result
invariant_of-result c =
    let e = c.requires.1 in
    let there = output_at_end c.self.inside.draft c.self.invariant c.args.self c.self.view_is c.requires.0 c.args.given e c.self.inside.draft.graph.output ∙ ap Some (sym c.unwrap_or.ensures) in
    record {
      sound = ∣ finished_in_range c.self.inside.draft c.self.invariant c.unwrap_or.result there ∣₁;
      counted =
          sym (ap length (end_encoded c.self.inside.draft c.self.invariant c.args.self c.self.view_is c.requires.0 c.args.given e c.unwrap_or.result there) ∙ length_push c.args.self c.requires.0 ∙ e.last);
    }

pub returns : goal.returns
returns c = λ w e.
    let there = output_at_end c.self.inside.draft c.self.invariant c.args.self c.self.view_is w c.args.given e c.self.inside.draft.graph.output ∙ ap Some (sym c.unwrap_or.ensures) in
    end_encoded c.self.inside.draft c.self.invariant c.args.self c.self.view_is w c.args.given e c.unwrap_or.result there
