use Rattle.std.proofs.Common.{◌<◌, true, set, sym, refl, ap, ◌∙◌, subst, arith}
use Rattle.words.specs.Fields.{field}
use Rattle.words.specs.ProgramKinds.{program_kind_of, is_cell}
use Rattle.machine.proofs.Naming.{names_more, names_same}
use Rattle.machine.proofs.named.Named.take.Goals as goal

pub returns-then-is_kind : goal.returns-then-is_kind
returns-then-is_kind c words k l at names =
    let low : field 0 5 c.args.word < 32 = omega arith in
    names_more words k l c.args.self.now names (ap (λ w. is_cell (program_kind_of w)) at ∙ sym c.is_kind.ensures ∙ c.if-is_kind.true) (subst (λ w. field 0 5 w < 32) (sym at) low) _
    (ap (λ i. set c.args.self.now.all i true) (c.field_of.ensures ∙ ap (field 0 5) (sym at))) refl

pub returns-else-is_kind : goal.returns-else-is_kind
returns-else-is_kind c words k l at names =
    names_same words k l c.args.self.now names (ap (λ w. is_cell (program_kind_of w)) at ∙ sym c.is_kind.ensures ∙ c.if-is_kind.false)
