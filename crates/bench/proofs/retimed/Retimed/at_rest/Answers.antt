use Rattle.std.proofs.Common.{sym, subst}
use Rattle.words.specs.declared.graph.Graph.{Graph}
use Rattle.words.proofs.Ranges.{ranges}
use Rattle.bench.specs.Retimings.{Sound}
use Rattle.bench.proofs.AtRest.{sound_rest}
use Rattle.bench.proofs.retimed.Retimed.at_rest.Goals as goal

pub invariant_of-result : goal.invariant_of-result
invariant_of-result c =
    let g : Graph = c.args.design.now.graph in
    record { sound = ∣ subst (λ p. Sound g p) (sym c.requires) (sound_rest g (ranges g c.args.design.now.sound)) ∣₁ }
