use Rattle.std.proofs.Common.{ℕ, List, ℤ, sym, ◌∙◌, subst}
use Rattle.words.specs.declared.graph.Graph.{Graph}
use Rattle.words.proofs.Ranges.{ranges}
use Rattle.bench.specs.declared.retiming.Retiming.{Retiming}
use Rattle.bench.specs.Retimings.{Sound}
use Rattle.bench.proofs.Moved.{sound_moved}
use Rattle.bench.proofs.Outcomes.{unless_none}
use Rattle.bench.proofs.Soundness.{sound}
use Rattle.bench.proofs.bench.Bench.rescale.Goals as goal

pub invariant_of-self : goal.invariant_of-self
invariant_of-self c =
    let g : Graph = c.args.self.now.design.graph in
    let p : Retiming = c.args.self.now.retiming in
    let factor : ℕ = c.args.by.now.factor in
    let shifts : List ℤ = c.args.by.now.shifts.now in
    let made = c.in_ok-moved.ensures in
    let none = made.asked ∙ unless_none _ tt c.in_ok-check_delays.field-0 c.in_ok-check_delays.ensures in
    let s = sound_moved p factor shifts g (ranges g c.args.self.now.design.sound) (sound g p c.args.self.now.sound) c.requires.few c.args.by.now.positive none in
    record { sound = subst (λ q. ∥ Sound g q ∥₁) (sym made.made) ∣ s ∣₁; ordered = c.args.self.now.ordered }
