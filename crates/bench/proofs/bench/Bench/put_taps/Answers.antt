use Rattle.std.proofs.Common.{◌≡◌, ℕ, List, [], ◌∷◌, ◌++◌, sym, ap, ◌∙◌, arith}
use Rattle.std.proofs.lemmas.List.{append-nil}
use Rattle.words.specs.declared.graph.Graph.{Graph}
use Rattle.words.specs.Programs.{tap_word}
use Rattle.words.proofs.Ranges.{ranges}
use Rattle.bench.specs.declared.retiming.Retiming.{Retiming}
use Rattle.bench.specs.Programs.{tap_if}
use Rattle.bench.specs.Retimings.{current_delay}
use Rattle.bench.proofs.Emitting.{turn_none, turn_more, taps_long, delay_few}
use Rattle.bench.proofs.Soundness.{sound}
use Rattle.bench.proofs.bench.Bench.put_taps.Goals as goal
use Rattle.bench.proofs.bench.Bench.put_taps.Goals.{in-Some, in_default}

pub loop-source-init : goal.loop-source-init
loop-source-init c = turn_none _ _

pub place_word-requires : goal.place_word-requires
place_word-requires c =
    let g : Graph = c.args.self.now.design.graph in
    let p : Retiming = c.args.self.now.retiming in
    let few = delay_few g (ranges g c.args.self.now.design.sound) p (sound g p c.args.self.now.sound) c.args.node c.loop-source.source c.in-Some.delay (sym c.in-Some.ensures) in
    (omega arith, omega (arith, c.from.ensures))

pub push-requires : goal.push-requires
push-requires c =
    let g : Graph = c.args.self.now.design.graph in
    let p : Retiming = c.args.self.now.retiming in
    let long = taps_long g p c.args.node c.args.program.now.items c.loop-source.source c.loop-source.invariant in
    (omega arith, omega (arith, c.requires))

pub loop-source-preserved : goal.loop-source-preserved
loop-source-preserved c =
    let g : Graph = c.args.self.now.design.graph in
    let p : Retiming = c.args.self.now.retiming in
    let j : ℕ = c.loop-source.source in
    let f : ℕ → List ℕ = λ j. tap_if j (current_delay g p c.args.node j) in
    let before : List ℕ = c.args.program.now.items in
    let so_far : List ℕ = c.loop-source.program.items in
    elim c.match-delay.branch [
      | in-Some w ↦
          let word : w.place_word.result ≡ tap_word j w.in-Some.delay = w.place_word.ensures ∙ ap (tap_word j) w.from.ensures in
          ap (λ v. v.items) w.program-is
          ∙ turn_more f before j c.loop-source.invariant (w.push.ensures.items ∙ ap (λ v. so_far ++ v ∷ []) word ∙ ap (λ o. so_far ++ tap_if j o) w.in-Some.ensures)
      | in_default w ↦
          ap (λ v. v.items) w.program-is ∙ turn_more f before j c.loop-source.invariant (sym (append-nil so_far) ∙ ap (λ o. so_far ++ tap_if j o) w.in_default.ensures)
    ]
