use Rattle.std.proofs.Common.{◌≡◌, ℕ, ◌+◌, ◌<◌, ◌≤◌, true, List, map, length, get_or, take, sym, ap, ◌∙◌, ⊎_elim, arith}
use Rattle.std.proofs.lemmas.List.{get_or-map, length-map}
use Rattle.std.proofs.lemmas.Bool.{cases_eq}
use Rattle.std.proofs.ByRecursion.{All-get_or}
use Rattle.words.specs.Designs.{is_source, input}
use Rattle.cells.specs.Meaning.{Meaning, Operand, gathered, applied}
use Rattle.machine.proofs.Gathering.{gathered_more, applied_all}
use Rattle.words.specs.declared.program_table.Tap.{Tap}
use Rattle.machine.specs.declared.cell.Cell.{Cell}
use Rattle.machine.specs.Values.{operand}
use Rattle.machine.specs.Plans.{taps_in, Ready}
use Rattle.machine.specs.Buffers.{heard_in}
use Rattle.machine.proofs.Histories.{source_node}
use Rattle.machine.proofs.cell.Cell.value.Goals as goal

-- what is read past a row of taps, never met
abbrev first_tap : Tap
first_tap = record { source = 0; delay = 0 }

source_low : (n j : ℕ) → n ≤ 32 → is_source n j ≡ true → j ≤ 32
source_low n j few is = ⊎_elim (λ (e : j ≡ input). omega arith) (λ (other : j ≡ input → ⊥). omega (arith, source_node n j is other)) (cases_eq j input)

-- one tap more
one_more : {E A : Type 0} (m : Meaning E A) (o : ℕ) (f : Tap → Operand E) (taps : List Tap) (n : Meaning E A) (i : ℕ) (sum more : A) (x : E) → n ≡ m → i < length taps →
    sum ≡ gathered m o (take i (map f taps)) → x ≡ (f (get_or taps i first_tap)).1 → more ≡ n.next o (f (get_or taps i first_tap)).0 sum x → more ≡ gathered m o (take (i + 1) (map f taps))
one_more {E} {A} m o f taps n i sum more x is_m l so_far heard is =
    let y : Operand E = f (get_or taps i first_tap) in
    gathered_more m o (map f taps) n i sum more y is_m (omega (arith, length-map taps f, l)) (sym (get_or-map f taps i first_tap y l)) so_far (is ∙ ap (λ (e : E). n.next o y.0 sum e) heard)

tap_source : (n : ℕ) (cell : Cell) → Ready n cell → (i : ℕ) → i < length (taps_in cell) → is_source n (get_or (taps_in cell) i first_tap).source ≡ true
tap_source n cell ready i l = All-get_or (λ (tap : Tap). is_source n tap.source ≡ true) (taps_in cell) i first_tap l ready.taps

pub hears-operand-requires-clause-source : goal.hears-operand-requires-clause-source
hears-operand-requires-clause-source g c = tap_source c.args.moment.now.count c.args.self.now c.requires.ready c.loop-tap.tap-index c.loop-tap-test.true

pub loop-tap-preserved : goal.loop-tap-preserved
loop-tap-preserved g c =
    let m = g.L.CellLibrary.meaning in
    let at = c.args.moment.now in
    let cell = c.args.self.now in
    let i = c.loop-tap.tap-index in
    let source = tap_source at.count cell c.requires.ready i c.loop-tap-test.true in
    record {
      same = cc;
      so_far = λ d.
          one_more (m c.first-sum.new.self) cell.operation (operand (heard_in at.count at.rest.now at.inputs.now c.args.history.now d at.time)) (taps_in cell)
          (m c.loop-tap.library) i c.loop-tap.sum c.next-sum.result c.hears-operand.result c.loop-tap.invariant.same c.loop-tap-test.true (c.loop-tap.invariant.so_far d) (c.hears-operand.ensures d)
          (c.next-sum.ensures.value (source_low at.count _ at.few source));
    }

pub returns-clause-value : goal.returns-clause-value
returns-clause-value g c =
    let m = g.L.CellLibrary.meaning in
    let cell = c.args.self.now in
    λ d.
    let hear = operand (heard_in c.args.moment.now.count c.args.moment.now.rest.now c.args.moment.now.inputs.now c.args.history.now d c.args.moment.now.time) in
    applied_all (m c.first-sum.new.self) cell.operation (map hear (taps_in cell)) (m c.loop-tap.library) c.loop-tap.tap-index c.loop-tap.sum c.element.result c.loop-tap.invariant.same
    (omega (arith, length-map (taps_in cell) hear, c.loop-tap-test.false)) (c.loop-tap.invariant.so_far d) c.element.ensures.value
    ∙ ap (λ q. applied q cell.operation (map hear (taps_in cell))) c.first-sum.ensures.same
