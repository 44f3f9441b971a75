use Rattle.std.proofs.Common.{◌≡◌, ℕ, ◌+◌, ◌*◌, ◌<◌, ◌≤◌, List, length, get_or, take, drop, ◌++◌, set, is_some, None, Ok, sym, refl, ap, ◌∙◌, subst, ⊎_elim, arith}
use Rattle.std.proofs.lemmas.List.{length-take-le, length-append, length-drop, get_or_append_left, get_or-set_same, get_or-set_other}
use Rattle.std.proofs.lemmas.Slice.{drop-append-drop}
use Rattle.std.proofs.lemmas.Bool.{true≢false, cases_lt}
use Rattle.words.specs.declared.graph.Graph.{Graph}
use Rattle.words.specs.declared.graph.Output.{Output}
use Rattle.words.specs.declared.design.Design.{Design}
use Rattle.words.specs.Designs.{InRange}
use Rattle.words.proofs.Ranges.{ranges}
use Rattle.bench.specs.Retimings.{order, at_rest}
use Rattle.bench.proofs.Outcomes.{unless_none}
use Rattle.cells.specs.Meaning.{Meaning}
use Rattle.machine.specs.Values.{Solves, output}
use Rattle.machine.specs.Simulation.{Filled, Simulated, Simulates}
use Rattle.machine.specs.Buffers.{value_in, rest_in, input_in, heard_in}
use Rattle.machine.specs.Refusals.{simulate_fault}
use Rattle.machine.proofs.Histories.{determined, node_source}
use Rattle.machine.proofs.Simulating.{output_heard, output_held, held_solves}
use Rattle.machine.proofs.simulator.simulate.Goals as goal

-- one output more
outputs_more : {E : Type 0} (row : List E) (e d : E) (t : ℕ) (y : ℕ → E) → t < length row → e ≡ y t → ((s : ℕ) → s < t → get_or row s d ≡ y s) → (s : ℕ) → s < t + 1 → get_or (set row t e) s d ≡ y s
outputs_more row e d t y inside is before s l =
    ⊎_elim
    (λ (lower : s < t). get_or-set_other row t s e d (λ eq. omega arith) ∙ before s lower)
    (λ (least : t ≤ s). let same : s ≡ t = omega arith in ap (λ k. get_or (set row t e) k d) same ∙ get_or-set_same row t e d inside ∙ is ∙ ap y (sym same))
    (cases_lt s t)

-- the outputs that are written are those of the history
outputs_held : {E A : Type 0} (g : Graph) → InRange g → (order : List ℕ) → Meaning E A → (rest x : ℕ → E) (v : ℕ → ℕ → E) (h : List E) (d : E) (T : ℕ) (row after : List E) → Filled g.count order v h d T 0 →
    ((s : ℕ) → s < T → get_or row s d ≡ output g rest v s) → (t : ℕ) → t < T → t < length row → get_or (row ++ after) t d ≡ output g rest (value_in g.count h d) t
outputs_held g range order m rest x v h d T row after filled written t lt inside =
    get_or_append_left row after d t inside ∙ written t lt ∙ output_held g range order m rest x v h d T filled t lt

-- what is heard at the output, said of the design's own count and output
same_heard : {E : Type 0} (n k : ℕ) (o out : Output) (rest inputs h : List E) (d : E) (t : ℕ) (e : E) → n ≡ k → o ≡ out → e ≡ heard_in n rest inputs h d t o.node o.delay →
    e ≡ heard_in k rest inputs h d t out.node out.delay
same_heard n k o out rest inputs h d t e counted read is =
    is ∙ ap (λ i. heard_in i rest inputs h d t o.node o.delay) counted ∙ ap (λ (p : Output). heard_in k rest inputs h d t p.node p.delay) read

-- the way out
accepted : {E A : Type 0} (g : Graph) (m : Meaning E A) (rest inputs before after outputs_before outputs_after : List E) →
    simulate_fault g.count (length rest) (length inputs) (length before) (length outputs_before) ≡ None → Simulated g m rest inputs before after outputs_before outputs_after →
    Simulates g m rest inputs before after outputs_before outputs_after (Ok (tt {0}))
accepted g m rest inputs before after outputs_before outputs_after none simulated =
    record { refuses = λ f fault. absurd (true≢false (ap is_some (sym fault ∙ none))); simulates = λ _. (refl, simulated) }

pub invariant_of-moment-clause-few : goal.invariant_of-moment-clause-few
invariant_of-moment-clause-few g c =
    omega (arith, (ranges c.args.bench.now.design.graph c.args.bench.now.design.sound).few, c.count-count.ensures, ap (λ (x : Design). x.graph.count) c.design-design.ensures.design)

pub hears-requires-clause-source : goal.hears-requires-clause-source
hears-requires-clause-source g c =
    node_source c.count-count.result c.output-output.result.node
    (omega (
      arith,
      (ranges c.args.bench.now.design.graph c.args.bench.now.design.sound).output_node,
      c.count-count.ensures,
      ap (λ (o : Output). o.node) c.output-output.ensures,
      ap (λ (x : Design). x.graph.count) c.design-design.ensures.design,
      ap (λ (x : Design). x.graph.output.node) c.design-design.ensures.design,
    ))

pub loop-time-preserved : goal.loop-time-preserved
loop-time-preserved g c =
    let m = g.L.CellLibrary.meaning in
    let graph = c.args.bench.now.design.graph in
    let range = ranges graph c.args.bench.now.design.sound in
    let whole = c.of-plan.ensures.whole in
    let T = length c.args.inputs.now in
    let t = c.loop-time.time in
    let h = c.fire.new.history in
    let n : c.count-count.result ≡ graph.count = c.count-count.ensures ∙ ap (λ (x : Design). x.graph.count) c.design-design.ensures.design in
    let out : c.output-output.result ≡ graph.output = c.output-output.ensures ∙ ap (λ (x : Design). x.graph.output) c.design-design.ensures.design in
    record {
      same = cc;
      past_history = subst (λ k. drop (k * T) h ≡ drop (k * T) c.loop-time.history) n c.fire.ensures.past ∙ c.loop-time.invariant.past_history;
      filled = λ d v solves.
          let rest = rest_in graph.count c.args.rest.now d in
          let x = input_in c.args.inputs.now d in
          let before = c.loop-time.invariant.filled d v solves in
          let filled = c.fire.ensures.values graph (order graph at_rest) range c.of-plan.ensures.ranked whole d v (subst (λ q. Solves graph q rest x v) (sym c.loop-time.invariant.same) solves) before.0 in
          let new : c.hears.result ≡ output graph rest v t =
          same_heard c.count-count.result graph.count c.output-output.result graph.output c.args.rest.now c.args.inputs.now h d t c.hears.result n out (c.hears.ensures d ∙ ap (λ delay. heard_in c.count-count.result c.args.rest.now c.args.inputs.now h d t c.output-output.result.node delay) c.from.ensures)
          ∙ output_heard graph range (order graph at_rest) (m c.args.library.now) rest x v h d (t + 1) filled t (omega arith) in
          (filled, outputs_more c.loop-time.place-items c.hears.result d t (output graph rest v) (omega (arith, c.loop-time-test.true, c.loop-time.auto.place-items)) new before.1);
    }

pub returns-clause-values : goal.returns-clause-values
returns-clause-values g c =
    let m = g.L.CellLibrary.meaning c.args.library.now in
    let graph = c.args.bench.now.design.graph in
    let range = ranges graph c.args.bench.now.design.sound in
    let ranked = c.of-plan.ensures.ranked in
    let n : c.count-count.result ≡ graph.count = c.count-count.ensures ∙ ap (λ (x : Design). x.graph.count) c.design-design.ensures.design in
    let T = length c.args.inputs.now in
    let room : length (take T c.args.outputs.now) ≡ T = length-take-le T c.args.outputs.now c.in_ok-ask_lengths.ensures.outputs in
    let all : c.loop-time.time ≡ T = omega (arith, c.loop-time-test.false, c.loop-time.auto.time-end, room) in
    let written : length c.loop-time.place-items ≡ T = omega (arith, c.loop-time.auto.place-items, room) in
    let outputs = c.loop-time.place-items ++ drop T c.args.outputs.now in
    let kept = λ (d : g.row.L-Elem.Denot).
    let one = determined graph range (order graph at_rest) ranked m (rest_in graph.count c.args.rest.now d) (input_in c.args.inputs.now d) in
    c.loop-time.invariant.filled d one.history one.solves in
    accepted graph m c.args.rest.now c.args.inputs.now c.args.history.now c.loop-time.history c.args.outputs.now outputs
    (subst (λ k. simulate_fault k (length c.args.rest.now) (length c.args.inputs.now) (length c.args.history.now) (length c.args.outputs.now) ≡ None) n (unless_none _ (tt {0}) (tt {0}) c.in_ok-ask_lengths.ensures.answer))
    (record {
      solves = λ d.
          let rest = rest_in graph.count c.args.rest.now d in
          let x = input_in c.args.inputs.now d in
          let one = determined graph range (order graph at_rest) ranked m rest x in
          held_solves graph range (order graph at_rest) m rest x one.history c.loop-time.history d T
          (subst (λ t. Filled graph.count (order graph at_rest) one.history c.loop-time.history d t 0) all (kept d).0) ranked one.solves;
      outputs = λ d t l.
          let rest = rest_in graph.count c.args.rest.now d in
          let x = input_in c.args.inputs.now d in
          let one = determined graph range (order graph at_rest) ranked m rest x in
          outputs_held graph range (order graph at_rest) m rest x one.history c.loop-time.history d c.loop-time.time c.loop-time.place-items (drop T c.args.outputs.now) (kept d).0 (kept d).1 t (omega (arith, all)) (omega (arith, written));
      long = c.loop-time.auto.history;
      past_history = c.loop-time.invariant.past_history;
      outputs_long = omega (arith, length-append c.loop-time.place-items (drop T c.args.outputs.now), length-drop T c.args.outputs.now, written, c.in_ok-ask_lengths.ensures.outputs);
      past_outputs = drop-append-drop T c.args.outputs.now c.loop-time.place-items T (omega arith) written;
    })
