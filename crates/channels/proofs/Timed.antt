-- The timing promise holds of every run of a machine on the program of a bench.
use Rattle.std.proofs.Common.{◌≡◌, ◌≢◌, ℕ, ◌+◌, ◌*◌, ◌<◌, ◌≤◌, List, [], ◌∷◌, ◌++◌, length, get_or, pos, Some, Option, sym, refl, ap, ◌∙◌, subst, ap₂, ⊎_elim, arith}
use Rattle.std.specs.List.{All, slice_get}
use Rattle.std.proofs.lemmas.List.{get_or-map, length-map}
use Rattle.std.proofs.lemmas.List.Elements.{All-weaker, All-from_recursion}
use Rattle.std.proofs.lemmas.Bool.{cases_lt}
use Rattle.words.specs.declared.graph.Graph.{Graph}
use Rattle.words.specs.declared.program_table.Cell.{Cell}
use Rattle.words.specs.declared.program_table.ProgramTable.{ProgramTable}
use Rattle.words.specs.declared.program_table.Tap.{Tap}
use Rattle.words.specs.Designs.{InRange, feed_at, sources}
use Rattle.words.proofs.ProgramTelling.{programs_tell}
use Rattle.bench.specs.declared.calls.Call.{Call}
use Rattle.bench.specs.declared.retiming.Retiming.{Retiming}
use Rattle.bench.specs.Calls.{ended, moves, shifted}
use Rattle.bench.specs.Firing.{has, place_in}
use Rattle.bench.specs.Orders.{Ranked}
use Rattle.bench.specs.Retimings.{Sound, at_rest, order, current_delay, latency}
use Rattle.bench.specs.Tables.{program_of}
use Rattle.bench.specs.Verdicts.{C1Holds, C2Holds}
use Rattle.bench.proofs.Ended.{all_listed, sound_calls, settled_calls, factor_calls, lag_calls, own_order, order_calls}
use Rattle.bench.proofs.Tabled.{program_table, table_in_range}
use Rattle.cells.specs.Meaning.{Meaning}
use Rattle.machine.specs.Arrays.{array_of, array_in, ArrayDetermined, Runs, put_out}
use Rattle.machine.specs.Buffers.{rest_in}
use Rattle.machine.specs.ProgramArrays.{CellOf, ProgramOf}
use Rattle.machine.specs.Values.{Solves, output}
use Rattle.bench.specs.Tables.{taps_to}
use Rattle.machine.proofs.Alike.{runs_alike, put_out_alike, alike_back}
use Rattle.machine.proofs.Channels.{channels}
use Rattle.machine.proofs.Cycles.{determined as array_determined, in_firing_order}
use Rattle.machine.proofs.EmittedLoads.{emitted_loads}
use Rattle.machine.proofs.Histories.{determined, taps_all}
use Rattle.machine.proofs.ProgramArrays.{program_alike, program_ordered, program_reached, program_is}
use Rattle.channels.specs.declared.events.Event.{Event}
use Rattle.channels.specs.Events.{State, Ran, PutsOutHistories, StepAt, BeginsWith}
use Rattle.channels.specs.Timing.{ChannelsAnswer, SystolicProgram, Timing, TimingHolds, EmittedLoads, channel}
use Rattle.channels.proofs.Running.{puts_out_histories}

-- the taps of a program that is systolic by its current delays
module _ (g : Graph) (p : Retiming) (fires : Ranked g.count (current_delay g p) (order g p)) (t : ProgramTable) (is : ProgramOf g p t) where
  -- what a tap of a cell hears
  Hears : ℕ → Tap → Type 0
  Hears i tap = (tap.source < sources) × (current_delay g p i tap.source ≡ Some tap.delay)

  hears : (cell : Cell) → CellOf g p cell → All (Hears cell.node) cell.taps.items
  unfolding Hears
  hears cell c =
      subst (All (Hears cell.node)) (sym c.taps)
      (All-from_recursion (Hears cell.node) (taps_to (current_delay g p cell.node) sources) (taps_all (Hears cell.node) (current_delay g p cell.node) sources (λ j d l e. (l, e))))

  from_nodes : C1Holds g p → (cell : Cell) → CellOf g p cell → All (λ tap. tap.source < t.count → 1 ≤ tap.delay) cell.taps.items
  unfolding Hears
  from_nodes c1 cell c =
      All-weaker (Hears cell.node) (λ tap. tap.source < t.count → 1 ≤ tap.delay) (λ tap h l. c1 cell.node tap.source tap.delay c.node (omega (arith, is.count)) h.1) cell.taps.items (hears cell c)

  -- two nodes hear one source at two delays
  two : C2Holds g p → (i k : ℕ) → i < g.count → k < g.count → (i ≡ k → ⊥) → (tap heard : Tap) → Hears i tap → Hears k heard → heard.source ≡ tap.source → heard.delay ≢ tap.delay
  unfolding Hears
  two c2 i k li lk other tap heard ht hh source delay =
      let same : current_delay g p k tap.source ≡ Some tap.delay = ap (current_delay g p k) (sym source) ∙ hh.1 ∙ ap Some delay in
      ⊎_elim
      (λ (l : i < k). c2 tap.source i k tap.delay ht.0 l lk ht.1 same)
      (λ (l : k ≤ i). c2 tap.source k i tap.delay ht.0 (omega (arith, other)) li same ht.1)
      (cases_lt i k)

  -- the cells at two places are those of two nodes
  apart : (i j : ℕ) (d : Cell) → i < j → j < length t.cells.items → (get_or t.cells.items i d).node ≡ (get_or t.cells.items j d).node → ⊥
  apart i j d l within same =
      omega (arith, sym (place i d (omega arith)) ∙ ap (place_in (order g p)) same ∙ place j d within)
    where
      long : length t.cells.items ≡ length (order g p)
      long = sym (length-map t.cells.items (λ (c : Cell). c.node)) ∙ ap length is.order

      place : (k : ℕ) (d : Cell) → k < length t.cells.items → place_in (order g p) (get_or t.cells.items k d).node ≡ k
      place k d h =
          ap (place_in (order g p)) (sym (get_or-map (λ (c : Cell). c.node) t.cells.items k d 0 h) ∙ ap (λ l. get_or l k 0) is.order) ∙ fires.once k (omega (arith, long))

  pub systolic_program : C1Holds g p → C2Holds g p → SystolicProgram t
  systolic_program c1 c2 =
      record {
        from_nodes = All-weaker (CellOf g p) (λ (cell : Cell). All (λ tap. tap.source < t.count → 1 ≤ tap.delay) cell.taps.items) (from_nodes c1) t.cells.items is.cells;
        apart = λ i j d l within.
            let a : Cell = get_or t.cells.items i d in
            let b : Cell = get_or t.cells.items j d in
            let ca = is.cells i d (omega arith) in
            let cb = is.cells j d within in
            All-weaker (Hears a.node) (λ tap. All (λ heard. heard.source ≡ tap.source → heard.delay ≢ tap.delay) b.taps.items)
            (λ tap ht.
            All-weaker (Hears b.node) (λ heard. heard.source ≡ tap.source → heard.delay ≢ tap.delay) (λ heard hh. two c2 a.node b.node ca.node cb.node (apart i j d l within) tap heard ht hh) b.taps.items
            (hears b cb))
            a.taps.items (hears a ca);
      }

-- a step's answer is the output of its channel's source
module _ {E A : Type 0} (g : Graph) (range : InRange g) (own : Ranked g.count (feed_at g) (order g at_rest)) (p : Retiming) (sound : Sound g p)
    (fires : Ranked g.count (current_delay g p) (order g p)) (t : ProgramTable) (is : ProgramOf g p t) (m : Meaning E A) (given : ℕ) (events : List (Event E)) (answers : List (Option E))
    (histories : PutsOutHistories t m given events answers) where
  module _ (k : ℕ) (rest inputs : List E) (input : E) (at : StepAt t given events k rest inputs input) (time r : ℕ) (in-K : r < p.factor)
      (long : length inputs ≡ p.factor * time + r + latency g p) (d : E) (x : ℕ → E) (begins : BeginsWith x (inputs ++ input ∷ [])) where
    -- the history of the array
    array : ArrayDetermined (array_of g p) m (rest_in g.count rest d) x
    array = array_determined (array_of g p) (place_in (order g p)) (in_firing_order g range p (order g p) fires) m (rest_in g.count rest d) x

    same_rest : ◌≡◌ {A = ℕ → E} (rest_in g.count rest d) (rest_in t.count rest d)
    same_rest = ap (λ n. rest_in n rest d) (sym is.count)

    runs : Runs (array_in t) m (rest_in t.count rest d) x array.history
    runs =
        subst (λ (ρ : ℕ → E). Runs (array_in t) m ρ x array.history) same_rest
        (runs_alike (array_of g p) (array_in t) (alike_back (array_in t) (array_of g p) (program_alike g p fires t is)) m (rest_in g.count rest d) x array.history array.runs)

    puts_out : put_out (array_in t) (rest_in t.count rest d) array.history (length inputs) ≡ put_out (array_of g p) (rest_in g.count rest d) array.history (p.factor * time + r + latency g p)
    puts_out =
        put_out_alike (array_in t) (array_of g p) (program_alike g p fires t is) (rest_in t.count rest d) array.history (length inputs)
        ∙ ap₂ (λ (ρ : ℕ → E) τ. put_out (array_of g p) ρ array.history τ) (sym same_rest) long

    answered : (v : ℕ → ℕ → E) → Solves g m (rest_in g.count rest d) (channel p.factor r x) v → slice_get answers k ≡ Some (Some (output g (rest_in g.count rest d) v time))
    answered v solves =
        histories k rest inputs input at d x begins array.history runs
        ∙ ap (λ y. Some (Some y)) (puts_out ∙ (channels g range p sound (order g at_rest) own m (rest_in g.count rest d) x array.history array.runs r in-K v solves).1 time)

  pub channels_answer : ChannelsAnswer g t p.factor (latency g p) m given events answers
  channels_answer k rest inputs input at time r in-K long d x begins =
      (determined g range (order g at_rest) own m (rest_in g.count rest d) (channel p.factor r x), answered k rest inputs input at time r in-K long d x begins)

-- The whole promise, of a design whose nodes are all listed at rest, any calls, the program of the retiming that they leave, and any run of a machine
-- on it that was just loaded.
pub timing : {E A : Type 0} (g : Graph) → InRange g → length (order g at_rest) ≡ g.count → (calls : List Call) (t : ProgramTable) → ProgramOf g (ended g at_rest calls) t →
    (m : Meaning E A) (given : ℕ) (first last : State E) → first.cycle ≡ 0 → length first.row ≡ given → (events : List (Event E)) (answers : List (Option E)) →
    Ran t m first events answers last → Timing g calls t (ended g at_rest calls).factor (latency g (ended g at_rest calls)) m given events answers
timing g range all calls t is m given first last loaded long events answers ran =
    let p : Retiming = ended g at_rest calls in
    let fires = order_calls g range all calls in
    let ordered = program_ordered g p fires t is range in
    let reached = program_reached g p fires t is range in
    record {
      factors_and_lags =
          record {
            head = is.factor;
            factor = factor_calls g range.few calls;
            nodes = λ i l. ap (λ nodes. has nodes i) is.order ∙ fires.every i l;
            lags = All-weaker (CellOf g p) (λ (cell : Cell). (cell.node < g.count) × (pos cell.lag ≡ shifted cell.node (moves g at_rest calls)))
                (λ cell c. (c.node, ap pos c.lag ∙ lag_calls g range.few calls cell.node c.node)) t.cells.items is.cells;
            latency = lag_calls g range.few calls g.output.node range.output_node;
          };
      channels = channels_answer g range (own_order g range all) p (sound_calls g range calls) fires t is m given events answers
          (puts_out_histories t (place_in (order g p)) ordered reached m given first last events answers loaded long ran);
      settled = λ last. let systolic = settled_calls g range all calls last in systolic_program g p fires t is systolic.0 systolic.1;
    }

-- and so of every well-defined design, by the words of its program
pub timing_holds : {E A : Type 0} → TimingHolds E A
timing_holds g range well calls t in-range words m first last loaded events answers ran =
    let p : Retiming = ended g at_rest calls in
    let all = all_listed g well in
    let fires = order_calls g range all calls in
    let same : t ≡ program_of g p = programs_tell t (program_of g p) in-range (table_in_range g range p (sound_calls g range calls) fires) (words ∙ program_table g p fires.whole) in
    timing g range all calls t (subst (ProgramOf g p) (sym same) (program_is g p fires)) m (length first.row) first last loaded refl events answers ran

pub loads : EmittedLoads
loads g range well calls =
    let all = all_listed g well in
    emitted_loads g range (ended g at_rest calls) (sound_calls g range calls) (order_calls g range all calls)
