-- A design that goes the whole way.
use Rattle.std.proofs.Common.{◌≡◌, ℕ, ◌+◌, ◌<◌, ◌≤◌, min, Bool, true, false, cond, ltb, List, ◌++◌, length, take, drop, is_ok, is_some, Some, None, Ok, Err, Option, Result, sym, refl, ap, ◌∙◌, subst, ap₂, ⊎_elim, arith}
use Rattle.std.specs.Result.{MatchResult}
use Rattle.std.proofs.lemmas.Bool.{true≢false, false≢true, cases_lt}
use Rattle.std.proofs.lemmas.List.{take_all, drop_all, take_at, drop_at, append-nil}
use Rattle.words.specs.declared.design.Design.{Design}
use Rattle.words.specs.declared.faults.Fault.{Fault}
use Rattle.words.specs.declared.graph.Graph.{Graph}
use Rattle.words.specs.Designs.{InRange}
use Rattle.words.specs.ProgramEncoding.{encoded_program}
use Rattle.words.specs.ProgramTables.{ProgramInRange}
use Rattle.words.proofs.ProgramRanges.{program_ranges}
use Rattle.bench.specs.declared.bench.Bench.{Bench}
use Rattle.bench.specs.declared.calls.Call.{Call}
use Rattle.bench.specs.declared.retiming.Retiming.{Retiming}
use Rattle.bench.specs.Buffers.{Written, overlaid}
use Rattle.bench.specs.Calls.{ended}
use Rattle.bench.specs.Cycles.{Cycle, AllZero, WellDefined}
use Rattle.bench.specs.Opening.{Opened}
use Rattle.bench.specs.Programs.{program}
use Rattle.bench.specs.Refusals.{zero_cycle, too_short}
use Rattle.bench.specs.Retimings.{at_rest, latency}
use Rattle.cells.specs.Meaning.{Meaning}
use Rattle.machine.specs.declared.machine.Machine.{Machine}
use Rattle.machine.specs.Loads.{Loads, load_fault}
use Rattle.channels.specs.declared.events.Event.{Event}
use Rattle.channels.specs.Events.{Ran, state}
use Rattle.channels.specs.Timing.{Timing}
use Rattle.channels.specs.Whole.{Refused, Done, Goes, Whole}
use Rattle.channels.proofs.Timed.{timing_holds, loads}

-- what is written stands at the buffer's front
written_front : (items before after : List ℕ) (r : Result ℕ Fault) (n : ℕ) → Written items before after r → r ≡ Ok n → take n after ≡ items
written_front items before after r n w ok = by (ltb (length before) (length items)) (too_short (length before) (length items)) (sym w.answer ∙ ok) w.buffer
  where
    by : (b : Bool) (f : Fault) → ◌≡◌ {A = Result ℕ Fault} (cond b (Err f) (Ok (length items))) (Ok n) → after ≡ cond b before (overlaid before 0 items) → take n after ≡ items
    by true f e to = absurd (false≢true (ap is_ok e))
    by false f e to = let long : length items ≡ n = cc in ap (take n) to ∙ take_at items (drop (0 + length items) before) n long

-- a bench that opens
opened_well : (design : Design) (before after : List ℕ) (r : Result Bench Fault) (bench : Bench) → Opened design before after r → r ≡ Ok bench →
    WellDefined design.graph × (bench.design ≡ design) × (bench.retiming ≡ at_rest) × (after ≡ before)
opened_well design before after r bench o ok =
    ⊎_elim
    (λ (l : length before < design.graph.count). absurd (true≢false (ap is_ok (sym ok ∙ (o.short l).0))))
    (λ (l : design.graph.count ≤ length before).
    subst (λ s. MatchResult s (λ b. WellDefined design.graph × (b.design ≡ design) × (b.retiming ≡ at_rest) × (after ≡ before))
    (λ f. (c : List ℕ) × Cycle design.graph c × AllZero design.graph c × (f ≡ zero_cycle (length c)) × (after ≡ overlaid before 0 c))) ok (o.opens l))
    (cases_lt (length before) design.graph.count)

module _ (design : Design) (range : InRange design.graph) (calls : List Call) (cycle cycle_after : List ℕ) (opening : Result Bench Fault) (bench : Bench) (opened : Opened design cycle cycle_after opening) (opens : opening ≡ Ok bench)
    (g : Graph) (p : Retiming) (same_graph : g ≡ bench.design.graph) (moved : p ≡ ended bench.design.graph bench.retiming calls)
    (words words_after : List ℕ) (emits : Result ℕ Fault) (n : ℕ) (written : Written (program g p) words words_after emits) (fits : emits ≡ Ok n) where
  abbrev own : Graph
  own = design.graph

  abbrev last : Retiming
  last = ended design.graph at_rest calls

  well : WellDefined design.graph
  well = (opened_well design cycle cycle_after opening bench opened opens).0

  is_graph : g ≡ design.graph
  is_graph = same_graph ∙ ap (λ (d : Design). d.graph) (opened_well design cycle cycle_after opening bench opened opens).1

  is_last : p ≡ ended design.graph at_rest calls
  is_last =
      let o = opened_well design cycle cycle_after opening bench opened opens in
      moved ∙ ap₂ (λ (d : Design) q. ended d.graph q calls) o.1 o.2

  is_program : program g p ≡ program design.graph (ended design.graph at_rest calls)
  is_program = ap₂ program is_graph is_last

  emitted : take n words_after ≡ program design.graph (ended design.graph at_rest calls)
  emitted = written_front (program g p) words words_after emits n written fits ∙ is_program

  -- it is not refused by load
  pub never : (f : Fault) → load_fault (take n words_after) ≡ Some f → ⊥
  never f e = false≢true (ap is_some (sym (ap load_fault emitted ∙ loads design.graph range well calls) ∙ e))

  -- and where it is loaded and run, all is done
  module _ {E A : Type 0} (m : Meaning E A) (events : List (Event E)) (registers registers_after : List E) (answers new : List (Option E)) (pair : ℕ × ℕ) (timed : ◌≡◌ {A = ℕ × ℕ} pair (p.factor, latency g p))
      (loading : Result Machine Fault) (machine : Machine) (loaded : Loads (take n words_after) loading) (accepted : loading ≡ Ok machine)
      (turns cycles : ℕ) (few : turns ≡ min (length events) (length answers)) (long : length new ≡ turns)
      (ran : Ran machine.program.table m (state machine.cycle registers) (take turns events) new (state cycles registers_after)) where
    machine_is : (load_fault (take n words_after) ≡ None) × (encoded_program machine.program.table ≡ take n words_after) × (machine.cycle ≡ 0)
    machine_is =
        subst (λ s. MatchResult s (λ (k : Machine). (load_fault (take n words_after) ≡ None) × (encoded_program k.program.table ≡ take n words_after) × (k.cycle ≡ 0)) (λ f. load_fault (take n words_after) ≡ Some f))
        accepted loaded

    -- the events that were made, and their answers in the row
    made : (take turns events ≡ take (length answers) events) × (new ≡ take (length events) (new ++ drop turns answers)) × (drop (length events) (new ++ drop turns answers) ≡ drop (length events) answers)
    made =
        ⊎_elim
        (λ (l : length events < length answers).
        let all : turns ≡ length events = omega arith in (
          take_all turns events (omega arith) ∙ sym (take_all (length answers) events (omega arith)),
          sym (take_at new (drop turns answers) (length events) (omega arith)),
          drop_at new (drop turns answers) (length events) (omega arith) ∙ ap (λ k. drop k answers) all,
        ))
        (λ (l : length answers ≤ length events).
        let all : turns ≡ length answers = omega arith in
        let none : new ++ drop turns answers ≡ new = ap (λ l. new ++ l) (drop_all turns answers (omega arith)) ∙ append-nil new in (
          ap (λ k. take k events) all,
          sym (ap (take (length events)) none ∙ take_all (length events) new (omega arith)),
          ap (drop (length events)) none ∙ drop_all (length events) new (omega arith) ∙ sym (drop_all (length events) answers l),
        ))
        (cases_lt (length events) (length answers))

    whole_run : Ran machine.program.table m (state 0 registers) (take (length answers) events) (take (length events) (new ++ drop turns answers)) (state cycles registers_after)
    whole_run =
        subst (λ k. Ran machine.program.table m (state k registers) (take (length answers) events) (take (length events) (new ++ drop turns answers)) (state cycles registers_after)) machine_is.2
        (subst (λ es. Ran machine.program.table m (state machine.cycle registers) es (take (length events) (new ++ drop turns answers)) (state cycles registers_after)) made.0
        (subst (λ row. Ran machine.program.table m (state machine.cycle registers) (take turns events) row (state cycles registers_after)) made.1 ran))

    encodes : encoded_program machine.program.table ≡ program design.graph (ended design.graph at_rest calls)
    encodes = machine_is.1 ∙ emitted

    in_range : ProgramInRange machine.program.table
    in_range = program_ranges machine.program.table machine.program.in_range

    is_factor : (ended design.graph at_rest calls).factor ≡ pair.0
    is_factor = sym (ap (λ (x : ℕ × ℕ). x.0) timed ∙ ap (λ (q : Retiming). q.factor) is_last)

    is_latency : latency design.graph (ended design.graph at_rest calls) ≡ pair.1
    is_latency = sym (ap (λ (x : ℕ × ℕ). x.1) timed ∙ ap₂ latency is_graph is_last)

    promise : Timing design.graph calls machine.program.table pair.0 pair.1 m (length registers) (take (length answers) events) (take (length events) (new ++ drop turns answers))
    promise =
        subst (λ k. Timing design.graph calls machine.program.table k pair.1 m (length registers) (take (length answers) events) (take (length events) (new ++ drop turns answers))) is_factor
        (subst (λ l. Timing design.graph calls machine.program.table (ended design.graph at_rest calls).factor l m (length registers) (take (length answers) events) (take (length events) (new ++ drop turns answers))) is_latency
        (timing_holds design.graph range well calls machine.program.table in_range encodes m (state 0 registers) (state cycles registers_after) refl (take (length answers) events)
        (take (length events) (new ++ drop turns answers)) whole_run))

    done : Done calls m events registers answers registers_after (new ++ drop turns answers) (Ok pair) design.graph
    done =
        record {
          K = pair.0;
          L = pair.1;
          answered = refl;
          t = machine.program.table;
          in_range = in_range;
          emitted = encodes;
          cycle = cycles;
          ran = whole_run;
          past = made.2;
          timing = promise;
        }

    pub whole : Whole calls m events registers answers registers_after (new ++ drop turns answers) (Ok pair) design cycle cycle_after words words_after
    whole =
        record {
          opening = opening;
          opened = opened;
          goes =
              subst
              (λ s. MatchResult s (λ _. Goes calls m events registers answers registers_after (new ++ drop turns answers) (Ok pair) design.graph words words_after)
              (λ f. Refused calls m events registers answers registers_after (new ++ drop turns answers) (Ok pair) f × (words_after ≡ words))) (sym opens)
              (record {
                emits = emits;
                written = subst (λ items. Written items words words_after emits) is_program written;
                goes = subst (λ s. MatchResult s (λ _. Done calls m events registers answers registers_after (new ++ drop turns answers) (Ok pair) design.graph)
                    (Refused calls m events registers answers registers_after (new ++ drop turns answers) (Ok pair))) (sym fits) done;
              });
        }
