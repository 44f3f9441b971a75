-- A machine's registers keep time with the histories of its program's array, through starts and steps.
use Rattle.std.proofs.Common.{◌≡◌, ℕ, zero, suc, ◌+◌, Bool, true, false, List, [], ◌∷◌, ◌++◌, length, take, is_some, Some, None, Option, Ok, Result, sym, refl, ap, ◌∙◌, subst, ap₂, arith}
use Rattle.std.specs.List.{fold, slice_get}
use Rattle.std.specs.Option.{option_or}
use Rattle.std.specs.Result.{result_ok}
use Rattle.std.proofs.lemmas.Bool.{true≢false, false≢true}
use Rattle.std.proofs.lemmas.List.{length_push}
use Rattle.words.specs.declared.faults.Fault.{Fault}
use Rattle.words.specs.declared.program_table.ProgramTable.{ProgramTable}
use Rattle.words.specs.ProgramEncoding.{encoded_program}
use Rattle.words.specs.ProgramQuestions.{program_refused}
use Rattle.bench.specs.Refusals.{unless_kept}
use Rattle.cells.specs.Meaning.{Meaning}
use Rattle.machine.specs.Arrays.{array_in, rank_in, Ordered, Runs, put_out}
use Rattle.machine.specs.Buffers.{rest_in}
use Rattle.machine.specs.Machines.{registers_needed, registers_of, Stepped, StartAnswers, StepAnswers}
use Rattle.machine.specs.Refusals.{start_fault, step_fault}
use Rattle.machine.specs.Steps.{Reached, KeepTime, AtRest, Steps}
use Rattle.machine.specs.Loading.{tap_fault, line_fault}
use Rattle.machine.specs.Loads.{wiring_fault}
use Rattle.machine.proofs.Cycles.{determined}
use Rattle.machine.proofs.Loaded.{ordered, reached}
use Rattle.machine.proofs.Stepping.{at_rest_keep, keep_on, puts_out}
use Rattle.channels.specs.declared.events.Event.{Event}
use Rattle.channels.specs.declared.events.Event.TheVariants.{Start, Step}
use Rattle.channels.specs.Events.{State, Happens, Ran, Told, nothing, tell, BeginsWith, PutsOutHistories, RunsPutOut}
use Rattle.channels.proofs.Begins.{begins_old, begins_last}

module _ {E A : Type 0} (t : ProgramTable) (rank : ℕ → ℕ) (ordered : Ordered (array_in t) rank) (reached : Reached (array_in t) t.lines.items) (m : Meaning E A) (given : ℕ) where
  -- A machine stands as it was told: its cycle is the number of inputs, and its registers keep time with every history of its array, from the rest
  -- row that it was told, on any input that begins with those that it was told.
  record Keeps (told : Told E) (s : State E) : Type 0 where
    cycle : s.cycle ≡ length told.inputs
    long : length s.row ≡ given
    keep : (rest : List E) → told.rest ≡ Some rest → (d : E) (x : ℕ → E) → BeginsWith x told.inputs → (u : ℕ → ℕ → E) → Runs (array_in t) m (rest_in t.count rest d) x u →
        KeepTime (array_in t) t.lines.items (rest_in t.count rest d) x u s.cycle (registers_of t s.row d)

  keeps_loaded : (s : State E) → s.cycle ≡ 0 → length s.row ≡ given → Keeps nothing s
  keeps_loaded s first long =
      record { cycle = first; long = long; keep = λ rest e. absurd (false≢true (ap is_some e)) }

  -- nothing is changed
  keeps_same : (told : Told E) (s next : State E) → next.row ≡ s.row → next.cycle ≡ s.cycle → Keeps told s → Keeps told next
  keeps_same told s next row cycle k =
      record {
        cycle = cycle ∙ k.cycle;
        long = ap length row ∙ k.long;
        keep = λ rest e d x b u runs.
            subst (λ c. KeepTime (array_in t) t.lines.items (rest_in t.count rest d) x u c (registers_of t next.row d)) (sym cycle)
            (subst (λ r. KeepTime (array_in t) t.lines.items (rest_in t.count rest d) x u s.cycle (registers_of t r d)) (sym row) (k.keep rest e d x b u runs));
      }

  keeps_start : (told : Told E) (s next : State E) (rest : List E) (r : Result (Unit {0}) Fault) → StartAnswers t rest s.row next.row s.cycle next.cycle r → Keeps told s →
      (o : Option Fault) → start_fault t.count (registers_needed t) (length rest) given ≡ o → Keeps (unless_kept o (record { rest = Some rest; inputs = [] }) told) next
  keeps_start told s next rest r answers k (Some f) e =
      let kept = answers.refuses f (ap (start_fault t.count (registers_needed t) (length rest)) k.long ∙ e) in
      keeps_same told s next kept.1 kept.2 k
  keeps_start told s next rest r answers k None e =
      let done = answers.starts (ap (start_fault t.count (registers_needed t) (length rest)) k.long ∙ e) in
      record {
        cycle = done.2;
        long = done.1.kept.long ∙ k.long;
        keep = λ other same d x b u runs.
            let is : ◌≡◌ {A = List E} rest other = cc in
            subst (λ c. KeepTime (array_in t) t.lines.items (rest_in t.count other d) x u c (registers_of t next.row d)) (sym done.2)
            (at_rest_keep (array_in t) t.lines.items (rest_in t.count other d) x u (registers_of t next.row d) (subst (λ l. AtRest (array_in t) t.lines.items (rest_in t.count l d) (registers_of t next.row d)) is (done.1.filled d)));
      }

  -- a step goes on in time, and puts out what the history puts out
  module _ (told : Told E) (s next : State E) (input : E) (r : Result E Fault) (answers : StepAnswers t m input s.row next.row s.cycle next.cycle r) (k : Keeps told s) where
    same_fault : step_fault (registers_needed t) (length s.row) s.cycle ≡ step_fault (registers_needed t) given (length told.inputs)
    same_fault = ap₂ (step_fault (registers_needed t)) k.long k.cycle

    module _ (accepted : step_fault (registers_needed t) given (length told.inputs) ≡ None) (rest : List E) (started : told.rest ≡ Some rest) (d : E)
        (x : ℕ → E) (b : BeginsWith x (told.inputs ++ input ∷ [])) (u : ℕ → ℕ → E) (runs : Runs (array_in t) m (rest_in t.count rest d) x u) where
      abbrev done : (y : E) × (r ≡ Ok y) × Stepped t m s.cycle input s.row next.row y × (next.cycle ≡ s.cycle + 1)
      done = answers.steps (same_fault ∙ accepted)

      kept : KeepTime (array_in t) t.lines.items (rest_in t.count rest d) x u s.cycle (registers_of t s.row d)
      kept = k.keep rest started d x (begins_old x told.inputs (input ∷ []) b) u runs

      stepped : Steps (array_in t) t.lines.items m s.cycle (x s.cycle) (registers_of t s.row d) (registers_of t next.row d) done.0
      stepped =
          let now : x s.cycle ≡ input = ap x k.cycle ∙ begins_last x told.inputs input b in
          subst (λ e. Steps (array_in t) t.lines.items m s.cycle e (registers_of t s.row d) (registers_of t next.row d) done.0) (sym now) (done.2.steps d)

      step_answered : result_ok r ≡ Some (put_out (array_in t) (rest_in t.count rest d) u (length told.inputs))
      step_answered =
          ap result_ok done.1
          ∙ ap Some
          (puts_out (array_in t) t.lines.items rank ordered reached m (rest_in t.count rest d) x u runs s.cycle (registers_of t s.row d) (registers_of t next.row d) done.0 stepped kept
          ∙ ap (put_out (array_in t) (rest_in t.count rest d) u) k.cycle)

      step_kept : KeepTime (array_in t) t.lines.items (rest_in t.count rest d) x u next.cycle (registers_of t next.row d)
      step_kept =
          subst (λ c. KeepTime (array_in t) t.lines.items (rest_in t.count rest d) x u c (registers_of t next.row d)) (sym done.3)
          (keep_on (array_in t) t.lines.items rank ordered reached m (rest_in t.count rest d) x u runs s.cycle (registers_of t s.row d) (registers_of t next.row d) done.0 stepped kept)

    keeps_step : (o : Option Fault) → step_fault (registers_needed t) given (length told.inputs) ≡ o → Keeps (unless_kept o (record { rest = told.rest; inputs = told.inputs ++ input ∷ [] }) told) next
    keeps_step (Some f) e =
        let same = answers.refuses f (same_fault ∙ e) in
        keeps_same told s next same.1 same.2 k
    keeps_step None e =
        let done = answers.steps (same_fault ∙ e) in
        record {
          cycle = omega (arith, done.3, k.cycle, length_push told.inputs input);
          long = done.2.kept.long ∙ k.long;
          keep = λ rest started d x b u runs. step_kept e rest started d x b u runs;
        }

  -- an event keeps them in time
  keeps_event : (told : Told E) (s next : State E) (event : Event E) (answer : Option E) → Happens t m event s answer next → Keeps told s → Keeps (tell t given told event) next
  keeps_event told s next (Start rest) answer h k = keeps_start told s next rest.now h.0 h.1 k (start_fault t.count (registers_needed t) (length rest.now) given) refl
  keeps_event told s next (Step input) answer h k = keeps_step told s next input h.0 h.1 k (step_fault (registers_needed t) given (length told.inputs)) refl

  -- and so does a list of events: a step in it puts out what the histories put out
  ran_puts_out : (events : List (Event E)) (told : Told E) (first last : State E) (answers : List (Option E)) → Ran t m first events answers last → Keeps told first →
      (k : ℕ) (rest inputs : List E) (input : E) → slice_get events k ≡ Some (Step input) → (fold (tell t given) told (take k events)).rest ≡ Some rest →
      (fold (tell t given) told (take k events)).inputs ≡ inputs → step_fault (registers_needed t) given (length inputs) ≡ None → (d : E) (x : ℕ → E) → BeginsWith x (inputs ++ input ∷ []) →
      (u : ℕ → ℕ → E) → Runs (array_in t) m (rest_in t.count rest d) x u → slice_get answers k ≡ Some (Some (put_out (array_in t) (rest_in t.count rest d) u (length inputs)))
  unfolding Ran
  ran_puts_out [] told first last answers ran keeps k rest inputs input event started taken accepted d x b u runs = absurd (false≢true (ap is_some event))
  ran_puts_out (Start row ∷ events) told first last answers ran keeps zero rest inputs input event started taken accepted d x b u runs = absurd (false≢true (ap is_step event))
    where
      is_step : Option (Event E) → Bool
      is_step None = false
      is_step (Some (Start row)) = false
      is_step (Some (Step input)) = true
  ran_puts_out (Step taken_in ∷ events) told first last answers ran keeps zero rest inputs input event started taken accepted d x b u runs =
      let same : ◌≡◌ {A = E} taken_in input = cc in
      let long : length told.inputs ≡ length inputs = ap length taken in
      let b' : BeginsWith x (told.inputs ++ taken_in ∷ []) = subst (λ l. BeginsWith x (l ++ taken_in ∷ [])) (sym taken) (subst (λ e. BeginsWith x (inputs ++ e ∷ [])) (sym same) b) in
      ap (λ l. slice_get l 0) ran.3
      ∙ ap Some
      (ran.4.2
      ∙ step_answered told first ran.2 taken_in ran.4.0 ran.4.1 keeps (ap (step_fault (registers_needed t) given) long ∙ accepted) rest started d x b' u runs
      ∙ ap (λ τ. Some (put_out (array_in t) (rest_in t.count rest d) u τ)) long)
  ran_puts_out (event ∷ events) told first last answers ran keeps (suc k) rest inputs input here started taken accepted d x b u runs =
      ap (λ l. slice_get l (suc k)) ran.3
      ∙ ran_puts_out events (tell t given told event) ran.2 last ran.1 ran.5 (keeps_event told first ran.2 event ran.0 ran.4 keeps) k rest inputs input here started taken accepted d x b u runs

  pub puts_out_histories : (first last : State E) (events : List (Event E)) (answers : List (Option E)) → first.cycle ≡ 0 → length first.row ≡ given → Ran t m first events answers last →
      PutsOutHistories t m given events answers
  puts_out_histories first last events answers loaded long ran k rest inputs input at d x b u runs =
      ran_puts_out events nothing first last answers ran (keeps_loaded first loaded long) k rest inputs input at.event at.started at.taken at.accepted d x b u runs

-- where neither of two questions is answered no
both_pass : (a b : Option Fault) → option_or a b ≡ None → (a ≡ None) × (b ≡ None)
both_pass None b h = (refl, h)
both_pass (Some f) b h = absurd (true≢false (ap is_some h))

-- and so of every program that load accepts
pub runs_put_out : {E A : Type 0} → RunsPutOut E A
runs_put_out t range loads m =
    let words = encoded_program t in
    let asked = both_pass (program_refused words) (wiring_fault words) loads in
    let wired = both_pass (tap_fault words) (line_fault words) asked.1 in
    let order : Ordered (array_in t) (rank_in t) = ordered t range wired.0 in (
      λ rest x. determined (array_in t) (rank_in t) order m rest x,
      λ first last loaded events answers ran. puts_out_histories t (rank_in t) order (reached t range wired.1) m (length first.row) first last events answers loaded refl ran,
    )
