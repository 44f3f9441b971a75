-- The machine of design E, settled, for seven steps.
use Rattle.std.proofs.Common.{◌≡◌, ℕ, zero, suc, ◌+◌, ◌<◌, ◌≤◌, List, [], ◌∷◌, ◌++◌, map, length, take, get_or, ℤ, pos, is_some, Some, None, Option, sym, refl, ap, ◌∙◌, subst, append_assoc, le-leb, lt-ltb, arith}
use Rattle.std.specs.List.{fold, slice_get}
use Rattle.std.proofs.lemmas.Bool.{false≢true, cond-true, eq-eqb}
use Rattle.std.proofs.lemmas.List.{take-map, length-take-le, length_push, append-nil}
use Rattle.words.specs.declared.program_table.ProgramTable.{ProgramTable}
use Rattle.words.specs.ProgramEncoding.{encoded_program}
use Rattle.words.specs.ProgramTables.{ProgramInRange}
use Rattle.words.proofs.ProgramTelling.{programs_tell}
use Rattle.bench.specs.declared.calls.Call.TheVariants.{Settle}
use Rattle.bench.specs.Calls.{ended}
use Rattle.bench.specs.First.{first}
use Rattle.bench.specs.Firing.{has, place_in, listed_after}
use Rattle.bench.specs.Moves.{moved}
use Rattle.bench.specs.Orders.{Ranked}
use Rattle.bench.specs.Refusals.{unless_kept}
use Rattle.bench.specs.Retimings.{Sound, at_rest, order, current_delay}
use Rattle.bench.specs.Tables.{program_of}
use Rattle.bench.proofs.Ended.{sound_calls, order_calls}
use Rattle.bench.proofs.Tabled.{program_table, table_in_range}
use Rattle.cells.specs.declared.weights.Weight.{Weight}
use Rattle.cells.specs.Sums.{whole_meaning}
use Rattle.machine.specs.Arrays.{array_of, array_in, ArrayDetermined, put_out}
use Rattle.machine.specs.Buffers.{rest_in}
use Rattle.machine.specs.Machines.{registers_needed}
use Rattle.machine.specs.ProgramArrays.{ProgramOf}
use Rattle.machine.specs.Refusals.{start_fault, step_fault}
use Rattle.machine.proofs.Alike.{runs_alike, put_out_alike}
use Rattle.machine.proofs.Cycles.{determined}
use Rattle.machine.proofs.ProgramArrays.{program_alike, program_ordered, program_reached, program_is}
use Rattle.channels.specs.declared.events.Event.{Event}
use Rattle.channels.specs.declared.events.Event.TheVariants.{Start, Step}
use Rattle.channels.specs.Events.{State, Ran, Told, nothing, tell, told_by, StepAt}
use Rattle.channels.specs.Examples.{design_e, program_of_e}
use Rattle.channels.specs.Worked.{settled_e, CellsOfE, inputs_of_e, steps_of_e, StartsFrom}
use Rattle.channels.proofs.Computed.{e_settles, e_program}
use Rattle.channels.proofs.InRange.{e_in_range}
use Rattle.channels.proofs.Running.{puts_out_histories}
use Rattle.channels.proofs.Steps.{e_puts_out}

-- what stands at a place of a list's front and of the element after it stands there in the list
begins : {E : Type 0} (xs : List E) (k τ : ℕ) (d y : E) → k < length xs → slice_get (take k xs ++ get_or xs k d ∷ []) τ ≡ Some y → get_or xs τ d ≡ y
begins [] k τ d y l e = absurd (omega arith)
begins (x ∷ xs) zero zero d y l e = cc
begins (x ∷ xs) zero (suc τ) d y l e = absurd (false≢true (ap is_some e))
begins (x ∷ xs) (suc k) zero d y l e = cc
begins (x ∷ xs) (suc k) (suc τ) d y l e = begins xs k τ d y (omega arith) e

-- accepted steps are told in order
told_steps : {E : Type 0} (t : ProgramTable) (given : ℕ) → ((n : ℕ) → n < 7 → step_fault (registers_needed t) given n ≡ None) → (told : Told E) (xs : List E) → length told.inputs + length xs ≤ 7 →
    fold (tell t given) told (map (λ x. Step x) xs) ≡ record { rest = told.rest; inputs = told.inputs ++ xs }
told_steps t given accepted told [] l = ap (λ inputs. record { rest = told.rest; inputs = inputs }) (sym (append-nil told.inputs))
told_steps {E} t given accepted told (x ∷ xs) l =
    let next : Told E = record { rest = told.rest; inputs = told.inputs ++ x ∷ [] } in
    ap (λ o. fold (tell t given) (unless_kept o next told) (map (λ x. Step x) xs)) (accepted (length told.inputs) (omega arith))
    ∙ told_steps t given accepted next xs (omega (arith, length_push told.inputs x))
    ∙ ap (λ inputs. record { rest = told.rest; inputs = inputs }) (append_assoc told.inputs (x ∷ []) xs)

all : length (order design_e at_rest) ≡ 2
unfolding moved first has place_in listed_after
all = refl

settles : ended design_e at_rest (Settle ∷ []) ≡ settled_e
unfolding ended
settles = ap (λ o. unless_kept o settled_e at_rest) e_settles

fires : Ranked 2 (current_delay design_e settled_e) (order design_e settled_e)
fires = subst (λ p. Ranked 2 (current_delay design_e p) (order design_e p)) settles (order_calls design_e e_in_range all (Settle ∷ []))

sound : Sound design_e settled_e
sound = subst (Sound design_e) settles (sound_calls design_e e_in_range (Settle ∷ []))

module _ (t : ProgramTable) (range : ProgramInRange t) (words : encoded_program t ≡ program_of_e) where
  is : ProgramOf design_e settled_e t
  is =
      subst (ProgramOf design_e settled_e)
      (sym (programs_tell t (program_of design_e settled_e) range (table_in_range design_e e_in_range settled_e sound fires) (words ∙ sym e_program ∙ program_table design_e settled_e fires.whole)))
      (program_is design_e settled_e fires)

module _ (t : ProgramTable) (own : ProgramOf design_e settled_e t) (given : ℕ) (enough : registers_needed t ≤ given) where
  -- with enough registers the start is accepted
  started : start_fault t.count (registers_needed t) 3 given ≡ None
  unfolding start_fault
  started = cond-true _ _ _ (eq-eqb 3 (t.count + 1) (omega (arith, own.count))) ∙ cond-true _ _ _ (le-leb (registers_needed t) given enough)

-- and so are the steps
accepted : (t : ProgramTable) (given : ℕ) → registers_needed t ≤ given → (n : ℕ) → n < 7 → step_fault (registers_needed t) given n ≡ None
unfolding step_fault
accepted t given enough n l = cond-true _ _ _ (le-leb (registers_needed t) given enough) ∙ cond-true _ _ _ (lt-ltb n 1073741824 (omega arith))

-- the step at a place of a list of steps
step_in : {E : Type 0} (xs : List E) (k : ℕ) (d : E) → k < length xs → slice_get (map (λ x. Step x) xs) k ≡ Some (Step (get_or xs k d))
step_in [] k d l = absurd (omega arith)
step_in (x ∷ xs) zero d l = refl
step_in (x ∷ xs) (suc k) d l = step_in xs k d (omega arith)

pub e_steps : (table : List (Weight ℤ)) → CellsOfE table → (t : ProgramTable) → ProgramInRange t → encoded_program t ≡ program_of_e →
    (first last : State ℤ) → first.cycle ≡ 0 → registers_needed t ≤ length first.row → (start : Event ℤ) → StartsFrom (pos 0 ∷ pos 0 ∷ pos 0 ∷ []) start →
    (answers : List (Option ℤ)) → Ran t (whole_meaning table) first (start ∷ map (λ input. Step input) inputs_of_e) answers last →
    (k : ℕ) → k < 7 → slice_get answers (k + 1) ≡ Some (Some (get_or steps_of_e k (pos 0)))
e_steps table cells t range words first last loaded enough (Step input) from answers ran k l = absurd from
e_steps table cells t range words first last loaded enough (Start rest) from answers ran k l =
    let m = whole_meaning table in
    let own : ProgramOf design_e settled_e t = is t range words in
    let given : ℕ = length first.row in
    let steps : List (Event ℤ) = map (λ x. Step x) inputs_of_e in
    let begun : Told ℤ = record { rest = Some rest.now; inputs = [] } in
    let taken : List ℤ = take k inputs_of_e in
    let long : length taken ≡ k = length-take-le k inputs_of_e (omega arith) in
    let accepts = accepted t given enough in
    let filled : start_fault t.count (registers_needed t) (length rest.now) given ≡ None =
    ap (λ r. start_fault t.count (registers_needed t) (length r) given) from ∙ started t own given enough in
    let told : told_by t given (take (suc k) (Start rest ∷ steps)) ≡ record { rest = Some rest.now; inputs = taken } =
    ap (fold (tell t given) (tell t given nothing (Start rest))) (take-map (λ x. Step x) k inputs_of_e)
    ∙ ap (λ o. fold (tell t given) (unless_kept o begun nothing) (map (λ x. Step x) taken)) filled
    ∙ told_steps t given accepts begun taken (omega (arith, long)) in
    let input : ℤ = get_or inputs_of_e k (pos 0) in
    let at : StepAt t given (Start rest ∷ steps) (suc k) rest.now taken input =
    record { event = step_in inputs_of_e k (pos 0) l; started = ap (λ (told : Told ℤ). told.rest) told; taken = ap (λ (told : Told ℤ). told.inputs) told; accepted = accepts (length taken) (omega (arith, long)) } in
    let ρ : ℕ → ℤ = rest_in t.count rest.now (pos 0) in
    let x : ℕ → ℤ = λ τ. get_or inputs_of_e τ (pos 0) in
    let ordered = program_ordered design_e settled_e fires t own e_in_range in
    let array : ArrayDetermined (array_in t) m ρ x = determined (array_in t) (place_in (order design_e settled_e)) ordered m ρ x in
    let alike = program_alike design_e settled_e fires t own in
    let out : put_out (array_in t) ρ array.history (length taken) ≡ get_or steps_of_e k (pos 0) =
    put_out_alike (array_in t) (array_of design_e settled_e) alike ρ array.history (length taken)
    ∙ ap (put_out (array_of design_e settled_e) ρ array.history) long
    ∙ e_puts_out table cells ρ x array.history (runs_alike (array_in t) (array_of design_e settled_e) alike m ρ x array.history array.runs)
    (ap (λ r. rest_in t.count r (pos 0) 0) from) (λ τ within. refl) k l in
    ap (slice_get answers) {x = k + 1} {y = suc k} (omega arith)
    ∙ puts_out_histories t (place_in (order design_e settled_e)) ordered (program_reached design_e settled_e fires t own e_in_range) m given first last (Start rest ∷ steps) answers loaded refl ran
    (suc k) rest.now taken input at (pos 0) x (λ τ y e. begins inputs_of_e k τ (pos 0) y l e) array.history array.runs
    ∙ ap (λ y. Some (Some y)) out
