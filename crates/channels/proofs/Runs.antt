-- Runs of a machine, an event at a time.
use Rattle.std.proofs.Common.{◌≡◌, ℕ, ◌+◌, ◌<◌, List, [], ◌∷◌, ◌++◌, length, take, get_or, Option, sym, refl, ap, subst}
use Rattle.std.proofs.lemmas.List.{take_more}
use Rattle.words.specs.declared.program_table.ProgramTable.{ProgramTable}
use Rattle.cells.specs.Meaning.{Meaning}
use Rattle.channels.specs.declared.events.Event.{Event}
use Rattle.channels.specs.Events.{State, Happens, Ran}

module _ {E A : Type 0} (t : ProgramTable) (m : Meaning E A) where
  pub ran_none : (first : State E) → Ran t m first [] [] first
  unfolding Ran
  ran_none first = (refl, refl)

  -- one event more
  ran_push : (events : List (Event E)) (first mid next : State E) (answers : List (Option E)) (event : Event E) (answer : Option E) → Ran t m first events answers mid →
      Happens t m event mid answer next → Ran t m first (events ++ event ∷ []) (answers ++ answer ∷ []) next
  unfolding Ran
  ran_push [] first mid next answers event answer ran now = (
    answer,
    [],
    next,
    ap (λ l. l ++ answer ∷ []) ran.0,
    subst (λ s. Happens t m event s answer next) ran.1 now,
    (refl, refl),
  )
  ran_push (e ∷ es) first mid next answers event answer ran now =
      (ran.0, ran.1 ++ answer ∷ [], ran.2, ap (λ l. l ++ answer ∷ []) ran.3, ran.4, ran_push es ran.2 mid next ran.1 event answer ran.5 now)

  -- in a list of events that is being gone through, with their answers in a row
  module _ (events : List (Event E)) (answers after : List (Option E)) (first mid next : State E) (k : ℕ) (d : Event E) (answer : Option E) where
    pub ran_more : k < length events → Ran t m first (take k events) (take k answers) mid → Happens t m (get_or events k d) mid answer next → take (k + 1) after ≡ take k answers ++ answer ∷ [] →
        Ran t m first (take (k + 1) events) (take (k + 1) after) next
    ran_more l ran now written =
        subst (λ row. Ran t m first (take (k + 1) events) row next) (sym written)
        (subst (λ es. Ran t m first es (take k answers ++ answer ∷ []) next) (sym (take_more events k d l)) (ran_push (take k events) first mid next (take k answers) (get_or events k d) answer ran now))
