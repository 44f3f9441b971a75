-- A design the whole way, on the calls themselves: opened, moved, timed, emitted, loaded, started and stepped. What is answered and left.
use Rattle.std.specs.Prelude.{◌≡◌, ℕ, List, length, take, drop, Ok, Err, Option, Result, MatchResult}
use Rattle.words.specs.declared.design.Design.{Design}
use Rattle.words.specs.declared.faults.Fault.{Fault}
use Rattle.words.specs.declared.graph.Graph.{Graph}
use Rattle.words.specs.declared.program_table.ProgramTable.{ProgramTable}
use Rattle.words.specs.ProgramEncoding.{encoded_program}
use Rattle.words.specs.ProgramTables.{ProgramInRange}
use Rattle.bench.specs.declared.bench.Bench.{Bench}
use Rattle.bench.specs.declared.calls.Call.{Call}
use Rattle.bench.specs.Buffers.{Written}
use Rattle.bench.specs.Calls.{ended}
use Rattle.bench.specs.Opening.{Opened}
use Rattle.bench.specs.Programs.{program}
use Rattle.bench.specs.Retimings.{at_rest}
use Rattle.cells.specs.Meaning.{Meaning}
use Rattle.channels.specs.declared.events.Event.{Event}
use Rattle.channels.specs.Events.{Ran, state}
use Rattle.channels.specs.Timing.{Timing}

module _ {E A : Type 0} (calls : List Call) (m : Meaning E A) (events : List (Event E)) (registers : List E) (answers : List (Option E)) (registers_after : List E) (answers_after : List (Option E))
    (r : Result (ℕ × ℕ) Fault) where
  -- It is refused, and no register and no answer is touched.
  pub record Refused (f : Fault) : Type 0 where
    pub refused : r ≡ Err f
    pub registers_kept : registers_after ≡ registers
    pub answers_kept : answers_after ≡ answers

  -- K and L are answered. A machine at cycle 0 has run the program that was emitted, through as many of the events as there are answers, and the timing
  -- promise holds of it. All answers past the events are as they were.
  pub record Done (g : Graph) : Type 0 where
    pub K : ℕ
    pub L : ℕ
    pub answered : r ≡ Ok (K, L)
    pub t : ProgramTable
    pub in_range : ProgramInRange t
    pub emitted : encoded_program t ≡ program g (ended g at_rest calls)
    pub cycle : ℕ
    pub ran : Ran t m (state 0 registers) (take (length answers) events) (take (length events) answers_after) (state cycle registers_after)
    pub past : drop (length events) answers_after ≡ drop (length events) answers
    pub timing : Timing g calls t K L m (length registers) (take (length answers) events) (take (length events) answers_after)

  -- Of a bench that is open: its program is emitted after the calls, and where it fits, all is done.
  pub record Goes (g : Graph) (words words_after : List ℕ) : Type 0 where
    pub emits : Result ℕ Fault
    pub written : Written (program g (ended g at_rest calls)) words words_after emits
    pub goes : MatchResult emits (λ _. Done g) Refused

  -- Of a design: a bench is opened, and where it opens, all goes on. Else no word is written.
  pub record Whole (design : Design) (cycle cycle_after words words_after : List ℕ) : Type 0 where
    pub opening : Result Bench Fault
    pub opened : Opened design cycle cycle_after opening
    pub goes : MatchResult opening (λ _. Goes design.graph words words_after) (λ f. Refused f × (words_after ≡ words))
