-- Every refusal of the machine and of the simulator: its question, its layer and its places.
use Rattle.std.specs.Prelude.{ℕ, ◌+◌, ◌*◌, cond, Some, None, Option, ◌==◌, nat_le, nat_lt}
use Rattle.words.specs.declared.faults.Fault.{Fault}
use Rattle.words.specs.Refusals.{machine_fault}
use Rattle.words.specs.declared.faults.MachineQuestion.TheVariants as question

-- the most times that are simulated
abbrev pub max_times : ℕ
max_times = 65536

-- 15: does each tap of delay 0 from a node read an earlier cell? The tap's index.
abbrev pub late_cell : ℕ → Fault
late_cell index = machine_fault question.Tap index 0

-- 16: is each line length as defined? The line's index.
abbrev pub wrong_line : ℕ → Fault
wrong_line index = machine_fault question.Line index 0

-- 17: has the rest row n + 1 elements? The length given, and the length needed.
abbrev pub wrong_rest : ℕ → ℕ → Fault
wrong_rest given needed = machine_fault question.RestRow given needed

-- 18: are there enough registers? The number given, and the number needed.
abbrev pub few_registers : ℕ → ℕ → Fault
few_registers given needed = machine_fault question.Registers given needed

-- how many cycles a machine steps after a start
abbrev pub max_cycles : ℕ
max_cycles = 1073741824

-- 19: is the cycle below 1,073,741,824? The cycle.
abbrev pub too_late : ℕ → Fault
too_late cycle = machine_fault question.Cycle cycle 0

-- 20: is T at most 65,536? T, and 65,536.
abbrev pub too_long : ℕ → Fault
too_long times = machine_fault question.Times times max_times

-- 21: has the history n × T places? The length given, and the length needed.
abbrev pub short_history : ℕ → ℕ → Fault
short_history given needed = machine_fault question.History given needed

-- 22: has the output row T places? The length given, and the length needed.
abbrev pub short_outputs : ℕ → ℕ → Fault
short_outputs given needed = machine_fault question.Outputs given needed

-- the simulator's questions in order, of the lengths that it is given: 17, 20, 21, 22
unfoldable pub simulate_fault : ℕ → ℕ → ℕ → ℕ → ℕ → Option Fault
simulate_fault n rest times history outputs =
    cond (rest == n + 1)
    (cond (nat_le times max_times)
    (cond (nat_le (n * times) history) (cond (nat_le times outputs) None (Some (short_outputs outputs times))) (Some (short_history history (n * times))))
    (Some (too_long times)))
    (Some (wrong_rest rest (n + 1)))

-- start's questions in order, of the lengths that it is given for n nodes: 17, 18
unfoldable pub start_fault : ℕ → ℕ → ℕ → ℕ → Option Fault
start_fault n needed rest registers =
    cond (rest == n + 1) (cond (nat_le needed registers) None (Some (few_registers registers needed))) (Some (wrong_rest rest (n + 1)))

-- step's questions in order, of the numbers of registers that it needs and is given, and of the cycle: 18, 19
unfoldable pub step_fault : ℕ → ℕ → ℕ → Option Fault
step_fault needed registers cycle =
    cond (nat_le needed registers) (cond (nat_lt cycle max_cycles) None (Some (too_late cycle))) (Some (few_registers registers needed))
