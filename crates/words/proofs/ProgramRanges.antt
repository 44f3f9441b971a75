-- A program's ranges, out of the fact that its type carries.
use Rattle.std.proofs.Common.{◌≡◌, ℕ}
use mathlib.Core.Bool.{Bool-set}
use mathlib.Core.Logic.{∥∥₁_elim}
use native.Mathlib.Bridge.{le_prop}
use native.Mathlib.Nat.{ℕ_set}
use Rattle.words.specs.declared.program_table.Tap.{Tap}
use Rattle.words.specs.declared.program_table.Cell.{Cell}
use Rattle.words.specs.declared.program_table.ProgramTable.{ProgramTable}
use Rattle.words.specs.ProgramTables.{TapInRange, CellInRange, ProgramInRange}

tap_prop : (n : ℕ) (t : Tap) (p q : TapInRange n t) → p ≡ q
tap_prop n t p q = λ i. record { source = Bool-set _ _ p.source q.source i; delay = le_prop p.delay q.delay i }

cell_prop : (n : ℕ) (c : Cell) (p q : CellInRange n c) → p ≡ q
cell_prop n c p q =
    λ i.
    record {
      node = le_prop p.node q.node i;
      operation = le_prop p.operation q.operation i;
      lag = le_prop p.lag q.lag i;
      taps = λ k d l. tap_prop _ _ (p.taps k d l) (q.taps k d l) i;
      ascending = λ j k d l m. le_prop (p.ascending j k d l m) (q.ascending j k d l m) i;
    }

program_prop : (t : ProgramTable) (p q : ProgramInRange t) → p ≡ q
program_prop t p q =
    λ i.
    record {
      some = le_prop p.some q.some i;
      few = le_prop p.few q.few i;
      slowed = le_prop p.slowed q.slowed i;
      slow = le_prop p.slow q.slow i;
      lines = ℕ_set _ _ p.lines q.lines i;
      lengths = λ k d l. le_prop (p.lengths k d l) (q.lengths k d l) i;
      cells = ℕ_set _ _ p.cells q.cells i;
      ranges = λ k d l. cell_prop _ _ (p.ranges k d l) (q.ranges k d l) i;
      apart = λ j k d l m e. absurd {A = p.apart j k d l m e ≡ q.apart j k d l m e} (p.apart j k d l m e) i;
      output_node = le_prop p.output_node q.output_node i;
      output_delay = le_prop p.output_delay q.output_delay i;
    }

pub program_ranges : (t : ProgramTable) → ∥ ProgramInRange t ∥₁ → ProgramInRange t
program_ranges t p = ∥∥₁_elim p (program_prop t) (λ r. r)
