-- The number of every question.
use Rattle.std.specs.Prelude.{ℕ}
use Rattle.words.specs.declared.faults.WordsQuestion.{WordsQuestion}
use Rattle.words.specs.declared.faults.WordsQuestion.TheVariants as words
use Rattle.words.specs.declared.faults.DesignQuestion.{DesignQuestion}
use Rattle.words.specs.declared.faults.DesignQuestion.TheVariants as design
use Rattle.words.specs.declared.faults.BenchQuestion.{BenchQuestion}
use Rattle.words.specs.declared.faults.BenchQuestion.TheVariants as bench
use Rattle.words.specs.declared.faults.MachineQuestion.{MachineQuestion}
use Rattle.words.specs.declared.faults.MachineQuestion.TheVariants as machine

abbrev pub words_number : WordsQuestion → ℕ
words_number words.Word = 1
words_number words.Kind = 2
words_number words.Range = 3
words_number words.Order = 4
words_number words.End = 5

abbrev pub design_number : DesignQuestion → ℕ
design_number design.CycleBuffer = 6
design_number design.WellDefined = 7

abbrev pub bench_number : BenchQuestion → ℕ
bench_number bench.Row = 8
bench_number bench.Shift = 9
bench_number bench.Lag = 10
bench_number bench.Delay = 11
bench_number bench.Factor = 12
bench_number bench.Slowdown = 13
bench_number bench.Buffer = 14

abbrev pub machine_number : MachineQuestion → ℕ
machine_number machine.Tap = 15
machine_number machine.Line = 16
machine_number machine.RestRow = 17
machine_number machine.Registers = 18
machine_number machine.Cycle = 19
machine_number machine.Times = 20
machine_number machine.History = 21
machine_number machine.Outputs = 22
