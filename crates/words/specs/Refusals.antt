-- A refusal by each layer: its question and its places; and every refusal of the word reader.
use Rattle.std.specs.Prelude.{ℕ, Option, Result}
use Rattle.std.specs.Option.{ok_or}
use Rattle.words.specs.declared.faults.Fault.{Fault}
use Rattle.words.specs.declared.faults.Fault.TheVariants.{Words, Design, Bench, Machine}
use Rattle.words.specs.declared.faults.WordsQuestion.{WordsQuestion}
use Rattle.words.specs.declared.faults.WordsQuestion.TheVariants as question
use Rattle.words.specs.declared.faults.DesignQuestion.{DesignQuestion}
use Rattle.words.specs.declared.faults.BenchQuestion.{BenchQuestion}
use Rattle.words.specs.declared.faults.MachineQuestion.{MachineQuestion}

abbrev pub words_fault : WordsQuestion → ℕ → Fault
words_fault asked index = Words (record { question = asked; place = index; other = 0 })

abbrev pub design_fault : DesignQuestion → ℕ → ℕ → Fault
design_fault asked place other = Design (record { question = asked; place = place; other = other })

abbrev pub bench_fault : BenchQuestion → ℕ → ℕ → Fault
bench_fault asked place other = Bench (record { question = asked; place = place; other = other })

abbrev pub machine_fault : MachineQuestion → ℕ → ℕ → Fault
machine_fault asked place other = Machine (record { question = asked; place = place; other = other })

-- 1: is there a word here?
abbrev pub no_word : ℕ → Fault
no_word index = words_fault question.Word index

-- 2: may its kind stand here?
abbrev pub misplaced : ℕ → Fault
misplaced index = words_fault question.Kind index

-- 3: are unnamed bits zero and all fields in range?
abbrev pub out_of_range : ℕ → Fault
out_of_range index = words_fault question.Range index

-- 4: is a node or line the next in order, a cell new, a feed or tap above the last one of its node or cell?
abbrev pub out_of_order : ℕ → Fault
out_of_order index = words_fault question.Order index

-- 5: at the end word, is its count right and is it the last given?
abbrev pub wrong_end : ℕ → Fault
wrong_end index = words_fault question.End index

-- a word's kind where there is one, and else the question whether it may stand
abbrev pub known_kind : {K : Type 0} → Option K → Result K WordsQuestion
known_kind k = ok_or k question.Kind

-- a refusal's first place
abbrev pub place_of : Fault → ℕ
place_of (Words f) = f.place
place_of (Design f) = f.place
place_of (Bench f) = f.place
place_of (Machine f) = f.place
