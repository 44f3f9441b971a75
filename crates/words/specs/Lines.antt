-- The line that a refusal is printed as.
use Rattle.std.specs.Prelude.{ℕ, List, ◌++◌, codes, decimal}
use Rattle.words.specs.declared.faults.Fault.{Fault}
use Rattle.words.specs.declared.faults.Fault.TheVariants.{Words, Design, Bench, Machine}
use Rattle.words.specs.Numbers.{words_number, design_number, bench_number, machine_number}

-- the layers' names
abbrev pub words_layer : List ℕ
words_layer = codes "words"

abbrev pub design_layer : List ℕ
design_layer = codes "design"

abbrev pub bench_layer : List ℕ
bench_layer = codes "bench"

abbrev pub machine_layer : List ℕ
machine_layer = codes "machine"

-- `refused`, the question's number, the layer's name and the two places, in decimal, with single spaces
abbrev pub spelled : ℕ → List ℕ → ℕ → ℕ → List ℕ
spelled number layer place other =
    codes "refused " ++ (decimal number ++ (codes " " ++ (layer ++ (codes " " ++ (decimal place ++ (codes " " ++ decimal other))))))

abbrev pub line : Fault → List ℕ
line (Words f) = spelled (words_number f.question) words_layer f.place f.other
line (Design f) = spelled (design_number f.question) design_layer f.place f.other
line (Bench f) = spelled (bench_number f.question) bench_layer f.place f.other
line (Machine f) = spelled (machine_number f.question) machine_layer f.place f.other
