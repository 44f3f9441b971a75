-- Rest rows, inputs and histories as they lie in lent rows. What is read past a row's end, d, never matters.
use Rattle.std.specs.Prelude.{ℕ, ◌+◌, ◌*◌, cond, List, ◌==◌, slice_index_or}
use Rattle.words.specs.Designs.{input}
use Rattle.machine.specs.Values.{heard}

-- the rest value of source j: the nodes in order, then the input
abbrev pub rest_place : ℕ → ℕ → ℕ
rest_place n j = cond (j == input) n j

abbrev pub rest_in : {E : Type 0} → ℕ → List E → E → ℕ → E
rest_in n row d j = slice_index_or row (rest_place n j) d

-- v(i,t) stands at place t × n + i
abbrev pub value_in : {E : Type 0} → ℕ → List E → E → ℕ → ℕ → E
value_in n history d i t = slice_index_or history (t * n + i) d

abbrev pub input_in : {E : Type 0} → List E → E → ℕ → E
input_in inputs d t = slice_index_or inputs t d

-- what is heard, of these rows
abbrev pub heard_in : {E : Type 0} → ℕ → List E → List E → List E → E → ℕ → ℕ → ℕ → E
heard_in n rest inputs history d = heard (rest_in n rest d) (value_in n history d) (input_in inputs d)
