-- The values of a design: a relation over whole histories.
use Rattle.std.specs.Prelude.{◌≡◌, ℕ, ◌-◌, ◌<◌, cond, List, map, ◌==◌, nat_le}
use Rattle.words.specs.declared.graph.Graph.{Graph}
use Rattle.words.specs.Designs.{node_at, feed_at, input, sources}
use Rattle.bench.specs.Tables.{taps_to}
use Rattle.cells.specs.Meaning.{Meaning, Operand, applied}
use Rattle.words.specs.declared.program_table.Tap.{Tap}

-- what f was d before time t, or its rest value where that is before time 0
abbrev pub past : {E : Type 0} → (ℕ → E) → E → ℕ → ℕ → E
past f rest t d = cond (nat_le d t) (f (t - d)) rest

-- what a source gives in time, of the nodes' values v and the input x
abbrev pub given : {E : Type 0} → (ℕ → ℕ → E) → (ℕ → E) → ℕ → ℕ → E
given v x j = cond (j == input) x (v j)

-- what is heard of source j, by a tap of delay d, at time t
abbrev pub heard : {E : Type 0} → (ℕ → E) → (ℕ → ℕ → E) → (ℕ → E) → ℕ → ℕ → ℕ → E
heard rest v x t j d = past (given v x j) (rest j) t d

-- node i's taps: by source, the input last
abbrev pub taps_of : Graph → ℕ → List Tap
taps_of g i = taps_to (feed_at g i) sources

abbrev pub operand : {E : Type 0} → (ℕ → ℕ → E) → Tap → Operand E
operand hear tap = (tap.source, hear tap.source tap.delay)

-- node i's operands at time t: by source, the input last
abbrev pub operands : {E : Type 0} → Graph → (ℕ → E) → (ℕ → ℕ → E) → (ℕ → E) → ℕ → ℕ → List (Operand E)
operands g rest v x i t = map (operand (heard rest v x t)) (taps_of g i)

-- the value equation at node i and time t: its operation applied to its operands
abbrev pub Holds : {E A : Type 0} → Graph → Meaning E A → (ℕ → E) → (ℕ → E) → (ℕ → ℕ → E) → ℕ → ℕ → Type 0
Holds g m rest x v i t = v i t ≡ applied m (node_at g i).operation (operands g rest v x i t)

-- a history solves a design: the value equation holds at every node and every time
abbrev pub Solves : {E A : Type 0} → Graph → Meaning E A → (ℕ → E) → (ℕ → E) → (ℕ → ℕ → E) → Type 0
Solves g m rest x v = (i t : ℕ) → i < g.count → Holds g m rest x v i t

-- and before time T
abbrev pub SolvesBefore : {E A : Type 0} → ℕ → Graph → Meaning E A → (ℕ → E) → (ℕ → E) → (ℕ → ℕ → E) → Type 0
SolvesBefore T g m rest x v = (i t : ℕ) → i < g.count → t < T → Holds g m rest x v i t

-- the output at time t
abbrev pub output : {E : Type 0} → Graph → (ℕ → E) → (ℕ → ℕ → E) → ℕ → E
output g rest v t = past (v g.output.node) (rest g.output.node) t g.output.delay

-- the values of a design are determined: there is a history, and two that solve it before T agree before T
pub record Determined {E A : Type 0} (g : Graph) (m : Meaning E A) (rest x : ℕ → E) : Type 0 where
  pub history : ℕ → ℕ → E
  pub solves : Solves g m rest x history
  pub agree : (T : ℕ) (v w : ℕ → ℕ → E) → SolvesBefore T g m rest x v → SolvesBefore T g m rest x w → (i t : ℕ) → i < g.count → t < T → v i t ≡ w i t
