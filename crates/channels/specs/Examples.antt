-- The worked designs.
use Rattle.std.specs.Prelude.{ℕ, List, [], ◌∷◌, ◌++◌, replicate, Some, None, Option, codes}
use Rattle.words.specs.declared.graph.Node.{Node}
use Rattle.words.specs.declared.graph.Graph.{Graph}
use Rattle.words.specs.Designs.{blank}

-- a node with an operation, feeds from the first nodes, none from so many others, and one from the input or none
abbrev pub node : ℕ → List (Option ℕ) → ℕ → Option ℕ → Node
node operation feeds others input = record { operation = operation; feeds = feeds ++ (replicate others None ++ input ∷ []) }

-- design E: v(0,t) from v(0,t−1) and v(1,t), v(1,t) from x(t), and y(t) = v(0,t)
abbrev pub design_e : Graph
design_e = record {
  count = 2;
  nodes = node 0 (Some 1 ∷ Some 0 ∷ []) 30 None ∷ node 1 [] 32 (Some 0) ∷ replicate 30 blank;
  output = record { node = 0; delay = 0 };
}

abbrev pub words_of_e : List ℕ
words_of_e = 0x10000002 ∷ 0x20000000 ∷ 0x30000040 ∷ 0x30000001 ∷ 0x20000021 ∷ 0x30000020 ∷ 0x40000000 ∷ 0x50000008 ∷ []

-- the words of its array, settled
abbrev pub program_of_e : List ℕ
program_of_e =
    0x80000082 ∷ 0x90000080 ∷ 0x90000041 ∷ 0x90000020 ∷ 0xA0002000 ∷ 0xB0000080 ∷ 0xB0000041 ∷ 0xA0000021 ∷ 0xB0000020 ∷ 0xC0000000 ∷ 0xD000000B ∷ []

-- its listing, a line for each word
abbrev pub text_of_e : List ℕ
text_of_e = codes "80000082\n90000080\n90000041\n90000020\nA0002000\nB0000080\nB0000041\nA0000021\nB0000020\nC0000000\nD000000B\n"

-- one node that hears itself at delay 0
abbrev pub loop : Graph
loop = record { count = 1; nodes = node 0 (Some 0 ∷ []) 31 None ∷ replicate 31 blank; output = record { node = 0; delay = 0 } }

abbrev pub words_of_loop : List ℕ
words_of_loop = 0x10000001 ∷ 0x20000000 ∷ 0x30000000 ∷ 0x40000000 ∷ 0x50000005 ∷ []

-- one node that hears the input alone, at a delay
abbrev pub delayed : ℕ → Graph
delayed delay = record { count = 1; nodes = node 0 [] 32 (Some delay) ∷ replicate 31 blank; output = record { node = 0; delay = 0 } }

-- an FIR filter of operations 0 to 3: node i hears node i + 1 at delay 0, if there is one, and the input at delay 3 − i
abbrev pub fir : Graph
fir = record {
  count = 4;
  nodes =
      node 0 (None ∷ Some 0 ∷ []) 30 (Some 3) ∷ node 1 (None ∷ None ∷ Some 0 ∷ []) 29 (Some 2) ∷ node 2 (None ∷ None ∷ None ∷ Some 0 ∷ []) 28 (Some 1) ∷ node 3 [] 32 (Some 0)
      ∷ replicate 28 blank;
  output = record { node = 0; delay = 0 };
}

abbrev pub words_of_fir : List ℕ
words_of_fir =
    0x10000004 ∷ 0x20000000 ∷ 0x30000001 ∷ 0x300000E0 ∷ 0x20000021 ∷ 0x30000002 ∷ 0x300000A0 ∷ 0x20000042 ∷ 0x30000003 ∷ 0x30000060 ∷ 0x20000063 ∷ 0x30000020 ∷ 0x40000000
    ∷ 0x5000000E ∷ []
