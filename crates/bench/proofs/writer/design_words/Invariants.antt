use Rattle.std.proofs.Common.{◌≡◌, ◌++◌, take}
use Rattle.words.specs.Encoding.{node_words}
use Rattle.bench.proofs.writer.design_words.Given as goal

-- the words of the nodes so far follow the head
abbrev pub invariant-loop-number : goal.invariant-loop-number
invariant-loop-number l = l.words.items ≡ l.initial.words.items ++ node_words 0 (take l.number l.node-items)
