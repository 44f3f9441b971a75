use Rattle.std.proofs.Common.{◌≡◌, ◌++◌, take}
use Rattle.words.specs.Encoding.{feed_words}
use Rattle.bench.proofs.writer.put_node.Given as goal

-- the words of the feeds so far follow the node's
abbrev pub invariant-loop-source : goal.invariant-loop-source
invariant-loop-source l = l.words.items ≡ l.initial.words.items ++ feed_words 0 (take l.source l.node.feeds)
