use Rattle.std.proofs.Common.{◌≡◌, take}
use Rattle.bench.specs.Buffers.{overlaid}
use Rattle.bench.specs.Listing.{listed}
use Rattle.bench.proofs.listing.list_words.Given as goal

abbrev pub invariant-loop-k : goal.invariant-loop-k
invariant-loop-k l = l.text ≡ overlaid l.initial.text 0 (listed (take l.k l.words))
