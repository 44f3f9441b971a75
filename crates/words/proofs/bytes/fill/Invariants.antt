use Rattle.std.proofs.Common.{◌≡◌, length, map, take}
use Rattle.words.specs.Bytes.{word_at}
use Rattle.words.proofs.bytes.fill.Given as goal

abbrev pub invariant-loop-k : goal.invariant-loop-k
invariant-loop-k l = (length l.words ≡ length l.initial.words) × (take l.k l.words ≡ map (λ pack. word_at pack 0) (take l.k l.packs))
