use Rattle.std.proofs.Common.{◌≡◌, ◌+◌, take, drop}
use Rattle.words.specs.Formats.{refused_in, refused_from_in}
use Rattle.words.specs.Readings.{BeginsOne}
use Rattle.words.proofs.reading.read_words.Given as goal

-- the words so far begin an encoding, and passed
abbrev pub invariant-loop-read : goal.invariant-loop-read
invariant-loop-read g l =
    (g.R.Reading.words l.reader ≡ take (l.read + 1) l.words) × BeginsOne g.R.Reading.in_range g.R.Reading.encoded (take (l.read + 1) l.words)
    × (refused_from_in g.R.Reading.format (take (l.read + 1) l.words) (drop (l.read + 1) l.words) ≡ refused_in g.R.Reading.format l.words)
