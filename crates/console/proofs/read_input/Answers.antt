use Rattle.std.proofs.Common.{rules}
use Rattle.words.specs.declared.bytes.TheConstants.{MAX_BYTES}
use Rattle.console.proofs.Reading.{first_read}
use Rattle.console.proofs.read_input.Goals as goal

pub returns : goal.returns
returns g c =
    first_read MAX_BYTES (g.R.Read.remaining c.args.input) c.new-bytes.result.items c.copy.new.writer.items c.new-bytes.ensures (search rules)
