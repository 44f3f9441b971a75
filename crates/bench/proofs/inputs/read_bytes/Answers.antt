use Rattle.std.proofs.Common.{◌∙◌}
use Rattle.bench.proofs.Reading.{words_read}
use Rattle.bench.proofs.inputs.read_bytes.Goals as goal

pub returns : goal.returns
returns c = words_read c.args.bytes.now _ _ c.in_ok-input.ensures.0 (c.as_slice.ensures ∙ c.in_ok-input.ensures.1) c.read_design.ensures.reads
