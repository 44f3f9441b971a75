use Rattle.words.proofs.ProgramRefusing.{back, begins_none}
use Rattle.words.proofs.ProgramWalking.{program_passes}
use Rattle.words.proofs.program_reader.read_program.Goals as goal

pub returns-clause-reads : goal.returns-clause-reads
returns-clause-reads c = c.read_words.ensures program_passes begins_none

pub returns-clause-reads_back : goal.returns-clause-reads_back
returns-clause-reads_back c = back c.args.words.now c.read_words.result (c.read_words.ensures program_passes begins_none)
