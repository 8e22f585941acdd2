use Rattle.forec_parser.proofs.ProgramLemmas.{one_program}
use Rattle.forec_parser.proofs.whole.one_program.Goals as goal

pub returns : goal.returns
returns c = one_program
