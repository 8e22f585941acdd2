use Rattle.expr_parser.proofs.AsSpelled.{read_is_spelled, spelled_is_read}
use Rattle.expr_parser.proofs.law.reads_as_spelled.Goals as goal

pub returns-clause-sound : goal.returns-clause-sound
returns-clause-sound c = read_is_spelled

pub returns-clause-complete : goal.returns-clause-complete
returns-clause-complete c = spelled_is_read
