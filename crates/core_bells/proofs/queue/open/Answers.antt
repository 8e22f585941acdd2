use Rattle.core_bells.proofs.HintLemmas.{starts}
use Rattle.core_bells.proofs.queue.open.Goals as goal

pub ruled-requires-clause-rule : goal.ruled-requires-clause-rule
ruled-requires-clause-rule c = starts
