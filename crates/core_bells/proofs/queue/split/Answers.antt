use Rattle.crossbeam_queue.specs.Passes.{view}
use Rattle.core_bells.proofs.HintLemmas.{forks}
use Rattle.core_bells.proofs.queue.split.Goals as goal

pub another-requires-clause-rule : goal.another-requires-clause-rule
another-requires-clause-rule c = forks c.args.pass.now.id (view c.args.pass.now)
