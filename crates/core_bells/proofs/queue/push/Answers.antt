use Rattle.crossbeam_queue.specs.Passes.{view, ruled_capacity}
use Rattle.core_bells.proofs.HintLemmas.{pushes, learns}
use Rattle.core_bells.proofs.queue.push.Goals as goal

pub push_as-requires-clause-rule : goal.push_as-requires-clause-rule
push_as-requires-clause-rule g c = let v = view c.args.pass.now in (pushes (ruled_capacity c.args.queue.now) c.args.pass.now.id v c.args.hint, learns c.args.pass.now.id v)
