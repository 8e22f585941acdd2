use Rattle.crossbeam_queue.specs.Passes.{view}
use Rattle.core_bells.proofs.HintLemmas.{pops, learns}
use Rattle.core_bells.proofs.queue.pop.Goals as goal

pub pop_as-requires-clause-rule : goal.pop_as-requires-clause-rule
pop_as-requires-clause-rule g c = let v = view c.args.pass.now in (pops c.args.pass.now.id v c.requires.may, learns c.args.pass.now.id v)
