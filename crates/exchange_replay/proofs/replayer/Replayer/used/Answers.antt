use Rattle.forec_kernel.specs.Engine.{pair_all}
use Rattle.exchange_replay.proofs.replayer.Replayer.used.Goals as goal

pub returns : goal.returns
returns c k pairs turns h = c.is_used.ensures k c.args._log.now pairs 0 (pair_all h.run.tells.exchanges h.run.tells.outputs) h.passed
