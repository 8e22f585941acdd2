use Rattle.std.proofs.Common.{refl}
use Rattle.core_host.specs.Hosted.{code_of}
use Rattle.core_host.specs.Runs.{HostHasRun}
use Rattle.trace_ticks.proofs.Following.{code_starts}
use Rattle.trace_tickers.proofs.beside.lead_hosts.Goals as goal

pub returns-clause-ok : goal.returns-clause-ok
returns-clause-ok g c k formed stands = c.lead_all.ensures k (code_starts (code_of c.args.root) (code_of c.args.root) (HostHasRun c.args.root) k refl formed stands c.requires.none)
