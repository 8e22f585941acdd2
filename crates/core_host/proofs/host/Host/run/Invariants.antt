use Rattle.core_host.specs.Hosted.{IsSameHost}
use Rattle.core_host.proofs.host.Host.run.Given as goal

abbrev pub invariant-loop : goal.invariant-loop
invariant-loop g l = IsSameHost l.fn.self l.host
