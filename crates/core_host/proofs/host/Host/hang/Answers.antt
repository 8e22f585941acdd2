use Rattle.std.proofs.Common.{Some, sym, subst}
use Rattle.core_host.specs.Hosted.{Hosted}
use Rattle.core_host.specs.Runs.{HostHasRun}
use Rattle.core_seats.proofs.ServingLemmas.{keeps_same}
use Rattle.core_host.proofs.HostedLemmas.{run_keeps}
use Rattle.core_host.proofs.host.Host.hang.Goals as goal

pub returns-clause-turns : goal.returns-clause-turns
returns-clause-turns g c turns run =
    run_keeps c.self.inside.scheduler c.self.inside.scheduler c.self.inside.cores.items c.self.inside.root c.self.inside.live c.self.inside.round.rope (Some c.args.rope) (keeps_same c.self.inside.scheduler) turns
    (subst (λ (h : Hosted). HostHasRun h turns) (sym c.self.view_is) run)
