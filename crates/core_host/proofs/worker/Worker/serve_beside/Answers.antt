use Rattle.std.proofs.Common.{◌≡◌, suc, true, subst}
use Rattle.core_seats.specs.Changes.{HasProgressed}
use Rattle.core_host.specs.Hosted.{Hosted, code_of, is_here, IsSameHost}
use Rattle.core_host.proofs.worker.Worker.serve_beside.Goals as goal

pub returns-clause-worked : goal.returns-clause-worked
returns-clause-worked g c e =
    let w = c.serve_beside.ensures.worked e in
    (w.0, subst (λ (h : Hosted). is_here h (suc w.0) ≡ true) c.self.view_is w.1, subst (λ (h : Hosted). HasProgressed (code_of h).shape h.mail c.serve_beside.new.self.mail w.0) c.self.view_is w.2)

pub returns-clause-same : goal.returns-clause-same
returns-clause-same g c = subst (λ (h : Hosted). IsSameHost h c.serve_beside.new.self) c.self.view_is c.serve_beside.ensures.same
