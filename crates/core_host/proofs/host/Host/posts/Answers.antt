use Rattle.std.proofs.Common.{◌<◌, length, false, sym, subst}
use Rattle.copy_slots.specs.Ports.{ChildIs}
use Rattle.core_host.specs.Hosted.{Hosted, code_of}
use Rattle.core_host.specs.Owned.{HasOwnPort}
use Rattle.core_seats.specs.Posts.{HasPostedTaken}
use Rattle.core_host.proofs.TickRun.{root_posted, idle_posted}
use Rattle.core_host.proofs.HostedLemmas.{idle_between}
use Rattle.core_host.proofs.host.Host.posts.Goals as goal

pub returns-clause-root : goal.returns-clause-root
returns-clause-root g c jobs j = root_posted c.args.self.now jobs j

pub returns-clause-taken : goal.returns-clause-taken
returns-clause-taken g c k lt rests =
    subst (λ (h : Hosted). HasPostedTaken (code_of h) h.mail k) c.self.view_is
    (let rest = subst (λ (h : Hosted). ChildIs h.mail k false) (sym c.self.view_is) rests in
    idle_posted c.self.inside.scheduler k (idle_between c.self.inside.scheduler k (c.self.invariant.between k (subst (λ (h : Hosted). k < length h.mail.ends) (sym c.self.view_is) lt) (false, rest)) rest))

pub returns-clause-port : goal.returns-clause-port
returns-clause-port g c =
    let inv = c.self.invariant in subst HasOwnPort c.self.view_is (record { valid = inv.valid; work = inv.work; mailboxes = inv.mailboxes })
