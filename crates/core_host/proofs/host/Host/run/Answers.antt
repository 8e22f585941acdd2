use Rattle.std.proofs.Common.{[], ◌∷◌, ◌++◌, sym, ap, ◌∙◌, subst}
use Rattle.copy_slots.specs.Ports.{stop_word}
use Rattle.core_host.specs.Hosted.{Hosted, IsSameHost}
use Rattle.core_host.proofs.HostedLemmas.{same_host, host_then, host_mailed, same_here}
use Rattle.core_host.proofs.host.Host.run.Goals as goal

pub loop-init : goal.loop-init
loop-init g c = same_host c.args.self

pub loop-preserved-then-serve_beside : goal.loop-preserved-then-serve_beside
loop-preserved-then-serve_beside g c = subst (IsSameHost c.args.self) (sym c.rise.ensures) (host_then c.args.self c.loop.host c.serve_beside.new.self c.loop.invariant c.serve_beside.ensures.same)

pub loop-preserved : goal.loop-preserved
loop-preserved g c =
    subst (IsSameHost c.args.self) (sym c.rest.ensures) (
    host_then c.args.self c.serve_beside.new.self c.stopped.new.self (host_then c.args.self c.loop.host c.serve_beside.new.self c.loop.invariant c.serve_beside.ensures.same)
    (host_mailed c.serve_beside.new.self c.stopped.new.self _ c.stopped.ensures.loaded c.stopped.ensures.grown))

pub returns-then-stopped-clause-stopped : goal.returns-then-stopped-clause-stopped
returns-then-stopped-clause-stopped g c =
    let seen = (host_then c.args.self c.loop.host c.serve_beside.new.self c.loop.invariant c.serve_beside.ensures.same).grown.stops in
    record {
      words = seen.more;
      is = ap (λ (h : Hosted). h.mail.stops) c.stopped.ensures.loaded ∙ ap (λ b. c.serve_beside.new.self.mail.stops ++ stop_word b ∷ []) c.if-stopped.true ∙ ap (λ l. l ++ 1 ∷ []) seen.is;
    }

pub returns-then-stopped-clause-same : goal.returns-then-stopped-clause-same
returns-then-stopped-clause-same g c =
    host_then c.args.self c.serve_beside.new.self c.stopped.new.self (host_then c.args.self c.loop.host c.serve_beside.new.self c.loop.invariant c.serve_beside.ensures.same)
    (host_mailed c.serve_beside.new.self c.stopped.new.self _ c.stopped.ensures.loaded c.stopped.ensures.grown)

pub returns-then-stopped-clause-lacks : goal.returns-then-stopped-clause-lacks
returns-then-stopped-clause-lacks g c =
    same_here c.args.self c.stopped.new.self 0
    (host_then c.args.self c.serve_beside.new.self c.stopped.new.self (host_then c.args.self c.loop.host c.serve_beside.new.self c.loop.invariant c.serve_beside.ensures.same)
    (host_mailed c.serve_beside.new.self c.stopped.new.self _ c.stopped.ensures.loaded c.stopped.ensures.grown)) ∙ c.requires
