use Rattle.std.proofs.Common.{◌≡◌, ◌<◌, suc, true, length, refl, sym, subst}
use Rattle.core_seats.specs.Changes.{HasProgressed, IsIdle}
use Rattle.core_host.specs.Hosted.{Hosted, hosted, code_of, is_here, IsSameHost}
use Rattle.core_host.proofs.HostedLemmas.{served_hosted, each_between, its_own, where_own}
use Rattle.core_host.proofs.host.Host.serve_beside.Goals as goal

pub serve_sweep-requires-clause-round : goal.serve_sweep-requires-clause-round
serve_sweep-requires-clause-round g c = record {
  next = c.self.inside.next_within;
  each = each_between c.self.inside.scheduler c.self.inside.cores.items c.self.inside.root c.self.inside.live c.self.inside.round.rope c.self.invariant c.self.inside.round.own.items c.self.inside.own_are;
  all = c.self.invariant.all;
}

pub invariant_of-self : goal.invariant_of-self
invariant_of-self g c =
    served_hosted c.self.inside.scheduler c.serve_sweep.new.self c.self.inside.cores.items c.self.inside.root c.self.inside.live c.self.inside.round.rope c.serve_sweep.new.round.rope c.serve_sweep.ensures.keeps c.self.invariant
    c.serve_sweep.ensures.round.rope

pub returns-clause-worked : goal.returns-clause-worked
returns-clause-worked g c e =
    let w = c.serve_sweep.ensures.worked e in
    let mine = its_own c.self.inside.scheduler c.self.inside.cores.items c.self.inside.root c.self.inside.live c.self.inside.round.rope c.self.invariant c.self.inside.round.own.items c.self.inside.own_are w.place w.mailbox w.at in
    (w.mailbox, subst (λ (h : Hosted). is_here h (suc w.mailbox) ≡ true) c.self.view_is mine.1, subst (λ (h : Hosted). HasProgressed (code_of h).shape h.mail c.serve_sweep.new.self.mail w.mailbox) c.self.view_is w.progress)

pub returns-clause-nothing : goal.returns-clause-nothing
returns-clause-nothing g c e k lt on =
    let lt0 = subst (λ (h : Hosted). k < length h.mail.ends) (sym c.self.view_is) lt in
    let on0 = subst (λ (h : Hosted). is_here h (suc k) ≡ true) (sym c.self.view_is) on in
    let at = where_own c.self.inside.scheduler c.self.inside.cores.items c.self.inside.root c.self.inside.live c.self.inside.round.rope c.self.invariant c.self.inside.round.own.items c.self.inside.own_are k lt0 on0 in
    subst (λ (h : Hosted). IsIdle (code_of h).shape h.mail c.serve_sweep.new.self.mail k) c.self.view_is (c.serve_sweep.ensures.idle e at.0 k at.1)

pub returns-clause-same : goal.returns-clause-same
returns-clause-same g c =
    let keeps = c.serve_sweep.ensures.keeps in
    subst (λ (h : Hosted). IsSameHost h (hosted c.serve_sweep.new.self c.self.inside.cores.items c.self.inside.root c.self.inside.live c.serve_sweep.new.round.rope)) c.self.view_is
    (record { code = keeps.code; places = keeps.places; cores = refl; grown = keeps.grown; rope = c.serve_sweep.ensures.round.rope })
