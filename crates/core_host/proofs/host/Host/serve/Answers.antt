use Rattle.std.proofs.Common.{◌≡◌, ℕ, ◌<◌, suc, true, Some, length, refl, sym, ap, ◌∙◌, subst, arith}
use Rattle.std.specs.Prelude.{slice_get}
use Rattle.std.proofs.lemmas.Option.{slice_get-get_or}
use Rattle.core_host.specs.declared.host.Served.TheVariants.{Worked}
use Rattle.core_seats.specs.Changes.{HasWorked, IsIdle}
use Rattle.core_host.specs.Hosted.{Hosted, code_of, is_here, IsWhole}
use Rattle.core_host.specs.Runs.{HasJobs, HostHasRun}
use Rattle.core_seats.proofs.RoundLemmas.{rope_same}
use Rattle.core_host.proofs.HostedLemmas.{whole_keeps, jobs_keep, run_keeps, served_hosted, its_own, each_between, where_own}
use Rattle.core_host.proofs.host.Host.serve.Goals as goal

pub serve_round-requires-clause-each : goal.serve_round-requires-clause-each
serve_round-requires-clause-each g c i k at = each_between c.self.inside.scheduler c.self.inside.cores.items c.self.inside.root c.self.inside.live c.self.inside.round.rope c.self.invariant c.self.inside.round.own.items c.self.inside.own_are i k (ap (λ l. slice_get l i) (sym c.deref.ensures.value) ∙ at)

pub invariant_of-self : goal.invariant_of-self
invariant_of-self g c = served_hosted c.self.inside.scheduler c.serve_round.new.self c.self.inside.cores.items c.self.inside.root c.self.inside.live c.self.inside.round.rope c.self.inside.round.rope c.serve_round.ensures.keeps c.self.invariant (rope_same c.self.inside.round.rope)

pub returns-in_default-clause-nothing : goal.returns-in_default-clause-nothing
returns-in_default-clause-nothing g c _ k lt on =
    let lt0 = subst (λ (h : Hosted). k < length h.mail.ends) (sym c.self.view_is) lt in
    let on0 = subst (λ (h : Hosted). is_here h (suc k) ≡ true) (sym c.self.view_is) on in
    let at = where_own c.self.inside.scheduler c.self.inside.cores.items c.self.inside.root c.self.inside.live c.self.inside.round.rope c.self.invariant c.self.inside.round.own.items c.self.inside.own_are k lt0 on0 in
    subst (λ (h : Hosted). IsIdle (code_of h).shape h.mail c.serve_round.new.self.mail k) c.self.view_is (c.in_default.ensures.idle refl at.0 k (ap (λ l. slice_get l at.0) c.deref.ensures.value ∙ at.1))

pub returns-in_default-clause-turns : goal.returns-in_default-clause-turns
returns-in_default-clause-turns g c turns run = run_keeps c.self.inside.scheduler c.serve_round.new.self c.self.inside.cores.items c.self.inside.root c.self.inside.live c.self.inside.round.rope c.self.inside.round.rope c.serve_round.ensures.keeps turns (subst (λ (h : Hosted). HostHasRun h turns) (sym c.self.view_is) run)

pub returns-in_default-clause-jobs : goal.returns-in_default-clause-jobs
returns-in_default-clause-jobs g c jobs old = jobs_keep c.self.inside.scheduler c.serve_round.new.self c.self.inside.cores.items c.self.inside.root c.self.inside.live c.self.inside.round.rope c.self.inside.round.rope c.serve_round.ensures.keeps jobs (subst (λ (h : Hosted). HasJobs h jobs) (sym c.self.view_is) old)

pub invariant_of-self-2 : goal.invariant_of-self-2
invariant_of-self-2 g c = served_hosted c.self.inside.scheduler c.serve_round.new.self c.self.inside.cores.items c.self.inside.root c.self.inside.live c.self.inside.round.rope c.self.inside.round.rope c.serve_round.ensures.keeps c.self.invariant (rope_same c.self.inside.round.rope)

worked_once : (a b : ℕ) → Worked a ≡ Worked b → a ≡ b
worked_once a b e = cc

pub returns-clause-worked : goal.returns-clause-worked
returns-clause-worked g c k is =
    let lt = c.in-Some.ensures.place in
    let value = c.deref.ensures.value in
    let len = ap length value in
    let at = slice_get-get_or c.self.inside.round.own.items c.in-Some.i c.index.result.now (omega (arith, lt, len)) ∙ ap Some (sym c.index.ensures ∙ worked_once c.index.result.now k is) in
    subst (λ (h : Hosted). HasWorked (code_of h).shape h.mail c.serve_round.new.self.mail k) c.self.view_is
    (c.in-Some.ensures.worked k (ap (λ l. slice_get l c.in-Some.i) value ∙ at))

pub returns-clause-mine : goal.returns-clause-mine
returns-clause-mine g c k is =
    let lt = c.in-Some.ensures.place in
    let value = c.deref.ensures.value in
    let len = ap length value in
    let at = slice_get-get_or c.self.inside.round.own.items c.in-Some.i c.index.result.now (omega (arith, lt, len)) ∙ ap Some (sym c.index.ensures ∙ worked_once c.index.result.now k is) in
    subst (λ (h : Hosted). (k < length h.mail.ends) × (is_here h (suc k) ≡ true)) c.self.view_is (its_own c.self.inside.scheduler c.self.inside.cores.items c.self.inside.root c.self.inside.live c.self.inside.round.rope c.self.invariant c.self.inside.round.own.items c.self.inside.own_are c.in-Some.i k at)

pub returns-clause-turns : goal.returns-clause-turns
returns-clause-turns g c turns run = run_keeps c.self.inside.scheduler c.serve_round.new.self c.self.inside.cores.items c.self.inside.root c.self.inside.live c.self.inside.round.rope c.self.inside.round.rope c.serve_round.ensures.keeps turns (subst (λ (h : Hosted). HostHasRun h turns) (sym c.self.view_is) run)

pub returns-clause-jobs : goal.returns-clause-jobs
returns-clause-jobs g c jobs old = jobs_keep c.self.inside.scheduler c.serve_round.new.self c.self.inside.cores.items c.self.inside.root c.self.inside.live c.self.inside.round.rope c.self.inside.round.rope c.serve_round.ensures.keeps jobs (subst (λ (h : Hosted). HasJobs h jobs) (sym c.self.view_is) old)

pub returns-in_default-clause-whole : goal.returns-in_default-clause-whole
returns-in_default-clause-whole g c whole = whole_keeps c.self.inside.scheduler c.serve_round.new.self c.self.inside.cores.items c.self.inside.root c.self.inside.live c.self.inside.round.rope c.self.inside.round.rope c.serve_round.ensures.keeps (subst IsWhole (sym c.self.view_is) whole)

pub returns-clause-whole : goal.returns-clause-whole
returns-clause-whole g c whole = whole_keeps c.self.inside.scheduler c.serve_round.new.self c.self.inside.cores.items c.self.inside.root c.self.inside.live c.self.inside.round.rope c.self.inside.round.rope c.serve_round.ensures.keeps (subst IsWhole (sym c.self.view_is) whole)
