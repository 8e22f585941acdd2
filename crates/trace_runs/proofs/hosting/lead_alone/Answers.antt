use Rattle.std.proofs.Common.{sym, subst, refl}
use Rattle.thread_code.specs.Plain.{PlainCode, plain_code}
use Rattle.one_core.specs.Single.{single_code, OneCoreHasRun}
use Rattle.trace_ticks.proofs.Following.{code_starts}
use Rattle.trace_runs.proofs.hosting.lead_alone.Goals as goal

pub lead-requires : goal.lead-requires
lead-requires g c = record {
  can = subst (λ (p : PlainCode). g.J.Lead.can c.args.job.now p.shape) (sym c.in_ok-core.ensures.code) c.requires.can;
  live = c.in_ok-core.ensures.none.live;
  ready = refl;
}

pub returns-clause-ok : goal.returns-clause-ok
returns-clause-ok g c = λ k formed stands.
    let core = c.in_ok-core.core in
    c.lead.ensures k (code_starts (plain_code c.args.code.now) (single_code core) (OneCoreHasRun core) k c.in_ok-core.ensures.code formed stands c.in_ok-core.ensures.none.turns)
