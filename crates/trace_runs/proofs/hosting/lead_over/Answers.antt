use Rattle.std.proofs.Common.{ap, sym, subst, refl}
use Rattle.thread_code.specs.Alone.{Stands}
use Rattle.thread_code.specs.Plain.{PlainCode, plain_code}
use Rattle.trace_tickers.proofs.Fine.{ok_map}
use Rattle.trace_runs.proofs.hosting.lead_over.Goals as goal

pub lead_hosts-requires-clause-can : goal.lead_hosts-requires-clause-can
lead_hosts-requires-clause-can g c = λ κs within. record {
  can = subst (λ (p : PlainCode). g.J.Lead.can c.args.job.now p.shape) (sym (ap plain_code c.in_ok-root.ensures.root.code)) c.requires.can;
  live = c.in_ok-root.ensures.root.none.live;
  ready = refl;
}

pub returns-clause-ok : goal.returns-clause-ok
returns-clause-ok g c =
    ok_map c.lead_hosts.result _ _ (λ end did k formed stands. did k formed (subst (λ (p : PlainCode). Stands p k) (sym (ap plain_code c.in_ok-root.ensures.root.code)) stands)) c.lead_hosts.ensures.ok
