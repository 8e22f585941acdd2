use Rattle.std.proofs.Common.{sym, subst, arith}
use Rattle.loop_check.specs.Views.{indexed_text}
use Rattle.forec_check.specs.CallSites.{site_maps, AllSettled}
use Rattle.forec_check.proofs.Propagation.{same_known}
use Rattle.forec_check.proofs.instances.propagate.propagate.Goals as goal

pub returns : goal.returns
returns c =
    λ e.
    let t = site_maps c.args.tables.now in
    let inv = c.loop-f.invariant in
    let began = inv.began e in
    let end = c.loop-f-test.false in
    subst (λ k. AllSettled (indexed_text c.args.index.now) c.args.first c.args.functions.now k) (sym (same_known c.args.tables.now c.loop-f.tables (inv.same e)))
    (record {
      calls = c.in_ok-moved.ensures.calls began;
      texts = c.in_ok-moved.ensures.texts began;
      bodies = λ k h. inv.bodies e k (omega (arith, end, h));
    })
