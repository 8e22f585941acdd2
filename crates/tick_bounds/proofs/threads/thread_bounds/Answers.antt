use Rattle.std.proofs.Common.{◌≡◌, ◌∙◌, ◌-◌, List, length, ap, arith}
use Rattle.std.proofs.Math.ListN.{length-set}
use Rattle.forec_kernel.specs.declared.shape.KernelParts.{KernelParts}
use Rattle.forec_kernel.specs.declared.terms.Statement.{Statement}
use Rattle.tick_bounds.proofs.Visiting.{BoundFound, found_more}
use Rattle.tick_bounds.proofs.threads.thread_bounds.Goals as goal

pub loop-thread-preserved : goal.loop-thread-preserved
loop-thread-preserved c =
    let kernel = c.args.kernel.now in
    let thread = c.loop-thread.thread - 1 in
    let table = c.loop-thread.bounds.items in
    let bodies = c.as_slice-bodies.result.now in
    let some = c.loop-thread-test.true in
    let most = c.loop-thread.auto.thread in
    let read : length bodies ≡ length c.parts.result.now.threads.items = ap (λ (l : List Statement). length l) c.as_slice-bodies.ensures.value in
    let same : length c.parts.result.now.threads.items ≡ length kernel.threads.items = ap (λ (p : KernelParts). length p.threads.items) c.parts.ensures.same in
    let long = c.loop-thread.invariant.long in
    let found : BoundFound kernel c.parts.result.now c.args.functions.now table c.as_slice.result.now c.uses_of.result.now bodies thread c.statement_bound-bound.result c.index-bodies-thread.result =
    record {
      within = omega arith;
      same = c.parts.ensures.same;
      lent = c.as_slice-bodies.ensures.value;
      is = c.index-bodies-thread.is;
      lends = c.as_slice.ensures.value;
      used = c.uses_of.ensures.same;
      bound = c.statement_bound-bound.ensures;
    } in
    record {
      long = length-set table thread c.statement_bound-bound.result ∙ c.loop-thread.invariant.long;
      told =
          found_more kernel c.parts.result.now c.parts.ensures.well_formed c.args.functions.now table c.as_slice.result.now c.uses_of.result.now bodies thread c.statement_bound-bound.result c.index-bodies-thread.result found c.requires
          (λ h m. c.loop-thread.invariant.told h (omega arith)) (omega arith);
    }
