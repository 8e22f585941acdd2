use Rattle.std.proofs.Common.{ℕ, arith}
use Rattle.std.proofs.lemmas.List.{length-map}
use Rattle.forec_kernel.specs.Plain.{stmt}
use Rattle.tick_bounds.proofs.Visiting.{Read, callee_falls, visited}
use Rattle.tick_bounds.proofs.functions.+visit.Goals.{After-deref-callee-items}
use Rattle.tick_bounds.proofs.functions.+visit.Goals as goal

-- the body as it was read, with its calls
read : (t : ℕ) (c : After-deref-callee-items t) →
    Read c.args.kernel.now c.parts.result.now c.args.function c.index-body.result.now c.deref-callee-items.result.now c.statement_calls.new.calls.items c.new-calls.result.items
read t c =
    record {
      within = omega (arith, length-map c.args.kernel.now.functions.items stmt);
      same = c.parts.ensures.same;
      is = c.index-body.ensures;
      empty = c.new-calls.ensures.items;
      adds = c.in_ok-statement_calls.ensures;
      lent = c.deref-callee-items.ensures.value;
    }

pub visit-requires : goal.visit-requires
visit-requires t c =
    let h = callee_falls c.args.kernel.now _ c.parts.ensures.well_formed c.args.function _ _ _ _ (read t (goal.at.visit-requires t c).After-deref-callee-items) c.loop-callee.callee-index c.loop-callee-test.true in
    let d = c.decreases in
    (omega arith, c.loop-callee.invariant.right)

pub returns : goal.returns
returns t c =
    let now = visited c.args.kernel.now _ c.parts.ensures.well_formed c.args.function _ _ _ _ (read t (goal.at.returns t c).After-deref-callee-items) c.loop-callee.known.items c.as_slice.result.now c.statement_bound-bound.result
    c.loop-callee.invariant.right (λ j l. c.loop-callee.invariant.told j (omega arith)) c.as_slice.ensures.value c.statement_bound-bound.ensures in
    record {
      right = now.0;
      told = now.1;
      kept = λ g h. now.2 g (c.loop-callee.invariant.kept g h);
    }
