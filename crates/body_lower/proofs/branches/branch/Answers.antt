use Rattle.std.proofs.Common.{refl}
use Rattle.forec_kernel.specs.Plain.{exprs}
use Rattle.lower_names.specs.declared.state.State.{State}
use Rattle.lower_names.specs.Views.{context_text, seen}
use Rattle.body_lower.proofs.Pended.{branch_does}
use Rattle.body_lower.proofs.branches.branch.Goals as goal

pub returns-clause-does : goal.returns-clause-does
returns-clause-does c =
    let old = c.args.state.now in
    let new : State = record old { thread = c.in_ok-after.after; par = c.in_ok-next.next; pending = c.push.new.self } in
    branch_does (context_text c.args.context.now) c.args.context.now.deep c.args.context.now.owner c.args.par (seen old.scope) c.args.one c.in_ok-added.added (exprs c.in_ok-args.args.items) old new c.in_ok-added.ensures c.if-context-added.false refl
    c.in_ok-after.ensures.ok c.in_ok-next.ensures.ok c.in_ok-push.ensures.items c.in_ok-args.ensures
