use Rattle.std.proofs.Common.{sym}
use Rattle.lower_names.specs.Landings.{called_within}
use Rattle.lower_names.specs.Views.{context_text}
use Rattle.lower_names.proofs.Doing.{same_then}
use Rattle.lower_names.proofs.Going.{branches_go, branches_end}
use Rattle.body_lower.proofs.branches.branches.Goals as goal

pub loop-one-preserved : goal.loop-one-preserved
loop-one-preserved c =
    let text = context_text c.args.context.now in (
      branches_go text (called_within text c.args.context.now.deep) c.args.context.now.owner c.args.par c.args.all.now c.loop-one.one-index c.one-item.result c.loop-one.launches.items c.push.new.self.items c.in_ok-launch.launch _ c.args.state.now
          c.loop-one.state c.branch-context.new.state c.loop-one-test.true (sym c.one-item.is) c.in_ok-launch.ensures.same c.in_ok-launch.ensures.does c.in_ok-push.ensures.items c.loop-one.invariant.0,
      same_then c.args.state.now.scope c.loop-one.state.scope c.branch-context.new.state.scope c.loop-one.invariant.1 c.in_ok-launch.ensures.same,
    )

pub returns-clause-does : goal.returns-clause-does
returns-clause-does c =
    let text = context_text c.args.context.now in
    branches_end text (called_within text c.args.context.now.deep) c.args.context.now.owner c.args.par c.args.all.now c.loop-one.one-index c.loop-one.launches.items _ c.args.state.now c.loop-one.state c.loop-one-test.false c.loop-one.invariant.0

pub returns-clause-same : goal.returns-clause-same
returns-clause-same c = c.loop-one.invariant.1
