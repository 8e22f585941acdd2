use Rattle.std.proofs.Common.{sym, ap}
use Rattle.forec_kernel.specs.Terms.{Set}
use Rattle.forec_kernel.specs.declared.terms.Spot.TheVariants as spot
use Rattle.loop_check.specs.Views.{indexed_text}
use Rattle.lower_names.specs.Views.{seen}
use Rattle.lower_names.proofs.Statements.{sets_step, sets_end}
use Rattle.body_lower.proofs.assign.set_params.Goals as goal

pub loop-arg-preserved : goal.loop-arg-preserved
loop-arg-preserved c =
    sets_step (indexed_text c.args.globals.now.index) (seen c.args.scope.now) c.args.args.now c.loop-arg.arg-index c.loop-arg.at c.in_ok-at.at c.arg-item.result c.loop-arg.list.items c.push.new.self.items _ _
    c.loop-arg-test.true (sym c.arg-item.is) c.in_ok-at.ensures.ok (ap (Set (spot.Local c.loop-arg.at)) c.in_ok-value.ensures) c.in_ok-push.ensures.items c.loop-arg.invariant

pub returns : goal.returns
returns c =
    sets_end (indexed_text c.args.globals.now.index) (seen c.args.scope.now) c.args.args.now c.loop-arg.arg-index c.loop-arg.at c.loop-arg.list.items _ c.loop-arg-test.false c.loop-arg.invariant
