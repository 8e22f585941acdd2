use Rattle.std.proofs.Common.{sym, ap, subst}
use Rattle.forec_kernel.specs.Shapes.{plain_kernel}
use Rattle.forec_engine.specs.Budgets.{budget_for, IsSmallBudget}
use Rattle.forec_engine.proofs.Answered.{bound_units, bound_small}
use Rattle.forec_engine.proofs.answering.budget_units.Goals as goal

pub returns-in-Units-clause-units : goal.returns-in-Units-clause-units
returns-in-Units-clause-units c = sym (ap (budget_for (plain_kernel c.args.kernel.now)) c.in-Units.is)

pub returns-in-Units-clause-small : goal.returns-in-Units-clause-small
returns-in-Units-clause-small c = subst IsSmallBudget c.in-Units.is c.requires

pub returns-in-Bound-clause-units : goal.returns-in-Bound-clause-units
returns-in-Bound-clause-units c = bound_units (plain_kernel c.args.kernel.now) c.args.budget c.tick_bound.result c.in-Bound.is c.tick_bound.ensures

pub returns-in-Bound-clause-small : goal.returns-in-Bound-clause-small
returns-in-Bound-clause-small c = bound_small (plain_kernel c.args.kernel.now) c.tick_bound.result c.tick_bound.ensures
