-- The budget that words ask for, in units.
use Rattle.std.specs.Prelude.{◌≡◌, ◌≤◌, ℕ, Option, None, Some, codes}
use Rattle.forec_base.specs.declared.limits.TheConstants.{MAX_BUDGET}
use Rattle.forec_kernel.specs.Shapes.{PlainKernel}
use Rattle.tick_bounds.specs.Bound.{worst_case}
use Rattle.tick_bounds.specs.Capped.{as_budget}
use Rattle.command_words.specs.declared.request.Budget.{Budget}
use Rattle.command_words.specs.declared.request.Budget.TheVariants as budget
use Rattle.trace_ticks.specs.Report.{Report}
use Rattle.trace_ticks.specs.declared.status.Status.TheVariants as status

-- so many units, or the bound of a kernel; none where it has none
abbrev pub budget_for : PlainKernel → Budget → Option ℕ
budget_for k (budget.Units most) = Some most
budget_for k budget.Bound = as_budget (worst_case k)

-- a budget of at most 2^62, where it is a number
abbrev pub IsSmallBudget : Budget → Type 0
IsSmallBudget (budget.Units most) = most ≤ MAX_BUDGET
IsSmallBudget budget.Bound = Unit {0}

-- what is said where a kernel has no bound
abbrev pub boundless : Report
boundless = record { bytes = codes "bound none\n"; status = status.Usage }

-- the report with so many units a tick; where there is no bound that is said
abbrev pub with_budget : Option ℕ → (ℕ → Report) → Report
with_budget None f = boundless
with_budget (Some units) f = f units

-- the budget is the bound of a kernel that has none
abbrev pub IsBoundless : PlainKernel → Budget → Type 0
IsBoundless k b = budget_for k b ≡ None

-- it is at least what a tick of the kernel takes in the worst case
abbrev pub Covers : PlainKernel → Budget → Type 0
Covers k b = (units : ℕ) → budget_for k b ≡ Some units → worst_case k ≤ units
