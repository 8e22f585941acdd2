-- The log of a run can be read back.
use Rattle.std.specs.Prelude.{◌≤◌, List}
use Rattle.std.specs.List.{AllByRecursion}
use Rattle.forec_base.specs.declared.limits.TheConstants.{MAX_BUDGET}
use Rattle.forec_kernel.specs.Composed.{TickInput}
use Rattle.forec_kernel.specs.Shapes.{PlainKernel}
use Rattle.forec_kernel.specs.WellFormed.{WellFormed}
use Rattle.thread_code.specs.Plain.{PlainCode}
use Rattle.thread_code.specs.Valid.{IsValidCode}
use Rattle.thread_code.specs.Alone.{Stands}
use Rattle.value_ranges.specs.Words.{AreWords, KernelWords}
use Rattle.exchange_meaning.specs.Logged.{ExchangeLog}
use Rattle.exchange_meaning.specs.LogOf.{LogOfTicks}
use Rattle.exchange_meaning.specs.OfShape.{IsOfShape}
use Rattle.log_ranges.specs.Places.{KernelPlaces}

-- a row of `int`s, and a budget that a command can have
pub record TurnFits (turn : TickInput) : Type 0 where
  pub row : AreWords turn.row
  pub budget : turn.budget ≤ MAX_BUDGET

-- The log of ticks whose rows and budgets fit is one of the kernel's shape: it has the lengths of its threads, and its numbers fit.
abbrev pub LogsFit : Type 0
LogsFit =
    (c : PlainCode) (k : PlainKernel) → IsValidCode c → WellFormed k → Stands c k → KernelWords k → KernelPlaces k →
    (turns : List TickInput) (log : ExchangeLog) → LogOfTicks k turns log → AllByRecursion TurnFits turns → IsOfShape k.shape log
