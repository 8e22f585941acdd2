-- What holds of the logs of runs, and of programs that are accepted.
use Rattle.std.specs.Prelude.{ℕ, List}
use Rattle.std.specs.List.{AllByRecursion}
use Rattle.forec_kernel.specs.Composed.{TickInput}
use Rattle.forec_kernel.specs.Shapes.{PlainKernel}
use Rattle.forec_kernel.specs.Ticks.{Fresh}
use Rattle.forec_kernel.specs.WellFormed.{WellFormed}
use Rattle.thread_code.specs.Plain.{PlainCode}
use Rattle.thread_code.specs.Valid.{IsValidCode}
use Rattle.thread_code.specs.Alone.{Stands}
use Rattle.exchange_meaning.specs.Logged.{ExchangeLog}
use Rattle.exchange_meaning.specs.LogOf.{AllButLastPause, LogOfTicks}
use Rattle.exchange_meaning.specs.OfShape.{IsOfShape}
use Rattle.log_ranges.specs.Places.{KernelPlaces}
use Rattle.log_ranges.specs.Laws.{TurnFits}
use Rattle.text_verdict.specs.Judging.{Accepts, Judged}
use Rattle.text_verdict.specs.declared.counts.Counts.{Counts}

-- Ticks of a well-formed kernel, each of which but the last pauses, have a log.
abbrev pub EachRunHasALog : Type 0
EachRunHasALog = (k : PlainKernel) → WellFormed k → (turns : List TickInput) → AllButLastPause k Fresh turns → (log : ExchangeLog) × LogOfTicks k turns log

-- the places in the kernel of a text that is accepted have lines and columns
abbrev pub AcceptedTextsHavePlaces : Type 0
AcceptedTextsHavePlaces = (text : List ℕ) (counts : Counts) (k : PlainKernel) → Judged text (Accepts counts k) → KernelPlaces k

-- The log of ticks of a program that is accepted is one of its shape, whatever valid code stands for its kernel.
abbrev pub AcceptedTextsHaveFittingLogs : Type 0
AcceptedTextsHaveFittingLogs =
    (text : List ℕ) (counts : Counts) (k : PlainKernel) → Judged text (Accepts counts k) → (c : PlainCode) → IsValidCode c → Stands c k →
    (turns : List TickInput) (log : ExchangeLog) → LogOfTicks k turns log → AllByRecursion TurnFits turns → IsOfShape k.shape log
