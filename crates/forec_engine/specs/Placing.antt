-- What is said where a list of places is refused.
use Rattle.std.specs.Prelude.{◌≡◌, ◌⊎◌, ℕ, Option, None, Some, List, [], ◌++◌, length, codes, decimal}
use Rattle.forec_kernel.specs.Shapes.{PlainKernel}
use Rattle.core_alloc.specs.declared.fault.PlaceFault.{PlaceFault}
use Rattle.core_alloc.specs.declared.fault.PlaceFault.TheVariants as fault
use Rattle.command_words.specs.Requests.{PlainPlacing, PlainRunning}
use Rattle.thread_places.specs.Placed.{refusal_of}
use Rattle.forec_engine.specs.Budgets.{budget_for, with_budget, IsBoundless}
use Rattle.trace_ticks.specs.Report.{Report}
use Rattle.trace_ticks.specs.Workload.{ticked_report}
use Rattle.trace_ticks.specs.declared.status.Status.TheVariants as status

-- `place shape A`, `place count F` or `place core A`; out of memory refuses no list
abbrev pub place_line : PlaceFault → List ℕ
place_line (fault.Shape at) = codes "place shape " ++ decimal at ++ codes "\n"
place_line (fault.Count found) = codes "place count " ++ decimal found ++ codes "\n"
place_line (fault.Core at) = codes "place core " ++ decimal at ++ codes "\n"
place_line fault.OutOfMemory = []

abbrev pub misplaced : PlaceFault → Report
misplaced why = record { bytes = place_line why; status = status.Usage }

-- why the list of places is refused for a kernel's threads; none where it isn't, or where none is given
abbrev pub misplacing : PlainKernel → PlainPlacing → Option PlaceFault
misplacing k placing = refusal_of (length k.threads) placing

-- a report, or the refusal of the list of places
abbrev pub unless_misplaced : Option PlaceFault → Report → Report
unless_misplaced None r = r
unless_misplaced (Some why) r = misplaced why

-- the report of a workload of so many threads, whose kernel this is
abbrev pub workload_report : ℕ → PlainRunning → PlainKernel → Report
workload_report threads running k =
    with_budget (budget_for k running.budget) (λ units. unless_misplaced (misplacing k running.placing) (ticked_report threads k units))

-- the list of places is refused for a kernel
abbrev pub IsMisplaced : PlainKernel → PlainPlacing → Type 0
IsMisplaced k placing = (why : PlaceFault) × (misplacing k placing ≡ Some why)

-- a kernel doesn't run so: the budget is its bound and it has none, or the list of places is refused
abbrev pub IsRefusedRun : PlainKernel → PlainRunning → Type 0
IsRefusedRun k running = IsBoundless k running.budget ⊎ IsMisplaced k running.placing
