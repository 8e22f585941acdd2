-- What a workload prints.
use Rattle.std.specs.Prelude.{ℕ, ◌%◌, ◌^◌, ℤ, pos, List, ◌++◌, length, replicate, codes, decimal}
use Rattle.std.specs.Int.{cast_unsigned, w32}
use Rattle.std.specs.List.{sum_by}
use Rattle.forec_kernel.specs.declared.shape.Outcome.{Outcome}
use Rattle.forec_kernel.specs.declared.shape.Outcome.TheVariants as outcome
use Rattle.forec_kernel.specs.Shapes.{PlainShape, PlainKernel}
use Rattle.forec_kernel.specs.Ticks.{Fresh, Tick, run_from}
use Rattle.trace_rows.specs.Report.{trap_words, over_words}
use Rattle.trace_ticks.specs.Report.{Report, last_outcome}
use Rattle.trace_ticks.specs.declared.generated.TheConstants.{WORKLOAD_TICKS}
use Rattle.trace_ticks.specs.declared.status.Status.TheVariants as status

-- each input is 0; the text of a workload has none
abbrev pub zero_row : PlainShape → List ℤ
zero_row s = replicate (length s.inputs) (pos 0)

-- the ticks of a workload: so many rows, or fewer where a tick doesn't pause
abbrev pub workload_ticks : PlainKernel → ℕ → List Tick
workload_ticks k budget = run_from k budget Fresh (replicate WORKLOAD_TICKS (zero_row k.shape))

-- the sum of values, each as 32 bits, modulo 2^32
abbrev pub values_sum : List ℤ → ℕ
values_sum values = sum_by (cast_unsigned w32) values

-- the sum of the outputs of ticks, modulo 2^32
abbrev pub outputs_sum : List Tick → ℕ
outputs_sum ticks = sum_by (λ t. values_sum t.outputs) ticks % 2 ^ 32

-- `gen N ticks 1000 sum S`
unfoldable pub workload_line : ℕ → ℕ → List ℕ
workload_line threads sum = codes "gen " ++ decimal threads ++ codes " ticks 1000 sum " ++ decimal sum ++ codes "\n"

-- what is printed of these ticks, of which the last went so
abbrev pub ticks_report : ℕ → ℕ → List Tick → Outcome → Report
ticks_report threads budget ticks outcome.Paused = record { bytes = workload_line threads (outputs_sum ticks); status = status.Done }
ticks_report threads budget ticks outcome.Ended = record { bytes = workload_line threads (outputs_sum ticks); status = status.Done }
ticks_report threads budget ticks (outcome.Trapped place trap) = record { bytes = trap_words (length ticks) place trap ++ codes "\n"; status = status.Trapped }
ticks_report threads budget ticks outcome.Over = record { bytes = over_words (length ticks) budget ++ codes "\n"; status = status.Over }

-- the report of a workload of so many threads, whose kernel this is
unfoldable pub ticked_report : ℕ → PlainKernel → ℕ → Report
ticked_report threads k budget = let ticks = workload_ticks k budget in ticks_report threads budget ticks (last_outcome ticks)
