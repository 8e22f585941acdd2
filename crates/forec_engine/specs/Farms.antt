-- The report of one program over many traces.
use Rattle.std.specs.Prelude.{◌≡◌, ℕ, nat_le, nat_lt, List, [], ◌∷◌, Option, Some, map, length, codes, decimal, if◌then◌else◌}
use Rattle.std.specs.List.{concat}
use Rattle.std.specs.Simd.Lanes.{zip2}
use Rattle.forec_base.specs.declared.limits.TheConstants.{MAX_TEXT_BYTES}
use Rattle.forec_kernel.specs.Shapes.{PlainKernel}
use Rattle.command_words.specs.declared.request.Budget.{Budget}
use Rattle.text_verdict.specs.Judging.{refusal_line}
use Rattle.text_verdict.specs.declared.counts.Counts.{Counts}
use Rattle.text_verdict.specs.declared.refusal.Refusal.TheVariants as refusal
use Rattle.trace_farm.specs.Farm.{NumberedReport, with_number}
use Rattle.trace_ticks.specs.KernelNames.{run_format}
use Rattle.trace_ticks.specs.Report.{Report, trace_report}
use Rattle.trace_ticks.specs.declared.format.Telling.TheVariants as telling
use Rattle.trace_ticks.specs.StatusNumbers.{status_number}
use Rattle.trace_ticks.specs.declared.status.Status.{Status}
use Rattle.trace_ticks.specs.declared.status.Status.TheVariants as status
use Rattle.forec_engine.specs.Budgets.{budget_for, with_budget}
use Rattle.forec_engine.specs.declared.farm_traces.TheConstants.{FARM_ROWS}

-- `refused long`, of a trace of more than 1,048,576 bytes
abbrev pub too_long : Report
too_long = record { bytes = refusal_line refusal.Long; status = status.Refused }

-- what `run` reports of a kernel for a trace of these bytes, of which at most 1,000 rows are run
abbrev pub farmed : PlainKernel → ℕ → List ℕ → Report
farmed k units bytes = if nat_lt MAX_TEXT_BYTES (length bytes) then too_long else trace_report FARM_ROWS (run_format telling.Report k) k units bytes

-- `trace NAME`, the report of that trace, and `status N`
abbrev pub trace_group : List ℕ → NumberedReport → List ℕ
trace_group name r = concat (codes "trace " ∷ name ∷ codes "\n" ∷ r.bytes ∷ codes "status " ∷ decimal r.status ∷ codes "\n" ∷ [])

-- the groups of traces of these names, in order
abbrev pub groups : List (List ℕ) → List NumberedReport → List ℕ
groups names rs = concat (zip2 trace_group names rs)

-- of two statuses the one with the greater number
abbrev pub worse : Status → Status → Status
worse a b = if nat_le (status_number b) (status_number a) then a else b

-- the one with the greatest number
abbrev pub worst : List Status → Status
worst [] = status.Done
worst (s ∷ ss) = worse s (worst ss)

-- the report of a kernel for traces of these names and bytes
abbrev pub farm_report : PlainKernel → ℕ → (names texts : List (List ℕ)) → Report
farm_report k units names texts =
    let reports = map (farmed k units) texts in record { bytes = groups names (map with_number reports); status = worst (map (λ r. r.status) reports) }

-- these are the texts of these names
abbrev pub AreTextsOf : (List ℕ → Option (List ℕ)) → (names texts : List (List ℕ)) → Type 0
AreTextsOf content names texts = map content names ≡ map Some texts

-- r is the report of a kernel for the traces of these names
abbrev pub FarmedReport : (List ℕ → Option (List ℕ)) → List (List ℕ) → Budget → Counts → PlainKernel → Report → Type 0
FarmedReport content names b counts k r =
    (texts : List (List ℕ)) × AreTextsOf content names texts × (r ≡ with_budget (budget_for k b) (λ units. farm_report k units names texts))

-- the texts of these names are told
abbrev pub TellsTexts : (List ℕ → Option (List ℕ)) → List (List ℕ) → Type 0
TellsTexts content names = (texts : List (List ℕ)) × AreTextsOf content names texts

-- the text of the program is told, and those of the traces
abbrev pub TellsFarm : (List ℕ → Option (List ℕ)) → List ℕ → List (List ℕ) → Type 0
TellsFarm content name names = (text : List ℕ) × (content name ≡ Some text) × TellsTexts content names
