-- What the functions of a farm read and tell.
use Rattle.std.specs.Prelude.{◌≡◌, ℕ, nat_lt, Bool, List, [], ◌∷◌, Option, Some, IfSome, map, length, if◌then◌else◌}
use Rattle.std.specs.Simd.Lanes.{zip2}
use Rattle.forec_base.specs.Outside.{Fell}
use Rattle.forec_base.specs.declared.limits.TheConstants.{MAX_TEXT_BYTES}
use Rattle.forec_kernel.specs.Shapes.{PlainKernel}
use Rattle.command_words.specs.declared.request.Budget.{Budget}
use Rattle.trace_farm.specs.Farm.{NumberedReport, with_number}
use Rattle.trace_ticks.specs.KernelNames.{run_format}
use Rattle.trace_ticks.specs.Report.{Report, trace_report}
use Rattle.trace_ticks.specs.declared.format.Telling.TheVariants as telling
use Rattle.trace_ticks.specs.declared.status.Status.{Status}
use Rattle.trace_ticks.specs.declared.status.Status.TheVariants as status
use Rattle.forec_engine.specs.Budgets.{budget_for, with_budget}
use Rattle.forec_engine.specs.Commands.{TextReport}
use Rattle.forec_engine.specs.Farms.{too_long, groups, worst, farm_report, AreTextsOf, FarmedReport}
use Rattle.forec_engine.specs.declared.farm_lines.Told.{Told}
use Rattle.forec_engine.specs.declared.farm_traces.TheConstants.{FARM_ROWS}

-- what is told, as a value
abbrev pub plain_told : Told → NumberedReport
plain_told t = record { bytes = t.bytes.now; status = t.status }

-- a report, or that the trace is too long
abbrev pub told_as : Bool → NumberedReport → NumberedReport
told_as long r = if long then with_number too_long else r

-- of each trace
abbrev pub told_all : List Bool → List NumberedReport → List NumberedReport
told_all longs rs = zip2 told_as longs rs

-- a trace was read: whether it is too long, and its bytes where it isn't
pub record IsReadOf (text : List ℕ) (long : Bool) (bytes : List ℕ) : Type 0 where
  pub long_is : long ≡ nat_lt MAX_TEXT_BYTES (length text)
  pub bytes_are : bytes ≡ (if long then [] else text)

-- so the traces of these names were read, where their texts are told
abbrev pub AreRead : (List ℕ → Option (List ℕ)) → List (List ℕ) → List Bool → List (List ℕ) → Type 0
AreRead content [] [] [] = Unit {0}
AreRead content (name ∷ names) (long ∷ longs) (bytes ∷ more) =
    IfSome (content name) (λ text. IsReadOf text long bytes) × AreRead content names longs more
AreRead content _ _ _ = ⊥

-- ---- reports

-- what is reported of a trace that was read so
abbrev pub picked : PlainKernel → ℕ → Bool → List ℕ → Report
picked k units long bytes = if long then too_long else trace_report FARM_ROWS (run_format telling.Report k) k units bytes

abbrev pub reports_of : PlainKernel → ℕ → List Bool → List (List ℕ) → List Report
reports_of k units longs bytes = zip2 (picked k units) longs bytes

-- the report of traces of these names, of which these are the reports
abbrev pub whole_report : List (List ℕ) → List Report → Report
whole_report names rs = record { bytes = groups names (map with_number rs); status = worst (map (λ r. r.status) rs) }

-- a status that a trace can have
abbrev pub IsRunStatus : Status → Type 0
IsRunStatus status.Done = Unit {0}
IsRunStatus status.Usage = ⊥
IsRunStatus status.Refused = Unit {0}
IsRunStatus status.Trace = Unit {0}
IsRunStatus status.Trapped = Unit {0}
IsRunStatus status.Over = Unit {0}
IsRunStatus status.ReadFault = ⊥
IsRunStatus status.WriteFault = ⊥
IsRunStatus status.NoMemory = ⊥
IsRunStatus status.Full = ⊥

-- each of these is the report of a trace
abbrev pub AreRun : List Report → Type 0
AreRun [] = Unit {0}
AreRun (r ∷ rs) = IsRunStatus r.status × AreRun rs

-- ---- what a farm prints

-- a store failed, and nothing was written
abbrev pub Unread : {T K : Type 0} → (T → ℕ) → (T → Bool) → (K → Option (List ℕ)) → T → T → K → K → Type 0
Unread missed gone held old new out_old out_new = Fell (missed old) (missed new) (gone new) × (held out_new ≡ held out_old)

-- it is the report of a kernel for the traces of these names, with so many units a tick
abbrev pub IsFarmReport : (List ℕ → Option (List ℕ)) → List (List ℕ) → PlainKernel → ℕ → Report → Type 0
IsFarmReport content names k units r = (texts : List (List ℕ)) × AreTextsOf content names texts × (r ≡ farm_report k units names texts)

-- the same with a budget
abbrev pub IsKernelFarm : (List ℕ → Option (List ℕ)) → List (List ℕ) → Budget → PlainKernel → Report → Type 0
IsKernelFarm content names b k r =
    (texts : List (List ℕ)) × AreTextsOf content names texts × (r ≡ with_budget (budget_for k b) (λ units. farm_report k units names texts))

-- it is the report of the program of a name for the traces of these names
abbrev pub IsNamedFarm : (List ℕ → Option (List ℕ)) → List ℕ → List (List ℕ) → Budget → Report → Type 0
IsNamedFarm content name names b r = (text : List ℕ) × (content name ≡ Some text) × TextReport text (FarmedReport content names b) r
