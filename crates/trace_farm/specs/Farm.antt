-- The reports of many traces.
use Rattle.std.specs.Prelude.{◌≡◌, ℕ, true, List, [], length, map}
use Rattle.std.specs.declared.vec.Vec.{Vec}
use Rattle.std.specs.declared.alloc.Global.{Global}
use Rattle.forec_kernel.specs.Shapes.{PlainKernel}
use Rattle.forec_kernel.specs.WellFormed.{WellFormed}
use Rattle.thread_code.specs.Alone.{Stands}
use Rattle.thread_code.specs.Plain.{PlainCode}
use Rattle.thread_code.specs.declared.instruction.CodeParts.{CodeParts}
use Rattle.core_alloc.specs.Places.{Places}
use Rattle.core_host.specs.Hosted.{Hosted, is_live, IsWhole}
use Rattle.core_host.specs.Runs.{HostHasRun}
use Rattle.trace_ticks.specs.KernelNames.{run_format}
use Rattle.trace_ticks.specs.Report.{Report, trace_report}
use Rattle.trace_ticks.specs.declared.format.Telling.TheVariants as telling
use Rattle.trace_ticks.specs.StatusNumbers.{status_number}
use Rattle.trace_ticks.specs.declared.status.Status.{Status}
use Rattle.trace_farm.specs.declared.farm_report.FarmReport.{FarmReport}

-- a report with the number of its status
pub record NumberedReport : Type 0 where
  pub bytes : List ℕ
  pub status : ℕ

abbrev pub with_number : Report → NumberedReport
with_number r = record { bytes = r.bytes; status = status_number r.status }

-- a report that is kept, as such a value
abbrev pub plain_report : FarmReport → NumberedReport
plain_report r = record { bytes = r.bytes.items; status = r.status }

-- it has these bytes, and the number of this status
abbrev pub KeepsReport : List ℕ → Status → FarmReport → Type 0
KeepsReport bytes status r = plain_report r ≡ record { bytes = bytes; status = status_number status }

-- what a kernel reports of a trace, of which at most `rows` rows are run
abbrev pub report_of : (rows : ℕ) → PlainKernel → ℕ → List ℕ → NumberedReport
report_of rows k budget trace = with_number (trace_report rows (run_format telling.Report k) k budget trace)

abbrev pub IsReportOf : ℕ → PlainKernel → ℕ → List ℕ → FarmReport → Type 0
IsReportOf rows k budget trace r = plain_report r ≡ report_of rows k budget trace

-- there is one report a trace, in order, and each is that of its trace by itself
abbrev pub AreReportsOf : ℕ → PlainKernel → ℕ → List (Vec ℕ Global) → List FarmReport → Type 0
AreReportsOf rows k budget traces reports = map plain_report reports ≡ map (λ t. report_of rows k budget t.items) traces

-- so it is for each kernel that a code stands for; and there are as many reports as traces
pub record AreReportsFor (code : PlainCode) (rows budget : ℕ) (traces : List (Vec ℕ Global)) (reports : List FarmReport) : Type 0 where
  pub count : length reports ≡ length traces
  pub each : (k : PlainKernel) → WellFormed k → Stands code k → AreReportsOf rows k budget traces reports

-- a host has all threads of a code, and has run nothing
pub record IsFreshHost (code : CodeParts) (h : Hosted) : Type 0 where
  pub code_is : h.code ≡ code
  pub whole : IsWhole h
  pub live : is_live h ≡ true
  pub none : HostHasRun h []

-- there is a core for each thread of a code
abbrev pub IsPlacedFor : PlainCode → Places → Type 0
IsPlacedFor code placement = length placement.places ≡ length code.threads
