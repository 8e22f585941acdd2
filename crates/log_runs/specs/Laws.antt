-- What holds of all logs of runs.
use Rattle.std.specs.Prelude.{◌≡◌, ◌<◌, ◌^◌, ℕ, List, length}
use Rattle.forec_kernel.specs.Shapes.{PlainKernel}
use Rattle.forec_kernel.specs.WellFormed.{WellFormed}
use Rattle.log_runs.specs.ReplayRuns.{IsReplay}
use Rattle.log_runs.specs.RunLogs.{IsRunLog}
use Rattle.trace_ticks.specs.Report.{Report}

-- a kernel's run over a trace has one log at most
abbrev pub RunHasOneLog : Type 0
RunHasOneLog =
    (limit : ℕ) (k : PlainKernel) → WellFormed k → (budget : ℕ) (bytes : List ℕ) (r q : Report) → IsRunLog limit k budget bytes r → IsRunLog limit k budget bytes q → r ≡ q

-- of a text of fewer than 2^64 bytes and a kernel's run over a trace one thing is told at most
abbrev pub RunHasOneReplay : Type 0
RunHasOneReplay =
    (limit : ℕ) (k : PlainKernel) → WellFormed k → (budget : ℕ) (text bytes : List ℕ) → length text < 2 ^ 64 → (r q : Report) → IsReplay limit k budget text bytes r → IsReplay limit k budget text bytes q → r ≡ q
