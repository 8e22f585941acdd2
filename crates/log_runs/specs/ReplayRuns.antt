-- What is told where a log is held to a run over a trace.
use Rattle.std.specs.Prelude.{◌≡◌, ◌⊎◌, ◌<◌, ℕ, suc, Bool, List, [], ◌∷◌, ◌++◌, Option, Some, map, length, codes, decimal}
use Rattle.forec_base.specs.Outside.{Fell}
use Rattle.forec_kernel.specs.Composed.{TickInput}
use Rattle.forec_kernel.specs.Engine.{pair_all}
use Rattle.forec_kernel.specs.Shapes.{PlainKernel}
use Rattle.forec_kernel.specs.Solo.{KernelAlone}
use Rattle.forec_kernel.specs.Ticks.{Fresh, run_from}
use Rattle.thread_code.specs.Plain.{PlainCode}
use Rattle.exchange_meaning.specs.Logged.{ExchangeLog}
use Rattle.exchange_meaning.specs.Replays.{AgreesWholly, AllAgree, FailsAt, IsReplayed, RunsTicks}
use Rattle.exchange_meaning.specs.Telling.{IsAll}
use Rattle.exchange_replay.specs.Replaying.{ReplaysSame, ReplaysUpTo}
use Rattle.log_text.specs.Fronts.{IsFirstBad, IsLogOf}
use Rattle.trace_rows.specs.Calls.{IfTold}
use Rattle.trace_rows.specs.Lines.{whole_lines}
use Rattle.trace_rows.specs.SourceReads.{ReadsBytes}
use Rattle.trace_ticks.specs.Ends.{Wanted, GoesOn}
use Rattle.trace_ticks.specs.KernelNames.{run_format}
use Rattle.trace_ticks.specs.Led.{IsTold}
use Rattle.trace_ticks.specs.Prints.{Prints}
use Rattle.trace_ticks.specs.Report.{Report, lines_from, trace_report, trace_turns}
use Rattle.trace_ticks.specs.declared.format.Telling.TheVariants as telling
use Rattle.trace_ticks.specs.declared.status.Status.{Status}
use Rattle.trace_ticks.specs.declared.status.Status.TheVariants as status

-- ---- lines

-- line number n of a text is the first that with those before it begins no log
abbrev pub no_log : ℕ → Report
no_log n = record { bytes = codes "refused log " ++ decimal n ++ codes "\n"; status = status.Refused }

-- job or tick n of thread t is the first that isn't as the log has it
abbrev pub difference_line : ℕ → ℕ → List ℕ
difference_line t n = codes "replay differs " ++ decimal t ++ codes " " ++ decimal n ++ codes "\n"

-- the same behind what was told before
abbrev pub differing : List ℕ → ℕ → ℕ → Report
differing before t n = record { bytes = before ++ difference_line t n; status = status.Refused }

-- the log is that of a run with this report
abbrev pub replay_ok : Report → Report
replay_ok r = record { bytes = r.bytes ++ codes "replay ok\n"; status = r.status }

-- ---- reports

-- of the threads but thread 0, thread t is the last that isn't as the log has it; its job number m, from 0, is the first that fails
pub record FailsLast (k : PlainKernel) (log : ExchangeLog) (t m : ℕ) : Type 0 where
  pub some : 0 < t
  pub within : t < length k.shape.threads
  pub later : (u : ℕ) → t < u → u < length k.shape.threads → AgreesWholly (KernelAlone k) k.shape log u
  pub fails : FailsAt (KernelAlone k) k.shape log t m

-- of a code's threads but thread 0, thread t is the last that isn't as the log has it; its job of this number, from 1, is the first that fails
pub record FailsLastIn (c : PlainCode) (log : ExchangeLog) (t number : ℕ) : Type 0 where
  pub some : 0 < t
  pub within : t < length c.shape.threads
  pub later : (u : ℕ) → t < u → u < length c.shape.threads → ReplaysSame c log u
  pub fails : ReplaysUpTo c log t number

-- the lines of these ticks
abbrev pub ticks_told : PlainKernel → ℕ → List TickInput → List ℕ
ticks_told k budget turns = lines_from (run_format telling.Report k) budget 1 (run_from k budget Fresh (map (λ turn. turn.row) turns))

-- a log of the kernel's shape, with which each thread but thread 0 agrees by itself, has this text
pub record AgreesText (k : PlainKernel) (text : List ℕ) : Type 0 where
  pub log : ExchangeLog
  pub is : IsLogOf k.shape log text
  pub each : AllAgree (KernelAlone k) k.shape log

-- r is what is told of a text, which should be a log, and a kernel's run over a trace of these bytes
pub data IsReplay (limit : ℕ) (k : PlainKernel) (budget : ℕ) (text bytes : List ℕ) (r : Report) : Type 0 where
  Of_no_log : (n : ℕ) → IsFirstBad k.shape text n → r ≡ no_log n → IsReplay limit k budget text bytes r
  Of_thread : (log : ExchangeLog) (t m : ℕ) → IsLogOf k.shape log text → FailsLast k log t m → r ≡ differing [] t (suc m) → IsReplay limit k budget text bytes r
  Of_tick : (a : AgreesText k text) (before later : List TickInput) (turn : TickInput) → trace_turns limit k budget bytes ≡ before ++ turn ∷ later
      → RunsTicks (KernelAlone k) k.shape a.log before → (RunsTicks (KernelAlone k) k.shape a.log (before ++ turn ∷ []) → ⊥)
      → r ≡ differing (ticks_told k budget before) 0 (suc (length before)) → IsReplay limit k budget text bytes r
  Of_left : (a : AgreesText k text) (root : RunsTicks (KernelAlone k) k.shape a.log (trace_turns limit k budget bytes))
      → (IsAll k.shape a.log 0 (pair_all root.tells.exchanges root.tells.outputs) → ⊥)
      → r ≡ differing (trace_report limit (run_format telling.Report k) k budget bytes).bytes 0 (suc (length (trace_turns limit k budget bytes)))
      → IsReplay limit k budget text bytes r
  Of_same : (log : ExchangeLog) → IsLogOf k.shape log text → IsReplayed (KernelAlone k) k.shape (trace_turns limit k budget bytes) log
      → r ≡ replay_ok (trace_report limit (run_format telling.Report k) k budget bytes) → IsReplay limit k budget text bytes r

-- the same for what is left of a trace
abbrev pub IsTraceReplay : ℕ → PlainKernel → ℕ → List ℕ → Option (List ℕ) → Report → Type 0
IsTraceReplay limit k budget text left r = (bytes : List ℕ) × (left ≡ Some bytes) × IsReplay limit k budget text bytes r

-- ---- the trace

-- lines as they came, each with its byte 10
abbrev pub with_ends : List (List ℕ) → List ℕ
with_ends [] = []
with_ends (line ∷ lines) = line ++ codes "\n" ++ with_ends lines

-- thread 0 runs the ticks over the lines that have come whole, with the logged replies of its branches, and tells them what is logged
abbrev pub RunsOver : ℕ → PlainKernel → ℕ → ExchangeLog → List ℕ → Type 0
RunsOver limit k budget log came = RunsTicks (KernelAlone k) k.shape log (trace_turns limit k budget (with_ends (whole_lines came)))

-- The trace was wanted: each thread but thread 0 agrees with the log, no line that came whole stops the program, and no tick over them differs.
pub record WantedByReplay (limit : ℕ) (k : PlainKernel) (budget : ℕ) (text : List ℕ) (left_old left_new held_old held_new : Option (List ℕ)) : Type 0 where
  pub agrees : AgreesText k text
  pub wanted : Wanted limit (run_format telling.Report k) k budget left_old left_new held_old held_new
  pub runs : IfTold left_old left_new (λ old new. (given : List ℕ) × (old ≡ given ++ new) × RunsOver limit k budget agrees.log given)

-- The trace was read so: each read was asked for while no line that had come whole stops the program, and no tick over them differs.
pub record ReadForReplay {S : Type 0} (left : S → Option (List ℕ)) (faults : S → ℕ) (down : S → Bool) (limit : ℕ) (k : PlainKernel) (budget : ℕ) (text : List ℕ)
    (old new : S) : Type 0 where
  pub agrees : AgreesText k text
  pub given : List ℕ
  pub reads : ReadsBytes left faults down (λ came. GoesOn limit (run_format telling.Report k) k budget came × RunsOver limit k budget agrees.log came) old given new

-- A text was held to a kernel's run over a trace, of which at most `limit` rows. (As in `RunsRows`.)
pub record ReplaysRows {S K : Type 0} (left : S → Option (List ℕ)) (faults : S → ℕ) (down : S → Bool) (held : K → Option (List ℕ)) (lost : K → ℕ) (is_down : K → Bool)
    (limit : ℕ) (k : PlainKernel) (budget : ℕ) (text : List ℕ) (old new : S) (out_old out_new : K) (end : Status) : Type 0 where
  pub prints : Prints held lost is_down (IsTold (left old)) (IsTraceReplay limit k budget text (left old)) ⊥
      (Fell (faults old) (faults new) (down new) × WantedByReplay limit k budget text (left old) (left new) (held out_old) (held out_new)) ⊥ out_old out_new end
  pub trace : (new ≡ old) ⊎ ReadForReplay left faults down limit k budget text old new
