-- How far thread 0 was replayed over a trace.
use Rattle.std.specs.Prelude.{◌≡◌, ◌≢◌, ◌≤◌, ℕ, suc, Option, List, ◌∷◌, ◌++◌, length, map, ⊤}
use Rattle.std.specs.Io.KnownBytes.{Appends}
use Rattle.forec_base.specs.declared.limits.TheConstants.{MAX_ROWS}
use Rattle.forec_kernel.specs.Composed.{TickInput}
use Rattle.forec_kernel.specs.Shapes.{PlainKernel}
use Rattle.forec_kernel.specs.Ticks.{Fresh, run_from}
use Rattle.forec_kernel.specs.WellFormed.{WellFormed}
use Rattle.thread_code.specs.Alone.{CodeAlone, Stands}
use Rattle.thread_code.specs.Plain.{PlainCode}
use Rattle.thread_code.specs.Valid.{IsValidCode}
use Rattle.exchange_meaning.specs.Logged.{ExchangeLog}
use Rattle.exchange_meaning.specs.Replays.{AllAgree, RunsTicks}
use Rattle.log_text.specs.ReadLogs.{HasPairs}
use Rattle.log_text.specs.declared.log.Log.{Log}
use Rattle.exchange_replay.specs.Rooted.{CannotTick}
use Rattle.trace_rows.specs.Lines.{whole_lines}
use Rattle.trace_rows.specs.Reader.{Reader}
use Rattle.trace_rows.specs.Trace.{Form, rows_from}
use Rattle.whole_writes.specs.Calls.{AppendsFront}
use Rattle.trace_ticks.specs.Ends.{GoesOn, IsOwn}
use Rattle.trace_ticks.specs.Formats.{opening}
use Rattle.trace_ticks.specs.Progress.{GoesOnFrom}
use Rattle.trace_ticks.specs.Report.{Report, lines_from, trace_turns, turns_from}
use Rattle.trace_ticks.specs.declared.format.Format.{Format}
use Rattle.trace_ticks.specs.declared.status.Status.{Status}
use Rattle.trace_ticks.specs.declared.status.Status.TheVariants as status
use Rattle.log_runs.specs.ReplayRuns.{with_ends}
use Rattle.log_runs.specs.declared.replaying.Walked.{Walked}
use Rattle.log_runs.specs.declared.replaying.Walked.TheVariants as walked

-- the code stands for the kernel, the log has these pairs, and each thread but thread 0 agrees with them
pub record IsHeldTo (c : PlainCode) (l : Log) (k : PlainKernel) (log : ExchangeLog) : Type 0 where
  pub valid : IsValidCode c
  pub formed : WellFormed k
  pub stands : Stands c k
  pub pairs : HasPairs c.shape l log
  pub each : AllAgree (CodeAlone c) c.shape log

-- thread 0 by itself runs these ticks as the log has them
abbrev pub RootRuns : PlainCode → ExchangeLog → List TickInput → Type 0
RootRuns c log turns = RunsTicks (CodeAlone c) c.shape log turns

-- the lines of these ticks, behind what stands before them
abbrev pub lines_told : Format → PlainKernel → ℕ → List TickInput → List ℕ
lines_told how k budget turns = opening how ++ lines_from how budget 1 (run_from k budget Fresh (map (λ turn. turn.row) turns))

-- ---- the reads of the trace

-- the ticks over these lines, which are read so
abbrev pub turns_over : ℕ → PlainKernel → ℕ → Form → List (List ℕ) → List TickInput
turns_over limit k budget form lines = turns_from k budget Fresh (rows_from limit form 1 lines).rows

-- those over the lines that have come whole after a header
abbrev pub turns_come : PlainKernel → ℕ → Reader → List ℕ → List TickInput
turns_come k budget first came = turns_over first.limit k budget first.form (whole_lines (first.held ++ came))

-- those over the lines of a trace that have come whole
abbrev pub turns_given : ℕ → PlainKernel → ℕ → List ℕ → List TickInput
turns_given limit k budget came = trace_turns limit k budget (with_ends (whole_lines came))

-- what of a trace was given, and thread 0 runs the ticks over it
abbrev pub GivenRuns : PlainCode → ExchangeLog → ℕ → PlainKernel → ℕ → List ℕ → List ℕ → Type 0
GivenRuns c log limit k budget old new = (given : List ℕ) × (old ≡ given ++ new) × RootRuns c log (turns_given limit k budget given)

-- the same after a header
abbrev pub ComesRun : PlainCode → ExchangeLog → PlainKernel → ℕ → Reader → List ℕ → List ℕ → Type 0
ComesRun c log k budget first old new = (given : List ℕ) × (old ≡ given ++ new) × RootRuns c log (turns_come k budget first given)

-- the program goes on, and thread 0 runs the ticks over what came
abbrev pub MayRead : PlainCode → ExchangeLog → ℕ → Format → PlainKernel → ℕ → List ℕ → Type 0
MayRead c log limit how k budget came = GoesOn limit how k budget came × RootRuns c log (turns_given limit k budget came)

-- the same after a header
abbrev pub MayReadFrom : PlainCode → ExchangeLog → Format → PlainKernel → ℕ → Reader → List ℕ → Type 0
MayReadFrom c log how k budget first came = GoesOnFrom how k budget first came × RootRuns c log (turns_come k budget first came)

-- ---- where a walk over the ticks of a trace ended

-- All these ticks were run; what was sent and the lines that wait are their report.
pub record HasWalked (Has : List TickInput → Type 0) (turns : List TickInput) (r : Report) (held_old held_new : Option (List ℕ)) (waiting : List ℕ) (number : ℕ)
    (end : Status) : Type 0 where
  pub status : end ≡ r.status
  pub sent : List ℕ
  pub appended : Appends held_old held_new sent
  pub bytes : r.bytes ≡ sent ++ waiting
  pub ran : Has turns
  pub count : number ≡ length turns

-- The tick of this number is the first that differs; what was sent and the lines that wait are those of the ticks before it.
pub record DiffersAt (c : PlainCode) (log : ExchangeLog) (how : Format) (k : PlainKernel) (budget : ℕ) (turns : List TickInput) (held_old held_new : Option (List ℕ))
    (waiting : List ℕ) (number : ℕ) : Type 0 where
  pub before : List TickInput
  pub turn : TickInput
  pub later : List TickInput
  pub split : turns ≡ before ++ turn ∷ later
  pub runs : RootRuns c log before
  pub cannot : CannotTick c log before turn
  pub count : number ≡ suc (length before)
  pub sent : List ℕ
  pub appended : Appends held_old held_new sent
  pub bytes : lines_told how k budget before ≡ sent ++ waiting

-- Some ticks were run; what was sent is a front of their lines, and of the report.
pub record WasCut (c : PlainCode) (log : ExchangeLog) (how : Format) (k : PlainKernel) (budget : ℕ) (turns : List TickInput) (r : Report) (held_old held_new : Option (List ℕ)) :
    Type 0 where
  pub before : List TickInput
  pub later : List TickInput
  pub split : turns ≡ before ++ later
  pub runs : RootRuns c log before
  pub lines : AppendsFront held_old held_new (lines_told how k budget before)
  pub report : AppendsFront held_old held_new r.bytes

-- what is so where the walk ended, of all ticks of the trace and their report
abbrev pub WalkedTo : PlainCode → ExchangeLog → Format → PlainKernel → ℕ → (List TickInput → Type 0) → Option (List ℕ) → Option (List ℕ) → List ℕ → List TickInput → Report → Walked → Type 0
WalkedTo c log how k budget Has held_old held_new waiting turns r (walked.Whole number end) = HasWalked Has turns r held_old held_new waiting number end
WalkedTo c log how k budget Has held_old held_new waiting turns r (walked.Differs number) = DiffersAt c log how k budget turns held_old held_new waiting number
WalkedTo c log how k budget Has held_old held_new waiting turns r (walked.Failed status.WriteFault) = WasCut c log how k budget turns r held_old held_new
WalkedTo c log how k budget Has held_old held_new waiting turns r (walked.Failed _) = ⊤

-- how it can fail: the trace, the sink, or memory; else its status is a report's own
abbrev pub EndsBy : Type 0 → Type 0 → Type 0 → Walked → Type 0
EndsBy Unread Unwritten Unmade (walked.Whole number end) = IsOwn end × (end ≢ status.Usage) × (number ≤ MAX_ROWS)
EndsBy Unread Unwritten Unmade (walked.Differs number) = ⊤
EndsBy Unread Unwritten Unmade (walked.Failed status.ReadFault) = Unread
EndsBy Unread Unwritten Unmade (walked.Failed status.WriteFault) = Unwritten
EndsBy Unread Unwritten Unmade (walked.Failed status.NoMemory) = Unmade
EndsBy Unread Unwritten Unmade (walked.Failed _) = ⊥
