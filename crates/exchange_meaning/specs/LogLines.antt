-- A log as a text. Its words are separated by one space, its numbers are decimal without leading zeros, and each line ends with byte 10.
use Rattle.std.specs.Prelude.{ℕ, zero, suc, ◌-◌, ◌≡◌, cond, List, [], ◌∷◌, ◌++◌, ℤ, length, codes, decimal}
use Rattle.std.specs.Fmt.{signed_decimal}
use Rattle.forec_base.specs.declared.Trap.{Trap}
use Rattle.forec_base.specs.declared.Trap.TheVariants as trap
use Rattle.forec_kernel.specs.declared.shape.VarCopy.{VarCopy}
use Rattle.forec_kernel.specs.Engine.{Job, Start, Wake, Reply, WasPaused, WasEnded, WasTrapped, WasOver}
use Rattle.forec_kernel.specs.Shapes.{PlainKernel}
use Rattle.forec_kernel.specs.Composed.{TickInput}
use Rattle.exchange_meaning.specs.Logged.{Logged, ExchangeLog}
use Rattle.exchange_meaning.specs.LogOf.{LogOfTicks}

-- a space and a number, for each
abbrev pub spaced_numbers : List ℤ → List ℕ
spaced_numbers [] = []
spaced_numbers (n ∷ ns) = codes " " ++ signed_decimal n ++ spaced_numbers ns

-- the same for copies, with a star behind each that is marked
abbrev pub marked_numbers : List VarCopy → List ℕ
marked_numbers [] = []
marked_numbers (c ∷ cs) = codes " " ++ signed_decimal c.value ++ cond c.modified (codes "*") [] ++ marked_numbers cs

abbrev pub job_line : Job → List ℕ
job_line (Start args values a) = codes "start " ++ decimal a ++ spaced_numbers args ++ spaced_numbers values ++ codes "\n"
job_line (Wake values a) = codes "wake " ++ decimal a ++ spaced_numbers values ++ codes "\n"

abbrev pub logged_trap : Trap → List ℕ
logged_trap trap.Divide = codes "divide"
logged_trap trap.Index = codes "index"
logged_trap trap.Turns = codes "turns"

abbrev pub reply_line : Reply → List ℕ
reply_line (WasPaused copies u) = codes "paused " ++ decimal u ++ marked_numbers copies ++ codes "\n"
reply_line (WasEnded copies u) = codes "ended " ++ decimal u ++ marked_numbers copies ++ codes "\n"
reply_line (WasTrapped place trap u) = codes "trapped " ++ decimal u ++ codes " " ++ decimal place.line ++ codes ":" ++ decimal place.column ++ codes " " ++ logged_trap trap ++ codes "\n"
reply_line WasOver = codes "over\n"

-- the two lines of each job
abbrev pub exchange_lines : List Logged → List ℕ
exchange_lines [] = []
exchange_lines (l ∷ ls) = job_line l.job ++ reply_line l.reply ++ exchange_lines ls

abbrev pub thread_log_lines : ℕ → List Logged → List ℕ
thread_log_lines t ls = codes "thread " ++ decimal t ++ codes " jobs " ++ decimal (length ls) ++ codes "\n" ++ exchange_lines ls

-- so many threads, from thread t on
abbrev pub log_lines_from : ℕ → ℕ → ExchangeLog → List ℕ
log_lines_from t zero log = []
log_lines_from t (suc n) log = thread_log_lines t (log t) ++ log_lines_from (suc t) n log

-- the text of a log of so many threads, thread 0 among them
abbrev pub log_text : ℕ → ExchangeLog → List ℕ
log_text threads log = log_lines_from 1 (threads - 1) log

-- The bytes are the log of the kernel's ticks. There is one such text at most, and it is the same for every code that stands for the kernel.
pub record IsLogText (k : PlainKernel) (turns : List TickInput) (bytes : List ℕ) : Type 0 where
  pub log : ExchangeLog
  pub is : LogOfTicks k turns log
  pub text : bytes ≡ log_text (length k.shape.threads) log
