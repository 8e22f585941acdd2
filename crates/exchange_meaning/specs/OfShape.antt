-- Logs that fit a shape.
use Rattle.std.specs.Prelude.{ℕ, ℤ, ◌<◌, ◌≤◌, ◌^◌, Some, List, [], ◌∷◌, length, FitsSigned}
use Rattle.std.specs.Int.{w32}
use Rattle.std.specs.List.{AllByRecursion}
use Rattle.forec_base.specs.declared.limits.TheConstants.{MAX_BUDGET}
use Rattle.forec_kernel.specs.declared.shape.VarCopy.{VarCopy}
use Rattle.forec_kernel.specs.Engine.{Job, Start, Wake, Reply, WasPaused, WasEnded, WasTrapped, WasOver}
use Rattle.forec_kernel.specs.Shapes.{PlainShape}
use Rattle.thread_code.specs.Laws.{FitsThread, FitsReply}
use Rattle.exchange_meaning.specs.Logged.{Logged, ExchangeLog}

abbrev pub AreInts : List ℤ → Type 0
AreInts ns = AllByRecursion (FitsSigned w32) ns

abbrev pub HaveInts : List VarCopy → Type 0
HaveInts copies = AllByRecursion (λ (c : VarCopy). FitsSigned w32 c.value) copies

-- its arguments and values are `int`s, and its allowance is at most the greatest budget
abbrev pub HasJobNumbers : Job → Type 0
HasJobNumbers (Start args values a) = AreInts args × AreInts values × (a ≤ MAX_BUDGET)
HasJobNumbers (Wake values a) = AreInts values × (a ≤ MAX_BUDGET)

-- a line or a column, from 1
abbrev pub IsPlaceNumber : ℕ → Type 0
IsPlaceNumber n = (1 ≤ n) × (n < 2 ^ 32)

-- its values are `int`s, its units are below 2 ^ 64, and its place has a line and a column
abbrev pub HasReplyNumbers : Reply → Type 0
HasReplyNumbers (WasPaused copies u) = HaveInts copies × (u < 2 ^ 64)
HasReplyNumbers (WasEnded copies u) = HaveInts copies × (u < 2 ^ 64)
HasReplyNumbers (WasTrapped place trap u) = (u < 2 ^ 64) × IsPlaceNumber place.line × IsPlaceNumber place.column
HasReplyNumbers WasOver = Unit {0}

-- a job of thread t with an argument for each of its parameters and a value for each of its variables, and a reply with a copy of each
pub record IsOfThread (s : PlainShape) (t : ℕ) (l : Logged) : Type 0 where
  pub job : FitsThread s t l.job
  pub reply : FitsReply s t (Some l.reply)
  pub job_numbers : HasJobNumbers l.job
  pub reply_numbers : HasReplyNumbers l.reply

abbrev pub AreOfThread : PlainShape → ℕ → List Logged → Type 0
AreOfThread s t [] = Unit {0}
AreOfThread s t (l ∷ ls) = IsOfThread s t l × AreOfThread s t ls

-- each thread's list is one of that thread
abbrev pub IsOfShape : PlainShape → ExchangeLog → Type 0
IsOfShape s log = (t : ℕ) → 0 < t → t < length s.threads → AreOfThread s t (log t)
