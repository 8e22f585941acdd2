-- What it is to replay a log, one thread at a time.
use Rattle.std.specs.Prelude.{ℕ, ◌≡◌, ◌<◌, ◌≤◌, suc, Option, Some, None, List, [], ◌∷◌, map, length, take}
use Rattle.forec_kernel.specs.Engine.{Job, Start, Wake, Reply, WasPaused, Exchange, Output, pair_all}
use Rattle.forec_kernel.specs.Shapes.{PlainShape}
use Rattle.forec_kernel.specs.Texts.{uses_in}
use Rattle.forec_kernel.specs.Ticks.{with_row, start_copies, unmarked}
use Rattle.forec_kernel.specs.Composed.{TickInput}
use Rattle.forec_kernel.specs.Solo.{values_in}
use Rattle.exchange_meaning.specs.Logged.{ExchangeLog, jobs_in, RepliesAre}
use Rattle.exchange_meaning.specs.Telling.{TellsBranches, IsAll}

-- ---- a thread but thread 0

-- The first m jobs of thread t don't fail: given these jobs, and the logged replies of its branches, it replies as is logged, and tells its branches what is logged.
pub record AgreesUpTo (run : ℕ → List Exchange → List Output → Type 0) (s : PlainShape) (log : ExchangeLog) (t m : ℕ) : Type 0 where
  pub tells : TellsBranches run s log t
  pub jobs : map (λ x. x.job) tells.exchanges ≡ jobs_in (take m (log t))
  pub replies : RepliesAre tells.outputs (take m (log t))

-- none of its jobs fails, and no job of a branch of it is left unused
pub record AgreesWholly (run : ℕ → List Exchange → List Output → Type 0) (s : PlainShape) (log : ExchangeLog) (t : ℕ) : Type 0 where
  pub tells : TellsBranches run s log t
  pub jobs : map (λ x. x.job) tells.exchanges ≡ jobs_in (log t)
  pub replies : RepliesAre tells.outputs (log t)
  pub all : IsAll s log t (pair_all tells.exchanges tells.outputs)

-- its job number m, from 0, is the first that fails; where none does, a job of a branch is left unused, and m is the number of its jobs
pub record FailsAt (run : ℕ → List Exchange → List Output → Type 0) (s : PlainShape) (log : ExchangeLog) (t m : ℕ) : Type 0 where
  pub within : m ≤ length (log t)
  pub before : AgreesUpTo run s log t m
  pub job : m < length (log t) → AgreesUpTo run s log t (suc m) → ⊥
  pub left : AgreesWholly run s log t → ⊥

-- ---- thread 0

-- the job that a tick gives to thread 0 after this reply of it: a Start in the first tick; later a Wake, with the copies with which it paused
abbrev pub IsTick : PlainShape → Option Reply → TickInput → Job → Type 0
IsTick s None turn job = job ≡ Start [] (values_in (with_row (uses_in s.threads 0) s.inputs turn.row (start_copies s.variables))) turn.budget
IsTick s (Some (WasPaused copies u)) turn job = job ≡ Wake (values_in (with_row (uses_in s.threads 0) s.inputs turn.row (unmarked copies))) turn.budget
IsTick s (Some reply) turn job = ⊥

abbrev pub AreTicks : PlainShape → Option Reply → List TickInput → List Exchange → List Output → Type 0
AreTicks s last [] [] [] = Unit {0}
AreTicks s last (turn ∷ turns) (x ∷ xs) (o ∷ os) = IsTick s last turn x.job × AreTicks s o.reply turns xs os
AreTicks s last _ _ _ = ⊥

-- thread 0 by itself runs these ticks, with the logged replies of its branches, and tells them what is logged
pub record RunsTicks (run : ℕ → List Exchange → List Output → Type 0) (s : PlainShape) (log : ExchangeLog) (turns : List TickInput) : Type 0 where
  pub tells : TellsBranches run s log 0
  pub ticks : AreTicks s None turns tells.exchanges tells.outputs

-- ---- all threads

abbrev pub AllAgree : (ℕ → List Exchange → List Output → Type 0) → PlainShape → ExchangeLog → Type 0
AllAgree run s log = (t : ℕ) → 0 < t → t < length s.threads → AgreesWholly run s log t

-- each thread replays its part of the log by itself, thread 0 these ticks, and nothing is left unused
pub record IsReplayed (run : ℕ → List Exchange → List Output → Type 0) (s : PlainShape) (turns : List TickInput) (log : ExchangeLog) : Type 0 where
  pub each : AllAgree run s log
  pub root : RunsTicks run s log turns
  pub used : IsAll s log 0 (pair_all root.tells.exchanges root.tells.outputs)
