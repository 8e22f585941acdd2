-- The log of a run.
use Rattle.std.specs.Prelude.{ℕ, ◌≡◌, ◌<◌, List, [], ◌∷◌, map, length}
use Rattle.forec_kernel.specs.declared.shape.Outcome.TheVariants as outcome
use Rattle.forec_kernel.specs.Engine.{Job, Exchange, Output, pair_all, Allowed, Answers}
use Rattle.forec_kernel.specs.Shapes.{PlainShape, PlainKernel}
use Rattle.forec_kernel.specs.Ticks.{TickState, Fresh, tick}
use Rattle.forec_kernel.specs.Composed.{TickInput, tick_jobs, next_state}
use Rattle.forec_kernel.specs.Solo.{KernelAlone}
use Rattle.exchange_meaning.specs.Logged.{ExchangeLog, jobs_in}
use Rattle.exchange_meaning.specs.Telling.{TellsBranches, IsAll}

-- Thread t was given these jobs, and what it told its branches for them is what the log has: no more, no less. Each reply is one that the branch, with all threads
-- below it, gives to what it was told.
pub record IsLogged (run : ℕ → List Exchange → List Output → Type 0) (s : PlainShape) (log : ExchangeLog) (t : ℕ) (given : List Job) : Type 0 where
  pub tells : TellsBranches run s log t
  pub jobs : map (λ x. x.job) tells.exchanges ≡ given
  pub all : IsAll s log t (pair_all tells.exchanges tells.outputs)
  pub answered : Allowed (Answers run (length s.threads)) [] (pair_all tells.exchanges tells.outputs)

-- The log of a program whose thread 0 was given these jobs: each thread but thread 0 was given the jobs that the log has for it.
pub record LogOf (run : ℕ → List Exchange → List Output → Type 0) (s : PlainShape) (jobs : List Job) (log : ExchangeLog) : Type 0 where
  pub root : IsLogged run s log 0 jobs
  pub each : (t : ℕ) → 0 < t → t < length s.threads → IsLogged run s log t (jobs_in (log t))

-- each tick but the last pauses
abbrev pub AllButLastPause : PlainKernel → TickState → List TickInput → Type 0
AllButLastPause k old [] = Unit {0}
AllButLastPause k old (turn ∷ []) = Unit {0}
AllButLastPause k old (turn ∷ next ∷ turns) = ((tick k turn.budget old turn.row).outcome ≡ outcome.Paused) × AllButLastPause k (next_state k old turn) (next ∷ turns)

-- The log of a kernel's ticks, from the first on, up to one that doesn't pause where there is one.
pub record LogOfTicks (k : PlainKernel) (turns : List TickInput) (log : ExchangeLog) : Type 0 where
  pub ticks : AllButLastPause k Fresh turns
  pub log_of : LogOf (KernelAlone k) k.shape (tick_jobs k Fresh turns) log
