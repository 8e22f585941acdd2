-- That a log is replayed says that it is the run's.
use Rattle.std.specs.Prelude.{ℕ, ◌≡◌, ◌<◌, ◌↔◌, Some, List, [], ◌∷◌, ◌++◌, length}
use Rattle.forec_kernel.specs.Engine.{Job, Reply, Exchange, Output, last_reply, pair_all, Answers}
use Rattle.forec_kernel.specs.Shapes.{PlainKernel}
use Rattle.forec_kernel.specs.Solo.{KernelAlone}
use Rattle.forec_kernel.specs.Ticks.{Fresh, tick}
use Rattle.forec_kernel.specs.Composed.{TickInput, state_after, MeansReply}
use Rattle.forec_kernel.specs.WellFormed.{WellFormed}
use Rattle.thread_code.specs.Plain.{PlainCode}
use Rattle.thread_code.specs.Valid.{IsValidCode}
use Rattle.thread_code.specs.Alone.{CodeAlone, Stands}
use Rattle.exchange_meaning.specs.Logged.{ExchangeLog, AreTold}
use Rattle.exchange_meaning.specs.LogOf.{LogOf, LogOfTicks}
use Rattle.exchange_meaning.specs.LogLines.{IsLogText}
use Rattle.exchange_meaning.specs.Replays.{AllAgree, RunsTicks, IsReplayed}

-- Where a code stands for a kernel, a log is that of the kernel's ticks exactly where each thread of the code, by itself, replays its part.
abbrev pub ReplayedIsLogged : Type 0
ReplayedIsLogged =
    (c : PlainCode) (k : PlainKernel) → IsValidCode c → WellFormed k → Stands c k → (turns : List TickInput) (log : ExchangeLog) →
    IsReplayed (CodeAlone c) c.shape turns log ↔ LogOfTicks k turns log

-- Where all threads but thread 0 are the same, each tick that thread 0 replays is the kernel's, also where jobs are left unused.
abbrev pub ReplaysTell : Type 0
ReplaysTell =
    (c : PlainCode) (k : PlainKernel) → IsValidCode c → WellFormed k → Stands c k → (log : ExchangeLog) → AllAgree (CodeAlone c) c.shape log →
    (before : List TickInput) (last : TickInput) (root : RunsTicks (CodeAlone c) c.shape log (before ++ last ∷ [])) (reply : Reply) →
    last_reply root.tells.outputs ≡ Some reply → MeansReply k (tick k last.budget (state_after k Fresh before) last.row) reply

-- The log of these jobs is the same for a code and for the kernel for which it stands.
abbrev pub LogsAgree : Type 0
LogsAgree =
    (c : PlainCode) (k : PlainKernel) → IsValidCode c → WellFormed k → Stands c k → (jobs : List Job) (log : ExchangeLog) →
    LogOf (CodeAlone c) c.shape jobs log ↔ LogOf (KernelAlone k) k.shape jobs log

-- There is one log of these jobs.
abbrev pub LogIsOne : Type 0
LogIsOne =
    (c : PlainCode) → IsValidCode c → (jobs : List Job) (log log' : ExchangeLog) →
    LogOf (CodeAlone c) c.shape jobs log → LogOf (CodeAlone c) c.shape jobs log' → (t : ℕ) → 0 < t → t < length c.shape.threads → log t ≡ log' t

-- The ticks of a kernel have one text of a log.
abbrev pub LogTextIsOne : Type 0
LogTextIsOne =
    (c : PlainCode) (k : PlainKernel) → IsValidCode c → WellFormed k → Stands c k → (turns : List TickInput) (bytes bytes' : List ℕ) →
    IsLogText k turns bytes → IsLogText k turns bytes' → bytes ≡ bytes'

-- A thread of a valid code, with all threads below it, has one reply to a list of jobs.
abbrev pub AnswerIsOne : Type 0
AnswerIsOne =
    (c : PlainCode) → IsValidCode c → (t : ℕ) (jobs : List Job) (reply reply' : Reply) →
    Answers (CodeAlone c) (length c.threads) t jobs reply → Answers (CodeAlone c) (length c.threads) t jobs reply' → reply ≡ reply'

-- Whatever its branches reply, a thread of a valid code tells its own branches alone.
abbrev pub TellsOwnBranches : Type 0
TellsOwnBranches =
    (c : PlainCode) → IsValidCode c → (t : ℕ) → t < length c.threads → (exchanges : List Exchange) (outputs : List Output) →
    CodeAlone c t exchanges outputs → AreTold c.shape t (pair_all exchanges outputs)
