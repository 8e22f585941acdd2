-- A host whose exchanges are kept, and what of them can be told.
use Rattle.std.specs.Prelude.{ℕ, suc, ◌≡◌, ◌≤◌, ◌<◌, ◌^◌, true, List, [], ◌∷◌, ◌++◌, zero, length}
use Rattle.forec_kernel.specs.Composed.{TickInput}
use Rattle.forec_kernel.specs.Engine.{Job}
use Rattle.forec_kernel.specs.Shapes.{PlainKernel}
use Rattle.forec_kernel.specs.Ticks.{Fresh}
use Rattle.forec_kernel.specs.WellFormed.{WellFormed}
use Rattle.thread_code.specs.Alone.{Stands}
use Rattle.thread_code.specs.declared.instruction.CodeParts.{CodeParts}
use Rattle.copy_slots.specs.Ports.{sent, got}
use Rattle.core_host.specs.Hosted.{Hosted, code_of, is_live, IsWhole}
use Rattle.core_host.specs.Runs.{HasJobs, HostHasRun}
use Rattle.exchange_log.specs.Kept.{Logging, HasParent, code_in_mail, mail_words}
use Rattle.exchange_log.specs.Lines.{lines_room}
use Rattle.exchange_log.specs.Posted.{log_in}
use Rattle.exchange_meaning.specs.LogOf.{AllButLastPause, LogOfTicks}

-- a host has all threads of this code, nothing is under way, and thread 0 has replied to these jobs
pub record IsLogging (code : CodeParts) (h : Hosted) : Type 0 where
  pub same : h.code ≡ code
  pub whole : IsWhole h
  pub given : List Job
  pub jobs : HasJobs h given

-- a host of this code that has run nothing
pub record IsNewLog (code : CodeParts) (h : Hosted) : Type 0 where
  pub code_is : h.code ≡ code
  pub live : is_live h ≡ true
  pub none : HostHasRun h []

-- what went through a host's mailboxes is, for each kernel for which its code stands, the log of the ticks that it has run
abbrev pub LogsItsTicks : Hosted → Type 0
LogsItsTicks h =
    (k : PlainKernel) → WellFormed k → Stands (code_of h) k → (turns : List TickInput) → AllButLastPause k Fresh turns → HostHasRun h turns → LogOfTicks k turns (log_in h.mail)

-- The numbers below n.
abbrev pub numbers_below : ℕ → List ℕ
numbers_below zero = []
numbers_below (suc n) = numbers_below n ++ (n ∷ [])

-- All jobs that went through a port and the replies to them are kept, no job is out, and the lines of each pair fit in so much room. There are so
-- many threads, thread 0 among them.
pub record CanTellLog (p : Logging) (threads space : ℕ) : Type 0 where
  pub mailboxes : suc (length p.mail.ends) ≡ threads
  pub parents : (k : ℕ) → k < length p.mail.ends → HasParent p.mail k
  pub replied : (k : ℕ) → k < length p.mail.ends → length (got p.mail k) ≡ length (sent p.mail k)
  pub kept : mail_words p.mail.ends ≤ p.words
  pub small : p.words < 2 ^ 64
  pub room : lines_room (code_in_mail p.mail).shape ≤ space
