-- The log that the mail of a host tells.
use Rattle.std.specs.Prelude.{ℕ, zero, suc, ◌≡◌, ◌<◌, ◌*◌, ◌+◌, ◌-◌, false, List, [], ◌∷◌, length}
use Rattle.forec_kernel.specs.Packets.{Kind, PlainPacket, IsPaused, IsEnded, IsTrapped, IsOver}
use Rattle.forec_kernel.specs.Packets as packet
use Rattle.forec_kernel.specs.Engine.{Job, Start, Wake, Reply, WasPaused, WasEnded, WasTrapped, WasOver}
use Rattle.forec_kernel.specs.Shapes.{PlainShape, PlainKernel}
use Rattle.forec_kernel.specs.Texts.{uses_in, params_in}
use Rattle.forec_kernel.specs.Solo.{values_in}
use Rattle.forec_kernel.specs.Ticks.{Fresh}
use Rattle.forec_kernel.specs.WellFormed.{WellFormed}
use Rattle.forec_kernel.specs.Composed.{TickInput, tick_jobs}
use Rattle.thread_code.specs.Alone.{CodeAlone, Stands}
use Rattle.copy_slots.specs.Ports.{sent, got, ChildIs}
use Rattle.core_seats.specs.Posts.{Mail, HasPosted, HasPostedTaken}
use Rattle.core_host.specs.Hosted.{Hosted, code_of, IsWhole}
use Rattle.core_host.specs.Owned.{HasOwnPort}
use Rattle.exchange_meaning.specs.Logged.{Logged, ExchangeLog}
use Rattle.exchange_meaning.specs.LogOf.{LogOf, AllButLastPause, LogOfTicks}
use Rattle.exchange_log.specs.Kept.{HasParent, code_in_mail}

-- the job and the reply for which a packet stands
abbrev pub job_by : Kind → PlainPacket → Job
job_by packet.Start p = Start p.args (values_in p.copies) p.allowance
job_by _ p = Wake (values_in p.copies) p.allowance

abbrev pub reply_by : Kind → PlainPacket → Reply
reply_by IsPaused p = WasPaused p.copies p.units
reply_by IsEnded p = WasEnded p.copies p.units
reply_by (IsTrapped place trap) p = WasTrapped place trap p.units
reply_by _ p = WasOver

-- jobs with their replies
abbrev pub both : List PlainPacket → List PlainPacket → List Logged
both [] qs = []
both (p ∷ ps) [] = []
both (p ∷ ps) (q ∷ qs) = record { job = job_by p.kind p; reply = reply_by q.kind q } ∷ both ps qs

abbrev pub log_in : Mail → ExchangeLog
log_in mail zero = []
log_in mail (suc k) = both (sent mail k) (got mail k)

-- The words that a log of a shape needs: for each pair of thread t 9, and one for each of its parameters and three for each of its variables.
abbrev pub pair_words : PlainShape → ℕ → ℕ
pair_words s t = 9 + params_in s.threads t + 3 * length (uses_in s.threads t)

-- those of so many threads, from thread t on
abbrev pub log_words_from : PlainShape → ExchangeLog → ℕ → ℕ → ℕ
log_words_from s log t zero = 0
log_words_from s log t (suc n) = length (log t) * pair_words s t + log_words_from s log (suc t) n

abbrev pub log_words : PlainShape → ExchangeLog → ℕ
log_words s log = log_words_from s log 1 (length s.threads - 1)

-- each thread but thread 0 has a mailbox, whose jobs are all answered
pub record IsAnswered (mail : Mail) : Type 0 where
  pub mailboxes : suc (length mail.ends) ≡ length (code_in_mail mail).shape.threads
  pub parents : (k : ℕ) → k < length mail.ends → HasParent mail k
  pub replied : (k : ℕ) → k < length mail.ends → length (got mail k) ≡ length (sent mail k)

-- ---- what a host has posted

-- as the law `posts` of a host says it
abbrev pub HasPostedAll : Hosted → List Job → Type 0
HasPostedAll h jobs =
    HasPosted (code_of h) 0 h.mail jobs × ((k : ℕ) → k < length h.mail.ends → ChildIs h.mail k false → HasPostedTaken (code_of h) h.mail k)

-- What went through the mailboxes of a whole host is the log of the jobs of thread 0.
pub record HasLog (h : Hosted) (jobs : List Job) : Type 0 where
  pub log_of : LogOf (CodeAlone (code_of h)) (code_of h).shape jobs (log_in h.mail)
  pub answered : IsAnswered h.mail

abbrev pub PostedIsLogged : Type 0
PostedIsLogged = (h : Hosted) → HasOwnPort h → IsWhole h → (jobs : List Job) → HasPostedAll h jobs → HasLog h jobs

-- the same, for each kernel for which the code stands
abbrev pub TicksAreLogged : Type 0
TicksAreLogged =
    (h : Hosted) → HasOwnPort h → IsWhole h → (k : PlainKernel) → WellFormed k → Stands (code_of h) k → (turns : List TickInput) →
    AllButLastPause k Fresh turns → HasPostedAll h (tick_jobs k Fresh turns) → LogOfTicks k turns (log_in h.mail)
