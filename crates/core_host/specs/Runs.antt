-- What a host has run.
use Rattle.std.specs.Prelude.{ℕ, suc, ◌≡◌, ◌<◌, true, None, List, [], length}
use Rattle.forec_kernel.specs.Engine.{Job}
use Rattle.forec_kernel.specs.Composed.{TickInput}
use Rattle.thread_code.specs.declared.instruction.CodeParts.{CodeParts}
use Rattle.thread_code.specs.Laws.{EachFits}
use Rattle.core_alloc.specs.Places.{Places}
use Rattle.core_machine.specs.declared.thread.Thread.{Thread}
use Rattle.tick_jobs.specs.Ticks.{Ticking, RanNone, HasRun as Ran}
use Rattle.core_seats.specs.Posts.{Mail}
use Rattle.core_seats.specs.Changes.{IsIdle}
use Rattle.core_seats.specs.Done.{HasDone}
use Rattle.core_seats.specs.Keeping.{Sits}
use Rattle.core_seats.specs.Loads.{AreAll}
use Rattle.core_host.specs.Hosted.{Hosted, code_of, state_in, is_here, IsWhole}

-- thread 0 was given these jobs by the ticks so far, and has replied to each
pub record HasJobs (h : Hosted) (jobs : List Job) : Type 0 where
  pub thread : Thread
  pub sits : Sits (state_in h) 0 thread
  pub fit : EachFits (code_of h).shape 0 jobs
  pub done : HasDone (code_of h) thread h.mail jobs

-- the host, as one that runs ticks
abbrev pub ticking : Hosted → Ticking
ticking h = record { code = code_of h; root = h.root; live = h.live; HasJobs = HasJobs h }

-- it has run these ticks
abbrev pub HostHasRun : Hosted → List TickInput → Type 0
HostHasRun h turns = Ran (ticking h) turns

-- each thread here but thread 0 was seen to have nothing to do
abbrev pub AreIdleHere : Hosted → Hosted → Type 0
AreIdleHere a b = (k : ℕ) → k < length a.mail.ends → is_here a (suc k) ≡ true → IsIdle (code_of a).shape a.mail b.mail k

-- the host of these cores, over a port with this mail, before its first tick
pub record IsNewHost (code : CodeParts) (placement : Places) (cores : List ℕ) (mail : Mail) (h : Hosted) : Type 0 where
  pub code_is : h.code ≡ code
  pub places : h.places ≡ placement.places
  pub cores_are : h.cores ≡ cores
  pub mail_is : h.mail ≡ mail
  pub live : h.live ≡ true
  pub rope : h.rope ≡ None
  pub none : is_here h 0 ≡ true → RanNone (ticking h)
  pub fresh : IsWhole h → RanNone (ticking h)
  pub whole : mail.tells ≡ true → AreAll placement.cores cores → IsWhole h
