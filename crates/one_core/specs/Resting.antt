-- Threads that rest in their seats, and have done what they were told.
use Rattle.std.specs.Prelude.{ℕ, ◌≡◌, ◌<◌, List, [], ◌∷◌, ◌++◌, length}
use Rattle.forec_kernel.specs.declared.shape.VarCopy.{VarCopy}
use Rattle.forec_kernel.specs.Packets.{PlainPacket}
use Rattle.forec_kernel.specs.Packed.{IsJob, IsReply}
use Rattle.forec_kernel.specs.Engine.{Job, Reply, WasPaused, Answers}
use Rattle.thread_code.specs.Plain.{PlainCode}
use Rattle.thread_code.specs.Alone.{CodeAlone}
use Rattle.core_machine.specs.declared.thread.Thread.{Thread}
use Rattle.core_machine.specs.Threads.{IsResting, HasPaused}
use Rattle.one_core.specs.Seats.{Seated, seated_code, HoldsThread}
use Rattle.tick_jobs.specs.Told.{Book}
use Rattle.one_core.specs.Told.{HasDoneByBook, InJobByBook, KeepsBook}

-- the last reply of thread t; where that was Paused, the thread has paused
pub data LastJobReply (c : PlainCode) (t : ℕ) (jobs : List Job) (h : Thread) : Type 0 where
  none : jobs ≡ [] → LastJobReply c t jobs h
  last : (reply : Reply) → Answers (CodeAlone c) (length c.threads) t jobs reply → ((copies : List VarCopy) (units : ℕ) → reply ≡ WasPaused copies units → HasPaused h) →
      LastJobReply c t jobs h

-- thread t rests, and has replied to each job that it was told
pub record Rests (s : Seated) (book : Book) (t : ℕ) : Type 0 where
  pub thread : Thread
  pub sits : HoldsThread s t thread
  pub resting : IsResting thread
  pub done : HasDoneByBook (seated_code s) thread book (book t)
  pub last : LastJobReply (seated_code s) t (book t) thread

-- and so has each thread above t
abbrev pub RestAbove : Seated → Book → ℕ → Type 0
RestAbove s book t = (j : ℕ) → t < j → j < length s.threads → Rests s book j

-- ---- a job that ends

-- a thread has begun a job, and has joined no fork in it
pub record HasBegun (s : Seated) (h : Thread) : Type 0 where
  pub book : Book
  pub above : RestAbove s book h.number
  pub jobs : List Job
  pub job : Job
  pub in_job : InJobByBook (seated_code s) h book jobs job
  pub first : in_job.log.before ≡ []

-- the threads above it rest, and it is at this job after these
pub record IsAtJob (s : Seated) (h : Thread) (book : Book) (jobs : List Job) (job : Job) : Type 0 where
  pub above : RestAbove s book h.number
  pub in_job : InJobByBook (seated_code s) h book jobs job

-- a thread that was at a job still is, or has done it
abbrev pub StaysAtWork : Seated → Thread → Seated → Thread → Type 0
StaysAtWork a h b h1 = (book : Book) (jobs : List Job) (job : Job) → IsAtJob a h book jobs job → (after : Book) × IsAtJob b h1 after jobs job × KeepsBook (seated_code a) h.number book after

-- ---- thread 0

-- all threads rest, and thread 0 has replied to these jobs
pub record AllRestAfter (s : Seated) (jobs : List Job) : Type 0 where
  pub book : Book
  pub above : RestAbove s book 0
  pub thread : Thread
  pub sits : HoldsThread s 0 thread
  pub resting : IsResting thread
  pub done : HasDoneByBook (seated_code s) thread book jobs

-- the packet is its reply to the last of them
pub record RootHasReplied (s : Seated) (jobs : List Job) (p : PlainPacket) : Type 0 where
  pub worked : AllRestAfter s jobs
  pub reply : Reply
  pub is : IsReply p reply
  pub answers : Answers (CodeAlone (seated_code s)) (length (seated_code s).threads) 0 jobs reply

-- it has replied by the second packet to the job in the first, after all that it had done before
abbrev pub RootHasRepliedTo : Seated → Seated → PlainPacket → PlainPacket → Type 0
RootHasRepliedTo a b p q = (jobs : List Job) (job : Job) → AllRestAfter a jobs → IsJob p job → RootHasReplied b (jobs ++ job ∷ []) q
