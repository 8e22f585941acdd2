-- A thread that is at work on a job while its branches do theirs.
use Rattle.std.specs.Prelude.{ℕ, suc, ◌≡◌, ◌<◌, ◌≤◌, ◌+◌, ◌==◌, ◌⊎◌, cond, Bool, true, None, Some, List, [], ◌∷◌, ◌++◌, length, map, slice_get, drop}
use Rattle.forec_base.specs.declared.limits.TheConstants.{MAX_THREADS}
use Rattle.forec_kernel.specs.Packed.{HasRoom, AreJobs}
use Rattle.forec_kernel.specs.Engine.{Job, Reply, Written, Answers, Answered, Allowed, jobs_to, pair_up}
use Rattle.thread_code.specs.Plain.{PlainCode}
use Rattle.thread_code.specs.Valid.{of_shape}
use Rattle.thread_code.specs.Alone.{CodeAlone}
use Rattle.combine_tree.specs.declared.packet.Packet.{Packet}
use Rattle.combine_tree.specs.Plain.{plain_packet}
use Rattle.core_machine.specs.declared.thread.Thread.{Thread}
use Rattle.core_machine.specs.Threads.{Loaded, StandsFor, HasSettled}
use Rattle.core_machine.specs.Forks.{jobs_at}
use Rattle.copy_slots.specs.Ports.{sent, got, taken, answered, ChildIs}
use Rattle.core_seats.specs.declared.seat.Seat.{Seat}
use Rattle.core_seats.specs.Posts.{Mail, AreReplies}
use Rattle.tick_jobs.specs.Branches.{IsBranchOf, replies_to, AreAbove}
use Rattle.tick_jobs.specs.Writing.{Log, heard, told}
use Rattle.core_seats.specs.Keeping.{SchedulerState, code_in, Sits, Idle, HasPacket, LacksPacket, HasHeard}

-- ---- jobs that are out

-- of these, the jobs of branch b
abbrev pub jobs_out : ℕ → List Written → List Job
jobs_out b [] = []
jobs_out b (w ∷ ws) = cond (w.branch == b) (w.job ∷ jobs_out b ws) (jobs_out b ws)

-- one of them is for branch b
abbrev pub IsOut : ℕ → List Written → Type 0
IsOut b [] = ⊥
IsOut b (w ∷ ws) = (w.branch ≡ b) ⊎ IsOut b ws

-- The branches of thread t were told, and have told, these pairs. Beside that, they were told the jobs that are out; the packet of each
-- other branch is its parent's.
pub record HasTold (s : SchedulerState) (t : ℕ) (pairs : List Answered) (out : List Written) : Type 0 where
  pub above : AreAbove t pairs
  pub allowed : Allowed (Answers (CodeAlone (code_in s)) (length (code_in s).threads)) [] pairs
  pub sent : (k : ℕ) → IsBranchOf (code_in s).shape t k → AreJobs (sent s.mail k) (jobs_to (suc k) pairs ++ jobs_out (suc k) out)
  pub got : (k : ℕ) → IsBranchOf (code_in s).shape t k → AreReplies (got s.mail k) (replies_to (suc k) pairs)
  pub lacks : (k : ℕ) → IsBranchOf (code_in s).shape t k → IsOut (suc k) out → LacksPacket s k
  pub has : (k : ℕ) → k < length s.mail.ends → IsBranchOf (code_in s).shape t k → (IsOut (suc k) out → ⊥) → HasPacket s k

-- the branches of the thread's fork were told their jobs there
abbrev pub TellsAll : SchedulerState → SchedulerState → Thread → Type 0
TellsAll a b h = (pairs : List Answered) → HasTold a h.number pairs [] → HasTold b h.number pairs (jobs_at (code_in a) h)

-- ---- a thread at a fork

-- number b is a branch of thread t
pub record IsFor (c : PlainCode) (t b : ℕ) : Type 0 where
  pub mailbox : ℕ
  pub branch : b ≡ suc mailbox
  pub mine : IsBranchOf c.shape t mailbox
  pub inside : suc mailbox < length c.threads
  pub above : t ≤ mailbox

-- the thread is at a fork, and these are the jobs of its branches, in the order of their numbers
pub record IsForked (c : PlainCode) (h : Thread) : Type 0 where
  pub settled : HasSettled h 0
  pub some : 0 < length h.branches.numbers
  pub few : length h.branches.numbers ≤ MAX_THREADS
  pub numbers : h.branches.numbers ≡ map (λ w. w.branch) (jobs_at c h)
  pub order : (i j : ℕ) (v w : Written) → i < j → slice_get (jobs_at c h) i ≡ Some v → slice_get (jobs_at c h) j ≡ Some w → v.branch < w.branch
  pub each : (i : ℕ) (w : Written) → slice_get (jobs_at c h) i ≡ Some w → IsFor c h.number w.branch

-- the first of its branches have replied by these, which are in hand, and the jobs of the others are out
pub record HasGathered (s : SchedulerState) (h : Thread) (pairs : List Answered) (replies : List Reply) : Type 0 where
  pub within : length replies ≤ length h.branches.numbers
  pub heard : (i number : ℕ) (r : Reply) → slice_get h.branches.numbers i ≡ Some number → slice_get replies i ≡ Some r → HasHeard s number r
  pub told : HasTold s h.number (pairs ++ pair_up (jobs_at (code_in s) h) replies) (drop (length replies) (jobs_at (code_in s) h))

-- the thread is at a fork: beside these pairs, its branches were told their jobs there, and some have replied
pub record IsGathering (s : SchedulerState) (h : Thread) (pairs : List Answered) : Type 0 where
  pub forked : IsForked (code_in s) h
  pub replies : List Reply
  pub gathered : HasGathered s h pairs replies

-- all of them have
pub record HasReplies (s : SchedulerState) (h : Thread) (pairs : List Answered) : Type 0 where
  pub gathering : IsGathering s h pairs
  pub all : length gathering.replies ≡ length h.branches.numbers

-- ---- a job in progress

-- the thread has answered all jobs that it took but the last, which it is at
pub record IsAtWork (s : SchedulerState) (h : Thread) : Type 0 where
  pub mailbox : ℕ
  pub number : h.number ≡ suc mailbox
  pub loaded : Loaded (code_in s) h
  pub child : ChildIs s.mail mailbox true
  pub jobs : List Job
  pub job : Job
  pub are : AreJobs (taken s.mail mailbox) (jobs ++ job ∷ [])
  pub even : length (answered s.mail mailbox) + 1 ≡ length (taken s.mail mailbox)
  pub log : Log (code_in s) h.number jobs job
  pub stands : StandsFor (code_in s) h (heard (code_in s) h.number jobs job log)

-- it can go on: no job of its branches is out
pub record IsWorking (s : SchedulerState) (h : Thread) : Type 0 where
  pub work : IsAtWork s h
  pub told : HasTold s h.number (told (code_in s) h.number work.jobs work.job work.log) []

-- it waits at a fork
pub record IsWaiting (s : SchedulerState) (h : Thread) : Type 0 where
  pub work : IsAtWork s h
  pub gathering : IsGathering s h (told (code_in s) h.number work.jobs work.job work.log)

-- ---- between calls

-- the child's end of mailbox k is there
abbrev pub HasChild : Mail → ℕ → Type 0
HasChild m k = (b : Bool) × ChildIs m k b

-- thread k + 1 rests, and each of its branches' packets is its own
pub record IsAtRest (s : SchedulerState) (k : ℕ) : Type 0 where
  pub idle : Idle s k
  pub has : (j : ℕ) → j < length s.mail.ends → IsBranchOf (code_in s).shape (suc k) j → HasPacket s j

-- thread k + 1 waits in its seat, with its job's packet in hand
pub record WaitsAt (s : SchedulerState) (k : ℕ) : Type 0 where
  pub thread : Thread
  pub sits : Sits s (suc k) thread
  pub packet : Packet
  pub holds : sits.seat.job ≡ Some packet
  pub room : HasRoom (of_shape (code_in s).shape) (suc k) (plain_packet packet)
  pub waiting : IsWaiting s thread

-- where a call leaves thread k + 1
pub data RestsOrWaits (s : SchedulerState) (k : ℕ) : Type 0 where
  rests : IsAtRest s k → RestsOrWaits s k
  waits : WaitsAt s k → RestsOrWaits s k

-- the seat of thread t is empty: the thread is another host's, or at work
pub record IsVacant (s : SchedulerState) (t : ℕ) : Type 0 where
  pub seat : Seat
  pub at : slice_get s.seats t ≡ Some seat
  pub none : seat.thread ≡ None

-- each thread above t is another host's, or at work, or rests, or waits at a fork
abbrev pub CanDescend : SchedulerState → ℕ → Type 0
CanDescend s t = (k : ℕ) → t ≤ k → k < length s.mail.ends → IsVacant s (suc k) ⊎ RestsOrWaits s k
