-- What a host keeps of its threads, their packets and mailboxes.
use Rattle.std.specs.Prelude.{ℕ, suc, ◌≡◌, ◌<◌, ◌≤◌, true, false, Option, None, Some, List, [], ◌∷◌, ◌++◌, length, map, slice_get}
use Rattle.forec_base.specs.declared.limits.TheConstants.{MAX_THREADS}
use Rattle.forec_kernel.specs.Packets.{IsPaused, PlainPacket}
use Rattle.forec_kernel.specs.Packed.{HasRoom, AreJobs, IsReply, PacketAnswers}
use Rattle.forec_kernel.specs.Engine.{Job, Start, Wake, Reply, Written, Exchange}
use Rattle.thread_code.specs.declared.instruction.CodeParts.{CodeParts}
use Rattle.thread_code.specs.Plain.{PlainCode, plain_code}
use Rattle.thread_code.specs.Valid.{of_shape, IsValidCode}
use Rattle.thread_code.specs.Alone.{CodeAlone}
use Rattle.combine_tree.specs.declared.packet.Packet.{Packet}
use Rattle.combine_tree.specs.Plain.{plain_packet}
use Rattle.core_machine.specs.declared.thread.Thread.{Thread}
use Rattle.core_machine.specs.Threads.{Loaded, IsResting, HasPaused, HasSettled, StandsFor}
use Rattle.core_machine.specs.Forks.{jobs_at, with_replies}
use Rattle.copy_slots.specs.declared.view.PacketAt.TheVariants.{Fresh, Held, Out}
use Rattle.copy_slots.specs.Ports.{sent, taken, answered, parent_at, child_at, ParentIs, ChildIs}
use Rattle.core_seats.specs.declared.seat.Seat.{Seat}
use Rattle.core_seats.specs.Asking.{ArePaused}
use Rattle.core_seats.specs.Posts.{Mail}
use Rattle.tick_jobs.specs.Branches.{IsBranchOf}
use Rattle.core_seats.specs.Changes.{Extends, Grown}
use Rattle.core_seats.specs.Done.{HasDone}

-- `hands`: at k, the packet of mailbox k in its parent's hand
pub record SchedulerState : Type 0 where
  pub code : CodeParts
  pub places : List ℕ
  pub mail : Mail
  pub seats : List Seat
  pub hands : List (Option Packet)

abbrev pub code_in : SchedulerState → PlainCode
code_in s = plain_code s.code

-- the port is one for the code, each thread has a seat and a place, and each mailbox a hand for its packet
pub record IsSeated (s : SchedulerState) : Type 0 where
  pub valid : IsValidCode (code_in s)
  pub work : s.mail.work.code.value ≡ s.code
  pub mailboxes : suc (length s.mail.ends) ≡ length (code_in s).threads
  pub seats : length s.seats ≡ length (code_in s).threads
  pub hands : suc (length s.hands) ≡ length (code_in s).threads
  pub places : length s.places ≡ length (code_in s).threads

-- the port also has both ends of each mailbox, and tells whose turn it is
pub record IsFitted (s : SchedulerState) : Type 0 where
  pub seated : IsSeated s
  pub tells : s.mail.tells ≡ true

-- the thread sits in its seat
pub record Sits (s : SchedulerState) (t : ℕ) (h : Thread) : Type 0 where
  pub seat : Seat
  pub at : slice_get s.seats t ≡ Some seat
  pub is : seat.thread ≡ Some h
  pub loaded : Loaded (code_in s) h
  pub number : h.number ≡ t

-- the last reply of thread k + 1; where that was Paused, the thread has paused
pub data LastReply (c : PlainCode) (k : ℕ) (jobs : List PlainPacket) (h : Thread) : Type 0 where
  none : jobs ≡ [] → LastReply c k jobs h
  last : (reply : PlainPacket) → PacketAnswers (CodeAlone c) (length c.threads) (suc k) jobs reply → (reply.kind ≡ IsPaused → HasPaused h) → LastReply c k jobs h

-- thread k + 1 rests, with no job in its hand, and has answered all jobs that it took
pub record Idle (s : SchedulerState) (k : ℕ) : Type 0 where
  pub thread : Thread
  pub sits : Sits s (suc k) thread
  pub free : sits.seat.job ≡ None
  pub resting : IsResting thread
  pub child : ChildIs s.mail k false
  pub jobs : List Job
  pub are : AreJobs (taken s.mail k) jobs
  pub done : HasDone (code_in s) thread s.mail jobs
  pub last : LastReply (code_in s) k (taken s.mail k) thread
  pub even : length (answered s.mail k) ≡ length (taken s.mail k)

-- the packet of mailbox k is its parent's: the blank one in its slot, or the last reply in hand
pub data IsPacketOfParent (s : SchedulerState) (k : ℕ) : Option Packet → Type 0 where
  blank : ParentIs s.mail k Fresh → (q : PlainPacket) → slice_get s.mail.blanks k ≡ Some q → HasRoom (of_shape (code_in s).shape) (suc k) q → IsPacketOfParent s k None
  reply : ParentIs s.mail k Held → (p : Packet) → HasRoom (of_shape (code_in s).shape) (suc k) (plain_packet p) → IsPacketOfParent s k (Some p)

pub record HasPacket (s : SchedulerState) (k : ℕ) : Type 0 where
  pub hand : Option Packet
  pub at : slice_get s.hands k ≡ Some hand
  pub ready : IsPacketOfParent s k hand

-- nothing is under way at mailbox k
pub record Quiet (s : SchedulerState) (k : ℕ) : Type 0 where
  pub idle : Idle s k
  pub all : taken s.mail k ≡ sent s.mail k
  pub packet : HasPacket s k

-- nor at any mailbox of a thread above t
abbrev pub QuietAbove : SchedulerState → ℕ → Type 0
QuietAbove s t = (k : ℕ) → t ≤ k → k < length s.mail.ends → Quiet s k

-- the packet of mailbox k was sent, and not got back
pub record LacksPacket (s : SchedulerState) (k : ℕ) : Type 0 where
  pub out : ParentIs s.mail k Out
  pub empty : slice_get s.hands k ≡ Some None

-- the jobs of thread k + 1 that it did not take yet
pub record IsCalled (s : SchedulerState) (k : ℕ) : Type 0 where
  pub idle : Idle s k
  pub lacks : LacksPacket s k
  pub job : PlainPacket
  pub one : sent s.mail k ≡ taken s.mail k ++ job ∷ []

-- it has answered all, and its parent did not look yet
pub record IsBack (s : SchedulerState) (k : ℕ) : Type 0 where
  pub idle : Idle s k
  pub lacks : LacksPacket s k
  pub all : taken s.mail k ≡ sent s.mail k

-- ---- what calls leave alone

-- what a port keeps
pub record KeepsPort (a b : Mail) : Type 0 where
  pub work : b.work ≡ a.work
  pub blanks : b.blanks ≡ a.blanks
  pub tells : b.tells ≡ a.tells
  pub root : b.root ≡ a.root
  pub count : length b.ends ≡ length a.ends
  pub stops : Extends a.stops b.stops

-- the threads below t, with their branches' packets and mailboxes, and the children's ends of the mailboxes below u
pub record KeepsBelow (t u : ℕ) (a b : SchedulerState) : Type 0 where
  pub code : b.code ≡ a.code
  pub places : b.places ≡ a.places
  pub alike : KeepsPort a.mail b.mail
  pub grown : Grown a.mail b.mail
  pub seats : (j : ℕ) → j < t → slice_get b.seats j ≡ slice_get a.seats j
  pub seat_count : length b.seats ≡ length a.seats
  pub hands : (k p : ℕ) → IsBranchOf (code_in a).shape p k → p < t → slice_get b.hands k ≡ slice_get a.hands k
  pub hand_count : length b.hands ≡ length a.hands
  pub parents : (k p : ℕ) → IsBranchOf (code_in a).shape p k → p < t → parent_at b.mail.ends k ≡ parent_at a.mail.ends k
  pub children : (k : ℕ) → k < u → child_at b.mail.ends k ≡ child_at a.mail.ends k

-- ---- forks

abbrev pub MayAsk : PlainCode → Mail → ℕ → Job → Type 0
MayAsk c mail k (Start args values a) = Unit {0}
MayAsk c mail k (Wake values a) = ArePaused c k (sent mail k)

-- these jobs are for branches of thread t, in the order of their numbers, and each may be sent
pub record IsJobFor (c : PlainCode) (mail : Mail) (t : ℕ) (w : Written) : Type 0 where
  pub mailbox : ℕ
  pub branch : w.branch ≡ suc mailbox
  pub mine : IsBranchOf c.shape t mailbox
  pub inside : suc mailbox < length c.threads
  pub above : t ≤ mailbox
  pub may : MayAsk c mail mailbox w.job

pub record AtFork (s : SchedulerState) (h : Thread) : Type 0 where
  pub loaded : Loaded (code_in s) h
  pub settled : HasSettled h 0
  pub few : length h.branches.numbers ≤ MAX_THREADS
  pub numbers : h.branches.numbers ≡ map (λ w. w.branch) (jobs_at (code_in s) h)
  pub order : (i j : ℕ) (v w : Written) → i < j → slice_get (jobs_at (code_in s) h) i ≡ Some v → slice_get (jobs_at (code_in s) h) j ≡ Some w → v.branch < w.branch
  pub each : (i : ℕ) (w : Written) → slice_get (jobs_at (code_in s) h) i ≡ Some w → IsJobFor (code_in s) s.mail h.number w

-- the k-th of these jobs can be sent through mailbox m
pub record CanSend (s : SchedulerState) (h : Thread) (k m : ℕ) : Type 0 where
  pub loaded : Loaded (code_in s) h
  pub settled : HasSettled h 0
  pub number : slice_get h.branches.numbers k ≡ Some (suc m)
  pub job : Written
  pub at : slice_get (jobs_at (code_in s) h) k ≡ Some job
  pub may : MayAsk (code_in s) s.mail m job.job
  pub inside : m < length s.mail.ends

-- branch number i has replied by this, and the packet is in hand
pub record HasHeard (s : SchedulerState) (branch : ℕ) (r : Reply) : Type 0 where
  pub mailbox : ℕ
  pub is : branch ≡ suc mailbox
  pub packet : Packet
  pub at : slice_get s.hands mailbox ≡ Some (Some packet)
  pub room : HasRoom (of_shape (code_in s).shape) branch (plain_packet packet)
  pub reply : IsReply (plain_packet packet) r

-- each of these branches has
pub record HaveHeard (s : SchedulerState) (branches : List ℕ) (rs : List Reply) : Type 0 where
  pub count : length rs ≡ length branches
  pub each : (i b : ℕ) (r : Reply) → slice_get branches i ≡ Some b → slice_get rs i ≡ Some r → HasHeard s b r

-- where the thread stood for exchanges with no replies in the last, it stands for them with those that were heard
abbrev pub SettlesReplies : SchedulerState → Thread → Thread → Type 0
SettlesReplies s h h1 = (rs : List Reply) (xs : List Exchange) → HaveHeard s h.branches.numbers rs → StandsFor (code_in s) h (with_replies xs []) → StandsFor (code_in s) h1 (with_replies xs rs)

-- where it stood for them with these, it still does
abbrev pub JoinsReplies : SchedulerState → Thread → Thread → Type 0
JoinsReplies s h h1 = (rs : List Reply) (xs : List Exchange) → HaveHeard s h.branches.numbers rs → StandsFor (code_in s) h (with_replies xs rs) → StandsFor (code_in s) h1 (with_replies xs rs)
