-- A parent and its branch that share no packet: the job that the parent gives the branch, and the reply that it reads off it.
use Rattle.std.specs.Prelude.{ℕ, ◌-◌, ◌≡◌, ◌<◌, ◌≤◌, ◌⊎◌, Some, List, slice_get}
use Rattle.forec_kernel.specs.Engine.{Job, Start, Wake, Reply, WasPaused, WasEnded, WasTrapped, WasOver, Exchange, Output, AllReply, last_reply}
use Rattle.forec_kernel.specs.Packets.{PlainPacket}
use Rattle.forec_kernel.specs.Packets as plain
use Rattle.thread_code.specs.declared.instruction.Instruction.TheVariants as instruction
use Rattle.thread_code.specs.Plain.{PlainCode}
use Rattle.thread_code.specs.Machine.{code_uses}
use Rattle.thread_code.specs.Alone.{block_of, CodeAlone}
use Rattle.thread_state.specs.Kept.{handed_by}
use Rattle.core_machine.specs.declared.thread.Thread.{Thread}
use Rattle.core_machine.specs.declared.thread.Phase.{Phase}
use Rattle.core_machine.specs.declared.thread.Phase.TheVariants as phase
use Rattle.core_machine.specs.Threads.{HasPaused}
use Rattle.core_machine.specs.Forks.{branch_at, args_at}
use Rattle.core_machine.specs.RunParts.{Begun, started_by, woken_by}

-- ---- jobs

-- the thread can be given this job: a Start, or a Wake where its last reply was that it paused
abbrev pub CanTake : Thread → Job → Type 0
CanTake h (Start args values a) = Unit {0}
CanTake h (Wake values a) = HasPaused h

-- the fork at which the thread is, is new
abbrev pub IsNewFork : PlainCode → Thread → Type 0
IsNewFork c h = (j : ℕ) × (to : ℕ) × (slice_get (block_of c h.number).steps h.at ≡ Some (instruction.Fork j to))

-- it was held
abbrev pub IsHeldFork : PlainCode → Thread → Type 0
IsHeldFork c h = (j : ℕ) × (to : ℕ) × (slice_get (block_of c h.number).steps h.at ≡ Some (instruction.Again j to))

-- the packets that the k-th branch's job would fill
abbrev pub start_packet : PlainCode → Thread → ℕ → PlainPacket
start_packet c h k =
    record { kind = plain.Start; args = args_at c h k; copies = handed_by h.own (code_uses c (branch_at h k)); allowance = h.allowance - h.units; units = 0 }

abbrev pub wake_packet : PlainCode → Thread → ℕ → PlainPacket
wake_packet c h k =
    record { kind = plain.Wake; args = args_at c h k; copies = handed_by h.own (code_uses c (branch_at h k)); allowance = h.allowance - h.units; units = 0 }

-- how the k-th branch begins its job
abbrev pub StartsBranch : PlainCode → Thread → ℕ → Thread → Thread → Type 0
StartsBranch c h k b b' = Begun c b b' (started_by c b (start_packet c h k)) (h.allowance - h.units)

abbrev pub WakesBranch : PlainCode → Thread → ℕ → Thread → Thread → Type 0
WakesBranch c h k b b' = Begun c b b' (woken_by c b (wake_packet c h k)) (h.allowance - h.units)

-- ---- replies

abbrev pub RepliesIn : Thread → Phase → Reply → Type 0
RepliesIn h phase.Paused r = r ≡ WasPaused h.own.copies h.units
RepliesIn h phase.Ended r = r ≡ WasEnded h.own.copies h.units
RepliesIn h (phase.Trapped place trap) r = r ≡ WasTrapped place trap h.units
RepliesIn h phase.Over r = r ≡ WasOver
RepliesIn h _ r = ⊥

-- the reply that the thread holds, to its last job: over where its units have passed the allowance, else as its phase tells
abbrev pub RepliesBy : Thread → Reply → Type 0
RepliesBy h r = ((h.allowance < h.units) × (r ≡ WasOver)) ⊎ ((h.units ≤ h.allowance) × RepliesIn h h.phase r)

-- a thread gives a reply, of which this is known, to the last job of these exchanges, each of which has its reply
pub record GivesFor (c : PlainCode) (t : ℕ) (xs : List Exchange) (what : Reply → Type 0) : Type 0 where
  pub outputs : List Output
  pub runs : CodeAlone c t xs outputs
  pub complete : AllReply outputs
  pub reply : Reply
  pub last : last_reply outputs ≡ Some reply
  pub is : what reply
