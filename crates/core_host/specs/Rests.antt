-- What a host keeps between calls.
use Rattle.std.specs.Prelude.{ℕ, suc, ◌≡◌, ◌<◌, true, length}
use Rattle.forec_kernel.specs.Packed.{HasRoom}
use Rattle.combine_tree.specs.Plain.{plain_packet}
use Rattle.thread_code.specs.Valid.{of_shape, IsValidCode}
use Rattle.core_machine.specs.declared.thread.Thread.{Thread}
use Rattle.tick_jobs.specs.Ready.{IsReady}
use Rattle.core_seats.specs.Hung.{IsHung}
use Rattle.tick_jobs.specs.Branches.{IsBranchOf}
use Rattle.core_seats.specs.Keeping.{Sits, HasPacket}
use Rattle.core_seats.specs.Waiting.{HasChild, RestsOrWaits, CanDescend}
use Rattle.core_seats.specs.Resting.{RootRests}
use Rattle.core_host.specs.Hosted.{Hosted, state_in, code_of, is_here}

-- what a host keeps
pub record IsHosted (h : Hosted) : Type 0 where
  pub valid : IsValidCode (code_of h)
  pub work : h.mail.work.code.value ≡ h.code
  pub mailboxes : suc (length h.mail.ends) ≡ length (code_of h).threads
  pub seats : length h.seats ≡ length (code_of h).threads
  pub hands : suc (length h.hands) ≡ length (code_of h).threads
  pub places : length h.places ≡ length (code_of h).threads
  pub room : HasRoom (of_shape (code_of h).shape) 0 (plain_packet h.root)
  pub root : is_here h 0 ≡ true → RootRests (state_in h)
  pub ready : h.live ≡ true → (t : Thread) → Sits (state_in h) 0 t → IsReady t h.root.kind
  -- the child's end of the mailbox of each other thread of its cores is there, and the thread rests, or waits at a fork
  pub here : (k : ℕ) → k < length h.mail.ends → is_here h (suc k) ≡ true → HasChild h.mail k
  pub between : (k : ℕ) → k < length h.mail.ends → HasChild h.mail k → RestsOrWaits (state_in h) k
  -- the seat of any other is empty
  pub all : CanDescend (state_in h) 0
  -- thread 0's port is the root's, and each packet of its branches is its own
  pub keeper : is_here h 0 ≡ true → h.mail.root ≡ true
  pub packets : is_here h 0 ≡ true → (k : ℕ) → k < length h.mail.ends → IsBranchOf (code_of h).shape 0 k → HasPacket (state_in h) k
  -- a rope that hangs is that of the host's core
  pub hung : IsHung h.code h.places h.cores h.rope
