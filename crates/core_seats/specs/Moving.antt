-- What changes where a parent takes the packet of one mailbox into its hand, or out of it.
use Rattle.std.specs.Prelude.{ℕ, ◌≡◌, ◌≢◌, Some, [], ◌∷◌, ◌++◌, length, slice_get}
use Rattle.forec_kernel.specs.Packets.{PlainPacket}
use Rattle.forec_kernel.specs.Packed.{IsJob}
use Rattle.forec_kernel.specs.Engine.{Job}
use Rattle.combine_tree.specs.declared.packet.Packet.{Packet}
use Rattle.combine_tree.specs.Plain.{plain_packet}
use Rattle.copy_slots.specs.declared.view.PacketAt.TheVariants.{Held}
use Rattle.copy_slots.specs.Ports.{sent, got, looked_by_parent, parent_at, child_at, ParentIs}
use Rattle.core_seats.specs.Asking.{Replies}
use Rattle.core_seats.specs.Changes.{Extends}
use Rattle.core_seats.specs.Keeping.{SchedulerState, code_in, KeepsPort, LacksPacket}

-- all but the parent's end and hand of mailbox k stays
pub record ChangesPacket (k : ℕ) (a b : SchedulerState) : Type 0 where
  pub code : b.code ≡ a.code
  pub places : b.places ≡ a.places
  pub seats : b.seats ≡ a.seats
  pub alike : KeepsPort a.mail b.mail
  pub parents : (j : ℕ) → j ≢ k → parent_at b.mail.ends j ≡ parent_at a.mail.ends j
  pub looked : Extends (looked_by_parent a.mail k) (looked_by_parent b.mail k)
  pub children : (j : ℕ) → child_at b.mail.ends j ≡ child_at a.mail.ends j
  pub hands : (j : ℕ) → j ≢ k → slice_get b.hands j ≡ slice_get a.hands j
  pub hand_count : length b.hands ≡ length a.hands

-- the job was sent through mailbox k
pub record HasSent (a b : SchedulerState) (k : ℕ) (job : Job) : Type 0 where
  pub packet : PlainPacket
  pub is : IsJob packet job
  pub sent : sent b.mail k ≡ sent a.mail k ++ packet ∷ []
  pub got : got b.mail k ≡ got a.mail k

-- the reply was got through mailbox k, and is in hand
pub record HasGot (a b : SchedulerState) (k : ℕ) : Type 0 where
  pub packet : Packet
  pub at : slice_get b.hands k ≡ Some (Some packet)
  pub held : ParentIs b.mail k Held
  pub replies : Replies (code_in a) k (sent a.mail k) (plain_packet packet)
  pub sent : sent b.mail k ≡ sent a.mail k
  pub got : got b.mail k ≡ got a.mail k ++ plain_packet packet ∷ []

-- the reply was looked for through mailbox k, and is not there
pub record HasLooked (a b : SchedulerState) (k : ℕ) : Type 0 where
  pub lacks : LacksPacket b k
  pub sent : sent b.mail k ≡ sent a.mail k
  pub got : got b.mail k ≡ got a.mail k
  pub looked : looked_by_parent b.mail k ≡ looked_by_parent a.mail k ++ 1 ∷ []
