-- The two ports of a board of one mailbox.
use Rattle.std.specs.Prelude.{◌≡◌, [], true, false}
use Rattle.copy_slots.specs.declared.view.PacketAt.TheVariants.{Fresh}
use Rattle.copy_slots.specs.Ports.{PortState, ParentIs, ChildIs, taken}
use Rattle.slot_board.specs.Joined.{IsOneBoard}

module _ {W Q : Type 0} where
  -- the root's port, with the parent's end, before its first call
  abbrev pub IsAsker : PortState W Q → Type 0
  IsAsker s = ParentIs s 0 Fresh × (s.root ≡ true)

  -- a port with the child's end, before its first call
  abbrev pub IsAnswerer : PortState W Q → Type 0
  IsAnswerer t = ChildIs t 0 false × (taken t 0 ≡ [])

  abbrev pub ArePair : PortState W Q → PortState W Q → Type 0
  ArePair s t = IsAsker s × IsAnswerer t × IsOneBoard s t
