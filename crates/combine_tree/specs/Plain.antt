-- The plain value of a packet.
use Rattle.std.specs.Prelude.{ℕ, pos, false, replicate}
use Rattle.forec_kernel.specs.Packets.{Kind, PlainPacket}
use Rattle.forec_kernel.specs.Packets as plain
use Rattle.combine_tree.specs.declared.packet.PacketKind.{PacketKind}
use Rattle.combine_tree.specs.declared.packet.PacketKind.TheVariants as kind
use Rattle.combine_tree.specs.declared.packet.Packet.{Packet}

abbrev pub plain_kind : PacketKind → Kind
plain_kind kind.Blank = plain.Blank
plain_kind kind.Start = plain.Start
plain_kind kind.Wake = plain.Wake
plain_kind kind.Paused = plain.IsPaused
plain_kind kind.Ended = plain.IsEnded
plain_kind (kind.Trapped place trap) = plain.IsTrapped place trap
plain_kind kind.Over = plain.IsOver

abbrev pub plain_packet : Packet → PlainPacket
plain_packet p =
    record { kind = plain_kind p.kind; args = p.args.items; copies = p.copies.items; allowance = p.allowance; units = p.units }

-- so many arguments and copies, all of them 0 and unmarked
abbrev pub blank_packet : ℕ → ℕ → PlainPacket
blank_packet args copies =
    record {
      kind = plain.Blank;
      args = replicate args (pos 0);
      copies = replicate copies (record { value = pos 0; modified = false });
      allowance = 0;
      units = 0;
    }
