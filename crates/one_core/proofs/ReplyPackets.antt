-- A reply as a packet.
use Rattle.std.proofs.Common.{◌≡◌, [], refl}
use Rattle.forec_kernel.specs.Packets.{PlainPacket}
use Rattle.forec_kernel.specs.Packets as packet
use Rattle.forec_kernel.specs.Packed.{IsReply}
use Rattle.forec_kernel.specs.Engine.{Reply, WasPaused, WasEnded, WasTrapped, WasOver}

abbrev pub reply_packet : Reply → PlainPacket
reply_packet (WasPaused copies u) = record { kind = packet.IsPaused; args = []; copies = copies; allowance = 0; units = u }
reply_packet (WasEnded copies u) = record { kind = packet.IsEnded; args = []; copies = copies; allowance = 0; units = u }
reply_packet (WasTrapped place trap u) = record { kind = packet.IsTrapped place trap; args = []; copies = []; allowance = 0; units = u }
reply_packet WasOver = record { kind = packet.IsOver; args = []; copies = []; allowance = 0; units = 0 }

pub is_reply : (r : Reply) → IsReply (reply_packet r) r
is_reply (WasPaused copies u) = (refl, refl, refl)
is_reply (WasEnded copies u) = (refl, refl, refl)
is_reply (WasTrapped place trap u) = (refl, refl)
is_reply WasOver = refl

pub reply_once : (r s : Reply) → IsReply (reply_packet r) s → r ≡ s
reply_once (WasPaused copies u) (WasPaused copies' u') h = let a = h.1 in let b = h.2 in cc
reply_once (WasPaused copies u) (WasEnded copies' u') h = let a = h.0 in cc
reply_once (WasPaused copies u) (WasTrapped place trap u') h = let a = h.0 in cc
reply_once (WasPaused copies u) WasOver h = cc
reply_once (WasEnded copies u) (WasPaused copies' u') h = let a = h.0 in cc
reply_once (WasEnded copies u) (WasEnded copies' u') h = let a = h.1 in let b = h.2 in cc
reply_once (WasEnded copies u) (WasTrapped place trap u') h = let a = h.0 in cc
reply_once (WasEnded copies u) WasOver h = cc
reply_once (WasTrapped place trap u) (WasPaused copies' u') h = let a = h.0 in cc
reply_once (WasTrapped place trap u) (WasEnded copies' u') h = let a = h.0 in cc
reply_once (WasTrapped place trap u) (WasTrapped place' trap' u') h = let a = h.0 in let b = h.1 in cc
reply_once (WasTrapped place trap u) WasOver h = cc
reply_once WasOver (WasPaused copies' u') h = let a = h.0 in cc
reply_once WasOver (WasEnded copies' u') h = let a = h.0 in cc
reply_once WasOver (WasTrapped place' trap' u') h = let a = h.0 in cc
reply_once WasOver WasOver h = refl
