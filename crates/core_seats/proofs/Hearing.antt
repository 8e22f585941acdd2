-- Replies that are in their parent's hands.
use Rattle.std.proofs.Common.{◌≡◌, ℕ, zero, suc, ◌-◌, ◌<◌, ◌≤◌, Option, Some, None, List, [], ◌∷◌, ◌++◌, length, take, get_or, refl, sym, ap, ◌∙◌, subst, arith}
use Rattle.std.specs.Prelude.{slice_get}
use Rattle.std.proofs.lemmas.Option.{slice_get_within, slice_get-get_or}
use Rattle.forec_kernel.specs.Packed.{HasRoom, IsReply}
use Rattle.thread_code.specs.Valid.{of_shape}
use Rattle.forec_kernel.specs.Engine.{Reply, WasPaused, WasEnded, WasTrapped, WasOver}
use Rattle.combine_tree.specs.declared.packet.Packet.{Packet}
use Rattle.combine_tree.specs.declared.packet.PacketKind.{PacketKind}
use Rattle.combine_tree.specs.declared.packet.PacketKind.TheVariants as kind
use Rattle.combine_tree.specs.Plain.{plain_kind, plain_packet}
use Rattle.core_machine.specs.Forks.{IsReplyKind}
use Rattle.core_seats.specs.Keeping.{SchedulerState, code_in, HasHeard, HaveHeard}

pub reply_kind : (q : PacketKind) (p : Packet) (r : Reply) → q ≡ p.kind → IsReply (plain_packet p) r → IsReplyKind q
reply_kind kind.Blank p (WasPaused c u) e is = let k = ap plain_kind e ∙ is.0 in cc
reply_kind kind.Blank p (WasEnded c u) e is = let k = ap plain_kind e ∙ is.0 in cc
reply_kind kind.Blank p (WasTrapped place trap u) e is = let k = ap plain_kind e ∙ is.0 in cc
reply_kind kind.Blank p WasOver e is = let k = ap plain_kind e ∙ is in cc
reply_kind kind.Start p (WasPaused c u) e is = let k = ap plain_kind e ∙ is.0 in cc
reply_kind kind.Start p (WasEnded c u) e is = let k = ap plain_kind e ∙ is.0 in cc
reply_kind kind.Start p (WasTrapped place trap u) e is = let k = ap plain_kind e ∙ is.0 in cc
reply_kind kind.Start p WasOver e is = let k = ap plain_kind e ∙ is in cc
reply_kind kind.Wake p (WasPaused c u) e is = let k = ap plain_kind e ∙ is.0 in cc
reply_kind kind.Wake p (WasEnded c u) e is = let k = ap plain_kind e ∙ is.0 in cc
reply_kind kind.Wake p (WasTrapped place trap u) e is = let k = ap plain_kind e ∙ is.0 in cc
reply_kind kind.Wake p WasOver e is = let k = ap plain_kind e ∙ is in cc
reply_kind kind.Paused p r e is = tt
reply_kind kind.Ended p r e is = tt
reply_kind (kind.Trapped place trap) p r e is = tt
reply_kind kind.Over p r e is = tt

module _ {s : SchedulerState} {branches : List ℕ} {rs : List Reply} (heard : HaveHeard s branches rs) (k b : ℕ) (at : slice_get branches k ≡ Some b) where
  pub reply_at : (r : Reply) × (slice_get rs k ≡ Some r)
  reply_at =
      let lt = slice_get_within branches k b at in (get_or rs k WasOver, slice_get-get_or rs k WasOver (omega (arith, lt, heard.count)))

  heard_at : HasHeard s b reply_at.0
  heard_at = heard.each k b reply_at.0 at reply_at.1

  pub some_branch : 0 < b
  some_branch = let e = heard_at.is in omega (arith, e)

  hand_at : slice_get s.hands (b - 1) ≡ Some (Some heard_at.packet)
  hand_at = let e = heard_at.is in let m : b - 1 ≡ heard_at.mailbox = omega (arith, e) in ap (λ i. slice_get s.hands i) m ∙ heard_at.at

  pub in_hand : (p : Packet) × (slice_get s.hands (b - 1) ≡ Some (Some p))
  in_hand = (heard_at.packet, hand_at)

  module _ {p : Packet} (read : (x : Packet) → slice_get s.hands (b - 1) ≡ Some (Some x) → p ≡ x) where
    packet_is : heard_at.packet ≡ p
    packet_is = sym (read heard_at.packet hand_at)

    pub reply_is : IsReply (plain_packet p) reply_at.0
    reply_is = subst (λ x. IsReply (plain_packet x) reply_at.0) packet_is heard_at.reply

    pub reply_room : HasRoom (of_shape (code_in s).shape) b (plain_packet p)
    reply_room = subst (λ x. HasRoom (of_shape (code_in s).shape) b (plain_packet x)) packet_is heard_at.room
