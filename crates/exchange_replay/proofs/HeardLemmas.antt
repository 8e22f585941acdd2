-- The logged replies at a fork, one by one.
use Rattle.std.proofs.Common.{◌≡◌, ℕ, suc, ◌+◌, List, [], ◌∷◌, ◌++◌, take, length, get_or, refl, sym, ap, ◌∙◌, subst, arith}
use Rattle.std.specs.Prelude.{Option, Some, slice_get}
use Rattle.std.proofs.lemmas.Option.{slice_get_within, slice_get-get_or}
use Rattle.forec_kernel.specs.Engine.{Reply, WasPaused, WasEnded, WasTrapped, WasOver, Exchange}
use Rattle.forec_kernel.specs.Packed.{HasRoom, IsReply}
use Rattle.thread_code.specs.Plain.{PlainCode}
use Rattle.thread_code.specs.Valid.{of_shape}
use Rattle.combine_tree.specs.declared.packet.Packet.{Packet}
use Rattle.combine_tree.specs.declared.packet.PacketKind.{PacketKind}
use Rattle.combine_tree.specs.declared.packet.PacketKind.TheVariants as kind
use Rattle.combine_tree.specs.Plain.{plain_packet, plain_kind}
use Rattle.core_machine.specs.declared.thread.Thread.{Thread}
use Rattle.core_machine.specs.Threads.{StandsFor}
use Rattle.core_machine.specs.Forks.{IsReplyKind, with_replies}
use Rattle.tick_jobs.proofs.Lists.{take_more}
use Rattle.exchange_replay.specs.declared.track.Track.{Track}
use Rattle.exchange_replay.specs.declared.walk.Walk.{Walk}
use Rattle.exchange_replay.specs.Walks.{HasLoggedReply, HaveLoggedReplies}

is_reply_kind : (k : PacketKind) (r : Reply) (p : Packet) → p.kind ≡ k → IsReply (plain_packet p) r → IsReplyKind k
is_reply_kind kind.Paused r p e h = tt
is_reply_kind kind.Ended r p e h = tt
is_reply_kind (kind.Trapped place trap) r p e h = tt
is_reply_kind kind.Over r p e h = tt
is_reply_kind kind.Blank (WasPaused copies u) p e h = let f = sym (ap plain_kind e) ∙ h.0 in cc
is_reply_kind kind.Blank (WasEnded copies u) p e h = let f = sym (ap plain_kind e) ∙ h.0 in cc
is_reply_kind kind.Blank (WasTrapped place trap u) p e h = let f = sym (ap plain_kind e) ∙ h.0 in cc
is_reply_kind kind.Blank WasOver p e h = let f = sym (ap plain_kind e) ∙ h in cc
is_reply_kind kind.Start (WasPaused copies u) p e h = let f = sym (ap plain_kind e) ∙ h.0 in cc
is_reply_kind kind.Start (WasEnded copies u) p e h = let f = sym (ap plain_kind e) ∙ h.0 in cc
is_reply_kind kind.Start (WasTrapped place trap u) p e h = let f = sym (ap plain_kind e) ∙ h.0 in cc
is_reply_kind kind.Start WasOver p e h = let f = sym (ap plain_kind e) ∙ h in cc
is_reply_kind kind.Wake (WasPaused copies u) p e h = let f = sym (ap plain_kind e) ∙ h.0 in cc
is_reply_kind kind.Wake (WasEnded copies u) p e h = let f = sym (ap plain_kind e) ∙ h.0 in cc
is_reply_kind kind.Wake (WasTrapped place trap u) p e h = let f = sym (ap plain_kind e) ∙ h.0 in cc
is_reply_kind kind.Wake WasOver p e h = let f = sym (ap plain_kind e) ∙ h in cc

module _ {c : PlainCode} {w : Walk} {branches : List ℕ} {rs : List Reply} (heard : HaveLoggedReplies c w branches rs) (k b : ℕ) (at : slice_get branches k ≡ Some b) where
  pub reply_at : (r : Reply) × (slice_get rs k ≡ Some r)
  reply_at = let lt = slice_get_within branches k b at in (get_or rs k WasOver, slice_get-get_or rs k WasOver (omega (arith, lt, heard.count)))

  pub heard_at : HasLoggedReply c w b reply_at.0
  heard_at = heard.each k b reply_at.0 at reply_at.1

  module _ {tracks : List (Option Track)} (same : tracks ≡ w.branches.items) where
    pub track_at : slice_get tracks b ≡ Some (Some heard_at.track)
    track_at = ap (λ l. slice_get l b) same ∙ heard_at.at

    module _ {p : Packet} (read : (x : Track) → slice_get tracks b ≡ Some (Some x) → p ≡ x.logged) where
      logged : heard_at.track.logged ≡ p
      logged = sym (read heard_at.track track_at)

      pub its_reply : IsReply (plain_packet p) reply_at.0
      its_reply = subst (λ (q : Packet). IsReply (plain_packet q) reply_at.0) logged heard_at.is

      pub its_room : HasRoom (of_shape c.shape) b (plain_packet p)
      its_room = subst (λ (q : Packet). HasRoom (of_shape c.shape) b (plain_packet q)) logged heard_at.fits.logged

      pub its_kind : IsReplyKind p.kind
      its_kind = is_reply_kind p.kind reply_at.0 p refl its_reply

-- one reply more was settled
pub settled_more : (c : PlainCode) (h : Thread) (xs : List Exchange) (rs : List Reply) (k : ℕ) (r : Reply) → slice_get rs k ≡ Some r → StandsFor c h (with_replies xs (take k rs ++ r ∷ [])) → StandsFor c h (with_replies xs (take (k + 1) rs))
settled_more c h xs rs k r at st =
    let n : suc k ≡ k + 1 = omega arith in subst (λ l. StandsFor c h (with_replies xs l)) (sym (take_more rs k r at) ∙ ap (λ m. take m rs) n) st
