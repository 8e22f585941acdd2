-- A port over which a host can be loaded is unused.
use Rattle.std.proofs.Common.{◌≡◌, ℕ, zero, suc, ◌<◌, ◌≤◌, Bool, true, false, Some, List, [], ◌∷◌, length, subst, arith}
use Rattle.forec_kernel.specs.Packets.{PlainPacket}
use Rattle.thread_code.specs.declared.instruction.CodeParts.{CodeParts}
use Rattle.thread_code.specs.Plain.{plain_code}
use Rattle.thread_code.specs.Valid.{IsValidCode}
use Rattle.copy_slots.specs.declared.view.Sender.{Sender}
use Rattle.copy_slots.specs.Ports.{MailboxEnds, parent_at}
use Rattle.core_alloc.specs.Places.{Places}
use Rattle.core_seats.specs.Posts.{Mail}
use Rattle.core_seats.specs.Loads.{is_on, IsNewParent, ArePlaced, CanLoad}
use Rattle.exchange_meaning.proofs.Shaped.{parents_of}
use Rattle.exchange_log.specs.Kept.{IsUnused}

parent_within : (ends : List (MailboxEnds PlainPacket)) (k : ℕ) (x : Sender PlainPacket) → parent_at ends k ≡ Some x → k < length ends
parent_within [] k x e = cc
parent_within (e ∷ es) zero x at = omega arith
parent_within (e ∷ es) (suc k) x at = let ih = parent_within es k x at in omega (arith, ih)

new_parent : (b : Bool) (x : Sender PlainPacket) → IsNewParent b (Some x) → (x.sent ≡ []) × (x.got ≡ [])
new_parent true x h = (h.1, h.2)
new_parent false x h = absurd h

pub unused_of_load : (code : CodeParts) (placement : Places) (cores : List ℕ) (mail : Mail) (n : ℕ) → IsValidCode (plain_code code) → ArePlaced placement → CanLoad code placement cores mail → length mail.ends ≤ n → IsUnused mail n
unused_of_load code placement cores mail n valid placed can le k x at =
    let lt = parent_within mail.ends k x at in
    let c = plain_code code in
    let p = parents_of c.shape valid.shape (suc k) (omega arith) (omega (arith, lt, can.mailboxes, valid.threads)) in
    let new = subst (IsNewParent (is_on placement.places cores p.0)) at (can.parents placed k p.0 lt p.1) in
    let none = new_parent (is_on placement.places cores p.0) x new in
    (omega (arith, lt, le), none.0, none.1)
