-- A port through which nothing went.
use Rattle.std.proofs.Common.{◌≡◌, ◌<◌, ℕ, zero, suc, Bool, true, false, Some, List, [], ◌∷◌, ◌++◌, length, length-append, All, IsTrue, refl, sym, subst, arith}
use Rattle.std.proofs.lemmas.List.Elements.{All-append}
use Rattle.forec_kernel.specs.WellFormed.{distinct}
use Rattle.forec_kernel.specs.Packets.{PlainPacket}
use Rattle.thread_code.specs.Plain.{plain_code}
use Rattle.thread_code.specs.Valid.{IsValidCode}
use Rattle.thread_code.specs.declared.instruction.CodeParts.{CodeParts}
use Rattle.copy_slots.specs.declared.view.Sender.{Sender}
use Rattle.copy_slots.specs.Ports.{MailboxEnds, parent_at}
use Rattle.core_alloc.specs.Places.{Places}
use Rattle.core_seats.specs.Loads.{AreAll, CanLoad, ArePlaced, IsNewParent, is_on}
use Rattle.core_seats.specs.Posts.{Mail}
use Rattle.exchange_log.specs.Kept.{IsUnused}

new_parent : (b : Bool) (x : Sender PlainPacket) → IsNewParent b (Some x) → (x.sent ≡ []) × (x.got ≡ [])
new_parent true x h = (h.1, h.2)
new_parent false x h = absurd h

parent_within : (ends : List (MailboxEnds PlainPacket)) (k : ℕ) (x : Sender PlainPacket) → parent_at ends k ≡ Some x → k < length ends
parent_within [] k x e = cc
parent_within (e ∷ es) zero x is = omega arith
parent_within (e ∷ es) (suc k) x is = let ih = parent_within es k x is in omega (arith, ih)

-- nothing went through the port of a code that can be loaded
pub unused : (code : CodeParts) (placement : Places) (cores : List ℕ) (mail : Mail) (n : ℕ) → CanLoad code placement cores mail → ArePlaced placement → IsValidCode (plain_code code) →
    suc n ≡ length (plain_code code).threads → IsUnused mail n
unused code placement cores mail n can placed valid count k x is =
    let within = parent_within mail.ends k x is in
    let child = valid.shape.each_child (suc k) (omega arith) (omega (arith, within, can.mailboxes, valid.threads)) in
    let new = can.parents placed k child.parent within child.is in
    let clean = new_parent (is_on placement.places cores child.parent) x (subst (λ o. IsNewParent (is_on placement.places cores child.parent) o) is new) in
    (omega (arith, within, can.mailboxes, count), clean.0, clean.1)

-- ---- all threads on core 0

abbrev zeros : ℕ → List ℕ
zeros zero = []
zeros (suc n) = zeros n ++ (0 ∷ [])

count_zeros : (n : ℕ) → length (zeros n) ≡ n
count_zeros zero = refl
count_zeros (suc n) = let ih = count_zeros n in omega (arith, ih, length-append (zeros n) (0 ∷ []))

all_zeros : (n : ℕ) → All (λ core. core < 1) (zeros n)
all_zeros zero = grind arith
all_zeros (suc n) = All-append (λ core. core < 1) (zeros n) (0 ∷ []) (all_zeros n) (grind arith)

only_zero : AreAll 1 (0 ∷ [])
only_zero zero h = refl
only_zero (suc core) h = absurd (omega (arith, h))

-- a port that serves all placements was not used
pub unused_local : (code : CodeParts) (mail : Mail) (n : ℕ) →
    ((placement : Places) (cores : List ℕ) → length placement.places ≡ length (plain_code code).threads → IsTrue (distinct cores) → All (λ core. core < placement.cores) cores →
    AreAll placement.cores cores → CanLoad code placement cores mail) →
    IsValidCode (plain_code code) → suc n ≡ length (plain_code code).threads → IsUnused mail n
unused_local code mail n serves valid count =
    let placement : Places = record { cores = 1; places = zeros (length (plain_code code).threads) } in
    let can = serves placement (0 ∷ []) (count_zeros (length (plain_code code).threads)) refl (grind arith) only_zero in
    unused code placement (0 ∷ []) mail n can (all_zeros (length (plain_code code).threads)) valid count
