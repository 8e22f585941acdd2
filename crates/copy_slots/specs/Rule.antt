-- The rule of the mailboxes, part by part, as it holds between any two steps. It speaks of the words, the slots and what the views of the seats
-- say, and of nothing else.
use Rattle.std.specs.Prelude.{◌≡◌, ◌≢◌, ◌⊎◌, ◌↔◌, ℕ, suc, ◌+◌, ◌<◌, ◌≤◌, List, [], ◌∷◌, ◌++◌, length, slice_index, slice_get, take, Option, Some, true}
use mathlib.Core.Option.{some, none}
use mathlib.Core.Option as maybe
use lib.ListN.{get_elem?}
use Rattle.atomic_table.specs.Table.{State}
use Rattle.copy_slots.specs.declared.view.PacketAt.TheVariants.{Fresh, Held}
use Rattle.copy_slots.specs.declared.view.Sender.{Sender}
use Rattle.copy_slots.specs.declared.view.Taker.{Taker}
use Rattle.copy_slots.specs.declared.view.Role.{Role}
use Rattle.copy_slots.specs.declared.view.Role.TheVariants.{Idle, Keeper, Mailbox}
use Rattle.copy_slots.specs.declared.view.View.{View}
use Rattle.copy_slots.specs.Mail.{End, root, Has, IsEnd, MailInvariant, new_sender, new_taker, spent}
use Rattle.copy_slots.specs.Ports.{stored_of}

-- a packet lies in the slot, or it is in a hand
abbrev pub IsAtHome : {P : Type 0} → maybe.Option (maybe.Option (Option P)) → P → Type 0
IsAtHome slot p = slot ≡ some (some (Some p))

abbrev pub IsInHand : {P : Type 0} → maybe.Option (maybe.Option (Option P)) → Type 0
IsInHand slot = slot ≡ some none

-- a seat's view says this of the parent's end of mailbox k; one that keeps the mailboxes from a number on has done nothing there
abbrev pub SaysParent : {Q : Type 0} → Role Q → ℕ → Sender Q → Type 0
SaysParent (Idle ws) k x = ⊥
SaysParent (Keeper from st ws) k x = (from ≤ k) × (x ≡ new_sender)
SaysParent (Mailbox i p c) k x = (i ≡ k) × (p ≡ Some x)

-- and this of the child's
abbrev pub SaysChild : {Q : Type 0} → Role Q → ℕ → Taker Q → Type 0
SaysChild (Idle ws) k y = ⊥
SaysChild (Keeper from st ws) k y = (from ≤ k) × (y ≡ new_taker)
SaysChild (Mailbox i p c) k y = (i ≡ k) × (c ≡ Some y)

-- what the views of the seats say
module _ {W P Q : Type 0} where
  -- the seat j is not spent, and this is its view
  pub record HasView (s : State (Option P) (View W Q)) (j : ℕ) (view : View W Q) : Type 0 where
    pub at : get_elem? s.views j ≡ some view
    pub live : view ≢ spent

  -- a seat says this of the parent's end of mailbox k
  pub record ParentSays (s : State (Option P) (View W Q)) (k : ℕ) (x : Sender Q) : Type 0 where
    pub seat : ℕ
    pub view : View W Q
    pub has : HasView s seat view
    pub says : SaysParent view.role k x

  -- and this of the child's
  pub record ChildSays (s : State (Option P) (View W Q)) (k : ℕ) (y : Taker Q) : Type 0 where
    pub seat : ℕ
    pub view : View W Q
    pub has : HasView s seat view
    pub says : SaysChild view.role k y

  -- the seat j has the end
  pub record HasEnd (s : State (Option P) (View W Q)) (e : End) (j : ℕ) : Type 0 where
    pub view : View W Q
    pub has : HasView s j view
    pub end : Has view.role e

  -- exactly one seat has it
  pub record HasOneSeat (s : State (Option P) (View W Q)) (e : End) : Type 0 where
    pub seat : ℕ
    pub has : HasEnd s e seat
    pub only : (j : ℕ) → HasEnd s e j → j ≡ seat

module _ {W P Q : Type 0} (plain : P → Q) (asks : W → ℕ → List Q → Type 0) (answers : W → ℕ → List Q → Q → Type 0) (work : W) (blanks : List Q) where
  -- one mailbox, by its turn word, its slot, and what the views say of its two ends
  pub record IsRuled (k : ℕ) (x : Sender Q) (y : Taker Q) (word : ℕ) (slot : maybe.Option (maybe.Option (Option P))) : Type 0 where
    -- the word is the parent's or the child's, and the packet is at home or in a hand
    pub word_is : word < 2
    pub slot_is : ((p : P) × IsAtHome slot p) ⊎ IsInHand slot
    -- it is in the parent's hand exactly at the parent's word, and in the child's exactly at the child's
    pub parent_holds : (x.place ≡ Held) ↔ ((word ≡ 0) × IsInHand slot)
    pub child_holds : (y.holds ≡ true) ↔ ((word ≡ 1) × IsInHand slot)
    -- the parent never looked exactly where the blank packet is at home
    pub fresh : (x.place ≡ Fresh) ↔ ((p : P) × IsAtHome slot p × (x.sent ≡ []))
    -- at the parent's word each job has its reply, and each was taken
    pub answered : word ≡ 0 → (length x.sent ≡ length y.answered) × (y.taken ≡ x.sent)
    -- the packet at home is the blank one, or the last reply, and that was not got yet
    pub rests : word ≡ 0 → (p : P) → IsAtHome slot p → ((x.sent ≡ []) × (x.got ≡ []) × (slice_get blanks k ≡ Some (plain p))) ⊎ ((x.sent ≢ []) × (y.answered ≡ x.got ++ plain p ∷ []))
    pub held : word ≡ 0 → IsInHand slot → x.got ≡ y.answered
    -- at the child's word one job is out
    pub out : word ≡ 1 → (length x.sent ≡ length y.answered + 1) × (x.got ≡ y.answered)
    -- the packet at home is the last job, and that was not taken yet
    pub waits : word ≡ 1 → (p : P) → IsAtHome slot p → x.sent ≡ y.taken ++ plain p ∷ []
    pub taken : word ≡ 1 → IsInHand slot → y.taken ≡ x.sent
    -- the i-th reply answers the first i jobs, and each job could be sent after those before it
    pub replies : (i : ℕ) (r : Q) → get_elem? y.answered i ≡ some r → answers work k (take (suc i) x.sent) r
    pub jobs : (i : ℕ) → i < length x.sent → asks work k (take (suc i) x.sent)
    -- what a load tells the parent by the word, the packet at home and its own view, and what it tells the child
    pub reply : word ≡ 0 → (p : P) → IsAtHome slot p → x.sent ≢ [] → answers work k x.sent (plain p)
    pub job : word ≡ 1 → (p : P) → IsAtHome slot p → asks work k (y.taken ++ plain p ∷ [])

  pub record Between (s : State (Option P) (View W Q)) : Type 0 where
    -- each view has the work and the blank packets of the table
    pub shared : (j : ℕ) (view : View W Q) → HasView s j view → (view.work ≡ Some work) × (view.blanks ≡ blanks)
    -- each end of a mailbox, and the root's mark
    pub ends : (e : End) → IsEnd (length blanks) e → HasOneSeat s e
    -- each mailbox, whatever seats have its ends
    pub each : (k : ℕ) → k < length blanks → (x : Sender Q) (y : Taker Q) → ParentSays s k x → ChildSays s k y → IsRuled k x y (slice_index s.words k) (get_elem? s.homes k)
    -- the stop word is 1 only where the seat with the root's mark says that it was stored
    pub stop_word : slice_index s.words (length blanks) < 2
    pub stop : slice_index s.words (length blanks) ≡ 1 → (j : ℕ) (h : HasEnd s root j) → stored_of h.view.role ≡ true

-- whatever the mailboxes carry, a state that meets the rule has each of these parts
abbrev pub AreRuled : {W P Q : Type 0} → (P → Q) → (W → ℕ → List Q → Type 0) → (W → ℕ → List Q → Q → Type 0) → Type 0
AreRuled {W} {P} {Q} plain asks answers = (work : W) (blanks : List Q) (s : State (Option P) (View W Q)) → MailInvariant plain asks answers work blanks s → Between plain asks answers work blanks s
