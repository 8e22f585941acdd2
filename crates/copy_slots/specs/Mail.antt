-- The rule of the mailboxes, and what each step tells.
use Rattle.std.specs.Prelude.{◌≡◌, ◌≢◌, ◌⊎◌, ℕ, suc, ◌+◌, ◌-◌, ◌<◌, ◌≤◌, List, [], ◌∷◌, ◌++◌, map, length, slice_index, slice_get, take, Option, Some, None, Bool, true, false}
use mathlib.Core.Option.{some, none}
use mathlib.Core.Option as maybe
use lib.ListN.{get_elem?}
use Rattle.atomic_table.specs.Table.{State, Me, Step}
use Rattle.copy_slots.specs.declared.view.PacketAt.{PacketAt}
use Rattle.copy_slots.specs.declared.view.PacketAt.TheVariants.{Fresh, Held, Out}
use Rattle.copy_slots.specs.declared.view.Sender.{Sender}
use Rattle.copy_slots.specs.declared.view.Taker.{Taker}
use Rattle.copy_slots.specs.declared.view.Role.{Role}
use Rattle.copy_slots.specs.declared.view.Role.TheVariants.{Idle, Keeper, Mailbox}
use Rattle.copy_slots.specs.declared.view.View.{View}

-- where the packet of a mailbox is
pub data MailStage : Type 0 where
  -- in its slot, and nothing was sent
  fresh : MailStage
  -- in the parent's hand
  with_parent : MailStage
  -- in its slot, as a job
  at_child : MailStage
  -- in the child's hand
  with_child : MailStage
  -- in its slot, as a reply
  at_parent : MailStage

pub record MailboxState (Q : Type 0) : Type 0 where
  pub stage : MailStage
  pub sent : List Q
  pub got : List Q
  pub taken : List Q
  pub answered : List Q

abbrev pub untouched : {Q : Type 0} → MailboxState Q
untouched = record { stage = fresh; sent = []; got = []; taken = []; answered = [] }

abbrev pub plain_list : {P Q : Type 0} → (P → Q) → List P → List Q
plain_list plain xs = map plain xs

-- the ends of the mailboxes, and the root's mark
pub data End : Type 0 where
  parent_of : ℕ → End
  child_of : ℕ → End
  root : End

-- the seat that each end stands in
abbrev pub owner_of : (ℕ → ℕ) → (ℕ → ℕ) → ℕ → End → ℕ
owner_of parent child keeper (parent_of k) = parent k
owner_of parent child keeper (child_of k) = child k
owner_of parent child keeper root = keeper

abbrev pub IsUnderWay : MailStage → Type 0
IsUnderWay at_child = Unit {0}
IsUnderWay with_child = Unit {0}
IsUnderWay at_parent = Unit {0}
IsUnderWay _ = ⊥

abbrev pub IsAtStage : PacketAt → MailStage → Type 0
IsAtStage Fresh g = g ≡ fresh
IsAtStage Held g = g ≡ with_parent
IsAtStage Out g = IsUnderWay g

abbrev pub HeldByChild : Bool → MailStage → Type 0
HeldByChild true g = g ≡ with_child
HeldByChild false g = g ≢ with_child

module _ {Q : Type 0} where
  pub record SendsAt (m : MailboxState Q) (x : Sender Q) : Type 0 where
    pub place : IsAtStage x.place m.stage
    pub sent : x.sent ≡ m.sent
    pub got : x.got ≡ m.got

  pub record TakesAt (m : MailboxState Q) (y : Taker Q) : Type 0 where
    pub holds : HeldByChild y.holds m.stage
    pub taken : y.taken ≡ m.taken
    pub answered : y.answered ≡ m.answered

  module _ (n : ℕ) (mail : ℕ → MailboxState Q) (owner : End → ℕ) (stored : Bool) (j : ℕ) where
    abbrev pub KnowsParent : ℕ → Option (Sender Q) → Type 0
    KnowsParent k None = Unit {0}
    KnowsParent k (Some x) = (owner (parent_of k) ≡ j) × SendsAt (mail k) x

    abbrev pub KnowsChild : ℕ → Option (Taker Q) → Type 0
    KnowsChild k None = Unit {0}
    KnowsChild k (Some y) = (owner (child_of k) ≡ j) × TakesAt (mail k) y

    abbrev pub KnowsRole : Role Q → Type 0
    KnowsRole (Idle ws) = Unit {0}
    KnowsRole (Keeper from st ws) = (owner root ≡ j) × (st ≡ stored) × ((k : ℕ) → from ≤ k → k < n → (owner (parent_of k) ≡ j) × (owner (child_of k) ≡ j) × (mail k ≡ untouched))
    KnowsRole (Mailbox k p c) = (k < n) × KnowsParent k p × KnowsChild k c

  abbrev pub Has : Role Q → End → Type 0
  Has (Idle ws) e = ⊥
  Has (Keeper from st ws) (parent_of k) = from ≤ k
  Has (Keeper from st ws) (child_of k) = from ≤ k
  Has (Keeper from st ws) root = Unit {0}
  Has (Mailbox i p c) (parent_of k) = (i ≡ k) × ((x : Sender Q) × (p ≡ Some x))
  Has (Mailbox i p c) (child_of k) = (i ≡ k) × ((y : Taker Q) × (c ≡ Some y))
  Has (Mailbox i p c) root = ⊥

abbrev pub IsEnd : ℕ → End → Type 0
IsEnd n (parent_of k) = k < n
IsEnd n (child_of k) = k < n
IsEnd n root = Unit {0}

abbrev pub spent : {W Q : Type 0} → View W Q
spent = record { work = None; blanks = []; role = Idle [] }

-- the turn word, and what the slot has: the packet, or nothing while it is in a hand
module _ {W P Q : Type 0} (plain : P → Q) (asks : W → ℕ → List Q → Type 0) (answers : W → ℕ → List Q → Q → Type 0) (work : W) (blanks : List Q) where
  pub record IsFresh (k : ℕ) (m : MailboxState Q) (word : ℕ) (home : maybe.Option (maybe.Option (Option P))) : Type 0 where
    pub packet : P
    pub word_is : word ≡ 0
    pub home_is : home ≡ some (some (Some packet))
    pub blank : slice_get blanks k ≡ Some (plain packet)
    pub mail_is : m ≡ untouched

  pub record IsWithParent (k : ℕ) (m : MailboxState Q) (word : ℕ) (home : maybe.Option (maybe.Option (Option P))) : Type 0 where
    pub word_is : word ≡ 0
    pub home_is : home ≡ some none
    pub taken : m.taken ≡ m.sent
    pub got : m.got ≡ m.answered
    pub counts : length m.answered ≡ length m.sent

  pub record IsAtChild (k : ℕ) (m : MailboxState Q) (word : ℕ) (home : maybe.Option (maybe.Option (Option P))) : Type 0 where
    pub packet : P
    pub word_is : word ≡ 1
    pub home_is : home ≡ some (some (Some packet))
    pub sent : m.sent ≡ m.taken ++ plain packet ∷ []
    pub got : m.got ≡ m.answered
    pub counts : length m.sent ≡ length m.answered + 1
    pub asked : asks work k m.sent

  pub record IsWithChild (k : ℕ) (m : MailboxState Q) (word : ℕ) (home : maybe.Option (maybe.Option (Option P))) : Type 0 where
    pub word_is : word ≡ 1
    pub home_is : home ≡ some none
    pub taken : m.taken ≡ m.sent
    pub got : m.got ≡ m.answered
    pub counts : length m.sent ≡ length m.answered + 1

  pub record IsAtParent (k : ℕ) (m : MailboxState Q) (word : ℕ) (home : maybe.Option (maybe.Option (Option P))) : Type 0 where
    pub packet : P
    pub word_is : word ≡ 0
    pub home_is : home ≡ some (some (Some packet))
    pub taken : m.taken ≡ m.sent
    pub answered : m.answered ≡ m.got ++ plain packet ∷ []
    pub counts : length m.answered ≡ length m.sent
    pub reply : answers work k m.sent (plain packet)

  abbrev pub BoxAt : MailStage → ℕ → MailboxState Q → ℕ → maybe.Option (maybe.Option (Option P)) → Type 0
  BoxAt fresh k m w h = IsFresh k m w h
  BoxAt with_parent k m w h = IsWithParent k m w h
  BoxAt at_child k m w h = IsAtChild k m w h
  BoxAt with_child k m w h = IsWithChild k m w h
  BoxAt at_parent k m w h = IsAtParent k m w h

  -- each reply answers the jobs up to its own, and each job was allowed after those before it
  pub record Past (k : ℕ) (m : MailboxState Q) : Type 0 where
    pub replies : (i : ℕ) (r : Q) → get_elem? m.answered i ≡ some r → answers work k (take (suc i) m.sent) r
    pub jobs : (i : ℕ) → i < length m.sent → asks work k (take (suc i) m.sent)

  -- what the view v of the seat j says, unless it was joined into another
  abbrev pub IsSeatView : (ℕ → MailboxState Q) → (End → ℕ) → Bool → ℕ → View W Q → Type 0
  IsSeatView mail owner stored j v = (v ≡ spent) ⊎ ((v.work ≡ Some work) × (v.blanks ≡ blanks) × KnowsRole (length blanks) mail owner stored j v.role)

  pub record MailInvariant (s : State (Option P) (View W Q)) : Type 0 where
    pub mail : ℕ → MailboxState Q
    pub parent : ℕ → ℕ
    pub child : ℕ → ℕ
    pub keeper : ℕ
    pub stored : Bool
    pub wide : length s.words ≡ length blanks + 1
    pub deep : length s.homes ≡ length blanks
    pub each_box : (k : ℕ) → k < length blanks → BoxAt (mail k).stage k (mail k) (slice_index s.words k) (get_elem? s.homes k)
    pub each_past : (k : ℕ) → k < length blanks → Past k (mail k)
    pub each_view : (j : ℕ) (v : View W Q) → get_elem? s.views j ≡ some v → IsSeatView mail (owner_of parent child keeper) stored j v
    pub each_end : (e : End) → IsEnd (length blanks) e → (v : View W Q) × (get_elem? s.views (owner_of parent child keeper e) ≡ some v) × Has v.role e
    pub stop : (slice_index s.words (length blanks) < 2) × (slice_index s.words (length blanks) ≡ 1 → stored ≡ true)

module _ {Q : Type 0} where
  abbrev pub new_sender : Sender Q
  new_sender = record { place = Fresh; sent = []; got = []; looked = [] }

  abbrev pub new_taker : Taker Q
  new_taker = record { holds = false; taken = []; answered = []; looked = [] }

  abbrev pub left_of : Role Q → Role Q
  left_of (Keeper from st ws) = Keeper (from + 1) st ws
  left_of r = r

  abbrev pub right_of : Role Q → Role Q
  right_of (Keeper from st ws) = Mailbox from (Some new_sender) (Some new_taker)
  right_of r = Idle []

  abbrev pub role_checked : ℕ → Role Q → Role Q
  role_checked w (Idle ws) = Idle (ws ++ w ∷ [])
  role_checked w (Keeper from st ws) = Keeper from st (ws ++ w ∷ [])
  role_checked w r = r

  abbrev pub role_stopped : Role Q → Role Q
  role_stopped (Keeper from st ws) = Keeper from true ws
  role_stopped r = r

module _ {W Q : Type 0} where
  abbrev pub starting : W → List Q → View W Q
  starting w bs = record { work = Some w; blanks = bs; role = Keeper 0 false [] }

  abbrev pub posed : View W Q → Role Q → View W Q
  posed v role = record { work = v.work; blanks = v.blanks; role = role }

  abbrev pub dealt_left : View W Q → View W Q
  dealt_left v = posed v (left_of v.role)

  abbrev pub dealt_right : View W Q → View W Q
  dealt_right v = posed v (right_of v.role)

module _ {Q : Type 0} where
  -- what a call does to an end
  abbrev pub sender_opened : Sender Q → Sender Q
  sender_opened x = record x { place = Held; looked = x.looked ++ 0 ∷ [] }

  abbrev pub sender_got : Q → Sender Q → Sender Q
  sender_got q x = record x { place = Held; got = x.got ++ q ∷ []; looked = x.looked ++ 0 ∷ [] }

  abbrev pub sender_looked : Sender Q → Sender Q
  sender_looked x = record x { looked = x.looked ++ 1 ∷ [] }

  abbrev pub sender_sent : Q → Sender Q → Sender Q
  sender_sent q x = record x { place = Out; sent = x.sent ++ q ∷ [] }

  abbrev pub taker_took : Q → Taker Q → Taker Q
  taker_took q y = record y { holds = true; taken = y.taken ++ q ∷ []; looked = y.looked ++ 1 ∷ [] }

  abbrev pub taker_looked : Taker Q → Taker Q
  taker_looked y = record y { looked = y.looked ++ 0 ∷ [] }

  abbrev pub taker_answered : Q → Taker Q → Taker Q
  taker_answered q y = record y { holds = false; answered = y.answered ++ q ∷ [] }

  -- the turn word, as one who has both ends knows it
  abbrev pub turn_between : Sender Q → Taker Q → ℕ
  turn_between x y = length x.sent - length y.answered

module _ {W P Q : Type 0} where
  abbrev pub opened : (P → Q) → Step (Option P) → Me (Option P) (View W Q) → ℕ → Me (Option P) (View W Q) → Type 0
  opened plain st m found n = (x : Sender Q) (c : Option (Taker Q)) → m.0.role ≡ Mailbox st.word (Some x) c
      → (p : P) × (n.0 ≡ posed m.0 (Mailbox st.word (Some (sender_opened x)) c)) × (n.1 ≡ (st.word, Some p) ∷ m.1) × (found ≡ 0) × (slice_get m.0.blanks st.word ≡ Some (plain p))

  abbrev pub collected : (P → Q) → (W → ℕ → List Q → Q → Type 0) → Step (Option P) → Me (Option P) (View W Q) → ℕ → Me (Option P) (View W Q) → Type 0
  collected plain answers st m found n = (x : Sender Q) (c : Option (Taker Q)) → m.0.role ≡ Mailbox st.word (Some x) c
      → (found ≡ 0 → (p : P) × (n.0 ≡ posed m.0 (Mailbox st.word (Some (sender_got (plain p) x)) c)) × (n.1 ≡ (st.word, Some p) ∷ m.1) × ((w : W) → m.0.work ≡ Some w → answers w st.word x.sent (plain p)))
      × (found ≢ 0 → (n.0 ≡ posed m.0 (Mailbox st.word (Some (sender_looked x)) c)) × (n.1 ≡ m.1) × (found ≡ 1))
      × ((y : Taker Q) → c ≡ Some y → found ≡ turn_between x y)

  abbrev pub gave : (P → Q) → Step (Option P) → Me (Option P) (View W Q) → ℕ → Me (Option P) (View W Q) → Type 0
  gave plain st m found n = (x : Sender Q) (c : Option (Taker Q)) (p : P) (cs : List (ℕ × Option P)) → m.0.role ≡ Mailbox st.word (Some x) c → m.1 ≡ (st.word, Some p) ∷ cs
      → (n.0 ≡ posed m.0 (Mailbox st.word (Some (sender_sent (plain p) x)) c)) × (n.1 ≡ cs)

  abbrev pub took : (P → Q) → (W → ℕ → List Q → Type 0) → Step (Option P) → Me (Option P) (View W Q) → ℕ → Me (Option P) (View W Q) → Type 0
  took plain asks st m found n = (b : Option (Sender Q)) (y : Taker Q) → m.0.role ≡ Mailbox st.word b (Some y)
      → (found ≢ 0 → (p : P) × (n.0 ≡ posed m.0 (Mailbox st.word b (Some (taker_took (plain p) y)))) × (n.1 ≡ (st.word, Some p) ∷ m.1) × ((w : W) → m.0.work ≡ Some w → asks w st.word (y.taken ++ plain p ∷ [])) × (found ≡ 1) × ((x : Sender Q) → b ≡ Some x → x.sent ≡ y.taken ++ plain p ∷ []))
      × (found ≡ 0 → (n.0 ≡ posed m.0 (Mailbox st.word b (Some (taker_looked y)))) × (n.1 ≡ m.1))
      × ((x : Sender Q) → b ≡ Some x → found ≡ turn_between x y)

  abbrev pub gave_back : (P → Q) → Step (Option P) → Me (Option P) (View W Q) → ℕ → Me (Option P) (View W Q) → Type 0
  gave_back plain st m found n = (b : Option (Sender Q)) (y : Taker Q) (p : P) (cs : List (ℕ × Option P)) → m.0.role ≡ Mailbox st.word b (Some y) → m.1 ≡ (st.word, Some p) ∷ cs
      → (n.0 ≡ posed m.0 (Mailbox st.word b (Some (taker_answered (plain p) y)))) × (n.1 ≡ cs)

  abbrev pub checked : Step (Option P) → Me (Option P) (View W Q) → ℕ → Me (Option P) (View W Q) → Type 0
  checked st m found n = (n.0 ≡ posed m.0 (role_checked found m.0.role)) × (n.1 ≡ m.1) × (found < 2) × (found ≡ 1 → (from : ℕ) (stored : Bool) (words : List ℕ) → m.0.role ≡ Keeper from stored words → stored ≡ true)

  abbrev pub stops : Step (Option P) → Me (Option P) (View W Q) → ℕ → Me (Option P) (View W Q) → Type 0
  stops st m found n = (n.0 ≡ posed m.0 (role_stopped m.0.role)) × (n.1 ≡ m.1)
