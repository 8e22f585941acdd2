-- What a port means to its callers.
use Rattle.std.specs.Prelude.{◌≡◌, ◌≢◌, ℕ, suc, zero, List, [], ◌∷◌, ◌++◌, map, Option, Some, None, Bool, true, false}
use Rattle.atomic_table.specs.Seated.{TableId}
use Rattle.copy_slots.specs.declared.view.PacketAt.{PacketAt}
use Rattle.copy_slots.specs.declared.view.Sender.{Sender}
use Rattle.copy_slots.specs.declared.view.Taker.{Taker}
use Rattle.copy_slots.specs.declared.view.Role.{Role}
use Rattle.copy_slots.specs.declared.view.Role.TheVariants.{Idle, Keeper, Mailbox}
use Rattle.copy_slots.specs.Mail.{new_sender, new_taker, sender_opened, sender_got, sender_looked, sender_sent, taker_took, taker_looked, taker_answered, turn_between}

-- the ends of one mailbox that a port has
pub record MailboxEnds (Q : Type 0) : Type 0 where
  pub parent : Option (Sender Q)
  pub child : Option (Taker Q)

-- `board`: the table that it shares with the ports of other cores; None where it has one alone. `blanks`: the packet of each mailbox at the
-- start. `ends`: at k, the ends of mailbox k. `tells`: whose turn it is is told. `root`: it is the port of the root's core.
-- `stored`: it stored the stop word. `stops`: the stop words that it loaded, in order
pub record PortState (W Q : Type 0) : Type 0 where
  pub board : Option TableId
  pub work : W
  pub blanks : List Q
  pub ends : List (MailboxEnds Q)
  pub tells : Bool
  pub root : Bool
  pub stored : Bool
  pub stops : List ℕ

-- the stop word, as a look at it tells
abbrev pub stop_word : Bool → ℕ
stop_word true = 1
stop_word false = 0

abbrev pub in_plain : {P Q : Type 0} → (P → Q) → Option P → Option Q
in_plain plain None = None
in_plain plain (Some p) = Some (plain p)

module _ {Q : Type 0} where
  abbrev pub parent_at : List (MailboxEnds Q) → ℕ → Option (Sender Q)
  parent_at [] k = None
  parent_at (e ∷ es) zero = e.parent
  parent_at (e ∷ es) (suc k) = parent_at es k

  abbrev pub child_at : List (MailboxEnds Q) → ℕ → Option (Taker Q)
  child_at [] k = None
  child_at (e ∷ es) zero = e.child
  child_at (e ∷ es) (suc k) = child_at es k

  abbrev pub on_sender : (Sender Q → Sender Q) → Option (Sender Q) → Option (Sender Q)
  on_sender f None = None
  on_sender f (Some x) = Some (f x)

  abbrev pub on_taker : (Taker Q → Taker Q) → Option (Taker Q) → Option (Taker Q)
  on_taker f None = None
  on_taker f (Some y) = Some (f y)

  abbrev pub on_parent : List (MailboxEnds Q) → ℕ → (Sender Q → Sender Q) → List (MailboxEnds Q)
  on_parent [] k f = []
  on_parent (e ∷ es) zero f = (record { parent = on_sender f e.parent; child = e.child }) ∷ es
  on_parent (e ∷ es) (suc k) f = e ∷ on_parent es k f

  abbrev pub on_child : List (MailboxEnds Q) → ℕ → (Taker Q → Taker Q) → List (MailboxEnds Q)
  on_child [] k f = []
  on_child (e ∷ es) zero f = (record { parent = e.parent; child = on_taker f e.child }) ∷ es
  on_child (e ∷ es) (suc k) f = e ∷ on_child es k f

  abbrev pub sent_by : Option (Sender Q) → List Q
  sent_by None = []
  sent_by (Some x) = x.sent

  abbrev pub got_by : Option (Sender Q) → List Q
  got_by None = []
  got_by (Some x) = x.got

  abbrev pub taken_by : Option (Taker Q) → List Q
  taken_by None = []
  taken_by (Some y) = y.taken

  abbrev pub answered_by : Option (Taker Q) → List Q
  answered_by None = []
  answered_by (Some y) = y.answered

  abbrev pub words_of_parent : Option (Sender Q) → List ℕ
  words_of_parent None = []
  words_of_parent (Some x) = x.looked

  abbrev pub words_of_child : Option (Taker Q) → List ℕ
  words_of_child None = []
  words_of_child (Some y) = y.looked

  abbrev pub IsParent : Option (Sender Q) → PacketAt → Type 0
  IsParent None p = ⊥
  IsParent (Some x) p = x.place ≡ p

  abbrev pub IsChild : Option (Taker Q) → Bool → Type 0
  IsChild None b = ⊥
  IsChild (Some y) b = y.holds ≡ b

  -- what a look by the parent leaves, and one by the child
  abbrev pub sender_seen : Option Q → Sender Q → Sender Q
  sender_seen None x = sender_looked x
  sender_seen (Some q) x = sender_got q x

  abbrev pub taker_seen : Option Q → Taker Q → Taker Q
  taker_seen None y = taker_looked y
  taker_seen (Some q) y = taker_took q y

  abbrev pub turn_of : Option (Sender Q) → Option (Taker Q) → ℕ
  turn_of (Some x) (Some y) = turn_between x y
  turn_of _ _ = 0

  abbrev pub ends_of : Role Q → MailboxEnds Q
  ends_of (Mailbox k p c) = record { parent = p; child = c }
  ends_of r = record { parent = None; child = None }

  abbrev pub sender_in : Role Q → Sender Q
  sender_in (Mailbox k (Some x) c) = x
  sender_in r = new_sender

  abbrev pub taker_in : Role Q → Taker Q
  taker_in (Mailbox k b (Some y)) = y
  taker_in r = new_taker

  abbrev pub stops_of : Role Q → List ℕ
  stops_of (Idle ws) = ws
  stops_of (Keeper from st ws) = ws
  stops_of r = []

  abbrev pub stored_of : Role Q → Bool
  stored_of (Keeper from st ws) = st
  stored_of r = false

  abbrev pub is_keeper : Role Q → Bool
  is_keeper (Keeper from st ws) = true
  is_keeper r = false

-- the state of a port with both ends of each mailbox, by the roles of its seats
abbrev pub local_state : {W Q : Type 0} → W → List Q → List (Role Q) → Role Q → PortState W Q
local_state work blanks roles watch = record { board = None; work = work; blanks = blanks; ends = map ends_of roles; tells = true; root = true; stored = stored_of watch; stops = stops_of watch }

module _ {W Q : Type 0} where
  -- the jobs that the parent's end has sent and the replies that it has got, in order
  abbrev pub sent : PortState W Q → ℕ → List Q
  sent s k = sent_by (parent_at s.ends k)

  abbrev pub got : PortState W Q → ℕ → List Q
  got s k = got_by (parent_at s.ends k)

  -- the jobs that the child's end has taken and the replies that it has sent, in order
  abbrev pub taken : PortState W Q → ℕ → List Q
  taken s k = taken_by (child_at s.ends k)

  abbrev pub answered : PortState W Q → ℕ → List Q
  answered s k = answered_by (child_at s.ends k)

  -- the turn words that an end has loaded, in order
  abbrev pub looked_by_parent : PortState W Q → ℕ → List ℕ
  looked_by_parent s k = words_of_parent (parent_at s.ends k)

  abbrev pub looked_by_child : PortState W Q → ℕ → List ℕ
  looked_by_child s k = words_of_child (child_at s.ends k)

  -- whose turn it is, as one who has both ends knows it: 0 is the parent's
  abbrev pub turn : PortState W Q → ℕ → ℕ
  turn s k = turn_of (parent_at s.ends k) (child_at s.ends k)

  -- it was the child's turn, and it took the last job
  abbrev pub TookLast : PortState W Q → PortState W Q → ℕ → Type 0
  TookLast old new k = (turn old k ≢ 0) × (taken new k ≡ sent new k)

  -- the parent's end of k is there, and its packet is in this place
  abbrev pub ParentIs : PortState W Q → ℕ → PacketAt → Type 0
  ParentIs s k p = IsParent (parent_at s.ends k) p

  -- the child's end of k is there, with its packet in hand or without
  abbrev pub ChildIs : PortState W Q → ℕ → Bool → Type 0
  ChildIs s k b = IsChild (child_at s.ends k) b

  abbrev pub after_first : ℕ → PortState W Q → PortState W Q
  after_first k s = record s { ends = on_parent s.ends k sender_opened }

  abbrev pub after_offer : ℕ → Q → PortState W Q → PortState W Q
  after_offer k q s = record s { ends = on_parent s.ends k (sender_sent q) }

  abbrev pub after_collect : ℕ → Option Q → PortState W Q → PortState W Q
  after_collect k q s = record s { ends = on_parent s.ends k (sender_seen q) }

  abbrev pub after_take : ℕ → Option Q → PortState W Q → PortState W Q
  after_take k q s = record s { ends = on_child s.ends k (taker_seen q) }

  abbrev pub after_answer : ℕ → Q → PortState W Q → PortState W Q
  after_answer k q s = record s { ends = on_child s.ends k (taker_answered q) }

  abbrev pub after_stop : PortState W Q → PortState W Q
  after_stop s = record s { stored = true }

  abbrev pub after_check : Bool → PortState W Q → PortState W Q
  after_check stopped s = record s { stops = s.stops ++ stop_word stopped ∷ [] }
