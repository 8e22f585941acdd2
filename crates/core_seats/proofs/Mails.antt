-- What one call of a port leaves of a host's state.
use Rattle.std.proofs.Common.{◌≡◌, ◌≢◌, ℕ, zero, suc, ◌<◌, Bool, Option, Some, None, List, [], ◌∷◌, ◌++◌, length, refl, sym, ap, ◌∙◌, subst, append_assoc, append-nil, arith}
use Rattle.std.specs.Prelude.{slice_get, slice_set, slice_index_or}
use Rattle.std.proofs.lemmas.List.{length-set}
use Rattle.std.proofs.lemmas.Option.{get_or_from_slice_get}
use Rattle.forec_kernel.specs.Packets.{PlainPacket}
use Rattle.forec_kernel.specs.Packed.{HasRoom}
use Rattle.thread_code.specs.Valid.{of_shape}
use Rattle.combine_tree.specs.declared.packet.Packet.{Packet}
use Rattle.combine_tree.specs.Plain.{plain_packet}
use Rattle.copy_slots.specs.declared.view.PacketAt.{PacketAt}
use Rattle.copy_slots.specs.declared.view.PacketAt.TheVariants.{Fresh, Held}
use Rattle.copy_slots.specs.declared.view.Sender.{Sender}
use Rattle.copy_slots.specs.declared.view.Taker.{Taker}
use Rattle.copy_slots.specs.Mail.{sender_opened}
use Rattle.copy_slots.specs.Ports.{MailboxEnds, parent_at, child_at, on_sender, on_taker, on_parent, on_child, sent_by, got_by, words_of_parent, looked_by_parent, IsParent, IsChild, ParentIs, sent, got}
use Rattle.copy_slots.proofs.PortLemmas.{parent_here, parent_else, child_on_parent}
use Rattle.thread_code.specs.declared.instruction.CodeParts.{CodeParts}
use Rattle.tick_jobs.proofs.Lists.{some_once, get_set, get_set_else}
use Rattle.core_seats.specs.declared.seat.Seat.{Seat}
use Rattle.core_seats.specs.Posts.{Mail}
use Rattle.core_seats.specs.Changes.{Extends}
use Rattle.core_seats.specs.Keeping.{SchedulerState, code_in, KeepsPort, IsSeated, IsPacketOfParent, blank, reply, HasPacket}
use Rattle.core_seats.specs.Moving.{ChangesPacket}

abbrev pub state : CodeParts → List ℕ → Mail → List Seat → List (Option Packet) → SchedulerState
state code places mail seats hands = record { code = code; places = places; mail = mail; seats = seats; hands = hands }

-- ---- ends

module _ {Q : Type 0} where
  pub parents_count : (es : List (MailboxEnds Q)) (k : ℕ) (f : Sender Q → Sender Q) → length (on_parent es k f) ≡ length es
  parents_count [] k f = refl
  parents_count (e ∷ es) zero f = refl
  parents_count (e ∷ es) (suc k) f = ap suc (parents_count es k f)

  pub children_count : (es : List (MailboxEnds Q)) (k : ℕ) (f : Taker Q → Taker Q) → length (on_child es k f) ≡ length es
  children_count [] k f = refl
  children_count (e ∷ es) zero f = refl
  children_count (e ∷ es) (suc k) f = ap suc (children_count es k f)

  pub is_parent : (o : Option (Sender Q)) (p : PacketAt) → IsParent o p → (x : Sender Q) × (o ≡ Some x) × (x.place ≡ p)
  is_parent None p h = absurd h
  is_parent (Some x) p h = (x, refl, h)

  pub is_child : (o : Option (Taker Q)) (b : Bool) → IsChild o b → (y : Taker Q) × (o ≡ Some y) × (y.holds ≡ b)
  is_child None b h = absurd h
  is_child (Some y) b h = (y, refl, h)

-- ---- growing

pub extends_same : {A : Type 0} (l m : List A) → m ≡ l → Extends l m
extends_same l m e = record { more = []; is = e ∙ sym (append-nil l) }

pub extends_then : {A : Type 0} (l m n : List A) → Extends l m → Extends m n → Extends l n
extends_then l m n h g = record { more = h.more ++ g.more; is = g.is ∙ ap (λ x. x ++ g.more) h.is ∙ append_assoc l h.more g.more }

pub extends_one : {A : Type 0} (l m : List A) (a : A) → m ≡ l ++ a ∷ [] → Extends l m
extends_one l m a e = record { more = a ∷ []; is = e }

-- ---- a parent's end

module _ (s : SchedulerState) (k : ℕ) (f : Sender PlainPacket → Sender PlainPacket) (hands : List (Option Packet)) where
  abbrev pub with_parent : SchedulerState
  with_parent = record s { mail = record s.mail { ends = on_parent s.mail.ends k f }; hands = hands }

  looks_on : ((x : Sender PlainPacket) → Extends x.looked (f x).looked) → (o : Option (Sender PlainPacket)) → Extends (words_of_parent o) (words_of_parent (on_sender f o))
  looks_on look None = extends_same [] [] refl
  looks_on look (Some x) = look x

  pub moves_parent : ((x : Sender PlainPacket) → Extends x.looked (f x).looked) → ((j : ℕ) → j ≢ k → slice_get hands j ≡ slice_get s.hands j) → length hands ≡ length s.hands → ChangesPacket k s with_parent
  moves_parent look else count = record {
    code = refl;
    places = refl;
    seats = refl;
    alike = record { work = refl; blanks = refl; tells = refl; root = refl; count = parents_count s.mail.ends k f; stops = extends_same _ _ refl };
    parents = λ j n. parent_else s.mail.ends k j f n;
    looked = subst (λ o. Extends (looked_by_parent s.mail k) (words_of_parent o)) (sym (parent_here s.mail.ends k f)) (looks_on look (parent_at s.mail.ends k));
    children = λ j. child_on_parent s.mail.ends k j f;
    hands = else;
    hand_count = count;
  }

  module _ (x : Sender PlainPacket) (is : parent_at s.mail.ends k ≡ Some x) where
    pub parent_now : parent_at (on_parent s.mail.ends k f) k ≡ Some (f x)
    parent_now = parent_here s.mail.ends k f ∙ ap (on_sender f) is

    pub place_now : ParentIs with_parent.mail k (f x).place
    place_now = subst (λ (o : Option (Sender PlainPacket)). IsParent o (f x).place) (sym parent_now) refl

    pub sent_now : sent with_parent.mail k ≡ (f x).sent
    sent_now = ap sent_by parent_now

    pub got_now : got with_parent.mail k ≡ (f x).got
    got_now = ap got_by parent_now

    pub sent_before : sent s.mail k ≡ x.sent
    sent_before = ap sent_by is

    pub got_before : got s.mail k ≡ x.got
    got_before = ap got_by is

pub alike_same : (a : Mail) → KeepsPort a a
alike_same a = record { work = refl; blanks = refl; tells = refl; root = refl; count = refl; stops = extends_same _ _ refl }

pub alike_then : (a b c : Mail) → KeepsPort a b → KeepsPort b c → KeepsPort a c
alike_then a b c h g = record { work = g.work ∙ h.work; blanks = g.blanks ∙ h.blanks; tells = g.tells ∙ h.tells; root = g.root ∙ h.root; count = g.count ∙ h.count; stops = extends_then _ _ _ h.stops g.stops }

pub moves_then : (k : ℕ) (a b c : SchedulerState) → ChangesPacket k a b → ChangesPacket k b c → ChangesPacket k a c
moves_then k a b c h g = record {
  code = g.code ∙ h.code;
  places = g.places ∙ h.places;
  seats = g.seats ∙ h.seats;
  alike = alike_then a.mail b.mail c.mail h.alike g.alike;
  parents = λ j n. g.parents j n ∙ h.parents j n;
  looked = extends_then _ _ _ h.looked g.looked;
  children = λ j. g.children j ∙ h.children j;
  hands = λ j n. g.hands j n ∙ h.hands j n;
  hand_count = g.hand_count ∙ h.hand_count;
}

-- ---- the packet of a mailbox

-- where it was taken out of its parent's hand
abbrev pub handed : SchedulerState → ℕ → SchedulerState
handed s k = record s { hands = slice_set s.hands k None }

pub handed_moves : (s : SchedulerState) (k : ℕ) → ChangesPacket k s (handed s k)
handed_moves s k = record {
  code = refl;
  places = refl;
  seats = refl;
  alike = alike_same s.mail;
  parents = λ j n. refl;
  looked = extends_same _ _ refl;
  children = λ j. refl;
  hands = λ j n. get_set_else s.hands k j None n;
  hand_count = length-set s.hands k None;
}

module _ (s : SchedulerState) (k : ℕ) (seated : IsSeated s) (inside : k < length s.mail.ends) (has : HasPacket s k) where
  in_hands : k < length s.hands
  in_hands = omega (arith, inside, seated.mailboxes, seated.hands)

  emptied_else : (j : ℕ) → j ≢ k → slice_get (slice_set s.hands k None) j ≡ slice_get s.hands j
  emptied_else j n = get_set_else s.hands k j None n

  hand_is : (d : Option Packet) → slice_index_or s.hands k d ≡ has.hand
  hand_is d = get_or_from_slice_get s.hands k has.hand d has.at

  pub handed_empty : slice_get (slice_set s.hands k None) k ≡ Some None
  handed_empty = get_set s.hands k None in_hands

  pub reply_room : (p : Packet) (d : Option Packet) → d ≡ slice_index_or s.hands k d → d ≡ Some p → HasRoom (of_shape (code_in s).shape) (suc k) (plain_packet p)
  reply_room p d e is = pick has.hand has.ready (sym (hand_is d) ∙ sym e ∙ is)
    where
      pick : (h : Option Packet) → IsPacketOfParent s k h → h ≡ Some p → HasRoom (of_shape (code_in s).shape) (suc k) (plain_packet p)
      pick None r q = cc
      pick (Some x) (reply held y room) q = subst (λ z. HasRoom (of_shape (code_in s).shape) (suc k) (plain_packet z)) (some_once x p q) room

  pub reply_held : (p : Packet) (d : Option Packet) → d ≡ slice_index_or s.hands k d → d ≡ Some p → ParentIs s.mail k Held
  reply_held p d e is = pick has.hand has.ready (sym (hand_is d) ∙ sym e ∙ is)
    where
      pick : (h : Option Packet) → IsPacketOfParent s k h → h ≡ Some p → ParentIs s.mail k Held
      pick None r q = cc
      pick (Some x) (reply held y room) q = held

  module _ (d : Option Packet) (e : d ≡ slice_index_or s.hands k d) (nothing : d ≡ None) where
    pub record IsBlank : Type 0 where
      pub fresh : ParentIs s.mail k Fresh
      pub q : PlainPacket
      pub at : slice_get s.mail.blanks k ≡ Some q
      pub room : HasRoom (of_shape (code_in s).shape) (suc k) q

    pub is_blank : IsBlank
    is_blank = pick has.hand has.ready (sym (hand_is d) ∙ sym e ∙ nothing)
      where
        pick : (h : Option Packet) → IsPacketOfParent s k h → h ≡ None → IsBlank
        pick None (blank fresh q at room) n = record { fresh = fresh; q = q; at = at; room = room }
        pick (Some x) r n = cc

    sender : (x : Sender PlainPacket) × (parent_at s.mail.ends k ≡ Some x) × (x.place ≡ Fresh)
    sender = is_parent (parent_at s.mail.ends k) Fresh is_blank.fresh

    abbrev pub opened : SchedulerState
    opened = with_parent s k sender_opened (slice_set s.hands k None)

    pub opened_moves : ChangesPacket k s opened
    opened_moves = moves_parent s k sender_opened (slice_set s.hands k None) (λ x. extends_one x.looked _ 0 refl) emptied_else (length-set s.hands k None)

    pub opened_held : ParentIs opened.mail k Held
    opened_held = place_now s k sender_opened (slice_set s.hands k None) sender.0 sender.1

    pub opened_sent : sent opened.mail k ≡ sent s.mail k
    opened_sent = sent_now s k sender_opened (slice_set s.hands k None) sender.0 sender.1 ∙ sym (sent_before s k sender_opened (slice_set s.hands k None) sender.0 sender.1)

    pub opened_got : got opened.mail k ≡ got s.mail k
    opened_got = got_now s k sender_opened (slice_set s.hands k None) sender.0 sender.1 ∙ sym (got_before s k sender_opened (slice_set s.hands k None) sender.0 sender.1)

    pub opened_room : (q : PlainPacket) → slice_get s.mail.blanks k ≡ Some q → HasRoom (of_shape (code_in s).shape) (suc k) q
    opened_room q at = subst (HasRoom (of_shape (code_in s).shape) (suc k)) (some_once is_blank.q q (sym is_blank.at ∙ at)) is_blank.room
