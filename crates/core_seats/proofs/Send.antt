-- A job is sent, and a reply got.
use Rattle.std.proofs.Common.{◌≡◌, ℕ, zero, suc, ◌<◌, ◌≤◌, ◌^◌, false, Some, None, List, [], ◌∷◌, ◌++◌, length, map, refl, sym, ap, ◌∙◌, subst, arith}
use Rattle.std.specs.Prelude.{slice_get, slice_set}
use Rattle.std.proofs.lemmas.List.{length-set}
use Rattle.forec_kernel.specs.Packets.{PlainPacket}
use Rattle.forec_kernel.specs.Packed.{HasRoom, IsJob}
use Rattle.forec_kernel.specs.Engine.{Job, Start, Wake}
use Rattle.thread_code.specs.Plain.{PlainCode, plain_code}
use Rattle.thread_code.specs.Valid.{of_shape, IsValidCode}
use Rattle.combine_tree.specs.declared.packet.Packet.{Packet}
use Rattle.combine_tree.specs.Plain.{plain_packet}
use Rattle.copy_slots.specs.declared.view.PacketAt.TheVariants.{Held, Out}
use Rattle.copy_slots.specs.declared.view.Sender.{Sender}
use Rattle.copy_slots.specs.Mail.{sender_got, sender_sent, sender_looked}
use Rattle.copy_slots.specs.Ports.{parent_at, child_at, sent_by, taken_by, answered_by, words_of_parent, turn_of, ParentIs, sent, got, taken, turn}
use Rattle.core_seats.specs.Asking.{Replies, ArePaused, MayFollow, Asks}
use Rattle.core_seats.specs.Posts.{Mail}
use Rattle.tick_jobs.specs.Branches.{IsBranchOf}
use Rattle.core_seats.specs.Keeping.{SchedulerState, code_in, IsSeated, reply, HasPacket, LacksPacket, Quiet, IsCalled, IsBack, MayAsk}
use Rattle.core_seats.specs.Moving.{ChangesPacket, HasSent, HasGot, HasLooked}
use Rattle.core_seats.proofs.Mails.{with_parent, moves_parent, moves_then, parent_now, place_now, sent_now, got_now, sent_before, got_before, is_parent, is_child, extends_same, extends_one}
use Rattle.tick_jobs.proofs.Lists.{get_set, get_set_else}
use Rattle.core_seats.proofs.KeepingLemmas.{moved_idle}
use Rattle.tick_jobs.proofs.Branching.{branch_above}

-- no thread is a branch of itself
own_branch : (c : PlainCode) → IsValidCode c → (k : ℕ) → suc k < length c.threads → IsBranchOf c.shape (suc k) k → ⊥
own_branch c valid k lt mine = let less = branch_above c valid (suc k) k lt mine in absurd (omega (arith, less))

-- ---- a job

follows : (c : PlainCode) (m m' : Mail) (k : ℕ) (q : PlainPacket) (j : Job) → IsJob q j → sent m' k ≡ sent m k → MayAsk c m k j → MayFollow c k (sent m' k) q.kind
follows c m m' k q (Start args values a) is same may = subst (MayFollow c k (sent m' k)) (sym is.0) tt
follows c m m' k q (Wake values a) is same may = subst (MayFollow c k (sent m' k)) (sym is.0) (subst (ArePaused c k) (sym same) may)

pub asks_now : (c : PlainCode) (m m' : Mail) (k : ℕ) (q : PlainPacket) (j : Job) → IsJob q j → sent m' k ≡ sent m k → MayAsk c m k j → HasRoom (of_shape c.shape) (suc k) q → q.allowance ≤ 2 ^ 62 → Asks c k (sent m' k ++ q ∷ [])
asks_now c m m' k q j is same may room small = record { before = sent m' k; last = q; are = refl; job = j; is = is; room = room; small = small; follows = follows c m m' k q j is same may }

module _ (s0 s1 : SchedulerState) (k : ℕ) (moves : ChangesPacket k s0 s1) (held : ParentIs s1.mail k Held) (empty : slice_get s1.hands k ≡ Some None)
    (same_sent : sent s1.mail k ≡ sent s0.mail k) (same_got : got s1.mail k ≡ got s0.mail k) (q : PlainPacket) where
  sender : (x : Sender PlainPacket) × (parent_at s1.mail.ends k ≡ Some x) × (x.place ≡ Held)
  sender = is_parent (parent_at s1.mail.ends k) Held held

  abbrev pub after_sent : SchedulerState
  after_sent = with_parent s1 k (sender_sent q) s1.hands

  pub sent_moves : ChangesPacket k s0 after_sent
  sent_moves = moves_then k s0 s1 after_sent moves (moves_parent s1 k (sender_sent q) s1.hands (λ x. extends_same x.looked x.looked refl) (λ j n. refl) refl)

  now_sent : sent after_sent.mail k ≡ sent s0.mail k ++ q ∷ []
  now_sent =
      sent_now s1 k (sender_sent q) s1.hands sender.0 sender.1
      ∙ ap (λ l. l ++ q ∷ []) (sym (sent_before s1 k (sender_sent q) s1.hands sender.0 sender.1) ∙ same_sent)

  now_got : got after_sent.mail k ≡ got s0.mail k
  now_got = got_now s1 k (sender_sent q) s1.hands sender.0 sender.1 ∙ sym (got_before s1 k (sender_sent q) s1.hands sender.0 sender.1) ∙ same_got

  pub sent_lacks : LacksPacket after_sent k
  sent_lacks = record { out = place_now s1 k (sender_sent q) s1.hands sender.0 sender.1; empty = empty }

  pub has_sent : (job : Job) → IsJob q job → HasSent s0 after_sent k job
  has_sent job is = record { packet = q; is = is; sent = now_sent; got = now_got }

-- a branch at which nothing was under way is called
pub called_now : (s0 s1 : SchedulerState) (k : ℕ) → IsSeated s0 → k < length s0.mail.ends → Quiet s0 k → ChangesPacket k s0 s1 → LacksPacket s1 k → (job : Job) → HasSent s0 s1 k job → IsCalled s1 k
called_now s0 s1 k seated inside quiet moves lacks job sent = record {
  idle = moved_idle s0 s1 k moves k (own_branch (code_in s0) seated.valid k (omega (arith, inside, seated.mailboxes))) quiet.idle;
  lacks = lacks;
  job = sent.packet;
  one = sent.sent ∙ ap (λ l. l ++ sent.packet ∷ []) (sym quiet.all ∙ sym (ap taken_by (moves.children k)));
}

-- ---- a reply

module _ (s : SchedulerState) (k : ℕ) (seated : IsSeated s) (inside : k < length s.mail.ends) (lacks : LacksPacket s k) where
  sender2 : (x : Sender PlainPacket) × (parent_at s.mail.ends k ≡ Some x) × (x.place ≡ Out)
  sender2 = is_parent (parent_at s.mail.ends k) Out lacks.out

  module _ (p : Packet) (replies : Replies (code_in s) k (sent s.mail k) (plain_packet p)) where
    abbrev pub after_got : SchedulerState
    after_got = with_parent s k (sender_got (plain_packet p)) (slice_set s.hands k (Some p))

    pub got_moves : ChangesPacket k s after_got
    got_moves =
        moves_parent s k (sender_got (plain_packet p)) (slice_set s.hands k (Some p)) (λ x. extends_one x.looked _ 0 refl) (λ j n. get_set_else s.hands k j (Some p) n)
        (length-set s.hands k (Some p))

    pub has_got : HasGot s after_got k
    has_got = record {
      packet = p;
      at = get_set s.hands k (Some p) (omega (arith, inside, seated.mailboxes, seated.hands));
      held = place_now s k (sender_got (plain_packet p)) (slice_set s.hands k (Some p)) sender2.0 sender2.1;
      replies = replies;
      sent =
          sent_now s k (sender_got (plain_packet p)) (slice_set s.hands k (Some p)) sender2.0 sender2.1
          ∙ sym (sent_before s k (sender_got (plain_packet p)) (slice_set s.hands k (Some p)) sender2.0 sender2.1);
      got =
          got_now s k (sender_got (plain_packet p)) (slice_set s.hands k (Some p)) sender2.0 sender2.1
          ∙ ap (λ l. l ++ plain_packet p ∷ []) (sym (got_before s k (sender_got (plain_packet p)) (slice_set s.hands k (Some p)) sender2.0 sender2.1));
    }

  abbrev pub after_looked : SchedulerState
  after_looked = with_parent s k sender_looked s.hands

  pub looked_moves : ChangesPacket k s after_looked
  looked_moves = moves_parent s k sender_looked s.hands (λ x. extends_one x.looked _ 1 refl) (λ j n. refl) refl

  pub has_looked : HasLooked s after_looked k
  has_looked = record {
    lacks = record {
      out = subst (ParentIs after_looked.mail k) sender2.2 (place_now s k sender_looked s.hands sender2.0 sender2.1);
      empty = lacks.empty;
    };
    sent = sent_now s k sender_looked s.hands sender2.0 sender2.1 ∙ sym (sent_before s k sender_looked s.hands sender2.0 sender2.1);
    got = got_now s k sender_looked s.hands sender2.0 sender2.1 ∙ sym (got_before s k sender_looked s.hands sender2.0 sender2.1);
    looked = ap words_of_parent (parent_now s k sender_looked s.hands sender2.0 sender2.1) ∙ ap (λ l. l ++ 1 ∷ []) (sym (ap words_of_parent sender2.1));
  }

-- the packet is back in its parent's hand
pub got_packet : (s s1 : SchedulerState) (k : ℕ) → ChangesPacket k s s1 → HasGot s s1 k → HasPacket s1 k
got_packet s s1 k moves got = record {
  hand = Some got.packet;
  at = got.at;
  ready = reply got.held got.packet (subst (λ x. HasRoom (of_shape (plain_code x).shape) (suc k) (plain_packet got.packet)) (sym moves.code) got.replies.room);
}

-- nothing is under way any more at a branch that is back
pub quiet_now : (s s1 : SchedulerState) (k : ℕ) → IsSeated s → k < length s.mail.ends → IsBack s k → ChangesPacket k s s1 → HasGot s s1 k → Quiet s1 k
quiet_now s s1 k seated inside back moves got = record {
  idle = moved_idle s s1 k moves k (own_branch (code_in s) seated.valid k (omega (arith, inside, seated.mailboxes))) back.idle;
  all = ap taken_by (moves.children k) ∙ back.all ∙ sym got.sent;
  packet = got_packet s s1 k moves got;
}

-- it is the parent's turn
pub back_turn : (s : SchedulerState) (k : ℕ) → IsBack s k → turn s.mail k ≡ 0
back_turn s k back =
    let x = is_parent (parent_at s.mail.ends k) Out back.lacks.out in
    let y = is_child (child_at s.mail.ends k) false back.idle.child in
    let sent : length x.0.sent ≡ length (taken s.mail k) = ap length (sym (ap sent_by x.1)) ∙ ap length (sym back.all) in
    let done : length y.0.answered ≡ length (taken s.mail k) = ap length (sym (ap answered_by y.1)) ∙ back.idle.even in
    ap (λ o. turn_of o (child_at s.mail.ends k)) x.1 ∙ ap (turn_of (Some x.0)) y.1 ∙ omega (arith, sent, done)

-- ---- the job of a branch
