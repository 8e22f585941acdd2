-- What stays of threads and mailboxes that a change leaves alone.
use Rattle.std.proofs.Common.{◌≡◌, ◌≢◌, ℕ, suc, ◌<◌, ◌≤◌, false, Option, Some, List, length, refl, sym, ap, ◌∙◌, subst, arith}
use Rattle.std.specs.Prelude.{slice_get}
use Rattle.forec_kernel.specs.Packets.{PlainPacket, IsPaused}
use Rattle.forec_kernel.specs.Packed.{AreJobs, HasRoom}
use Rattle.forec_kernel.specs.Engine.{Job, Answered, jobs_to}
use Rattle.thread_code.specs.Plain.{PlainCode, plain_code}
use Rattle.thread_code.specs.Valid.{of_shape, IsValidCode}
use Rattle.combine_tree.specs.declared.packet.Packet.{Packet}
use Rattle.combine_tree.specs.declared.packet.PacketKind.{PacketKind}
use Rattle.combine_tree.specs.declared.packet.PacketKind.TheVariants as kind
use Rattle.combine_tree.specs.Plain.{plain_kind, plain_packet}
use Rattle.core_machine.specs.declared.thread.Thread.{Thread}
use Rattle.core_machine.specs.Threads.{Loaded, HasPaused}
use Rattle.core_machine.specs.Replies.{RepliesByKind}
use Rattle.copy_slots.specs.declared.view.PacketAt.TheVariants.{Fresh, Held}
use Rattle.copy_slots.specs.declared.view.Sender.{Sender}
use Rattle.copy_slots.specs.declared.view.Taker.{Taker}
use Rattle.copy_slots.specs.Ports.{parent_at, child_at, sent_by, got_by, taken_by, answered_by, words_of_parent, words_of_child, looked_by_parent, looked_by_child, IsParent, IsChild, ChildIs, sent, got, taken, answered}
use Rattle.tick_jobs.proofs.Branching.{branch_above, parent_once, has_parent}
use Rattle.core_seats.specs.Posts.{Mail, AreReplies}
use Rattle.tick_jobs.specs.Branches.{IsBranchOf, replies_to}
use Rattle.core_seats.specs.Changes.{Extends, Grown}
use Rattle.core_seats.specs.Done.{Posts, HasDone}
use Rattle.core_seats.specs.Keeping.{SchedulerState, code_in, KeepsPort, KeepsBelow, IsSeated, IsFitted, LastReply, Idle, IsPacketOfParent, blank, reply, HasPacket, Quiet}
use Rattle.core_seats.specs.Moving.{ChangesPacket}
use Rattle.core_seats.proofs.Mails.{alike_same, alike_then, extends_same, extends_then}
use Rattle.tick_jobs.proofs.DidLemmas.{did_for}
use Rattle.tick_jobs.proofs.Lists.{by_equal}

-- ---- what a thread has done

pub paused_by : (h : Thread) (k : PacketKind) → RepliesByKind h k → plain_kind k ≡ IsPaused → HasPaused h
paused_by h kind.Paused r e = r
paused_by h kind.Blank r e = absurd r
paused_by h kind.Start r e = absurd r
paused_by h kind.Wake r e = absurd r
paused_by h kind.Ended r e = cc
paused_by h (kind.Trapped place trap) r e = cc
paused_by h kind.Over r e = cc

pub posts_keep : (c : PlainCode) (t : ℕ) (m m' : Mail) (pairs : List Answered) → ((j : ℕ) → IsBranchOf c.shape t j → parent_at m'.ends j ≡ parent_at m.ends j) → Posts c t m pairs → Posts c t m' pairs
posts_keep c t m m' pairs same h = record {
  above = h.above;
  allowed = h.allowed;
  sent = λ j mine. subst (λ l. AreJobs l (jobs_to (suc j) pairs)) (sym (ap sent_by (same j mine))) (h.sent j mine);
  got = λ j mine. subst (λ l. AreReplies l (replies_to (suc j) pairs)) (sym (ap got_by (same j mine))) (h.got j mine);
}

pub done_keeps : (c : PlainCode) (h : Thread) (m m' : Mail) (jobs : List Job) → ((j : ℕ) → IsBranchOf c.shape h.number j → parent_at m'.ends j ≡ parent_at m.ends j) → HasDone c h m jobs → HasDone c h m' jobs
done_keeps c h m m' jobs same d = did_for c h jobs d (λ pairs posts. posts_keep c h.number m m' pairs same posts)

-- ---- a thread and its mailbox

-- what went through the child's end stays, and where the thread rests it still does
pub record SameChild (k : ℕ) (a b : Mail) : Type 0 where
  pub taken : taken b k ≡ taken a k
  pub answered : answered b k ≡ answered a k
  pub rests : ChildIs a k false → ChildIs b k false

pub same_child : (k : ℕ) (a b : Mail) → child_at b.ends k ≡ child_at a.ends k → SameChild k a b
same_child k a b e = record { taken = ap taken_by e; answered = ap answered_by e; rests = subst (λ (o : Option (Taker PlainPacket)). IsChild o false) (sym e) }

pub record SameThread (k : ℕ) (a b : SchedulerState) : Type 0 where
  pub code : b.code ≡ a.code
  pub seat : slice_get b.seats (suc k) ≡ slice_get a.seats (suc k)
  pub child : SameChild k a.mail b.mail
  pub branches : (j : ℕ) → IsBranchOf (code_in a).shape (suc k) j → parent_at b.mail.ends j ≡ parent_at a.mail.ends j

pub record SameParent (k : ℕ) (a b : SchedulerState) : Type 0 where
  pub parent : parent_at b.mail.ends k ≡ parent_at a.mail.ends k
  pub hand : slice_get b.hands k ≡ slice_get a.hands k
  pub blanks : b.mail.blanks ≡ a.mail.blanks

pub idle_keeps : (k : ℕ) (a b : SchedulerState) → SameThread k a b → Idle a k → Idle b k
idle_keeps k a b s i =
    let same_taken = s.child.taken in
    let number = i.sits.number in
    record {
      thread = i.thread;
      sits = record {
        seat = i.sits.seat;
        at = s.seat ∙ i.sits.at;
        is = i.sits.is;
        loaded = subst (λ x. Loaded (plain_code x) i.thread) (sym s.code) i.sits.loaded;
        number = number;
      };
      free = i.free;
      resting = i.resting;
      child = s.child.rests i.child;
      jobs = i.jobs;
      are = subst (λ l. AreJobs l i.jobs) (sym same_taken) i.are;
      done = subst (λ x. HasDone (plain_code x) i.thread b.mail i.jobs) (sym s.code)
          (done_keeps (code_in a) i.thread a.mail b.mail i.jobs (λ j mine. s.branches j (subst (λ n. IsBranchOf (code_in a).shape n j) number mine)) i.done);
      last = subst (λ x. LastReply (plain_code x) k (taken b.mail k) i.thread) (sym s.code) (subst (λ l. LastReply (code_in a) k l i.thread) (sym same_taken) i.last);
      even = ap length s.child.answered ∙ i.even ∙ ap length (sym same_taken);
    }

ready_keeps : (k : ℕ) (a b : SchedulerState) → b.code ≡ a.code → SameParent k a b → (h : Option Packet) → IsPacketOfParent a k h → IsPacketOfParent b k h
ready_keeps k a b code s h (blank fresh q at room) =
    blank (subst (λ (o : Option (Sender PlainPacket)). IsParent o Fresh) (sym s.parent) fresh) q (ap (λ l. slice_get l k) s.blanks ∙ at)
    (subst (λ x. HasRoom (of_shape (plain_code x).shape) (suc k) q) (sym code) room)
ready_keeps k a b code s h (reply held p room) =
    reply (subst (λ (o : Option (Sender PlainPacket)). IsParent o Held) (sym s.parent) held) p
    (subst (λ x. HasRoom (of_shape (plain_code x).shape) (suc k) (plain_packet p)) (sym code) room)

pub packet_keeps : (k : ℕ) (a b : SchedulerState) → b.code ≡ a.code → SameParent k a b → HasPacket a k → HasPacket b k
packet_keeps k a b code s h = record { hand = h.hand; at = s.hand ∙ h.at; ready = ready_keeps k a b code s h.hand h.ready }

pub quiet_keeps : (k : ℕ) (a b : SchedulerState) → SameThread k a b → SameParent k a b → Quiet a k → Quiet b k
quiet_keeps k a b s t q = record {
  idle = idle_keeps k a b s q.idle;
  all = s.child.taken ∙ q.all ∙ sym (ap sent_by t.parent);
  packet = packet_keeps k a b s.code t q.packet;
}

-- ---- changes of one parent's end

module _ (a b : SchedulerState) (k : ℕ) (moves : ChangesPacket k a b) where
  moved_thread : (j : ℕ) → (IsBranchOf (code_in a).shape (suc j) k → ⊥) → SameThread j a b
  moved_thread j other = record {
    code = moves.code;
    seat = ap (λ l. slice_get l (suc j)) moves.seats;
    child = same_child j a.mail b.mail (moves.children j);
    branches = λ i mine. moves.parents i (λ e. other (subst (λ n. IsBranchOf (code_in a).shape (suc j) n) e mine));
  }

  moved_parent : (j : ℕ) → j ≢ k → SameParent j a b
  moved_parent j n = record { parent = moves.parents j n; hand = moves.hands j n; blanks = moves.alike.blanks }

  pub moved_idle : (j : ℕ) → (IsBranchOf (code_in a).shape (suc j) k → ⊥) → Idle a j → Idle b j
  moved_idle j other i = idle_keeps j a b (moved_thread j other) i

  pub moved_quiet : (j : ℕ) → j ≢ k → (IsBranchOf (code_in a).shape (suc j) k → ⊥) → Quiet a j → Quiet b j
  moved_quiet j n other q = quiet_keeps j a b (moved_thread j other) (moved_parent j n) q

  pub moved_grown : Extends (sent a.mail k) (sent b.mail k) → Extends (got a.mail k) (got b.mail k) → Grown a.mail b.mail
  moved_grown s g = record {
    sent = λ j. by_test j (λ n. extends_same (sent a.mail j) (sent b.mail j) (ap sent_by (moves.parents j n))) (λ e. subst (λ n. Extends (sent a.mail n) (sent b.mail n)) (sym e) s);
    got = λ j. by_test j (λ n. extends_same (got a.mail j) (got b.mail j) (ap got_by (moves.parents j n))) (λ e. subst (λ n. Extends (got a.mail n) (got b.mail n)) (sym e) g);
    taken = λ j. extends_same (taken a.mail j) (taken b.mail j) (ap taken_by (moves.children j));
    answered = λ j. extends_same (answered a.mail j) (answered b.mail j) (ap answered_by (moves.children j));
    looked_by_parent = λ j.
        by_test j (λ n. extends_same (looked_by_parent a.mail j) (looked_by_parent b.mail j) (ap words_of_parent (moves.parents j n)))
        (λ e. subst (λ n. Extends (looked_by_parent a.mail n) (looked_by_parent b.mail n)) (sym e) moves.looked);
    looked_by_child = λ j. extends_same (looked_by_child a.mail j) (looked_by_child b.mail j) (ap words_of_child (moves.children j));
    stops = moves.alike.stops;
  }
    where
      by_test : (j : ℕ) {A : Type 0} → (j ≢ k → A) → (j ≡ k → A) → A
      by_test j f g = by_equal j k f g

  pub moved_leaves : (p t u : ℕ) → IsBranchOf (code_in a).shape p k → t ≤ p → Grown a.mail b.mail → KeepsBelow t u a b
  moved_leaves p t u mine le grown = record {
    code = moves.code;
    places = moves.places;
    alike = moves.alike;
    grown = grown;
    seats = λ j lt. ap (λ l. slice_get l j) moves.seats;
    seat_count = ap length moves.seats;
    hands = λ j q other lt. moves.hands j (apart j q other lt);
    hand_count = moves.hand_count;
    parents = λ j q other lt. moves.parents j (apart j q other lt);
    children = λ j lt. moves.children j;
  }
    where
      apart : (j q : ℕ) → IsBranchOf (code_in a).shape q j → q < t → j ≢ k
      apart j q other lt e =
          let same = parent_once (code_in a) q p k (subst (IsBranchOf (code_in a).shape q) e other) mine in omega (arith, same, lt, le)

-- ---- changes above a thread

pub grown_then : (a b c : Mail) → Grown a b → Grown b c → Grown a c
grown_then a b c h g = record {
  sent = λ k. extends_then _ _ _ (h.sent k) (g.sent k);
  got = λ k. extends_then _ _ _ (h.got k) (g.got k);
  taken = λ k. extends_then _ _ _ (h.taken k) (g.taken k);
  answered = λ k. extends_then _ _ _ (h.answered k) (g.answered k);
  looked_by_parent = λ k. extends_then _ _ _ (h.looked_by_parent k) (g.looked_by_parent k);
  looked_by_child = λ k. extends_then _ _ _ (h.looked_by_child k) (g.looked_by_child k);
  stops = extends_then _ _ _ h.stops g.stops;
}

pub grown_same : (a : Mail) → Grown a a
grown_same a = record {
  sent = λ k. extends_same _ _ refl;
  got = λ k. extends_same _ _ refl;
  taken = λ k. extends_same _ _ refl;
  answered = λ k. extends_same _ _ refl;
  looked_by_parent = λ k. extends_same _ _ refl;
  looked_by_child = λ k. extends_same _ _ refl;
  stops = extends_same _ _ refl;
}

pub leaves_same : (t u : ℕ) (a : SchedulerState) → KeepsBelow t u a a
leaves_same t u a = record {
  code = refl;
  places = refl;
  alike = alike_same a.mail;
  grown = grown_same a.mail;
  seats = λ j lt. refl;
  seat_count = refl;
  hands = λ k p mine lt. refl;
  hand_count = refl;
  parents = λ k p mine lt. refl;
  children = λ k lt. refl;
}

pub leaves_then : (t u : ℕ) (a b c : SchedulerState) → KeepsBelow t u a b → KeepsBelow t u b c → KeepsBelow t u a c
leaves_then t u a b c h g = record {
  code = g.code ∙ h.code;
  places = g.places ∙ h.places;
  alike = alike_then a.mail b.mail c.mail h.alike g.alike;
  grown = grown_then a.mail b.mail c.mail h.grown g.grown;
  seats = λ j lt. g.seats j lt ∙ h.seats j lt;
  seat_count = g.seat_count ∙ h.seat_count;
  hands = λ k p mine lt. g.hands k p (subst (λ x. IsBranchOf (plain_code x).shape p k) (sym h.code) mine) lt ∙ h.hands k p mine lt;
  hand_count = g.hand_count ∙ h.hand_count;
  parents = λ k p mine lt. g.parents k p (subst (λ x. IsBranchOf (plain_code x).shape p k) (sym h.code) mine) lt ∙ h.parents k p mine lt;
  children = λ k lt. g.children k lt ∙ h.children k lt;
}

pub leaves_less : (t u t' u' : ℕ) (a b : SchedulerState) → t' ≤ t → u' ≤ u → KeepsBelow t u a b → KeepsBelow t' u' a b
leaves_less t u t' u' a b le le' h = record {
  code = h.code;
  places = h.places;
  alike = h.alike;
  grown = h.grown;
  seats = λ j lt. h.seats j (omega (arith, lt, le));
  seat_count = h.seat_count;
  hands = λ k p mine lt. h.hands k p mine (omega (arith, lt, le));
  hand_count = h.hand_count;
  parents = λ k p mine lt. h.parents k p mine (omega (arith, lt, le));
  children = λ k lt. h.children k (omega (arith, lt, le'));
}

pub seated_by : (a b : SchedulerState) → b.code ≡ a.code → b.places ≡ a.places → KeepsPort a.mail b.mail → length b.seats ≡ length a.seats → length b.hands ≡ length a.hands → IsSeated a → IsSeated b
seated_by a b code places alike seats hands f =
    let count = ap (λ x. length (plain_code x).threads) code in
    record {
      valid = subst (λ x. IsValidCode (plain_code x)) (sym code) f.valid;
      work = ap (λ w. w.code.value) alike.work ∙ f.work ∙ sym code;
      mailboxes = ap suc alike.count ∙ f.mailboxes ∙ sym count;
      seats = seats ∙ f.seats ∙ sym count;
      hands = ap suc hands ∙ f.hands ∙ sym count;
      places = ap length places ∙ f.places ∙ sym count;
    }

pub seated_keeps : (t u : ℕ) (a b : SchedulerState) → KeepsBelow t u a b → IsSeated a → IsSeated b
seated_keeps t u a b h f = seated_by a b h.code h.places h.alike h.seat_count h.hand_count f

pub moved_seated : (a b : SchedulerState) (k : ℕ) → ChangesPacket k a b → IsSeated a → IsSeated b
moved_seated a b k h f = seated_by a b h.code h.places h.alike (ap length h.seats) h.hand_count f

pub fitted_keeps : (t u : ℕ) (a b : SchedulerState) → KeepsBelow t u a b → IsFitted a → IsFitted b
fitted_keeps t u a b h f = record { seated = seated_keeps t u a b h f.seated; tells = h.alike.tells ∙ f.tells }

-- a mailbox below the change stays quiet
pub quiet_below : (a b : SchedulerState) (m j : ℕ) → IsSeated a → KeepsBelow (suc m) m a b → j < m → suc j < length (code_in a).threads → Quiet a j → Quiet b j
quiet_below a b m j f h lt inside q =
    let up = has_parent (code_in a) f.valid j inside in
    let low = branch_above (code_in a) f.valid up.0 j inside up.1 in
    quiet_keeps j a b
    (record { code = h.code; seat = h.seats (suc j) (omega (arith, lt)); child = same_child j a.mail b.mail (h.children j lt); branches = λ i mine. h.parents i (suc j) mine (omega (arith, lt)) })
    (record { parent = h.parents j up.0 up.1 (omega (arith, low, lt)); hand = h.hands j up.0 up.1 (omega (arith, low, lt)); blanks = h.alike.blanks })
    q
