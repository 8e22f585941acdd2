-- Mailboxes are served, one after the other.
use Rattle.std.proofs.Common.{◌≡◌, ◌≢◌, ℕ, zero, suc, ◌+◌, ◌<◌, Bool, true, false, Option, Some, None, List, [], ◌∷◌, ◌++◌, length, take, refl, sym, ap, ◌∙◌, subst, append_assoc, arith}
use Rattle.std.specs.Prelude.{slice_get, slice_index_or, drop, IfSome}
use Rattle.std.specs.Option.{is_some}
use Rattle.std.proofs.lemmas.Option.{get_or_from_slice_get}
use Rattle.forec_kernel.specs.Packets.{PlainPacket}
use Rattle.forec_kernel.specs.Shapes.{PlainShape}
use Rattle.thread_code.specs.Plain.{plain_code}
use Rattle.combine_tree.specs.declared.packet.Packet.{Packet}
use Rattle.copy_slots.specs.declared.view.Taker.{Taker}
use Rattle.copy_slots.specs.Ports.{child_at, answered_by, words_of_parent, words_of_child, IsChild, ChildIs, taken, answered, looked_by_child, looked_by_parent}
use Rattle.core_seats.specs.declared.seat.Seat.{Seat}
use Rattle.core_seats.specs.Posts.{Mail}
use Rattle.tick_jobs.specs.Branches.{IsBranchOf}
use Rattle.core_seats.specs.Changes.{Extends, Looked, Grown, IsIdle}
use Rattle.core_seats.specs.Keeping.{SchedulerState, code_in, KeepsPort, IsSeated, Quiet}
use Rattle.core_seats.specs.Waiting.{HasChild, IsAtRest, WaitsAt, RestsOrWaits, IsVacant, rests, waits}
use Rattle.core_seats.specs.Serving.{Touches, OnlyLooks, HasMissed, AllMissed, KeepsOthers, KeepsServing}
use Rattle.core_seats.proofs.Mails.{alike_same, alike_then, extends_same}
use Rattle.tick_jobs.proofs.Lists.{by_equal, some_once}
use Rattle.core_seats.proofs.KeepingLemmas.{grown_same, grown_then, seated_by, same_child, quiet_keeps}
use Rattle.core_seats.proofs.WaitingLemmas.{between_keeps, between_still}
use Rattle.core_seats.proofs.Seats.{vacant_by, not_vacant}

-- ---- a thread at rest has no job in its hand, and one that waits has

module _ (s : SchedulerState) (m : ℕ) (x : Seat) (read : x ≡ slice_index_or s.seats (m + 1) x) where
  one : m + 1 ≡ suc m
  one = omega arith

  seat_of : (y : Seat) → slice_get s.seats (suc m) ≡ Some y → x ≡ y
  seat_of y at = read ∙ get_or_from_slice_get s.seats (m + 1) y x (ap (λ n. slice_get s.seats n) one ∙ at)

  no_job : (j : Option Packet) → j ≡ None → is_some j ≡ true → ⊥
  no_job None e t = cc
  no_job (Some p) e t = cc

  a_job : (j : Option Packet) (p : Packet) → j ≡ Some p → is_some j ≡ false → ⊥
  a_job None p e t = cc
  a_job (Some q) p e t = cc

  pub it_waits : RestsOrWaits s m → is_some x.job ≡ true → WaitsAt s m
  it_waits (waits w) t = w
  it_waits (rests r) t = absurd (no_job x.job (ap (λ (z : Seat). z.job) (seat_of r.idle.sits.seat r.idle.sits.at) ∙ r.idle.free) t)

  pub it_rests : RestsOrWaits s m → is_some x.job ≡ false → IsAtRest s m
  it_rests (rests r) t = r
  it_rests (waits w) t = absurd (a_job x.job w.packet (ap (λ (z : Seat). z.job) (seat_of w.sits.seat w.sits.at) ∙ w.holds) t)

-- ---- where nothing is under way

pub both_held : (o : Option (Taker PlainPacket)) → IsChild o false → IsChild o true → ⊥
both_held None e f = e
both_held (Some z) e f = never z.holds e f
  where
    never : (b : Bool) → b ≡ false → b ≡ true → ⊥
    never b e f = let g = sym e ∙ f in cc

pub quiet_waits : (s : SchedulerState) (m : ℕ) → Quiet s m → WaitsAt s m → ⊥
quiet_waits s m q w =
    let n = w.waiting.work.number in
    let k = w.sits.number in
    let at : w.waiting.work.mailbox ≡ m = omega (arith, n, k) in
    both_held (child_at s.mail.ends m) q.idle.child (subst (λ i. ChildIs s.mail i true) at w.waiting.work.child)

pub quiet_looks : (k : ℕ) (a b : SchedulerState) → OnlyLooks k a b → (j : ℕ) → Quiet a j → Quiet b j
quiet_looks k a b l j q =
    quiet_keeps j a b
    (record {
      code = l.code;
      seat = ap (λ z. slice_get z (suc j)) l.seats;
      child = by_equal j k (λ n. same_child j a.mail b.mail (l.children j n))
          (λ e. record { taken = subst (λ i. taken b.mail i ≡ taken a.mail i) (sym e) l.taken; answered = subst (λ i. answered b.mail i ≡ answered a.mail i) (sym e) l.answered; rests = subst (λ i. ChildIs a.mail i false → ChildIs b.mail i false) (sym e) l.child });
      branches = λ i mine. l.parents i;
    })
    (record { parent = l.parents j; hand = ap (λ z. slice_get z j) l.hands; blanks = l.alike.blanks })
    q

-- ---- one mailbox

pub between_child : (s : SchedulerState) (k : ℕ) → RestsOrWaits s k → HasChild s.mail k
between_child s k (rests r) = (false, r.idle.child)
between_child s k (waits w) =
    let n = w.waiting.work.number in
    let t = w.sits.number in
    let at : w.waiting.work.mailbox ≡ k = omega (arith, n, t) in (true, subst (λ i. ChildIs s.mail i true) at w.waiting.work.child)

pub child_keeps : (a b : Mail) (j : ℕ) → child_at b.ends j ≡ child_at a.ends j → HasChild a j → HasChild b j
child_keeps a b j e h = (h.0, subst (λ (o : Option (Taker PlainPacket)). IsChild o h.0) (sym e) h.1)

pub keeps_one : (k : ℕ) (a b : SchedulerState) → IsSeated a → k < length a.mail.ends → RestsOrWaits a k → Touches k a b → RestsOrWaits b k → (a.mail.tells ≡ true → Quiet a k → OnlyLooks k a b) → KeepsServing a b
keeps_one k a b seated inside before t after looks = record {
  others = record {
    code = t.code;
    places = t.places;
    alike = t.alike;
    grown = t.grown;
    seat = t.seats 0 (λ e. omega (arith, e));
    seat_count = t.seat_count;
    hand_count = t.hand_count;
    here = λ j h. by_equal j k (λ n. child_keeps a.mail b.mail j (t.children j n) h) (λ e. subst (HasChild b.mail) (sym e) (between_child b k after));
    was_here = λ j h. by_equal j k (λ n. child_keeps b.mail a.mail j (sym (t.children j n)) h) (λ e. subst (HasChild a.mail) (sym e) (between_child a k before));
    between = λ j h. by_equal j k (λ n. between_still a b k t j n h) (λ e. subst (RestsOrWaits b) (sym e) after);
    vacant = λ j v. by_equal j k (λ n. vacant_by a b (suc j) (t.seats (suc j) (λ e. n (omega (arith, e)))) v) (λ e. absurd (not_vacant a k before (subst (λ i. IsVacant a (suc i)) e v)));
  };
  root = λ j mine. t.parents j (not_root j mine);
  hands = λ j mine. t.hands j (not_root j mine);
  quiet = λ tells quiet j lt. quiet_looks k a b (looks tells (quiet k inside)) j (quiet j lt);
}
  where
    not_root : (j : ℕ) → IsBranchOf (code_in a).shape 0 j → IsBranchOf (code_in a).shape (suc k) j → ⊥
    not_root j mine is = let e = some_once 0 (suc k) (sym mine ∙ is) in absurd (omega (arith, e))

pub others_same : (a : SchedulerState) → KeepsOthers a a
others_same a = record {
  code = refl;
  places = refl;
  alike = alike_same a.mail;
  grown = grown_same a.mail;
  seat = refl;
  seat_count = refl;
  hand_count = refl;
  here = λ j h. h;
  was_here = λ j h. h;
  between = λ j h. h;
  vacant = λ j v. v;
}

pub keeps_same : (a : SchedulerState) → KeepsServing a a
keeps_same a = record { others = others_same a; root = λ j mine. refl; hands = λ j mine. refl; quiet = λ tells quiet. quiet }

-- a port that stores, or has loaded, a stop word
module _ (s : SchedulerState) (stored : Bool) (stops : List ℕ) (more : Extends s.mail.stops stops) where
  abbrev watched : SchedulerState
  watched = record s { mail = record s.mail { stored = stored; stops = stops } }

  watched_alike : KeepsPort s.mail watched.mail
  watched_alike = record { work = refl; blanks = refl; tells = refl; root = refl; count = refl; stops = more }

  pub keeps_watch : KeepsServing s watched
  keeps_watch = record {
    others = record {
      code = refl;
      places = refl;
      alike = watched_alike;
      grown = record {
        sent = λ k. extends_same _ _ refl;
        got = λ k. extends_same _ _ refl;
        taken = λ k. extends_same _ _ refl;
        answered = λ k. extends_same _ _ refl;
        looked_by_parent = λ k. extends_same _ _ refl;
        looked_by_child = λ k. extends_same _ _ refl;
        stops = more;
      };
      seat = refl;
      seat_count = refl;
      hand_count = refl;
      here = λ j h. h;
      was_here = λ j h. h;
      between = λ j h. between_keeps s watched refl refl watched_alike j refl refl (λ i mine. refl) (λ i mine. refl) h;
      vacant = λ j v. vacant_by s watched (suc j) refl v;
    };
    root = λ j mine. refl;
    hands = λ j mine. refl;
    quiet = λ tells q j lt. quiet_keeps j s watched (record { code = refl; seat = refl; child = same_child j s.mail watched.mail refl; branches = λ i mine. refl }) (record { parent = refl; hand = refl; blanks = refl }) (q j lt);
  }

pub others_then : (a b c : SchedulerState) → KeepsOthers a b → KeepsOthers b c → KeepsOthers a c
others_then a b c h g = record {
  code = g.code ∙ h.code;
  places = g.places ∙ h.places;
  alike = alike_then a.mail b.mail c.mail h.alike g.alike;
  grown = grown_then a.mail b.mail c.mail h.grown g.grown;
  seat = g.seat ∙ h.seat;
  seat_count = g.seat_count ∙ h.seat_count;
  hand_count = g.hand_count ∙ h.hand_count;
  here = λ j x. g.here j (h.here j x);
  was_here = λ j x. h.was_here j (g.was_here j x);
  between = λ j x. g.between j (h.between j x);
  vacant = λ j v. g.vacant j (h.vacant j v);
}

pub keeps_then : (a b c : SchedulerState) → KeepsServing a b → KeepsServing b c → KeepsServing a c
keeps_then a b c h g = record {
  others = others_then a b c h.others g.others;
  root = λ j mine. g.root j (subst (λ x. IsBranchOf (plain_code x).shape 0 j) (sym h.code) mine) ∙ h.root j mine;
  hands = λ j mine. g.hands j (subst (λ x. IsBranchOf (plain_code x).shape 0 j) (sym h.code) mine) ∙ h.hands j mine;
  quiet = λ tells quiet j lt.
      let count = h.alike.count in
      g.quiet (h.alike.tells ∙ tells) (λ i less. h.quiet tells quiet i (omega (arith, less, count))) j (omega (arith, lt, count));
}

pub others_seated : (a b : SchedulerState) → KeepsOthers a b → IsSeated a → IsSeated b
others_seated a b k seated = seated_by a b k.code k.places k.alike k.seat_count k.hand_count seated

pub keeps_seated : (a b : SchedulerState) → KeepsServing a b → IsSeated a → IsSeated b
keeps_seated a b h = others_seated a b h.others

-- ---- nothing to do

pub idle_from : (s : PlainShape) (a b c : Mail) (k : ℕ) → Grown a b → IsIdle s b c k → IsIdle s a c k
idle_from s a b c k grown i = record {
  rests = λ rest. looked_from (looked_by_child a k) (looked_by_child b k) (looked_by_child c k) 0 (grown.looked_by_child k) (i.rests rest);
  forked = λ holds.
      let w = i.forked holds in
      record { branch = w.branch; is = w.is; looked = looked_from (looked_by_parent a w.branch) (looked_by_parent b w.branch) (looked_by_parent c w.branch) 1 (grown.looked_by_parent w.branch) w.looked };
}
  where
    looked_from : (l m n : List ℕ) (w : ℕ) → Extends l m → Looked w m n → Looked w l n
    looked_from l m n w e h = record { words = e.more ++ h.words; is = h.is ∙ ap (λ z. (z ++ h.words) ++ w ∷ []) e.is ∙ ap (λ z. z ++ w ∷ []) (append_assoc l e.more h.words) }

idle_else : (before : Mail) (k j : ℕ) (a b : SchedulerState) → Touches k a b → j ≢ k → IsIdle (code_in a).shape before a.mail j → IsIdle (code_in a).shape before b.mail j
idle_else before k j a b t other i = record {
  rests = λ rest. subst (λ l. Looked 0 (looked_by_child before j) l) (sym (ap words_of_child same)) (i.rests (subst (λ (o : Option (Taker PlainPacket)). IsChild o false) same rest));
  forked = λ holds.
      let w = i.forked (subst (λ (o : Option (Taker PlainPacket)). IsChild o true) same holds) in
      record {
        branch = w.branch;
        is = w.is;
        looked = subst (λ l. Looked 1 (looked_by_parent before w.branch) l) (sym (ap words_of_parent (t.parents w.branch (λ mine. apart (some_once (suc j) (suc k) (sym w.is ∙ mine)))))) w.looked;
      };
}
  where
    same : child_at b.mail.ends j ≡ child_at a.mail.ends j
    same = t.children j other

    apart : suc j ≡ suc k → ⊥
    apart e = other (omega (arith, e))

pub missed_one : (k : ℕ) (a b : SchedulerState) → Touches k a b → HasMissed k a b → AllMissed a b
missed_one k a b t m = record {
  answered = λ j. by_equal j k (λ n. ap answered_by (t.children j n)) (λ e. subst (λ i. answered b.mail i ≡ answered a.mail i) (sym e) m.answered);
  still = λ before j grown idle. by_equal j k (λ n. idle_else before k j a b t n idle) (λ e. subst (IsIdle (code_in a).shape before b.mail) (sym e) (idle_from (code_in a).shape before a.mail b.mail k grown m.idle));
}

pub missed_same : (a : SchedulerState) → AllMissed a a
missed_same a = record { answered = λ k. refl; still = λ before k grown idle. idle }

pub missed_then : (a b c : SchedulerState) → b.code ≡ a.code → Grown a.mail b.mail → AllMissed a b → AllMissed b c → AllMissed a c
missed_then a b c code grown h g = record {
  answered = λ k. g.answered k ∙ h.answered k;
  still = λ before k old idle.
      subst (λ x. IsIdle (plain_code x).shape before c.mail k) code
      (g.still before k (grown_then before a.mail b.mail old grown) (subst (λ x. IsIdle (plain_code x).shape before b.mail k) (sym code) (h.still before k old idle)));
}

-- ---- the first mailboxes

pub record HasMissedFirst (a b : SchedulerState) (mailboxes : List ℕ) (n : ℕ) : Type 0 where
  pub keeps : KeepsServing a b
  pub missed : AllMissed a b
  pub idle : (i k : ℕ) → i < n → slice_get mailboxes i ≡ Some k → IsIdle (code_in a).shape a.mail b.mail k

pub missed_none : (a : SchedulerState) (mailboxes : List ℕ) → HasMissedFirst a a mailboxes 0
missed_none a mailboxes = record { keeps = keeps_same a; missed = missed_same a; idle = λ i k lt at. absurd (omega (arith, lt)) }

pub missed_more : (a b c : SchedulerState) (mailboxes : List ℕ) (n k : ℕ) → IsSeated a → k < length a.mail.ends → HasMissedFirst a b mailboxes n → slice_get mailboxes n ≡ Some k → RestsOrWaits b k → Touches k b c → RestsOrWaits c k →
    (b.mail.tells ≡ true → Quiet b k → OnlyLooks k b c) → HasMissed k b c → HasMissedFirst a c mailboxes (suc n)
missed_more a b c mailboxes n k seated inside done at before t after looks m =
    let one = missed_one k b c t m in
    let count = done.keeps.alike.count in
    let keeps = keeps_one k b c (keeps_seated a b done.keeps seated) (omega (arith, inside, count)) before t after looks in
    record {
      keeps = keeps_then a b c done.keeps keeps;
      missed = missed_then a b c done.keeps.code done.keeps.grown done.missed one;
      idle = λ i j lt there.
          by_equal i n
          (λ other.
          subst (λ x. IsIdle (plain_code x).shape a.mail c.mail j) done.keeps.code
          (one.still a.mail j done.keeps.grown (subst (λ x. IsIdle (plain_code x).shape a.mail b.mail j) (sym done.keeps.code) (done.idle i j (omega (arith, lt, other)) there))))
          (λ e. let same : k ≡ j = some_once k j (sym at ∙ ap (λ z. slice_get mailboxes z) (sym e) ∙ there) in
          subst (IsIdle (code_in a).shape a.mail c.mail) same
          (idle_from (code_in a).shape a.mail b.mail c.mail k done.keeps.grown (subst (λ x. IsIdle (plain_code x).shape b.mail c.mail k) done.keeps.code m.idle)));
    }

-- ---- a list in two parts

pub got_behind : (l : List ℕ) (n i k : ℕ) → slice_get (drop n l) i ≡ Some k → slice_get l (n + i) ≡ Some k
got_behind [] n i k e = absurd (none n i e)
  where
    none : (n i : ℕ) → slice_get (drop n []) i ≡ Some k → ⊥
    none zero zero e = cc
    none zero (suc i) e = cc
    none (suc n) zero e = cc
    none (suc n) (suc i) e = cc
got_behind (x ∷ l) zero i k e = let z : 0 + i ≡ i = omega arith in ap (λ j. slice_get (x ∷ l) j) z ∙ e
got_behind (x ∷ l) (suc n) i k e = let z : suc n + i ≡ suc (n + i) = omega arith in ap (λ j. slice_get (x ∷ l) j) z ∙ got_behind l n i k e

pub got_front : (l : List ℕ) (n i k : ℕ) → slice_get (take n l) i ≡ Some k → slice_get l i ≡ Some k
got_front [] zero i k e = e
got_front [] (suc n) i k e = e
got_front (x ∷ l) zero zero k e = cc
got_front (x ∷ l) zero (suc i) k e = cc
got_front (x ∷ l) (suc n) zero k e = e
got_front (x ∷ l) (suc n) (suc i) k e = got_front l n i k e

pub get_behind : (l : List ℕ) (n i k : ℕ) → slice_get l (n + i) ≡ Some k → slice_get (drop n l) i ≡ Some k
get_behind [] n i k e = absurd (none (n + i) e)
  where
    none : (j : ℕ) → slice_get [] j ≡ Some k → ⊥
    none zero e = cc
    none (suc j) e = cc
get_behind (x ∷ l) zero i k e = let z : 0 + i ≡ i = omega arith in ap (λ j. slice_get (x ∷ l) j) (sym z) ∙ e
get_behind (x ∷ l) (suc n) i k e = let z : suc n + i ≡ suc (n + i) = omega arith in get_behind l n i k (ap (λ j. slice_get (x ∷ l) j) (sym z) ∙ e)

pub get_front : (l : List ℕ) (n i k : ℕ) → i < n → slice_get l i ≡ Some k → slice_get (take n l) i ≡ Some k
get_front [] zero i k lt e = e
get_front [] (suc n) i k lt e = e
get_front (x ∷ l) zero i k lt e = absurd (omega (arith, lt))
get_front (x ∷ l) (suc n) zero k lt e = e
get_front (x ∷ l) (suc n) (suc i) k lt e = get_front l n i k (omega (arith, lt)) e

pub some_both : (o : Option ℕ) {P Q R : ℕ → Type 0} → ((i : ℕ) → P i → Q i → R i) → IfSome o P → IfSome o Q → IfSome o R
some_both None f p q = tt
some_both (Some x) f p q = f x p q
