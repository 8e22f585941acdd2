-- A thread is served together with the threads that it forks: what stays.
use Rattle.std.proofs.Common.{◌≡◌, ℕ, suc, ◌<◌, ◌≤◌, true, false, Some, List, [], ◌∷◌, length, refl, sym, ap, ◌∙◌, subst, ⊎_elim, arith}
use Rattle.std.specs.Prelude.{slice_get}
use Rattle.std.proofs.lemmas.Bool.{cases_lt}
use Rattle.std.proofs.lemmas.List.{length-append}
use Rattle.forec_kernel.specs.Packed.{HasRoom}
use Rattle.forec_kernel.specs.Engine.{Answered}
use Rattle.thread_code.specs.declared.instruction.CodeParts.{CodeParts}
use Rattle.thread_code.specs.Plain.{PlainCode, plain_code}
use Rattle.thread_code.specs.Valid.{of_shape}
use Rattle.combine_tree.specs.Plain.{plain_packet}
use Rattle.core_machine.specs.declared.thread.Thread.{Thread}
use Rattle.core_machine.specs.Threads.{Loaded, HasReply}
use Rattle.core_machine.specs.Forks.{jobs_at}
use Rattle.copy_slots.specs.Ports.{answered, ChildIs}
use Rattle.core_seats.specs.declared.active.Active.{Active}
use Rattle.core_seats.specs.declared.round.Round.{Round}
use Rattle.core_seats.specs.Posts.{Mail}
use Rattle.tick_jobs.specs.Branches.{IsBranchOf}
use Rattle.core_seats.specs.Changes.{Grown, GainsOne, HasProgressed, answered_more}
use Rattle.core_seats.specs.Descending.{Descends, IsActive, IsRunning, HasFinished, IsHeld, KeepsRound}
use Rattle.core_seats.specs.Keeping.{SchedulerState, code_in, IsSeated, KeepsBelow, Quiet}
use Rattle.core_seats.specs.Rounds.{IsSameRound}
use Rattle.core_seats.specs.Serving.{Touches, OnlyLooks, KeepsOthers, KeepsServing}
use Rattle.core_seats.specs.Waiting.{HasChild, IsFor, IsForked, IsGathering, IsAtWork, IsWorking, IsWaiting, RestsOrWaits, IsVacant, CanDescend}
use Rattle.tick_jobs.proofs.Lists.{by_equal, at_map}
use Rattle.core_seats.proofs.KeepingLemmas.{leaves_same, leaves_then, leaves_less, seated_keeps}
use Rattle.tick_jobs.proofs.Branching.{parent_once}
use Rattle.core_seats.proofs.OneMoreExchange.{changed, changed_is}
use Rattle.core_seats.proofs.WaitingLemmas.{gathering_keeps, between_keeps, between_still}
use Rattle.core_seats.proofs.Seats.{vacant_by, not_vacant, can_keep}
use Rattle.core_seats.proofs.ServingLemmas.{between_child, child_keeps, quiet_looks}
use Rattle.core_seats.proofs.Sweeping.{progress_from}
use Rattle.core_seats.proofs.RoundLemmas.{rope_same, rope_then, round_moved}

pub never : {A : Type 0} → true ≡ false → A
never e = absurd (apart e)
  where
    apart : true ≡ false → ⊥
    apart e = cc

-- ---- what stays

pub descends_same : (t from : ℕ) (a : SchedulerState) → Descends t from a a
descends_same t from a = record { leaves = leaves_same (suc t) t a; here = λ j h. h; was_here = λ j h. h; between = λ j le b. b; vacant = λ j le v. v }

pub descends_then : (t from : ℕ) (a b c : SchedulerState) → Descends t from a b → Descends t from b c → Descends t from a c
descends_then t from a b c h g = record {
  leaves = leaves_then (suc t) t a b c h.leaves g.leaves;
  here = λ j x. g.here j (h.here j x);
  was_here = λ j x. h.was_here j (g.was_here j x);
  between = λ j le x. g.between j le (h.between j le x);
  vacant = λ j le x. g.vacant j le (h.vacant j le x);
}

-- served above m, a lower thread's others stay, too
pub descends_less : (m t from : ℕ) (a b : SchedulerState) → t ≤ m → Descends m m a b → Descends t from a b
descends_less m t from a b le d = record {
  leaves = leaves_less (suc m) m (suc t) t a b (omega (arith, le)) le d.leaves;
  here = d.here;
  was_here = d.was_here;
  between = λ j low x.
      ⊎_elim
      (λ lt.
      between_keeps a b d.leaves.code d.leaves.places d.leaves.alike j (d.leaves.seats (suc j) (omega (arith, lt))) (d.leaves.children j lt) (λ i mine. d.leaves.parents i (suc j) mine (omega (arith, lt)))
      (λ i mine. d.leaves.hands i (suc j) mine (omega (arith, lt))) x)
      (λ ge. d.between j ge x) (cases_lt j m);
  vacant = λ j low x. ⊎_elim (λ lt. vacant_by a b (suc j) (d.leaves.seats (suc j) (omega (arith, lt))) x) (λ ge. d.vacant j ge x) (cases_lt j m);
}

-- and thread m + 1 too
pub descends_whole : (m : ℕ) (a b : SchedulerState) → RestsOrWaits a m → RestsOrWaits b m → Descends m (suc m) a b → Descends m m a b
descends_whole m a b before after d = record {
  leaves = d.leaves;
  here = d.here;
  was_here = d.was_here;
  between = λ j le x. by_equal j m (λ n. d.between j (omega (arith, le, n)) x) (λ e. subst (RestsOrWaits b) (sym e) after);
  vacant = λ j le x. by_equal j m (λ n. d.vacant j (omega (arith, le, n)) x) (λ e. absurd (not_vacant a m before (subst (λ i. IsVacant a (suc i)) e x)));
}

pub descends_seated : (t from : ℕ) (a b : SchedulerState) → Descends t from a b → IsSeated a → IsSeated b
descends_seated t from a b d seated = seated_keeps (suc t) t a b d.leaves seated

pub descends_can : (t from u : ℕ) (a b : SchedulerState) → from ≤ u → Descends t from a b → CanDescend a u → CanDescend b u
descends_can t from u a b le d can = can_keep a b u d.leaves.alike.count (λ j up x. d.between j (omega (arith, le, up)) x) (λ j up x. d.vacant j (omega (arith, le, up)) x) can

-- ---- steps

pub touches_descends : (m : ℕ) (a b : SchedulerState) → HasChild a.mail m → HasChild b.mail m → Touches m a b → Descends m (suc m) a b
touches_descends m a b before after t = record {
  leaves = record {
    code = t.code;
    places = t.places;
    alike = t.alike;
    grown = t.grown;
    seats = λ j lt. t.seats j (λ e. omega (arith, lt, e));
    seat_count = t.seat_count;
    hands = λ k p mine lt. t.hands k (apart k p mine lt);
    hand_count = t.hand_count;
    parents = λ k p mine lt. t.parents k (apart k p mine lt);
    children = λ k lt. t.children k (λ e. omega (arith, lt, e));
  };
  here = λ j h. by_equal j m (λ n. child_keeps a.mail b.mail j (t.children j n) h) (λ e. subst (HasChild b.mail) (sym e) after);
  was_here = λ j h. by_equal j m (λ n. child_keeps b.mail a.mail j (sym (t.children j n)) h) (λ e. subst (HasChild a.mail) (sym e) before);
  between = λ j le x. between_still a b m t j (λ e. omega (arith, le, e)) x;
  vacant = λ j le v. vacant_by a b (suc j) (t.seats (suc j) (λ e. omega (arith, le, e))) v;
}
  where
    apart : (k p : ℕ) → IsBranchOf (code_in a).shape p k → p < suc m → IsBranchOf (code_in a).shape (suc m) k → ⊥
    apart k p mine lt is = let same = parent_once (code_in a) p (suc m) k mine is in omega (arith, same, lt)

-- ---- a thread in hand

module _ (t u : ℕ) (a b : SchedulerState) (l : KeepsBelow (suc t) u a b) (h : Thread) (number : h.number ≡ t) where
  abbrev b' : SchedulerState
  b' = changed a b.mail b.seats b.hands

  path : b' ≡ b
  path = changed_is a b l.code l.places

  pub leaves_gathering : (pairs : List Answered) → IsGathering a h pairs → IsGathering b h pairs
  leaves_gathering pairs w =
      subst (λ x. IsGathering x h pairs) path
      (gathering_keeps a b.mail b.seats b.hands l.alike.blanks l.alike.count h (λ j mine. l.parents j h.number mine (omega (arith, number))) (λ j mine. l.hands j h.number mine (omega (arith, number))) pairs w)

-- ---- the branches of a fork

pub branch_at : (c : PlainCode) (h : Thread) (k n : ℕ) → IsForked c h → slice_get h.branches.numbers k ≡ Some n → IsFor c h.number n
branch_at c h k n f at =
    let w = at_map (λ w. w.branch) (jobs_at c h) k n (ap (λ l. slice_get l k) (sym f.numbers) ∙ at) in
    subst (IsFor c h.number) w.2 (f.each k w.0 w.1)

-- ---- what is kept of the others

descends_others : (a b : SchedulerState) → Descends 0 0 a b → KeepsOthers a b
descends_others a b d = record {
  code = d.leaves.code;
  places = d.leaves.places;
  alike = d.leaves.alike;
  grown = d.leaves.grown;
  seat = d.leaves.seats 0 (omega arith);
  seat_count = d.leaves.seat_count;
  hand_count = d.leaves.hand_count;
  here = d.here;
  was_here = d.was_here;
  between = λ j x. d.between j (omega arith) x;
  vacant = λ j v. d.vacant j (omega arith) v;
}

pub keeps_down : (m : ℕ) (a b : SchedulerState) → m < length a.mail.ends → Descends m m a b → (a.mail.tells ≡ true → Quiet a m → OnlyLooks m a b) → KeepsServing a b
keeps_down m a b inside d looks = record {
  others = descends_others a b (descends_less m 0 0 a b (omega arith) d);
  root = λ j mine. d.leaves.parents j 0 mine (omega arith);
  hands = λ j mine. d.leaves.hands j 0 mine (omega arith);
  quiet = λ tells quiet j lt. quiet_looks m a b (looks tells (quiet m inside)) j (quiet j lt);
}

-- ---- the round

pub kept_same : (r : Round) → KeepsRound r r
kept_same r = record { own = refl; next = refl; rope = rope_same r.rope }

pub kept_then : (a b c : Round) → KeepsRound a b → KeepsRound b c → KeepsRound a c
kept_then a b c h g = record { own = g.own ∙ h.own; next = g.next ∙ h.next; rope = rope_then a.rope b.rope c.rope h.rope g.rope }

pub kept_round : (a b : Round) → a.next ≤ length a.own.items → KeepsRound a b → IsSameRound a b
kept_round a b within k = round_moved a b within k.own k.next k.rope

-- earlier forks
pub sent_since : (a b c : SchedulerState) (m t from : ℕ) → Descends t from a b → HasProgressed (code_in b).shape b.mail c.mail m → HasProgressed (code_in a).shape a.mail c.mail m
sent_since a b c m t from d p = progress_from (code_in a).shape a.mail b.mail c.mail m d.leaves.grown (subst (λ (x : CodeParts). HasProgressed (plain_code x).shape b.mail c.mail m) d.leaves.code p)

-- ---- out of its seat, and back

-- its end is there while it is at work
pub child_at_work : (s : SchedulerState) (h : Thread) (m : ℕ) → h.number ≡ suc m → IsAtWork s h → HasChild s.mail m
child_at_work s h m number w =
    let n = w.number in
    let same : w.mailbox ≡ m = omega (arith, n, number) in (true, subst (λ i. ChildIs s.mail i true) same w.child)

pub gains_more : (c : PlainCode) (a b e : Mail) (m : ℕ) → Grown a b → GainsOne (answered b m) (answered e m) → HasProgressed c.shape a e m
gains_more c a b e m grown g = progress_from c.shape a b e m grown (answered_more (let long = ap length g.is ∙ length-append (answered b m) (g.one ∷ []) in omega (arith, long)))

module _ (s : SchedulerState) (x : Active) (r : IsRunning s x) (h0 : Thread) (same : h0 ≡ x.thread) where
  pub starts : IsWorking s h0
  starts = subst (IsWorking s) (sym same) r.working

  pub starts_at : h0.number ≡ suc x.mailbox
  starts_at = ap (λ (t : Thread). t.number) same ∙ r.active.number

  module _ (h1 : Thread) (number : h1.number ≡ h0.number) (s1 : SchedulerState) (d : Descends x.mailbox (suc x.mailbox) s s1) where
    abbrev y : Active
    y = record { mailbox = x.mailbox; thread = h1; packet = x.packet }

    stays : Loaded (code_in s1) h1 → IsActive s1 y
    stays loaded =
        let inside = r.active.inside in
        let count = d.leaves.alike.count in
        record {
          inside = omega (arith, inside, count);
          number = number ∙ starts_at;
          loaded = loaded;
          room = subst (λ (z : CodeParts). HasRoom (of_shape (plain_code z).shape) (suc x.mailbox) (plain_packet x.packet)) (sym d.leaves.code) r.active.room;
        }

    pub finishes : IsWorking s1 h1 → HasReply h1 → HasFinished s1 y
    finishes w reply = record { active = stays w.work.loaded; working = w; reply = reply }

    pub held_on : IsWaiting s1 h1 → IsHeld s1 y
    held_on w = record { active = stays w.work.loaded; waiting = w }

    pub back_descends : (s2 : SchedulerState) → Touches x.mailbox s1 s2 → RestsOrWaits s2 x.mailbox → IsAtWork s1 h1 → Descends x.mailbox (suc x.mailbox) s s2
    back_descends s2 t after w =
        descends_then x.mailbox (suc x.mailbox) s s1 s2 d (touches_descends x.mailbox s1 s2 (child_at_work s1 h1 x.mailbox (number ∙ starts_at) w) (between_child s2 x.mailbox after) t)

-- taken up, and served
module _ (a : SchedulerState) (m : ℕ) (before : RestsOrWaits a m) (b : SchedulerState) (t : Touches m a b) (x : Active) (e : x.mailbox ≡ m) (r : IsRunning b x) where
  pub taken_up : Descends m (suc m) a b
  taken_up = touches_descends m a b (between_child a m before) (child_at_work b x.thread m (r.active.number ∙ ap suc e) r.working.work) t

  pub taken_can : CanDescend a (suc m) → CanDescend b (suc x.mailbox)
  taken_can can = subst (λ k. CanDescend b (suc k)) (sym e) (descends_can m (suc m) (suc m) a b (omega arith) taken_up can)

  module _ (d : SchedulerState) (down : Descends x.mailbox (suc x.mailbox) b d) where
    pub served_whole : RestsOrWaits d x.mailbox → Descends m m a d
    served_whole after = descends_whole m a d before (subst (RestsOrWaits d) e after) (descends_then m (suc m) a b d taken_up (subst (λ k. Descends k (suc k) b d) e down))

    pub served_worked : HasProgressed (code_in b).shape b.mail d.mail x.mailbox → HasProgressed (code_in a).shape a.mail d.mail m
    served_worked p = sent_since a b d m m (suc m) taken_up (subst (λ k. HasProgressed (code_in b).shape b.mail d.mail k) e p)

pub not_taken : (a : SchedulerState) (m : ℕ) (b : SchedulerState) → RestsOrWaits a m → Touches m a b → RestsOrWaits b m → Descends m m a b
not_taken a m b before t after = descends_whole m a b before after (touches_descends m a b (between_child a m before) (between_child b m after) t)
