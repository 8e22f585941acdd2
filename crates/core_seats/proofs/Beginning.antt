-- A thread that rests looks for a job, and begins it.
use Rattle.std.proofs.Common.{◌≡◌, ℕ, suc, ◌+◌, ◌<◌, ◌≤◌, ◌^◌, Bool, true, false, Option, Some, None, List, [], ◌∷◌, ◌++◌, length, refl, sym, ap, ◌∙◌, subst, append-nil, arith}
use Rattle.std.specs.Prelude.{slice_get, slice_set}
use Rattle.std.proofs.lemmas.List.{length-append}
use Rattle.forec_kernel.specs.Packets.{PlainPacket}
use Rattle.forec_kernel.specs.Packed.{HasRoom, IsJob, AreJobs}
use Rattle.forec_kernel.specs.Engine.{Job, Exchange}
use Rattle.forec_kernel.specs.Shapes.{PlainShape}
use Rattle.thread_code.specs.Plain.{PlainCode, plain_code}
use Rattle.thread_code.specs.Valid.{of_shape}
use Rattle.combine_tree.specs.declared.packet.Packet.{Packet}
use Rattle.combine_tree.specs.Plain.{plain_packet}
use Rattle.core_machine.specs.declared.thread.Thread.{Thread}
use Rattle.core_machine.specs.Threads.{Loaded, StandsFor, CanBegin, CanRun}
use Rattle.copy_slots.specs.declared.view.Taker.{Taker}
use Rattle.copy_slots.specs.Mail.{taker_looked}
use Rattle.copy_slots.specs.Ports.{child_at, on_taker, sent_by, got_by, taken_by, answered_by, words_of_parent, words_of_child, IsChild, ChildIs, sent, taken, answered, looked_by_child, after_take}
use Rattle.core_seats.specs.declared.seat.Seat.{Seat}
use Rattle.core_seats.specs.Asking.{Asks}
use Rattle.core_seats.specs.Posts.{Mail}
use Rattle.tick_jobs.specs.Branches.{IsBranchOf}
use Rattle.core_seats.specs.Changes.{Extends, Grown, HasWorked, replied, forked}
use Rattle.core_seats.specs.Descending.{IsRunning}
use Rattle.tick_jobs.specs.Writing.{told}
use Rattle.core_seats.specs.Keeping.{SchedulerState, code_in, KeepsPort, IsSeated}
use Rattle.core_seats.specs.Waiting.{IsWorking, IsAtRest, RestsOrWaits, rests}
use Rattle.core_seats.specs.Serving.{Touches, OnlyLooks, HasMissed}
use Rattle.copy_slots.proofs.PortLemmas.{child_here, child_else, parent_on_child}
use Rattle.core_seats.proofs.Mails.{alike_then, children_count, is_child, extends_same, extends_one, extends_then}
use Rattle.tick_jobs.proofs.Lists.{by_equal, some_once, length_then}
use Rattle.core_seats.proofs.KeepingLemmas.{idle_keeps, grown_then, seated_by}
use Rattle.core_seats.proofs.RunChildren.{jobs_more}
use Rattle.core_seats.proofs.RunChild.{job_can_begin, job_room, job_small, job_is, at_work, work_begins, taken_now, answered_same, holds_now, leaves_begin, in_job}
use Rattle.core_seats.proofs.SchedulerCalls.{took}
use Rattle.core_seats.proofs.OneMoreExchange.{posts_told}
use Rattle.core_seats.proofs.WaitingLemmas.{has_keeps}

-- ---- one change after the other

pub touches_then : (k : ℕ) (a b c : SchedulerState) → Touches k a b → Touches k b c → Touches k a c
touches_then k a b c h g =
    let there = λ (j : ℕ) (n : IsBranchOf (code_in a).shape (suc k) j → ⊥) (is : IsBranchOf (code_in b).shape (suc k) j). n (subst (λ x. IsBranchOf (plain_code x).shape (suc k) j) h.code is) in
    record {
      code = g.code ∙ h.code;
      places = g.places ∙ h.places;
      alike = alike_then a.mail b.mail c.mail h.alike g.alike;
      grown = grown_then a.mail b.mail c.mail h.grown g.grown;
      seats = λ j n. g.seats j n ∙ h.seats j n;
      seat_count = g.seat_count ∙ h.seat_count;
      children = λ j n. g.children j n ∙ h.children j n;
      parents = λ j n. g.parents j (there j n) ∙ h.parents j n;
      hands = λ j n. g.hands j (there j n) ∙ h.hands j n;
      hand_count = g.hand_count ∙ h.hand_count;
    }

pub touches_seated : (k : ℕ) (a b : SchedulerState) → Touches k a b → IsSeated a → IsSeated b
touches_seated k a b h seated = seated_by a b h.code h.places h.alike h.seat_count h.hand_count seated

pub worked_from : (s : PlainShape) (a b c : Mail) (k : ℕ) → Grown a b → answered b k ≡ answered a k → HasWorked s b c k → HasWorked s a c k
worked_from s a b c k grown same (replied g) = replied (record { one = g.one; is = g.is ∙ ap (λ l. l ++ g.one ∷ []) same })
worked_from s a b c k grown same (forked j is more lt) =
    let old = grown.sent j in
    let long = ap length old.is ∙ length-append (sent a j) old.more in forked j is (extends_then (sent a j) (sent b j) (sent c j) old more) (omega (arith, lt, long))

module _ (s0 : SchedulerState) (m : ℕ) (inside : m < length s0.mail.ends) (seated : IsSeated s0) (r : IsAtRest s0 m) where
  abbrev c : PlainCode
  c = code_in s0

  -- ---- there is no job

  abbrev pub missed : SchedulerState
  missed = record s0 { mail = after_take m None s0.mail }

  taker : (z : Taker PlainPacket) × (child_at s0.mail.ends m ≡ Some z) × (z.holds ≡ false)
  taker = is_child (child_at s0.mail.ends m) false r.idle.child

  child_missed : child_at missed.mail.ends m ≡ Some (taker_looked taker.0)
  child_missed = child_here s0.mail.ends m taker_looked ∙ ap (on_taker taker_looked) taker.1

  taken_missed : taken missed.mail m ≡ taken s0.mail m
  taken_missed = ap taken_by child_missed ∙ sym (ap taken_by taker.1)

  pub missed_answered : answered missed.mail m ≡ answered s0.mail m
  missed_answered = ap answered_by child_missed ∙ sym (ap answered_by taker.1)

  looked_missed : looked_by_child missed.mail m ≡ looked_by_child s0.mail m ++ 0 ∷ []
  looked_missed = ap words_of_child child_missed ∙ ap (λ l. l ++ 0 ∷ []) (sym (ap words_of_child taker.1))

  rests_missed : ChildIs missed.mail m false
  rests_missed = subst (λ (o : Option (Taker PlainPacket)). IsChild o false) (sym child_missed) taker.2

  missed_alike : KeepsPort s0.mail missed.mail
  missed_alike = record { work = refl; blanks = refl; tells = refl; root = refl; count = children_count s0.mail.ends m taker_looked; stops = extends_same _ _ refl }

  pub only_looks : OnlyLooks m s0 missed
  only_looks = record {
    code = refl;
    seats = refl;
    hands = refl;
    alike = missed_alike;
    parents = λ j. parent_on_child s0.mail.ends m j taker_looked;
    children = λ j n. child_else s0.mail.ends m j taker_looked n;
    taken = taken_missed;
    answered = missed_answered;
    child = λ _. rests_missed;
  }

  pub missed_touches : Touches m s0 missed
  missed_touches = record {
    code = refl;
    places = refl;
    alike = missed_alike;
    grown = record {
      sent = λ k. extends_same _ _ (ap sent_by (parent_on_child s0.mail.ends m k taker_looked));
      got = λ k. extends_same _ _ (ap got_by (parent_on_child s0.mail.ends m k taker_looked));
      taken = λ k. by_equal k m (λ n. extends_same _ _ (ap taken_by (child_else s0.mail.ends m k taker_looked n))) (λ e. subst (λ i. Extends (taken s0.mail i) (taken missed.mail i)) (sym e) (extends_same _ _ taken_missed));
      answered = λ k. by_equal k m (λ n. extends_same _ _ (ap answered_by (child_else s0.mail.ends m k taker_looked n))) (λ e. subst (λ i. Extends (answered s0.mail i) (answered missed.mail i)) (sym e) (extends_same _ _ missed_answered));
      looked_by_parent = λ k. extends_same _ _ (ap words_of_parent (parent_on_child s0.mail.ends m k taker_looked));
      looked_by_child = λ k. by_equal k m (λ n. extends_same _ _ (ap words_of_child (child_else s0.mail.ends m k taker_looked n))) (λ e. subst (λ i. Extends (looked_by_child s0.mail i) (looked_by_child missed.mail i)) (sym e) (extends_one _ _ 0 looked_missed));
      stops = missed_alike.stops;
    };
    seats = λ j n. refl;
    seat_count = refl;
    children = λ j n. child_else s0.mail.ends m j taker_looked n;
    parents = λ j n. parent_on_child s0.mail.ends m j taker_looked;
    hands = λ j n. refl;
    hand_count = refl;
  }

  pub missed_between : RestsOrWaits missed m
  missed_between = rests (record {
    idle = idle_keeps m s0 missed (record { code = refl; seat = refl; child = record { taken = taken_missed; answered = missed_answered; rests = λ _. rests_missed }; branches = λ j is. parent_on_child s0.mail.ends m j taker_looked }) r.idle;
    has = λ j lt is.
        let count = children_count s0.mail.ends m taker_looked in
        has_keeps s0 missed.mail s0.seats s0.hands refl count j (parent_on_child s0.mail.ends m j taker_looked) refl (r.has j (omega (arith, lt, count)) is);
  })

  pub has_missed : HasMissed m s0 missed
  has_missed = record {
    idle = record {
      rests = λ _. record { words = []; is = looked_missed ∙ ap (λ l. l ++ 0 ∷ []) (sym (append-nil (looked_by_child s0.mail m))) };
      forked = λ holds. absurd (both (child_at missed.mail.ends m) rests_missed holds);
    };
    answered = missed_answered;
  }
    where
      never : (b : Bool) → b ≡ false → b ≡ true → ⊥
      never b e f = let h = sym e ∙ f in cc

      both : (o : Option (Taker PlainPacket)) → IsChild o false → IsChild o true → ⊥
      both None e f = e
      both (Some z) e f = never z.holds e f

  -- ---- there is one

  module _ (p : Packet) (asks : Asks c m (taken s0.mail m ++ plain_packet p ∷ [])) where
    abbrev empty : Seat
    empty = record { thread = None; job = None }

    abbrev pub begun : SchedulerState
    begun = at_work s0 m seated inside r.idle p asks empty

    pub begun_touches : Touches m s0 begun
    begun_touches =
        let w = work_begins s0 m seated inside r.idle p asks empty in
        let l = leaves_begin s0 m seated inside r.idle p asks empty in
        record {
          code = refl;
          places = refl;
          alike = w.alike;
          grown = l.grown;
          seats = w.seats;
          seat_count = w.seat_count;
          children = w.children;
          parents = λ j n. w.parents j;
          hands = λ j n. refl;
          hand_count = refl;
        }

    pub begun_answered : answered begun.mail m ≡ answered s0.mail m
    begun_answered = answered_same s0 m seated inside r.idle p asks empty

    pub its_start : CanBegin r.idle.thread p.kind
    its_start = job_can_begin s0 m seated inside r.idle p asks

    pub its_room : HasRoom (of_shape c.shape) (suc m) (plain_packet p)
    its_room = job_room s0 m seated inside r.idle p asks

    pub its_allowance : p.allowance ≤ 2 ^ 62
    its_allowance = job_small s0 m seated inside r.idle p asks

    module _ (h1 : Thread) (loaded1 : Loaded c h1) (number : h1.number ≡ r.idle.thread.number)
        (stands : (xs : List Exchange) (job : Job) → IsJob (plain_packet p) job → StandsFor c r.idle.thread xs → StandsFor c h1 (xs ++ record { job = job; replies = [] } ∷ [])) where
      pub begun_working : IsWorking begun h1
      begun_working =
          let i = in_job s0 m seated inside r.idle p asks empty h1 number stands in
          let taken1 = taken_now s0 m seated inside r.idle p asks empty in
          let w = work_begins s0 m seated inside r.idle p asks empty in
          let at = number ∙ r.idle.sits.number in
          record {
            work = record {
              mailbox = m;
              number = at;
              loaded = loaded1;
              child = holds_now s0 m seated inside r.idle p asks empty;
              jobs = r.idle.jobs;
              job = asks.job;
              are = subst (λ l. AreJobs l (r.idle.jobs ++ asks.job ∷ [])) (sym taken1) (jobs_more (taken s0.mail m) r.idle.jobs (plain_packet p) asks.job r.idle.are (job_is s0 m seated inside r.idle p asks));
              even = ap (λ l. length l + 1) begun_answered ∙ ap (λ n. n + 1) r.idle.even ∙ sym (length_then (taken s0.mail m) (plain_packet p)) ∙ ap length (sym taken1);
              log = i.0.log;
              stands = i.0.stands;
            };
            told = posts_told begun h1.number (told c h1.number r.idle.jobs asks.job i.0.log) i.0.posts
                (λ j lt is. let count = w.alike.count in
                has_keeps s0 begun.mail begun.seats s0.hands refl count j (w.parents j) refl (r.has j (omega (arith, lt, count)) (subst (λ t. IsBranchOf c.shape t j) at is)));
          }

      pub begun_running : CanRun h1 → IsRunning begun (record { mailbox = m; thread = h1; packet = p })
      begun_running running =
          let count = begun_touches.alike.count in
          record {
            active = record { inside = omega (arith, inside, count); number = number ∙ r.idle.sits.number; loaded = loaded1; room = its_room };
            working = begun_working;
            running = running;
          }

-- ---- in the words of the calls

module _ (s0 : SchedulerState) (m : ℕ) (inside : m < length s0.mail.ends) (seated : IsSeated s0) (r : IsAtRest s0 m) (p : Packet) (s1 : SchedulerState) (taking : s1 ≡ record s0 { mail = after_take m (Some (plain_packet p)) s0.mail })
    (job : Asks (plain_code s0.mail.work.code.value) m (taken s1.mail m)) where
  abbrev pub its_asks : Asks (code_in s0) m (taken s0.mail m ++ plain_packet p ∷ [])
  its_asks =
      subst (Asks (code_in s0) m) (ap (λ (s : SchedulerState). taken s.mail m) taking ∙ took s0.mail m (plain_packet p) r.idle.child)
      (subst (λ x. Asks (plain_code x) m (taken s1.mail m)) seated.work job)

  module _ (x : Seat) (found : slice_get s1.seats (m + 1) ≡ Some x) (s2 : SchedulerState) (rising : s2 ≡ record s1 { seats = slice_set s1.seats (m + 1) (record { thread = None; job = None }) }) where
    pub begun_is : s2 ≡ begun s0 m inside seated r p its_asks
    begun_is =
        let one : m + 1 ≡ suc m = omega arith in
        rising
        ∙ ap (λ (s : SchedulerState). record s { seats = slice_set s.seats (m + 1) (record { thread = None; job = None }) }) taking
        ∙ ap (λ n. record s0 { mail = after_take m (Some (plain_packet p)) s0.mail; seats = slice_set s0.seats n (record { thread = None; job = None }) }) one

    pub same_code : s2.code ≡ s0.code
    same_code = ap (λ (s : SchedulerState). s.code) begun_is

    pub same_thread : (h : Thread) → x.thread ≡ Some h → r.idle.thread ≡ h
    same_thread h is =
        let one : m + 1 ≡ suc m = omega arith in
        let seat = some_once r.idle.sits.seat x (sym r.idle.sits.at ∙ ap (λ n. slice_get s0.seats n) (sym one) ∙ ap (λ (s : SchedulerState). slice_get s.seats (m + 1)) (sym taking) ∙ found) in
        some_once r.idle.thread h (sym r.idle.sits.is ∙ ap (λ (z : Seat). z.thread) seat ∙ is)
