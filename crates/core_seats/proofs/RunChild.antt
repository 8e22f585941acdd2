-- A thread takes a job, does it, and answers.
use Rattle.std.proofs.Common.{◌≡◌, ◌≢◌, ℕ, zero, suc, ◌+◌, ◌-◌, ◌<◌, ◌≤◌, ◌^◌, true, false, Option, Some, None, List, [], ◌∷◌, ◌++◌, length, map, refl, sym, ap, ◌∙◌, subst, arith}
use Rattle.std.specs.Prelude.{slice_get, slice_set}
use Rattle.std.proofs.lemmas.List.{length-set}
use Rattle.forec_kernel.specs.Packets.{PlainPacket, IsPaused}
use Rattle.forec_kernel.specs.Packed.{HasRoom, IsJob, AreJobs, IsReply, PacketAnswers}
use Rattle.forec_kernel.specs.Engine.{Job, Reply, WasPaused, WasEnded, WasTrapped, WasOver, Exchange, Output, last_reply, answers_within, Answers}
use Rattle.thread_code.specs.Plain.{PlainCode, plain_code}
use Rattle.thread_code.specs.Valid.{of_shape}
use Rattle.thread_code.specs.Alone.{CodeAlone, code_engine}
use Rattle.thread_code.specs.Machine.{Machine}
use Rattle.thread_code.proofs.Steady.{code_steady}
use Rattle.combine_tree.specs.declared.packet.Packet.{Packet}
use Rattle.combine_tree.specs.declared.packet.PacketKind.{PacketKind}
use Rattle.combine_tree.specs.declared.packet.PacketKind.TheVariants as kind
use Rattle.combine_tree.specs.Plain.{plain_kind, plain_packet}
use Rattle.core_machine.specs.declared.thread.Thread.{Thread}
use Rattle.core_machine.specs.Threads.{Loaded, StandsFor, CanBegin, HasPaused, HasReply, RepliesToLast}
use Rattle.core_machine.specs.Replies.{RepliesByKind}
use Rattle.copy_slots.specs.declared.view.PacketAt.TheVariants.{Out}
use Rattle.copy_slots.specs.declared.view.Sender.{Sender}
use Rattle.copy_slots.specs.declared.view.Taker.{Taker}
use Rattle.copy_slots.specs.Mail.{taker_took, taker_answered}
use Rattle.copy_slots.specs.Ports.{parent_at, child_at, on_child, on_taker, sent_by, got_by, taken_by, answered_by, words_of_parent, words_of_child, looked_by_child, IsParent, IsChild, ChildIs, sent, taken, answered}
use Rattle.core_seats.proofs.AfterFork.{posts_answered}
use Rattle.core_seats.specs.declared.seat.Seat.{Seat}
use Rattle.core_seats.specs.Asking.{Replies, ArePaused, MayFollow, Asks}
use Rattle.tick_jobs.specs.Branches.{IsBranchOf}
use Rattle.core_seats.specs.Changes.{Extends}
use Rattle.core_seats.specs.Done.{HasDone, InJob, through}
use Rattle.core_seats.specs.Keeping.{SchedulerState, code_in, KeepsPort, KeepsBelow, IsSeated, LastReply, none, last, Idle, QuietAbove, LacksPacket, IsBack}
use Rattle.core_seats.specs.Following.{HasFollowed}
use Rattle.copy_slots.proofs.PortLemmas.{child_here, child_else, parent_on_child}
use Rattle.core_seats.proofs.Mails.{children_count, is_child, extends_same, extends_one}
use Rattle.tick_jobs.proofs.Lists.{by_equal, get_set, get_set_else}
use Rattle.core_seats.proofs.KeepingLemmas.{same_child, done_keeps, paused_by, quiet_keeps, leaves_then, leaves_less, seated_keeps}
use Rattle.tick_jobs.proofs.Branching.{branch_above, has_parent}
use Rattle.tick_jobs.proofs.Once.{answers_once}
use Rattle.core_seats.proofs.RunChildren.{jobs_once, jobs_more}
use Rattle.tick_jobs.proofs.Logs.{front_once, job_begins, Ends, job_ends}

-- ---- a child's end, and its thread's seat

pub record Works (m : ℕ) (a b : SchedulerState) : Type 0 where
  pub code : b.code ≡ a.code
  pub places : b.places ≡ a.places
  pub hands : b.hands ≡ a.hands
  pub alike : KeepsPort a.mail b.mail
  pub parents : (j : ℕ) → parent_at b.mail.ends j ≡ parent_at a.mail.ends j
  pub children : (j : ℕ) → j ≢ m → child_at b.mail.ends j ≡ child_at a.mail.ends j
  pub seats : (j : ℕ) → j ≢ suc m → slice_get b.seats j ≡ slice_get a.seats j
  pub seat_count : length b.seats ≡ length a.seats

pub works_child : (s : SchedulerState) (m : ℕ) (f : Taker PlainPacket → Taker PlainPacket) (seats : List Seat) → ((j : ℕ) → j ≢ suc m → slice_get seats j ≡ slice_get s.seats j) → length seats ≡ length s.seats →
    Works m s (record s { mail = record s.mail { ends = on_child s.mail.ends m f }; seats = seats })
works_child s m f seats else count = record {
  code = refl;
  places = refl;
  hands = refl;
  alike = record { work = refl; blanks = refl; tells = refl; root = refl; count = children_count s.mail.ends m f; stops = extends_same _ _ refl };
  parents = λ j. parent_on_child s.mail.ends m j f;
  children = λ j n. child_else s.mail.ends m j f n;
  seats = else;
  seat_count = count;
}

pub works_quiet : (m : ℕ) (a b : SchedulerState) → Works m a b → QuietAbove a (suc m) → QuietAbove b (suc m)
works_quiet m a b w above j from lt =
    let count = w.alike.count in
    quiet_keeps j a b
    (record { code = w.code; seat = w.seats (suc j) (λ e. omega (arith, e, from)); child = same_child j a.mail b.mail (w.children j (λ e. omega (arith, e, from))); branches = λ i mine. w.parents i })
    (record { parent = w.parents j; hand = ap (λ l. slice_get l j) w.hands; blanks = w.alike.blanks })
    (above j from (omega (arith, lt, count)))

pub works_leaves : (m : ℕ) (a b : SchedulerState) → Works m a b → Extends (taken a.mail m) (taken b.mail m) → Extends (answered a.mail m) (answered b.mail m) → Extends (looked_by_child a.mail m) (looked_by_child b.mail m) → KeepsBelow (suc m) m a b
works_leaves m a b w t d l = record {
  code = w.code;
  places = w.places;
  alike = w.alike;
  grown = record {
    sent = λ k. extends_same _ _ (ap sent_by (w.parents k));
    got = λ k. extends_same _ _ (ap got_by (w.parents k));
    taken = λ k. by_equal k m (λ n. extends_same _ _ (ap taken_by (w.children k n))) (λ e. subst (λ i. Extends (taken a.mail i) (taken b.mail i)) (sym e) t);
    answered = λ k. by_equal k m (λ n. extends_same _ _ (ap answered_by (w.children k n))) (λ e. subst (λ i. Extends (answered a.mail i) (answered b.mail i)) (sym e) d);
    looked_by_parent = λ k. extends_same _ _ (ap words_of_parent (w.parents k));
    looked_by_child = λ k. by_equal k m (λ n. extends_same _ _ (ap words_of_child (w.children k n))) (λ e. subst (λ i. Extends (looked_by_child a.mail i) (looked_by_child b.mail i)) (sym e) l);
    stops = w.alike.stops;
  };
  seats = λ j lt. w.seats j (λ e. omega (arith, e, lt));
  seat_count = w.seat_count;
  hands = λ k p mine lt. ap (λ l. slice_get l k) w.hands;
  hand_count = ap length w.hands;
  parents = λ k p mine lt. w.parents k;
  children = λ k lt. w.children k (λ e. omega (arith, e, lt));
}

-- ---- the job

kinds : (c : PlainCode) (k : ℕ) (before : List PlainPacket) (h : Thread) (q : PacketKind) → MayFollow c k before (plain_kind q) → (ArePaused c k before → HasPaused h) → CanBegin h q
kinds c k before h kind.Blank may paused = may
kinds c k before h kind.Start may paused = tt
kinds c k before h kind.Wake may paused = paused may
kinds c k before h kind.Paused may paused = may
kinds c k before h kind.Ended may paused = may
kinds c k before h (kind.Trapped place trap) may paused = may
kinds c k before h kind.Over may paused = may

same_kind : (p q : PlainPacket) (r s : Reply) → IsReply p r → IsReply q s → r ≡ s → q.kind ≡ IsPaused → p.kind ≡ IsPaused
same_kind p q r s h g e paused = by_reply s g (subst (IsReply p) e h)
  where
    by_reply : (s : Reply) → IsReply q s → IsReply p s → p.kind ≡ IsPaused
    by_reply (WasPaused copies u) a b = b.0
    by_reply (WasEnded copies u) a b = b.0 ∙ sym a.0 ∙ paused
    by_reply (WasTrapped place trap u) a b = b.0 ∙ sym a.0 ∙ paused
    by_reply WasOver a b = b ∙ sym a ∙ paused

no_answer : (c : PlainCode) (t n : ℕ) (reply : PlainPacket) → PacketAnswers (CodeAlone c) n t [] reply → ⊥
no_answer c t n reply a = pick a.plain_jobs a.jobs_are a.answers
  where
    nothing : (xs : List Exchange) (os : List Output) → [] ≡ map (λ (x : Exchange). x.job) xs → CodeAlone c t xs os → last_reply os ≡ Some a.plain_reply → ⊥
    nothing [] [] e runs l = cc
    nothing [] (o ∷ os) e runs l = absurd runs
    nothing (x ∷ xs) os e runs l = cc

    within : (k : ℕ) → answers_within (CodeAlone c) k t [] a.plain_reply → ⊥
    within zero h = nothing h.exchanges h.outputs (sym h.jobs_are) h.runs h.gives
    within (suc k) h = nothing h.exchanges h.outputs (sym h.jobs_are) h.runs h.gives

    pick : (js : List Job) → AreJobs [] js → Answers (CodeAlone c) n t js a.plain_reply → ⊥
    pick [] are h = within (n - t) h
    pick (j ∷ js) are h = are

paused_then : (c : PlainCode) (k : ℕ) (jobs : List PlainPacket) (h : Thread) → LastReply c k jobs h → ArePaused c k jobs → HasPaused h
paused_then c k jobs h (none e) p = absurd (no_answer c (suc k) (length c.threads) p.reply (subst (λ l. PacketAnswers (CodeAlone c) (length c.threads) (suc k) l p.reply) e p.answers))
paused_then c k jobs h (last reply answers paused) p =
    let same = jobs_once jobs answers.plain_jobs p.answers.plain_jobs answers.jobs_are p.answers.jobs_are in
    let one = answers_once (λ t. Machine) (code_engine c) (code_steady c) (length c.threads) (suc k) p.answers.plain_jobs answers.plain_reply p.answers.plain_reply
    (subst (λ js. Answers (CodeAlone c) (length c.threads) (suc k) js answers.plain_reply) same answers.answers) p.answers.answers in
    paused (same_kind reply p.reply answers.plain_reply p.answers.plain_reply answers.reply_is p.answers.reply_is one p.paused)

module _ (s0 : SchedulerState) (m : ℕ) (seated : IsSeated s0) (inside : m < length s0.mail.ends) (idle : Idle s0 m) (p : Packet) (asks : Asks (code_in s0) m (taken s0.mail m ++ plain_packet p ∷ [])) where
  abbrev q : PlainPacket
  q = plain_packet p

  abbrev h0 : Thread
  h0 = idle.thread

  pub in_threads : suc m < length (code_in s0).threads
  in_threads = omega (arith, inside, seated.mailboxes)

  parts : (taken s0.mail m ≡ asks.before) × (q ≡ asks.last)
  parts = front_once (taken s0.mail m) asks.before q asks.last asks.are

  pub job_can_begin : CanBegin h0 p.kind
  job_can_begin =
      kinds (code_in s0) m (taken s0.mail m) h0 p.kind
      (subst (λ l. MayFollow (code_in s0) m l q.kind) (sym parts.0) (subst (λ (x : PlainPacket). MayFollow (code_in s0) m asks.before x.kind) (sym parts.1) asks.follows))
      (paused_then (code_in s0) m (taken s0.mail m) h0 idle.last)

  pub job_room : HasRoom (of_shape (code_in s0).shape) (suc m) q
  job_room = subst (HasRoom (of_shape (code_in s0).shape) (suc m)) (sym parts.1) asks.room

  pub job_small : p.allowance ≤ 2 ^ 62
  job_small = subst (λ (x : PlainPacket). x.allowance ≤ 2 ^ 62) (sym parts.1) asks.small

  pub job_is : IsJob q asks.job
  job_is = subst (λ x. IsJob x asks.job) (sym parts.1) asks.is

  module _ (x : Seat) where
    abbrev pub at_work : SchedulerState
    at_work = record s0 { mail = record s0.mail { ends = on_child s0.mail.ends m (taker_took q) }; seats = slice_set s0.seats (suc m) x }

    pub work_begins : Works m s0 at_work
    work_begins = works_child s0 m (taker_took q) (slice_set s0.seats (suc m) x) (λ j n. get_set_else s0.seats (suc m) j x n) (length-set s0.seats (suc m) x)

    taker : (y : Taker PlainPacket) × (child_at s0.mail.ends m ≡ Some y) × (y.holds ≡ false)
    taker = is_child (child_at s0.mail.ends m) false idle.child

    child_now : child_at at_work.mail.ends m ≡ Some (taker_took q taker.0)
    child_now = child_here s0.mail.ends m (taker_took q) ∙ ap (on_taker (taker_took q)) taker.1

    pub taken_now : taken at_work.mail m ≡ taken s0.mail m ++ q ∷ []
    taken_now = ap taken_by child_now ∙ ap (λ l. l ++ q ∷ []) (sym (ap taken_by taker.1))

    pub answered_same : answered at_work.mail m ≡ answered s0.mail m
    answered_same = ap answered_by child_now ∙ sym (ap answered_by taker.1)

    looked_now : looked_by_child at_work.mail m ≡ looked_by_child s0.mail m ++ 1 ∷ []
    looked_now = ap words_of_child child_now ∙ ap (λ l. l ++ 1 ∷ []) (sym (ap words_of_child taker.1))

    pub holds_now : ChildIs at_work.mail m true
    holds_now = subst (λ (o : Option (Taker PlainPacket)). IsChild o true) (sym child_now) refl

    pub leaves_begin : KeepsBelow (suc m) m s0 at_work
    leaves_begin = works_leaves m s0 at_work work_begins (extends_one _ _ q taken_now) (extends_same _ _ answered_same) (extends_one _ _ 1 looked_now)

    pub seated_work : IsSeated at_work
    seated_work = seated_keeps (suc m) m s0 at_work leaves_begin seated

    pub above_work : QuietAbove s0 (suc m) → QuietAbove at_work (suc m)
    above_work above = works_quiet m s0 at_work work_begins above

    module _ (h1 : Thread) (number : h1.number ≡ h0.number)
        (stands : (xs : List Exchange) (job : Job) → IsJob q job → StandsFor (code_in s0) h0 xs → StandsFor (code_in s0) h1 (xs ++ record { job = job; replies = [] } ∷ [])) where
      pub number_is : h1.number ≡ suc m
      number_is = number ∙ idle.sits.number

      done_work : HasDone (code_in s0) h0 at_work.mail idle.jobs
      done_work = done_keeps (code_in s0) h0 s0.mail at_work.mail idle.jobs (λ j mine. work_begins.parents j) idle.done

      pub in_job : (i : InJob (code_in s0) h1 at_work.mail idle.jobs asks.job) × (i.log.before ≡ [])
      in_job =
          job_begins (code_in s0) seated.valid h0 h1 (through (code_in s0) at_work.mail) idle.jobs asks.job number (let n = number_is in omega (arith, n, in_threads)) done_work
          (stands done_work.exchanges asks.job job_is done_work.stands)

      pub followed : HasFollowed at_work h1
      followed = record { jobs = idle.jobs; job = asks.job; in_job = in_job.0; first = in_job.1 }

      module _ (all : taken s0.mail m ++ q ∷ [] ≡ sent s0.mail m) (s3 : SchedulerState) (h2 : Thread) (number2 : h2.number ≡ h1.number) (loaded2 : Loaded (code_in s3) h2) (replied : HasReply h2) (above3 : QuietAbove s3 (suc m))
          (leaves3 : KeepsBelow (suc m) (suc m) at_work s3) (done3 : InJob (code_in s0) h2 s3.mail idle.jobs asks.job)
          (p' : Packet) (room' : HasRoom (of_shape (code_in s0).shape) (suc m) (plain_packet p')) (kind' : RepliesByKind h2 p'.kind)
          (gives : (xs : List Exchange) → StandsFor (code_in s0) h2 xs → RepliesToLast (code_in s0) h2.number xs (plain_packet p')) where
        abbrev q' : PlainPacket
        q' = plain_packet p'

        number3 : h2.number ≡ suc m
        number3 = number2 ∙ number_is

        ends : Ends (code_in s0) h2 (through (code_in s0) s3.mail) (idle.jobs ++ asks.job ∷ []) q'
        ends = job_ends (code_in s0) h2 (through (code_in s0) s3.mail) (posts_answered (code_in s0) s3.mail) idle.jobs asks.job q' (let n = number3 in omega (arith, n, in_threads)) done3 gives

        child3 : child_at s3.mail.ends m ≡ child_at at_work.mail.ends m
        child3 = leaves3.children m (omega arith)

        pub taken3 : taken s3.mail m ≡ taken s0.mail m ++ q ∷ []
        taken3 = ap taken_by child3 ∙ taken_now

        are3 : AreJobs (taken s3.mail m) (idle.jobs ++ asks.job ∷ [])
        are3 = subst (λ l. AreJobs l (idle.jobs ++ asks.job ∷ [])) (sym taken3) (jobs_more (taken s0.mail m) idle.jobs q asks.job idle.are job_is)

        pub its_answers : PacketAnswers (CodeAlone (code_in s0)) (length (code_in s0).threads) (suc m) (taken s3.mail m) q'
        its_answers = record {
          plain_jobs = idle.jobs ++ asks.job ∷ [];
          plain_reply = ends.reply;
          jobs_are = are3;
          reply_is = ends.is;
          answers = subst (λ t. Answers (CodeAlone (code_in s0)) (length (code_in s0).threads) t (idle.jobs ++ asks.job ∷ []) ends.reply) number3 ends.answers;
        }

        pub its_replies : Replies (code_in s0) m (taken s3.mail m) q'
        its_replies = record { room = room'; answers = its_answers }

        pub holds3 : ChildIs s3.mail m true
        holds3 = subst (λ (o : Option (Taker PlainPacket)). IsChild o true) (sym child3) holds_now

        module _ (y : Seat) (is : y.thread ≡ Some h2) (vacant : y.job ≡ None) where
          abbrev pub at_end : SchedulerState
          at_end = record s3 { mail = record s3.mail { ends = on_child s3.mail.ends m (taker_answered q') }; seats = slice_set s3.seats (suc m) y }

          pub work_ends : Works m s3 at_end
          work_ends = works_child s3 m (taker_answered q') (slice_set s3.seats (suc m) y) (λ j n. get_set_else s3.seats (suc m) j y n) (length-set s3.seats (suc m) y)

          taker3 : (z : Taker PlainPacket) × (child_at s3.mail.ends m ≡ Some z) × (z.holds ≡ true)
          taker3 = is_child (child_at s3.mail.ends m) true holds3

          child4 : child_at at_end.mail.ends m ≡ Some (taker_answered q' taker3.0)
          child4 = child_here s3.mail.ends m (taker_answered q') ∙ ap (on_taker (taker_answered q')) taker3.1

          taken4 : taken at_end.mail m ≡ taken s3.mail m
          taken4 = ap taken_by child4 ∙ sym (ap taken_by taker3.1)

          answered4 : answered at_end.mail m ≡ answered s3.mail m ++ q' ∷ []
          answered4 = ap answered_by child4 ∙ ap (λ l. l ++ q' ∷ []) (sym (ap answered_by taker3.1))

          answered3 : answered s3.mail m ≡ answered s0.mail m
          answered3 = ap answered_by child3 ∙ answered_same

          leaves_end : KeepsBelow (suc m) m s3 at_end
          leaves_end = works_leaves m s3 at_end work_ends (extends_same _ _ taken4) (extends_one _ _ q' answered4) (extends_same _ _ (ap words_of_child child4 ∙ sym (ap words_of_child taker3.1)))

          middle : KeepsBelow (suc m) m at_work s3
          middle = leaves_less (suc m) (suc m) (suc m) m at_work s3 (omega arith) (omega arith) leaves3

          pub leaves_all : KeepsBelow (suc m) m s0 at_end
          leaves_all = leaves_then (suc m) m s0 at_work at_end leaves_begin (leaves_then (suc m) m at_work s3 at_end middle leaves_end)

          pub above_end : QuietAbove at_end (suc m)
          above_end = works_quiet m s3 at_end work_ends above3

          code_end : at_end.code ≡ s0.code
          code_end = leaves_all.code

          up : (t : ℕ) × IsBranchOf (code_in s0).shape t m
          up = has_parent (code_in s0) seated.valid m in_threads

          parent_end : parent_at at_end.mail.ends m ≡ parent_at s0.mail.ends m
          parent_end = leaves_all.parents m up.0 up.1 (branch_above (code_in s0) seated.valid up.0 m in_threads up.1)

          one_longer : (l : List PlainPacket) (z : PlainPacket) → length (l ++ z ∷ []) ≡ length l + 1
          one_longer [] z = refl
          one_longer (a ∷ l) z = let ih = one_longer l z in omega (arith, ih)

          in_seats : suc m < length s3.seats
          in_seats =
              let a = leaves3.seat_count in
              let b = work_begins.seat_count in omega (arith, a, b, seated.seats, in_threads)

          pub back : LacksPacket s0 m → IsBack at_end m
          back lacks = record {
            idle = record {
              thread = h2;
              sits = record { seat = y; at = get_set s3.seats (suc m) y in_seats; is = is; loaded = loaded2; number = number3 };
              free = vacant;
              resting = replied.resting;
              child = subst (λ (o : Option (Taker PlainPacket)). IsChild o false) (sym child4) refl;
              jobs = idle.jobs ++ asks.job ∷ [];
              are = subst (λ l. AreJobs l (idle.jobs ++ asks.job ∷ [])) (sym taken4) are3;
              done = subst (λ x. HasDone (plain_code x) h2 at_end.mail (idle.jobs ++ asks.job ∷ [])) (sym code_end)
                  (done_keeps (code_in s0) h2 s3.mail at_end.mail (idle.jobs ++ asks.job ∷ []) (λ j mine. work_ends.parents j) ends.done);
              last = subst (λ x. LastReply (plain_code x) m (taken at_end.mail m) h2) (sym code_end)
                  (subst (λ l. LastReply (code_in s0) m l h2) (sym taken4) (last q' its_answers (paused_by h2 p'.kind kind')));
              even =
                  ap length answered4 ∙ one_longer (answered s3.mail m) q' ∙ ap (λ l. length l + 1) answered3 ∙ ap (λ n. n + 1) idle.even ∙ sym (one_longer (taken s0.mail m) q)
                  ∙ ap length (sym (taken4 ∙ taken3));
            };
            lacks = record {
              out = subst (λ (o : Option (Sender PlainPacket)). IsParent o Out) (sym parent_end) lacks.out;
              empty = leaves_all.hands m up.0 up.1 (branch_above (code_in s0) seated.valid up.0 m in_threads up.1) ∙ lacks.empty;
            };
            all = taken4 ∙ taken3 ∙ all ∙ sym (ap sent_by parent_end);
          }
