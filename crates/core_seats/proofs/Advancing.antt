-- A thread runs to its next event, and waits at a fork or answers.
use Rattle.std.proofs.Common.{◌≡◌, ℕ, zero, suc, ◌+◌, ◌<◌, true, false, cond, Option, Some, None, List, [], ◌∷◌, ◌++◌, length, map, refl, sym, ap, ◌∙◌, subst, append-nil, arith}
use Rattle.std.specs.Prelude.{slice_get, slice_set, drop}
use Rattle.std.proofs.lemmas.List.{length-set, length-append}
use Rattle.forec_kernel.specs.Packets.{PlainPacket}
use Rattle.forec_kernel.specs.Packed.{HasRoom, AreJobs, PacketAnswers}
use Rattle.forec_kernel.specs.Engine.{Job, Reply, Written, Exchange, Answered, Answers, jobs_to, pair_up}
use Rattle.thread_code.specs.declared.instruction.CodeParts.{CodeParts}
use Rattle.thread_code.specs.Plain.{PlainCode, plain_code}
use Rattle.thread_code.specs.Valid.{of_shape}
use Rattle.thread_code.specs.Alone.{CodeAlone}
use Rattle.combine_tree.specs.declared.packet.Packet.{Packet}
use Rattle.combine_tree.specs.declared.packet.PacketKind.TheVariants as kind
use Rattle.combine_tree.specs.Plain.{plain_packet}
use Rattle.core_machine.specs.declared.thread.Thread.{Thread}
use Rattle.core_machine.specs.Threads.{Loaded, StandsFor, HasSettled, HasReply, RepliesToLast}
use Rattle.core_machine.specs.Forks.{jobs_at}
use Rattle.core_machine.specs.Replies.{RepliesByKind}
use Rattle.copy_slots.specs.declared.view.Taker.{Taker}
use Rattle.copy_slots.specs.Mail.{taker_answered}
use Rattle.copy_slots.specs.Ports.{child_at, on_child, on_taker, sent_by, got_by, taken_by, answered_by, words_of_parent, words_of_child, IsChild, ChildIs, sent, taken, answered, looked_by_child, after_answer}
use Rattle.core_seats.specs.declared.active.Active.{Active}
use Rattle.core_seats.specs.declared.seat.Seat.{Seat}
use Rattle.core_seats.specs.Asking.{Replies}
use Rattle.tick_jobs.specs.Branches.{IsBranchOf}
use Rattle.core_seats.specs.Changes.{Extends, GainsOne, HasWorked, forked}
use Rattle.core_seats.specs.Descending.{IsRunning, HasFinished, IsHeld}
use Rattle.tick_jobs.specs.Writing.{Log, heard, told}
use Rattle.core_seats.specs.Done.{InJob, through}
use Rattle.core_seats.specs.Keeping.{SchedulerState, code_in, IsSeated, LastReply, last, AtFork}
use Rattle.core_seats.specs.Waiting.{jobs_out, HasTold, IsForked, IsGathering, IsWorking, IsWaiting, IsAtRest, RestsOrWaits, rests}
use Rattle.core_seats.specs.Serving.{ChangesBranches, Touches}
use Rattle.copy_slots.proofs.PortLemmas.{child_here, child_else, parent_on_child}
use Rattle.core_seats.proofs.Mails.{children_count, is_child, extends_same, extends_one}
use Rattle.tick_jobs.proofs.Lists.{by_equal, get_set, get_set_else, length_then}
use Rattle.core_seats.proofs.KeepingLemmas.{done_keeps, paused_by}
use Rattle.tick_jobs.proofs.Pairs.{same_test, no_pairs}
use Rattle.tick_jobs.proofs.Logs.{Ends, job_ends}
use Rattle.core_seats.proofs.AfterFork.{fork_at, is_forked, posts_answered}
use Rattle.core_seats.proofs.OneMoreExchange.{changed, changed_is, told_posts}
use Rattle.core_seats.proofs.WaitingLemmas.{work_keeps, has_keeps}

-- ---- the jobs of a fork were sent

-- and none was replied to
pub forked_gathering : (s : SchedulerState) (h : Thread) (pairs : List Answered) → IsForked (code_in s) h → HasTold s h.number pairs (jobs_at (code_in s) h) → IsGathering s h pairs
forked_gathering s h pairs at_fork all = record {
  forked = at_fork;
  replies = [];
  gathered = record {
    within = omega arith;
    heard = λ i n r at there. none_there i r there;
    told = let ws = jobs_at (code_in s) h in subst (HasTold s h.number (pairs ++ pair_up ws [])) (sym (drop_none ws)) (subst (λ l. HasTold s h.number l ws) (sym (append-nil pairs) ∙ ap (λ l. pairs ++ l) (sym (no_pairs ws))) all);
  };
}
  where
    drop_none : (l : List Written) → drop 0 l ≡ l
    drop_none [] = refl
    drop_none (x ∷ l) = refl

    none_there : {A : Type 0} (i : ℕ) (r : Reply) → slice_get [] i ≡ Some r → A
    none_there zero r e = cc
    none_there (suc i) r e = cc

-- another thread with the same number, which stands for the same
pub work_by : (s : SchedulerState) (h : Thread) (m t : ℕ) → h.number ≡ t → t ≡ suc m → Loaded (code_in s) h → ChildIs s.mail m true → (jobs : List Job) (job : Job) → AreJobs (taken s.mail m) (jobs ++ job ∷ []) → length (answered s.mail m) + 1 ≡ length (taken s.mail m) →
    (log : Log (code_in s) t jobs job) → StandsFor (code_in s) h (heard (code_in s) t jobs job log) → HasTold s t (told (code_in s) t jobs job log) [] → IsWorking s h
work_by s h m t number at loaded child jobs job are even =
    subst (λ n. (log : Log (code_in s) n jobs job) → StandsFor (code_in s) h (heard (code_in s) n jobs job log) → HasTold s n (told (code_in s) n jobs job log) [] → IsWorking s h) number
    (λ log stands told. record {
      work = record { mailbox = m; number = number ∙ at; loaded = loaded; child = child; jobs = jobs; job = job; are = are; even = even; log = log; stands = stands };
      told = told;
    })

pub has_run : (s : SchedulerState) (h0 h1 : Thread) → IsWorking s h0 → Loaded (code_in s) h1 → h1.number ≡ h0.number → ((xs : List Exchange) → StandsFor (code_in s) h0 xs → StandsFor (code_in s) h1 xs) → IsWorking s h1
has_run s h0 h1 w loaded number stands =
    let k = w.work in
    work_by s h1 k.mailbox h0.number number k.number loaded k.child k.jobs k.job k.are k.even k.log (stands (heard (code_in s) h0.number k.jobs k.job k.log) k.stands) w.told

in_job_of : (s : SchedulerState) (h : Thread) (w : IsWorking s h) → InJob (code_in s) h s.mail w.work.jobs w.work.job
in_job_of s h w = record { log = w.work.log; stands = w.work.stands; posts = told_posts s h.number (told (code_in s) h.number w.work.jobs w.work.job w.work.log) w.told }

jobs_count : (ps : List PlainPacket) (js : List Job) → AreJobs ps js → length ps ≡ length js
jobs_count [] [] h = refl
jobs_count [] (j ∷ js) h = absurd h
jobs_count (p ∷ ps) [] h = absurd h
jobs_count (p ∷ ps) (j ∷ js) h = ap suc (jobs_count ps js h.1)

module _ (s0 : SchedulerState) (m : ℕ) (inside : m < length s0.mail.ends) (seated : IsSeated s0) (h : Thread) (number : h.number ≡ suc m) (w : IsWorking s0 h) where
  abbrev c : PlainCode
  c = code_in s0

  at_m : w.work.mailbox ≡ m
  at_m = let n = w.work.number in omega (arith, n, number)

  child_m : ChildIs s0.mail m true
  child_m = subst (λ k. ChildIs s0.mail k true) at_m w.work.child

  are_m : AreJobs (taken s0.mail m) (w.work.jobs ++ w.work.job ∷ [])
  are_m = subst (λ k. AreJobs (taken s0.mail k) (w.work.jobs ++ w.work.job ∷ [])) at_m w.work.are

  even_m : length (answered s0.mail m) + 1 ≡ length (taken s0.mail m)
  even_m = subst (λ k. length (answered s0.mail k) + 1 ≡ length (taken s0.mail k)) at_m w.work.even

  in_threads : suc m < length c.threads
  in_threads = let n = seated.mailboxes in omega (arith, inside, n)

  in_seats : suc m < length s0.seats
  in_seats = let n = seated.seats in let k = in_threads in omega (arith, n, k)

  -- ---- at a fork

  module _ (settled : HasSettled h 0) (numbers : h.branches.numbers ≡ map (λ w. w.branch) (jobs_at c h)) where
    pub its_fork : AtFork s0 h
    its_fork = fork_at s0 seated.valid h w.work.loaded settled numbers w.work.jobs w.work.job (in_job_of s0 h w)

    pub it_forks : IsForked c h
    it_forks = is_forked c seated.valid h w.work.loaded settled numbers s0.mail w.work.jobs w.work.job (in_job_of s0 h w)

    module _ (s1 : SchedulerState) (moves : ChangesBranches h.number s0 s1) (told1 : (pairs : List Answered) → HasTold s0 h.number pairs [] → HasTold s1 h.number pairs (jobs_at c h)) where
      abbrev ws : List Written
      ws = jobs_at c h

      abbrev pairs : List Answered
      pairs = told c h.number w.work.jobs w.work.job w.work.log

      abbrev s1' : SchedulerState
      s1' = changed s0 s1.mail s1.seats s1.hands

      path1 : s1' ≡ s1
      path1 = changed_is s0 s1 moves.code moves.places

      told_now : HasTold s1' h.number pairs ws
      told_now = subst (λ x. HasTold x h.number pairs ws) (sym path1) (told1 pairs w.told)

      it_waits : IsWaiting s1' h
      it_waits = record {
        work = work_keeps s0 s1.mail s1.seats s1.hands moves.alike.blanks moves.alike.count h w.work (moves.children w.work.mailbox);
        gathering = forked_gathering s1' h pairs it_forks told_now;
      }

      pub fork_held : (p : Packet) → HasRoom (of_shape c.shape) (suc m) (plain_packet p) → IsHeld s1 (record { mailbox = m; thread = h; packet = p })
      fork_held p room =
          let count = moves.alike.count in
          subst (λ x. IsHeld x (record { mailbox = m; thread = h; packet = p })) path1 (record {
            active = record { inside = omega (arith, inside, count); number = number; loaded = w.work.loaded; room = room };
            waiting = it_waits;
          })

      pub fork_worked : HasWorked c.shape s0.mail s1.mail m
      fork_worked =
          let v = first ws (let n = ap length it_forks.numbers in let k = length_map ws in let s = it_forks.some in omega (arith, n, k, s)) in
          let it = it_forks.each 0 v.0 (ap (λ l. slice_get l 0) v.2) in
          let j = it.mailbox in
          let before = jobs_count (sent s0.mail j) (jobs_to (suc j) pairs ++ []) (w.told.sent j it.mine) in
          let after = jobs_count (sent s1.mail j) (jobs_to (suc j) pairs ++ jobs_out (suc j) ws) (told_now.sent j it.mine) in
          let long = length-append (jobs_to (suc j) pairs) (jobs_out (suc j) ws) in
          let short = length-append (jobs_to (suc j) pairs) [] in
          let one = ap (λ l. length (jobs_out (suc j) l)) v.2 ∙ ap (λ t. length (cond t (v.0.job ∷ jobs_out (suc j) v.1) (jobs_out (suc j) v.1))) (same_test v.0.branch (suc j) it.branch) in
          forked j (subst (λ t. IsBranchOf c.shape t j) number it.mine) (moves.grown.sent j) (omega (arith, before, after, long, short, one))
        where
          length_map : (l : List Written) → length (map (λ w. w.branch) l) ≡ length l
          length_map [] = refl
          length_map (x ∷ l) = ap suc (length_map l)

          first : (l : List Written) → 0 < length l → (x : Written) × (r : List Written) × (l ≡ x ∷ r)
          first [] lt = absurd (omega arith)
          first (x ∷ r) lt = (x, r, refl)

  -- ---- with a reply

  module _ (done : HasReply h) (p : Packet) (room : HasRoom (of_shape c.shape) (suc m) (plain_packet p)) (kind_is : RepliesByKind h p.kind) (gives : (xs : List Exchange) → StandsFor c h xs → RepliesToLast c h.number xs (plain_packet p)) where
    abbrev q : PlainPacket
    q = plain_packet p

    ends : Ends c h (through c s0.mail) (w.work.jobs ++ w.work.job ∷ []) q
    ends = job_ends c h (through c s0.mail) (posts_answered c s0.mail) w.work.jobs w.work.job q (let k = in_threads in omega (arith, number, k)) (in_job_of s0 h w) gives

    its_answers : PacketAnswers (CodeAlone c) (length c.threads) (suc m) (taken s0.mail m) q
    its_answers = record {
      plain_jobs = w.work.jobs ++ w.work.job ∷ [];
      plain_reply = ends.reply;
      jobs_are = are_m;
      reply_is = ends.is;
      answers = subst (λ t. Answers (CodeAlone c) (length c.threads) t (w.work.jobs ++ w.work.job ∷ []) ends.reply) number ends.answers;
    }

    pub its_replies : Replies (plain_code s0.mail.work.code.value) m (taken s0.mail m) q
    its_replies = subst (λ x. Replies (plain_code x) m (taken s0.mail m) q) (sym seated.work) (record { room = room; answers = its_answers })

    abbrev seat0 : Seat
    seat0 = record { thread = Some h; job = None }

    abbrev pub at_end : SchedulerState
    at_end = record s0 { mail = record s0.mail { ends = on_child s0.mail.ends m (taker_answered q) }; seats = slice_set s0.seats (suc m) seat0 }

    taker : (z : Taker PlainPacket) × (child_at s0.mail.ends m ≡ Some z) × (z.holds ≡ true)
    taker = is_child (child_at s0.mail.ends m) true child_m

    child_now : child_at at_end.mail.ends m ≡ Some (taker_answered q taker.0)
    child_now = child_here s0.mail.ends m (taker_answered q) ∙ ap (on_taker (taker_answered q)) taker.1

    taken_now : taken at_end.mail m ≡ taken s0.mail m
    taken_now = ap taken_by child_now ∙ sym (ap taken_by taker.1)

    answered_now : answered at_end.mail m ≡ answered s0.mail m ++ q ∷ []
    answered_now = ap answered_by child_now ∙ ap (λ l. l ++ q ∷ []) (sym (ap answered_by taker.1))

    looked_now : looked_by_child at_end.mail m ≡ looked_by_child s0.mail m
    looked_now = ap words_of_child child_now ∙ sym (ap words_of_child taker.1)

    it_rests : IsAtRest at_end m
    it_rests = record {
      idle = record {
        thread = h;
        sits = record { seat = seat0; at = get_set s0.seats (suc m) seat0 in_seats; is = refl; loaded = w.work.loaded; number = number };
        free = refl;
        resting = done.resting;
        child = subst (λ (o : Option (Taker PlainPacket)). IsChild o false) (sym child_now) refl;
        jobs = w.work.jobs ++ w.work.job ∷ [];
        are = subst (λ l. AreJobs l (w.work.jobs ++ w.work.job ∷ [])) (sym taken_now) are_m;
        done = done_keeps c h s0.mail at_end.mail (w.work.jobs ++ w.work.job ∷ []) (λ j mine. parent_on_child s0.mail.ends m j (taker_answered q)) ends.done;
        last = subst (λ l. LastReply c m l h) (sym taken_now) (last q its_answers (paused_by h p.kind kind_is));
        even = ap length answered_now ∙ length_then (answered s0.mail m) q ∙ even_m ∙ ap length (sym taken_now);
      };
      has = λ j lt is.
          let count = children_count s0.mail.ends m (taker_answered q) in
          has_keeps s0 at_end.mail at_end.seats s0.hands refl count j (parent_on_child s0.mail.ends m j (taker_answered q)) refl
          (w.told.has j (omega (arith, lt, count)) (subst (λ t. IsBranchOf c.shape t j) (sym number) is) (λ o. o));
    }

    pub end_between : RestsOrWaits at_end m
    end_between = rests it_rests

    pub end_gains : GainsOne (answered s0.mail m) (answered at_end.mail m)
    end_gains = record { one = q; is = answered_now }

    pub end_touches : Touches m s0 at_end
    end_touches = record {
      code = refl;
      places = refl;
      alike = record { work = refl; blanks = refl; tells = refl; root = refl; count = children_count s0.mail.ends m (taker_answered q); stops = extends_same _ _ refl };
      grown = record {
        sent = λ k. extends_same _ _ (ap sent_by (parent_on_child s0.mail.ends m k (taker_answered q)));
        got = λ k. extends_same _ _ (ap got_by (parent_on_child s0.mail.ends m k (taker_answered q)));
        taken = λ k. by_equal k m (λ n. extends_same _ _ (ap taken_by (child_else s0.mail.ends m k (taker_answered q) n))) (λ e. subst (λ i. Extends (taken s0.mail i) (taken at_end.mail i)) (sym e) (extends_same _ _ taken_now));
        answered = λ k. by_equal k m (λ n. extends_same _ _ (ap answered_by (child_else s0.mail.ends m k (taker_answered q) n))) (λ e. subst (λ i. Extends (answered s0.mail i) (answered at_end.mail i)) (sym e) (extends_one _ _ q answered_now));
        looked_by_parent = λ k. extends_same _ _ (ap words_of_parent (parent_on_child s0.mail.ends m k (taker_answered q)));
        looked_by_child = λ k. by_equal k m (λ n. extends_same _ _ (ap words_of_child (child_else s0.mail.ends m k (taker_answered q) n))) (λ e. subst (λ i. Extends (looked_by_child s0.mail i) (looked_by_child at_end.mail i)) (sym e) (extends_same _ _ looked_now));
        stops = extends_same _ _ refl;
      };
      seats = λ j n. get_set_else s0.seats (suc m) j seat0 n;
      seat_count = length-set s0.seats (suc m) seat0;
      children = λ j n. child_else s0.mail.ends m j (taker_answered q) n;
      parents = λ j n. parent_on_child s0.mail.ends m j (taker_answered q);
      hands = λ j n. refl;
      hand_count = refl;
    }

-- ---- in the words of the calls

module _ (s0 : SchedulerState) (seated : IsSeated s0) (x : Active) (r : IsRunning s0 x) (h0 : Thread) (same : h0 ≡ x.thread) (c1 : CodeParts) (code : c1 ≡ s0.code) (h1 : Thread) (loaded : Loaded (plain_code c1) h1) (number : h1.number ≡ h0.number)
    (stands : (xs : List Exchange) → StandsFor (plain_code c1) h0 xs → StandsFor (plain_code c1) h1 xs) where
  run_number : h1.number ≡ suc x.mailbox
  run_number = number ∙ ap (λ (t : Thread). t.number) same ∙ r.active.number

  run_loaded : Loaded (code_in s0) h1
  run_loaded = subst (λ (z : CodeParts). Loaded (plain_code z) h1) code loaded

  run_working : IsWorking s0 h1
  run_working =
      has_run s0 x.thread h1 r.working run_loaded (number ∙ ap (λ (t : Thread). t.number) same)
      (λ xs st. subst (λ (z : CodeParts). StandsFor (plain_code z) h1 xs) code (stands xs (subst (λ (z : CodeParts). StandsFor (plain_code z) h0 xs) (sym code) (subst (λ t. StandsFor (code_in s0) t xs) (sym same) st))))

  pub run_finished : HasReply h1 → HasFinished s0 (record { mailbox = x.mailbox; thread = h1; packet = x.packet })
  run_finished reply = record {
    active = record { inside = r.active.inside; number = run_number; loaded = run_loaded; room = r.active.room };
    working = run_working;
    reply = reply;
  }

  module _ (settled : HasSettled h1 0) (numbers : h1.branches.numbers ≡ map (λ w. w.branch) (jobs_at (plain_code c1) h1)) where
    its_numbers : h1.branches.numbers ≡ map (λ w. w.branch) (jobs_at (code_in s0) h1)
    its_numbers = subst (λ (z : CodeParts). h1.branches.numbers ≡ map (λ w. w.branch) (jobs_at (plain_code z) h1)) code numbers

    pub run_fork : AtFork s0 h1
    run_fork = its_fork s0 x.mailbox r.active.inside seated h1 run_number run_working settled its_numbers

    module _ (s1 : SchedulerState) (moves : ChangesBranches h1.number s0 s1) (told1 : (pairs : List Answered) → HasTold s0 h1.number pairs [] → HasTold s1 h1.number pairs (jobs_at (code_in s0) h1)) where
      pub run_held : IsHeld s1 (record { mailbox = x.mailbox; thread = h1; packet = x.packet })
      run_held = fork_held s0 x.mailbox r.active.inside seated h1 run_number run_working settled its_numbers s1 moves told1 x.packet r.active.room

      pub run_worked : HasWorked (code_in s0).shape s0.mail s1.mail x.mailbox
      run_worked = fork_worked s0 x.mailbox r.active.inside seated h1 run_number run_working settled its_numbers s1 moves told1

module _ (s0 : SchedulerState) (seated : IsSeated s0) (x : Active) (f : HasFinished s0 x) (h0 : Thread) (same : h0 ≡ x.thread) (c1 : CodeParts) (code : c1 ≡ s0.code) (p : Packet) (room : HasRoom (of_shape (plain_code c1).shape) h0.number (plain_packet p)) (kind_is : RepliesByKind h0 p.kind)
    (gives : (xs : List Exchange) → StandsFor (plain_code c1) h0 xs → RepliesToLast (plain_code c1) h0.number xs (plain_packet p)) (s1 : SchedulerState) (sitting : s1 ≡ record s0 { seats = slice_set s0.seats (x.mailbox + 1) (record { thread = Some x.thread; job = None }) }) where
  its_room : HasRoom (of_shape (code_in s0).shape) (suc x.mailbox) (plain_packet p)
  its_room =
      subst (λ t. HasRoom (of_shape (code_in s0).shape) t (plain_packet p)) (ap (λ (t : Thread). t.number) same ∙ f.active.number)
      (subst (λ (z : CodeParts). HasRoom (of_shape (plain_code z).shape) h0.number (plain_packet p)) code room)

  its_kind : RepliesByKind x.thread p.kind
  its_kind = subst (λ t. RepliesByKind t p.kind) same kind_is

  it_gives : (xs : List Exchange) → StandsFor (code_in s0) x.thread xs → RepliesToLast (code_in s0) x.thread.number xs (plain_packet p)
  it_gives xs st =
      subst (λ (t : Thread). RepliesToLast (code_in s0) t.number xs (plain_packet p)) same
      (subst (λ (z : CodeParts). RepliesToLast (plain_code z) h0.number xs (plain_packet p)) code (gives xs (subst (λ (z : CodeParts). StandsFor (plain_code z) h0 xs) (sym code) (subst (λ t. StandsFor (code_in s0) t xs) (sym same) st))))

  sits_now : s1 ≡ record s0 { seats = slice_set s0.seats (suc x.mailbox) (record { thread = Some x.thread; job = None }) }
  sits_now = let one : x.mailbox + 1 ≡ suc x.mailbox = omega arith in sitting ∙ ap (λ n. record s0 { seats = slice_set s0.seats n (record { thread = Some x.thread; job = None }) }) one

  pub finish_replies : Replies (plain_code s1.mail.work.code.value) x.mailbox (taken s1.mail x.mailbox) (plain_packet p)
  finish_replies =
      subst (λ (s : SchedulerState). Replies (plain_code s.mail.work.code.value) x.mailbox (taken s.mail x.mailbox) (plain_packet p)) (sym sits_now)
      (its_replies s0 x.mailbox f.active.inside seated x.thread f.active.number f.working f.reply p its_room its_kind it_gives)

  module _ (s2 : SchedulerState) (answering : s2 ≡ record s1 { mail = after_answer x.mailbox (plain_packet p) s1.mail }) where
    ends_now : s2 ≡ at_end s0 x.mailbox f.active.inside seated x.thread f.active.number f.working f.reply p its_room its_kind it_gives
    ends_now = answering ∙ ap (λ (s : SchedulerState). record s { mail = after_answer x.mailbox (plain_packet p) s.mail }) sits_now

    pub finish_touches : Touches x.mailbox s0 s2
    finish_touches = subst (Touches x.mailbox s0) (sym ends_now) (end_touches s0 x.mailbox f.active.inside seated x.thread f.active.number f.working f.reply p its_room its_kind it_gives)

    pub finish_between : RestsOrWaits s2 x.mailbox
    finish_between = subst (λ (s : SchedulerState). RestsOrWaits s x.mailbox) (sym ends_now) (end_between s0 x.mailbox f.active.inside seated x.thread f.active.number f.working f.reply p its_room its_kind it_gives)

    pub finish_gains : GainsOne (answered s0.mail x.mailbox) (answered s2.mail x.mailbox)
    finish_gains = subst (λ (s : SchedulerState). GainsOne (answered s0.mail x.mailbox) (answered s.mail x.mailbox)) (sym ends_now) (end_gains s0 x.mailbox f.active.inside seated x.thread f.active.number f.working f.reply p its_room its_kind it_gives)
