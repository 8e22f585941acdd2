-- A thread that waits looks for the replies of its branches, and goes on with them.
use Rattle.std.proofs.Common.{◌≡◌, ◌≢◌, ℕ, zero, suc, ◌+◌, ◌<◌, ◌≤◌, Some, None, List, [], ◌∷◌, ◌++◌, length, refl, sym, ap, ◌∙◌, subst, arith}
use Rattle.std.specs.Prelude.{slice_get, slice_set, drop}
use Rattle.std.proofs.lemmas.List.{length-set, length-map}
use Rattle.forec_kernel.specs.Packed.{HasRoom}
use Rattle.forec_kernel.specs.Engine.{Job, Reply, Written, Exchange, Answered, pair_up}
use Rattle.thread_code.specs.Plain.{plain_code}
use Rattle.thread_code.specs.Valid.{of_shape}
use Rattle.combine_tree.specs.declared.packet.Packet.{Packet}
use Rattle.combine_tree.specs.Plain.{plain_packet}
use Rattle.core_machine.specs.declared.thread.Thread.{Thread}
use Rattle.core_machine.specs.Threads.{Loaded, StandsFor, CanRun}
use Rattle.core_machine.specs.Forks.{jobs_at, with_replies}
use Rattle.copy_slots.specs.Ports.{parent_at, child_at}
use Rattle.core_seats.specs.Done.{through}
use Rattle.core_seats.specs.declared.seat.Seat.{Seat}
use Rattle.core_seats.specs.Posts.{Mail}
use Rattle.tick_jobs.specs.Branches.{IsBranchOf}
use Rattle.core_seats.specs.Changes.{Grown}
use Rattle.core_seats.specs.Descending.{IsActive, IsRunning, IsHeld}
use Rattle.tick_jobs.specs.Writing.{Log, heard, told}
use Rattle.core_seats.specs.Keeping.{SchedulerState, code_in, KeepsPort, IsSeated, HaveHeard}
use Rattle.core_seats.specs.Waiting.{HasTold, IsGathering, HasReplies, IsAtWork, IsWorking, IsWaiting, WaitsAt}
use Rattle.core_seats.specs.OnJob.{IsOnJob}
use Rattle.core_seats.specs.Serving.{ChangesBranches, Touches}
use Rattle.tick_jobs.proofs.Lists.{get_set_else, some_once}
use Rattle.tick_jobs.proofs.AfterFork.{with_none, in_job_now}
use Rattle.core_seats.proofs.OneMoreExchange.{changed, changed_is, told_posts, posts_told}
use Rattle.core_seats.proofs.WaitingLemmas.{work_keeps, waiting_keeps}
use Rattle.core_seats.proofs.GatherReplies.{all_heard}

-- ---- its work stays while its branches are looked at

-- it waits at a fork, and all replies are in hand
pub record HasAll (s : SchedulerState) (h : Thread) : Type 0 where
  pub waiting : IsWaiting s h
  pub all : length waiting.gathering.replies ≡ length h.branches.numbers

module _ (a b : SchedulerState) (h : Thread) (moves : ChangesBranches h.number a b) (w : IsWaiting a h) where
  abbrev pub its_pairs : List Answered
  its_pairs = told (code_in a) h.number w.work.jobs w.work.job w.work.log

  path : changed a b.mail b.seats b.hands ≡ b
  path = changed_is a b moves.code moves.places

  abbrev its_work : IsAtWork (changed a b.mail b.seats b.hands) h
  its_work = work_keeps a b.mail b.seats b.hands moves.alike.blanks moves.alike.count h w.work (moves.children w.work.mailbox)

  pub waits_on : IsGathering b h its_pairs → IsWaiting b h
  waits_on = subst (λ x. IsGathering x h its_pairs → IsWaiting x h) path (λ g. record { work = its_work; gathering = g })

  pub waits_all : HasReplies b h its_pairs → HasAll b h
  waits_all = subst (λ x. HasReplies x h its_pairs → HasAll x h) path (λ r. record { waiting = record { work = its_work; gathering = r.gathering }; all = r.all })

-- ---- out of its seat

module _ (s0 : SchedulerState) (m : ℕ) (inside : m < length s0.mail.ends) (seated : IsSeated s0) (w : WaitsAt s0 m) (x : Seat) (found : slice_get s0.seats (m + 1) ≡ Some x) (s1 : SchedulerState) (rising : s1 ≡ record s0 { seats = slice_set s0.seats (m + 1) (record { thread = None; job = None }) })
    (h : Thread) (is : x.thread ≡ Some h) (p : Packet) (holds : x.job ≡ Some p) where
  abbrev empty : Seat
  empty = record { thread = None; job = None }

  one : m + 1 ≡ suc m
  one = omega arith

  seat_is : w.sits.seat ≡ x
  seat_is = some_once w.sits.seat x (sym w.sits.at ∙ ap (λ n. slice_get s0.seats n) (sym one) ∙ found)

  same_thread : w.thread ≡ h
  same_thread = some_once w.thread h (sym w.sits.is ∙ ap (λ (z : Seat). z.thread) seat_is ∙ is)

  same_packet : w.packet ≡ p
  same_packet = some_once w.packet p (sym w.holds ∙ ap (λ (z : Seat). z.job) seat_is ∙ holds)

  pub its_number : h.number ≡ suc m
  its_number = ap (λ (t : Thread). t.number) (sym same_thread) ∙ w.sits.number

  pub up_waits : IsWaiting s1 h
  up_waits =
      subst (λ s. IsWaiting s h) (sym rising)
      (subst (IsWaiting (record s0 { seats = slice_set s0.seats (m + 1) empty })) same_thread
      (waiting_keeps s0 s0.mail (slice_set s0.seats (m + 1) empty) s0.hands refl refl w.thread (λ j mine. refl) (λ j mine. refl) w.waiting refl))

  mail_is : s1.mail ≡ s0.mail
  mail_is = ap (λ (s : SchedulerState). s.mail) rising

  code_is : s1.code ≡ s0.code
  code_is = ap (λ (s : SchedulerState). s.code) rising

  module _ (s2 : SchedulerState) (moves : ChangesBranches h.number s1 s2) where
    code2 : s2.code ≡ s0.code
    code2 = moves.code ∙ code_is

    child2 : (j : ℕ) → child_at s2.mail.ends j ≡ child_at s0.mail.ends j
    child2 j = moves.children j ∙ ap (λ (s : SchedulerState). child_at s.mail.ends j) rising

    not_mine : (j : ℕ) → (IsBranchOf (code_in s0).shape (suc m) j → ⊥) → IsBranchOf (code_in s1).shape h.number j → ⊥
    not_mine j n mine = n (subst (λ t. IsBranchOf (code_in s0).shape t j) its_number (subst (λ c. IsBranchOf (plain_code c).shape h.number j) code_is mine))

    seat_else : (j : ℕ) → j ≢ suc m → slice_get s1.seats j ≡ slice_get s0.seats j
    seat_else j n = ap (λ (s : SchedulerState). slice_get s.seats j) rising ∙ get_set_else s0.seats (m + 1) j empty (λ e. n (e ∙ one))

    pub up_touches : Touches m s0 s2
    up_touches = record {
      code = code2;
      places = moves.places ∙ ap (λ (s : SchedulerState). s.places) rising;
      alike = subst (λ (mail : Mail). KeepsPort mail s2.mail) mail_is moves.alike;
      grown = subst (λ (mail : Mail). Grown mail s2.mail) mail_is moves.grown;
      seats = λ j n. ap (λ l. slice_get l j) moves.seats ∙ seat_else j n;
      seat_count = ap length moves.seats ∙ ap (λ (s : SchedulerState). length s.seats) rising ∙ length-set s0.seats (m + 1) empty;
      children = λ j n. child2 j;
      parents = λ j n. moves.parents j (not_mine j n) ∙ ap (λ (s : SchedulerState). parent_at s.mail.ends j) rising;
      hands = λ j n. moves.hands j (not_mine j n) ∙ ap (λ (s : SchedulerState). slice_get s.hands j) rising;
      hand_count = moves.hand_count ∙ ap (λ (s : SchedulerState). length s.hands) rising;
    }

    pub up_room : HasRoom (of_shape (code_in s2).shape) (suc m) (plain_packet p)
    up_room = subst (λ c. HasRoom (of_shape (plain_code c).shape) (suc m) (plain_packet p)) (sym code2) (subst (λ q. HasRoom (of_shape (code_in s0).shape) (suc m) (plain_packet q)) same_packet w.room)

    pub up_active : (h1 : Thread) → h1.number ≡ h.number → Loaded (code_in s2) h1 → IsActive s2 (record { mailbox = m; thread = h1; packet = p })
    up_active h1 number loaded = record {
      inside = let count = up_touches.alike.count in omega (arith, inside, count);
      number = number ∙ its_number;
      loaded = loaded;
      room = up_room;
    }

    -- a branch has not replied
    pub up_held : IsWaiting s2 h → IsHeld s2 (record { mailbox = m; thread = h; packet = p })
    up_held waiting = record { active = up_active h refl waiting.work.loaded; waiting = waiting }

    -- all have
    pub up_running : (h1 : Thread) → h1.number ≡ h.number → Loaded (code_in s2) h1 → IsWorking s2 h1 → CanRun h1 → IsRunning s2 (record { mailbox = m; thread = h1; packet = p })
    up_running h1 number loaded working running = record { active = up_active h1 number loaded; working = working; running = running }

-- ---- on with the replies

module _ (s : SchedulerState) (seated : IsSeated s) (h : Thread) (loaded : Loaded (code_in s) h) (jobs : List Job) (job : Job) (log : Log (code_in s) h.number jobs job) (stands : StandsFor (code_in s) h (heard (code_in s) h.number jobs job log)) (r : HasReplies s h (told (code_in s) h.number jobs job log))
    (h2 h3 : Thread) (number2 : h2.number ≡ h.number) (number3 : h3.number ≡ h2.number) (branches2 : h2.branches.numbers ≡ h.branches.numbers)
    (settles : (rs : List Reply) (xs : List Exchange) → HaveHeard s h.branches.numbers rs → StandsFor (code_in s) h (with_replies xs []) → StandsFor (code_in s) h2 (with_replies xs rs))
    (joins : (rs : List Reply) (xs : List Exchange) → HaveHeard s h2.branches.numbers rs → StandsFor (code_in s) h2 (with_replies xs rs) → StandsFor (code_in s) h3 (with_replies xs rs)) where
  abbrev w : IsGathering s h (told (code_in s) h.number jobs job log)
  w = r.gathering

  abbrev rs : List Reply
  rs = r.gathering.replies

  abbrev ws : List Written
  ws = jobs_at (code_in s) h

  abbrev pairs : List Answered
  pairs = told (code_in s) h.number jobs job log

  nothing_left : (l : List Written) (n : ℕ) → length l ≤ n → drop n l ≡ []
  nothing_left [] zero le = refl
  nothing_left [] (suc n) le = refl
  nothing_left (v ∷ l) zero le = absurd (omega (arith, le))
  nothing_left (v ∷ l) (suc n) le = nothing_left l n (omega (arith, le))

  all_told : HasTold s h.number (pairs ++ pair_up ws rs) []
  all_told =
      let count = ap length w.forked.numbers ∙ length-map ws (λ v. v.branch) in
      subst (HasTold s h.number (pairs ++ pair_up ws rs)) (nothing_left ws (length rs) (let a = r.all in omega (arith, a, count))) w.gathered.told

  stands3 : StandsFor (code_in s) h3 (with_replies (heard (code_in s) h.number jobs job log) rs)
  stands3 =
      let xs = heard (code_in s) h.number jobs job log in
      let heard_all = all_heard s h pairs r in
      joins rs xs (subst (λ l. HaveHeard s l rs) (sym branches2) heard_all)
      (settles rs xs heard_all (subst (StandsFor (code_in s) h) (sym (with_none log.exchanges (record { job = job; replies = log.before }))) stands))

  pub job_goes_on : IsOnJob s h3 jobs job
  job_goes_on =
      let number = number3 ∙ number2 in
      let j = in_job_now (code_in s) seated.valid h loaded w.forked.settled w.forked.numbers jobs job log stands h3 number (through (code_in s) s.mail) rs r.all (told_posts s h.number (pairs ++ pair_up ws rs) all_told) stands3 in
      record {
        log = j.0.log;
        stands = j.0.stands;
        told = posts_told s h3.number (told (code_in s) h3.number jobs job j.0.log) j.0.posts (λ i lt is. all_told.has i lt (subst (λ t. IsBranchOf (code_in s).shape t i) number is) (λ o. o));
      }

module _ (s : SchedulerState) (seated : IsSeated s) (h : Thread) (r : HasAll s h) (h2 h3 : Thread) (loaded3 : Loaded (code_in s) h3) (number2 : h2.number ≡ h.number) (number3 : h3.number ≡ h2.number) (branches2 : h2.branches.numbers ≡ h.branches.numbers)
    (settles : (rs : List Reply) (xs : List Exchange) → HaveHeard s h.branches.numbers rs → StandsFor (code_in s) h (with_replies xs []) → StandsFor (code_in s) h2 (with_replies xs rs))
    (joins : (rs : List Reply) (xs : List Exchange) → HaveHeard s h2.branches.numbers rs → StandsFor (code_in s) h2 (with_replies xs rs) → StandsFor (code_in s) h3 (with_replies xs rs)) where
  abbrev k : IsAtWork s h
  k = r.waiting.work

  pub goes_on : IsWorking s h3
  goes_on =
      let j = job_goes_on s seated h k.loaded k.jobs k.job k.log k.stands (record { gathering = r.waiting.gathering; all = r.all }) h2 h3 number2 number3 branches2 settles joins in
      record {
        work = record { mailbox = k.mailbox; number = number3 ∙ number2 ∙ k.number; loaded = loaded3; child = k.child; jobs = k.jobs; job = k.job; are = k.are; even = k.even; log = j.log; stands = j.stands };
        told = j.told;
      }
