-- Thread 0 is at work while other threads are served.
use Rattle.std.proofs.Common.{◌≡◌, ℕ, suc, ◌<◌, Option, Some, List, [], ◌∷◌, ◌++◌, length, refl, sym, ap, ◌∙◌, subst, arith}
use Rattle.std.specs.Prelude.{slice_get, slice_set, slice_index_or}
use Rattle.std.proofs.lemmas.List.{length-set}
use Rattle.forec_kernel.specs.Packed.{IsJob}
use Rattle.forec_kernel.specs.Engine.{Job, Reply, Exchange, Answered}
use Rattle.thread_code.specs.declared.instruction.CodeParts.{CodeParts}
use Rattle.thread_code.specs.Plain.{plain_code}
use Rattle.combine_tree.specs.declared.packet.Packet.{Packet}
use Rattle.combine_tree.specs.Plain.{plain_packet}
use Rattle.core_machine.specs.declared.thread.Thread.{Thread}
use Rattle.core_machine.specs.Threads.{Loaded, StandsFor, HasReply, RepliesToLast}
use Rattle.core_machine.specs.Forks.{with_replies}
use Rattle.core_seats.specs.declared.seat.Seat.{Seat}
use Rattle.core_seats.specs.Posts.{Mail}
use Rattle.tick_jobs.specs.Branches.{IsBranchOf}
use Rattle.tick_jobs.specs.Writing.{Log, heard, told}
use Rattle.core_seats.specs.Changes.{Grown}
use Rattle.core_seats.specs.Done.{HasDone, InJob}
use Rattle.core_seats.specs.Ending.{HasReplied}
use Rattle.core_seats.specs.Resting.{RootRests}
use Rattle.core_seats.specs.Keeping.{SchedulerState, code_in, IsSeated, Sits, HasPacket, HaveHeard, AtFork}
use Rattle.core_seats.specs.Waiting.{HasTold, IsForked, IsGathering, HasReplies, HasChild, RestsOrWaits, IsVacant, CanDescend}
use Rattle.core_seats.specs.Serving.{ChangesBranches, KeepsOthers, KeepsServing}
use Rattle.core_seats.specs.OnJob.{IsOnJob}
use Rattle.core_seats.proofs.Mails.{state, alike_same}
use Rattle.tick_jobs.proofs.Forks.{ComesToFork}
use Rattle.tick_jobs.proofs.Lists.{get_set_else}
use Rattle.core_seats.proofs.KeepingLemmas.{packet_keeps, seated_by}
use Rattle.core_seats.proofs.AfterFork.{fork_at, is_forked}
use Rattle.core_seats.proofs.OneMoreExchange.{changed_is, told_posts, posts_told}
use Rattle.core_seats.proofs.WaitingLemmas.{gathering_keeps, between_keeps, between_moves}
use Rattle.core_seats.proofs.Seats.{vacant_by, can_keep}
use Rattle.core_seats.proofs.ServingLemmas.{child_keeps, others_seated}
use Rattle.core_seats.proofs.GatherReplies.{all_heard}
use Rattle.core_seats.proofs.Resuming.{job_goes_on}
use Rattle.core_seats.proofs.Rooted.{raw1_is, number_1, in_job1, root_replies, root_rests}

-- ---- what is kept of the others

pub branches_others : (a b : SchedulerState) (t : ℕ) → t ≡ 0 → ChangesBranches t a b → KeepsOthers a b
branches_others a b t root m = record {
  code = m.code;
  places = m.places;
  alike = m.alike;
  grown = m.grown;
  seat = ap (λ l. slice_get l 0) m.seats;
  seat_count = ap length m.seats;
  hand_count = m.hand_count;
  here = λ j h. child_keeps a.mail b.mail j (m.children j) h;
  was_here = λ j h. child_keeps b.mail a.mail j (sym (m.children j)) h;
  between = λ j h. between_moves a b t m j (λ e. omega (arith, e, root)) h;
  vacant = λ j v. vacant_by a b (suc j) (ap (λ l. slice_get l (suc j)) m.seats) v;
}

pub serving_gathering : (a b : SchedulerState) (h : Thread) → h.number ≡ 0 → KeepsServing a b → (pairs : List Answered) → IsGathering a h pairs → IsGathering b h pairs
serving_gathering a b h root keeps pairs w =
    let own = λ (j : ℕ) (mine : IsBranchOf (code_in a).shape h.number j). subst (λ t. IsBranchOf (code_in a).shape t j) root mine in
    subst (λ x. IsGathering x h pairs) (changed_is a b keeps.code keeps.places)
    (gathering_keeps a b.mail b.seats b.hands keeps.alike.blanks keeps.alike.count h (λ j mine. keeps.root j (own j mine)) (λ j mine. keeps.hands j (own j mine)) pairs w)

-- ---- from fork to fork

-- another thread with the same number, which stands for the same
on_by : (s : SchedulerState) (h : Thread) (t : ℕ) (jobs : List Job) (job : Job) → h.number ≡ t → (log : Log (code_in s) t jobs job) → StandsFor (code_in s) h (heard (code_in s) t jobs job log) → HasTold s t (told (code_in s) t jobs job log) [] → IsOnJob s h jobs job
on_by s h t jobs job number =
    subst (λ n. (log : Log (code_in s) n jobs job) → StandsFor (code_in s) h (heard (code_in s) n jobs job log) → HasTold s n (told (code_in s) n jobs job log) [] → IsOnJob s h jobs job) number
    (λ log stands told. record { log = log; stands = stands; told = told })

pub on_runs : (s : SchedulerState) (h h1 : Thread) (jobs : List Job) (job : Job) → h1.number ≡ h.number → ((xs : List Exchange) → StandsFor (code_in s) h xs → StandsFor (code_in s) h1 xs) → IsOnJob s h jobs job → IsOnJob s h1 jobs job
on_runs s h h1 jobs job number stands on = on_by s h1 h.number jobs job number on.log (stands (heard (code_in s) h.number jobs job on.log) on.stands) on.told

pub on_job : (s : SchedulerState) (h : Thread) (jobs : List Job) (job : Job) → IsOnJob s h jobs job → InJob (code_in s) h s.mail jobs job
on_job s h jobs job on = record { log = on.log; stands = on.stands; posts = told_posts s h.number (told (code_in s) h.number jobs job on.log) on.told }

module _ (a : SchedulerState) (seated : IsSeated a) (h h1 : Thread) (ran : ComesToFork (code_in a) h h1) (jobs : List Job) (job : Job) (before : IsOnJob a h jobs job) where
  pub on_now : IsOnJob a h1 jobs job
  on_now = on_runs a h h1 jobs job ran.number ran.stands before

  abbrev pub pairs_now : List Answered
  pairs_now = told (code_in a) h1.number jobs job on_now.log

  pub told_now : HasTold a h1.number pairs_now []
  told_now = on_now.told

  pub fork_now : AtFork a h1
  fork_now = fork_at a seated.valid h1 ran.loaded ran.settled ran.branches jobs job (on_job a h1 jobs job on_now)

  pub forked_now : IsForked (code_in a) h1
  forked_now = is_forked (code_in a) seated.valid h1 ran.loaded ran.settled ran.branches a.mail jobs job (on_job a h1 jobs job on_now)

  -- its branches were served, and have replied
  module _ (d : SchedulerState) (keeps : KeepsOthers a d) (all : (pairs : List Answered) → HasTold a h1.number pairs [] → HasReplies d h1 pairs) where
    pub replies_now : HasReplies d h1 pairs_now
    replies_now = all pairs_now told_now

    pub heard_now : HaveHeard d h1.branches.numbers replies_now.gathering.replies
    heard_now = all_heard d h1 pairs_now replies_now

    seated_d : IsSeated d
    seated_d = others_seated a d keeps seated

    module _ (h2 h3 : Thread) (number2 : h2.number ≡ h1.number) (number3 : h3.number ≡ h2.number) (branches2 : h2.branches.numbers ≡ h1.branches.numbers)
        (settles : (rs : List Reply) (xs : List Exchange) → HaveHeard d h1.branches.numbers rs → StandsFor (code_in d) h1 (with_replies xs []) → StandsFor (code_in d) h2 (with_replies xs rs))
        (joins : (rs : List Reply) (xs : List Exchange) → HaveHeard d h2.branches.numbers rs → StandsFor (code_in d) h2 (with_replies xs rs) → StandsFor (code_in d) h3 (with_replies xs rs)) where
      pub on_next : IsOnJob d h3 jobs job
      on_next =
          subst
          (λ (x : CodeParts). (log : Log (plain_code x) h1.number jobs job) → StandsFor (plain_code x) h1 (heard (plain_code x) h1.number jobs job log) → HasReplies d h1 (told (plain_code x) h1.number jobs job log) → Loaded (plain_code x) h1 → IsOnJob d h3 jobs job)
          keeps.code (λ log stands replies loaded. job_goes_on d seated_d h1 loaded jobs job log stands replies h2 h3 number2 number3 branches2 settles joins) on_now.log on_now.stands replies_now ran.loaded

-- ---- thread 0 out of its seat

-- another thread in the seat of thread 0
module _ (s : SchedulerState) (y : Seat) where
  abbrev reseated : SchedulerState
  reseated = record s { seats = slice_set s.seats 0 y }

  pub seat_between : (k : ℕ) → RestsOrWaits s k → RestsOrWaits reseated k
  seat_between k b =
      between_keeps s reseated refl refl (alike_same s.mail) k (get_set_else s.seats 0 (suc k) y (λ e. omega (arith, e))) refl (λ i mine. refl)
      (λ i mine. refl) b

  pub seat_vacant : (k : ℕ) → IsVacant s (suc k) → IsVacant reseated (suc k)
  seat_vacant k v = vacant_by s reseated (suc k) (get_set_else s.seats 0 (suc k) y (λ e. omega (arith, e))) v

  pub seat_packet : (k : ℕ) → HasPacket s k → HasPacket reseated k
  seat_packet k p = packet_keeps k s reseated refl (record { parent = refl; hand = refl; blanks = refl }) p

  pub seat_seated : IsSeated s → IsSeated reseated
  seat_seated seated =
      seated_by s reseated refl refl (alike_same s.mail) (length-set s.seats 0 y) refl seated

-- where each packet of its branches is its own, it is on the job
pub job_on : (s : SchedulerState) (h : Thread) → h.number ≡ 0 → ((k : ℕ) → k < length s.mail.ends → IsBranchOf (code_in s).shape 0 k → HasPacket s k) → (jobs : List Job) (job : Job) → InJob (code_in s) h s.mail jobs job → IsOnJob s h jobs job
job_on s h root packets jobs job i = record {
  log = i.log;
  stands = i.stands;
  told = posts_told s h.number (told (code_in s) h.number jobs job i.log) i.posts (λ k lt mine. packets k lt (subst (λ t. IsBranchOf (code_in s).shape t k) root mine));
}

pub packets_after : (s : SchedulerState) (h : Thread) → h.number ≡ 0 → (jobs : List Job) (job : Job) → IsOnJob s h jobs job → (k : ℕ) → k < length s.mail.ends → IsBranchOf (code_in s).shape 0 k → HasPacket s k
packets_after s h root jobs job on k lt mine = on.told.has k lt (subst (λ t. IsBranchOf (code_in s).shape t k) (sym root) mine) (λ o. o)

-- thread 0 is taken out of its seat for a tick's job
pub record TakesUp (s0 : SchedulerState) : Type 0 where
  pub root : RootRests s0
  pub packets : (k : ℕ) → k < length s0.mail.ends → IsBranchOf (code_in s0).shape 0 k → HasPacket s0 k
  pub code : CodeParts
  pub places : List ℕ
  pub mail : Mail
  pub seats : List Seat
  pub hands : List (Option Packet)
  pub view : state code places mail seats hands ≡ s0
  pub x : Seat
  pub read : x ≡ slice_index_or seats 0 x
  pub found : Option Thread
  pub value : found ≡ x.thread
  pub h : Thread
  pub is : found ≡ Some h
  pub y : Seat
  pub p : Packet
  pub h1 : Thread
  pub number : h1.number ≡ h.number
  pub stands : (xs : List Exchange) (job : Job) → IsJob (plain_packet p) job → StandsFor (plain_code code) h xs → StandsFor (plain_code code) h1 (xs ++ record { job = job; replies = [] } ∷ [])

module _ (s0 : SchedulerState) (seated : IsSeated s0) (taken : TakesUp s0) where
  open taken use {root, packets, code, places, mail, seats, hands, view, x, read, found, value, h, is, y, p, h1, number, stands}

  abbrev pub up : SchedulerState
  up = state code places mail (slice_set seats 0 y) hands

  up_is : up ≡ record s0 { seats = slice_set s0.seats 0 y }
  up_is = raw1_is s0 seated.valid root code places mail seats hands view x read found value h is y

  pub up_root : h1.number ≡ 0
  up_root = number_1 s0 seated.valid root code places mail seats hands view x read found value h is y p h1 number stands

  pub up_seated : IsSeated up
  up_seated = subst IsSeated (sym up_is) (seat_seated s0 y seated)

  pub up_each : (own : List ℕ) → ((i k : ℕ) → slice_get own i ≡ Some k → (k < length s0.mail.ends) × RestsOrWaits s0 k) → (i k : ℕ) → slice_get own i ≡ Some k → (k < length up.mail.ends) × RestsOrWaits up k
  up_each own each = subst (λ s. (i k : ℕ) → slice_get own i ≡ Some k → (k < length s.mail.ends) × RestsOrWaits s k) (sym up_is) (λ i k at. let e = each i k at in (e.0, seat_between s0 y k e.1))

  pub up_all : CanDescend s0 0 → CanDescend up 0
  up_all can = subst (λ s. CanDescend s 0) (sym up_is) (can_keep s0 (record s0 { seats = slice_set s0.seats 0 y }) 0 refl (λ k le b. seat_between s0 y k b) (λ k le v. seat_vacant s0 y k v) can)

  up_packets : (k : ℕ) → k < length up.mail.ends → IsBranchOf (code_in up).shape 0 k → HasPacket up k
  up_packets = subst (λ s. (k : ℕ) → k < length s.mail.ends → IsBranchOf (code_in s).shape 0 k → HasPacket s k) (sym up_is) (λ k lt mine. seat_packet s0 y k (packets k lt mine))

  on_up : (jobs : List Job) (job : Job) → InJob (code_in up) h1 up.mail jobs job → IsOnJob up h1 jobs job
  on_up jobs job i = job_on up h1 up_root up_packets jobs job i

  pub up_begun : (job : Job) → IsJob (plain_packet p) job → IsOnJob up h1 root.jobs job
  up_begun job isjob = on_up root.jobs job (in_job1 s0 seated.valid root code places mail seats hands view x read found value h is y p h1 number stands root.thread root.sits root.jobs job root.done isjob).0

  -- it has done the job, and goes back
  pub record ComesDown : Type 0 where
    pub s3 : SchedulerState
    pub h2 : Thread
    pub root2 : h2.number ≡ 0
    pub loaded2 : Loaded (code_in up) h2
    pub replied : HasReply h2
    pub keeps : KeepsOthers up s3
    pub done3 : (jobs : List Job) (job : Job) → IsOnJob up h1 jobs job → IsOnJob s3 h2 jobs job
    pub code2 : CodeParts
    pub places2 : List ℕ
    pub mail2 : Mail
    pub seats2 : List Seat
    pub hands2 : List (Option Packet)
    pub view2 : state code2 places2 mail2 seats2 hands2 ≡ s3
    pub p' : Packet
    pub gives : (xs : List Exchange) → StandsFor (plain_code code2) h2 xs → RepliesToLast (plain_code code2) h2.number xs (plain_packet p')
    pub z : Seat
    pub sits : z.thread ≡ Some h2

  module _ (done : ComesDown) where
    open done use {s3, h2, root2, loaded2, replied, keeps, done3, code2, places2, mail2, seats2, hands2, view2, p', gives, z, sits}

    abbrev pub down : SchedulerState
    down = state code2 places2 mail2 (slice_set seats2 0 z) hands2

    down_is : down ≡ record s3 { seats = slice_set s3.seats 0 z }
    down_is = ap (λ (s : SchedulerState). record s { seats = slice_set s.seats 0 z }) view2

    number2 : h2.number ≡ h1.number
    number2 = root2 ∙ sym up_root

    in_down : (jobs : List Job) (job : Job) → InJob (code_in up) h1 up.mail jobs job → InJob (code_in up) h2 s3.mail jobs job
    in_down jobs job i = subst (λ x. InJob (plain_code x) h2 s3.mail jobs job) keeps.code (on_job s3 h2 jobs job (done3 jobs job (on_up jobs job i)))

    code_0 : up.code ≡ s0.code
    code_0 = ap (λ (s : SchedulerState). s.code) up_is

    pub down_code : down.code ≡ s0.code
    down_code = ap (λ (s : SchedulerState). s.code) down_is ∙ keeps.code ∙ code_0

    pub down_places : down.places ≡ s0.places
    down_places = ap (λ (s : SchedulerState). s.places) down_is ∙ keeps.places ∙ ap (λ (s : SchedulerState). s.places) up_is

    pub down_keeper : down.mail.root ≡ s0.mail.root
    down_keeper = ap (λ (s : SchedulerState). s.mail.root) down_is ∙ keeps.alike.root ∙ ap (λ (s : SchedulerState). s.mail.root) up_is

    pub down_grown : Grown s0.mail down.mail
    down_grown = subst (λ (m : Mail). Grown m down.mail) (ap (λ (s : SchedulerState). s.mail) up_is) (subst (λ (m : Mail). Grown up.mail m) (sym (ap (λ (s : SchedulerState). s.mail) down_is)) keeps.grown)

    pub down_seated : IsSeated down
    down_seated = subst IsSeated (sym down_is) (seat_seated s3 z (others_seated up s3 keeps up_seated))

    pub down_here : (k : ℕ) → HasChild s0.mail k → HasChild down.mail k
    down_here k c = subst (λ (s : SchedulerState). HasChild s.mail k) (sym down_is) (keeps.here k (subst (λ (s : SchedulerState). HasChild s.mail k) (sym up_is) c))

    pub down_was_here : (k : ℕ) → HasChild down.mail k → HasChild s0.mail k
    down_was_here k c = subst (λ (s : SchedulerState). HasChild s.mail k) up_is (keeps.was_here k (subst (λ (s : SchedulerState). HasChild s.mail k) down_is c))

    pub down_between : (k : ℕ) → RestsOrWaits s0 k → RestsOrWaits down k
    down_between k b = subst (λ s. RestsOrWaits s k) (sym down_is) (seat_between s3 z k (keeps.between k (subst (λ s. RestsOrWaits s k) (sym up_is) (seat_between s0 y k b))))

    pub down_vacant : (k : ℕ) → IsVacant s0 (suc k) → IsVacant down (suc k)
    down_vacant k v = subst (λ s. IsVacant s (suc k)) (sym down_is) (seat_vacant s3 z k (keeps.vacant k (subst (λ s. IsVacant s (suc k)) (sym up_is) (seat_vacant s0 y k v))))

    pub down_packets : (job : Job) → IsJob (plain_packet p) job → (k : ℕ) → k < length down.mail.ends → IsBranchOf (code_in s0).shape 0 k → HasPacket down k
    down_packets job isjob k lt mine =
        let at = packets_after s3 h2 root2 root.jobs job (done3 root.jobs job (up_begun job isjob)) in
        subst (λ s. HasPacket s k) (sym down_is)
        (seat_packet s3 z k (at k (subst (λ (s : SchedulerState). k < length s.mail.ends) down_is lt) (subst (λ x. IsBranchOf (plain_code x).shape 0 k) (sym (keeps.code ∙ code_0)) mine)))

    pub down_replied : (t u : Thread) (jobs : List Job) (job : Job) → Sits s0 0 t → Sits down 0 u → HasDone (code_in s0) t s0.mail jobs → IsJob (plain_packet p) job → HasReplied down u (jobs ++ job ∷ []) (plain_packet p')
    down_replied =
        root_replies s0 seated.valid root code places mail seats hands view x read found value h is y p h1 number stands s3 h2 number2 loaded2 replied keeps.code keeps.seat_count in_down code2 places2 mail2 seats2 hands2 view2 p' gives z sits

    pub down_rests : (job : Job) → IsJob (plain_packet p) job → RootRests down
    down_rests =
        root_rests s0 seated.valid root code places mail seats hands view x read found value h is y p h1 number stands s3 h2 number2 loaded2 replied keeps.code keeps.seat_count in_down code2 places2 mail2 seats2 hands2 view2 p' gives z sits
