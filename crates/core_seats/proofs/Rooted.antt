-- Thread 0 does a job.
use Rattle.std.proofs.Common.{◌≡◌, ℕ, suc, ◌<◌, Option, Some, List, [], ◌∷◌, ◌++◌, length, refl, sym, ap, ◌∙◌, subst, arith}
use Rattle.std.specs.Prelude.{slice_set, slice_index_or}
use Rattle.std.proofs.lemmas.List.{length-set}
use Rattle.std.proofs.lemmas.Option.{slice_get_within, get_or_from_slice_get}
use Rattle.forec_kernel.specs.Packed.{IsJob}
use Rattle.forec_kernel.specs.Engine.{Job, Exchange, Answers}
use Rattle.thread_code.specs.declared.instruction.CodeParts.{CodeParts}
use Rattle.thread_code.specs.Plain.{plain_code}
use Rattle.thread_code.specs.Valid.{IsValidCode}
use Rattle.thread_code.specs.Alone.{CodeAlone}
use Rattle.combine_tree.specs.declared.packet.Packet.{Packet}
use Rattle.combine_tree.specs.declared.packet.PacketKind.{PacketKind}
use Rattle.combine_tree.specs.Plain.{plain_packet}
use Rattle.core_machine.specs.declared.thread.Thread.{Thread}
use Rattle.core_machine.specs.Threads.{Loaded, CanBegin, StandsFor, HasReply, RepliesToLast}
use Rattle.core_seats.proofs.AfterFork.{posts_answered}
use Rattle.core_seats.specs.declared.seat.Seat.{Seat}
use Rattle.core_seats.specs.Posts.{Mail}
use Rattle.core_seats.specs.Done.{HasDone, InJob, through}
use Rattle.core_seats.specs.Keeping.{SchedulerState, code_in, Sits, QuietAbove}
use Rattle.core_seats.specs.Following.{HasFollowed}
use Rattle.core_seats.specs.Ending.{HasReplied}
use Rattle.core_seats.specs.Resting.{RootRests}
use Rattle.core_seats.proofs.Mails.{state}
use Rattle.tick_jobs.proofs.Lists.{some_once, get_set, get_set_else}
use Rattle.core_seats.proofs.KeepingLemmas.{same_child, quiet_keeps}
use Rattle.tick_jobs.proofs.Logs.{job_begins, job_ends}

-- another thread in the seat of thread 0
pub seat_quiet : (s : SchedulerState) (y : Seat) → QuietAbove s 0 → QuietAbove (record s { seats = slice_set s.seats 0 y }) 0
seat_quiet s y quiet j from lt =
    quiet_keeps j s (record s { seats = slice_set s.seats 0 y })
    (record { code = refl; seat = get_set_else s.seats 0 (suc j) y (λ e. omega (arith, e)); child = same_child j s.mail s.mail refl; branches = λ i mine. refl })
    (record { parent = refl; hand = refl; blanks = refl })
    (quiet j from lt)

pub sits_once : (s : SchedulerState) (t u : Thread) → Sits s 0 t → Sits s 0 u → t ≡ u
sits_once s t u a b = some_once t u (sym a.is ∙ ap (λ (z : Seat). z.thread) (some_once a.seat b.seat (sym a.at ∙ b.at)) ∙ b.is)

module _ (s0 : SchedulerState) (valid0 : IsValidCode (code_in s0)) (root : RootRests s0) (code : CodeParts) (places : List ℕ) (mail : Mail) (seats : List Seat) (hands : List (Option Packet))
    (view : state code places mail seats hands ≡ s0) (x : Seat) (read : x ≡ slice_index_or seats 0 x) (found : Option Thread) (value : found ≡ x.thread) (h : Thread) (is : found ≡ Some h) where
  same_thread : (t : Thread) → Sits s0 0 t → t ≡ h
  same_thread t sits =
      let seat = read ∙ ap (λ (s : SchedulerState). slice_index_or s.seats 0 x) view ∙ get_or_from_slice_get s0.seats 0 sits.seat x sits.at in
      some_once t h (sym sits.is ∙ ap (λ (z : Seat). z.thread) (sym seat) ∙ sym value ∙ is)

  number_h : h.number ≡ 0
  number_h = ap (λ (z : Thread). z.number) (sym (same_thread root.thread root.sits)) ∙ root.sits.number

  valid : IsValidCode (plain_code code)
  valid = subst (λ (z : CodeParts). IsValidCode (plain_code z)) (sym (ap (λ (s : SchedulerState). s.code) view)) valid0

  pub root_loaded : Loaded (plain_code code) h
  root_loaded = subst (Loaded (plain_code code)) (same_thread root.thread root.sits) (subst (λ s. Loaded (code_in s) root.thread) (sym view) root.sits.loaded)

  pub root_begins : (k : PacketKind) → ((t : Thread) → Sits s0 0 t → CanBegin t k) → CanBegin h k
  root_begins k can = subst (λ t. CanBegin t k) (same_thread root.thread root.sits) (can root.thread root.sits)

  module _ (y : Seat) where
    abbrev pub raw1 : SchedulerState
    raw1 = state code places mail (slice_set seats 0 y) hands

    pub raw1_is : raw1 ≡ record s0 { seats = slice_set s0.seats 0 y }
    raw1_is = ap (λ (s : SchedulerState). record s { seats = slice_set s.seats 0 y }) view

    module _ (p : Packet) (h1 : Thread) (number : h1.number ≡ h.number)
        (stands : (xs : List Exchange) (job : Job) → IsJob (plain_packet p) job → StandsFor (plain_code code) h xs → StandsFor (plain_code code) h1 (xs ++ record { job = job; replies = [] } ∷ [])) where
      pub number_1 : h1.number ≡ 0
      number_1 = number ∙ number_h

      pub in_job1 : (t : Thread) → Sits s0 0 t → (jobs : List Job) (job : Job) → HasDone (code_in s0) t s0.mail jobs → IsJob (plain_packet p) job → (i : InJob (plain_code code) h1 mail jobs job) × (i.log.before ≡ [])
      in_job1 t sits jobs job done isjob =
          let here = subst (λ z. HasDone (plain_code code) z mail jobs) (same_thread t sits) (subst (λ s. HasDone (code_in s) t s.mail jobs) (sym view) done) in
          let some = valid.shape.some in
          let same = valid.threads in
          let n = number_1 in
          job_begins (plain_code code) valid h h1 (through (plain_code code) mail) jobs job number (omega (arith, n, some, same)) here (stands here.exchanges job isjob here.stands)

      pub root_followed : (job : Job) → IsJob (plain_packet p) job → HasFollowed raw1 h1
      root_followed job isjob = let i = in_job1 root.thread root.sits root.jobs job root.done isjob in record { jobs = root.jobs; job = job; in_job = i.0; first = i.1 }

      pub root_above : QuietAbove s0 0 → QuietAbove raw1 h1.number
      root_above quiet = subst (QuietAbove raw1) (sym number_1) (subst (λ s. QuietAbove s 0) (sym raw1_is) (seat_quiet s0 y quiet))

      module _ (s3 : SchedulerState) (h2 : Thread) (number2 : h2.number ≡ h1.number) (loaded2 : Loaded (code_in raw1) h2) (replied : HasReply h2) (code3 : s3.code ≡ raw1.code) (count3 : length s3.seats ≡ length raw1.seats)
          (done3 : (jobs : List Job) (job : Job) → InJob (code_in raw1) h1 raw1.mail jobs job → InJob (code_in raw1) h2 s3.mail jobs job)
          (code2 : CodeParts) (places2 : List ℕ) (mail2 : Mail) (seats2 : List Seat) (hands2 : List (Option Packet)) (view2 : state code2 places2 mail2 seats2 hands2 ≡ s3)
          (p' : Packet) (gives : (xs : List Exchange) → StandsFor (plain_code code2) h2 xs → RepliesToLast (plain_code code2) h2.number xs (plain_packet p')) (z : Seat) (sits : z.thread ≡ Some h2) where
        abbrev pub raw2 : SchedulerState
        raw2 = state code2 places2 mail2 (slice_set seats2 0 z) hands2

        pub raw2_is : raw2 ≡ record s3 { seats = slice_set s3.seats 0 z }
        raw2_is = ap (λ (s : SchedulerState). record s { seats = slice_set s.seats 0 z }) view2

        code2_is : code2 ≡ code
        code2_is = ap (λ (s : SchedulerState). s.code) view2 ∙ code3

        number_2 : h2.number ≡ 0
        number_2 = number2 ∙ number_1

        pub root_quiet : QuietAbove s3 h1.number → QuietAbove raw2 0
        root_quiet above = subst (λ s. QuietAbove s 0) (sym raw2_is) (seat_quiet s3 z (subst (QuietAbove s3) number_1 above))

        some_seat : 0 < length seats2
        some_seat =
            let within = slice_get_within s0.seats 0 root.sits.seat root.sits.at in
            let a = ap (λ (s : SchedulerState). length s.seats) view2 in
            let b = count3 in
            let c = length-set seats 0 y in
            let d = ap (λ (s : SchedulerState). length s.seats) view in omega (arith, within, a, b, c, d)

        sits2 : Sits raw2 0 h2
        sits2 = record {
          seat = z;
          at = get_set seats2 0 z some_seat;
          is = sits;
          loaded = subst (λ (w : CodeParts). Loaded (plain_code w) h2) (sym code2_is) loaded2;
          number = number_2;
        }

        -- what it has done, with one job more
        pub root_replies : (t u : Thread) (jobs : List Job) (job : Job) → Sits s0 0 t → Sits raw2 0 u → HasDone (code_in s0) t s0.mail jobs → IsJob (plain_packet p) job → HasReplied raw2 u (jobs ++ job ∷ []) (plain_packet p')
        root_replies t u jobs job sits0 sits' done isjob =
            let i = in_job1 t sits0 jobs job done isjob in
            let j = done3 jobs job i.0 in
            let some = valid.shape.some in
            let same = valid.threads in
            let n = number_2 in
            let e = job_ends (plain_code code) h2 (through (plain_code code) s3.mail) (posts_answered (plain_code code) s3.mail) jobs job (plain_packet p') (omega (arith, n, some, same)) j
            (λ xs st. subst (λ (w : CodeParts). RepliesToLast (plain_code w) h2.number xs (plain_packet p')) code2_is (gives xs (subst (λ (w : CodeParts). StandsFor (plain_code w) h2 xs) (sym code2_is) st))) in
            let mail2_is = ap (λ (s : SchedulerState). s.mail) view2 in
            let here : HasReplied raw2 h2 (jobs ++ job ∷ []) (plain_packet p') = record {
              done = subst (λ (w : CodeParts). HasDone (plain_code w) h2 mail2 (jobs ++ job ∷ [])) (sym code2_is) (subst (λ m. HasDone (plain_code code) h2 m (jobs ++ job ∷ [])) (sym mail2_is) e.done);
              reply = e.reply;
              is = e.is;
              answers = subst (λ (w : CodeParts). Answers (CodeAlone (plain_code w)) (length (plain_code w).threads) 0 (jobs ++ job ∷ []) e.reply) (sym code2_is)
                  (subst (λ k. Answers (CodeAlone (plain_code code)) (length (plain_code code).threads) k (jobs ++ job ∷ []) e.reply) number_2 e.answers);
            } in
            subst (λ w. HasReplied raw2 w (jobs ++ job ∷ []) (plain_packet p')) (sits_once raw2 h2 u sits2 sits') here

        pub root_rests : (job : Job) → IsJob (plain_packet p) job → RootRests raw2
        root_rests job isjob = record {
          thread = h2;
          sits = sits2;
          resting = replied.resting;
          jobs = root.jobs ++ job ∷ [];
          done = (root_replies root.thread h2 root.jobs job root.sits sits2 root.done isjob).done;
        }
