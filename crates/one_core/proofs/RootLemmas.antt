-- Thread 0 does a job.
use Rattle.std.proofs.Common.{◌≡◌, ◌<◌, Option, Some, None, List, [], ◌∷◌, ◌++◌, length, refl, sym, ap, ◌∙◌, subst, arith}
use Rattle.std.specs.Prelude.{slice_get, slice_set, slice_index_or}
use Rattle.std.proofs.lemmas.List.{length-set}
use Rattle.std.proofs.lemmas.Option.{get_or_from_slice_get}
use Rattle.forec_kernel.specs.Packets.{PlainPacket}
use Rattle.forec_kernel.specs.Packed.{IsJob}
use Rattle.forec_kernel.specs.Engine.{Job, Exchange, Answers}
use Rattle.thread_code.specs.declared.instruction.CodeParts.{CodeParts}
use Rattle.thread_code.specs.Plain.{PlainCode, plain_code}
use Rattle.thread_code.specs.Alone.{CodeAlone}
use Rattle.combine_tree.specs.declared.packet.PacketKind.{PacketKind}
use Rattle.core_machine.specs.declared.thread.Thread.{Thread}
use Rattle.core_machine.specs.Threads.{Loaded, CanBegin, StandsFor, IsResting, HasReply, RepliesToLast}
use Rattle.tick_jobs.proofs.Lists.{some_once, get_set, get_set_else}
use Rattle.one_core.specs.Seats.{Seated, HasAllSeats, HoldsThread, KeepsSeatsBelow}
use Rattle.tick_jobs.specs.Told.{Book}
use Rattle.one_core.specs.Told.{HasDoneByBook, InJobByBook, KeepsBook, by_book}
use Rattle.one_core.specs.Resting.{RestAbove, HasBegun, IsAtJob, StaysAtWork, AllRestAfter, RootHasReplied}
use Rattle.one_core.proofs.TellLemmas.{rests_keeps}
use Rattle.tick_jobs.proofs.Logs.{job_begins, Ends, job_ends}
use Rattle.one_core.proofs.JobLemmas.{told_answered}
use Rattle.one_core.proofs.CallLemmas.{seated}

module _ (code : CodeParts) (seats : List (Option Thread)) (fitted : HasAllSeats (seated code seats)) where
  abbrev c : PlainCode
  c = plain_code code

  abbrev s0 : Seated
  s0 = seated code seats

  pub in_seats : 0 < length seats
  in_seats = let some = fitted.valid.shape.some in let same = fitted.valid.threads in let f = fitted.seats in omega (arith, some, same, f)

  in_threads : 0 < length c.threads
  in_threads = let some = fitted.valid.shape.some in let same = fitted.valid.threads in omega (arith, some, same)

  module _ (jobs : List Job) (worked : AllRestAfter s0 jobs) (x : Option Thread) (read : x ≡ slice_index_or seats 0 x) where
    seat_is : x ≡ Some worked.thread
    seat_is = read ∙ get_or_from_slice_get seats 0 (Some worked.thread) x worked.sits.at

    pub not_empty : x ≡ None → ⊥
    not_empty e = let f = sym seat_is ∙ e in cc

    module _ (h : Thread) (is : x ≡ Some h) where
      same : worked.thread ≡ h
      same = some_once worked.thread h (sym seat_is ∙ is)

      pub root_loaded : Loaded c h
      root_loaded = subst (Loaded c) same worked.sits.loaded

      pub root_rests : IsResting h
      root_rests = subst IsResting same worked.resting

      pub root_begins : (k : PacketKind) → ((t : Thread) → HoldsThread s0 0 t → CanBegin t k) → CanBegin h k
      root_begins k can = subst (λ t. CanBegin t k) same (can worked.thread worked.sits)

      pub root_number : h.number ≡ 0
      root_number = ap (λ (z : Thread). z.number) (sym same) ∙ worked.sits.number

      module _ (y : Option Thread) (p : PlainPacket) (h1 : Thread) (number1 : h1.number ≡ h.number)
          (stands : (xs : List Exchange) (job : Job) → IsJob p job → StandsFor c h xs → StandsFor c h1 (xs ++ record { job = job; replies = [] } ∷ [])) (job : Job) (is_job : IsJob p job) where
        abbrev s1 : Seated
        s1 = seated code (slice_set seats 0 y)

        number_1 : h1.number ≡ 0
        number_1 = number1 ∙ root_number

        above1 : RestAbove s1 worked.book h1.number
        above1 j lt less =
            let n = number_1 in
            let count = length-set seats 0 y in
            rests_keeps s0 s1 worked.book worked.book j refl (get_set_else seats 0 j y (λ e. omega (arith, e, lt, n))) refl (λ i own. refl) (worked.above j (omega (arith, lt, n)) (omega (arith, less, count)))

        begun : (i : InJobByBook c h1 worked.book jobs job) × (i.log.before ≡ [])
        begun =
            let n = number_1 in
            let lt = in_threads in
            job_begins c fitted.valid worked.thread h1 (by_book c worked.book) jobs job (number1 ∙ ap (λ (z : Thread). z.number) (sym same)) (omega (arith, n, lt)) worked.done
            (stands worked.done.exchanges job is_job (subst (λ z. StandsFor c z worked.done.exchanges) same worked.done.stands))

        pub has_begun : HasBegun s1 h1
        has_begun = record { book = worked.book; above = above1; jobs = jobs; job = job; in_job = begun.0; first = begun.1 }

        module _ (s3 : Seated) (leaves3 : KeepsSeatsBelow h1.number s1 s3) (h2 : Thread) (number2 : h2.number ≡ h1.number) (loaded2 : Loaded c h2) (replied : HasReply h2) (done3 : StaysAtWork s1 h1 s3 h2)
            (code2 : CodeParts) (seats2 : List (Option Thread)) (view2 : seated code2 seats2 ≡ s3) (q : PlainPacket) (gives : (xs : List Exchange) → StandsFor c h2 xs → RepliesToLast c h2.number xs q) (z : Option Thread) (sitting : z ≡ Some h2) where
          abbrev s4 : Seated
          s4 = seated code2 (slice_set seats2 0 z)

          stay : (after : Book) × IsAtJob s3 h2 after jobs job × KeepsBook c h1.number worked.book after
          stay = done3 worked.book jobs job (record { above = above1; in_job = begun.0 })

          in3 : InJobByBook c h2 stay.0 jobs job
          in3 = subst (λ x. InJobByBook (plain_code x) h2 stay.0 jobs job) leaves3.code stay.1.in_job

          number3 : h2.number ≡ 0
          number3 = number2 ∙ number_1

          code2_is : code2 ≡ code
          code2_is = ap (λ (s : Seated). s.code) view2 ∙ leaves3.code

          in_seats2 : 0 < length seats2
          in_seats2 =
              let a = ap (λ (s : Seated). length s.threads) view2 in
              let b = leaves3.count in
              let d = length-set seats 0 y in
              let i = in_seats in omega (arith, a, b, d, i)

          ended : Ends c h2 (by_book c stay.0) (jobs ++ job ∷ []) q
          ended = let n = number3 in let lt = in_threads in job_ends c h2 (by_book c stay.0) (told_answered c stay.0) jobs job q (omega (arith, n, lt)) in3 gives

          above4 : RestAbove s4 stay.0 0
          above4 j lt less =
              let n = number3 in
              let count = length-set seats2 0 z in
              let v = ap (λ (s : Seated). length s.threads) view2 in
              rests_keeps s3 s4 stay.0 stay.0 j (ap (λ (s : Seated). s.code) view2)
              (get_set_else seats2 0 j z (λ e. omega (arith, e, lt)) ∙ ap (λ (s : Seated). slice_get s.threads j) view2) refl (λ i own. refl) (stay.1.above j (omega (arith, lt, n)) (omega (arith, less, count, v)))

          pub root_replied : RootHasReplied s4 (jobs ++ job ∷ []) q
          root_replied = record {
            worked = record {
              book = stay.0;
              above = above4;
              thread = h2;
              sits = record {
                at = get_set seats2 0 z in_seats2 ∙ ap Some sitting;
                loaded = subst (λ w. Loaded (plain_code w) h2) (sym code2_is) loaded2;
                number = number3;
              };
              resting = replied.resting;
              done = subst (λ w. HasDoneByBook (plain_code w) h2 stay.0 (jobs ++ job ∷ [])) (sym code2_is) ended.done;
            };
            reply = ended.reply;
            is = ended.is;
            answers = subst (λ w. Answers (CodeAlone (plain_code w)) (length (plain_code w).threads) 0 (jobs ++ job ∷ []) ended.reply) (sym code2_is)
                (subst (λ t. Answers (CodeAlone c) (length c.threads) t (jobs ++ job ∷ []) ended.reply) number3 ended.answers);
          }
