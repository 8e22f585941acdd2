-- A branch is told its job, does it, and has its reply.
use Rattle.std.proofs.Common.{◌≡◌, ◌≢◌, ℕ, zero, suc, ◌-◌, ◌<◌, Option, Some, None, List, [], ◌∷◌, ◌++◌, length, map, refl, sym, ap, ◌∙◌, subst, ⊎_elim, arith}
use Rattle.std.specs.Prelude.{slice_get, slice_set, slice_index_or}
use Rattle.std.proofs.lemmas.Bool.{cases_lt}
use Rattle.std.proofs.lemmas.List.{length-set}
use Rattle.std.proofs.lemmas.Option.{slice_get_within, get_or_from_slice_get}
use Rattle.forec_kernel.specs.Engine.{Job, Start, Wake, Reply, WasPaused, Written, Exchange, Output, last_reply, answers_within, Answers}
use Rattle.thread_code.specs.declared.instruction.CodeParts.{CodeParts}
use Rattle.thread_code.specs.Plain.{PlainCode, plain_code}
use Rattle.thread_code.specs.Machine.{Machine}
use Rattle.thread_code.specs.Alone.{CodeAlone, code_engine}
use Rattle.thread_code.proofs.Steady.{code_steady}
use Rattle.core_machine.specs.declared.thread.Thread.{Thread}
use Rattle.core_machine.specs.Threads.{Loaded, StandsFor, IsResting, HasReply, HasPaused, RepliesToLast}
use Rattle.core_machine.specs.Forks.{branch_at, jobs_at}
use Rattle.forec_kernel.specs.Packed.{IsReply}
use Rattle.tick_jobs.specs.Branches.{IsBranchOf}
use Rattle.tick_jobs.specs.Writing.{heard}
use Rattle.tick_jobs.proofs.Lists.{get_set, get_set_else, some_once}
use Rattle.tick_jobs.proofs.Branching.{branch_above, parent_once, has_parent}
use Rattle.tick_jobs.proofs.Once.{answers_once}
use Rattle.one_core.specs.Seats.{Seated, HasAllSeats, HoldsThread, KeepsSeatsBelow}
use Rattle.tick_jobs.specs.Told.{Book, IsAsleep, MayTell}
use Rattle.one_core.specs.Told.{tell, HasDoneByBook, InJobByBook, KeepsBook, by_book}
use Rattle.one_core.specs.Resting.{LastJobReply, none, last, Rests, RestAbove, HasBegun, IsAtJob, StaysAtWork}
use Rattle.one_core.specs.Called.{CanCall, BranchHasReply, WasCalled, BranchHasReplied}
use Rattle.core_machine.specs.Direct.{RepliesBy, CanTake, GivesFor}
use Rattle.one_core.proofs.ReplyPackets.{reply_packet, is_reply, reply_once}
use Rattle.one_core.proofs.TellLemmas.{tell_here, tell_else, done_keeps, rests_keeps}
use Rattle.tick_jobs.proofs.Logs.{job_begins, Ends, job_ends}
use Rattle.one_core.proofs.JobLemmas.{told_answered}
use Rattle.core_machine.proofs.Jobs.{gives_own}
use Rattle.core_machine.proofs.Direct.{reply_paused}
use Rattle.core_machine.proofs.Direct as direct

abbrev pub seated : CodeParts → List (Option Thread) → Seated
seated code threads = record { code = code; threads = threads }

-- another thread in a seat
pub fitted_set : (code : CodeParts) (seats : List (Option Thread)) → HasAllSeats (seated code seats) → (t : ℕ) (y : Option Thread) → HasAllSeats (seated code (slice_set seats t y))
fitted_set code seats f t y = record { valid = f.valid; seats = length-set seats t y ∙ f.seats }

-- it has heard what the thread in the seat replies
pub gave : (code : CodeParts) (seats : List (Option Thread)) (branch : ℕ) (h : Thread) (r : Reply) → BranchHasReply (seated code (slice_set seats branch (Some h))) branch r → RepliesBy h r
gave code seats branch h r heard =
    let lt = slice_get_within (slice_set seats branch (Some h)) branch (Some heard.thread) heard.sits.at in
    let count = length-set seats branch (Some h) in
    let at = get_set seats branch (Some h) (omega (arith, lt, count)) in
    let same = some_once heard.thread h (some_once (Some heard.thread) (Some h) (sym heard.sits.at ∙ at)) in
    subst (λ t. RepliesBy t r) same heard.reply

-- ---- a Wake comes to a thread that has paused

no_answer : (c : PlainCode) (t n : ℕ) (r : Reply) → Answers (CodeAlone c) n t [] r → ⊥
no_answer c t n r a = within (n - t) a
  where
    nothing : (xs : List Exchange) (os : List Output) → [] ≡ map (λ (x : Exchange). x.job) xs → CodeAlone c t xs os → last_reply os ≡ Some r → ⊥
    nothing [] [] e runs l = cc
    nothing [] (o ∷ os) e runs l = absurd runs
    nothing (x ∷ xs) os e runs l = cc

    within : (k : ℕ) → answers_within (CodeAlone c) k t [] r → ⊥
    within zero h = nothing h.exchanges h.outputs (sym h.jobs_are) h.runs h.gives
    within (suc k) h = nothing h.exchanges h.outputs (sym h.jobs_are) h.runs h.gives

paused_then : (c : PlainCode) (t : ℕ) (jobs : List Job) (h : Thread) → LastJobReply c t jobs h → IsAsleep c t jobs → HasPaused h
paused_then c t jobs h (none e) p = absurd (no_answer c t (length c.threads) (WasPaused p.copies p.units) (subst (λ js. Answers (CodeAlone c) (length c.threads) t js (WasPaused p.copies p.units)) e p.answers))
paused_then c t jobs h (last r answers paused) p =
    paused p.copies p.units (answers_once (λ t. Machine) (code_engine c) (code_steady c) (length c.threads) t jobs r (WasPaused p.copies p.units) answers p.answers)

takes : (c : PlainCode) (book : Book) (t : ℕ) (h : Thread) → LastJobReply c t (book t) h → (j : Job) → MayTell c book t j → CanTake h j
takes c book t h l (Start args values a) may = tt
takes c book t h l (Wake values a) may = paused_then c t (book t) h l may

module _ (code : CodeParts) (seats : List (Option Thread)) (fitted : HasAllSeats (seated code seats)) (h : Thread) (k branch : ℕ) (number : slice_get h.branches.numbers k ≡ Some branch) where
  abbrev c : PlainCode
  c = plain_code code

  abbrev s0 : Seated
  s0 = seated code seats

  pub in_branches : k < length h.branches.numbers
  in_branches = slice_get_within h.branches.numbers k branch number

  branch_is : branch_at h k ≡ branch
  branch_is = get_or_from_slice_get h.branches.numbers k branch 0 number

  -- what is known for one book
  module _ (book : Book) (can : CanCall s0 h k branch book) where
    abbrev m : ℕ
    m = can.is.place

    abbrev job : Job
    job = can.job.job

    is_suc : branch ≡ suc m
    is_suc = sym can.number ∙ can.is.branch

    mine : IsBranchOf c.shape h.number m
    mine = can.is.mine

    above : h.number < branch
    above = subst (λ n. h.number < n) can.number can.is.above

    inside : branch < length c.threads
    inside = subst (λ n. n < length c.threads) can.number can.is.inside

    pub in_seats : branch < length seats
    in_seats = let i = inside in let f = fitted.seats in omega (arith, i, f)

    its : Rests s0 book branch
    its = can.above branch above in_seats

    module _ (x : Option Thread) (read : x ≡ slice_index_or seats branch x) where
      seat_is : x ≡ Some its.thread
      seat_is = read ∙ get_or_from_slice_get seats branch (Some its.thread) x its.sits.at

      pub not_empty : x ≡ None → ⊥
      not_empty e = let f = sym seat_is ∙ e in cc

      module _ (child : Thread) (is : x ≡ Some child) where
        same : child ≡ its.thread
        same = some_once child its.thread (sym is ∙ seat_is)

        pub child_loaded : Loaded c child
        child_loaded = subst (Loaded c) (sym same) its.sits.loaded

        pub child_number : child.number ≡ branch
        child_number = ap (λ (z : Thread). z.number) same ∙ its.sits.number

        pub child_at : child.number ≡ branch_at h k
        child_at = child_number ∙ sym branch_is

        pub child_rests : IsResting child
        child_rests = subst IsResting (sym same) its.resting

        pub child_takes : (w : Written) → slice_get (jobs_at c h) k ≡ Some w → CanTake child w.job
        child_takes w at =
            let one : can.job ≡ w = some_once can.job w (sym can.at ∙ at) in
            subst (λ (v : Written). CanTake child v.job) one
            (subst (λ z. CanTake z job) (sym same) (takes c book branch its.thread its.last job (subst (λ n. MayTell c book n job) can.number can.is.may)))

        -- the branch has begun
        module _ (y : Option Thread) (h1 : Thread) (number1 : h1.number ≡ child.number)
            (stands : (w : Written) (xs : List Exchange) → slice_get (jobs_at c h) k ≡ Some w → StandsFor c child xs → StandsFor c h1 (xs ++ record { job = w.job; replies = [] } ∷ [])) where
          abbrev pub s1 : Seated
          s1 = seated code (slice_set seats branch y)

          pub number_is : h1.number ≡ branch
          number_is = number1 ∙ child_number

          pub above1 : RestAbove s1 book h1.number
          above1 j lt less =
              let n = number_is in
              let a = above in
              let count = length-set seats branch y in
              rests_keeps s0 s1 book book j refl (get_set_else seats branch j y (λ e. omega (arith, e, lt, n))) refl (λ i own. refl) (can.above j (omega (arith, lt, n, a)) (omega (arith, less, count)))

          pub begun : (i : InJobByBook c h1 book (book branch) job) × (i.log.before ≡ [])
          begun =
              let n = number_is in
              let lt = inside in
              job_begins c fitted.valid its.thread h1 (by_book c book) (book branch) job (number1 ∙ ap (λ (z : Thread). z.number) same) (omega (arith, n, lt)) its.done
              (stands can.job its.done.exchanges can.at (subst (λ z. StandsFor c z its.done.exchanges) (sym same) its.done.stands))

          pub has_begun : HasBegun s1 h1
          has_begun = record { book = book; above = above1; jobs = book branch; job = job; in_job = begun.0; first = begun.1 }

          -- it has its reply
          module _ (s3 : Seated) (leaves3 : KeepsSeatsBelow h1.number s1 s3) (h2 : Thread) (number2 : h2.number ≡ h1.number) (loaded2 : Loaded c h2) (replied : HasReply h2) (done3 : StaysAtWork s1 h1 s3 h2)
              (code2 : CodeParts) (seats2 : List (Option Thread)) (view2 : seated code2 seats2 ≡ s3) where
            stay : (after : Book) × IsAtJob s3 h2 after (book branch) job × KeepsBook c h1.number book after
            stay = done3 book (book branch) job (record { above = above1; in_job = begun.0 })

            abbrev after3 : Book
            after3 = stay.0

            abbrev after : Book
            after = tell after3 branch job

            in3 : InJobByBook c h2 after3 (book branch) job
            in3 = subst (λ x. InJobByBook (plain_code x) h2 after3 (book branch) job) leaves3.code stay.1.in_job

            number3 : h2.number ≡ branch
            number3 = number2 ∙ number_is

            given : GivesFor c h2.number (heard c h2.number (book branch) job in3.log) (RepliesBy h2)
            given = gives_own c h2 loaded2 replied (heard c h2.number (book branch) job in3.log) in3.stands

            pub its_reply : Reply
            its_reply = given.reply

            pub it_replies : RepliesBy h2 its_reply
            unfolding its_reply given
            it_replies = given.is

            code2_is : code2 ≡ code
            code2_is = ap (λ (s : Seated). s.code) view2 ∙ leaves3.code

            count2 : length seats2 ≡ length seats
            count2 = ap (λ (s : Seated). length s.threads) view2 ∙ leaves3.count ∙ length-set seats branch y

            pub in_seats2 : branch < length seats2
            in_seats2 = let n = count2 in let i = in_seats in omega (arith, n, i)

            -- a branch of another thread is another branch
            other : (p j : ℕ) → IsBranchOf c.shape p j → p ≢ h.number → suc j ≢ branch
            other p j own n e =
                let j_is : j ≡ m = let f = is_suc in omega (arith, e, f) in n (parent_once c p h.number m (subst (IsBranchOf c.shape p) j_is own) mine)

            lower : (j : ℕ) → h.number < j → j < branch → after j ≡ book j
            lower zero lt less = absurd (omega (arith, lt))
            lower (suc j) lt less =
                let i = inside in
                let up = has_parent c fitted.valid j (omega (arith, less, i)) in
                let low = branch_above c fitted.valid up.0 j (omega (arith, less, i)) up.1 in
                let n = number_is in
                tell_else after3 branch job (suc j) (λ e. omega (arith, e, less)) ∙ stay.2 up.0 j up.1 (omega (arith, low, less, n))

            told_now : after branch ≡ book branch ++ job ∷ []
            told_now =
                let n = number_is in
                let a = above in
                let same_told : after3 branch ≡ book branch = subst (λ z. after3 z ≡ book z) (sym is_suc) (stay.2 h.number m mine (omega (arith, n, a))) in
                tell_here after3 branch job ∙ ap (λ l. l ++ job ∷ []) same_told

            module _ (r : Reply) (by : RepliesBy h2 r) (z : Option Thread) (sitting : z ≡ Some h2) where
              abbrev pub s4 : Seated
              s4 = seated code2 (slice_set seats2 branch z)

              gives : (xs : List Exchange) → StandsFor c h2 xs → RepliesToLast c h2.number xs (reply_packet r)
              gives xs st =
                  let g = gives_own c h2 loaded2 replied xs st in
                  record { outputs = g.outputs; runs = g.runs; complete = g.complete; reply = g.reply; last = g.last; is = subst (IsReply (reply_packet r)) (direct.one_reply h2 r g.reply by g.is) (is_reply r) }

              ended : Ends c h2 (by_book c after3) (book branch ++ job ∷ []) (reply_packet r)
              ended = let n = number3 in let i = inside in job_ends c h2 (by_book c after3) (told_answered c after3) (book branch) job (reply_packet r) (omega (arith, n, i)) in3 gives

              answers : Answers (CodeAlone c) (length c.threads) branch (book branch ++ job ∷ []) r
              answers =
                  subst (λ s. Answers (CodeAlone c) (length c.threads) branch (book branch ++ job ∷ []) s) (sym (reply_once r ended.reply ended.is))
                  (subst (λ t. Answers (CodeAlone c) (length c.threads) t (book branch ++ job ∷ []) ended.reply) number3 ended.answers)

              sits4 : HoldsThread s4 branch h2
              sits4 = record {
                at = get_set seats2 branch z in_seats2 ∙ ap Some sitting;
                loaded = subst (λ x. Loaded (plain_code x) h2) (sym code2_is) loaded2;
                number = number3;
              }

              pub heard_now : BranchHasReply s4 branch r
              heard_now = record { thread = h2; sits = sits4; replied = replied; reply = by }

              seat4 : (j : ℕ) → j ≢ branch → slice_get s4.threads j ≡ slice_get s3.threads j
              seat4 j n = get_set_else seats2 branch j z n ∙ ap (λ (s : Seated). slice_get s.threads j) view2

              here : Rests s4 after branch
              here = record {
                thread = h2;
                sits = sits4;
                resting = replied.resting;
                done = subst (λ x. HasDoneByBook (plain_code x) h2 after (after branch)) (sym code2_is)
                    (subst (λ js. HasDoneByBook c h2 after js) (sym told_now)
                    (done_keeps c h2 after3 after (book branch ++ job ∷ [])
                    (λ j own. let n = number3 in let a = above in tell_else after3 branch job (suc j) (other h2.number j own (λ e. omega (arith, e, n, a)))) ended.done));
                last = subst (λ x. LastJobReply (plain_code x) branch (after branch) h2) (sym code2_is)
                    (subst (λ js. LastJobReply c branch js h2) (sym told_now) (last r answers (λ copies units e. reply_paused h2 copies units (subst (RepliesBy h2) e by))));
              }

              above4 : RestAbove s4 after h.number
              above4 j lt less =
                  let count = length-set seats2 branch z in
                  let count' = count2 in
                  let n = number_is in
                  let a = above in
                  ⊎_elim
                  (λ below. rests_keeps s0 s4 book after j code2_is
                  (seat4 j (λ e. omega (arith, e, below)) ∙ leaves3.seats j (omega (arith, below, n)) ∙ get_set_else seats branch j y (λ e. omega (arith, e, below)))
                  (lower j lt below)
                  (λ i own. tell_else after3 branch job (suc i) (other j i own (λ e. omega (arith, e, lt))) ∙ stay.2 j i own (omega (arith, below, n)))
                  (can.above j lt (omega (arith, less, count, count'))))
                  (λ ge. ⊎_elim
                  (λ more. rests_keeps s3 s4 after3 after j (ap (λ (s : Seated). s.code) view2)
                  (seat4 j (λ e. omega (arith, e, more)))
                  (tell_else after3 branch job j (λ e. omega (arith, e, more)))
                  (λ i own. tell_else after3 branch job (suc i) (other j i (subst (λ x. IsBranchOf (plain_code x).shape j i) leaves3.code own) (λ e. omega (arith, e, lt))))
                  (stay.1.above j (let q = number3 in omega (arith, more, q)) (let v = ap (λ (s : Seated). length s.threads) view2 in omega (arith, less, count, v))))
                  (λ ge'. let e : j ≡ branch = omega (arith, ge, ge') in subst (Rests s4 after) (sym e) here)
                  (cases_lt branch j))
                  (cases_lt j branch)

              pub was_called : WasCalled s0 s4 h book can.job r
              was_called = record {
                after = after;
                above = above4;
                told = subst (λ t. after t ≡ book t ++ job ∷ []) (sym can.number) told_now;
                answers = subst (λ t. Answers (CodeAlone c) (length c.threads) t (after t) r) (sym can.number) (subst (λ js. Answers (CodeAlone c) (length c.threads) branch js r) (sym told_now) answers);
                keeps = λ p j own lt.
                    let n = number_is in
                    let a = above in tell_else after3 branch job (suc j) (other p j own (λ e. omega (arith, e, lt))) ∙ stay.2 p j own (omega (arith, lt, n, a));
                others = λ j own n'.
                    let n = number_is in
                    let a = above in tell_else after3 branch job (suc j) (λ e. n' (e ∙ sym can.number)) ∙ stay.2 h.number j own (omega (arith, n, a));
              }

              pub leaves4 : KeepsSeatsBelow branch s0 s4
              leaves4 = record {
                code = code2_is;
                count = length-set seats2 branch z ∙ count2;
                seats = λ j lt.
                    let n = number_is in
                    seat4 j (λ e. omega (arith, e, lt)) ∙ leaves3.seats j (omega (arith, lt, n)) ∙ get_set_else seats branch j y (λ e. omega (arith, e, lt));
              }

  -- for whatever the threads had been told
  module _ (some : (book : Book) × CanCall s0 h k branch book) (x : Option Thread) (read : x ≡ slice_index_or seats branch x) (child : Thread) (is : x ≡ Some child) (y : Option Thread) (h1 : Thread) (number1 : h1.number ≡ child.number)
      (stands : (w : Written) (xs : List Exchange) → slice_get (jobs_at c h) k ≡ Some w → StandsFor c child xs → StandsFor c h1 (xs ++ record { job = w.job; replies = [] } ∷ []))
      (s3 : Seated) (leaves3 : KeepsSeatsBelow h1.number (seated code (slice_set seats branch y)) s3) (h2 : Thread) (number2 : h2.number ≡ h1.number) (loaded2 : Loaded c h2) (replied : HasReply h2) (done3 : StaysAtWork (seated code (slice_set seats branch y)) h1 s3 h2)
      (code2 : CodeParts) (seats2 : List (Option Thread)) (view2 : seated code2 seats2 ≡ s3) (z : Option Thread) (sitting : z ≡ Some h2) where
    one_reply : Reply
    one_reply = its_reply some.0 some.1 x read child is y h1 number1 stands s3 leaves3 h2 number2 loaded2 replied done3 code2 seats2 view2

    by_it : RepliesBy h2 one_reply
    unfolding one_reply its_reply
    by_it = it_replies some.0 some.1 x read child is y h1 number1 stands s3 leaves3 h2 number2 loaded2 replied done3 code2 seats2 view2

    pub has_left : KeepsSeatsBelow branch s0 (seated code2 (slice_set seats2 branch z))
    has_left = leaves4 some.0 some.1 x read child is y h1 number1 stands s3 leaves3 h2 number2 loaded2 replied done3 code2 seats2 view2 one_reply by_it z sitting

    pub has_called : BranchHasReplied s0 (seated code2 (slice_set seats2 branch z)) h k branch
    has_called = record {
      reply = one_reply;
      heard = heard_now some.0 some.1 x read child is y h1 number1 stands s3 leaves3 h2 number2 loaded2 replied done3 code2 seats2 view2 one_reply by_it z sitting;
      called = λ book can. was_called book can x read child is y h1 number1 stands s3 leaves3 h2 number2 loaded2 replied done3 code2 seats2 view2 one_reply by_it z sitting;
    }
