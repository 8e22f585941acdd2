-- A job goes on, fork by fork.
use Rattle.std.proofs.Common.{◌≡◌, ℕ, ◌+◌, ◌*◌, ◌<◌, ◌≤◌, Some, List, [], ◌++◌, map, length, sym, ap, ◌∙◌, subst, arith}
use Rattle.std.specs.Prelude.{slice_get}
use Rattle.forec_kernel.specs.Engine.{Job, allowance_of, Exchange, pair_up}
use Rattle.thread_code.specs.Plain.{plain_code}
use Rattle.thread_code.specs.Alone.{block_of}
use Rattle.core_machine.specs.declared.thread.Thread.{Thread}
use Rattle.core_machine.specs.Threads.{Loaded, StandsFor, HasSettled}
use Rattle.core_machine.specs.Forks.{jobs_at, with_replies}
use Rattle.core_machine.proofs.Outer.{empty_of}
use Rattle.tick_jobs.specs.Branches.{IsBranchOf}
use Rattle.tick_jobs.specs.Writing.{told}
use Rattle.one_core.specs.Seats.{Seated, seated_code, HasAllSeats, KeepsSeatsBelow}
use Rattle.tick_jobs.specs.Told.{Book, MayTellJob}
use Rattle.one_core.specs.Told.{HasToldBranches, InJobByBook, KeepsBook}
use Rattle.one_core.specs.Resting.{RestAbove, HasBegun, IsAtJob, StaysAtWork}
use Rattle.one_core.specs.Called.{IsLoadedFork, CanTell, HaveCalled, HasSettledReplies}
use Rattle.one_core.proofs.TellLemmas.{keeps_same, keeps_then}
use Rattle.one_core.proofs.JobLemmas.{Counted, allowance_is, forked, each_job, some_at, bound, next, runs_on}
use Rattle.one_core.proofs.ConsultLemmas.{have_heard}

-- a thread at a job has come to so many more forks since
pub record Going (a : Seated) (h0 : Thread) (b : Seated) (h : Thread) (n : ℕ) (book : Book) (jobs : List Job) (job : Job) (w : IsAtJob a h0 book jobs job) : Type 0 where
  pub after : Book
  pub above : RestAbove b after h0.number
  pub keeps : KeepsBook (seated_code a) h0.number book after
  pub counted : Counted (seated_code a) h after jobs job (length w.in_job.log.before + n)

pub going_none : (a : Seated) (h : Thread) (book : Book) (jobs : List Job) (job : Job) (w : IsAtJob a h book jobs job) → Going a h a h 0 book jobs job w
going_none a h book jobs job w = record { after = book; above = w.above; keeps = keeps_same (seated_code a) h.number book; counted = (w.in_job, omega arith) }

-- what a thread that has begun its job is at
abbrev pub begun_works : (a : Seated) (h : Thread) (b : HasBegun a h) → IsAtJob a h b.book b.jobs b.job
begun_works a h b = record { above = b.above; in_job = b.in_job }

pub begun_allowance : (a : Seated) (h : Thread) (b : HasBegun a h) → allowance_of b.job ≡ h.allowance
begun_allowance a h b = sym (allowance_is (seated_code a) h b.book b.jobs b.job b.in_job)

-- the thread runs on
module _ (a : Seated) (h h1 : Thread) (number1 : h1.number ≡ h.number) (stands1 : (xs : List Exchange) → StandsFor (seated_code a) h xs → StandsFor (seated_code a) h1 xs) where
  runs : (book : Book) (jobs : List Job) (job : Job) (w : IsAtJob a h book jobs job) → Counted (seated_code a) h1 book jobs job (length w.in_job.log.before)
  runs book jobs job w = runs_on (seated_code a) h h1 book jobs job number1 stands1 w.in_job

  pub works_on : (book : Book) (jobs : List Job) (job : Job) → IsAtJob a h book jobs job → IsAtJob a h1 book jobs job
  works_on book jobs job w = record { above = subst (RestAbove a book) (sym number1) w.above; in_job = (runs book jobs job w).0 }

  pub begun_on : HasBegun a h → HasBegun a h1
  begun_on b =
      let i = runs b.book b.jobs b.job (begun_works a h b) in
      record { book = b.book; above = subst (RestAbove a b.book) (sym number1) b.above; jobs = b.jobs; job = b.job; in_job = i.0; first = empty_of i.0.log.before (i.1 ∙ ap length b.first) }

  -- its reply comes at once
  pub stays_here : StaysAtWork a h a h1
  stays_here book jobs job w = (book, works_on book jobs job w, keeps_same (seated_code a) h.number book)

  -- or after its forks
  pub stays_after : (b : Seated) (h2 : Thread) → StaysAtWork a h1 b h2 → StaysAtWork a h b h2
  stays_after b h2 done book jobs job w =
      let d = done book jobs job (works_on book jobs job w) in
      (d.0, d.1, subst (λ t. KeepsBook (seated_code a) t book d.0) number1 d.2)

  pub going_on : (h0 : Thread) (b : Seated) (n : ℕ) (book : Book) (jobs : List Job) (job : Job) (w : IsAtJob a h0 book jobs job) → Going a h0 b h n book jobs job w → Going a h0 b h1 n book jobs job w
  going_on h0 b n book jobs job w g =
      let i = runs_on (seated_code a) h h1 g.after jobs job number1 stands1 g.counted.0 in
      record { after = g.after; above = g.above; keeps = g.keeps; counted = (i.0, i.1 ∙ g.counted.1) }

module _ (a b : Seated) (h0 h : Thread) (number : h.number ≡ h0.number) (n : ℕ) (book : Book) (jobs : List Job) (job : Job) (w : IsAtJob a h0 book jobs job) (g : Going a h0 b h n book jobs job w) where
  now : Counted (seated_code a) h g.after jobs job (length w.in_job.log.before + n)
  now = g.counted

  rest_above : RestAbove b g.after h.number
  rest_above = subst (RestAbove b g.after) (sym number) g.above

  -- it has its reply
  pub stays : b.code ≡ a.code → (after : Book) × IsAtJob b h after jobs job × KeepsBook (seated_code a) h0.number book after
  stays code = (g.after, record { above = rest_above; in_job = subst (λ x. InJobByBook (plain_code x) h g.after jobs job) (sym code) now.0 }, g.keeps)

  -- or is at a fork
  module _ (fitted : HasAllSeats a) (leaves : KeepsSeatsBelow h0.number a b) (loaded : Loaded (seated_code a) h) (settled : HasSettled h 0) (numbers : h.branches.numbers ≡ map (λ w. w.branch) (jobs_at (seated_code a) h)) where
    pub its_fork : IsLoadedFork (seated_code b) h
    its_fork = subst (λ x. IsLoadedFork (plain_code x) h) (sym leaves.code) (forked (seated_code a) fitted.valid h loaded settled numbers g.after jobs job now.0)

    pub can_tell : CanTell b h g.after
    can_tell = record {
      above = rest_above;
      each = λ i v at.
          subst (λ x. MayTellJob (plain_code x) g.after h.number v) (sym leaves.code)
          (each_job (seated_code a) fitted.valid h loaded settled numbers g.after jobs job now.0 i v (subst (λ x. slice_get (jobs_at (plain_code x) h) i ≡ Some v) leaves.code at));
    }

    pub some_branch : 0 < length h.branches.numbers
    some_branch = some_at (seated_code a) fitted.valid h loaded settled numbers g.after jobs job now.0

    pub its_bound : allowance_of job ≡ h0.allowance → w.in_job.log.before ≡ [] → n + 1 ≤ (length (block_of (seated_code a) h0.number).steps + 2) * h0.allowance + (length (block_of (seated_code a) h0.number).steps + 1)
    its_bound allow first =
        let most = subst (λ t. length now.0.log.before + 1 ≤ (length (block_of (seated_code a) t).steps + 2) * h0.allowance + (length (block_of (seated_code a) t).steps + 1)) number
        (bound (seated_code a) fitted.valid h loaded settled numbers g.after jobs job now.0 h0.allowance allow) in
        let none = ap length first in omega (arith, most, now.1, none)

    module _ (d : Seated) (h1 h2 : Thread) (done : HasSettledReplies b d h h1 (length h.branches.numbers)) (number1 : h1.number ≡ h.number) (number2 : h2.number ≡ h1.number)
        (joins : (xs : List Exchange) → StandsFor (seated_code d) h1 (with_replies xs done.replies) → StandsFor (seated_code d) h2 (with_replies xs done.replies)) where
      called : HaveCalled b d h (length h.branches.numbers) g.after done.replies
      called = done.called g.after can_tell

      code_is : d.code ≡ a.code
      code_is = done.leaves.code ∙ leaves.code

      goes : (xs : List Exchange) → StandsFor (seated_code a) h (with_replies xs []) → StandsFor (seated_code a) h2 (with_replies xs done.replies)
      goes xs st =
          subst (λ x. StandsFor (plain_code x) h2 (with_replies xs done.replies)) code_is
          (joins xs (subst (λ x. StandsFor (plain_code x) h1 (with_replies xs done.replies)) (sym done.leaves.code)
          (done.settled xs (subst (λ x. StandsFor (plain_code x) h (with_replies xs [])) (sym leaves.code) st))))

      tells : HasToldBranches (seated_code a) h.number called.after (told (seated_code a) h.number jobs job now.0.log ++ pair_up (jobs_at (seated_code a) h) done.replies)
      tells =
          let pairs = told (seated_code a) h.number jobs job now.0.log in
          subst (λ x. HasToldBranches (plain_code x) h.number called.after (pairs ++ pair_up (jobs_at (plain_code x) h) done.replies)) leaves.code
          (called.told pairs (subst (λ x. HasToldBranches (plain_code x) h.number g.after pairs) (sym leaves.code) now.0.posts))

      pub goes_on : Going a h0 d h2 (n + 1) book jobs job w
      goes_on =
          let le : length h.branches.numbers ≤ length h.branches.numbers = omega arith in
          let count = (have_heard b d h h1 (length h.branches.numbers) done le).count in
          let i = next (seated_code a) fitted.valid h loaded settled numbers g.after jobs job now.0 called.after done.replies count tells h2 (number2 ∙ number1) goes in
          record {
            after = called.after;
            above = subst (RestAbove d called.after) number called.above;
            keeps = keeps_then (seated_code a) h0.number book g.after called.after g.keeps
                (λ p k own lt. called.keeps p k (subst (λ x. IsBranchOf (plain_code x).shape p k) (sym leaves.code) own) (omega (arith, lt, number)));
            counted = (i.0, let x = i.1 in let y = now.1 in omega (arith, x, y));
          }
