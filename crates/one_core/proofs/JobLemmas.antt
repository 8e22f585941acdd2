-- A job begins, comes to forks, and ends.
use Rattle.std.proofs.Common.{◌≡◌, ℕ, ◌+◌, ◌*◌, ◌<◌, ◌≤◌, Some, List, [], ◌++◌, map, length, refl, sym, subst, arith}
use Rattle.std.specs.Prelude.{slice_get}
use Rattle.forec_kernel.specs.Engine.{Job, Start, Wake, allowance_of, Reply, Exchange, Answered, Written, jobs_to, pair_up}
use Rattle.thread_code.specs.Plain.{PlainCode}
use Rattle.thread_code.specs.Valid.{IsValidCode}
use Rattle.thread_code.specs.Alone.{block_of, machine_units}
use Rattle.core_machine.specs.declared.thread.Thread.{Thread}
use Rattle.core_machine.specs.Threads.{Loaded, StandsFor, HasSettled}
use Rattle.core_machine.specs.Forks.{jobs_at, with_replies}
use Rattle.tick_jobs.specs.Writing.{heard, told}
use Rattle.tick_jobs.specs.Told.{Book, AreAnswered, IsAsleep, MayTell, MayTellJob}
use Rattle.tick_jobs.proofs.Forks.{times_grow}
use Rattle.tick_jobs.proofs.Logs.{allowance_in}
use Rattle.tick_jobs.proofs.AfterFork.{in_job_by, inside, few_branches, its_order, its_jobs, some_branches, forks_bound, units_within, in_job_now, with_none}
use Rattle.one_core.specs.Told.{HasToldBranches, by_book, InJobByBook}
use Rattle.one_core.specs.Called.{IsLoadedFork}

pub told_answered : (c : PlainCode) (book : Book) (t : ℕ) (pairs : List Answered) → HasToldBranches c t book pairs → AreAnswered c t pairs
told_answered c book t pairs h = record { above = h.above; allowed = h.allowed }

-- a job in progress that came to so many forks
abbrev pub Counted : PlainCode → Thread → Book → List Job → Job → ℕ → Type 0
Counted c h book jobs job n = (i : InJobByBook c h book jobs job) × (length i.log.before ≡ n)

pub allowance_is : (c : PlainCode) (h : Thread) (book : Book) (jobs : List Job) (job : Job) → InJobByBook c h book jobs job → h.allowance ≡ allowance_of job
allowance_is c h book jobs job i = allowance_in c h i.log.exchanges job i.log.before (heard c h.number jobs job i.log) i.stands refl

-- what may be told by these pairs may be told by the book
may_tell : (c : PlainCode) (pairs : List Answered) (book : Book) (t : ℕ) (job : Job) → jobs_to t pairs ≡ book t → MayTell c (λ b. jobs_to b pairs) t job → MayTell c book t job
may_tell c pairs book t (Start args values a) same may = tt
may_tell c pairs book t (Wake values a) same may = subst (IsAsleep c t) same may

module _ (c : PlainCode) where
  module _ (valid : IsValidCode c) (h : Thread) (loaded : Loaded c h) (settled : HasSettled h 0) (numbers : h.branches.numbers ≡ map (λ w. w.branch) (jobs_at c h))
      (book : Book) (jobs : List Job) (job : Job) (i : InJobByBook c h book jobs job) where
    pub forked : IsLoadedFork c h
    forked = record {
      loaded = loaded;
      settled = settled;
      few = few_branches c valid h loaded settled numbers jobs job i.log i.stands;
      numbers = numbers;
      order = its_order c valid h loaded settled numbers jobs job i.log i.stands;
    }

    pub each_job : (n : ℕ) (w : Written) → slice_get (jobs_at c h) n ≡ Some w → MayTellJob c book h.number w
    each_job n w at =
        let pairs = told c h.number jobs job i.log in
        let it = its_jobs c valid h loaded settled numbers jobs job i.log i.stands (told_answered c book h.number pairs i.posts) n w at in
        let same : jobs_to w.branch pairs ≡ book w.branch = subst (λ b. jobs_to b pairs ≡ book b) (sym it.branch) (i.posts.jobs it.place it.mine) in
        record { place = it.place; branch = it.branch; mine = it.mine; inside = it.inside; above = it.above; may = may_tell c pairs book w.branch w.job same it.may }

    pub some_at : 0 < length h.branches.numbers
    some_at = some_branches c valid h loaded settled numbers jobs job i.log i.stands

    pub bound : (a : ℕ) → allowance_of job ≡ a → length i.log.before + 1 ≤ (length (block_of c h.number).steps + 2) * a + (length (block_of c h.number).steps + 1)
    bound a allow =
        let within = units_within c valid h loaded settled numbers jobs job i.log i.stands in
        let at = inside c valid h loaded settled numbers jobs job i.log i.stands in
        let first = forks_bound c valid h loaded settled numbers jobs job i.log i.stands in
        let more = times_grow (length (block_of c h.number).steps + 2) (machine_units at.machine) a (omega (arith, within, at.allowance, allow)) in
        omega (arith, first, more)

    module _ (after : Book) (rs : List Reply) (count : length rs ≡ length h.branches.numbers)
        (tells : HasToldBranches c h.number after (told c h.number jobs job i.log ++ pair_up (jobs_at c h) rs))
        (h2 : Thread) (number2 : h2.number ≡ h.number)
        (goes : (xs : List Exchange) → StandsFor c h (with_replies xs []) → StandsFor c h2 (with_replies xs rs)) where
      pub next : Counted c h2 after jobs job (length i.log.before + 1)
      next =
          let xs = heard c h.number jobs job i.log in
          let before = subst (StandsFor c h) (sym (with_none i.log.exchanges (record { job = job; replies = i.log.before }))) i.stands in
          in_job_now c valid h loaded settled numbers jobs job i.log i.stands h2 number2 (by_book c after) rs count tells (goes xs before)

  -- a run that comes to no reply of a branch
  pub runs_on : (h h1 : Thread) (book : Book) (jobs : List Job) (job : Job) → h1.number ≡ h.number → ((xs : List Exchange) → StandsFor c h xs → StandsFor c h1 xs) → (i : InJobByBook c h book jobs job) →
      Counted c h1 book jobs job (length i.log.before)
  runs_on h h1 book jobs job number stands i =
      in_job_by c h1 (by_book c book) jobs job h.number number i.log i.posts (stands (heard c h.number jobs job i.log) i.stands)
