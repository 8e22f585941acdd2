-- A job goes on, fork by fork.
use Rattle.std.proofs.Common.{◌≡◌, ℕ, ◌+◌, ◌*◌, ◌<◌, ◌≤◌, List, [], ◌++◌, length, refl, sym, ap, ◌∙◌, subst, arith}
use Rattle.forec_kernel.specs.Engine.{Job, allowance_of, Reply, Exchange, Answered, pair_up}
use Rattle.thread_code.specs.Plain.{PlainCode, plain_code}
use Rattle.thread_code.specs.Alone.{block_of, machine_units}
use Rattle.core_machine.specs.declared.thread.Thread.{Thread}
use Rattle.core_machine.specs.Threads.{StandsFor}
use Rattle.core_machine.specs.Forks.{jobs_at, with_replies}
use Rattle.tick_jobs.proofs.Forks.{times_grow, ComesToFork}
use Rattle.core_seats.specs.Posts.{Mail}
use Rattle.core_seats.specs.Done.{Posts, InJob, through}
use Rattle.tick_jobs.specs.Writing.{heard, told}
use Rattle.core_seats.specs.Keeping.{SchedulerState, code_in, IsFitted, KeepsBelow, AtFork, HaveHeard}
use Rattle.core_seats.proofs.KeepingLemmas.{fitted_keeps}
use Rattle.tick_jobs.proofs.Logs.{allowance_in}
use Rattle.core_seats.proofs.AfterFork.{fork_at}
use Rattle.tick_jobs.proofs.AfterFork.{in_job_by, some_branches, inside, forks_bound, units_within, in_job_now, with_none}

-- a job in progress that came to so many forks
abbrev pub Counted : PlainCode → Thread → Mail → List Job → Job → ℕ → Type 0
Counted c h m jobs job n = (i : InJob c h m jobs job) × (length i.log.before ≡ n)

pub job_runs : (c : PlainCode) (h h1 : Thread) (m : Mail) (jobs : List Job) (job : Job) (n : ℕ) → h1.number ≡ h.number → ((xs : List Exchange) → StandsFor c h xs → StandsFor c h1 xs) → Counted c h m jobs job n → Counted c h1 m jobs job n
job_runs c h h1 m jobs job n number stands i =
    let j = in_job_by c h1 (through c m) jobs job h.number number i.0.log i.0.posts (stands (heard c h.number jobs job i.0.log) i.0.stands) in (j.0, j.1 ∙ i.1)

pub allowance_is : (c : PlainCode) (h : Thread) (m : Mail) (jobs : List Job) (job : Job) → InJob c h m jobs job → h.allowance ≡ allowance_of job
allowance_is c h m jobs job i = allowance_in c h i.log.exchanges job i.log.before (heard c h.number jobs job i.log) i.stands refl

module _ (a b : SchedulerState) (fitted : IsFitted a) (h0 h h1 : Thread) (number : h.number ≡ h0.number) (leaves : KeepsBelow h0.number h0.number a b) (ran : ComesToFork (code_in b) h h1) (jobs : List Job) (job : Job)
    (n : ℕ) (i : Counted (code_in a) h b.mail jobs job n) where
  fitted_b : IsFitted b
  fitted_b = fitted_keeps h0.number h0.number a b leaves fitted

  now : Counted (code_in b) h1 b.mail jobs job n
  now = job_runs (code_in b) h h1 b.mail jobs job n ran.number ran.stands (subst (λ x. Counted (plain_code x) h b.mail jobs job n) (sym leaves.code) i)

  pub at_fork : AtFork b h1
  at_fork = fork_at b fitted_b.seated.valid h1 ran.loaded ran.settled ran.branches jobs job now.0

  pub some_at : 0 < length h1.branches.numbers
  some_at = some_branches (code_in b) fitted_b.seated.valid h1 ran.loaded ran.settled ran.branches jobs job now.0.log now.0.stands

  same_steps : length (block_of (code_in b) h1.number).steps ≡ length (block_of (code_in a) h0.number).steps
  same_steps = ap (λ x. length (block_of (plain_code x) h1.number).steps) leaves.code ∙ ap (λ t. length (block_of (code_in a) t).steps) (ran.number ∙ number)

  pub bound : allowance_of job ≡ h0.allowance → n + 1 ≤ (length (block_of (code_in a) h0.number).steps + 2) * h0.allowance + (length (block_of (code_in a) h0.number).steps + 1)
  bound allow =
      let within = units_within (code_in b) fitted_b.seated.valid h1 ran.loaded ran.settled ran.branches jobs job now.0.log now.0.stands in
      let at = inside (code_in b) fitted_b.seated.valid h1 ran.loaded ran.settled ran.branches jobs job now.0.log now.0.stands in
      let first = forks_bound (code_in b) fitted_b.seated.valid h1 ran.loaded ran.settled ran.branches jobs job now.0.log now.0.stands in
      let steps = length (block_of (code_in a) h0.number).steps in
      let named = subst (λ l. length now.0.log.before + 1 ≤ (l + 2) * machine_units at.machine + (l + 1)) same_steps first in
      let more = times_grow (steps + 2) (machine_units at.machine) h0.allowance (omega (arith, within, at.allowance, allow)) in
      omega (arith, named, now.1, more)

  module _ (b' : SchedulerState) (leaves' : KeepsBelow h1.number h1.number b b') (rs : List Reply) (heard_all : HaveHeard b' h1.branches.numbers rs)
      (posts : (pairs : List Answered) → Posts (code_in b) h1.number b.mail pairs → Posts (code_in b) h1.number b'.mail (pairs ++ pair_up (jobs_at (code_in b) h1) rs)) (h2 h3 : Thread) (number2 : h2.number ≡ h1.number) (number3 : h3.number ≡ h2.number)
      (settles : (xs : List Exchange) → StandsFor (code_in b') h1 (with_replies xs []) → StandsFor (code_in b') h2 (with_replies xs rs))
      (joins : (xs : List Exchange) → StandsFor (code_in b') h2 (with_replies xs rs) → StandsFor (code_in b') h3 (with_replies xs rs)) where
    pub next : Counted (code_in a) h3 b'.mail jobs job (n + 1)
    next =
        let l = now.0.log in
        let xs = heard (code_in b) h1.number jobs job l in
        let before = subst (StandsFor (code_in b) h1) (sym (with_none l.exchanges (record { job = job; replies = l.before }))) now.0.stands in
        let here = subst (λ x. StandsFor (plain_code x) h1 (with_replies xs [])) (sym leaves'.code) before in
        let after = joins xs (settles xs here) in
        let there = subst (λ x. StandsFor (plain_code x) h3 (with_replies xs rs)) leaves'.code after in
        let j = in_job_now (code_in b) fitted_b.seated.valid h1 ran.loaded ran.settled ran.branches jobs job now.0.log now.0.stands h3 (number3 ∙ number2) (through (code_in b) b'.mail) rs heard_all.count (posts (told (code_in b) h1.number jobs job l) now.0.posts) there in
        subst (λ x. Counted (plain_code x) h3 b'.mail jobs job (n + 1)) leaves.code (j.0, j.1 ∙ ap (λ k. k + 1) now.1)
