-- The next job of a fork, and the mailbox through which it goes.
use Rattle.std.proofs.Common.{◌≡◌, ◌≢◌, ℕ, zero, suc, ◌-◌, ◌<◌, ◌≤◌, Some, List, [], ◌∷◌, length, take, refl, sym, ap, ◌∙◌, subst, ⊎_elim, arith}
use Rattle.std.specs.Prelude.{slice_get}
use Rattle.forec_kernel.specs.Engine.{Job, Start, Wake, Written}
use Rattle.thread_code.specs.Plain.{PlainCode, plain_code}
use Rattle.core_machine.specs.declared.thread.Thread.{Thread}
use Rattle.core_machine.specs.Threads.{Loaded}
use Rattle.core_machine.specs.Forks.{jobs_at}
use Rattle.copy_slots.specs.Ports.{sent}
use Rattle.tick_jobs.specs.Branches.{IsBranchOf}
use Rattle.core_seats.specs.Asking.{ArePaused}
use Rattle.core_seats.specs.Posts.{Mail}
use Rattle.core_seats.specs.Keeping.{SchedulerState, code_in, IsSeated, MayAsk, IsJobFor, AtFork, CanSend}
use Rattle.core_seats.specs.Waiting.{IsOut}
use Rattle.tick_jobs.proofs.Lists.{at_map}

-- ---- places in the list of jobs

pub record JobBetween (b : ℕ) (ws : List Written) (from to : ℕ) : Type 0 where
  pub index : ℕ
  pub job : Written
  pub low : from ≤ index
  pub high : index < to
  pub at : slice_get ws index ≡ Some job
  pub is : job.branch ≡ b

pub out_taken : (b : ℕ) (ws : List Written) (k : ℕ) → IsOut b (take k ws) → JobBetween b ws 0 k
out_taken b [] zero h = absurd h
out_taken b [] (suc k) h = absurd h
out_taken b (w ∷ ws) zero h = absurd h
out_taken b (w ∷ ws) (suc k) h =
    ⊎_elim (λ e. record { index = 0; job = w; low = omega arith; high = omega arith; at = refl; is = e })
    (λ o. let p = out_taken b ws k o in record { index = suc p.index; job = p.job; low = omega arith; high = let x = p.high in omega (arith, x); at = p.at; is = p.is }) h

-- ---- what was sent through other mailboxes

may_keeps : (c : PlainCode) (m m' : Mail) (k : ℕ) (j : Job) → sent m' k ≡ sent m k → MayAsk c m k j → MayAsk c m' k j
may_keeps c m m' k (Start args values a) e h = tt
may_keeps c m m' k (Wake values a) e h = subst (ArePaused c k) (sym e) h

pub job_keeps : (c : PlainCode) (m m' : Mail) (t : ℕ) (w : Written) (it : IsJobFor c m t w) → sent m' it.mailbox ≡ sent m it.mailbox → IsJobFor c m' t w
job_keeps c m m' t w it same = record { mailbox = it.mailbox; branch = it.branch; mine = it.mine; inside = it.inside; above = it.above; may = may_keeps c m m' it.mailbox w.job same it.may }

-- ---- the k-th of them

module _ (a b : SchedulerState) (code : b.code ≡ a.code) (seated : IsSeated b) (h : Thread) (k number : ℕ) (fork : AtFork a h) (rest : (i : ℕ) (w : Written) → k ≤ i → slice_get (jobs_at (code_in a) h) i ≡ Some w → IsJobFor (code_in a) b.mail h.number w)
    (at : slice_get h.branches.numbers k ≡ Some number) where
  abbrev ws : List Written
  ws = jobs_at (code_in a) h

  pub job : (w : Written) × (slice_get (jobs_at (code_in a) h) k ≡ Some w) × (w.branch ≡ number)
  job = at_map (λ w. w.branch) (jobs_at (code_in a) h) k number (ap (λ l. slice_get l k) (sym fork.numbers) ∙ at)

  for_it : IsJobFor (code_in a) b.mail h.number job.0
  for_it = rest k job.0 (omega arith) job.1

  abbrev pub m : ℕ
  m = number - 1

  number_is : number ≡ suc for_it.mailbox
  number_is = sym job.2 ∙ for_it.branch

  m_is : m ≡ for_it.mailbox
  m_is = let e = number_is in omega (arith, e)

  pub some_number : 1 ≤ number
  some_number = let e = number_is in omega (arith, e)

  pub is_suc : number ≡ suc m
  is_suc = let e = some_number in omega (arith, e)

  mine : IsBranchOf (code_in a).shape h.number m
  mine = subst (IsBranchOf (code_in a).shape h.number) (sym m_is) for_it.mine

  pub mine_b : IsBranchOf (code_in b).shape h.number m
  mine_b = subst (λ x. IsBranchOf (plain_code x).shape h.number m) (sym code) mine

  -- its thread has a greater number than the one that forks it
  pub low : h.number ≤ m
  low = let e = m_is in let f = for_it.above in omega (arith, e, f)

  pub inside_m : m < length b.mail.ends
  inside_m =
      let e = m_is in
      let f = for_it.inside in
      let n = seated.mailboxes in
      let same = ap (λ x. length (plain_code x).threads) code in omega (arith, e, f, n, same)

  pub can_send : CanSend b h k m
  can_send = record {
    loaded = subst (λ x. Loaded (plain_code x) h) (sym code) fork.loaded;
    settled = fork.settled;
    number = at ∙ ap Some is_suc;
    job = job.0;
    at = subst (λ x. slice_get (jobs_at (plain_code x) h) k ≡ Some job.0) (sym code) job.1;
    may = subst (λ x. MayAsk (plain_code x) b.mail m job.0.job) (sym code) (subst (λ i. MayAsk (code_in a) b.mail i job.0.job) (sym m_is) for_it.may);
    inside = inside_m;
  }

  -- none of the jobs before is for this branch
  pub not_yet : IsOut (suc m) (take k ws) → ⊥
  not_yet o =
      let p = out_taken (suc m) ws k o in
      let less = fork.order p.index k p.job job.0 p.high p.at job.1 in
      let x = p.is in
      let y = job.2 in
      let z = is_suc in absurd (omega (arith, less, x, y, z))

  -- nor one of those after it
  pub apart : (i j : ℕ) (w : Written) → k < i → slice_get (jobs_at (code_in a) h) i ≡ Some w → w.branch ≡ suc j → j ≢ m
  apart i j w less at' is e =
      let o = fork.order k i job.0 w less job.1 at' in
      let s = is_suc in
      let b1 = job.2 in omega (arith, o, is, e, s, b1)

  pub apart_before : (i n j : ℕ) → i < k → slice_get h.branches.numbers i ≡ Some n → n ≡ suc j → j ≢ m
  apart_before i n j less at' is e =
      let v = at_map (λ w. w.branch) ws i n (ap (λ l. slice_get l i) (sym fork.numbers) ∙ at') in
      let o = fork.order i k v.0 job.0 less v.1 job.1 in
      let s = is_suc in
      let b1 = job.2 in
      let b2 = v.2 in omega (arith, o, is, e, s, b1, b2)
