-- The jobs of a fork, for mailboxes.
use Rattle.std.proofs.Common.{◌≡◌, ℕ, suc, ◌<◌, ◌≤◌, Some, List, [], map, length, refl, sym, ap, ◌∙◌, subst, arith}
use Rattle.std.specs.Prelude.{slice_get}
use Rattle.forec_kernel.specs.Packets.{IsPaused}
use Rattle.forec_kernel.specs.Engine.{Job, Start, Wake, WasPaused, Written, Answered, jobs_to}
use Rattle.thread_code.specs.Plain.{PlainCode}
use Rattle.thread_code.specs.Valid.{IsValidCode}
use Rattle.core_machine.specs.declared.thread.Thread.{Thread}
use Rattle.core_machine.specs.Threads.{Loaded, HasSettled}
use Rattle.core_machine.specs.Forks.{jobs_at}
use Rattle.copy_slots.specs.Ports.{sent}
use Rattle.core_seats.specs.Asking.{ArePaused}
use Rattle.core_seats.specs.Posts.{Mail}
use Rattle.core_seats.specs.Done.{Posts, InJob}
use Rattle.core_seats.specs.Keeping.{SchedulerState, code_in, IsJobFor, MayAsk, AtFork}
use Rattle.core_seats.specs.Waiting.{IsForked}
use Rattle.tick_jobs.specs.Branches.{IsBranchOf}
use Rattle.tick_jobs.specs.Writing.{told}
use Rattle.tick_jobs.specs.Told.{AreAnswered, IsAsleep, MayTell}
use Rattle.tick_jobs.specs.Told as jobs
use Rattle.tick_jobs.proofs.AfterFork.{few_branches, its_order, its_jobs, some_branches}

pub posts_answered : (c : PlainCode) (m : Mail) (t : ℕ) (pairs : List Answered) → Posts c t m pairs → AreAnswered c t pairs
posts_answered c m t pairs posts = record { above = posts.above; allowed = posts.allowed }

are_paused : (c : PlainCode) (t k : ℕ) (m : Mail) (pairs : List Answered) → Posts c t m pairs → IsBranchOf c.shape t k → IsAsleep c (suc k) (jobs_to (suc k) pairs) → ArePaused c k (sent m k)
are_paused c t k m pairs posts mine e = record {
  reply = record { kind = IsPaused; args = []; copies = e.copies; allowance = 0; units = e.units };
  paused = refl;
  answers = record {
    plain_jobs = jobs_to (suc k) pairs;
    plain_reply = WasPaused e.copies e.units;
    jobs_are = posts.sent k mine;
    reply_is = (refl, refl, refl);
    answers = e.answers;
  };
}

may_ask : (c : PlainCode) (t k : ℕ) (m : Mail) (pairs : List Answered) → Posts c t m pairs → IsBranchOf c.shape t k → (job : Job) → MayTell c (λ b. jobs_to b pairs) (suc k) job → MayAsk c m k job
may_ask c t k m pairs posts mine (Start args values a) may = tt
may_ask c t k m pairs posts mine (Wake values a) may = are_paused c t k m pairs posts mine may

-- the job may be sent
sends : (c : PlainCode) (t : ℕ) (m : Mail) (pairs : List Answered) → Posts c t m pairs → (w : Written) → jobs.MayTellJob c (λ b. jobs_to b pairs) t w → IsJobFor c m t w
sends c t m pairs posts w it =
    let is = it.branch in
    record {
      mailbox = it.place;
      branch = is;
      mine = it.mine;
      inside = let lt = it.inside in omega (arith, lt, is);
      above = let lt = it.above in omega (arith, lt, is);
      may = may_ask c t it.place m pairs posts it.mine w.job (subst (λ b. MayTell c (λ b. jobs_to b pairs) b w.job) is it.may);
    }

-- ---- at a fork

pub fork_at : (s : SchedulerState) (valid : IsValidCode (code_in s)) (h : Thread) → Loaded (code_in s) h → HasSettled h 0 → h.branches.numbers ≡ map (λ w. w.branch) (jobs_at (code_in s) h) → (jobs : List Job) (job : Job) → InJob (code_in s) h s.mail jobs job → AtFork s h
fork_at s valid h loaded settled numbers jobs job i = record {
  loaded = loaded;
  settled = settled;
  few = few_branches (code_in s) valid h loaded settled numbers jobs job i.log i.stands;
  numbers = numbers;
  order = its_order (code_in s) valid h loaded settled numbers jobs job i.log i.stands;
  each = λ k w at.
      let pairs = told (code_in s) h.number jobs job i.log in
      sends (code_in s) h.number s.mail pairs i.posts w
      (its_jobs (code_in s) valid h loaded settled numbers jobs job i.log i.stands (posts_answered (code_in s) s.mail h.number pairs i.posts) k w at);
}

pub is_forked : (c : PlainCode) (valid : IsValidCode c) (h : Thread) → Loaded c h → HasSettled h 0 → h.branches.numbers ≡ map (λ w. w.branch) (jobs_at c h) → (m : Mail) (jobs : List Job) (job : Job) → InJob c h m jobs job → IsForked c h
is_forked c valid h loaded settled numbers m jobs job i = record {
  settled = settled;
  some = some_branches c valid h loaded settled numbers jobs job i.log i.stands;
  few = few_branches c valid h loaded settled numbers jobs job i.log i.stands;
  numbers = numbers;
  order = its_order c valid h loaded settled numbers jobs job i.log i.stands;
  each = λ k w at.
      let pairs = told c h.number jobs job i.log in
      let it = sends c h.number m pairs i.posts w (its_jobs c valid h loaded settled numbers jobs job i.log i.stands (posts_answered c m h.number pairs i.posts) k w at) in
      record { mailbox = it.mailbox; branch = it.branch; mine = it.mine; inside = it.inside; above = it.above };
}
