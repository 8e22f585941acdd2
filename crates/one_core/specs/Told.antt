-- What the threads of a code were told, and what each has done for it.
use Rattle.std.specs.Prelude.{ℕ, suc, ◌≡◌, ◌<◌, ◌==◌, cond, List, [], ◌∷◌, ◌++◌, map, length}
use Rattle.forec_kernel.specs.Engine.{Job, Exchange, Output, AllReply, Allowed, Answers, Answered, pair_all, jobs_to}
use Rattle.thread_code.specs.Plain.{PlainCode}
use Rattle.thread_code.specs.Alone.{CodeAlone}
use Rattle.core_machine.specs.declared.thread.Thread.{Thread}
use Rattle.tick_jobs.specs.Branches.{IsBranchOf, AreAbove}
use Rattle.tick_jobs.specs.Told.{Book, DidJobs, AtJob}

-- a thread was told one more
abbrev pub tell : Book → ℕ → Job → Book
tell book t job j = cond (t == j) (book j ++ job ∷ []) (book j)

-- Thread t told its branches these jobs and no others, and heard these replies, each answering what that branch was told.
pub record HasToldBranches (c : PlainCode) (t : ℕ) (book : Book) (pairs : List Answered) : Type 0 where
  pub above : AreAbove t pairs
  pub allowed : Allowed (Answers (CodeAlone c) (length c.threads)) [] pairs
  pub jobs : (k : ℕ) → IsBranchOf c.shape t k → jobs_to (suc k) pairs ≡ book (suc k)

-- the same, by the thread's number
abbrev pub by_book : PlainCode → Book → ℕ → List Answered → Type 0
by_book c book t pairs = HasToldBranches c t book pairs

-- the thread stands for its jobs with the replies of its branches, and has replied to each
abbrev pub HasDoneByBook : PlainCode → Thread → Book → List Job → Type 0
HasDoneByBook c h book jobs = DidJobs c h (by_book c book) jobs

-- the thread has done these jobs, and is at this one
abbrev pub InJobByBook : PlainCode → Thread → Book → List Job → Job → Type 0
InJobByBook c h book jobs job = AtJob c h (by_book c book) jobs job

-- what the branches of the threads below t were told is the same
abbrev pub KeepsBook : PlainCode → ℕ → Book → Book → Type 0
KeepsBook c t a b = (p k : ℕ) → IsBranchOf c.shape p k → p < t → b (suc k) ≡ a (suc k)

-- ---- what callers know

-- Thread t has replied to each of these jobs. By itself it writes exactly the jobs that its branches were told where it gets exactly the replies that they
-- gave, and each of the replies is one that its branch gives to the jobs that it was told so far.
pub record HasTalked (c : PlainCode) (t : ℕ) (book : Book) (jobs : List Job) : Type 0 where
  pub exchanges : List Exchange
  pub outputs : List Output
  pub jobs_are : map (λ x. x.job) exchanges ≡ jobs
  pub runs : CodeAlone c t exchanges outputs
  pub complete : AllReply outputs
  pub told : HasToldBranches c t book (pair_all exchanges outputs)

-- thread 0 has for these jobs, and each other thread for those that it was told
pub record HaveTalked (c : PlainCode) (jobs : List Job) : Type 0 where
  pub book : Book
  pub root : HasTalked c 0 book jobs
  pub each : (t : ℕ) → 0 < t → t < length c.threads → HasTalked c t book (book t)
