-- What a thread told its branches and heard of them, and what it has done for it.
use Rattle.std.specs.Prelude.{ℕ, suc, ◌≡◌, ◌<◌, List, [], map, length}
use Rattle.forec_kernel.specs.declared.shape.VarCopy.{VarCopy}
use Rattle.forec_kernel.specs.Engine.{Job, Start, Wake, WasPaused, Written, Exchange, Output, AllReply, Allowed, Answers, Answered, pair_all}
use Rattle.thread_code.specs.Plain.{PlainCode}
use Rattle.thread_code.specs.Alone.{CodeAlone}
use Rattle.core_machine.specs.declared.thread.Thread.{Thread}
use Rattle.core_machine.specs.Threads.{StandsFor}
use Rattle.tick_jobs.specs.Branches.{IsBranchOf, AreAbove}
use Rattle.tick_jobs.specs.Writing.{Log, heard, told}

-- the jobs that each thread was told so far, in order, by its number
abbrev pub Book : Type 0
Book = ℕ → List Job

-- these pairs are for threads above t, and each reply answers what its branch was told so far
pub record AreAnswered (c : PlainCode) (t : ℕ) (pairs : List Answered) : Type 0 where
  pub above : AreAbove t pairs
  pub allowed : Allowed (Answers (CodeAlone c) (length c.threads)) [] pairs

-- The thread stands for its jobs with the replies of its branches, and has replied to each. `Posted`: that a thread told its branches these jobs,
-- and heard these replies.
pub record DidJobs (c : PlainCode) (h : Thread) (Posted : ℕ → List Answered → Type 0) (jobs : List Job) : Type 0 where
  pub exchanges : List Exchange
  pub outputs : List Output
  pub stands : StandsFor c h exchanges
  pub jobs_are : map (λ x. x.job) exchanges ≡ jobs
  pub runs : CodeAlone c h.number exchanges outputs
  pub complete : AllReply outputs
  pub posts : Posted h.number (pair_all exchanges outputs)

-- the thread has done these jobs, and is at this one
pub record AtJob (c : PlainCode) (h : Thread) (Posted : ℕ → List Answered → Type 0) (jobs : List Job) (job : Job) : Type 0 where
  pub log : Log c h.number jobs job
  pub stands : StandsFor c h (heard c h.number jobs job log)
  pub posts : Posted h.number (told c h.number jobs job log)

-- ---- the jobs at a fork

-- thread t answered the last of what it was told by Paused
pub record IsAsleep (c : PlainCode) (t : ℕ) (jobs : List Job) : Type 0 where
  pub copies : List VarCopy
  pub units : ℕ
  pub answers : Answers (CodeAlone c) (length c.threads) t jobs (WasPaused copies units)

-- a Wake comes only after that
abbrev pub MayTell : PlainCode → Book → ℕ → Job → Type 0
MayTell c book t (Start args values a) = Unit {0}
MayTell c book t (Wake values a) = IsAsleep c t (book t)

-- this job is for a branch of thread t, and it may be told
pub record MayTellJob (c : PlainCode) (book : Book) (t : ℕ) (w : Written) : Type 0 where
  pub place : ℕ
  pub branch : w.branch ≡ suc place
  pub mine : IsBranchOf c.shape t place
  pub inside : w.branch < length c.threads
  pub above : t < w.branch
  pub may : MayTell c book w.branch w.job
