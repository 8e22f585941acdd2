-- A thread at work on a job, with the logged replies of its branches.
use Rattle.std.specs.Prelude.{ℕ, ◌≡◌, ◌<◌, Bool, true, false, Some, List, [], ◌∷◌, ◌++◌, length, map, slice_get}
use Rattle.forec_kernel.specs.Engine.{Job, Reply, Answered, Exchange, Written, pair_up}
use Rattle.forec_kernel.specs.Packed.{IsReply}
use Rattle.combine_tree.specs.Plain.{plain_packet}
use Rattle.thread_code.specs.Plain.{PlainCode}
use Rattle.thread_code.specs.Alone.{CodeAlone}
use Rattle.core_machine.specs.declared.thread.Thread.{Thread}
use Rattle.core_machine.specs.Threads.{Loaded, HasSettled, StandsFor}
use Rattle.core_machine.specs.Forks.{jobs_at, with_replies}
use Rattle.tick_jobs.specs.Told.{DidJobs, AtJob}
use Rattle.exchange_meaning.specs.Logged.{ExchangeLog, jobs_in, HasBranch, StartsWith, told_to}
use Rattle.exchange_meaning.specs.Telling.{TellsBranches}
use Rattle.log_text.specs.declared.log.Log.{Log}
use Rattle.exchange_replay.specs.declared.track.Track.{Track}
use Rattle.exchange_replay.specs.declared.walk.Walk.{Walk}
use Rattle.exchange_replay.specs.Tracks.{HavePassed, FitsTrack}

-- what it told its branches is what their tracks have passed
abbrev pub PassedBy : PlainCode → Log → ExchangeLog → Walk → ℕ → List Answered → Type 0
PassedBy c l log w t told = HavePassed c.shape l log t w.branches.items told

-- it has replied to each of these jobs
abbrev pub WalkedJobs : PlainCode → Log → ExchangeLog → Walk → List Job → Type 0
WalkedJobs c l log w jobs = DidJobs c w.thread (PassedBy c l log w) jobs

-- it has done these jobs, and is at this one
abbrev pub WalksJob : PlainCode → Log → ExchangeLog → Walk → List Job → Job → Type 0
WalksJob c l log w jobs job = AtJob c w.thread (PassedBy c l log w) jobs job

-- it has begun a job, and has come to no fork of it
pub record HasBegunWalk (c : PlainCode) (l : Log) (w : Walk) : Type 0 where
  pub log : ExchangeLog
  pub jobs : List Job
  pub job : Job
  pub at : WalksJob c l log w jobs job
  pub first : at.log.before ≡ []

-- no run of thread t over these jobs tells its branches what the log has
abbrev pub CannotTell : PlainCode → ExchangeLog → ℕ → List Job → Type 0
CannotTell c log t jobs = (T : TellsBranches (CodeAlone c) c.shape log t) → map (λ x. x.job) T.exchanges ≡ jobs → ⊥

-- after some forks of the job it is at the same job, or at one of them it wrote what the log hasn't
abbrev pub WalksOn : PlainCode → Log → ExchangeLog → Walk → Walk → List Job → Job → Bool → Type 0
WalksOn c l log old new jobs job true = WalksJob c l log new jobs job
WalksOn c l log old new jobs job false = CannotTell c log old.thread.number (jobs ++ job ∷ [])

-- ---- one fork

-- the thread is at a fork, and each branch there is one of its own
pub record IsAtOwnFork (c : PlainCode) (h : Thread) : Type 0 where
  pub loaded : Loaded c h
  pub settled : HasSettled h 0
  pub numbers : h.branches.numbers ≡ map (λ w. w.branch) (jobs_at c h)
  pub mine : (i : ℕ) (w : Written) → slice_get (jobs_at c h) i ≡ Some w → HasBranch c.shape h.number w.branch × (w.branch < length c.shape.threads)
  pub order : (i j : ℕ) (v w : Written) → i < j → slice_get (jobs_at c h) i ≡ Some v → slice_get (jobs_at c h) j ≡ Some w → v.branch < w.branch

-- the track of thread b has this reply
pub record HasLoggedReply (c : PlainCode) (w : Walk) (b : ℕ) (r : Reply) : Type 0 where
  pub track : Track
  pub at : slice_get w.branches.items b ≡ Some (Some track)
  pub fits : FitsTrack c.shape b track
  pub is : IsReply (plain_packet track.logged) r

-- so do the tracks of these branches
pub record HaveLoggedReplies (c : PlainCode) (w : Walk) (branches : List ℕ) (rs : List Reply) : Type 0 where
  pub count : length rs ≡ length branches
  pub each : (i b : ℕ) (r : Reply) → slice_get branches i ≡ Some b → slice_get rs i ≡ Some r → HasLoggedReply c w b r

-- the tracks of the branches stand behind some pairs
pub record SomePassed (c : PlainCode) (l : Log) (w : Walk) : Type 0 where
  pub log : ExchangeLog
  pub told : List Answered
  pub passed : HavePassed c.shape l log w.thread.number w.branches.items told

-- the k-th branch's job is its next one in the log, and that pair was passed; or it isn't
abbrev pub PassesBranch : PlainCode → Log → ExchangeLog → Walk → Bool → Written → List Answered → Type 0
PassesBranch c l log new true w told =
    (r : Reply) × HavePassed c.shape l log new.thread.number new.branches.items (told ++ record { branch = w.branch; job = w.job; reply = r } ∷ []) × HasLoggedReply c new w.branch r
PassesBranch c l log new false w told = StartsWith (jobs_in (log w.branch)) (jobs_in (told_to w.branch told) ++ w.job ∷ []) → ⊥

-- a job of the fork is not the branch's next one in the log
pub record HasOtherJob (c : PlainCode) (log : ExchangeLog) (h : Thread) (told : List Answered) : Type 0 where
  pub before : List Written
  pub one : Written
  pub after : List Written
  pub jobs : jobs_at c h ≡ before ++ one ∷ after
  pub replies : List Reply
  pub count : length replies ≡ length before
  pub differs : StartsWith (jobs_in (log one.branch)) (jobs_in (told_to one.branch (told ++ pair_up before replies)) ++ one.job ∷ []) → ⊥

-- the fork's pairs were passed, and their replies are there; or one of its jobs is not in the log
abbrev pub PassesFork : PlainCode → Log → ExchangeLog → Walk → Bool → List Answered → Type 0
PassesFork c l log new true told =
    (rs : List Reply) × HavePassed c.shape l log new.thread.number new.branches.items (told ++ pair_up (jobs_at c new.thread) rs) × HaveLoggedReplies c new new.thread.branches.numbers rs
PassesFork c l log new false told = HasOtherJob c log new.thread told

-- the replies of the fork's branches were given to the thread
abbrev pub GivesReplies : PlainCode → Walk → Walk → Type 0
GivesReplies c old new =
    (rs : List Reply) (xs : List Exchange) → HaveLoggedReplies c old old.thread.branches.numbers rs → StandsFor c old.thread (with_replies xs []) → StandsFor c new.thread (with_replies xs rs)

-- and joined
abbrev pub JoinsLogged : PlainCode → Walk → Walk → Type 0
JoinsLogged c old new =
    (rs : List Reply) (xs : List Exchange) → HaveLoggedReplies c old old.thread.branches.numbers rs → StandsFor c old.thread (with_replies xs rs) → StandsFor c new.thread (with_replies xs rs)
