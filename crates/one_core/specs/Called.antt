-- A thread at a fork calls its branches.
use Rattle.std.specs.Prelude.{ℕ, suc, ◌≡◌, ◌<◌, ◌≤◌, Some, List, ◌∷◌, [], ◌++◌, map, length, slice_get}
use Rattle.forec_base.specs.declared.limits.TheConstants.{MAX_THREADS}
use Rattle.forec_kernel.specs.Engine.{Reply, Written, Answered, Exchange, pair_up, Answers}
use Rattle.thread_code.specs.Plain.{PlainCode}
use Rattle.thread_code.specs.Alone.{CodeAlone}
use Rattle.core_machine.specs.declared.thread.Thread.{Thread}
use Rattle.core_machine.specs.Threads.{Loaded, HasSettled, HasReply, StandsFor}
use Rattle.core_machine.specs.Forks.{jobs_at, with_replies}
use Rattle.tick_jobs.specs.Branches.{IsBranchOf}
use Rattle.one_core.specs.Seats.{Seated, seated_code, HoldsThread, KeepsSeatsBelow}
use Rattle.tick_jobs.specs.Told.{Book, MayTellJob}
use Rattle.one_core.specs.Told.{HasToldBranches, KeepsBook}
use Rattle.one_core.specs.Resting.{RestAbove}
use Rattle.core_machine.specs.Direct.{RepliesBy}

-- the fork of a thread
pub record IsLoadedFork (c : PlainCode) (h : Thread) : Type 0 where
  pub loaded : Loaded c h
  pub settled : HasSettled h 0
  pub few : length h.branches.numbers ≤ MAX_THREADS
  pub numbers : h.branches.numbers ≡ map (λ w. w.branch) (jobs_at c h)
  pub order : (i j : ℕ) (v w : Written) → i < j → slice_get (jobs_at c h) i ≡ Some v → slice_get (jobs_at c h) j ≡ Some w → v.branch < w.branch

-- each of its jobs may be told, and all threads above it rest
pub record CanTell (s : Seated) (h : Thread) (book : Book) : Type 0 where
  pub above : RestAbove s book h.number
  pub each : (i : ℕ) (w : Written) → slice_get (jobs_at (seated_code s) h) i ≡ Some w → MayTellJob (seated_code s) book h.number w

-- the k-th of its branches may be told its job, and all threads above rest
pub record CanCall (s : Seated) (h : Thread) (k branch : ℕ) (book : Book) : Type 0 where
  pub above : RestAbove s book h.number
  pub job : Written
  pub at : slice_get (jobs_at (seated_code s) h) k ≡ Some job
  pub number : job.branch ≡ branch
  pub is : MayTellJob (seated_code s) book h.number job

-- this branch has this reply
pub record BranchHasReply (s : Seated) (branch : ℕ) (r : Reply) : Type 0 where
  pub thread : Thread
  pub sits : HoldsThread s branch thread
  pub replied : HasReply thread
  pub reply : RepliesBy thread r

-- the branch was told the job, and answers by this reply
pub record WasCalled (a b : Seated) (h : Thread) (book : Book) (w : Written) (r : Reply) : Type 0 where
  pub after : Book
  pub above : RestAbove b after h.number
  pub told : after w.branch ≡ book w.branch ++ w.job ∷ []
  pub answers : Answers (CodeAlone (seated_code a)) (length (seated_code a).threads) w.branch (after w.branch) r
  pub keeps : KeepsBook (seated_code a) h.number book after
  pub others : (k : ℕ) → IsBranchOf (seated_code a).shape h.number k → (suc k ≡ w.branch → ⊥) → after (suc k) ≡ book (suc k)

-- the k-th branch has replied
pub record BranchHasReplied (a b : Seated) (h : Thread) (k branch : ℕ) : Type 0 where
  pub reply : Reply
  pub heard : BranchHasReply b branch reply
  pub called : (book : Book) (can : CanCall a h k branch book) → WasCalled a b h book can.job reply

-- each of these branches has its reply
pub record BranchesHaveReplies (s : Seated) (branches : List ℕ) (rs : List Reply) : Type 0 where
  pub count : length rs ≡ length branches
  pub each : (i b : ℕ) (r : Reply) → slice_get branches i ≡ Some b → slice_get rs i ≡ Some r → BranchHasReply s b r

-- the first k branches were called: they have these replies, and were told this fork's jobs
pub record HaveCalled (a b : Seated) (h : Thread) (k : ℕ) (book : Book) (rs : List Reply) : Type 0 where
  pub after : Book
  pub above : RestAbove b after h.number
  pub keeps : KeepsBook (seated_code a) h.number book after
  pub told : (pairs : List Answered) → HasToldBranches (seated_code a) h.number book pairs → HasToldBranches (seated_code a) h.number after (pairs ++ pair_up (jobs_at (seated_code a) h) rs)
  pub rest : (i : ℕ) (w : Written) → k ≤ i → slice_get (jobs_at (seated_code a) h) i ≡ Some w → MayTellJob (seated_code a) after h.number w

-- the thread has settled the reply of this branch, its k-th: where it stood for exchanges with the replies before it, it stands for them with that one too
abbrev pub SettlesReply : Seated → Seated → ℕ → Thread → ℕ → Thread → Type 0
SettlesReply a b branch h k h1 =
    (xs : List Exchange) (rs : List Reply) (r : Reply) → length rs ≡ k → BranchHasReply b branch r →
    StandsFor (seated_code a) h (with_replies xs rs) → StandsFor (seated_code a) h1 (with_replies xs (rs ++ r ∷ []))

-- The replies are there, and for whatever the threads had been told it is so. The thread, which is now `h1`, has settled them:
-- where it stood for exchanges with no replies in the last, it stands for them with these.
pub record HasSettledReplies (a b : Seated) (h h1 : Thread) (k : ℕ) : Type 0 where
  pub within : k ≤ length h.branches.numbers
  pub leaves : KeepsSeatsBelow h.number a b
  pub replies : List Reply
  pub count : length replies ≡ k
  pub heard : (i number : ℕ) (r : Reply) → slice_get h.branches.numbers i ≡ Some number → slice_get replies i ≡ Some r → BranchHasReply b number r
  pub called : (book : Book) → CanTell a h book → HaveCalled a b h k book replies
  pub settled : (xs : List Exchange) → StandsFor (seated_code a) h (with_replies xs []) → StandsFor (seated_code a) h1 (with_replies xs replies)

-- ---- replies are joined

-- where the thread stood for exchanges with the replies that were heard, it still does
abbrev pub JoinsBranchReplies : Seated → Thread → Thread → Type 0
JoinsBranchReplies s h h1 = (rs : List Reply) (xs : List Exchange) → BranchesHaveReplies s h.branches.numbers rs → StandsFor (seated_code s) h (with_replies xs rs) → StandsFor (seated_code s) h1 (with_replies xs rs)
