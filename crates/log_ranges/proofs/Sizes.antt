-- What a thread of a code tells its branches has the lengths of their threads, and its replies have that of its own.
use Rattle.std.proofs.Common.{ℕ, Option, None, Some, List, [], ◌∷◌, ◌++◌, map}
use Rattle.std.specs.List.{AllByRecursion}
use Rattle.forec_kernel.specs.Engine.{Job, Reply, Written, Exchange, Output, Answered, pair_forks, pair_all, Allowed}
use Rattle.forec_kernel.proofs.Serving.{allowed_first, allowed_then}
use Rattle.thread_code.specs.Plain.{PlainCode}
use Rattle.thread_code.specs.Alone.{CodeAlone}
use Rattle.thread_code.specs.Laws.{FitsThread, FitsReply, FitBranches, FitForks, JobsFit, OutputsFit}
use Rattle.thread_code.proofs.Sized.{jobs_and_replies_fit}
use Rattle.log_ranges.proofs.Told.{JobsGood, AreTold, ArePairs, AreWritten, ReplyOf, RepliesOf, RepliesWell, TellsWell, fork_pairs, told_both, pairs_both}

module _ (c : PlainCode) where
  abbrev pub JobSized : ℕ → Job → Type 0
  JobSized t job = FitsThread c.shape t job

  abbrev pub ReplySized : ℕ → Reply → Type 0
  ReplySized t reply = FitsReply c.shape t (Some reply)

  jobs_sized : (t : ℕ) (xs : List Exchange) → JobsGood JobSized ReplySized t (map (λ x. x.job) xs) → JobsFit c.shape t xs
  jobs_sized t [] h = tt
  jobs_sized t (x ∷ xs) h = (h.0, jobs_sized t xs h.1)

  written_sized : (ws : List Written) → FitBranches c.shape ws → AreWritten JobSized ReplySized ws
  written_sized [] h = tt
  written_sized (w ∷ ws) h = (h.1, written_sized ws h.2)

  forks_sized : (wss : List (List Written)) → FitForks c.shape wss → AllByRecursion (AreWritten JobSized ReplySized) wss
  forks_sized [] h = tt
  forks_sized (ws ∷ wss) h = (written_sized ws h.0, forks_sized wss h.1)

  reply_sized : (t : ℕ) (r : Option Reply) → FitsReply c.shape t r → ReplyOf JobSized ReplySized t r
  reply_sized t None h = tt
  reply_sized t (Some r) h = h

  replies_sized : (t : ℕ) (os : List Output) → OutputsFit c.shape t os → RepliesOf JobSized ReplySized t os
  replies_sized t [] h = tt
  replies_sized t (o ∷ os) h = (reply_sized t o.reply h.1, replies_sized t os h.2)

  pairs_sized : (t : ℕ) (Sub : ℕ → List Job → Reply → Type 0) (well : RepliesWell JobSized ReplySized Sub) (past : List Answered) (xs : List Exchange) (os : List Output) →
      AreTold JobSized ReplySized past → OutputsFit c.shape t os → Allowed Sub past (pair_all xs os) → ArePairs JobSized ReplySized (pair_all xs os)
  pairs_sized t Sub well past [] os told h al = tt
  pairs_sized t Sub well past (x ∷ xs) [] told h al = tt
  pairs_sized t Sub well past (x ∷ xs) (o ∷ os) told h al =
      let here = pair_forks o.jobs x.replies in
      let rest = pair_all xs os in
      let first = fork_pairs JobSized ReplySized Sub well past o.jobs x.replies told (forks_sized o.jobs h.0) (allowed_first Sub past here rest al) in
      pairs_both JobSized ReplySized Sub well here rest first
      (pairs_sized t Sub well (past ++ here) xs os (told_both JobSized ReplySized Sub well past here told first) h.2 (allowed_then Sub past here rest al))

  pub sizes_told : TellsWell JobSized ReplySized (CodeAlone c)
  sizes_told t xs os h jobs Sub well al =
      let fit = jobs_and_replies_fit c t xs os (jobs_sized t xs jobs) h in
      (pairs_sized t Sub well [] xs os tt fit al, replies_sized t os fit)
