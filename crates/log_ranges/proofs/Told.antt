-- What goes between threads is as it should be, where each thread keeps it so as long as its branches do.
use Rattle.std.proofs.Common.{ℕ, zero, suc, ◌<◌, ◌≡◌, ◌==◌, Bool, true, false, cond, Option, None, Some, List, [], ◌∷◌, ◌++◌, map, length, refl, sym, subst, arith}
use Rattle.std.specs.List.{AllByRecursion}
use Rattle.forec_kernel.specs.Engine.{Job, Reply, Written, Exchange, Output, Answered, pair_up, pair_forks, pair_all, jobs_to, Allowed, last_reply, answers_within, Answers}
use Rattle.forec_kernel.specs.Shapes.{PlainShape}
use Rattle.forec_kernel.proofs.Serving.{allowed_first, allowed_then}
use Rattle.thread_code.specs.Valid.{FineShape}
use Rattle.exchange_meaning.specs.Logged.{Logged, ExchangeLog, jobs_in, logged, told_to, HasBranch}
use Rattle.exchange_meaning.specs.LogOf.{IsLogged, LogOf}
use Rattle.exchange_meaning.proofs.Shaped.{below_of, parents_of}
use Rattle.exchange_meaning.proofs.TellingLemmas.{equal_number}
use Rattle.value_ranges.proofs.Lists.{all_append}

module _ (JobGood : ℕ → Job → Type 0) (ReplyGood : ℕ → Reply → Type 0) where
  abbrev pub JobsGood : ℕ → List Job → Type 0
  JobsGood t = AllByRecursion (JobGood t)

  -- a job that was told to a branch, and both that and its reply
  abbrev pub AreTold : List Answered → Type 0
  AreTold = AllByRecursion (λ (x : Answered). JobGood x.branch x.job)

  abbrev pub ArePairs : List Answered → Type 0
  ArePairs = AllByRecursion (λ (x : Answered). JobGood x.branch x.job × ReplyGood x.branch x.reply)

  abbrev pub AreWritten : List Written → Type 0
  AreWritten = AllByRecursion (λ (w : Written). JobGood w.branch w.job)

  abbrev pub ReplyOf : ℕ → Option Reply → Type 0
  ReplyOf t None = Unit {0}
  ReplyOf t (Some r) = ReplyGood t r

  abbrev pub RepliesOf : ℕ → List Output → Type 0
  RepliesOf t = AllByRecursion (λ (o : Output). ReplyOf t o.reply)

  -- a branch replies well to what it should be told
  abbrev pub RepliesWell : (ℕ → List Job → Reply → Type 0) → Type 0
  RepliesWell Sub = (b : ℕ) (js : List Job) (r : Reply) → Sub b js r → JobsGood b js → ReplyGood b r

  pub told_of : (xs : List Answered) → ArePairs xs → AreTold xs
  told_of [] h = tt
  told_of (x ∷ xs) h = (h.0.0, told_of xs h.1)

  to_branch : (b : ℕ) (xs : List Answered) → AreTold xs → JobsGood b (jobs_to b xs)
  to_branch b [] h = tt
  to_branch b (x ∷ xs) h = by_test (x.branch == b) refl (to_branch b xs h.1)
    where
      by_test : (test : Bool) → (x.branch == b) ≡ test → JobsGood b (jobs_to b xs) → JobsGood b (cond test (x.job ∷ jobs_to b xs) (jobs_to b xs))
      by_test true e rest = (subst (λ n. JobGood n x.job) (equal_number x.branch b e) h.0, rest)
      by_test false e rest = rest

  -- ---- the replies to what was written

  module _ (Sub : ℕ → List Job → Reply → Type 0) (well : RepliesWell Sub) where
    pub up_pairs : (past : List Answered) (ws : List Written) (rs : List Reply) → AreTold past → AreWritten ws → Allowed Sub past (pair_up ws rs) → ArePairs (pair_up ws rs)
    up_pairs past [] rs told h al = tt
    up_pairs past (w ∷ ws) [] told h al = tt
    up_pairs past (w ∷ ws) (r ∷ rs) told h al =
        let x : Answered = record { branch = w.branch; job = w.job; reply = r } in
        let all : AreTold (past ++ x ∷ []) = all_append (λ (x : Answered). JobGood x.branch x.job) past (x ∷ []) told (h.0, tt) in (
          (h.0, well w.branch (jobs_to w.branch (past ++ x ∷ [])) r al.0 (to_branch w.branch (past ++ x ∷ []) all)),
          up_pairs (past ++ x ∷ []) ws rs all h.1 al.1,
        )

    pub told_both : (past xs : List Answered) → AreTold past → ArePairs xs → AreTold (past ++ xs)
    told_both past xs h g = all_append (λ (x : Answered). JobGood x.branch x.job) past xs h (told_of xs g)

    pub pairs_both : (xs ys : List Answered) → ArePairs xs → ArePairs ys → ArePairs (xs ++ ys)
    pairs_both xs ys h g = all_append (λ (x : Answered). JobGood x.branch x.job × ReplyGood x.branch x.reply) xs ys h g

    pub fork_pairs : (past : List Answered) (wss : List (List Written)) (rss : List (List Reply)) → AreTold past → AllByRecursion AreWritten wss →
        Allowed Sub past (pair_forks wss rss) → ArePairs (pair_forks wss rss)
    fork_pairs past [] rss told h al = tt
    fork_pairs past (ws ∷ wss) [] told h al = tt
    fork_pairs past (ws ∷ wss) (rs ∷ rss) told h al =
        let first = up_pairs past ws rs told h.0 (allowed_first Sub past (pair_up ws rs) (pair_forks wss rss) al) in
        pairs_both (pair_up ws rs) (pair_forks wss rss) first
        (fork_pairs (past ++ pair_up ws rs) wss rss (told_both past (pair_up ws rs) told first) h.1 (allowed_then Sub past (pair_up ws rs) (pair_forks wss rss) al))

  -- ---- threads

  -- what a thread tells its branches, and how it replies itself
  abbrev pub TellsWell : (ℕ → List Exchange → List Output → Type 0) → Type 1
  TellsWell run =
      (t : ℕ) (xs : List Exchange) (os : List Output) → run t xs os → JobsGood t (map (λ x. x.job) xs) → (Sub : ℕ → List Job → Reply → Type 0) → RepliesWell Sub →
      Allowed Sub [] (pair_all xs os) → ArePairs (pair_all xs os) × RepliesOf t os

  last_good : (t : ℕ) (os : List Output) (r : Reply) → RepliesOf t os → last_reply os ≡ Some r → ReplyGood t r
  last_good t [] r h e = cc
  last_good t (o ∷ []) r h e = subst (ReplyOf t) e h.0
  last_good t (o ∷ p ∷ os) r h e = last_good t (p ∷ os) r h.1 e

  pub answers_well : (run : ℕ → List Exchange → List Output → Type 0) → TellsWell run → (n : ℕ) → RepliesWell (answers_within run n)
  answers_well run tells zero t jobs reply a good =
      last_good t a.outputs reply (tells t a.exchanges a.outputs a.runs (subst (JobsGood t) (sym a.jobs_are) good) (λ b js r. ⊥) (λ b js r x g. absurd x) a.allowed).1 a.gives
  answers_well run tells (suc n) t jobs reply a good =
      last_good t a.outputs reply (tells t a.exchanges a.outputs a.runs (subst (JobsGood t) (sym a.jobs_are) good) (answers_within run n) (answers_well run tells n) a.allowed).1 a.gives

  -- ---- a log

  abbrev pub AreLogged : ℕ → List Logged → Type 0
  AreLogged t = AllByRecursion (λ (l : Logged). JobGood t l.job × ReplyGood t l.reply)

  told_logged : (b : ℕ) (xs : List Answered) → ArePairs xs → AreLogged b (told_to b xs)
  told_logged b [] h = tt
  told_logged b (x ∷ xs) h = by_test (x.branch == b) refl (told_logged b xs h.1)
    where
      by_test : (test : Bool) → (x.branch == b) ≡ test → AreLogged b (told_to b xs) → AreLogged b (cond test (logged x ∷ told_to b xs) (told_to b xs))
      by_test true e rest = (subst (λ n. JobGood n x.job × ReplyGood n x.reply) (equal_number x.branch b e) h.0, rest)
      by_test false e rest = rest

  jobs_logged : (t : ℕ) (ls : List Logged) → AreLogged t ls → JobsGood t (jobs_in ls)
  jobs_logged t [] h = tt
  jobs_logged t (l ∷ ls) h = (h.0.0, jobs_logged t ls h.1)

  module _ (run : ℕ → List Exchange → List Output → Type 0) (tells : TellsWell run) (s : PlainShape) (fine : FineShape s) (log : ExchangeLog) (given : List Job) (is : LogOf run s given log)
      (good : JobsGood 0 given)
    where
      -- what a thread's branch was given, where the thread was given what it should
      branch_logged : (p b : ℕ) (jobs : List Job) → IsLogged run s log p jobs → HasBranch s p b → JobsGood p jobs → AreLogged b (log b)
      branch_logged p b jobs l has g =
          let pairs =
          (tells p l.tells.exchanges l.tells.outputs l.tells.runs (subst (JobsGood p) (sym l.jobs) g) (Answers run (length s.threads))
          (λ t js r a h. answers_well run tells _ t js r a h) l.answered).0 in
          subst (AreLogged b) (l.all b has) (told_logged b (pair_all l.tells.exchanges l.tells.outputs) pairs)

      below_all : (n t : ℕ) → t < n → 0 < t → t < length s.threads → AreLogged t (log t)
      below_all zero t lt some within = absurd (omega (arith, lt))
      below_all (suc n) t lt some within =
          let p = parents_of s fine t some within in
          let b = below_of s fine p.0 t p.1 in
          by_parent p.0 p.1 b.0 (λ q less some inside. below_all n q (omega (arith, less, lt)) some inside)
        where
          by_parent : (p : ℕ) → HasBranch s p t → p < t → ((q : ℕ) → q < t → 0 < q → q < length s.threads → AreLogged q (log q)) → AreLogged t (log t)
          by_parent zero has less above = branch_logged 0 t given is.root has good
          by_parent (suc p) has less above =
              let in_shape : suc p < length s.threads = omega (arith, less, within) in
              let before = above (suc p) less (omega arith) in_shape in
              branch_logged (suc p) t (jobs_in (log (suc p))) (is.each (suc p) (omega arith) in_shape) has (jobs_logged (suc p) (log (suc p)) before)

      pub log_good : (t : ℕ) → 0 < t → t < length s.threads → AreLogged t (log t)
      log_good t some within = below_all (suc t) t (omega arith) some within
