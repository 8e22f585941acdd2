-- What a code's threads answer is what the kernel's threads answer, where the code stands for the kernel.
use Rattle.std.proofs.Common.{◌≡◌, ℕ, zero, suc, ◌-◌, ◌<◌, ◌==◌, Bool, true, false, cond, List, [], ◌∷◌, ◌++◌, map, length, refl, sym, ap, subst, arith}
use Rattle.std.proofs.lemmas.Bool.Decides.{nat_tests}
use Rattle.forec_kernel.specs.Shapes.{PlainShape, PlainKernel}
use Rattle.forec_kernel.specs.Engine.{Job, Reply, Written, Exchange, Output, Answered, pair_up, pair_forks, pair_all, jobs_to, Allowed, AnswersBy, answers_within, Answers}
use Rattle.forec_kernel.specs.Solo.{KernelAlone}
use Rattle.thread_code.specs.Plain.{PlainCode}
use Rattle.thread_code.specs.Alone.{CodeAlone, Stands}
use Rattle.thread_code.specs.Laws.{FitsThread, FitBranches, FitForks, JobsFit, OutputsFit, EachFits, AnswersAgree}
use Rattle.thread_code.proofs.Sized.{jobs_and_replies_fit}

module _ (s : PlainShape) where
  -- jobs that were written, with their replies
  abbrev Pairs_fit : List Answered → Type 0
  Pairs_fit [] = Unit {0}
  Pairs_fit (x ∷ xs) = (x.branch < length s.threads) × FitsThread s x.branch x.job × Pairs_fit xs

  append_fit : (xs ys : List Answered) → Pairs_fit xs → Pairs_fit ys → Pairs_fit (xs ++ ys)
  append_fit [] ys h g = g
  append_fit (x ∷ xs) ys h g = (h.0, h.1, append_fit xs ys h.2 g)

  up_fit : (ws : List Written) (rs : List Reply) → FitBranches s ws → Pairs_fit (pair_up ws rs)
  up_fit [] rs h = tt
  up_fit (w ∷ ws) [] h = tt
  up_fit (w ∷ ws) (r ∷ rs) h = (h.0, h.1, up_fit ws rs h.2)

  forks_fit : (wss : List (List Written)) (rss : List (List Reply)) → FitForks s wss → Pairs_fit (pair_forks wss rss)
  forks_fit [] rss h = tt
  forks_fit (ws ∷ wss) [] h = tt
  forks_fit (ws ∷ wss) (rs ∷ rss) h = append_fit (pair_up ws rs) (pair_forks wss rss) (up_fit ws rs h.0) (forks_fit wss rss h.1)

  all_fit : (t : ℕ) (xs : List Exchange) (os : List Output) → OutputsFit s t os → Pairs_fit (pair_all xs os)
  all_fit t [] os h = tt
  all_fit t (x ∷ xs) [] h = tt
  all_fit t (x ∷ xs) (o ∷ os) h = append_fit (pair_forks o.jobs x.replies) (pair_all xs os) (forks_fit o.jobs x.replies h.0) (all_fit t xs os h.2)

  equal : (a b : ℕ) → (a == b) ≡ true → a ≡ b
  equal a b h = grind (arith, nat_tests)

  to_fit : (b : ℕ) (xs : List Answered) → Pairs_fit xs → EachFits s b (jobs_to b xs)
  to_fit b [] h = tt
  to_fit b (x ∷ xs) h = by_test (x.branch == b) refl (to_fit b xs h.2)
    where
      by_test : (test : Bool) → (x.branch == b) ≡ test → EachFits s b (jobs_to b xs) → EachFits s b (cond test (x.job ∷ jobs_to b xs) (jobs_to b xs))
      by_test true e rest = (subst (λ n. FitsThread s n x.job) (equal x.branch b e) h.1, rest)
      by_test false e rest = rest

  exchanges_fit : (t : ℕ) (xs : List Exchange) → EachFits s t (map (λ x. x.job) xs) → JobsFit s t xs
  exchanges_fit t [] h = tt
  exchanges_fit t (x ∷ xs) h = (h.0, exchanges_fit t xs h.1)

  allowed_too : (Sub Sub' : ℕ → List Job → Reply → Type 0) → ((b : ℕ) (js : List Job) (r : Reply) → b < length s.threads → EachFits s b js → Sub b js r → Sub' b js r) →
      (past xs : List Answered) → Pairs_fit past → Pairs_fit xs → Allowed Sub past xs → Allowed Sub' past xs
  allowed_too Sub Sub' f past [] p h a = tt
  allowed_too Sub Sub' f past (x ∷ xs) p h a =
      let more = append_fit past (x ∷ []) p (h.0, h.1, tt) in
      (f x.branch (jobs_to x.branch (past ++ x ∷ [])) x.reply h.0 (to_fit x.branch (past ++ x ∷ []) more) a.0, allowed_too Sub Sub' f (past ++ x ∷ []) xs more h.2 a.1)

module _ (c : PlainCode) (k : PlainKernel) (stands : Stands c k) (threads : length k.threads ≡ length k.shape.threads) where
  -- two ways to run a thread, the first of which the code has too
  module _ (run run' : ℕ → List Exchange → List Output → Type 0)
      (as_code : (t : ℕ) → t < length k.threads → (xs : List Exchange) (os : List Output) → run t xs os → CodeAlone c t xs os)
      (as_other : (t : ℕ) → t < length k.threads → (xs : List Exchange) (os : List Output) → run t xs os → run' t xs os)
    where
      one_too : (Sub Sub' : ℕ → List Job → Reply → Type 0) →
          ((b : ℕ) (js : List Job) (r : Reply) → b < length c.shape.threads → EachFits c.shape b js → Sub b js r → Sub' b js r) → (t : ℕ) (jobs : List Job) (reply : Reply) →
          t < length k.threads → EachFits c.shape t jobs → AnswersBy run Sub t jobs reply → AnswersBy run' Sub' t jobs reply
      one_too Sub Sub' f t jobs reply lt fit a =
          let jobs_fit = exchanges_fit c.shape t a.exchanges (subst (EachFits c.shape t) (sym a.jobs_are) fit) in
          let outputs = jobs_and_replies_fit c t a.exchanges a.outputs jobs_fit (as_code t lt a.exchanges a.outputs a.runs) in
          record {
            exchanges = a.exchanges;
            outputs = a.outputs;
            runs = as_other t lt a.exchanges a.outputs a.runs;
            jobs_are = a.jobs_are;
            complete = a.complete;
            allowed = allowed_too c.shape Sub Sub' f [] (pair_all a.exchanges a.outputs) tt (all_fit c.shape t a.exchanges a.outputs outputs) a.allowed;
            gives = a.gives;
          }

      named : (b : ℕ) → b < length c.shape.threads → b < length k.threads
      named b lt = let e = ap (λ (s : PlainShape). length s.threads) stands.shape in omega (arith, lt, e, threads)

      all_too : (n t : ℕ) (jobs : List Job) (reply : Reply) → t < length k.threads → EachFits c.shape t jobs →
          answers_within run n t jobs reply → answers_within run' n t jobs reply
      all_too zero t jobs reply lt fit a = one_too (λ b js r. ⊥) (λ b js r. ⊥) (λ b js r below each h. h) t jobs reply lt fit a
      all_too (suc n) t jobs reply lt fit a =
          one_too (answers_within run n) (answers_within run' n) (λ b js r below each h. all_too n b js r (named b below) each h) t jobs reply lt fit a

-- a reply of the code's thread is one of the kernel's
pub answers_agree : (c : PlainCode) (k : PlainKernel) → Stands c k → (t : ℕ) → t < length k.threads → length k.threads ≡ length k.shape.threads → (jobs : List Job) (reply : Reply) →
    EachFits c.shape t jobs → Answers (CodeAlone c) (length k.threads) t jobs reply → Answers (KernelAlone k) (length k.threads) t jobs reply
answers_agree c k stands t lt threads jobs reply fit a =
    all_too c k stands threads (CodeAlone c) (KernelAlone k) (λ b below xs os h. h) (λ b below xs os h. (stands.each b below xs os).1 h) (length k.threads - t) t jobs reply lt fit a

-- and the other way round
answers_back : (c : PlainCode) (k : PlainKernel) → Stands c k → (t : ℕ) → t < length k.threads → length k.threads ≡ length k.shape.threads → (jobs : List Job) (reply : Reply) →
    EachFits c.shape t jobs → Answers (KernelAlone k) (length k.threads) t jobs reply → Answers (CodeAlone c) (length k.threads) t jobs reply
answers_back c k stands t lt threads jobs reply fit a =
    all_too c k stands threads (KernelAlone k) (CodeAlone c) (λ b below xs os h. (stands.each b below xs os).0 h) (λ b below xs os h. (stands.each b below xs os).0 h) (length k.threads - t) t jobs
    reply lt fit a

pub answers_alike : AnswersAgree
answers_alike c k stands t lt threads jobs reply fit = (answers_agree c k stands t lt threads jobs reply fit, answers_back c k stands t lt threads jobs reply fit)
