-- Where each thread replays its part of a log by itself, the replies of the log are answers.
use Rattle.std.proofs.Common.{ℕ, zero, suc, ◌+◌, ◌-◌, ◌<◌, ◌≤◌, ◌≡◌, List, [], ◌∷◌, ◌++◌, map, take, length, ap, sym, subst, ◌∙◌, arith, append_assoc}
use Rattle.forec_kernel.specs.Engine.{Job, Reply, Engine, Nothing, Exchange, Output, Alone, Answered, pair_all, Allowed, AnswersBy, answers_within, Answers}
use Rattle.forec_kernel.specs.Shapes.{PlainShape}
use Rattle.forec_kernel.proofs.Serving.{allowed_first}
use Rattle.forec_kernel.proofs.TogetherLemmas.{alone_take, reply_take, pairs_take}
use Rattle.exchange_meaning.specs.Logged.{Logged, ExchangeLog, jobs_in, RepliesAre, logged, told_to, HasBranch, AreTold, StartsWith}
use Rattle.exchange_meaning.specs.Telling.{TellsBranches, IsAll}
use Rattle.exchange_meaning.specs.LogOf.{LogOf}
use Rattle.exchange_meaning.specs.Replays.{AgreesWholly, AllAgree}
use Rattle.exchange_meaning.proofs.TellingLemmas.{own_told, told_then, jobs_own, jobs_take, take_jobs, last_at}

module _ (S : Type 0) (e : ℕ → Engine S) (s : PlainShape) (log : ExchangeLog) (below : (t b : ℕ) → HasBranch s t b → (t < b) × (b < length s.threads)) where
  abbrev run : ℕ → List Exchange → List Output → Type 0
  run t xs os = Alone (e t) xs Nothing os

  -- the replies that the log has for these branches are allowed
  abbrev Gives : (ℕ → List Job → Reply → Type 0) → ℕ → Type 0
  Gives Sub t = (b : ℕ) → HasBranch s t b → (A B : List Logged) (l : Logged) → log b ≡ A ++ l ∷ B → Sub b (jobs_in A ++ l.job ∷ []) l.reply

  pub told_allowed : (Sub : ℕ → List Job → Reply → Type 0) (t : ℕ) → Gives Sub t → (past xs : List Answered) → AreTold s t xs →
      ((b : ℕ) → HasBranch s t b → StartsWith (log b) (told_to b (past ++ xs))) → Allowed Sub past xs
  told_allowed Sub t gives past [] mine told = tt
  told_allowed Sub t gives past (x ∷ xs) mine told =
      let b = x.branch in
      let w = told b mine.0 in
      let cut : told_to b (past ++ x ∷ xs) ++ w.rest ≡ told_to b past ++ logged x ∷ (told_to b xs ++ w.rest) =
      ap (λ l. l ++ w.rest) (told_then b past (x ∷ xs) ∙ ap (λ l. told_to b past ++ l) (own_told x xs)) ∙ append_assoc (told_to b past) (logged x ∷ told_to b xs) w.rest in (
        subst (λ js. Sub b js x.reply) (sym (jobs_own past x)) (gives b mine.0 (told_to b past) (told_to b xs ++ w.rest) (logged x) (w.is ∙ cut)),
        told_allowed Sub t gives (past ++ x ∷ []) xs mine.1 (λ c m. subst (λ p. StartsWith (log c) (told_to c p)) (sym (append_assoc past (x ∷ []) xs)) (told c m)),
      )

  -- a thread's reply to its first jobs
  by_same : (Sub : ℕ → List Job → Reply → Type 0) (t : ℕ) (same : AgreesWholly run s log t) → Allowed Sub [] (pair_all same.tells.exchanges same.tells.outputs) →
      (A B : List Logged) (l : Logged) → log t ≡ A ++ l ∷ B → AnswersBy run Sub t (jobs_in A ++ l.job ∷ []) l.reply
  by_same Sub t same allowed A B l is =
      let T = same.tells in
      let m = suc (length A) in
      let parts = pairs_take m T.exchanges T.outputs in
      record {
        exchanges = take m T.exchanges;
        outputs = take m T.outputs;
        runs = alone_take (e t) m T.exchanges Nothing T.outputs T.runs;
        jobs_are = jobs_take m T.exchanges ∙ ap (take m) (same.jobs ∙ ap jobs_in is) ∙ take_jobs A B l;
        complete = reply_take m T.outputs T.complete;
        allowed = allowed_first Sub [] (pair_all (take m T.exchanges) (take m T.outputs)) parts.more (subst (Allowed Sub []) parts.is allowed);
        gives = last_at T.outputs A B l (subst (RepliesAre T.outputs) is same.replies);
      }

  module _ (each : AllAgree run s log) where
    within : (n t : ℕ) → 0 < t → t < length s.threads → length s.threads ≤ t + n → (A B : List Logged) (l : Logged) → log t ≡ A ++ l ∷ B →
        answers_within run n t (jobs_in A ++ l.job ∷ []) l.reply
    within zero t some lt deep A B l is = absurd (omega arith)
    within (suc n) t some lt deep A B l is =
        let same = each t some lt in
        by_same (answers_within run n) t same
        (told_allowed (answers_within run n) t (λ b m. let at = below t b m in within n b (omega (arith, at.0)) at.1 (omega (arith, at.0, deep))) [] (pair_all same.tells.exchanges same.tells.outputs) same.tells.mine
        same.tells.told) A B l is

    pub gives_answers : (t : ℕ) → Gives (Answers run (length s.threads)) t
    gives_answers t b m A B l is = let at = below t b m in within (length s.threads - b) b (omega (arith, at.0)) at.1 (omega arith) A B l is

    pub tells_answered : (t : ℕ) (tells : TellsBranches run s log t) → Allowed (Answers run (length s.threads)) [] (pair_all tells.exchanges tells.outputs)
    tells_answered t tells = told_allowed (Answers run (length s.threads)) t (gives_answers t) [] (pair_all tells.exchanges tells.outputs) tells.mine tells.told

    -- the log is that of thread 0's jobs
    pub log_of_same : (given : List Job) (root : TellsBranches run s log 0) → map (λ x. x.job) root.exchanges ≡ given → IsAll s log 0 (pair_all root.exchanges root.outputs) → LogOf run s given log
    log_of_same given root jobs all =
        record {
          root = record { tells = root; jobs = jobs; all = all; answered = tells_answered 0 root };
          each = λ t some lt. let same = each t some lt in record { tells = same.tells; jobs = same.jobs; all = same.all; answered = tells_answered t same.tells };
        }
