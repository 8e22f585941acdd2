-- Each thread replays its part of a run's log; and there is one log of thread 0's jobs.
use Rattle.std.proofs.Common.{ℕ, zero, suc, ◌-◌, ◌<◌, ◌≤◌, ◌≡◌, Some, List, [], ◌∷◌, ◌++◌, take, length, refl, ap, sym, subst, ◌∙◌, arith}
use Rattle.std.proofs.lemmas.List.{length-map}
use Rattle.forec_kernel.specs.Engine.{Job, Reply, Engine, Rest, Nothing, Exchange, Output, Alone, Answered, pair_all, jobs_to, Allowed, AllReply, last_reply, AnswersBy, answers_within, Answers}
use Rattle.forec_kernel.specs.Shapes.{PlainShape}
use Rattle.forec_kernel.proofs.Same.{IsSteady}
use Rattle.forec_kernel.proofs.Serving.{allowed_first}
use Rattle.forec_kernel.proofs.TogetherLemmas.{alone_take, reply_take, pairs_take}
use Rattle.forec_kernel.proofs.Agree.{answers_more}
use Rattle.exchange_meaning.specs.Logged.{Logged, ExchangeLog, jobs_in, RepliesAre, told_to, HasBranch}
use Rattle.exchange_meaning.specs.LogOf.{IsLogged, LogOf}
use Rattle.exchange_meaning.specs.Replays.{AllAgree}
use Rattle.exchange_meaning.proofs.TellingLemmas.{none_there, allowed_told, jobs_take, take_jobs}
use Rattle.exchange_meaning.proofs.Once.{answers_one, alone_same}

-- ---- lengths

pub alone_length : {S : Type 0} → (e : Engine S) (xs : List Exchange) (r : Rest S) (os : List Output) → Alone e xs r os → length os ≡ length xs
alone_length e [] r [] h = refl
alone_length e [] r (o ∷ os) h = absurd h
alone_length e (x ∷ xs) r [] h = absurd h
alone_length e (x ∷ xs) r (o ∷ os) h = ap suc (alone_length e xs h.1 os h.4)

jobs_length : (ls : List Logged) → length (jobs_in ls) ≡ length ls
jobs_length [] = refl
jobs_length (l ∷ ls) = ap suc (jobs_length ls)

suc_is : (a b : ℕ) → suc a ≡ suc b → a ≡ b
suc_is a b e = cc

-- ---- replies one by one

-- the last of the first replies
last_there : (n : ℕ) (os : List Output) → AllReply os → n < length os → (r : Reply) × (last_reply (take (suc n) os) ≡ Some r)
last_there n [] h lt = absurd (omega (arith, lt))
last_there zero (o ∷ os) h lt = (h.0.0, h.0.1)
last_there (suc n) (o ∷ []) h lt = absurd (omega (arith, lt))
last_there (suc n) (o ∷ p ∷ os) h lt = last_there n (p ∷ os) h.1 (omega (arith, lt))

abbrev EachIs : List Output → List Logged → Type 0
EachIs os ls = (A B : List Logged) (l : Logged) → ls ≡ A ++ l ∷ B → last_reply (take (suc (length A)) os) ≡ Some l.reply

replies_are : (os : List Output) (ls : List Logged) → length os ≡ length ls → EachIs os ls → RepliesAre os ls
replies_are [] [] c h = tt
replies_are [] (l ∷ ls) c h = cc
replies_are (o ∷ os) [] c h = cc
replies_are (o ∷ os) (l ∷ ls) c h = (h [] ls l refl, replies_are os ls (suc_is (length os) (length ls) c) (λ A B m e. next os A B m e (suc_is (length os) (length ls) c) (h (l ∷ A) B m (ap (λ x. l ∷ x) e))))
  where
    empty : (ls A B : List Logged) (m : Logged) → ls ≡ A ++ m ∷ B → 0 ≡ length ls → ⊥
    empty [] A B m e c = none_there A B m e
    empty (l ∷ ls) A B m e c = cc

    next : (os : List Output) (A B : List Logged) (m : Logged) → ls ≡ A ++ m ∷ B → length os ≡ length ls → last_reply (take (suc (suc (length A))) (o ∷ os)) ≡ Some m.reply → last_reply (take (suc (length A)) os) ≡ Some m.reply
    next [] A B m e c h = absurd (empty ls A B m e c)
    next (p ∷ os) A B m e c h = h

length_at : (A B : List Logged) (l : Logged) → length A < length (A ++ l ∷ B)
length_at [] B l = omega arith
length_at (a ∷ A) B l = let ih = length_at A B l in omega (arith, ih)

module _ (S : Type 0) (e : ℕ → Engine S) (steady : (t : ℕ) → IsSteady (e t)) (s : PlainShape)
    (below : (t b : ℕ) → HasBranch s t b → (t < b) × (b < length s.threads)) (parents : (b : ℕ) → 0 < b → b < length s.threads → (t : ℕ) × HasBranch s t b) where
  abbrev run : ℕ → List Exchange → List Output → Type 0
  run t xs os = Alone (e t) xs Nothing os

  abbrev answers : ℕ → List Job → Reply → Type 0
  answers = Answers run (length s.threads)

  -- what the log has for a branch of a thread, is answered
  pub log_answered : (log : ExchangeLog) (given : List Job) (p t : ℕ) → IsLogged run s log p given → HasBranch s p t → (A B : List Logged) (l : Logged) → log t ≡ A ++ l ∷ B → answers t (jobs_in A ++ l.job ∷ []) l.reply
  log_answered log given p t P m A B l is =
      allowed_told answers t [] (pair_all P.tells.exchanges P.tells.outputs) A B l P.answered (P.all t m ∙ is)

  parent_answered : (log : ExchangeLog) (given : List Job) → LogOf run s given log → (p t : ℕ) → HasBranch s p t → t < length s.threads → (A B : List Logged) (l : Logged) → log t ≡ A ++ l ∷ B →
      answers t (jobs_in A ++ l.job ∷ []) l.reply
  parent_answered log given L zero t m lt A B l is = log_answered log given 0 t L.root m A B l is
  parent_answered log given L (suc p) t m lt A B l is =
      let at = below (suc p) t m in log_answered log (jobs_in (log (suc p))) (suc p) t (L.each (suc p) (omega arith) (omega (arith, at.0, at.1))) m A B l is

  -- a thread's own reply
  own_answer : (log : ExchangeLog) (t : ℕ) (T : IsLogged run s log t (jobs_in (log t))) → t < length s.threads → (A B : List Logged) (l : Logged) → log t ≡ A ++ l ∷ B → (r : Reply) →
      last_reply (take (suc (length A)) T.tells.outputs) ≡ Some r → AnswersBy run answers t (jobs_in A ++ l.job ∷ []) r
  own_answer log t T lt A B l is r gives =
      let m = suc (length A) in
      let xs = T.tells.exchanges in
      let os = T.tells.outputs in
      let parts = pairs_take m xs os in
      record {
        exchanges = take m xs;
        outputs = take m os;
        runs = alone_take (e t) m xs Nothing os T.tells.runs;
        jobs_are = jobs_take m xs ∙ ap (take m) (T.jobs ∙ ap jobs_in is) ∙ take_jobs A B l;
        complete = reply_take m os T.tells.complete;
        allowed = allowed_first answers [] (pair_all (take m xs) (take m os)) parts.more (subst (Allowed answers []) parts.is T.answered);
        gives = gives;
      }

  -- one level more
  by_levels : (t : ℕ) (jobs : List Job) (r : Reply) → AnswersBy run answers t jobs r → answers_within run (suc (length s.threads)) t jobs r
  by_levels t jobs r a = record { exchanges = a.exchanges; outputs = a.outputs; runs = a.runs; jobs_are = a.jobs_are; complete = a.complete; allowed = more [] _ a.allowed; gives = a.gives }
    where
      more : (past xs : List Answered) → Allowed answers past xs → Allowed (answers_within run (length s.threads)) past xs
      more past [] h = tt
      more past (x ∷ xs) h = (answers_more run (length s.threads - x.branch) (length s.threads) x.branch (jobs_to x.branch (past ++ x ∷ [])) x.reply (omega arith) h.0, more (past ++ x ∷ []) xs h.1)

  pub same_of_log : (log : ExchangeLog) (given : List Job) → LogOf run s given log → AllAgree run s log
  same_of_log log given L t some lt =
      let T = L.each t some lt in
      let p = parents t some lt in
      let count : length T.tells.outputs ≡ length (log t) =
      alone_length (e t) T.tells.exchanges Nothing T.tells.outputs T.tells.runs ∙ sym (length-map T.tells.exchanges (λ x. x.job)) ∙ ap length T.jobs ∙ jobs_length (log t) in
      record {
        tells = T.tells;
        jobs = T.jobs;
        replies = replies_are T.tells.outputs (log t) count (λ A B l is. each_is T p.0 p.1 count A B l is);
        all = T.all;
      }
    where
      each_is : (T : IsLogged run s log t (jobs_in (log t))) (p : ℕ) → HasBranch s p t → length T.tells.outputs ≡ length (log t) → (A B : List Logged) (l : Logged) → log t ≡ A ++ l ∷ B →
          last_reply (take (suc (length A)) T.tells.outputs) ≡ Some l.reply
      each_is T p m count A B l is =
          let there = ap length is in
          let here = length_at A B l in
          let own = last_there (length A) T.tells.outputs T.tells.complete (omega (arith, here, there, count)) in
          let mine = by_levels t (jobs_in A ++ l.job ∷ []) own.0 (own_answer log t T lt A B l is own.0 own.1) in
          let same = answers_one S e steady (suc (length s.threads)) (length s.threads - t) t (jobs_in A ++ l.job ∷ []) own.0 l.reply mine (parent_answered log given L p t m lt A B l is) in
          own.1 ∙ ap Some same

  -- ---- one log

  pairs_one : (log log' : ExchangeLog) (t : ℕ) (given : List Job) (a : IsLogged run s log t given) (b : IsLogged run s log' t given) → (c : ℕ) → HasBranch s t c → log c ≡ log' c
  pairs_one log log' t given a b c m =
      let same = alone_same answers answers (λ n js r r' h g. answers_one S e steady (length s.threads - n) (length s.threads - n) n js r r' h g) S (e t) (steady t) [] a.tells.exchanges b.tells.exchanges a.tells.outputs b.tells.outputs Nothing
      a.tells.runs b.tells.runs (a.jobs ∙ sym b.jobs) a.tells.complete b.tells.complete a.answered b.answered in
      sym (a.all c m) ∙ ap (told_to c) same.pairs ∙ b.all c m

  up_to : (log log' : ExchangeLog) (given : List Job) → LogOf run s given log → LogOf run s given log' → (n t : ℕ) → 0 < t → t < length s.threads → t ≤ n → log t ≡ log' t
  up_to log log' given L M zero t some lt le = absurd (omega (arith, some, le))
  up_to log log' given L M (suc n) t some lt le =
      let p = parents t some lt in
      let at = below p.0 t p.1 in by_parent p.0 p.1 at.0 (λ q pos. up_to log log' given L M n q pos)
    where
      by_parent : (p : ℕ) → HasBranch s p t → p < t → ((q : ℕ) → 0 < q → q < length s.threads → q ≤ n → log q ≡ log' q) → log t ≡ log' t
      by_parent zero m less ih = pairs_one log log' 0 given L.root M.root t m
      by_parent (suc p) m less ih =
          let same = ih (suc p) (omega arith) (omega (arith, less, lt)) (omega (arith, less, le)) in
          pairs_one log log' (suc p) (jobs_in (log (suc p))) (L.each (suc p) (omega arith) (omega (arith, less, lt)))
          (subst (λ ls. IsLogged run s log' (suc p) (jobs_in ls)) (sym same) (M.each (suc p) (omega arith) (omega (arith, less, lt)))) t m

  pub log_one : (log log' : ExchangeLog) (given : List Job) → LogOf run s given log → LogOf run s given log' → (t : ℕ) → 0 < t → t < length s.threads → log t ≡ log' t
  log_one log log' given L M t some lt = up_to log log' given L M t t some lt (omega arith)
