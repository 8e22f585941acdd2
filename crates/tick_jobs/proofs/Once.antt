-- What threads answer to jobs is determined.
use Rattle.std.proofs.Common.{◌≡◌, ℕ, zero, suc, ◌-◌, ◌==◌, Bool, true, false, cond, Some, None, List, [], ◌∷◌, ◌++◌, map, length, refl, sym, ap, ◌∙◌, subst, append_assoc, arith}
use Rattle.std.proofs.lemmas.Bool.Decides.{nat_tests}
use Rattle.forec_kernel.specs.Engine.{Job, Start, Wake, allowance_of, Reply, WasPaused, WasEnded, WasTrapped, WasOver, Seed, Written, written, View, Going, AtFork, Pausing, Ending, Trapping, Exceeding, Engine, Rest, Asleep, Nothing, Exchange, Output, answers_with, ends_at, first_jobs, AtEvent, RunsOn, over, event, IfElse, Serves, Begins, Alone, Answered, pair_up, pair_forks, pair_all, jobs_to, Allowed, AllReply, last_reply, AnswersBy, answers_within, Answers}
use Rattle.forec_kernel.proofs.Same.{IsSteady, one_stop, not_both}
use Rattle.forec_kernel.proofs.Serving.{allowed_first, allowed_then}

-- at most one reply
abbrev pub IsOnce : (ℕ → List Job → Reply → Type 0) → Type 0
IsOnce Sub = (b : ℕ) (js : List Job) (r r' : Reply) → Sub b js r → Sub b js r' → r ≡ r'

abbrev pub HasReplied : Output → Type 0
HasReplied o = (r : Reply) × (o.reply ≡ Some r)

count_of : (a b : ℕ) → (a == b) ≡ true → a ≡ b
count_of a b h = grind (arith, nat_tests)

-- the replies to jobs, one by one
ups_once : (Sub : ℕ → List Job → Reply → Type 0) → IsOnce Sub → (past : List Answered) (ws : List Written) (rs rs' : List Reply) → length rs ≡ length ws → length rs' ≡ length ws →
    Allowed Sub past (pair_up ws rs) → Allowed Sub past (pair_up ws rs') → rs ≡ rs'
ups_once Sub once past [] [] [] c c' h h' = refl
ups_once Sub once past [] [] (r ∷ rs) c c' h h' = absurd (omega arith)
ups_once Sub once past [] (r ∷ rs) rs' c c' h h' = absurd (omega arith)
ups_once Sub once past (w ∷ ws) [] rs' c c' h h' = absurd (omega arith)
ups_once Sub once past (w ∷ ws) (r ∷ rs) [] c c' h h' = absurd (omega arith)
ups_once Sub once past (w ∷ ws) (r ∷ rs) (r' ∷ rs') c c' h h' =
    let js = jobs_to w.branch (past ++ record { branch = w.branch; job = w.job; reply = r } ∷ []) in
    let same = once w.branch js r r' h.0 (subst (λ l. Sub w.branch l r') (same_jobs past w r' r) h'.0) in
    let rest = ups_once Sub once (past ++ record { branch = w.branch; job = w.job; reply = r } ∷ []) ws rs rs' (omega (arith, c)) (omega (arith, c')) h.1
    (subst (λ x. Allowed Sub (past ++ record { branch = w.branch; job = w.job; reply = x } ∷ []) (pair_up ws rs')) (sym same) h'.1) in
    ap (λ x. x ∷ rs) same ∙ ap (λ l. r' ∷ l) rest
  where
    -- (jobs don't depend on replies)
    same_jobs : (past : List Answered) (w : Written) (x y : Reply) →
        jobs_to w.branch (past ++ record { branch = w.branch; job = w.job; reply = x } ∷ []) ≡ jobs_to w.branch (past ++ record { branch = w.branch; job = w.job; reply = y } ∷ [])
    same_jobs [] w x y = refl
    same_jobs (p ∷ past) w x y = ap (λ l. cond (p.branch == w.branch) (p.job ∷ l) l) (same_jobs past w x y)

some_same : (x y : Reply) → Some x ≡ Some y → x ≡ y
some_same x y e = cc

no_reply : (y : Reply) → None ≡ Some y → ⊥
no_reply y e = cc

-- a run that ends at a fork has no reply
ends_none : (ws : List Written) (o : Output) → o ≡ ends_at ws → HasReplied o → ⊥
ends_none ws o e h = no_reply h.0 (sym (ap (λ (x : Output). x.reply) e) ∙ h.1)

-- ---- one job

module _ (S : Type 0) (e : Engine S) (steady : IsSteady e) where
  -- two runs from one state come to the same event
  goes_once : (a : ℕ) (s : S) (f g : S → List Seed → Output → Rest S → Type 0) (o o' : Output) (r r' : Rest S) (Q : Type 0) →
      ((reply : Reply) → o ≡ answers_with reply → o' ≡ answers_with reply → r ≡ r' → Q) → ((s' : S) (seeds : List Seed) → f s' seeds o r → g s' seeds o' r' → Q) →
      RunsOn e a s f o r → RunsOn e a s g o' r' → Q
  goes_once a s f g o o' r r' Q same fork (over p po pr) (over q qo qr) = same WasOver po qo (pr ∙ sym qr)
  goes_once a s f g o o' r r' Q same fork (over p po pr) (event s2 b at) = absurd (not_both S e steady a s s2 b p)
  goes_once a s f g o o' r r' Q same fork (event s1 b at) (over q qo qr) = absurd (not_both S e steady a s s1 b q)
  goes_once a s f g o o' r r' Q same fork (event s1 b at) (event s2 d bt) =
      at_view (e.view s1) at (subst (λ x. AtEvent e x (e.view x) (g x) o' r') (sym (one_stop S e steady a s s1 s2 b d)) bt)
    where
      at_view : (v : View) → AtEvent e s1 v (f s1) o r → AtEvent e s1 v (g s1) o' r' → Q
      at_view Going h k = absurd h
      at_view (AtFork seeds) h k = fork s1 seeds h k
      at_view (Pausing c) h k = same (WasPaused c (e.units s1)) h.0 k.0 (h.1 ∙ sym k.1)
      at_view (Ending c) h k = same (WasEnded c (e.units s1)) h.0 k.0 (h.1 ∙ sym k.1)
      at_view (Trapping place trap) h k = same (WasTrapped place trap (e.units s1)) h.0 k.0 (h.1 ∙ sym k.1)
      at_view Exceeding h k = same WasOver h.0 k.0 (h.1 ∙ sym k.1)

  module _ (Sub : ℕ → List Job → Reply → Type 0) (once : IsOnce Sub) where
    -- what two runs of a job have in common
    pub record IsSame (o o' : Output) (r r' : Rest S) (rss rss' : List (List Reply)) : Type 0 where
      pub output : o ≡ o'
      pub rest : r ≡ r'
      pub pairs : pair_forks o.jobs rss ≡ pair_forks o'.jobs rss'

    no_pairs : (rss : List (List Reply)) (o : Output) (reply : Reply) → o ≡ answers_with reply → pair_forks o.jobs rss ≡ []
    no_pairs rss o reply h = ap (λ (x : Output). pair_forks x.jobs rss) h

    at_once : (rss rss' : List (List Reply)) (o o' : Output) (r r' : Rest S) (reply : Reply) → o ≡ answers_with reply → o' ≡ answers_with reply → r ≡ r' → IsSame o o' r r' rss rss'
    at_once rss rss' o o' r r' reply h h' q = record { output = h ∙ sym h'; rest = q; pairs = no_pairs rss o reply h ∙ sym (no_pairs rss' o' reply h') }

    first_replied : (ws : List Written) (o o1 : Output) → o ≡ first_jobs ws o1 → HasReplied o → HasReplied o1
    first_replied ws o o1 h g = (g.0, sym (ap (λ (x : Output). x.reply) h) ∙ g.1)

    serves_once : (a : ℕ) (rss rss' : List (List Reply)) (s : S) (o o' : Output) (r r' : Rest S) (past rest rest' : List Answered) → Serves e a rss s o r → Serves e a rss' s o' r' →
        HasReplied o → HasReplied o' → Allowed Sub past (pair_forks o.jobs rss ++ rest) → Allowed Sub past (pair_forks o'.jobs rss' ++ rest') → IsSame o o' r r' rss rss'
    serves_once a [] [] s o o' r r' past rest rest' h h' has has' al al' =
        goes_once a s _ _ o o' r r' _ (at_once [] [] o o' r r') (λ s' seeds f g. absurd (ends_none _ o f.0 has)) h h'
    serves_once a [] (rs' ∷ more') s o o' r r' past rest rest' h h' has has' al al' =
        goes_once a s _ _ o o' r r' _ (at_once [] (rs' ∷ more') o o' r r') (λ s' seeds f g. absurd (ends_none _ o f.0 has)) h h'
    serves_once a (rs ∷ more) [] s o o' r r' past rest rest' h h' has has' al al' =
        goes_once a s _ _ o o' r r' _ (at_once (rs ∷ more) [] o o' r r') (λ s' seeds f g. absurd (ends_none _ o' g.0 has')) h h'
    serves_once a (rs ∷ more) (rs' ∷ more') s o o' r r' past rest rest' h h' has has' al al' =
        goes_once a s _ _ o o' r r' _ (at_once (rs ∷ more) (rs' ∷ more') o o' r r')
        (λ s' seeds f g. by_counts s' seeds (length rs == length seeds) (length rs' == length seeds) refl refl
        (λ p q x y. serves_once a more more' (e.join rs s') p q r r' (past ++ pair_up (ws s' seeds) rs) rest rest' x y) f g) h h'
      where
        ws : S → List Seed → List Written
        ws s' seeds = map (written (a - e.units s')) seeds

        count_written : (n : ℕ) (seeds : List Seed) → length (map (written n) seeds) ≡ length seeds
        count_written n [] = refl
        count_written n (x ∷ seeds) = ap suc (count_written n seeds)

        Fork : S → List Seed → List Reply → List (List Reply) → Bool → Output → Rest S → Type 0
        Fork s' seeds rs more test o r =
            IfElse test ((p : Output) × Serves e a more (e.join rs s') p r × (o ≡ first_jobs (map (written (a - e.units s')) seeds) p)) ((o ≡ ends_at (map (written (a - e.units s')) seeds)) × (r ≡ Nothing))

        by_counts : (s' : S) (seeds : List Seed) (test test' : Bool) → (length rs == length seeds) ≡ test → (length rs' == length seeds) ≡ test' →
            ((p q : Output) → Serves e a more (e.join rs s') p r → Serves e a more' (e.join rs s') q r' → HasReplied p → HasReplied q →
            Allowed Sub (past ++ pair_up (map (written (a - e.units s')) seeds) rs) (pair_forks p.jobs more ++ rest) → Allowed Sub (past ++ pair_up (map (written (a - e.units s')) seeds) rs) (pair_forks q.jobs more' ++ rest') → IsSame p q r r' more more') →
            IfElse test ((p : Output) × Serves e a more (e.join rs s') p r × (o ≡ first_jobs (map (written (a - e.units s')) seeds) p)) ((o ≡ ends_at (map (written (a - e.units s')) seeds)) × (r ≡ Nothing)) →
            IfElse test' ((p : Output) × Serves e a more' (e.join rs' s') p r' × (o' ≡ first_jobs (map (written (a - e.units s')) seeds) p)) ((o' ≡ ends_at (map (written (a - e.units s')) seeds)) × (r' ≡ Nothing)) →
            IsSame o o' r r' (rs ∷ more) (rs' ∷ more')
        by_counts s' seeds false test' c c' ih f g = absurd (ends_none _ o f.0 has)
        by_counts s' seeds true false c c' ih f g = absurd (ends_none _ o' g.0 has')
        by_counts s' seeds true true c c' ih f g =
            let jobs = map (written (a - e.units s')) seeds in
            let count = count_written (a - e.units s') seeds in
            let is = ap (λ (x : Output). pair_forks x.jobs (rs ∷ more)) f.2 in
            let is' = ap (λ (x : Output). pair_forks x.jobs (rs' ∷ more')) g.2 in
            let all = subst (Allowed Sub past) (ap (λ l. l ++ rest) is ∙ append_assoc (pair_up jobs rs) (pair_forks f.0.jobs more) rest) al in
            let all' = subst (Allowed Sub past) (ap (λ l. l ++ rest') is' ∙ append_assoc (pair_up jobs rs') (pair_forks g.0.jobs more') rest') al' in
            let same = ups_once Sub once past jobs rs rs' (count_of _ _ c ∙ sym count) (count_of _ _ c' ∙ sym count) (allowed_first Sub past (pair_up jobs rs) _ all) (allowed_first Sub past (pair_up jobs rs') _ all') in
            let next = ih f.0 g.0 f.1 (subst (λ l. Serves e a more' (e.join l s') g.0 r') (sym same) g.1) (first_replied jobs o f.0 f.2 has) (first_replied jobs o' g.0 g.2 has')
            (allowed_then Sub past (pair_up jobs rs) _ all) (subst (λ l. Allowed Sub (past ++ pair_up jobs l) (pair_forks g.0.jobs more' ++ rest')) (sym same) (allowed_then Sub past (pair_up jobs rs') _ all')) in
            record {
              output = f.2 ∙ ap (first_jobs jobs) next.output ∙ sym g.2;
              rest = next.rest;
              pairs = is ∙ ap (λ l. pair_up jobs l ++ pair_forks f.0.jobs more) same ∙ ap (λ l. pair_up jobs rs' ++ l) next.pairs ∙ sym is';
            }

    -- ---- all jobs

    begins_once : (job : Job) (r : Rest S) (s s' : S) → Begins e job r s → Begins e job r s' → s ≡ s'
    begins_once (Start args values a) r s s' h g = h ∙ sym g
    begins_once (Wake values a) (Asleep m) s s' h g = h ∙ sym g
    begins_once (Wake values a) Nothing s s' h g = absurd h

    abbrev jobs_in : List Exchange → List Job
    jobs_in xs = map (λ x. x.job) xs

    head_same : (j k : Job) (js ks : List Job) → j ∷ js ≡ k ∷ ks → j ≡ k
    head_same j k js ks h = cc

    tail_same : (j k : Job) (js ks : List Job) → j ∷ js ≡ k ∷ ks → js ≡ ks
    tail_same j k js ks h = cc

    not_empty : (j : Job) (js : List Job) → [] ≡ j ∷ js → ⊥
    not_empty j js h = cc

    pub alone_once : (xs ys : List Exchange) (r : Rest S) (os ps : List Output) (past : List Answered) → jobs_in xs ≡ jobs_in ys → Alone e xs r os → Alone e ys r ps → AllReply os → AllReply ps →
        Allowed Sub past (pair_all xs os) → Allowed Sub past (pair_all ys ps) → os ≡ ps
    alone_once [] [] r [] [] past same h g a b al bl = refl
    alone_once [] ys r (o ∷ os) ps past same h g a b al bl = absurd h
    alone_once [] [] r [] (p ∷ ps) past same h g a b al bl = absurd g
    alone_once [] (y ∷ ys) r [] ps past same h g a b al bl = absurd (not_empty y.job (jobs_in ys) same)
    alone_once (x ∷ xs) [] r os ps past same h g a b al bl = absurd (not_empty x.job (jobs_in xs) (sym same))
    alone_once (x ∷ xs) (y ∷ ys) r [] ps past same h g a b al bl = absurd h
    alone_once (x ∷ xs) (y ∷ ys) r (o ∷ os) [] past same h g a b al bl = absurd g
    alone_once (x ∷ xs) (y ∷ ys) r (o ∷ os) (p ∷ ps) past same h g a b al bl =
        let job = head_same x.job y.job (jobs_in xs) (jobs_in ys) same in
        let s = begins_once x.job r h.0 g.0 h.2 (subst (λ j. Begins e j r g.0) (sym job) g.2) in
        let served = subst (λ m. Serves e (allowance_of x.job) y.replies m p g.1) (sym s) (subst (λ j. Serves e (allowance_of j) y.replies g.0 p g.1) (sym job) g.3) in
        let one = serves_once (allowance_of x.job) x.replies y.replies h.0 o p h.1 g.1 past (pair_all xs os) (pair_all ys ps) h.3 served a.0 b.0 al bl in
        let more = alone_once xs ys h.1 os ps (past ++ pair_forks o.jobs x.replies) (tail_same x.job y.job (jobs_in xs) (jobs_in ys) same) h.4
        (subst (λ q. Alone e ys q ps) (sym one.rest) g.4) a.1 b.1 (allowed_then Sub past (pair_forks o.jobs x.replies) (pair_all xs os) al)
        (subst (λ l. Allowed Sub (past ++ l) (pair_all ys ps)) (sym one.pairs) (allowed_then Sub past (pair_forks p.jobs y.replies) (pair_all ys ps) bl)) in
        ap (λ q. q ∷ os) one.output ∙ ap (λ l. p ∷ l) more

-- ---- answers

module _ (S : ℕ → Type 0) (e : (t : ℕ) → Engine (S t)) (steady : (t : ℕ) → IsSteady (e t)) where
  abbrev run : ℕ → List Exchange → List Output → Type 0
  run t xs os = Alone (e t) xs Nothing os

  by_once : (Sub : ℕ → List Job → Reply → Type 0) → IsOnce Sub → IsOnce (AnswersBy run Sub)
  by_once Sub once t js r r' h g =
      let same = alone_once (S t) (e t) (steady t) Sub once h.exchanges g.exchanges Nothing h.outputs g.outputs [] (h.jobs_are ∙ sym g.jobs_are) h.runs g.runs h.complete g.complete h.allowed g.allowed in
      some_same r r' (sym h.gives ∙ ap last_reply same ∙ g.gives)

  within_once : (n : ℕ) → IsOnce (answers_within run n)
  within_once zero = by_once (λ b js r. ⊥) (λ b js r r' h g. absurd h)
  within_once (suc n) = by_once (answers_within run n) (within_once n)

  -- a thread has one reply to a list of jobs
  pub answers_once : (threads : ℕ) → IsOnce (Answers run threads)
  answers_once threads t js r r' h g = within_once (threads - t) t js r r' h g
