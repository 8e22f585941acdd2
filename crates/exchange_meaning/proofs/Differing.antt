-- That a thread differs from a log is certain: whatever run there is with the logged replies, it comes to the same fork, or to the same reply.
use Rattle.std.proofs.Common.{ℕ, suc, ◌-◌, ◌<◌, ◌≡◌, ◌==◌, Bool, true, false, Some, List, [], ◌∷◌, ◌++◌, map, length, refl, sym, ap, subst, ◌∙◌, arith, append_assoc, append-nil}
use Rattle.forec_kernel.specs.Engine.{Job, Reply, WasPaused, WasEnded, WasTrapped, WasOver, Seed, Written, written, View, Going, AtFork, Pausing, Ending, Trapping, Exceeding, Engine, Rest, Nothing, Exchange, Output, Alone, allowance_of, Answered, pair_up, pair_forks, pair_all, Allowed, AllReply, AtEvent, RunsOn, over, event, first_jobs, ends_at, answers_with, IfElse, Serves, Begins}
use Rattle.forec_kernel.specs.Shapes.{PlainShape}
use Rattle.forec_kernel.proofs.Same.{IsSteady, one_stop, not_both}
use Rattle.forec_kernel.proofs.Serving.{allowed_first, allowed_then}
use Rattle.exchange_meaning.specs.Logged.{Logged, ExchangeLog, jobs_in, HasBranch}
use Rattle.exchange_meaning.specs.Telling.{TellsBranches}
use Rattle.exchange_meaning.proofs.Sound.{told_allowed}
use Rattle.exchange_meaning.proofs.Once.{no_reply, up_same, count_of, Joins, AtBoth, joins_of, as_both, begins_same, serves_same, SameRuns, alone_same}

-- ---- the reply that a log has

-- the log has this reply for the last of these jobs of thread b
pub record LoggedAs (log : ExchangeLog) (b : ℕ) (js : List Job) (r : Reply) : Type 0 where
  pub before : List Logged
  pub after : List Logged
  pub one : Logged
  pub at : log b ≡ before ++ one ∷ after
  pub jobs : js ≡ jobs_in before ++ one.job ∷ []
  pub reply : one.reply ≡ r

jobs_count : (ls : List Logged) (j : Job) → length (jobs_in ls ++ j ∷ []) ≡ suc (length ls)
jobs_count [] j = refl
jobs_count (l ∷ ls) j = ap suc (jobs_count ls j)

same_place : (A B A' B' : List Logged) (l l' : Logged) → A ++ l ∷ B ≡ A' ++ l' ∷ B' → length A ≡ length A' → l ≡ l'
same_place [] B [] B' l l' e n = cc
same_place [] B (a ∷ A') B' l l' e n = cc
same_place (a ∷ A) B [] B' l l' e n = cc
same_place (a ∷ A) B (a' ∷ A') B' l l' e n = let f : A ++ l ∷ B ≡ A' ++ l' ∷ B' = cc in let m : length A ≡ length A' = cc in same_place A B A' B' l l' f m

suc_number : (a b : ℕ) → suc a ≡ suc b → a ≡ b
suc_number a b e = cc

pub logged_one : (log : ExchangeLog) (b : ℕ) (js : List Job) (r r' : Reply) → LoggedAs log b js r → LoggedAs log b js r' → r ≡ r'
logged_one log b js r r' x y =
    let counts = suc_number (length x.before) (length y.before) (sym (jobs_count x.before x.one.job) ∙ ap length (sym x.jobs ∙ y.jobs) ∙ jobs_count y.before y.one.job) in
    let same = same_place x.before x.after y.before y.after x.one y.one (sym x.at ∙ y.at) counts in sym x.reply ∙ ap (λ (l : Logged). l.reply) same ∙ y.reply

module _ (S : Type 0) (e : ℕ → Engine S) (s : PlainShape) (log : ExchangeLog) (below : (t b : ℕ) → HasBranch s t b → (t < b) × (b < length s.threads)) where
  abbrev run : ℕ → List Exchange → List Output → Type 0
  run t xs os = Alone (e t) xs Nothing os

  pub tells_logged : (t : ℕ) (T : TellsBranches run s log t) → Allowed (LoggedAs log) [] (pair_all T.exchanges T.outputs)
  tells_logged t T =
      told_allowed S e s log below (LoggedAs log) t (λ b m A B l is. record { before = A; after = B; one = l; at = is; jobs = refl; reply = refl }) [] (pair_all T.exchanges T.outputs) T.mine T.told

  -- two runs of the same jobs with the logged replies are the same
  pub tells_same : (t : ℕ) (steady : IsSteady (e t)) (T U : TellsBranches run s log t) → map (λ x. x.job) T.exchanges ≡ map (λ x. x.job) U.exchanges →
      SameRuns (LoggedAs log) (LoggedAs log) (logged_one log) S (e t) steady T.exchanges T.outputs U.exchanges U.outputs
  tells_same t steady T U jobs =
      alone_same (LoggedAs log) (LoggedAs log) (logged_one log) S (e t) steady [] T.exchanges U.exchanges T.outputs U.outputs Nothing T.runs U.runs jobs T.complete U.complete (tells_logged t T) (tells_logged t U)

-- ---- a run that ends at a fork, and a whole one

module _ (Sub Sub' : ℕ → List Job → Reply → Type 0) (one : (b : ℕ) (js : List Job) (r r' : Reply) → Sub b js r → Sub' b js r' → r ≡ r') (S : Type 0) (e : Engine S) (steady : IsSteady e) where
  -- The first run ends at a fork where it writes `ws`; in the second, after the same pairs, these have replies.
  pub record Meets (forks : List (List Written)) (pairs whole : List Answered) : Type 0 where
    pub before : List (List Written)
    pub ws : List Written
    pub forks_are : forks ≡ before ++ ws ∷ []
    pub rs : List Reply
    pub count : length rs ≡ length ws
    pub more : List Answered
    pub whole_is : whole ≡ pairs ++ (pair_up ws rs ++ more)

  -- the same of other pairs
  meets_too : {forks : List (List Written)} {pairs whole pairs' whole' : List Answered} (m : Meets forks pairs whole) (more : List Answered) →
      whole' ≡ pairs' ++ (pair_up m.ws m.rs ++ more) → Meets forks pairs' whole'
  meets_too m more is = record {
    before = m.before;
    ws = m.ws;
    forks_are = m.forks_are;
    rs = m.rs;
    count = m.count;
    more = more;
    whole_is = is;
  }

  abbrev Met : Output → List (List Reply) → Output → List (List Reply) → Type 0
  Met o rss o' rss' = Meets o.jobs (pair_forks o.jobs rss) (pair_forks o'.jobs rss')

  no_fork : (o : Output) (p : Reply) (n : ℕ) → o ≡ answers_with p → length o.jobs ≡ suc n → ⊥
  no_fork o p n e c = let f : 0 ≡ suc n = sym (ap (λ (x : Output). length x.jobs) e) ∙ c in omega (arith, f)

  one_fork : (o : Output) (ws : List Written) (n : ℕ) → o ≡ ends_at ws → length o.jobs ≡ suc (suc n) → ⊥
  one_fork o ws n e c = let f : 1 ≡ suc (suc n) = sym (ap (λ (x : Output). length x.jobs) e) ∙ c in omega (arith, f)

  abbrev Shorter : List (List Reply) → S → ℕ → Type 0
  Shorter rss s a =
      (past : List Answered) (rss' : List (List Reply)) (o o' : Output) (r r' : Rest S) (p' : Reply) → length o.jobs ≡ suc (length rss) → o'.reply ≡ Some p' → Serves e a rss s o r → Serves e a rss' s o' r' →
      Allowed Sub past (pair_forks o.jobs rss) → Allowed Sub' past (pair_forks o'.jobs rss') → Met o rss o' rss'

  last_met : (a : ℕ) (s : S) (seeds : List Seed) (rs' : List Reply) (more' : List (List Reply)) (o o' : Output) (r' : Rest S) → o ≡ ends_at (map (written (a - e.units s)) seeds) →
      Joins Sub Sub' one S e steady a s seeds rs' more' o' r' → Met o [] o' (rs' ∷ more')
  last_met a s seeds rs' more' o o' r' is j =
      let ws = map (written (a - e.units s)) seeds in
      record {
        before = [];
        ws = ws;
        forks_are = ap (λ (x : Output). x.jobs) is;
        rs = rs';
        count = j.count;
        more = pair_forks j.later.jobs more';
        whole_is = ap (λ (x : Output). pair_forks x.jobs (rs' ∷ more')) j.is ∙ sym (ap (λ (x : Output). pair_forks x.jobs [] ++ (pair_up ws rs' ++ pair_forks j.later.jobs more')) is);
      }

  then_met : (a : ℕ) (past : List Answered) (s : S) (seeds : List Seed) (rs rs' : List Reply) (more more' : List (List Reply)) (o o' : Output) (r r' : Rest S) (p' : Reply) → length o.jobs ≡ suc (suc (length more)) → o'.reply ≡ Some p' →
      Joins Sub Sub' one S e steady a s seeds rs more o r → Joins Sub Sub' one S e steady a s seeds rs' more' o' r' →
      Allowed Sub past (pair_forks o.jobs (rs ∷ more)) → Allowed Sub' past (pair_forks o'.jobs (rs' ∷ more')) → Shorter more (e.join rs s) a → Met o (rs ∷ more) o' (rs' ∷ more')
  then_met a past s seeds rs rs' more more' o o' r r' p' short q' j j' h h' later =
      let ws = map (written (a - e.units s)) seeds in
      let h1 = subst (λ (x : Output). Allowed Sub past (pair_forks x.jobs (rs ∷ more))) j.is h in
      let h1' = subst (λ (x : Output). Allowed Sub' past (pair_forks x.jobs (rs' ∷ more'))) j'.is h' in
      let same = up_same Sub Sub' one past ws rs rs' j.count j'.count (allowed_first Sub past (pair_up ws rs) (pair_forks j.later.jobs more) h1) (allowed_first Sub' past (pair_up ws rs') (pair_forks j'.later.jobs more') h1') in
      let after = allowed_then Sub past (pair_up ws rs) (pair_forks j.later.jobs more) h1 in
      let after' = subst (λ x. Allowed Sub' (past ++ pair_up ws x) (pair_forks j'.later.jobs more')) (sym same) (allowed_then Sub' past (pair_up ws rs') (pair_forks j'.later.jobs more') h1') in
      let serves' = subst (λ x. Serves e a more' (e.join x s) j'.later r') (sym same) j'.serves in
      let count : length j.later.jobs ≡ suc (length more) = suc_number (length j.later.jobs) (suc (length more)) (sym (ap (λ (x : Output). length x.jobs) j.is) ∙ short) in
      let rest = later (past ++ pair_up ws rs) more' j.later j'.later r r' p' count (sym (ap (λ (x : Output). x.reply) j'.is) ∙ q') j.serves serves' after after' in
      record {
        before = ws ∷ rest.before;
        ws = rest.ws;
        forks_are = ap (λ (x : Output). x.jobs) j.is ∙ ap (λ l. ws ∷ l) rest.forks_are;
        rs = rest.rs;
        count = rest.count;
        more = rest.more;
        whole_is =
            ap (λ (x : Output). pair_forks x.jobs (rs' ∷ more')) j'.is
            ∙ ap (λ x. pair_up ws x ++ pair_forks j'.later.jobs more') (sym same)
            ∙ ap (λ ps. pair_up ws rs ++ ps) rest.whole_is
            ∙ sym (append_assoc (pair_up ws rs) (pair_forks j.later.jobs more) (pair_up rest.ws rest.rs ++ rest.more))
            ∙ sym (ap (λ (x : Output). pair_forks x.jobs (rs ∷ more) ++ (pair_up rest.ws rest.rs ++ rest.more)) j.is);
      }

  event_met : (a : ℕ) (past : List Answered) (rss rss' : List (List Reply)) (s : S) (v : View) (o o' : Output) (r r' : Rest S) (p' : Reply) → length o.jobs ≡ suc (length rss) → o'.reply ≡ Some p' →
      AtEvent e s v (λ seeds. AtBoth Sub Sub' one S e steady a s seeds rss) o r → AtEvent e s v (λ seeds. AtBoth Sub Sub' one S e steady a s seeds rss') o' r' →
      Allowed Sub past (pair_forks o.jobs rss) → Allowed Sub' past (pair_forks o'.jobs rss') → ((rs : List Reply) (more : List (List Reply)) → rss ≡ rs ∷ more → Shorter more (e.join rs s) a) → Met o rss o' rss'
  event_met a past rss rss' s Going o o' r r' p' short q' h h' l l' later = absurd h
  event_met a past [] [] s (AtFork seeds) o o' r r' p' short q' h h' l l' later = absurd (no_reply o' (map (written (a - e.units s)) seeds) p' h'.0 q')
  event_met a past [] (rs' ∷ more') s (AtFork seeds) o o' r r' p' short q' h h' l l' later =
      last_met a s seeds rs' more' o o' r' h.0 (joins_of Sub Sub' one S e steady a s seeds rs' more' o' r' p' q' h')
  event_met a past (rs ∷ more) [] s (AtFork seeds) o o' r r' p' short q' h h' l l' later = absurd (no_reply o' (map (written (a - e.units s)) seeds) p' h'.0 q')
  event_met a past (rs ∷ more) (rs' ∷ more') s (AtFork seeds) o o' r r' p' short q' h h' l l' later =
      by_test (length rs == length seeds) refl h (later rs more refl)
    where
      by_test : (test : Bool) → (length rs == length seeds) ≡ test → IfElse test
          ((o1 : Output) × Serves e a more (e.join rs s) o1 r × (o ≡ first_jobs (map (written (a - e.units s)) seeds) o1))
          ((o ≡ ends_at (map (written (a - e.units s)) seeds)) × (r ≡ Nothing)) → Shorter more (e.join rs s) a → Met o (rs ∷ more) o' (rs' ∷ more')
      by_test true t x ih =
          then_met a past s seeds rs rs' more more' o o' r r' p' short q' (record { count = count_of Sub Sub' one S e steady rs seeds (a - e.units s) t; later = x.0; serves = x.1; is = x.2 })
          (joins_of Sub Sub' one S e steady a s seeds rs' more' o' r' p' q' h') l l' ih
      by_test false t x ih = absurd (one_fork o (map (written (a - e.units s)) seeds) (length more) x.0 short)
  event_met a past rss rss' s (Pausing c) o o' r r' p' short q' h h' l l' later = absurd (no_fork o (WasPaused c (e.units s)) (length rss) h.0 short)
  event_met a past rss rss' s (Ending c) o o' r r' p' short q' h h' l l' later = absurd (no_fork o (WasEnded c (e.units s)) (length rss) h.0 short)
  event_met a past rss rss' s (Trapping place trap) o o' r r' p' short q' h h' l l' later = absurd (no_fork o (WasTrapped place trap (e.units s)) (length rss) h.0 short)
  event_met a past rss rss' s Exceeding o o' r r' p' short q' h h' l l' later = absurd (no_fork o WasOver (length rss) h.0 short)

  runs_met : (a : ℕ) (past : List Answered) (rss rss' : List (List Reply)) (s : S) (o o' : Output) (r r' : Rest S) (p' : Reply) → length o.jobs ≡ suc (length rss) → o'.reply ≡ Some p' →
      RunsOn e a s (λ s1 seeds. AtBoth Sub Sub' one S e steady a s1 seeds rss) o r → RunsOn e a s (λ s1 seeds. AtBoth Sub Sub' one S e steady a s1 seeds rss') o' r' →
      Allowed Sub past (pair_forks o.jobs rss) → Allowed Sub' past (pair_forks o'.jobs rss') → ((s1 : S) (rs : List Reply) (more : List (List Reply)) → rss ≡ rs ∷ more → Shorter more (e.join rs s1) a) → Met o rss o' rss'
  runs_met a past rss rss' s o o' r r' p' short q' (over x xo xr) y l l' later = absurd (no_fork o WasOver (length rss) xo short)
  runs_met a past rss rss' s o o' r r' p' short q' (event s1 b at) (over y yo yr) l l' later = absurd (not_both S e steady a s s1 b y)
  runs_met a past rss rss' s o o' r r' p' short q' (event s1 x at) (event s2 y bt) l l' later =
      let same = one_stop S e steady a s s1 s2 x y in
      event_met a past rss rss' s1 (e.view s1) o o' r r' p' short q' at (subst (λ z. AtEvent e z (e.view z) (λ seeds. AtBoth Sub Sub' one S e steady a z seeds rss') o' r') (sym same) bt) l l' (later s1)

  none_more : (rs : List Reply) (more : List (List Reply)) → [] ≡ rs ∷ more → ⊥
  none_more rs more e = cc

  pub serves_met : (a : ℕ) (rss : List (List Reply)) (s : S) → Shorter rss s a
  serves_met a [] s past rss' o o' r r' p' short q' h h' l l' =
      runs_met a past [] rss' s o o' r r' p' short q' (as_both Sub Sub' one S e steady a [] s o r h) (as_both Sub Sub' one S e steady a rss' s o' r' h') l l' (λ s1 rs more f. absurd (none_more rs more f))
  serves_met a (rs ∷ rss) s past rss' o o' r r' p' short q' h h' l l' =
      runs_met a past (rs ∷ rss) rss' s o o' r r' p' short q' (as_both Sub Sub' one S e steady a (rs ∷ rss) s o r h) (as_both Sub Sub' one S e steady a rss' s o' r' h') l l'
      (λ s1 rs1 more f. with_later (λ x. serves_met a rss x) s1 rs1 more f)
    where
      with_later : ((x : S) → Shorter rss x a) → (s1 : S) (rs1 : List Reply) (more : List (List Reply)) → rs ∷ rss ≡ rs1 ∷ more → Shorter more (e.join rs1 s1) a
      with_later ih s1 rs1 more f = let tail : rss ≡ more = cc in subst (λ m. Shorter m (e.join rs1 s1) a) tail (ih (e.join rs1 s1))

  -- so with jobs that had their replies before
  pub alone_met : (past : List Answered) (xs xs' : List Exchange) (x : Exchange) (os os' : List Output) (o : Output) (R : Rest S) → Alone e (xs ++ x ∷ []) R (os ++ o ∷ []) → Alone e xs' R os' →
      map (λ y. y.job) (xs ++ x ∷ []) ≡ map (λ y. y.job) xs' → length os ≡ length xs → AllReply os → AllReply os' → length o.jobs ≡ suc (length x.replies) →
      Allowed Sub past (pair_all (xs ++ x ∷ []) (os ++ o ∷ [])) → Allowed Sub' past (pair_all xs' os') → Meets o.jobs (pair_all (xs ++ x ∷ []) (os ++ o ∷ [])) (pair_all xs' os')
  alone_met past [] [] x os os' o R h h' jobs n c c' short l l' = cc
  alone_met past [] (x' ∷ xs') x (p ∷ os) os' o R h h' jobs n c c' short l l' = cc
  alone_met past [] (x' ∷ xs') x [] [] o R h h' jobs n c c' short l l' = absurd h'
  alone_met past [] (x' ∷ xs') x [] (o' ∷ os') o R h h' jobs n c c' short l l' =
      let job : x.job ≡ x'.job = cc in
      let s = begins_same Sub Sub' one S e steady x.job R h.0 h'.0 h.2 (subst (λ i. Begins e i R h'.0) (sym job) h'.2) in
      let g' = subst (λ i. Serves e (allowance_of i) x'.replies h.0 o' h'.1) (sym job) (subst (λ z. Serves e (allowance_of x'.job) x'.replies z o' h'.1) (sym s) h'.3) in
      let k = allowed_first Sub past (pair_forks o.jobs x.replies) [] l in
      let m = serves_met (allowance_of x.job) x.replies h.0 past x'.replies o o' h.1 h'.1 c'.0.0 short c'.0.1 h.3 g' k (allowed_first Sub' past (pair_forks o'.jobs x'.replies) (pair_all xs' os') l') in
      meets_too m (m.more ++ pair_all xs' os')
      (ap (λ ps. ps ++ pair_all xs' os') m.whole_is
      ∙ append_assoc (pair_forks o.jobs x.replies) (pair_up m.ws m.rs ++ m.more) (pair_all xs' os')
      ∙ ap (λ ps. pair_forks o.jobs x.replies ++ ps) (append_assoc (pair_up m.ws m.rs) m.more (pair_all xs' os'))
      ∙ ap (λ ps. ps ++ (pair_up m.ws m.rs ++ (m.more ++ pair_all xs' os'))) (sym (append-nil (pair_forks o.jobs x.replies))))
  alone_met past (y ∷ xs) [] x os os' o R h h' jobs n c c' short l l' = cc
  alone_met past (y ∷ xs) (x' ∷ xs') x [] os' o R h h' jobs n c c' short l l' = cc
  alone_met past (y ∷ xs) (x' ∷ xs') x (p ∷ os) [] o R h h' jobs n c c' short l l' = absurd h'
  alone_met past (y ∷ xs) (x' ∷ xs') x (p ∷ os) (o' ∷ os') o R h h' jobs n c c' short l l' =
      let job : y.job ≡ x'.job = cc in
      let rest_jobs : map (λ z. z.job) (xs ++ x ∷ []) ≡ map (λ z. z.job) xs' = cc in
      let s = begins_same Sub Sub' one S e steady y.job R h.0 h'.0 h.2 (subst (λ i. Begins e i R h'.0) (sym job) h'.2) in
      let g' = subst (λ i. Serves e (allowance_of i) x'.replies h.0 o' h'.1) (sym job) (subst (λ z. Serves e (allowance_of x'.job) x'.replies z o' h'.1) (sym s) h'.3) in
      let P = pair_forks p.jobs y.replies in
      let P' = pair_forks o'.jobs x'.replies in
      let Q = pair_all (xs ++ x ∷ []) (os ++ o ∷ []) in
      let same = serves_same Sub Sub' one S e steady (allowance_of y.job) y.replies h.0 past x'.replies p o' h.1 h'.1 c.0.0 c'.0.0 c.0.1 c'.0.1 h.3 g' (allowed_first Sub past P Q l) (allowed_first Sub' past P' (pair_all xs' os') l') in
      let k' = subst (λ ps. Allowed Sub' (past ++ ps) (pair_all xs' os')) (sym same.pairs) (allowed_then Sub' past P' (pair_all xs' os') l') in
      let n' : length os ≡ length xs = cc in
      let m = alone_met (past ++ P) xs xs' x os os' o h.1 h.4 (subst (λ z. Alone e xs' z os') (sym same.rests) h'.4) rest_jobs n' c.1 c'.1 short (allowed_then Sub past P Q l) k' in
      meets_too m m.more (ap (λ ps. ps ++ pair_all xs' os') (sym same.pairs) ∙ ap (λ ps. P ++ ps) m.whole_is ∙ sym (append_assoc P Q (pair_up m.ws m.rs ++ m.more)))
