-- What a replay finds at a job decides whether it fails.
use Rattle.std.proofs.Common.{ℕ, suc, ◌-◌, ◌<◌, ◌≡◌, ◌==◌, Bool, true, false, cond, ℤ, None, Some, List, [], ◌∷◌, ◌++◌, map, take, length, refl, sym, ap, subst, ◌∙◌, arith, append_assoc}
use Rattle.std.proofs.lemmas.Bool.Decides.{nat_tests}
use Rattle.forec_kernel.specs.Engine.{Job, Wake, Reply, WasPaused, Seed, Written, written, View, Going, AtFork, Pausing, Ending, Trapping, Exceeding, Engine, Rest, Asleep, Nothing, Exchange, Output, Alone, allowance_of, Answered, pair_up, pair_all, jobs_to, AllReply, AtEvent, RunsOn, over, event, first_jobs, ends_at, answers_with, IfElse, Serves, Begins}
use Rattle.forec_kernel.specs.Shapes.{PlainShape}
use Rattle.forec_kernel.proofs.Same.{IsSteady}
use Rattle.exchange_meaning.specs.Logged.{Logged, ExchangeLog, jobs_in, RepliesAre, told_to, HasBranch, AreTold, StartsWith}
use Rattle.exchange_meaning.specs.Telling.{TellsBranches, IsAll}
use Rattle.exchange_meaning.specs.Replays.{AgreesUpTo, AgreesWholly, FailsAt}
use Rattle.exchange_meaning.proofs.TellingLemmas.{jobs_told, jobs_append}
use Rattle.exchange_meaning.proofs.Sound.{told_allowed}
use Rattle.exchange_meaning.proofs.Failing.{take_whole, holds_before, same_holds}
use Rattle.exchange_meaning.proofs.Differing.{LoggedAs, logged_one, alone_met, tells_same}

-- ---- jobs that are written

-- those for thread b
abbrev pub jobs_for : ℕ → List Written → List Job
jobs_for b [] = []
jobs_for b (w ∷ ws) = cond (w.branch == b) (w.job ∷ jobs_for b ws) (jobs_for b ws)

jobs_up : (b : ℕ) (ws : List Written) (rs : List Reply) → length rs ≡ length ws → jobs_to b (pair_up ws rs) ≡ jobs_for b ws
jobs_up b [] rs c = refl
jobs_up b (w ∷ ws) [] c = cc
jobs_up b (w ∷ ws) (r ∷ rs) c = let c' : length rs ≡ length ws = cc in ap (λ js. cond (w.branch == b) (w.job ∷ js) js) (jobs_up b ws rs c')

jobs_split : (b : ℕ) (u v : List Written) → jobs_for b (u ++ v) ≡ jobs_for b u ++ jobs_for b v
jobs_split b [] v = refl
jobs_split b (w ∷ u) v = by_test (w.branch == b) (jobs_split b u v)
  where
    by_test : (test : Bool) → jobs_for b (u ++ v) ≡ jobs_for b u ++ jobs_for b v → cond test (w.job ∷ jobs_for b (u ++ v)) (jobs_for b (u ++ v)) ≡ cond test (w.job ∷ jobs_for b u) (jobs_for b u) ++ jobs_for b v
    by_test true h = ap (λ l. w.job ∷ l) h
    by_test false h = h

pub jobs_then : (b : ℕ) (xs ys : List Answered) → jobs_to b (xs ++ ys) ≡ jobs_to b xs ++ jobs_to b ys
jobs_then b [] ys = refl
jobs_then b (x ∷ xs) ys = by_test (x.branch == b) (jobs_then b xs ys)
  where
    by_test : (test : Bool) → jobs_to b (xs ++ ys) ≡ jobs_to b xs ++ jobs_to b ys → cond test (x.job ∷ jobs_to b (xs ++ ys)) (jobs_to b (xs ++ ys)) ≡ cond test (x.job ∷ jobs_to b xs) (jobs_to b xs) ++ jobs_to b ys
    by_test true h = ap (λ l. x.job ∷ l) h
    by_test false h = h

same_self : (n : ℕ) → (n == n) ≡ true
same_self n = grind (arith, nat_tests)

empty_snoc : (xs : List (List Written)) (x : List Written) → [] ≡ xs ++ x ∷ [] → ⊥
empty_snoc [] x e = cc
empty_snoc (y ∷ xs) x e = cc

last_same : (xs ys : List (List Written)) (x y : List Written) → xs ++ x ∷ [] ≡ ys ++ y ∷ [] → x ≡ y
last_same [] [] x y e = cc
last_same [] (b ∷ ys) x y e = let f : [] ≡ ys ++ y ∷ [] = cc in absurd (empty_snoc ys y f)
last_same (a ∷ xs) [] x y e = let f : [] ≡ xs ++ x ∷ [] = cc in absurd (empty_snoc xs x f)
last_same (a ∷ xs) (b ∷ ys) x y e = let f : xs ++ x ∷ [] ≡ ys ++ y ∷ [] = cc in last_same xs ys x y f

-- ---- a Wake comes after a reply Paused

abbrev pub IsPausedReply : Reply → Type 0
IsPausedReply (WasPaused copies u) = Unit {0}
IsPausedReply _ = ⊥

abbrev RestSays : {S : Type 0} → Rest S → Reply → Type 0
RestSays (Asleep s) p = IsPausedReply p
RestSays Nothing p = Unit {0}

module _ (S : Type 0) (e : Engine S) where
  says_nothing : (r : Rest S) (p : Reply) → r ≡ Nothing → RestSays r p
  says_nothing r p h = subst (λ z. RestSays z p) (sym h) tt

  reply_of : (o : Output) (q p : Reply) → o ≡ answers_with q → o.reply ≡ Some p → q ≡ p
  reply_of o q p h g = let f : Some q ≡ Some p = sym (ap (λ (x : Output). x.reply) h) ∙ g in cc

  event_says : (s : S) (v : View) (fork : List Seed → Output → Rest S → Type 0) (o : Output) (r : Rest S) (p : Reply) → o.reply ≡ Some p → ((seeds : List Seed) → fork seeds o r → RestSays r p) → AtEvent e s v fork o r → RestSays r p
  event_says s Going fork o r p g f h = absurd h
  event_says s (AtFork seeds) fork o r p g f h = f seeds h
  event_says s (Pausing c) fork o r p g f h = subst (λ z. RestSays z p) (sym h.1) (subst IsPausedReply (reply_of o (WasPaused c (e.units s)) p h.0 g) tt)
  event_says s (Ending c) fork o r p g f h = says_nothing r p h.1
  event_says s (Trapping place trap) fork o r p g f h = says_nothing r p h.1
  event_says s Exceeding fork o r p g f h = says_nothing r p h.1

  runs_says : (a : ℕ) (s : S) (fork : S → List Seed → Output → Rest S → Type 0) (o : Output) (r : Rest S) (p : Reply) → o.reply ≡ Some p → ((s' : S) (seeds : List Seed) → fork s' seeds o r → RestSays r p) → RunsOn e a s fork o r → RestSays r p
  runs_says a s fork o r p g f (over x xo xr) = says_nothing r p xr
  runs_says a s fork o r p g f (event s' x at) = event_says s' (e.view s') (fork s') o r p g (f s') at

  serves_says : (a : ℕ) (rss : List (List Reply)) (s : S) (o : Output) (r : Rest S) (p : Reply) → o.reply ≡ Some p → Serves e a rss s o r → RestSays r p
  serves_says a [] s o r p g h = runs_says a s _ o r p g (λ s' seeds x. says_nothing r p x.1) h
  serves_says a (rs ∷ more) s o r p g h =
      runs_says a s _ o r p g (λ s' seeds x. by_test s' seeds (length rs == length seeds) (λ o1 y z. serves_says a more (e.join rs s') o1 r p z y) x) h
    where
      by_test : (s' : S) (seeds : List Seed) (test : Bool) → ((o1 : Output) → Serves e a more (e.join rs s') o1 r → o1.reply ≡ Some p → RestSays r p) →
          IfElse test ((o1 : Output) × Serves e a more (e.join rs s') o1 r × (o ≡ first_jobs (map (written (a - e.units s')) seeds) o1)) ((o ≡ ends_at (map (written (a - e.units s')) seeds)) × (r ≡ Nothing)) → RestSays r p
      by_test s' seeds true ih x = ih x.0 x.1 (sym (ap (λ (z : Output). z.reply) x.2) ∙ g)
      by_test s' seeds false ih x = says_nothing r p x.1

  -- no Wake comes first
  pub wake_first : (x : Exchange) (xs : List Exchange) (os : List Output) (values : List ℤ) (n : ℕ) → x.job ≡ Wake values n → Alone e (x ∷ xs) Nothing os → ⊥
  wake_first x xs [] values n w h = absurd h
  wake_first x xs (o ∷ os) values n w h = subst (λ j. Begins e j Nothing h.0) w h.2

  -- a Wake comes after a reply Paused
  pub wake_next : (y x : Exchange) (xs : List Exchange) (o : Output) (os : List Output) (R : Rest S) (p : Reply) (values : List ℤ) (n : ℕ) → x.job ≡ Wake values n → o.reply ≡ Some p → Alone e (y ∷ x ∷ xs) R (o ∷ os) → IsPausedReply p
  wake_next y x xs o [] R p values n w g h = absurd h.4
  wake_next y x xs o (o2 ∷ os) R p values n w g h = by_rest h.1 (serves_says (allowance_of y.job) y.replies h.0 o h.1 p g h.3) (subst (λ j. Begins e j h.1 h.4.0) w h.4.2)
    where
      by_rest : (r : Rest S) → RestSays r p → Begins e (Wake values n) r h.4.0 → IsPausedReply p
      by_rest (Asleep s0) k b = k
      by_rest Nothing k b = absurd b

  -- the exchanges from a place on
  pub alone_from : (xs ys : List Exchange) (os ps : List Output) (R : Rest S) → length os ≡ length xs → Alone e (xs ++ ys) R (os ++ ps) → (R' : Rest S) × Alone e ys R' ps
  alone_from [] ys [] ps R c h = (R, h)
  alone_from [] ys (o ∷ os) ps R c h = cc
  alone_from (x ∷ xs) ys [] ps R c h = cc
  alone_from (x ∷ xs) ys (o ∷ os) ps R c h = let c' : length os ≡ length xs = cc in alone_from xs ys os ps h.1 c' h.4

  -- in a list of jobs that hold, a Wake comes after a reply Paused
  wake_at : (A B : List Logged) (l n : Logged) (values : List ℤ) (a : ℕ) (xs : List Exchange) (os : List Output) (R : Rest S) → n.job ≡ Wake values a → Alone e xs R os →
      map (λ x. x.job) xs ≡ jobs_in (take (suc (suc (length A))) (A ++ l ∷ n ∷ B)) → RepliesAre os (take (suc (suc (length A))) (A ++ l ∷ n ∷ B)) → IsPausedReply l.reply
  wake_at [] B l n values a [] os R w h j r = cc
  wake_at [] B l n values a (y ∷ []) os R w h j r = cc
  wake_at [] B l n values a (y ∷ x ∷ xs) [] R w h j r = absurd h
  wake_at [] B l n values a (y ∷ x ∷ xs) (o ∷ os) R w h j r = let is : x.job ≡ n.job = cc in wake_next y x xs o os R l.reply values a (is ∙ w) r.0 h
  wake_at (b ∷ A) B l n values a [] os R w h j r = cc
  wake_at (b ∷ A) B l n values a (y ∷ xs) [] R w h j r = absurd h
  wake_at (b ∷ A) B l n values a (y ∷ xs) (o ∷ os) R w h j r =
      let rest : map (λ x. x.job) xs ≡ jobs_in (take (suc (suc (length A))) (A ++ l ∷ n ∷ B)) = cc in wake_at A B l n values a xs os h.1 w h.4 rest r.1

-- ---- a fork, and a reply

module _ (S : Type 0) (e : ℕ → Engine S) (s : PlainShape) (log : ExchangeLog) (below : (t b : ℕ) → HasBranch s t b → (t < b) × (b < length s.threads)) (t : ℕ) (steady : IsSteady (e t)) where
  abbrev run : ℕ → List Exchange → List Output → Type 0
  run t xs os = Alone (e t) xs Nothing os

  -- After the jobs that are done, the thread is at a fork of a further one, and there it writes `ws`. What it told its branches before is as the log has it.
  pub record AtFork_of (ws : List Written) : Type 0 where
    pub xs : List Exchange
    pub x : Exchange
    pub os : List Output
    pub forks : List (List Written)
    pub runs : Alone (e t) (xs ++ x ∷ []) Nothing (os ++ record { jobs = forks ++ ws ∷ []; reply = None } ∷ [])
    pub count : length os ≡ length xs
    pub complete : AllReply os
    pub short : length (forks ++ ws ∷ []) ≡ suc (length x.replies)
    pub mine : AreTold s t (pair_all (xs ++ x ∷ []) (os ++ record { jobs = forks ++ ws ∷ []; reply = None } ∷ []))
    pub told : (b : ℕ) → HasBranch s t b → StartsWith (log b) (told_to b (pair_all (xs ++ x ∷ []) (os ++ record { jobs = forks ++ ws ∷ []; reply = None } ∷ [])))

  abbrev pub pairs_at : (ws : List Written) → AtFork_of ws → List Answered
  pairs_at ws f = pair_all (f.xs ++ f.x ∷ []) (f.os ++ record { jobs = f.forks ++ ws ∷ []; reply = None } ∷ [])

  -- where a job that it writes is not the branch's next one in the log, no whole run of these jobs is as the log has it
  pub fork_refutes : (u v : List Written) (w : Written) (f : AtFork_of (u ++ w ∷ v)) → HasBranch s t w.branch →
      (StartsWith (jobs_in (log w.branch)) ((jobs_to w.branch (pairs_at (u ++ w ∷ v) f) ++ jobs_for w.branch u) ++ w.job ∷ []) → ⊥) →
      (T : TellsBranches run s log t) → map (λ y. y.job) (f.xs ++ f.x ∷ []) ≡ map (λ y. y.job) T.exchanges → ⊥
  fork_refutes u v w f is differs T given =
      let ws = u ++ w ∷ v in
      let P = pairs_at ws f in
      let gives : (b : ℕ) → HasBranch s t b → (A B : List Logged) (l : Logged) → log b ≡ A ++ l ∷ B → LoggedAs log b (jobs_in A ++ l.job ∷ []) l.reply = λ b m A B l at. record { before = A; after = B; one = l; at = at; jobs = refl; reply = refl } in
      let a = told_allowed S e s log below (LoggedAs log) t gives [] P f.mine f.told in
      let b = told_allowed S e s log below (LoggedAs log) t gives [] (pair_all T.exchanges T.outputs) T.mine T.told in
      let met = alone_met (LoggedAs log) (LoggedAs log) (logged_one log) S (e t) steady [] f.xs T.exchanges f.x f.os T.outputs (record { jobs = f.forks ++ ws ∷ []; reply = None }) Nothing f.runs T.runs given f.count f.complete T.complete f.short a b in
      let same = last_same f.forks met.before ws met.ws met.forks_are in
      let start = T.told w.branch is in
      differs (record {
        rest = (jobs_for w.branch v ++ jobs_to w.branch met.more) ++ jobs_in start.rest;
        is =
            ap jobs_in start.is
            ∙ jobs_append (told_to w.branch (pair_all T.exchanges T.outputs)) start.rest
            ∙ ap (λ js. js ++ jobs_in start.rest) (jobs_told w.branch (pair_all T.exchanges T.outputs) ∙ ap (jobs_to w.branch) met.whole_is ∙ jobs_then w.branch P (pair_up met.ws met.rs ++ met.more) ∙ ap (λ js. jobs_to w.branch P ++ js) (jobs_then w.branch (pair_up met.ws met.rs) met.more))
            ∙ ap (λ js. (jobs_to w.branch P ++ (js ++ jobs_to w.branch met.more)) ++ jobs_in start.rest)
            (jobs_up w.branch met.ws met.rs met.count ∙ ap (jobs_for w.branch) (sym same) ∙ jobs_split w.branch u (w ∷ v) ∙ ap (λ q. jobs_for w.branch u ++ cond q (w.job ∷ jobs_for w.branch v) (jobs_for w.branch v)) (same_self w.branch))
            ∙ regroup (jobs_to w.branch P) (jobs_for w.branch u) w.job (jobs_for w.branch v) (jobs_to w.branch met.more) (jobs_in start.rest);
      })
    where
      regroup : (a b : List Job) (j : Job) (c d r : List Job) → (a ++ ((b ++ j ∷ c) ++ d)) ++ r ≡ ((a ++ b) ++ j ∷ []) ++ ((c ++ d) ++ r)
      regroup a b j c d r =
          append_assoc a ((b ++ j ∷ c) ++ d) r ∙ ap (λ l. a ++ l) (append_assoc (b ++ j ∷ c) d r ∙ append_assoc b (j ∷ c) (d ++ r))
          ∙ sym (append_assoc a b (j ∷ (c ++ (d ++ r)))) ∙ ap (λ l. (a ++ b) ++ j ∷ l) (sym (append_assoc c d r)) ∙ sym (append_assoc (a ++ b) (j ∷ []) ((c ++ d) ++ r))

  -- so the job that it is at fails
  pub fork_fails : (m : ℕ) (u v : List Written) (w : Written) (f : AtFork_of (u ++ w ∷ v)) → HasBranch s t w.branch →
      (StartsWith (jobs_in (log w.branch)) ((jobs_to w.branch (pairs_at (u ++ w ∷ v) f) ++ jobs_for w.branch u) ++ w.job ∷ []) → ⊥) →
      map (λ y. y.job) (f.xs ++ f.x ∷ []) ≡ jobs_in (take (suc m) (log t)) → AgreesUpTo run s log t (suc m) → ⊥
  fork_fails m u v w f is differs given H = fork_refutes u v w f is differs H.tells (given ∙ sym H.jobs)

  -- where it has replied, and the replies are not those of the log, the last job fails
  pub reply_fails : (m : ℕ) (T : TellsBranches run s log t) → map (λ x. x.job) T.exchanges ≡ jobs_in (take (suc m) (log t)) → (RepliesAre T.outputs (take (suc m) (log t)) → ⊥) → AgreesUpTo run s log t (suc m) → ⊥
  reply_fails m T given differs H =
      let same = tells_same S e s log below t steady T H.tells (given ∙ sym H.jobs) in differs (subst (λ os. RepliesAre os (take (suc m) (log t))) (sym same.outputs) H.replies)

  -- a Wake that doesn't come after a reply Paused fails
  pub wake_fails : (A B : List Logged) (l n : Logged) (values : List ℤ) (a : ℕ) → log t ≡ A ++ l ∷ n ∷ B → n.job ≡ Wake values a → (IsPausedReply l.reply → ⊥) → AgreesUpTo run s log t (suc (suc (length A))) → ⊥
  wake_fails A B l n values a at w never H =
      let m = suc (suc (length A)) in
      never (wake_at S (e t) A B l n values a H.tells.exchanges H.tells.outputs Nothing w H.tells.runs (H.jobs ∙ ap (λ ls. jobs_in (take m ls)) at) (subst (λ ls. RepliesAre H.tells.outputs (take m ls)) at H.replies))

  -- ---- the verdict

  -- a job that fails is the first that does
  pub fails_at_job : (m : ℕ) → m < length (log t) → AgreesUpTo run s log t m → (AgreesUpTo run s log t (suc m) → ⊥) → FailsAt run s log t m
  fails_at_job m lt before fails =
      record {
        within = omega (arith, lt);
        before = before;
        job = λ _ h. fails h;
        left = λ same. fails (holds_before S e s log t (suc m) (length (log t)) (omega (arith, lt)) (same_holds S e s log t same));
      }

  -- no job fails, and a job of a branch is left unused
  pub fails_at_end : (h : AgreesUpTo run s log t (length (log t))) (b : ℕ) → HasBranch s t b → (told_to b (pair_all h.tells.exchanges h.tells.outputs) ≡ log b → ⊥) → FailsAt run s log t (length (log t))
  fails_at_end h b is unused =
      record {
        within = omega arith;
        before = h;
        job = λ lt. absurd (omega (arith, lt));
        left = λ same.
            let given = h.jobs ∙ ap jobs_in (take_whole (log t)) in
            let one = tells_same S e s log below t steady h.tells same.tells (given ∙ sym same.jobs) in unused (ap (told_to b) one.pairs ∙ same.all b is);
      }

  -- no job fails, and none is left unused
  pub same_at_end : (h : AgreesUpTo run s log t (length (log t))) → IsAll s log t (pair_all h.tells.exchanges h.tells.outputs) → AgreesWholly run s log t
  same_at_end h all =
      let whole = take_whole (log t) in record { tells = h.tells; jobs = h.jobs ∙ ap jobs_in whole; replies = subst (RepliesAre h.tells.outputs) whole h.replies; all = all }

  -- before the first job nothing has failed
  pub holds_none : AgreesUpTo run s log t 0
  holds_none =
      record {
        tells = record { exchanges = []; outputs = []; runs = tt; complete = tt; mine = tt; told = λ b is. record { rest = log b; is = refl } };
        jobs = refl;
        replies = tt;
      }

  -- and where the thread has done one job more, as the log has it, one more holds
  pub holds_more : (m : ℕ) (T : TellsBranches run s log t) → map (λ x. x.job) T.exchanges ≡ jobs_in (take (suc m) (log t)) → RepliesAre T.outputs (take (suc m) (log t)) → AgreesUpTo run s log t (suc m)
  holds_more m T given replies = record { tells = T; jobs = given; replies = replies }
