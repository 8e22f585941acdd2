-- A thread comes to a fork, and goes on with the replies of its branches.
use Rattle.std.proofs.Common.{◌≡◌, ◌≢◌, ℕ, zero, suc, ◌+◌, ◌-◌, ◌*◌, ◌<◌, ◌≤◌, ◌==◌, Bool, true, false, cond, Option, Some, None, List, [], ◌∷◌, ◌++◌, map, length, refl, sym, ap, ◌∙◌, subst, append_assoc, append-nil, arith}
use Rattle.std.specs.Prelude.{slice_get, IsNone}
use Rattle.std.proofs.lemmas.Bool.Decides.{nat_tests}
use Rattle.std.proofs.lemmas.Option.{slice_get_within}
use Rattle.forec_kernel.specs.WellFormed.{thread_of}
use Rattle.forec_kernel.specs.Engine.{Job, Start, Wake, allowance_of, Reply, WasPaused, Seed, Starts, Wakes, Written, written, AtFork as IsAtFork, Engine, Exchange, Output, Nothing, Begins, Answered, pair_up, pair_forks, pair_all, jobs_to, Allowed, Answers}
use Rattle.forec_kernel.specs.Reached.{Inside}
use Rattle.forec_kernel.proofs.ReachedLemmas.{Went, alone_of, alone_snoc}
use Rattle.thread_code.specs.Plain.{PlainCode}
use Rattle.thread_code.specs.Valid.{IsValidCode, costs, of_shape}
use Rattle.thread_code.specs.Machine.{Machine, On, Waits, Merges, Failing, Paused, Ended, Trapped, Exceeded, Stuck}
use Rattle.thread_code.specs.Alone.{block_of, view_of, machine_units, code_engine, CodeAlone}
use Rattle.thread_code.proofs.Steady.{code_steady}
use Rattle.thread_code.proofs.Unstuck.{Good, reached_good}
use Rattle.core_machine.specs.declared.thread.Thread.{Thread}
use Rattle.core_machine.specs.declared.thread.Phase.TheVariants as phase
use Rattle.core_machine.specs.Held.{branch_of, machine_in, machine_of, WaitsAtFork, HoldsInPhase}
use Rattle.core_machine.specs.Threads.{Loaded, StandsFor, HasSettled}
use Rattle.core_machine.specs.Forks.{seeds_in, jobs_at, next_replies, with_replies}
use Rattle.core_machine.proofs.Asking.{went_fork}
use Rattle.tick_jobs.specs.Branches.{replies_to}
use Rattle.tick_jobs.specs.Writing.{Log, heard, told, Wrote}
use Rattle.tick_jobs.specs.Told.{Book, AreAnswered, AtJob, IsAsleep, MayTell, MayTellJob}
use Rattle.tick_jobs.proofs.Branching.{branch_above}
use Rattle.tick_jobs.proofs.AtEachFork.{EndsPaused, WakesPaused, AllAbove, Rising, AllAre, IsMine, Fine}
use Rattle.tick_jobs.proofs.FollowingLemmas.{Working, follows, wrote_of, wrote_once, wrote_count, went_join, forks_then}
use Rattle.tick_jobs.proofs.Pairs.{jobs_then}
use Rattle.tick_jobs.proofs.Logs.{IsInside, fork_in, fork_machine, begins_once, alone_to_once}

-- ---- the last reply of a branch

is_same : (a b : ℕ) → (a == b) ≡ true → a ≡ b
is_same a b e = grind (arith, nat_tests)

nothing_to : (b : ℕ) (xs : List Answered) → replies_to b xs ≡ [] → jobs_to b xs ≡ []
nothing_to b [] e = refl
nothing_to b (x ∷ xs) e = pick (x.branch == b) refl (nothing_to b xs) e
  where
    pick : (t : Bool) → (x.branch == b) ≡ t → (replies_to b xs ≡ [] → jobs_to b xs ≡ []) → cond t (x.reply ∷ replies_to b xs) (replies_to b xs) ≡ [] → cond t (x.job ∷ jobs_to b xs) (jobs_to b xs) ≡ []
    pick true q ih h = cc
    pick false q ih h = ih h

-- the last of a branch's replies answers all its jobs
allowed_last : (Sub : ℕ → List Job → Reply → Type 0) (past xs : List Answered) (b : ℕ) (front : List Reply) (r : Reply) → Allowed Sub past xs → replies_to b xs ≡ front ++ r ∷ [] → Sub b (jobs_to b (past ++ xs)) r
allowed_last Sub past [] b [] r a e = cc
allowed_last Sub past [] b (f ∷ front) r a e = cc
allowed_last Sub past (x ∷ xs) b front r a e =
    let more = append_assoc past (x ∷ []) xs in
    pick (x.branch == b) refl front e (λ front' e'. subst (λ l. Sub b (jobs_to b l) r) more (allowed_last Sub (past ++ x ∷ []) xs b front' r a.1 e'))
  where
    head_of : (p q : Reply) (l m : List Reply) → p ∷ l ≡ q ∷ m → p ≡ q
    head_of p q l m e = cc

    tail_of : (p q : Reply) (l m : List Reply) → p ∷ l ≡ q ∷ m → l ≡ m
    tail_of p q l m e = cc

    pick : (t : Bool) → (x.branch == b) ≡ t → (front : List Reply) → cond t (x.reply ∷ replies_to b xs) (replies_to b xs) ≡ front ++ r ∷ [] → ((front' : List Reply) → replies_to b xs ≡ front' ++ r ∷ [] → Sub b (jobs_to b (past ++ x ∷ xs)) r) →
        Sub b (jobs_to b (past ++ x ∷ xs)) r
    pick false q front e ih = ih front e
    pick true q (f ∷ front) e ih = ih front (tail_of x.reply f _ _ e)
    pick true q [] e ih =
        let same = is_same x.branch b q in
        let empty = tail_of x.reply r _ _ e in
        let jobs : jobs_to b (past ++ x ∷ []) ≡ jobs_to b (past ++ x ∷ xs) =
        sym (ap (λ l. jobs_to b (past ++ x ∷ []) ++ l) (nothing_to b xs empty) ∙ append-nil (jobs_to b (past ++ x ∷ []))) ∙ sym (jobs_then b (past ++ x ∷ []) xs) ∙ ap (jobs_to b) (append_assoc past (x ∷ []) xs) in
        subst (Sub b (jobs_to b (past ++ x ∷ xs))) (head_of x.reply r _ _ e)
        (subst (λ js. Sub b js x.reply) jobs (subst (λ n. Sub n (jobs_to n (past ++ x ∷ [])) x.reply) same a.0))

asleep : (c : PlainCode) (t b : ℕ) (pairs : List Answered) → AreAnswered c t pairs → EndsPaused (replies_to b pairs) → IsAsleep c b (jobs_to b pairs)
asleep c t b pairs answered e = record {
  copies = e.copies;
  units = e.units;
  answers = allowed_last (Answers (CodeAlone c) (length c.threads)) [] pairs b e.front (WasPaused e.copies e.units) answered.allowed e.is;
}

-- ---- the jobs at a fork

module _ (c : PlainCode) (valid : IsValidCode c) (t : ℕ) (pairs : List Answered) (answered : AreAnswered c t pairs) (a : ℕ) where
  -- what the branches were told
  abbrev book : Book
  book b = jobs_to b pairs

  root_alone : (thread_of (of_shape c.shape) 0).parent ≡ Some t → ⊥
  root_alone e = by_root (thread_of (of_shape c.shape) 0).parent valid.shape.root.parent e
    where
      by_root : (p : Option ℕ) → IsNone p → p ≡ Some t → ⊥
      by_root None n e = cc
      by_root (Some x) n e = absurd cc

  a_job : (b : ℕ) (job : Job) → IsMine c t b → MayTell c book b job → MayTellJob c book t (record { branch = b; job = job })
  a_job zero job mine may = absurd (root_alone mine.0)
  a_job (suc k) job mine may =
      let inside : suc k < length c.threads = omega (arith, mine.1, valid.threads) in
      record { place = k; branch = refl; mine = mine.0; inside = inside; above = branch_above c valid t k inside mine.0; may = may }

  each_job : (seeds : List Seed) (i : ℕ) (w : Written) → AllAre (IsMine c t) (map branch_of seeds) → WakesPaused pairs seeds → slice_get (map (written a) seeds) i ≡ Some w → MayTellJob c book t w
  each_job [] i w mine paused e = none_there i e
    where
      none_there : {A : Type 0} (i : ℕ) → slice_get [] i ≡ Some w → A
      none_there zero e = cc
      none_there (suc i) e = cc
  each_job (Starts b args values ∷ seeds) zero w mine paused e = subst (MayTellJob c book t) (some_one _ w e) (a_job b (Start args values a) mine.0 tt)
    where
      some_one : (x y : Written) → Some x ≡ Some y → x ≡ y
      some_one x y e = cc
  each_job (Wakes b values ∷ seeds) zero w mine paused e = subst (MayTellJob c book t) (some_one _ w e) (a_job b (Wake values a) mine.0 (asleep c t b pairs answered paused.0))
    where
      some_one : (x y : Written) → Some x ≡ Some y → x ≡ y
      some_one x y e = cc
  each_job (Starts b args values ∷ seeds) (suc i) w mine paused e = each_job seeds i w mine.1 paused e
  each_job (Wakes b values ∷ seeds) (suc i) w mine paused e = each_job seeds i w mine.1 paused.1 e

branches_written : (a : ℕ) (seeds : List Seed) → map (λ w. w.branch) (map (written a) seeds) ≡ map branch_of seeds
branches_written a [] = refl
branches_written a (Starts b args values ∷ seeds) = ap (λ l. b ∷ l) (branches_written a seeds)
branches_written a (Wakes b values ∷ seeds) = ap (λ l. b ∷ l) (branches_written a seeds)

count_written : (a : ℕ) (seeds : List Seed) → length (map (written a) seeds) ≡ length seeds
count_written a [] = refl
count_written a (s ∷ seeds) = ap suc (count_written a seeds)

above_at : (b : ℕ) (ws : List Written) (j : ℕ) (w : Written) → AllAbove b (map (λ w. w.branch) ws) → slice_get ws j ≡ Some w → b < w.branch
above_at b [] zero w h e = cc
above_at b [] (suc j) w h e = cc
above_at b (x ∷ ws) zero w h e = let same : x ≡ w = some_one x w e in subst (λ (y : Written). b < y.branch) same h.0
  where
    some_one : (x y : Written) → Some x ≡ Some y → x ≡ y
    some_one x y e = cc
above_at b (x ∷ ws) (suc j) w h e = above_at b ws j w h.1 e

in_order : (ws : List Written) (i j : ℕ) (v w : Written) → Rising (map (λ w. w.branch) ws) → i < j → slice_get ws i ≡ Some v → slice_get ws j ≡ Some w → v.branch < w.branch
in_order [] zero j v w h lt e f = cc
in_order [] (suc i) j v w h lt e f = cc
in_order (x ∷ ws) i zero v w h lt e f = absurd (omega (arith, lt))
in_order (x ∷ ws) zero (suc j) v w h lt e f = let same : x ≡ v = some_one x v e in subst (λ (y : Written). y.branch < w.branch) same (above_at x.branch ws j w h.0 f)
  where
    some_one : (x y : Written) → Some x ≡ Some y → x ≡ y
    some_one x y e = cc
in_order (x ∷ ws) (suc i) (suc j) v w h lt e f = in_order ws i j v w h.1 (omega (arith, lt)) e f

rising_count : (c : PlainCode) (t : ℕ) (bs : List ℕ) (a : ℕ) → AllAbove a bs → Rising bs → AllAre (IsMine c t) bs → a < length c.shape.threads → a + length bs < length c.shape.threads
rising_count c t [] a h r m lt = omega (arith, lt)
rising_count c t (b ∷ bs) a h r m lt = let ih = rising_count c t bs b r.0 r.1 m.1 m.0.1 in omega (arith, ih, h.0)

few_of : (c : PlainCode) (t : ℕ) (bs : List ℕ) → Rising bs → AllAre (IsMine c t) bs → length bs ≤ length c.shape.threads
few_of c t [] r m = omega arith
few_of c t (b ∷ bs) r m = let ih = rising_count c t bs b r.0 r.1 m.1 m.0.1 in omega (arith, ih)

some_of : {A : Type 0} (l : List A) → l ≢ [] → 0 < length l
some_of [] n = absurd (n refl)
some_of (x ∷ l) n = omega arith

-- ---- what is known at a fork

module _ (c : PlainCode) (valid : IsValidCode c) (t : ℕ) (lt : t < length c.threads) where
  pub record ForkFacts (n : ℕ) (pairs : List Answered) (m : Machine) (seeds : List Seed) : Type 0 where
    pub rising : Rising (map branch_of seeds)
    pub mine : AllAre (IsMine c t) (map branch_of seeds)
    pub some : map branch_of seeds ≢ []
    pub wakes : WakesPaused pairs seeds
    pub bound : n + 1 ≤ (length (block_of c t).steps + 2) * machine_units m + (length (block_of c t).steps + 1)

  pub place_most : (at : ℕ) → at < length (block_of c t).steps → cond (costs (slice_get (block_of c t).steps at)) (length (block_of c t).steps + 1) at ≤ length (block_of c t).steps + 1
  place_most at less = by_test (costs (slice_get (block_of c t).steps at))
    where
      by_test : (b : Bool) → cond b (length (block_of c t).steps + 1) at ≤ length (block_of c t).steps + 1
      by_test true = omega arith
      by_test false = omega (arith, less)

  seeds_once : (x y : List Seed) → IsAtFork x ≡ IsAtFork y → x ≡ y
  seeds_once x y e = cc

  fork_facts : (n : ℕ) (pairs : List Answered) (m : Machine) (seeds : List Seed) → view_of m ≡ IsAtFork seeds → Good c t m → Fine c valid t n pairs m → ForkFacts n pairs m seeds
  fork_facts n pairs (On p fs o u) seeds v g f = cc
  fork_facts n pairs (Merges m o u) seeds v g f = cc
  fork_facts n pairs (Failing place trap u) seeds v g f = cc
  fork_facts n pairs (Paused wake o u) seeds v g f = cc
  fork_facts n pairs (Ended o u) seeds v g f = cc
  fork_facts n pairs (Trapped place trap u) seeds v g f = cc
  fork_facts n pairs (Exceeded u) seeds v g f = cc
  fork_facts n pairs (Stuck u) seeds v g f = cc
  fork_facts n pairs (Waits w o u) seeds v g f =
      let same = seeds_once w.seeds seeds v in
      let fork = f.5 in
      let branches = ap (map branch_of) (sym same) ∙ fork.branches in
      let less = slice_get_within g.0.depths w.done.at (length w.done.stack) g.0.here in
      let long = ap length g.0.same in
      let own = ap length f.0 in
      let most = place_most w.done.at (omega (arith, less, long, own, g.0.valid.long)) in
      record {
        rising = subst Rising (sym branches) fork.rising;
        mine = subst (AllAre (IsMine c t)) (sym branches) fork.mine;
        some = λ e. fork.some (sym branches ∙ e);
        wakes = subst (WakesPaused pairs) same fork.wakes;
        bound = omega (arith, f.1, most);
      }

with_last : (xs : List Exchange) (x : Exchange) (rs : List Reply) → with_replies (xs ++ x ∷ []) rs ≡ xs ++ record { job = x.job; replies = next_replies x.replies rs } ∷ []
with_last [] x rs = refl
with_last (y ∷ []) x rs = refl
with_last (y ∷ z ∷ xs) x rs = ap (λ l. y ∷ l) (with_last (z ∷ xs) x rs)

next_some : (rss : List (List Reply)) (rs : List Reply) → 0 < length rs → next_replies rss rs ≡ rss ++ rs ∷ []
next_some rss [] h = absurd (omega arith)
next_some rss (r ∷ rs) h = refl

pub with_none : (xs : List Exchange) (x : Exchange) → with_replies (xs ++ x ∷ []) [] ≡ xs ++ x ∷ []
with_none xs x = with_last xs x []

-- a job in progress of another thread with the same number
pub in_job_by : (c : PlainCode) (h' : Thread) (Posted : ℕ → List Answered → Type 0) (jobs : List Job) (job : Job) (t : ℕ) → h'.number ≡ t → (log : Log c t jobs job) → Posted t (told c t jobs job log) → StandsFor c h' (heard c t jobs job log) →
    (j : AtJob c h' Posted jobs job) × (length j.log.before ≡ length log.before)
in_job_by c h' Posted jobs job t number =
    subst (λ n. (log : Log c n jobs job) → Posted n (told c n jobs job log) → StandsFor c h' (heard c n jobs job log) → (j : AtJob c h' Posted jobs job) × (length j.log.before ≡ length log.before)) number
    (λ log posts stands. (record { log = log; stands = stands; posts = posts }, refl))

module _ (c : PlainCode) (valid : IsValidCode c) (h : Thread) (loaded : Loaded c h) (settled : HasSettled h 0) (numbers : h.branches.numbers ≡ map (λ w. w.branch) (jobs_at c h)) (jobs : List Job) (job : Job)
    (l : Log c h.number jobs job) (stands_before : StandsFor c h (heard c h.number jobs job l)) where
  abbrev t : ℕ
  t = h.number

  abbrev e : Engine Machine
  e = code_engine c t

  pub inside : IsInside c h l.exchanges job l.before
  inside = fork_in c h l.exchanges job l.before (heard c t jobs job l) stands_before refl settled

  at : inside.machine ≡ machine_of c h
  at = fork_machine c h inside.machine inside.stands settled

  waits : WaitsAtFork c loaded.needs h settled.before
  waits = subst (HoldsInPhase c loaded.needs h) settled.phase loaded.placed

  here : machine_of c h ≡ machine_in c h (phase.Forked settled.before)
  here = ap (machine_in c h) settled.phase

  view : view_of inside.machine ≡ IsAtFork waits.seeds
  view = ap view_of (at ∙ here) ∙ waits.view

  units : machine_units inside.machine ≡ h.units
  units = ap machine_units (at ∙ here) ∙ waits.units

  ws_are : jobs_at c h ≡ map (written (h.allowance - h.units)) waits.seeds
  ws_are = ap (λ v. map (written (h.allowance - h.units)) (seeds_in v)) (ap view_of here ∙ waits.view)

  working : Working c valid t loaded.thread l.exchanges job l.before inside.machine
  working = follows c valid t loaded.thread l.exchanges (Inside job l.before inside.machine) inside.reached

  same_outputs : (working.outputs ≡ l.outputs) × (working.rest ≡ l.rest)
  same_outputs = alone_to_once Machine e (code_steady c t) l.exchanges Nothing working.rest l.rest working.outputs l.outputs working.alone l.alone

  same_begin : working.begin ≡ l.begin
  same_begin = begins_once Machine e (code_steady c t) job l.rest working.begin l.begin (subst (λ r. Begins e job r working.begin) same_outputs.1 working.begins) l.begins

  went : Went Machine e (allowance_of job) l.begin l.before working.forks inside.machine
  went = subst (λ b. Went Machine e (allowance_of job) b l.before working.forks inside.machine) same_begin working.went

  same_forks : working.forks ≡ l.forks
  same_forks = wrote_once Machine e (code_steady c t) (allowance_of job) l.before l.begin working.forks l.forks (wrote_of Machine e (allowance_of job) l.before l.begin working.forks inside.machine went) l.wrote

  same_pairs : pair_all l.exchanges working.outputs ++ pair_forks working.forks l.before ≡ told c t jobs job l
  same_pairs = ap (λ os. pair_all l.exchanges os ++ pair_forks working.forks l.before) same_outputs.0 ∙ ap (λ fs. pair_all l.exchanges l.outputs ++ pair_forks fs l.before) same_forks

  facts : ForkFacts c valid t loaded.thread (length l.before) (told c t jobs job l) inside.machine waits.seeds
  facts =
      subst (λ p. ForkFacts c valid t loaded.thread (length l.before) p inside.machine waits.seeds) same_pairs
      (fork_facts c valid t loaded.thread (length l.before) (pair_all l.exchanges working.outputs ++ pair_forks working.forks l.before) inside.machine waits.seeds view
      (reached_good c valid t loaded.thread l.exchanges (Inside job l.before inside.machine) inside.reached) working.fine)

  branches : map (λ w. w.branch) (jobs_at c h) ≡ map branch_of waits.seeds
  branches = ap (map (λ w. w.branch)) ws_are ∙ branches_written (h.allowance - h.units) waits.seeds

  pub few_branches : length h.branches.numbers ≤ 256
  few_branches = let n = few_of c t (map branch_of waits.seeds) facts.rising facts.mine in let m = ap length (numbers ∙ branches) in omega (arith, n, m, valid.shape.few_threads)

  pub its_order : (i j : ℕ) (v w : Written) → i < j → slice_get (jobs_at c h) i ≡ Some v → slice_get (jobs_at c h) j ≡ Some w → v.branch < w.branch
  its_order i j v w less vi wj = in_order (jobs_at c h) i j v w (subst Rising (sym branches) facts.rising) less vi wj

  pub its_jobs : AreAnswered c t (told c t jobs job l) → (i : ℕ) (w : Written) → slice_get (jobs_at c h) i ≡ Some w → MayTellJob c (λ b. jobs_to b (told c t jobs job l)) t w
  its_jobs answered i w wi = each_job c valid t (told c t jobs job l) answered (h.allowance - h.units) waits.seeds i w facts.mine facts.wakes (ap (λ z. slice_get z i) (sym ws_are) ∙ wi)

  -- each job is for a branch of the thread
  pub its_mine : (i : ℕ) (w : Written) → slice_get (jobs_at c h) i ≡ Some w → ((thread_of (of_shape c.shape) w.branch).parent ≡ Some t) × (w.branch < length c.shape.threads)
  its_mine i w wi = mine_at (jobs_at c h) i w (subst (AllAre (IsMine c t)) (sym branches) facts.mine) wi
    where
      mine_at : (ws : List Written) (i : ℕ) (w : Written) → AllAre (IsMine c t) (map (λ w. w.branch) ws) → slice_get ws i ≡ Some w → IsMine c t w.branch
      mine_at [] zero w m e = cc
      mine_at [] (suc i) w m e = cc
      mine_at (x ∷ ws) zero w m e = let same : x ≡ w = cc in subst (λ (v : Written). IsMine c t v.branch) same m.0
      mine_at (x ∷ ws) (suc i) w m e = mine_at ws i w m.1 e

  -- by itself it comes to this fork, and writes these jobs there
  pub runs_here : CodeAlone c t (l.exchanges ++ record { job = job; replies = l.before } ∷ []) (l.outputs ++ record { jobs = l.forks ++ jobs_at c h ∷ []; reply = None } ∷ [])
  runs_here =
      let within = settled.within in
      let ws = map (written (allowance_of job - machine_units inside.machine)) waits.seeds in
      let same : ws ≡ jobs_at c h = ap (λ n. map (written (n - machine_units inside.machine)) waits.seeds) (sym inside.allowance) ∙ ap (λ n. map (written (h.allowance - n)) waits.seeds) units ∙ sym ws_are in
      let forks : working.forks ++ ws ∷ [] ≡ l.forks ++ jobs_at c h ∷ [] = ap (λ fs. fs ++ ws ∷ []) same_forks ∙ ap (λ x. l.forks ++ x ∷ []) same in
      let serves = went_fork Machine e (allowance_of job) l.before l.begin working.forks inside.machine waits.seeds went (omega (arith, units, within, inside.allowance)) view in
      let out : Output = record { jobs = working.forks ++ ws ∷ []; reply = None } in
      let runs = alone_of Machine e (l.exchanges ++ record { job = job; replies = l.before } ∷ []) Nothing Nothing (l.outputs ++ out ∷ [])
      (alone_snoc Machine e l.exchanges (record { job = job; replies = l.before }) Nothing l.rest Nothing l.outputs l.begin out l.alone l.begins serves) in
      subst (λ fs. CodeAlone c t (l.exchanges ++ record { job = job; replies = l.before } ∷ []) (l.outputs ++ record { jobs = fs; reply = None } ∷ [])) forks runs

  pub some_branches : 0 < length h.branches.numbers
  some_branches = let n = some_of (map branch_of waits.seeds) facts.some in let m = ap length (numbers ∙ branches) in omega (arith, n, m)

  pub forks_bound : length l.before + 1 ≤ (length (block_of c t).steps + 2) * machine_units inside.machine + (length (block_of c t).steps + 1)
  forks_bound = facts.bound

  pub units_within : machine_units inside.machine ≤ h.allowance
  units_within = let w = settled.within in omega (arith, units, w)

  -- the replies of its branches
  module _ (h' : Thread) (number : h'.number ≡ h.number) (Posted : ℕ → List Answered → Type 0) (rs : List Reply) (count : length rs ≡ length h.branches.numbers)
      (posts : Posted t (told c t jobs job l ++ pair_up (jobs_at c h) rs)) (stands : StandsFor c h' (with_replies (heard c t jobs job l) rs)) where
    seeds_count : length rs ≡ length waits.seeds
    seeds_count = count ∙ ap length (numbers ∙ ap (map (λ w. w.branch)) ws_are ∙ branches_written (h.allowance - h.units) waits.seeds) ∙ length_map branch_of waits.seeds
      where
        length_map : {A B : Type 0} (f : A → B) (xs : List A) → length (map f xs) ≡ length xs
        length_map f [] = refl
        length_map f (x ∷ xs) = ap suc (length_map f xs)

    same_ws : map (written (allowance_of job - machine_units inside.machine)) waits.seeds ≡ jobs_at c h
    same_ws = ap (λ n. map (written (n - machine_units inside.machine)) waits.seeds) (sym inside.allowance) ∙ ap (λ n. map (written (h.allowance - n)) waits.seeds) units ∙ sym ws_are

    wrote_now : Wrote e (allowance_of job) l.begin (l.before ++ rs ∷ []) (l.forks ++ jobs_at c h ∷ [])
    wrote_now =
        let joined = went_join Machine e (allowance_of job) l.before rs waits.seeds l.begin working.forks inside.machine went view (let w = units_within in omega (arith, w, inside.allowance)) seeds_count in
        let w = wrote_of Machine e (allowance_of job) (l.before ++ rs ∷ []) l.begin (working.forks ++ map (written (allowance_of job - machine_units inside.machine)) waits.seeds ∷ []) (e.join rs inside.machine) joined in
        subst (Wrote e (allowance_of job) l.begin (l.before ++ rs ∷ [])) (ap (λ fs. fs ++ map (written (allowance_of job - machine_units inside.machine)) waits.seeds ∷ []) same_forks ∙ ap (λ ws. l.forks ++ ws ∷ []) same_ws) w

    abbrev log_now : Log c t jobs job
    log_now = record {
      exchanges = l.exchanges;
      outputs = l.outputs;
      before = l.before ++ rs ∷ [];
      forks = l.forks ++ jobs_at c h ∷ [];
      jobs_are = l.jobs_are;
      complete = l.complete;
      rest = l.rest;
      alone = l.alone;
      begin = l.begin;
      begins = l.begins;
      wrote = wrote_now;
    }

    told_now : told c t jobs job l ++ pair_up (jobs_at c h) rs ≡ told c t jobs job log_now
    told_now =
        append_assoc (pair_all l.exchanges l.outputs) (pair_forks l.forks l.before) (pair_up (jobs_at c h) rs)
        ∙ ap (λ z. pair_all l.exchanges l.outputs ++ z) (sym (forks_then l.forks l.before (jobs_at c h) rs (wrote_count Machine e (allowance_of job) l.before l.begin l.forks l.wrote)))

    heard_now : with_replies (heard c t jobs job l) rs ≡ heard c t jobs job log_now
    heard_now =
        with_last l.exchanges (record { job = job; replies = l.before }) rs
        ∙ ap (λ b. l.exchanges ++ record { job = job; replies = b } ∷ []) (next_some l.before rs (let n = some_branches in omega (arith, n, count)))

    pub in_job_now : (j : AtJob c h' Posted jobs job) × (length j.log.before ≡ length l.before + 1)
    in_job_now =
        let j = in_job_by c h' Posted jobs job t number log_now (subst (Posted t) told_now posts) (subst (StandsFor c h') heard_now stands) in
        (j.0, j.1 ∙ one_longer l.before rs)
      where
        one_longer : {A : Type 0} (xs : List A) (x : A) → length (xs ++ x ∷ []) ≡ length xs + 1
        one_longer [] x = refl
        one_longer (y ∷ xs) x = let ih = one_longer xs x in omega (arith, ih)
