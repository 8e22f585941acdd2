-- A job goes on from fork to fork.
use Rattle.std.proofs.Common.{◌≡◌, ℕ, suc, ◌+◌, ◌*◌, ◌<◌, ◌≤◌, ◌==◌, true, cond, None, Some, List, [], ◌∷◌, ◌++◌, map, length, refl, sym, ap, ◌∙◌, subst, arith}
use Rattle.std.specs.Prelude.{slice_get}
use Rattle.forec_kernel.specs.Engine.{Job, Reply, Written, Exchange, Nothing, Answered, pair_up, pair_forks, pair_all, jobs_to, allowance_of}
use Rattle.thread_code.specs.Plain.{PlainCode}
use Rattle.thread_code.specs.Valid.{IsValidCode}
use Rattle.thread_code.specs.Machine.{Machine}
use Rattle.thread_code.specs.Alone.{block_of, machine_units, code_engine, CodeAlone}
use Rattle.thread_code.proofs.Steady.{code_steady}
use Rattle.core_machine.specs.declared.thread.Thread.{Thread}
use Rattle.core_machine.specs.Threads.{Loaded, HasSettled, StandsFor}
use Rattle.core_machine.specs.Forks.{jobs_at, with_replies}
use Rattle.tick_jobs.specs.Writing.{heard, told}
use Rattle.tick_jobs.proofs.Forks.{times_grow}
use Rattle.tick_jobs.proofs.Pairs.{jobs_then}
use Rattle.tick_jobs.proofs.Logs.{allowance_in}
use Rattle.tick_jobs.proofs.FollowingLemmas.{all_then, alone_count, wrote_count}
use Rattle.tick_jobs.proofs.AfterFork.{in_job_by, with_none, inside, its_order, its_mine, runs_here, some_branches, forks_bound, units_within, in_job_now}
use Rattle.exchange_meaning.specs.Logged.{ExchangeLog, jobs_in, told_to, HasBranch, StartsWith}
use Rattle.exchange_meaning.proofs.Shaped.{below_of}
use Rattle.exchange_meaning.proofs.OwnBranches.{all_mine}
use Rattle.exchange_meaning.proofs.TellingLemmas.{jobs_told}
use Rattle.exchange_meaning.proofs.Deciding.{jobs_for, AtFork_of, fork_refutes}
use Rattle.log_text.specs.declared.log.Log.{Log}
use Rattle.exchange_replay.specs.declared.walk.Walk.{Walk}
use Rattle.exchange_replay.specs.Tracks.{HavePassed}
use Rattle.exchange_replay.specs.Walks.{PassedBy, WalksJob, CannotTell, IsAtOwnFork, HaveLoggedReplies, SomePassed, HasOtherJob, PassesFork, GivesReplies, JoinsLogged}

-- a job in progress that came to so many forks
abbrev pub Counted : PlainCode → Log → ExchangeLog → Walk → List Job → Job → ℕ → Type 0
Counted c l log w jobs job n = (i : WalksJob c l log w jobs job) × (length i.log.before ≡ n)

module _ (c : PlainCode) (l : Log) (log : ExchangeLog) (jobs : List Job) (job : Job) where
  -- the thread runs on
  pub runs_on : (w w' : Walk) → w'.branches ≡ w.branches → w'.thread.number ≡ w.thread.number → ((xs : List Exchange) → StandsFor c w.thread xs → StandsFor c w'.thread xs) → (n : ℕ) → Counted c l log w jobs job n → Counted c l log w' jobs job n
  runs_on w w' same number stands n i =
      let posts = subst (λ v. HavePassed c.shape l log w.thread.number v.items (told c w.thread.number jobs job i.0.log)) (sym same) i.0.posts in
      let j = in_job_by c w'.thread (PassedBy c l log w') jobs job w.thread.number number i.0.log posts (stands (heard c w.thread.number jobs job i.0.log) i.0.stands) in
      (j.0, j.1 ∙ i.1)

  pub its_allowance : (w : Walk) → WalksJob c l log w jobs job → w.thread.allowance ≡ allowance_of job
  its_allowance w i = allowance_in c w.thread i.log.exchanges job i.log.before (heard c w.thread.number jobs job i.log) i.stands refl

pub later_replies : (c : PlainCode) (w1 w2 : Walk) → w2.branches ≡ w1.branches → w2.thread.branches.numbers ≡ w1.thread.branches.numbers → (rs : List Reply) → HaveLoggedReplies c w1 w1.thread.branches.numbers rs → HaveLoggedReplies c w2 w2.thread.branches.numbers rs
later_replies c w1 w2 tracks numbers rs h = record {
  count = h.count ∙ ap length (sym numbers);
  each = λ n b r at there.
      let it = h.each n b r (subst (λ ls. slice_get ls n ≡ Some b) numbers at) there in
      record { track = it.track; at = ap (λ v. slice_get v.items b) tracks ∙ it.at; fits = it.fits; is = it.is };
}

-- ---- at a fork

-- a job in progress that has come to a fork
pub record HasForked (c : PlainCode) (l : Log) (log : ExchangeLog) (jobs : List Job) (job : Job) (w : Walk) : Type 0 where
  pub valid : IsValidCode c
  pub loaded : Loaded c w.thread
  pub settled : HasSettled w.thread 0
  pub numbers : w.thread.branches.numbers ≡ map (λ v. v.branch) (jobs_at c w.thread)
  pub at : WalksJob c l log w jobs job

module _ {c : PlainCode} {l : Log} {log : ExchangeLog} {jobs : List Job} {job : Job} {w : Walk} (fork : HasForked c l log jobs job w) where
  open fork use {valid, loaded, settled, numbers, at as i}

  abbrev h : Thread
  h = w.thread

  abbrev t : ℕ
  t = w.thread.number

  abbrev so_far : List Answered
  so_far = told c t jobs job i.log

  pub own_fork : IsAtOwnFork c h
  own_fork = record {
    loaded = loaded;
    settled = settled;
    numbers = numbers;
    mine = its_mine c valid h loaded settled numbers jobs job i.log i.stands;
    order = its_order c valid h loaded settled numbers jobs job i.log i.stands;
  }

  pub some_told : SomePassed c l w
  some_told = record { log = log; told = so_far; passed = i.posts }

  pub some_branch : 0 < length h.branches.numbers
  some_branch = some_branches c valid h loaded settled numbers jobs job i.log i.stands

  pub bound : (a : ℕ) → allowance_of job ≡ a → length i.log.before + 1 ≤ (length (block_of c t).steps + 2) * a + (length (block_of c t).steps + 1)
  bound a allow =
      let within = units_within c valid h loaded settled numbers jobs job i.log i.stands in
      let at = inside c valid h loaded settled numbers jobs job i.log i.stands in
      let first = forks_bound c valid h loaded settled numbers jobs job i.log i.stands in
      let more = times_grow (length (block_of c t).steps + 2) (machine_units at.machine) a (omega (arith, within, at.allowance, allow)) in
      omega (arith, first, more)

  -- so many forks can still come
  pub forks_left : (w0 : Walk) (i0 : WalksJob c l log w0 jobs job) → i0.log.before ≡ [] → (forks : ℕ) → w.thread.number ≡ w0.thread.number → length i.log.before ≡ length i0.log.before + forks →
      forks + 1 ≤ (length (block_of c w0.thread.number).steps + 2) * w0.thread.allowance + (length (block_of c w0.thread.number).steps + 1)
  forks_left w0 i0 first forks number count =
      let most = subst (λ n. length i.log.before + 1 ≤ (length (block_of c n).steps + 2) * w0.thread.allowance + (length (block_of c n).steps + 1)) number (bound w0.thread.allowance (sym (its_allowance c l log jobs job w0 i0))) in
      let none = ap length first in omega (arith, most, count, none)

  -- its pairs were passed, and its replies joined
  pub fork_passed : (w1 w2 w3 : Walk) → w1.thread ≡ w.thread → PassesFork c l log w1 true so_far → w2.branches ≡ w1.branches → w2.thread.number ≡ w1.thread.number → w2.thread.branches.numbers ≡ w1.thread.branches.numbers → GivesReplies c w1 w2 →
      w3.branches ≡ w2.branches → w3.thread.number ≡ w2.thread.number → JoinsLogged c w2 w3 → Counted c l log w3 jobs job (length i.log.before + 1)
  fork_passed w1 w2 w3 same passes tracks2 number2 numbers2 gives tracks3 number3 joins =
      let rs = passes.0 in
      let count : length rs ≡ length h.branches.numbers = passes.2.count ∙ ap (λ (x : Thread). length x.branches.numbers) same in
      let passed = subst (λ (x : Thread). HavePassed c.shape l log x.number w1.branches.items (so_far ++ pair_up (jobs_at c x) rs)) same passes.1 in
      let posts = subst (λ v. HavePassed c.shape l log t v.items (so_far ++ pair_up (jobs_at c h) rs)) (sym (tracks3 ∙ tracks2)) passed in
      let xs = heard c t jobs job i.log in
      let before = subst (StandsFor c h) (sym (with_none i.log.exchanges (record { job = job; replies = i.log.before }))) i.stands in
      let given = gives rs xs passes.2 (subst (λ (x : Thread). StandsFor c x (with_replies xs [])) (sym same) before) in
      let later = later_replies c w1 w2 tracks2 numbers2 rs passes.2 in
      in_job_now c valid h loaded settled numbers jobs job i.log i.stands w3.thread (number3 ∙ number2 ∙ ap (λ (x : Thread). x.number) same) (PassedBy c l log w3) rs count posts (joins rs xs later given)

  -- or a job is not in the log
  forks_short : (js : List (List Written)) (rss : List (List Reply)) (ws : List Written) → length js ≡ length rss → pair_forks (js ++ ws ∷ []) rss ≡ pair_forks js rss
  forks_short [] [] ws e = refl
  forks_short [] (r ∷ rss) ws e = cc
  forks_short (j ∷ js) [] ws e = cc
  forks_short (j ∷ js) (r ∷ rss) ws e = let f : length js ≡ length rss = cc in ap (λ ps. pair_up j r ++ ps) (forks_short js rss ws f)

  jobs_of : (b : ℕ) (ws : List Written) (rs : List Reply) → length rs ≡ length ws → jobs_to b (pair_up ws rs) ≡ jobs_for b ws
  jobs_of b [] rs e = refl
  jobs_of b (x ∷ ws) [] e = cc
  jobs_of b (x ∷ ws) (r ∷ rs) e = let f : length rs ≡ length ws = cc in ap (λ js. cond (x.branch == b) (x.job ∷ js) js) (jobs_of b ws rs f)

  length_snoc : {A : Type 0} (xs : List A) (x : A) → length (xs ++ x ∷ []) ≡ suc (length xs)
  length_snoc [] x = refl
  length_snoc (y ∷ xs) x = ap suc (length_snoc xs x)

  abbrev x : Exchange
  x = record { job = job; replies = i.log.before }

  forks_count : length i.log.forks ≡ length i.log.before
  forks_count = wrote_count Machine (code_engine c t) (allowance_of job) i.log.before i.log.begin i.log.forks i.log.wrote

  pairs_are : (ws : List Written) → pair_all (i.log.exchanges ++ x ∷ []) (i.log.outputs ++ record { jobs = i.log.forks ++ ws ∷ []; reply = None } ∷ []) ≡ so_far
  pairs_are ws =
      all_then i.log.exchanges i.log.outputs x (record { jobs = i.log.forks ++ ws ∷ []; reply = None }) (alone_count (code_engine c t) i.log.exchanges Nothing i.log.rest i.log.outputs i.log.alone)
      ∙ ap (λ ps. pair_all i.log.exchanges i.log.outputs ++ ps) (forks_short i.log.forks i.log.before ws forks_count)

  module _ (o : HasOtherJob c log h so_far) where
    abbrev ws : List Written
    ws = o.before ++ o.one ∷ o.after

    abbrev at_fork : AtFork_of Machine (code_engine c) c.shape log (below_of c.shape valid.shape) t (code_steady c t) ws
    at_fork =
        let runs = subst (λ z. CodeAlone c t (i.log.exchanges ++ x ∷ []) (i.log.outputs ++ record { jobs = i.log.forks ++ z ∷ []; reply = None } ∷ [])) o.jobs (runs_here c valid h loaded settled numbers jobs job i.log i.stands) in
        record {
          xs = i.log.exchanges;
          x = x;
          os = i.log.outputs;
          forks = i.log.forks;
          runs = runs;
          count = sym (alone_count (code_engine c t) i.log.exchanges Nothing i.log.rest i.log.outputs i.log.alone);
          complete = i.log.complete;
          short = length_snoc i.log.forks ws ∙ ap suc forks_count;
          mine = all_mine c t valid loaded.thread (i.log.exchanges ++ x ∷ []) (i.log.outputs ++ record { jobs = i.log.forks ++ ws ∷ []; reply = None } ∷ []) runs;
          told = λ b is. subst (λ ps. StartsWith (log b) (told_to b ps)) (sym (pairs_are ws)) (record { rest = (i.posts.each b is).has.left; is = (i.posts.each b is).has.is });
        }

    own_branch : HasBranch c.shape t o.one.branch
    own_branch = (its_mine c valid h loaded settled numbers jobs job i.log i.stands (length o.before) o.one (ap (λ ls. slice_get ls (length o.before)) o.jobs ∙ there o.before)).0
      where
        there : (u : List Written) → slice_get (u ++ o.one ∷ o.after) (length u) ≡ Some o.one
        there [] = refl
        there (y ∷ u) = there u

    jobs_same : jobs_in (told_to o.one.branch (so_far ++ pair_up o.before o.replies)) ≡ jobs_to o.one.branch so_far ++ jobs_for o.one.branch o.before
    jobs_same = jobs_told o.one.branch (so_far ++ pair_up o.before o.replies) ∙ jobs_then o.one.branch so_far (pair_up o.before o.replies) ∙ ap (λ js. jobs_to o.one.branch so_far ++ js) (jobs_of o.one.branch o.before o.replies o.count)

    pub fork_differs : CannotTell c log t (jobs ++ job ∷ [])
    fork_differs T given =
        fork_refutes Machine (code_engine c) c.shape log (below_of c.shape valid.shape) t (code_steady c t) o.before o.after o.one at_fork own_branch
        (λ start. o.differs (subst (λ js. StartsWith (jobs_in (log o.one.branch)) (js ++ o.one.job ∷ [])) (ap (λ ps. jobs_to o.one.branch ps ++ jobs_for o.one.branch o.before) (pairs_are ws) ∙ sym jobs_same) start))
        T (map_then i.log.exchanges x ∙ ap (λ js. js ++ job ∷ []) i.log.jobs_are ∙ sym given)
      where
        map_then : (xs : List Exchange) (y : Exchange) → map (λ (z : Exchange). z.job) (xs ++ y ∷ []) ≡ map (λ (z : Exchange). z.job) xs ++ y.job ∷ []
        map_then [] y = refl
        map_then (z ∷ xs) y = ap (λ ls. z.job ∷ ls) (map_then xs y)
