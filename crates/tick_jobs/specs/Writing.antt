-- The jobs that a thread has written at the forks of a job in progress.
use Rattle.std.specs.Prelude.{◌≡◌, ℕ, ◌-◌, List, [], ◌∷◌, ◌++◌, map, length}
use Rattle.forec_kernel.specs.Engine.{Job, Reply, Seed, Written, written, AtFork, Engine, Reaches, Rest, Nothing, Exchange, Output, allowance_of, Begins, AllReply, Answered, pair_all, pair_forks}
use Rattle.forec_kernel.specs.Reached.{AloneTo}
use Rattle.thread_code.specs.Plain.{PlainCode}
use Rattle.thread_code.specs.Machine.{Machine}
use Rattle.thread_code.specs.Alone.{code_engine}

-- from this state, with these replies at its forks, the thread writes these jobs there
abbrev pub Wrote : {S : Type 0} → Engine S → ℕ → S → List (List Reply) → List (List Written) → Type 0
Wrote e n s [] forks = forks ≡ []
Wrote e n s (rs ∷ more) forks =
    (s' : _) × (seeds : List Seed) × (later : List (List Written)) × Reaches e n s s' × (e.view s' ≡ AtFork seeds) × (length rs ≡ length seeds)
    × (forks ≡ map (written (n - e.units s')) seeds ∷ later) × Wrote e n (e.join rs s') more later

-- Thread t has replied to these jobs, and is at another one: what it wrote at its forks, and the replies to that.
pub record Log (c : PlainCode) (t : ℕ) (jobs : List Job) (job : Job) : Type 0 where
  pub exchanges : List Exchange
  pub outputs : List Output
  pub before : List (List Reply)
  pub forks : List (List Written)
  pub jobs_are : map (λ x. x.job) exchanges ≡ jobs
  pub complete : AllReply outputs
  pub rest : Rest Machine
  pub alone : AloneTo (code_engine c t) exchanges Nothing outputs rest
  pub begin : Machine
  pub begins : Begins (code_engine c t) job rest begin
  pub wrote : Wrote (code_engine c t) (allowance_of job) begin before forks

-- the exchanges of which it has heard so far
abbrev pub heard : (c : PlainCode) (t : ℕ) (jobs : List Job) (job : Job) → Log c t jobs job → List Exchange
heard c t jobs job l = l.exchanges ++ record { job = job; replies = l.before } ∷ []

-- the jobs that it has written, with their replies
abbrev pub told : (c : PlainCode) (t : ℕ) (jobs : List Job) (job : Job) → Log c t jobs job → List Answered
told c t jobs job l = pair_all l.exchanges l.outputs ++ pair_forks l.forks l.before
