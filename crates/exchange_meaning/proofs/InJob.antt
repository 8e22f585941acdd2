-- An engine that is reached in a job: its steps, its forks and its end.
use Rattle.std.proofs.Common.{◌≡◌, ◌≤◌, ℕ, List, [], ◌∷◌, ◌++◌, length, refl, arith}
use Rattle.forec_kernel.specs.Engine.{Job, allowance_of, Reply, Seed, AtFork, Engine, Rest, Nothing, Exchange, Begins}
use Rattle.forec_kernel.specs.Reached.{AtRest, Inside, Closes, Reached, none, begun, stepped, joined, answered}

module _ {S : Type 0} (e : Engine S) where
  pub record InJob (a : ℕ) (s : S) : Type 0 where
    pub exchanges : List Exchange
    pub job : Job
    pub before : List (List Reply)
    pub reached : Reached e exchanges (Inside job before s)
    pub allowance : allowance_of job ≡ a

  pub record AfterJobs (r : Rest S) : Type 0 where
    pub exchanges : List Exchange
    pub reached : Reached e exchanges (AtRest r)

  pub no_jobs : AfterJobs Nothing
  no_jobs = record { exchanges = []; reached = none }

  pub job_begun : (job : Job) (r : Rest S) (s : S) → AfterJobs r → Begins e job r s → InJob (allowance_of job) s
  job_begun job r s h b =
      record { exchanges = h.exchanges; job = job; before = []; reached = begun h.exchanges job r s h.reached b; allowance = refl }

  pub job_stepped : (a : ℕ) (s : S) → InJob a s → InJob a (e.step s)
  job_stepped a s h =
      record {
        exchanges = h.exchanges;
        job = h.job;
        before = h.before;
        reached = stepped h.exchanges h.job h.before s (e.step s) h.reached refl;
        allowance = h.allowance;
      }

  pub job_joined : (a : ℕ) (rs : List Reply) (seeds : List Seed) (s : S) → InJob a s → e.view s ≡ AtFork seeds → e.units s ≤ a →
      length rs ≡ length seeds → InJob a (e.join rs s)
  job_joined a rs seeds s h v le count =
      record {
        exchanges = h.exchanges;
        job = h.job;
        before = h.before ++ rs ∷ [];
        reached = joined h.exchanges h.job h.before rs seeds s h.reached v (omega (arith, le, h.allowance)) count;
        allowance = h.allowance;
      }

  pub job_answered : (a : ℕ) (s : S) (o : Reply) (r : Rest S) → InJob a s → e.units s ≤ a → Closes e s (e.view s) o r → AfterJobs r
  job_answered a s o r h le closes =
      record {
        exchanges = h.exchanges ++ record { job = h.job; replies = h.before } ∷ [];
        reached = answered h.exchanges h.job h.before s o r h.reached (omega (arith, le, h.allowance)) closes;
      }
