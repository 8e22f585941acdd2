-- What goes between the threads of a program: for each thread the jobs that it was given, in order, each with its reply.
use Rattle.std.specs.Prelude.{ℕ, ◌≡◌, ◌==◌, cond, Some, List, [], ◌∷◌, ◌++◌}
use Rattle.forec_kernel.specs.Engine.{Job, Reply, Output, Answered}
use Rattle.forec_kernel.specs.Shapes.{PlainShape}
use Rattle.forec_kernel.specs.WellFormed.{thread_of}
use Rattle.thread_code.specs.Valid.{of_shape}

pub record Logged : Type 0 where
  pub job : Job
  pub reply : Reply

-- the list of each thread but thread 0
abbrev pub ExchangeLog : Type 0
ExchangeLog = ℕ → List Logged

abbrev pub jobs_in : List Logged → List Job
jobs_in [] = []
jobs_in (l ∷ ls) = l.job ∷ jobs_in ls

-- these are the replies of the list, in order
abbrev pub RepliesAre : List Output → List Logged → Type 0
RepliesAre [] [] = Unit {0}
RepliesAre [] (l ∷ ls) = ⊥
RepliesAre (o ∷ os) [] = ⊥
RepliesAre (o ∷ os) (l ∷ ls) = (o.reply ≡ Some l.reply) × RepliesAre os ls

-- a job that was told to a branch, and its reply
abbrev pub logged : Answered → Logged
logged x = record { job = x.job; reply = x.reply }

-- of what was told to branches, what was told to thread b, in order
abbrev pub told_to : ℕ → List Answered → List Logged
told_to b [] = []
told_to b (x ∷ rest) = cond (x.branch == b) (logged x ∷ told_to b rest) (told_to b rest)

-- thread b is a branch of thread t
abbrev pub HasBranch : PlainShape → ℕ → ℕ → Type 0
HasBranch s t b = (thread_of (of_shape s) b).parent ≡ Some t

-- all this was told to branches of thread t
abbrev pub AreTold : PlainShape → ℕ → List Answered → Type 0
AreTold s t [] = Unit {0}
AreTold s t (x ∷ rest) = HasBranch s t x.branch × AreTold s t rest

-- the list begins with these
pub record StartsWith {A : Type 0} (list first : List A) : Type 0 where
  pub rest : List A
  pub is : list ≡ first ++ rest
