-- The branches of a thread, and their replies.
use Rattle.std.specs.Prelude.{ℕ, suc, ◌≡◌, ◌<◌, ◌==◌, cond, Some, List, [], ◌∷◌}
use Rattle.forec_kernel.specs.Engine.{Reply, Answered}
use Rattle.forec_kernel.specs.Shapes.{PlainShape}
use Rattle.forec_kernel.specs.WellFormed.{thread_of}
use Rattle.thread_code.specs.Valid.{of_shape}

-- thread k + 1 is a branch of thread t
abbrev pub IsBranchOf : PlainShape → ℕ → ℕ → Type 0
IsBranchOf s t k = (thread_of (of_shape s) (suc k)).parent ≡ Some t

-- the replies of branch b, in order
abbrev pub replies_to : ℕ → List Answered → List Reply
replies_to b [] = []
replies_to b (x ∷ rest) = cond (x.branch == b) (x.reply ∷ replies_to b rest) (replies_to b rest)

-- these jobs are for threads above t
abbrev pub AreAbove : ℕ → List Answered → Type 0
AreAbove t [] = Unit {0}
AreAbove t (x ∷ xs) = (t < x.branch) × AreAbove t xs
