-- What a thread by itself tells its branches, by a log.
use Rattle.std.specs.Prelude.{ℕ, ◌≡◌, List}
use Rattle.forec_kernel.specs.Engine.{Exchange, Output, Answered, pair_all, AllReply}
use Rattle.forec_kernel.specs.Shapes.{PlainShape}
use Rattle.exchange_meaning.specs.Logged.{ExchangeLog, told_to, HasBranch, AreTold, StartsWith}

-- Thread t by itself gives a reply to each of these jobs. What it tells each of its branches, with the replies that it is given, is what the log has
-- for that branch, as far as it comes. (`run` is `Alone` of a kernel's threads, or of a code's.)
pub record TellsBranches (run : ℕ → List Exchange → List Output → Type 0) (s : PlainShape) (log : ExchangeLog) (t : ℕ) : Type 0 where
  pub exchanges : List Exchange
  pub outputs : List Output
  pub runs : run t exchanges outputs
  pub complete : AllReply outputs
  pub mine : AreTold s t (pair_all exchanges outputs)
  pub told : (b : ℕ) → HasBranch s t b → StartsWith (log b) (told_to b (pair_all exchanges outputs))

-- and that is all that the log has
abbrev pub IsAll : PlainShape → ExchangeLog → ℕ → List Answered → Type 0
IsAll s log t pairs = (b : ℕ) → HasBranch s t b → told_to b pairs ≡ log b
