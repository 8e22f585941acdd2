-- The ropes of the cores of a placement.
use Rattle.std.specs.Prelude.{◌≡◌, ℕ, List}
use Rattle.thread_code.specs.declared.instruction.CodeParts.{CodeParts}
use Rattle.core_alloc.specs.Places.{Places}
use Rattle.core_bells.specs.Ropes.{RopeState, new_ropes}

pub record AreRopes (ropes : List RopeState) : Type 0 where
  pub code : CodeParts
  pub placement : Places
  pub count : ℕ
  pub are : ropes ≡ new_ropes code placement count
