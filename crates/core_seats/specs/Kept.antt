-- What serving leaves as it is.
use Rattle.std.specs.Prelude.{ℕ, List}
use Rattle.thread_code.specs.declared.instruction.CodeParts.{CodeParts}

-- of a host: its code, the core of each thread, and its own cores
pub record Standing : Type 0 where
  pub code : CodeParts
  pub places : List ℕ
  pub cores : List ℕ

-- `hosts`: of those that are served, in order, as far as they are known. `borrow`: the name of the borrow that they are behind, if there is one
pub record ServedHosts : Type 0 where
  pub borrow : ℕ
  pub hosts : List Standing
