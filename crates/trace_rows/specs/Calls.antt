-- What calls over objects that may not tell what they hold say of them.
use Rattle.std.specs.Prelude.{ℕ, ◌≤◌, Bool, List, Option, Some, None, Result, OnErr, ⊤}
use Rattle.forec_base.specs.Outside.{Fell}

-- a fact of what is told before and after
abbrev pub IfTold : Option (List ℕ) → Option (List ℕ) → (List ℕ → List ℕ → Type 0) → Type 0
IfTold None new P = ⊤
IfTold (Some xs) None P = ⊥
IfTold (Some xs) (Some ys) P = P xs ys

-- an answer after any number of calls of an object: where it is a fault, the count rose and the object is down
pub record Faults {T E : Type 0} (before now : ℕ) (is_down : Bool) (result : Result T E) : Type 0 where
  pub later : before ≤ now
  pub failed : OnErr result (Fell before now is_down)
