-- The rope of a host.
use Rattle.std.specs.Prelude.{ℕ, ◌≡◌, Option, Some, None, List, [], ◌∷◌}
use Rattle.thread_code.specs.declared.instruction.CodeParts.{CodeParts}
use Rattle.core_bells.specs.Ropes.{RopeState, IsSameRope, rooms_of}

-- a rope of the one core, made for this code and for a placement with these places
pub record IsRopeOf (code : CodeParts) (on cores : List ℕ) (r : RopeState) : Type 0 where
  pub core : cores ≡ r.core ∷ []
  pub places : r.placement.places ≡ on
  pub rooms : r.rooms ≡ rooms_of code r.placement

-- if a rope hangs it is such a one
abbrev pub IsHung : CodeParts → List ℕ → List ℕ → Option RopeState → Type 0
IsHung code places cores None = Unit {0}
IsHung code places cores (Some r) = IsRopeOf code places cores r

-- a rope hangs where one did, and it is the same
abbrev pub KeepsRope : Option RopeState → Option RopeState → Type 0
KeepsRope None None = Unit {0}
KeepsRope (Some r) (Some q) = IsSameRope r q
KeepsRope _ _ = ⊥
