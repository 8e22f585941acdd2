-- Marks of variables.
use Rattle.std.specs.Prelude.{ℕ, ◌<◌, ◌≡◌, ◌||◌, Bool, false, Some, List, length, slice_index_or}
use Rattle.std.specs.declared.vec.Vec.{Vec}
use Rattle.std.specs.declared.alloc.Global.{Global}
use Rattle.forec_tree.specs.Faults.{is_in}
use Rattle.forec_kernel.specs.Shapes.{PlainThread}
use Rattle.forec_kernel.specs.declared.shape.ThreadShape.{ThreadShape}
use Rattle.lower_names.specs.Views.{Bare}
use Rattle.kernel_drafts.specs.Drafts.{optional_name_bytes, marked_from}

abbrev pub is_marked : List Bool → ℕ → Bool
is_marked marks v = slice_index_or marks v false

-- the marks of some variables were set, of those that there are
pub record Marks (old new : List Bool) (named : List ℕ) : Type 0 where
  pub each : (v : ℕ) → v < length new → is_marked new v ≡ (is_marked old v || is_in v named)
  pub long : length new ≡ length old

-- the marks of the variables below a count that are named
pub record MarksOf (count : ℕ) (named : List ℕ) (marks : List Bool) : Type 0 where
  pub each : (v : ℕ) → v < count → is_marked marks v ≡ is_in v named
  pub long : length marks ≡ count

-- the variables of a row of marks, and those of a shape
abbrev pub row_uses : Vec Bool Global → List ℕ
row_uses row = marked_from 0 row.items

abbrev pub shape_uses : ThreadShape → List ℕ
shape_uses s = s.uses.items

-- what the kernel says of a thread that has copies of some variables
abbrev pub with_uses : List (List ℕ) → Bare → List ℕ → PlainThread
with_uses names b uses =
    record { parent = Some b.parent; par = Some b.par; name = optional_name_bytes names b.name; params = b.params; words = b.words; uses = uses }
