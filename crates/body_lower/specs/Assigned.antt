-- Assignments and declarations: what the statements of the kernel are.
use Rattle.std.specs.Prelude.{◌≡◌, ℕ, Option, List, map}
use Rattle.forec_tree.specs.declared.tree.Expr.{Expr}
use Rattle.forec_tree.specs.declared.tree.Local.{Local}
use Rattle.forec_tree.specs.declared.tree.OpAt.{OpAt}
use Rattle.forec_tree.specs.declared.tree.Target.{Target}
use Rattle.forec_tree.specs.Plain.{term, terms, written_target, declared}
use Rattle.forec_tree.specs.Terms.{Text}
use Rattle.forec_kernel.specs.Terms.{Stmt}
use Rattle.forec_kernel.specs.Plain.{stmts}
use Rattle.forec_kernel.specs.declared.terms.Statement.{Statement}
use Rattle.text_kernel.specs.declared.names.Slot.{Slot}
use Rattle.text_kernel.specs.Lowering.{joined_stmts, lower_term, lower_target, array_values, lower_locals}
use Rattle.body_lower.specs.declared.assign.LocalArray.{LocalArray}

-- an assignment
abbrev pub IsAssigned : Text → List Slot → Target → Option OpAt → Expr → Stmt → Type 0
IsAssigned text s target op value k = k ≡ lower_target text s (written_target target) op (lower_term text s (term value))

-- the elements of an array are set from values, after other statements
abbrev pub AreSet : Text → List Slot → LocalArray → List Expr → (old new : List Statement) → Type 0
AreSet text s array values old new = stmts new ≡ joined_stmts (stmts old) (array_values text s array.slot array.length 0 (terms values) array.place)

-- the declarators of one declaration, from a slot on
abbrev pub AreDeclared : Text → List Slot → (slot : ℕ) → List Local → List Statement → Type 0
AreDeclared text s slot locals k = stmts k ≡ lower_locals text s slot (map declared locals)
