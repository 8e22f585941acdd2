-- The parts of a loop's form as the code keeps them.
use Rattle.std.specs.Prelude.{◌≡◌, ℕ, Bool, true, false, cond, pos, neg_ℤ, int_lt, int_le, Option, Some, None}
use Rattle.forec_base.specs.declared.operators.Binary.{Binary}
use Rattle.forec_base.specs.declared.operators.Binary.TheVariants.{Add, Sub, Lt, Le, Gt, Ge}
use Rattle.forec_tree.specs.Turns as form
use Rattle.loop_check.specs.declared.parts.Start.{Start}
use Rattle.loop_check.specs.declared.parts.Test.{Test}
use Rattle.loop_check.specs.declared.parts.LoopStep.{LoopStep}
use Rattle.loop_check.specs.declared.parts.Form.{Form}
use Rattle.forec_tree.specs.Terms.{Statement, Text}

abbrev pub start_pair : Option Start → Option form.VariableNumber
start_pair None = None
start_pair (Some a) = Some (record { id = a.id; number = a.number })

abbrev pub test_from : Option Test → Option form.Test
test_from None = None
test_from (Some t) = form.test_by t.op t.id t.number

abbrev pub step_from : Option LoopStep → Option form.PlainLoopStep
step_from None = None
step_from (Some s) = form.step_by s.op s.id s.by

abbrev pub is_add : Binary → Bool
is_add Add = true
is_add _ = false

abbrev pub is_sub : Binary → Bool
is_sub Sub = true
is_sub _ = false

-- a test and a step that go the same way
abbrev pub fits_way : Binary → Binary → Bool
fits_way Lt step = is_add step
fits_way Le step = is_add step
fits_way Gt step = is_sub step
fits_way Ge step = is_sub step
fits_way _ step = false

-- what a form tells, where no global is in the way
abbrev pub run_form : Form → Option ℕ
run_form f = elim f.test [
  | Lt ↦ form.values_passed form.most_values (λ v. int_lt v f.bound) (pos f.by) f.number
  | Le ↦ form.values_passed form.most_values (λ v. int_le v f.bound) (pos f.by) f.number
  | Gt ↦ form.values_passed form.most_values (λ v. int_lt f.bound v) (neg_ℤ (pos f.by)) f.number
  | Ge ↦ form.values_passed form.most_values (λ v. int_le f.bound v) (neg_ℤ (pos f.by)) f.number
  | _ ↦ None
]

abbrev pub turns_unless : Text → Option Form → Option ℕ
turns_unless text None = None
turns_unless text (Some f) = cond (form.global_named f.id text) None (run_form f)

-- the three parts of a form with a body
abbrev pub FormOf : Option Form → Start → Test → LoopStep → Statement → Type 0
FormOf r a t s body =
    (text : Text) → form.turns_by_parts text body (start_pair (Some a)) (test_from (Some t)) (step_from (Some s)) ≡ turns_unless text r

-- what is inferred of a statement
abbrev pub HasForm : Option Form → Statement → Type 0
HasForm r s = (text : Text) → form.inferred text s ≡ turns_unless text r
