use Rattle.std.proofs.Common.{◌≡◌, pos, neg_ℤ, ℕ, Option, ◌+ℤ◌, ◌-ℤ◌, to_z, of_z, w32, w64, arith}
use Rattle.std.specs.Prelude.{int_le}
use Rattle.std.proofs.lemmas.Int.{ints}
use Rattle.forec_base.specs.declared.operators.Binary.TheVariants.{Le, Ge}
use Rattle.forec_tree.specs.Turns.{values_passed}
use Rattle.loop_check.specs.declared.parts.Form.{Form}
use Rattle.loop_check.specs.Forms.{run_form}
use Rattle.loop_check.proofs.Arithmetic.{up_to, down_to}
use Rattle.loop_check.proofs.runs.run.Goals as goal

form_le : (f : Form) (r : Option ℕ) → f.test ≡ Le → r ≡ values_passed 1000001 (λ v. int_le v f.bound) (pos f.by) f.number → r ≡ run_form f
form_le f r h g = rw h g

form_ge : (f : Form) (r : Option ℕ) → f.test ≡ Ge → r ≡ values_passed 1000001 (λ v. int_le f.bound v) (neg_ℤ (pos f.by)) f.number → r ≡ run_form f
form_ge f r h g = rw h g

pub returns-in-Le : goal.returns-in-Le
returns-in-Le c =
    let h = c.above.ensures in
    let limit : to_z w64 (of_z w64 c.above.result) ≡ c.args.form.bound +ℤ pos 1 = omega (arith, ints, h) in
    let number : to_z w64 (of_z w64 (to_z w32 (of_z w32 c.args.form.number))) ≡ c.args.form.number = omega (arith, ints) in
    form_le c.args.form c.run_up-in-Le.result c.in-Le.is
    (up_to 1000001 (to_z w64 (of_z w64 c.above.result)) c.args.form.bound (pos c.args.form.by) (to_z w64 (of_z w64 (to_z w32 (of_z w32 c.args.form.number))))
    c.args.form.number c.run_up-in-Le.result limit number c.run_up-in-Le.ensures)

pub returns-in-Ge : goal.returns-in-Ge
returns-in-Ge c =
    let h = c.below.ensures in
    let limit : to_z w64 (of_z w64 c.below.result) ≡ c.args.form.bound -ℤ pos 1 = omega (arith, ints, h) in
    let number : to_z w64 (of_z w64 (to_z w32 (of_z w32 c.args.form.number))) ≡ c.args.form.number = omega (arith, ints) in
    form_ge c.args.form c.run_down-in-Ge.result c.in-Ge.is
    (down_to 1000001 (to_z w64 (of_z w64 c.below.result)) c.args.form.bound (neg_ℤ (pos c.args.form.by)) (to_z w64 (of_z w64 (to_z w32 (of_z w32 c.args.form.number))))
    c.args.form.number c.run_down-in-Ge.result limit number c.run_down-in-Ge.ensures)
