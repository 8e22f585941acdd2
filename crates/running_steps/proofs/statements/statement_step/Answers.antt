use Rattle.std.proofs.Common.{◌≡◌, ◌∙◌, SFits, w32, rules, ap, arith}
use Rattle.std.proofs.lemmas.Int.{to_z-of_z}
use Rattle.forec_kernel.specs.Plain.{expr, stmt}
use Rattle.forec_kernel.specs.Shapes.{plain_kernel}
use Rattle.forec_kernel.specs.Values.{index_in}
use Rattle.forec_kernel.specs.Steps.{assigned_at, shared_at, evaluated}
use Rattle.forec_kernel.proofs.VecTerms.{stmt-sequence}
use Rattle.running_steps.specs.Moving.{origin_in, owner_in}
use Rattle.running_steps.proofs.Stepping.{went, operand_ok, with_has_units, assigned_at_has_units, shared_at_has_units}
use Rattle.running_steps.proofs.statements.statement_step.Goals as goal

pub returns-then-immediate : goal.returns-then-immediate
returns-then-immediate c = λ R.
    let body : c.deref-then-immediate.result.now ≡ c.in-Enter.body.value = c.deref-then-immediate.ensures in
    rw (c.in-Enter.is, c.if-immediate.true, ← body) (c.after_enter.ensures (origin_in c.args.values.now R) _ _ c.number_of-part-then-immediate.ensures)

pub returns-in-Set : goal.returns-in-Set
returns-in-Set c = λ R.
    rw c.in-Set.is (c.after_assign.ensures (plain_kernel c.args.kernel.now) (origin_in c.args.values.now R) _ _ c.number_of-part.ensures)

pub returns-in-Ok : goal.returns-in-Ok
returns-in-Ok c = λ R.
    let fits : SFits w32 c.in-Ok.at = search rules in
    let s = origin_in c.args.values.now R in
    let rest = simp to_z-of_z at (c.after_assign_at.ensures s _ _ c.number_of-part-in-Ok.ensures) in
    rw c.in-SetAt.is
    (operand_ok s _ _ _ _ _ _ _ c.in-Ok.ensures
    (with_has_units (evaluated (owner_in c.args.kernel.now c.args.values.now) c.args.values.now.words.now c.args.values.now.copies.now (expr c.in-SetAt.value))
    (λ x. assigned_at c.args.values.now.words.now c.args.values.now.copies.now c.in-SetAt.slot (index_in c.in-SetAt.length c.in-Ok.at) x c.in-SetAt.place)
    (λ x. assigned_at_has_units c.args.values.now.words.now c.args.values.now.copies.now c.in-SetAt.slot (index_in c.in-SetAt.length c.in-Ok.at) x c.in-SetAt.place)) rest)

pub returns-in-Ok-number_of : goal.returns-in-Ok-number_of
returns-in-Ok-number_of c = λ R.
    let fits : SFits w32 c.in-Ok-number_of.at = search rules in
    let s = origin_in c.args.values.now R in
    let o = owner_in c.args.kernel.now c.args.values.now in
    let words = c.args.values.now.words.now in
    let copies = c.args.values.now.copies.now in
    let i = index_in c.in-PutAt.length c.in-Ok-number_of.at in
    let rest = simp to_z-of_z at (c.after_put_at.ensures (plain_kernel c.args.kernel.now) s _ _ c.number_of-part-in-Ok-number_of.ensures) in
    rw c.in-PutAt.is
    (operand_ok s _ _ _ _ _ _ _ c.in-Ok-number_of.ensures
    (with_has_units (evaluated o words copies (expr c.in-PutAt.value))
    (λ x. shared_at o words copies c.in-PutAt.variable i x c.in-PutAt.place)
    (λ x. shared_at_has_units o words copies c.in-PutAt.variable i x c.in-PutAt.place)) rest)

pub returns-in-Sequence : goal.returns-in-Sequence
returns-in-Sequence c = λ R.
    let list : c.deref.result.now ≡ c.in-Sequence.list.items = c.deref.ensures.value in
    rw (ap stmt c.in-Sequence.is ∙ stmt-sequence c.in-Sequence.list, ← list)
    (went (origin_in c.args.values.now R) _ _ 0 _ (omega arith))

pub returns-in-If : goal.returns-in-If
returns-in-If c = λ R. rw (c.in-If.is, ← c.deref-in-If.ensures, ← c.deref-in-If-2.ensures) (c.if_step.ensures R)

pub returns-in-Clear : goal.returns-in-Clear
returns-in-Clear c = λ R. rw c.in-Clear.is (c.clear_step.ensures (origin_in c.args.values.now R))
