use Rattle.std.proofs.Common.{◌≡◌, ◌∙◌, sym, ap, Option, ℕ}
use Rattle.forec_tree.specs.Terms.{Text}
use Rattle.forec_tree.specs.Turns as form
use Rattle.forec_tree.specs.declared.tree.Stmt.{Stmt}
use Rattle.forec_tree.specs.Plain.{statement}
use Rattle.forec_tree.proofs.Rows.{of_for}
use Rattle.loop_check.specs.Forms.{start_pair, test_from, step_from}
use Rattle.loop_check.proofs.runs.form_of.Goals as goal

parts : (text : Text) (b b' : Stmt) (p p' : Option form.VariableNumber) (t t' : Option form.Test) (s s' : Option form.PlainLoopStep) (r : Option ℕ) →
    b' ≡ b → p' ≡ p → t' ≡ t → s' ≡ s → form.turns_by_parts text (statement b') p' t' s' ≡ r → form.turns_by_parts text (statement b) p t s ≡ r
parts text b b' p p' t t' s s' r hb hp ht hs h =
    sym (ap (λ x. form.turns_by_parts text (statement x) p' t' s') hb ∙ ap (λ x. form.turns_by_parts text (statement b) x t' s') hp
    ∙ ap (λ x. form.turns_by_parts text (statement b) p x s') ht ∙ ap (λ x. form.turns_by_parts text (statement b) p t x) hs) ∙ h

pub returns-in-Some-Some-Some : goal.returns-in-Some-Some-Some
returns-in-Some-Some-Some c =
    λ (text : Text).
    let body = statement c.in-For.body.value in
    let a = sym (ap start_pair c.in-Some-Some-Some.is-0) ∙ c.start_of.ensures in
    let b = sym (ap test_from c.in-Some-Some-Some.is-1) ∙ c.test_of.ensures in
    let d = sym (ap step_from c.in-Some-Some-Some.is-2) ∙ c.step_of.ensures in
    let e = c.joined.ensures text in
    sym (of_for (form.inferred text) c.args.s.now c.in-For.start c.in-For.step c.in-For.test c.in-For.bound c.in-For.body c.in-For.is)
    ∙ parts text _ _ _ _ _ _ _ _ _ c.deref.ensures a b d e
