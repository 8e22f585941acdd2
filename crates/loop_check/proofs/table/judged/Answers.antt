use Rattle.std.proofs.Common.{◌≡◌, ◌∙◌, sym, ap, subst, cond, length, get_or, arith}
use Rattle.forec_tree.specs.Pauses as pauses
use Rattle.loop_check.specs.Known as table
use Rattle.loop_check.specs.Known.{known}
use Rattle.loop_check.specs.Graph.{set_at}
use Rattle.loop_check.specs.Views.{indexed_text}
use Rattle.loop_check.proofs.Reading.{agrees_next}
use Rattle.loop_check.proofs.table.judged.Goals as goal
use Rattle.loop_check.proofs.table.judged.Goals.{then-function_certain+in_ok-mark, else-function_certain}

pub loop-f-preserved : goal.loop-f-preserved
loop-f-preserved c =
    λ value premise.
    let before = c.loop-f.invariant value premise in
    let step = premise c.loop-f.f-index (known c.loop-f.called.items) c.loop-f-test.true before in
    agrees_next value c.args.order.now c.loop-f.f-index (known c.loop-f.called.items) (known c.if-function_certain.called.items) c.function_certain.result c.loop-f-test.true before
    (c.function_certain.ensures
    ∙ ap (λ t. pauses.certain_step (indexed_text c.args.index.now) (known t) (get_or c.args.order.now c.loop-f.f-index 0)) c.deref.ensures.value ∙ step)
    (λ g. elim c.if-function_certain.branch [
      | then-function_certain+in_ok-mark w ↦
          ap (λ v. known v.items g) w.called-is ∙ w.in_ok-mark.ensures.set g
          ∙ sym (ap (λ b. cond b (set_at (get_or c.args.order.now c.loop-f.f-index 0) g (known c.loop-f.called.items g)) (known c.loop-f.called.items g)) w.if-function_certain.true)
      | else-function_certain w ↦
          ap (λ v. known v.items g) w.called-is
          ∙ sym (ap (λ b. cond b (set_at (get_or c.args.order.now c.loop-f.f-index 0) g (known c.loop-f.called.items g)) (known c.loop-f.called.items g)) w.if-function_certain.false)
    ])

pub returns : goal.returns
returns c =
    let low = c.loop-f.auto.f-index-end in
    let high = c.loop-f-test.false in
    let e : c.loop-f.f-index ≡ length c.args.order.now = omega (arith, low, high) in
    subst (λ n. table.IsRightTable (pauses.certain_step (indexed_text c.args.index.now)) c.args.order.now n (known c.loop-f.called.items)) e c.loop-f.invariant
