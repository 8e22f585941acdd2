use Rattle.std.proofs.Common.{◌≡◌, ◌∙◌, ◌+◌, ◌++◌, ◌∷◌, [], sym, ap, subst, suc, false, take, set, get_or, arith}
use Rattle.std.proofs.Math.Seq.{take-suc}
use Rattle.loop_check.proofs.Searched.{Followed, put_one, pass_one}
use Rattle.loop_check.proofs.search.follow.Goals as goal
use Rattle.loop_check.proofs.search.follow.Goals.{then-is_waiting+in_ok-push, else-is_waiting}

pub loop-g-preserved : goal.loop-g-preserved
loop-g-preserved c =
    let list = c.args.list.now in
    let i = c.loop-g.g-index in
    let x = get_or list i 0 in
    let t : take (i + 1) list ≡ take i list ++ x ∷ [] = let e : i + 1 ≡ suc i = omega arith in ap (λ m. take m list) e ∙ take-suc list i 0 c.loop-g-test.true in
    let before = c.args.waiting.now.items in
    let after = c.loop-g.waiting.items in
    let old = c.args.rest.now.items in
    let new = c.loop-g.rest.items in
    let waits = ap (λ l. get_or l x false) (sym c.deref.ensures.value) ∙ sym c.is_waiting.ensures in
    subst (λ l. Followed l before c.if-is_waiting.waiting.items old c.if-is_waiting.rest.items) (sym t)
    (elim c.if-is_waiting.branch [
      | then-is_waiting+in_ok-push w ↦
          subst (λ v. Followed (take i list ++ x ∷ []) before v.items old c.if-is_waiting.rest.items) (sym w.waiting-is)
          (subst (λ v. Followed (take i list ++ x ∷ []) before (set after x false) old v) (sym (ap (λ v. v.items) w.rest-is ∙ w.in_ok-push.ensures.items))
          (put_one (take i list) before after old new x c.loop-g.invariant (waits ∙ w.if-is_waiting.true)))
      | else-is_waiting w ↦
          subst (λ v. Followed (take i list ++ x ∷ []) before v.items old c.if-is_waiting.rest.items) (sym w.waiting-is)
          (subst (λ v. Followed (take i list ++ x ∷ []) before after old v.items) (sym w.rest-is)
          (pass_one (take i list) before after old new x c.loop-g.invariant (waits ∙ w.if-is_waiting.false)))
    ])
