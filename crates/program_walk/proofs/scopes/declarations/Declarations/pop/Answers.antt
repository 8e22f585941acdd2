use Rattle.std.proofs.Common.{◌≡◌, ◌∙◌, ap, subst, ◌++◌, ◌∷◌, [], arith}
use Rattle.program_walk.specs.Declarations.{last_of, AreDeclarationsChained}
use Rattle.program_walk.proofs.DeclarationLaws.{popped, chained_pop, has_place}
use Rattle.program_walk.proofs.scopes.declarations.Declarations.pop.Goals as goal

pub invariant_of-self : goal.invariant_of-self
invariant_of-self c =
    let es = c.pop.new.self.items in
    let e = c.in-Some.declaration in
    let old : c.args.self.now.list.items ≡ es ++ e ∷ [] = c.in-Some.ensures.items in
    let chained : AreDeclarationsChained (es ++ e ∷ []) = subst (λ xs. AreDeclarationsChained xs) old c.args.self.now.chained in
    record {
      latest_right = popped es e c.args.self.now.latest.items chained (λ id. c.args.self.now.latest_right id ∙ ap (last_of id) old) (let t = c.if-at-len.true in let n = c.len.ensures in omega (arith, t, n));
      chained = chained_pop es e chained;
    }

pub invariant_of-self-else-at-len : goal.invariant_of-self-else-at-len
invariant_of-self-else-at-len c =
    let es = c.pop.new.self.items in
    let e = c.in-Some.declaration in
    let old : c.args.self.now.list.items ≡ es ++ e ∷ [] = c.in-Some.ensures.items in
    has_place es e c.args.self.now.latest.items (λ id. c.args.self.now.latest_right id ∙ ap (last_of id) old) (let t = c.if-at-len.false in let n = c.len.ensures in omega (arith, t, n))
