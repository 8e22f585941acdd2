use Rattle.std.proofs.Common.{◌≡◌, ◌∙◌, ◌+◌, sym, ap, subst, ℕ, length, get_or, ◌++◌, ◌∷◌, [], arith}
use Rattle.program_walk.specs.declared.scopes.declaration.Declaration.{Declaration}
use Rattle.program_walk.specs.Declarations.{last_of, AreDeclarationsChained, pushed_declaration}
use Rattle.program_walk.proofs.DeclarationLaws.{chained_push, latest_push}
use Rattle.program_walk.proofs.scopes.declarations.Declarations.push.Goals as goal

pub invariant_of-self-in_default : goal.invariant_of-self-in_default
invariant_of-self-in_default c =
    let es = c.args.self.now.list.items in
    let id = c.args.id in
    let declaration = λ (n : ℕ). let e : Declaration = record { id = id; array = c.args.array; before = n } in e in
    let items : c.push.new.self.items ≡ pushed_declaration es id c.args.array = c.in_ok-push.ensures.items ∙ ap (λ n. es ++ declaration n ∷ []) c.last-before.ensures in
    let n = c.len-place.ensures in
    let place : c.len-place.result + 1 ≡ length es + 1 = omega (arith, n) in
    record {
      latest_right = λ g.
          latest_push es id c.args.array (c.len-place.result + 1) (λ k. get_or c.args.self.now.latest.items k 0) (λ k. get_or c.put.new.table.items k 0) place
          c.args.self.now.latest_right c.in_default.ensures.ok g ∙ ap (last_of g) (sym items);
      chained = subst (λ xs. AreDeclarationsChained xs) (sym items) (chained_push es id c.args.array c.args.self.now.chained);
    }
