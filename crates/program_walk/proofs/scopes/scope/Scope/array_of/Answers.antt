use Rattle.std.proofs.Common.{◌≡◌, ◌∙◌, ◌<◌, ◌-◌, ℕ, zero, suc, List, [], ◌∷◌, refl, sym, ap, Some, None, length, get_or, arith}
use Rattle.forec_tree.specs.Scopes.{find_last}
use Rattle.program_walk.specs.declared.scopes.declaration.Declaration.{Declaration}
use Rattle.program_walk.specs.Declarations.{last_of, blank_declaration}
use Rattle.program_walk.specs.Views.{array_of_seen}
use Rattle.program_walk.proofs.DeclarationLaws.{whole, not_found, found_at, last_bound}
use Rattle.program_walk.proofs.scopes.scope.Scope.array_of.Goals as goal

pub returns-then-last-self : goal.returns-then-last-self
returns-then-last-self c =
    let s = c.args.self.now in
    let es = s.declared.list.items in
    let b = s.based in
    let w = s.within in
    let e = c.last-last.ensures in
    let t = c.if-last-self.true in
    sym (ap (λ l. array_of_seen (find_last c.args.id None l)) (whole s.base s.start es s.based)
    ∙ ap array_of_seen (not_found c.args.id s.base es (omega (arith, b, w)) (omega (arith, e, t))))

pub index-declaration-requires : goal.index-declaration-requires
index-declaration-requires c =
    let s = c.args.self.now in
    let e = c.last-last.ensures in
    let t = c.if-last-self.false in
    let r = last_bound c.args.id 0 0 s.declared.list.items (omega arith) in
    omega (arith, e, t, r)

any_default : (es : List Declaration) (k : ℕ) (d f : Declaration) → k < length es → get_or es k d ≡ get_or es k f
any_default [] k d f h = absurd (omega arith)
any_default (e ∷ es) zero d f h = refl
any_default (e ∷ es) (suc k) d f h = any_default es k d f (omega arith)

pub returns : goal.returns
returns c =
    let s = c.args.self.now in
    let es = s.declared.list.items in
    let b = s.based in
    let w = s.within in
    let e = c.last-last.ensures in
    let t = c.if-last-self.false in
    let r = last_bound c.args.id 0 0 es (omega arith) in
    let n : c.last-last.result - 1 ≡ last_of c.args.id es - 1 = omega (arith, e) in
    let at : c.index-declaration.result.now ≡ get_or es (last_of c.args.id es - 1) blank_declaration =
    c.index-declaration.ensures ∙ ap (λ k. get_or es k c.index-declaration.result.now) n ∙ any_default es (last_of c.args.id es - 1) c.index-declaration.result.now blank_declaration (omega (arith, e, t, r)) in
    ap (λ x. Some x.array) at
    ∙ sym (ap (λ l. array_of_seen (find_last c.args.id None l)) (whole s.base s.start es s.based)
    ∙ ap array_of_seen (found_at c.args.id s.base es (omega (arith, b, w)) (omega (arith, e, t))))
