use Rattle.std.proofs.Common.{◌≡◌, ◌∙◌, ◌≤◌, sym, ap, refl, List, [], ◌++◌, length, map, drop, take, ℕ, arith}
use Rattle.std.proofs.lemmas.List.{take_all, drop_all}
use Rattle.forec_tree.specs.Scopes.{Scope}
use Rattle.program_walk.specs.declared.scopes.declaration.Declaration.{Declaration}
use Rattle.program_walk.specs.Declarations.{seen_name}
use Rattle.program_walk.proofs.DeclarationLaws.{whole}
use Rattle.program_walk.proofs.scopes.scope.Scope.enter.Goals as goal

inner : (b s n : ℕ) (es : List Declaration) → b ≤ s → n ≡ length es →
    (let x : Scope = record { outer = map seen_name (drop b (take n es)); here = map seen_name (drop n es) } in x)
    ≡ (let y : Scope = record { outer = map seen_name (drop b (take s es)) ++ map seen_name (drop s es); here = [] } in y)
inner b s n es h e =
    let t : take n es ≡ es = take_all n es (omega (arith, e)) in
    let d : drop n es ≡ [] = drop_all n es (omega (arith, e)) in
    let o : map seen_name (drop b (take n es)) ≡ map seen_name (drop b (take s es)) ++ map seen_name (drop s es) = ap (λ xs. map seen_name (drop b xs)) t ∙ sym (whole b s es h) in
    let i : map seen_name (drop n es) ≡ [] = ap (map seen_name) d in
    rw (o, i) refl

pub returns-clause-scope : goal.returns-clause-scope
returns-clause-scope c =
    let s = c.args.self.now in
    inner s.base s.start c.len-self.result s.declared.list.items s.based (let n = c.len-self.ensures in omega (arith, n))
