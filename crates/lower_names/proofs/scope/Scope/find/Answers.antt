use Rattle.std.proofs.Common.{◌∙◌, sym, ap, ◌-◌, get_or, Some, arith}
use Rattle.lower_names.proofs.Looked.{last_low, not_found, found_at}
use Rattle.lower_names.proofs.scope.Scope.find.Goals as goal

pub returns-then-last-self : goal.returns-then-last-self
returns-then-last-self c =
    let s = c.args.self.now in
    let e = c.last-last.ensures in
    let t = c.if-last-self.true in
    sym (not_found c.args.id s.base s.declared.list.items s.slots.items s.same s.within (omega (arith, e, t)))

pub index-slot-requires : goal.index-slot-requires
index-slot-requires c =
    let s = c.args.self.now in
    let e = c.last-last.ensures in
    let t = c.if-last-self.false in
    let l = last_low c.args.id s.base s.declared.list.items s.slots.items s.same s.within in
    omega (arith, e, t, l)

pub returns : goal.returns
returns c =
    let s = c.args.self.now in
    let e = c.last-last.ensures in
    let t = c.if-last-self.false in
    ap Some (c.index-slot.ensures ∙ ap (λ n. get_or s.slots.items (n - 1) c.index-slot.result.now) e)
    ∙ sym (found_at c.args.id s.base s.declared.list.items s.slots.items s.same s.within c.index-slot.result.now (omega (arith, e, t)))
