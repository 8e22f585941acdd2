use Rattle.std.proofs.Common.{◌∙◌, sym, ap, map, length, length-take, arith}
use Rattle.program_walk.specs.Declarations.{id_of}
use Rattle.text_kernel.specs.Bindings.{slot_id}
use Rattle.lower_names.proofs.Looked.{map_take}
use Rattle.lower_names.proofs.scope.Scope.forget.Goals as goal

pub invariant_of-self : goal.invariant_of-self
invariant_of-self c =
    let s = c.args.self.now in
    let n = c.args.len in
    record {
      same = ap (map id_of) c.truncate.ensures ∙ (map_take n s.declared.list.items s.slots.items s.same ∙ sym (ap (map slot_id) c.truncate-2.ensures.items));
      within = (let e = ap length c.truncate-2.ensures.items in let l = length-take n s.slots.items in let b = c.requires.seen in omega (arith, e, l, b, c.requires.within));
    }
