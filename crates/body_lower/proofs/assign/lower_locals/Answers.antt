use Rattle.std.proofs.Common.{ℕ, ◌+◌, ◌≡◌, ◌∙◌, sym, ap, ◌++◌, ◌∷◌, [], drop, Option}
use Rattle.forec_tree.specs.declared.tree.Local.{Local}
use Rattle.forec_tree.specs.Plain.{declared}
use Rattle.loop_check.specs.Views.{indexed_text}
use Rattle.text_kernel.specs.declared.names.Slot.{Slot}
use Rattle.text_kernel.specs.Bindings.{local_slot, slots_of}
use Rattle.lower_names.specs.Views.{seen}
use Rattle.lower_names.proofs.Statements.{drop_next, locals_list, locals_slot, locals_seen, locals_end, kept_then}
use Rattle.body_lower.proofs.assign.lower_locals.Goals as goal

abbrev slot_of : Local → ℕ → Option ℕ → Slot
slot_of d at size = record { id = d.name.id; slot = at; size = size }

pub loop-local-preserved : goal.loop-local-preserved
loop-local-preserved c =
    let text = indexed_text c.args.globals.now.index in
    let items = c.args.locals.now in
    let i = c.loop-local.local-index in
    let d = c.local-item.result in
    let rest = drop (i + 1) items in
    let e = drop_next items i d c.loop-local-test.true (sym c.local-item.is) in
    let at = c.loop-local.slot in
    let s = seen c.loop-local.scope in
    let t = seen c.declare.new.self in
    let made : t ≡ s ++ local_slot at (declared d) ∷ [] = c.in_ok-declare.ensures.seen ∙ ap (λ n. s ++ slot_of d at n ∷ []) c.size_of.ensures in
    let next : c.in_ok-slot.field-0 ≡ at + slots_of d.length = c.in_ok-slot.ensures.ok ∙ ap (λ n. at + n) c.slots_of.ensures in
    record {
      list = locals_list text s t at c.in_ok-slot.field-0 d rest c.loop-local.list.items c.push.new.self.items c.in_ok-lower_local.field-0 _ items i e made next c.in_ok-lower_local.ensures c.in_ok-push.ensures.items c.loop-local.invariant.list;
      slot = locals_slot text at c.in_ok-slot.field-0 d rest items i _ e next c.loop-local.invariant.slot;
      seen = locals_seen s t at c.in_ok-slot.field-0 d rest items i _ e made next c.loop-local.invariant.seen;
      kept = kept_then c.args.scope.now c.loop-local.scope c.declare.new.self c.loop-local.invariant.kept c.in_ok-declare.ensures.kept;
    }

pub returns-clause-list : goal.returns-clause-list
returns-clause-list c =
    locals_end (indexed_text c.args.globals.now.index) (seen c.loop-local.scope) c.loop-local.slot c.args.locals.now c.loop-local.local-index c.loop-local.list.items _ c.loop-local-test.false c.loop-local.invariant.list
