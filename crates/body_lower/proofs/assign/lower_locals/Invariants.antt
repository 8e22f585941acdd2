use Rattle.std.proofs.Common.{◌≡◌, drop, map}
use Rattle.forec_tree.specs.Plain as plain
use Rattle.forec_kernel.specs.Plain as kernel
use Rattle.loop_check.specs.Views.{indexed_text}
use Rattle.text_kernel.specs.Bindings as bindings
use Rattle.text_kernel.specs.Lowering as lowering
use Rattle.lower_names.specs.Views.{seen, AppendsLocals}
use Rattle.body_lower.proofs.assign.lower_locals.Given as goal

abbrev pub invariant-loop-local : goal.invariant-loop-local
invariant-loop-local l =
    let text = indexed_text l.globals.index in
    let rest = map plain.declared (drop l.local-index l.locals) in
    record {
      list : lowering.joined_stmts (kernel.stmts l.list.items) (lowering.lower_locals text (seen l.scope) l.slot rest) ≡ lowering.lower_locals text (seen l.fn.scope) l.fn.slot (map plain.declared l.locals);
      slot : lowering.slots_after text l.slot rest ≡ lowering.slots_after text l.fn.slot (map plain.declared l.locals);
      seen : bindings.with_local_slots (seen l.scope) l.slot rest ≡ bindings.with_local_slots (seen l.fn.scope) l.fn.slot (map plain.declared l.locals);
      kept : AppendsLocals l.fn.scope l.scope;
    }
