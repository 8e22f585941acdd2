use Rattle.std.proofs.Common.{◌≡◌, drop}
use Rattle.forec_tree.specs.Plain as plain
use Rattle.forec_kernel.specs.Plain as kernel
use Rattle.loop_check.specs.Views.{indexed_text}
use Rattle.text_kernel.specs.Lowering as lowering
use Rattle.lower_names.specs.Views.{seen}
use Rattle.body_lower.proofs.assign.set_values.Given as goal

abbrev pub invariant-loop-at : goal.invariant-loop-at
invariant-loop-at l =
    lowering.joined_stmts (kernel.stmts l.list.items) (lowering.array_values (indexed_text l.globals.index) (seen l.scope) l.array.slot l.array.length l.at (plain.terms (drop l.at l.values)) l.array.place)
    ≡ lowering.joined_stmts (kernel.stmts l.fn.list.items) (lowering.array_values (indexed_text l.globals.index) (seen l.scope) l.array.slot l.array.length 0 (plain.terms l.values) l.array.place)
