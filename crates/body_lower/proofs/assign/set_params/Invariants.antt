use Rattle.std.proofs.Common.{◌≡◌, drop}
use Rattle.forec_tree.specs.Plain as plain
use Rattle.forec_kernel.specs.Plain as kernel
use Rattle.loop_check.specs.Views.{indexed_text}
use Rattle.text_kernel.specs.Lowering as lowering
use Rattle.lower_names.specs.Views.{seen}
use Rattle.body_lower.proofs.assign.set_params.Given as goal

abbrev pub invariant-loop-arg : goal.invariant-loop-arg
invariant-loop-arg l =
    lowering.joined_stmts (kernel.stmts l.list.items) (lowering.set_params (indexed_text l.globals.index) (seen l.scope) l.at (plain.terms (drop l.arg-index l.args)))
    ≡ lowering.set_params (indexed_text l.globals.index) (seen l.scope) l.slot (plain.terms l.args)
