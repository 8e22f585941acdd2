use Rattle.std.proofs.Common.{◌+◌, ◌*◌, drop}
use Rattle.forec_tree.specs.Plain as plain
use Rattle.forec_kernel.specs.Plain as kernel
use Rattle.text_kernel.specs.Lowering as lowering
use Rattle.lower_names.specs.Landings.{called_within}
use Rattle.lower_names.specs.Views.{context_text, seen, AppendsLocals, next_of}
use Rattle.lower_names.proofs.Doing.{ListLeft}
use Rattle.body_lower.proofs.body.+body.Given as goal

abbrev pub decreases-by_kind : goal.decreases-by_kind
decreases-by_kind l = 12 * l.fuel

abbrev pub decreases-landed : goal.decreases-landed
decreases-landed l = 12 * l.fuel + 1

abbrev pub decreases-inner : goal.decreases-inner
decreases-inner l = 12 * l.fuel + 2

abbrev pub decreases-boxed_inner : goal.decreases-boxed_inner
decreases-boxed_inner l = 12 * l.fuel + 3

abbrev pub decreases-statement : goal.decreases-statement
decreases-statement l = 12 * l.fuel + 3

abbrev pub decreases-optional_inner : goal.decreases-optional_inner
decreases-optional_inner l = 12 * l.fuel + 4

abbrev pub decreases-optional_statement : goal.decreases-optional_statement
decreases-optional_statement l = 12 * l.fuel + 4

abbrev pub decreases-list : goal.decreases-list
decreases-list l = 12 * l.fuel + 4

abbrev pub decreases-block : goal.decreases-block
decreases-block l = 12 * l.fuel + 5

abbrev pub decreases-in_function : goal.decreases-in_function
decreases-in_function l = 12 * l.fuel + 5

abbrev pub decreases-inlined : goal.decreases-inlined
decreases-inlined l = 12 * l.fuel + 6

abbrev pub decreases-if_statement : goal.decreases-if_statement
decreases-if_statement l = 12 * l.fuel + 5

abbrev pub decreases-while_statement : goal.decreases-while_statement
decreases-while_statement l = 12 * l.fuel + 4

abbrev pub decreases-for_statement : goal.decreases-for_statement
decreases-for_statement l = 12 * l.fuel + 5

abbrev pub decreases-call : goal.decreases-call
decreases-call l = 12 * l.fuel + 7

abbrev pub decreases-abort : goal.decreases-abort
decreases-abort l = 12 * l.fuel + 6

abbrev pub invariant-list-loop-s : goal.invariant-list-loop-s
invariant-list-loop-s l =
    let text = context_text l.context in
    let called = called_within text l.context.deep in
    ListLeft text (lowering.lower_list text called l.context.owner (seen l.state.scope) (next_of l.state) (plain.statements (drop l.s-index l.body)))
    (lowering.lower_list text called l.context.owner (seen l.fn.state.scope) (next_of l.fn.state) (plain.statements l.body)) (kernel.stmts l.list.items) l.fn.state l.state
    × AppendsLocals l.fn.state.scope l.state.scope
