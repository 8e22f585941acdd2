use Rattle.std.proofs.Common.{ap}
use Rattle.forec_kernel.specs.Plain.{exprs}
use Rattle.lower_names.specs.Views.{context_text, seen}
use Rattle.body_lower.proofs.Pended.{call_launches, block_launches}
use Rattle.body_lower.proofs.branches.arguments.Goals as goal

pub returns-in_ok-list-in-Call : goal.returns-in_ok-list-in-Call
returns-in_ok-list-in-Call c =
    call_launches (context_text c.args.context.now) (seen c.args.state.now.scope) c.args.one.now c.in-Call.name c.in-Call.args c.as_slice-args.result.now (exprs c.in_ok-list-in-Call.list.items) c.in-Call.is c.as_slice-args.ensures c.in_ok-list-in-Call.ensures

pub returns-in-Group : goal.returns-in-Group
returns-in-Group c =
    block_launches (context_text c.args.context.now) (seen c.args.state.now.scope) c.args.one.now c.in-Group.place c.in-Group.body (exprs c.new.result.items) c.in-Group.is (ap exprs c.new.ensures.items)
