use Rattle.std.proofs.Common.{◌∙◌, ap, refl}
use Rattle.forec_tree.specs.Plain.{terms}
use Rattle.forec_kernel.specs.Plain.{stmt}
use Rattle.lower_names.specs.declared.state.State.{State}
use Rattle.lower_names.specs.Views.{context_text, pending_threads}
use Rattle.lower_names.proofs.Doing.{count_args}
use Rattle.body_lower.proofs.Pended.{call_made}
use Rattle.body_lower.proofs.threads.calling.Goals as goal

pub returns : goal.returns
returns c =
    let text = context_text c.args.context.now in
    let old = c.args.state.now in
    let one : State = record old { slot = c.in_ok-taken.taken } in
    call_made text c.args.context.now.deep c.args.one.parent c.args.one.par c.args.context.now.owner old.par c.args.name (terms c.args.args.now) c.in_ok-params.params (stmt c.in_ok-body.body) one c.inlined.new.state
    (c.in_ok-taken.ensures.ok ∙ count_args c.args.args.now) c.requires.number refl (ap (pending_threads text) c.requires.none) c.in_ok-params.ensures c.in_ok-body.ensures.does
