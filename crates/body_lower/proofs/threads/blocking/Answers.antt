use Rattle.std.proofs.Common.{ap, refl}
use Rattle.forec_tree.specs.Plain.{statements}
use Rattle.forec_kernel.specs.Plain.{stmt}
use Rattle.lower_names.specs.declared.state.State.{State}
use Rattle.lower_names.specs.Views.{context_text, pending_threads}
use Rattle.body_lower.proofs.Pended.{block_made}
use Rattle.body_lower.proofs.threads.blocking.Goals as goal

pub returns : goal.returns
returns c =
    let text = context_text c.args.context.now in
    let old = c.args.state.now in
    let one : State = record old { slot = 0 } in
    λ place.
    block_made text c.args.context.now.deep c.args.one.parent c.args.one.par c.args.context.now.owner old.par place (statements c.args.body.now) (stmt c.in_ok-body.body) one c.hidden.new.state refl c.requires.number refl
    (ap (pending_threads text) c.requires.none) c.in_ok-body.ensures.does
