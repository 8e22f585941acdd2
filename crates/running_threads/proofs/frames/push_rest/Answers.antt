use Rattle.std.proofs.Common.{◌∙◌, ap, sym}
use Rattle.running_threads.specs.Views.{plugged}
use Rattle.running_threads.proofs.Plugs.{one_more, then_list_some}
use Rattle.running_threads.proofs.frames.push_rest.Goals as goal

pub returns : goal.returns
returns c = λ R.
    one_more c.args.frames.now.items _ _ R c.in_ok-push.ensures.items
    ∙ ap (plugged c.args.frames.now.items) (then_list_some R c.args.rest.now (sym c.is_empty.ensures ∙ c.if-is_empty.false))
