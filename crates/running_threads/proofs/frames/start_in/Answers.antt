use Rattle.std.proofs.Common.{◌≡◌, IfOk, subst}
use Rattle.forec_kernel.specs.Plain.{stmt}
use Rattle.forec_kernel.specs.Texts.{text_of}
use Rattle.running_threads.specs.Views.{plugged, focused}
use Rattle.running_threads.proofs.Plugs.{one_more}
use Rattle.running_threads.proofs.frames.start_in.Goals as goal

pub returns : goal.returns
returns c =
    subst (λ T. IfOk c.start.result (λ x. plugged c.start.new.frames.items (focused x) ≡ T))
    (one_more c.args.frames.now.items c.push.new.self.items c.args.frame (text_of (stmt c.args.body.now)) c.in_ok-push.ensures.items) c.start.ensures
