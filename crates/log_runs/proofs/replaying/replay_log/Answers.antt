use Rattle.std.proofs.Common.{◌≡◌, Err, ap, ◌∙◌}
use Rattle.forec_base.specs.declared.limits.TheConstants.{MAX_ROWS}
use Rattle.forec_kernel.specs.Shapes.{plain_shape, plain_kernel}
use Rattle.log_text.specs.declared.fault.LogFault.TheVariants as fault
use Rattle.log_runs.proofs.ReplayLemmas.{no_log_said}
use Rattle.log_runs.proofs.replaying.replay_log.Goals as goal

pub returns-in-Err-Bad : goal.returns-in-Err-Bad
returns-in-Err-Bad g c =
    let n = c.in-Err-Bad.line in
    let whole = c.in-Err-Bad.is in
    let outer = c.in-Err-Bad.field-0-is in
    let inner = c.in-Err-Bad.line-is in
    let is : c.read.result ≡ Err (fault.Bad c.in-Err-Bad.line) = cc in
    no_log_said g.S.Source.left g.S.Source.faults g.S.Source.down g.K.Sink.held g.K.Sink.faults g.K.Sink.down MAX_ROWS (plain_kernel c.args.kernel.now) c.args.budget c.args.text.items c.args.trace.now c.args.out.now c.say_no_log.new.out
    (plain_shape c.shape-2.result.now) n c.say_no_log.result (ap plain_shape c.shape-2.ensures.same ∙ c.in-Ok.ensures.shape) (c.read.ensures.bad n is) c.say_no_log.ensures
