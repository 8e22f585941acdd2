use Rattle.std.proofs.Common.{◌≡◌, ap, ◌∙◌}
use Rattle.forec_kernel.specs.Shapes.{PlainShape, plain_shape}
use Rattle.thread_code.specs.Plain.{plain_code}
use Rattle.core_host.specs.Hosted.{code_of}
use Rattle.core_host.specs.Runs.{HostHasRun}
use Rattle.trace_ticks.specs.Formats.{format_for}
use Rattle.trace_ticks.specs.KernelNames.{outputs_of}
use Rattle.trace_ticks.specs.declared.format.Telling.TheVariants as telling
use Rattle.trace_farm.specs.Kept.{slice_left, report_held}
use Rattle.trace_farm.proofs.Given.{code_starts, reported}
use Rattle.trace_farm.proofs.farming.Plan.report.Goals as goal

pub returns : goal.returns
returns g c = λ k formed stands.
    let self = c.args.self.now in
    let code = plain_code c.args.code.now in
    let host = c.in_ok-host.host in
    let fresh = c.in_ok-host.ensures in
    let session = c.in_ok-session.session in
    let is : code_of host ≡ code = ap plain_code fresh.code_is in
    let starts = code_starts code (code_of host) (HostHasRun host) k is formed stands fresh.none in
    let told = c.in_ok-session.ensures.format ∙ ap (λ (s : PlainShape). format_for telling.Report (outputs_of s)) (ap plain_shape c.shape.ensures.same ∙ stands.shape) in
    reported self.rows session.limit self.budget session.budget session.waiting.format k c.args.trace.now (slice_left c.new-source.result) (report_held c.in_ok-out.out)
    (report_held c.run-status.new.out) c.shrink_to_fit.new.self.items c.run-status.result c.of.result c.in_ok-session.ensures.limit
    c.in_ok-session.ensures.budget told c.new-source.ensures c.in_ok-out.ensures.held c.shrink_to_fit.ensures.items
    (c.run-status.ensures.runs k starts).prints.own c.of.ensures.own c.of.ensures.kept
