use Rattle.std.proofs.Common.{◌≡◌, refl, ap, ◌∙◌}
use Rattle.forec_base.specs.declared.limits.TheConstants.{MAX_ROWS}
use Rattle.forec_kernel.specs.Shapes.{PlainShape, PlainKernel, plain_shape, plain_kernel}
use Rattle.thread_code.specs.Plain.{plain_code}
use Rattle.core_host.specs.Hosted.{code_of}
use Rattle.core_host.specs.Runs.{HostHasRun}
use Rattle.trace_ticks.specs.Following.{CodeFollows}
use Rattle.trace_ticks.specs.Formats.{format_for}
use Rattle.trace_ticks.specs.KernelNames.{outputs_of, run_format}
use Rattle.trace_ticks.specs.Ticking.{Starts}
use Rattle.trace_ticks.specs.declared.format.Telling.TheVariants as telling
use Rattle.trace_ticks.proofs.Following.{code_starts}
use Rattle.trace_ticks.proofs.Printing.{own_else}
use Rattle.log_runs.proofs.RunLemmas.{log_unrun, log_unread, log_unkept, log_told}
use Rattle.log_runs.proofs.logging.log_code.Given.{Over}
use Rattle.log_runs.proofs.logging.log_code.Goals.{After-run}
use Rattle.log_runs.proofs.logging.log_code.Goals as goal

pub returns-in_default : goal.returns-in_default
returns-in_default g c =
    log_unrun g.S.Source.left g.S.Source.faults g.S.Source.down g.K.Sink.held g.K.Sink.faults g.K.Sink.down MAX_ROWS (plain_kernel c.args.kernel.now) c.args.budget c.args.trace.now c.args.trace.now c.args.out.now c.args.out.now refl refl

pub returns-in_default-new : goal.returns-in_default-new
returns-in_default-new g c =
    log_unrun g.S.Source.left g.S.Source.faults g.S.Source.down g.K.Sink.held g.K.Sink.faults g.K.Sink.down MAX_ROWS (plain_kernel c.args.kernel.now) c.args.budget c.args.trace.now c.args.trace.now c.args.out.now c.args.out.now refl refl

-- ---- the code was run from the kernel's start

module _ (g : Over) (c : After-run g) where
  abbrev kernel : PlainKernel
  kernel = plain_kernel c.args.kernel.now

  starts : Starts (code_of c.in-Ok.ticker).shape (CodeFollows (code_of c.in-Ok.ticker) (HostHasRun c.in-Ok.ticker)) kernel
  starts =
      code_starts (plain_code c.args.code.now) (code_of c.in-Ok.ticker) (HostHasRun c.in-Ok.ticker) kernel (ap plain_code c.in-Ok.ensures.code_is) c.shape.ensures.well_formed c.requires.stands c.in-Ok.ensures.none

  told : c.in-Ok-new.session.waiting.format ≡ run_format telling.Report kernel
  told = c.in-Ok-new.ensures.format ∙ ap (λ (s : PlainShape). format_for telling.Report (outputs_of s)) (ap plain_shape c.shape-2.ensures.same ∙ c.requires.stands.shape)

pub returns-in-ReadFault : goal.returns-in-ReadFault
returns-in-ReadFault g c =
    let r = (goal.at.returns-in-ReadFault g c).After-run in
    let made = c.in-Ok-new.ensures in
    log_unread g.S.Source.left g.S.Source.faults g.S.Source.down g.K.Sink.held g.K.Sink.faults g.K.Sink.down _ _ _ MAX_ROWS _ _ (kernel g r) c.args.budget _ _ _ _ _ _ _ made.limit (told g r) made.budget (c.run.ensures.runs (kernel g r) (starts g r)) c.args.out.now c.in-ReadFault.is

pub returns-in-WriteFault : goal.returns-in-WriteFault
returns-in-WriteFault g c =
    let r = (goal.at.returns-in-WriteFault g c).After-run in
    let made = c.in-Ok-new.ensures in
    log_unkept g.S.Source.left g.S.Source.faults g.S.Source.down g.K.Sink.held g.K.Sink.faults g.K.Sink.down _ _ _ MAX_ROWS _ _ (kernel g r) c.args.budget _ _ _ _ _ _ _ made.limit (told g r) made.budget (c.run.ensures.runs (kernel g r) (starts g r)) c.args.out.now

pub returns : goal.returns
returns g c =
    let r = (goal.at.returns g c).After-run in
    let made = c.in-Ok-new.ensures in
    let end = c.in_default-run in
    let own = own_else c.run.result end.not-ReadFault end.not-WriteFault end.not-NoMemory in
    log_told g.S.Source.left g.S.Source.faults g.S.Source.down g.K.Sink.held g.K.Sink.faults g.K.Sink.down _ _ _ MAX_ROWS _ _ (kernel g r) c.args.budget _ _ _ _ _ _ _ made.limit (told g r) made.budget (c.run.ensures.runs (kernel g r) (starts g r)) c.run.new.ticker own c.logs_its_ticks.ensures (c.run.ensures.ran own (kernel g r) (starts g r)) c.args.out.now
    c.tell_log.new.out c.tell_log.result c.tell_log.ensures
