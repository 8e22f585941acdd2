use Rattle.std.proofs.Common.{◌≡◌, ℕ, refl, sym, ap, subst, ◌∙◌}
use Rattle.forec_base.specs.declared.limits.TheConstants.{MAX_ROWS}
use Rattle.forec_kernel.specs.declared.shape.KernelParts.{KernelParts}
use Rattle.forec_kernel.specs.declared.shape.Shape.{Shape}
use Rattle.forec_kernel.specs.Shapes.{PlainShape, plain_shape, plain_kernel}
use Rattle.trace_ticks.specs.Formats.{format_for}
use Rattle.trace_ticks.specs.KernelNames.{outputs_of, run_format}
use Rattle.trace_ticks.specs.declared.format.Format.{Format}
use Rattle.trace_ticks.specs.Led.{RunsRows}
use Rattle.trace_ticks.specs.Sessions.{IsSessionOf}
use Rattle.trace_ticks.specs.Ticking.{Starts}
use Rattle.forec_kernel.specs.Composed.{state_after}
use Rattle.forec_kernel.specs.Ticks.{Fresh}
use Rattle.kernel_meaning.specs.States.{plain_state}
use Rattle.trace_ticks.proofs.RunEnds.{rows_unrun, rows_as}
use Rattle.trace_runs.proofs.rewriting.rewrite_trace.Goals as goal

pub returns-in_default : goal.returns-in_default
returns-in_default g c =
    rows_unrun g.S.Source.left g.S.Source.faults g.S.Source.down g.K.Sink.held g.K.Sink.faults g.K.Sink.down MAX_ROWS (run_format c.args.telling (plain_kernel c.args.kernel.now)) (plain_kernel c.args.kernel.now) c.args.budget Unit c.args.trace.now c.args.trace.now c.args.out.now c.args.out.now refl refl

pub returns-in_default-new : goal.returns-in_default-new
returns-in_default-new g c =
    rows_unrun g.S.Source.left g.S.Source.faults g.S.Source.down g.K.Sink.held g.K.Sink.faults g.K.Sink.down MAX_ROWS (run_format c.args.telling (plain_kernel c.args.kernel.now)) (plain_kernel c.args.kernel.now) c.args.budget Unit c.args.trace.now c.args.trace.now c.args.out.now c.args.out.now refl refl

pub run-requires-clause-session : goal.run-requires-clause-session
run-requires-clause-session g c =
    subst (λ (s : PlainShape). IsSessionOf s c.in-Ok.session) (ap plain_shape c.shape.ensures.same ∙ ap (λ (k : KernelParts). plain_shape k.shape) (sym c.in-Ok-new.ensures.kernel)) c.in-Ok.ensures.session

pub returns : goal.returns
returns g c =
    let k = plain_kernel c.args.kernel.now in
    let starts : Starts (plain_shape c.in-Ok-new.rewriter.kernel.now.shape) (λ m turns. (m ≡ plain_kernel c.in-Ok-new.rewriter.kernel.now) × (plain_state c.in-Ok-new.rewriter.state.value ≡ state_after m Fresh turns)) k = record { shaped = ap (λ (k : KernelParts). plain_shape k.shape) (sym c.in-Ok-new.ensures.kernel); fresh = (ap plain_kernel (sym c.in-Ok-new.ensures.kernel), c.in-Ok-new.ensures.state) } in
    let runs = rows_as g.S.Source.left g.S.Source.faults g.S.Source.down g.K.Sink.held g.K.Sink.faults g.K.Sink.down c.in-Ok.session.limit c.in-Ok.session.waiting.format k c.in-Ok.session.budget _ Unit c.args.trace.now c.run.new.trace c.args.out.now c.run.new.out c.run.result (λ p. tt)
    (c.run.ensures.runs k starts) in
    let format : c.in-Ok.session.waiting.format ≡ run_format c.args.telling k = c.in-Ok.ensures.format ∙ ap (λ (s : Shape). format_for c.args.telling (outputs_of (plain_shape s))) c.shape.ensures.same in
    subst (λ (b : ℕ). RunsRows g.S.Source.left g.S.Source.faults g.S.Source.down g.K.Sink.held g.K.Sink.faults g.K.Sink.down MAX_ROWS (run_format c.args.telling k) k b Unit c.args.trace.now c.run.new.trace c.args.out.now c.run.new.out c.run.result) c.in-Ok.ensures.budget
    (subst (λ (n : ℕ). RunsRows g.S.Source.left g.S.Source.faults g.S.Source.down g.K.Sink.held g.K.Sink.faults g.K.Sink.down n (run_format c.args.telling k) k c.in-Ok.session.budget Unit c.args.trace.now c.run.new.trace c.args.out.now c.run.new.out c.run.result) c.in-Ok.ensures.limit
    (subst (λ (f : Format). RunsRows g.S.Source.left g.S.Source.faults g.S.Source.down g.K.Sink.held g.K.Sink.faults g.K.Sink.down c.in-Ok.session.limit f k c.in-Ok.session.budget Unit c.args.trace.now c.run.new.trace c.args.out.now c.run.new.out c.run.result) format runs))
