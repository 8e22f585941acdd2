use Rattle.std.proofs.Common.{◌≡◌, ◌∙◌, ap, map, get_or, subst, IfOk}
use Rattle.forec_kernel.specs.Terms.{Nop}
use Rattle.forec_kernel.specs.Plain.{stmt}
use Rattle.forec_kernel.specs.Texts.{text_of}
use Rattle.running_texts.proofs.Kernels.{body_at, body_past}
use Rattle.running_threads.specs.Views.{plugged, focused}
use Rattle.running_steps.proofs.forks.start_body.Goals as goal

pub returns-else-thread-bodies : goal.returns-else-thread-bodies
returns-else-thread-bodies c =
    ap (λ s. plugged c.args.frames.now.items (text_of s)) (body_past c.as_slice-bodies.result.now c.args.thread c.if-thread-bodies.false
    ∙ ap (λ bs. get_or (map stmt bs) c.args.thread Nop) c.as_slice-bodies.ensures.value)

pub returns-then-thread-bodies : goal.returns-then-thread-bodies
returns-then-thread-bodies c =
    subst (λ T. IfOk c.start.result (λ x. plugged c.start.new.frames.items (focused x) ≡ T))
    (ap (λ s. plugged c.args.frames.now.items (text_of s)) (body_at c.as_slice-bodies.result.now c.args.thread c.index-bodies-thread.result c.if-thread-bodies.true c.index-bodies-thread.is
    ∙ ap (λ bs. get_or (map stmt bs) c.args.thread Nop) c.as_slice-bodies.ensures.value))
    c.start.ensures
