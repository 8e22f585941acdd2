use Rattle.std.proofs.Common.{◌∙◌, ap, map}
use Rattle.forec_kernel.specs.Shapes.{plain_thread}
use Rattle.forec_kernel.specs.Texts.{uses_in}
use Rattle.running_texts.proofs.Kernels.{uses_at, uses_past}
use Rattle.running_texts.proofs.forks.thread_uses.Goals as goal

pub returns-then-thread-shapes : goal.returns-then-thread-shapes
returns-then-thread-shapes c =
    c.deref.ensures.value ∙ uses_at c.as_slice-shapes.result.now c.args.thread c.index-shapes-thread.result c.if-thread-shapes.true
    ∙ ap (λ ts. uses_in (map plain_thread ts) c.args.thread) c.as_slice-shapes.ensures.value

pub returns-else-thread-shapes : goal.returns-else-thread-shapes
returns-else-thread-shapes c =
    uses_past c.as_slice-shapes.result.now c.args.thread c.if-thread-shapes.false
    ∙ ap (λ ts. uses_in (map plain_thread ts) c.args.thread) c.as_slice-shapes.ensures.value
