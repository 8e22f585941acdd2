use Rattle.std.proofs.Common.{◌∙◌, ap, map}
use Rattle.forec_kernel.specs.Shapes.{plain_thread}
use Rattle.forec_kernel.specs.Texts.{words_in}
use Rattle.running_texts.proofs.Kernels.{words_at, words_past}
use Rattle.running_texts.proofs.forks.thread_words.Goals as goal

pub returns-then-thread-shapes : goal.returns-then-thread-shapes
returns-then-thread-shapes c =
    words_at c.as_slice-shapes.result.now c.args.thread c.index-shapes-thread.result c.if-thread-shapes.true
    ∙ ap (λ ts. words_in (map plain_thread ts) c.args.thread) c.as_slice-shapes.ensures.value

pub returns-else-thread-shapes : goal.returns-else-thread-shapes
returns-else-thread-shapes c =
    words_past c.as_slice-shapes.result.now c.args.thread c.if-thread-shapes.false
    ∙ ap (λ ts. words_in (map plain_thread ts) c.args.thread) c.as_slice-shapes.ensures.value
