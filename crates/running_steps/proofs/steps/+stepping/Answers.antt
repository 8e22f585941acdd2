use Rattle.std.proofs.Common.{◌≡◌, ◌∙◌, refl, ap, sym, subst}
use Rattle.forec_kernel.specs.Shapes.{plain_kernel}
use Rattle.forec_kernel.specs.Texts.{uses_of}
use Rattle.forec_kernel.specs.Steps.{text_move}
use Rattle.running_threads.specs.Views.{focused, plain_running_thread}
use Rattle.running_steps.specs.Moving.{origin, IsChildStep, IsMoved}
use Rattle.running_steps.proofs.Threads.{forked_step, quiet_step}
use Rattle.running_steps.proofs.steps.+stepping.Goals as goal

pub thread_step-returns-then-runs_below : goal.thread_step-returns-then-runs_below
thread_step-returns-then-runs_below t c =
    let k = plain_kernel c.args.kernel.now in
    let old = c.args.t.now in
    forked_step k c.args.path.now _ _ (plain_running_thread old) _ old.frames.items (focused old.focus) (focused c.fork_step.new.focus) _ refl refl
    (c.fork_step.ensures (uses_of k old.number) old.words.items old.copies.items)

pub thread_step-returns : goal.thread_step-returns
thread_step-returns t c =
    let k = plain_kernel c.args.kernel.now in
    let old = c.args.t.now in
    let uses : c.thread_uses-uses.result.now ≡ uses_of k old.number = c.thread_uses-uses.ensures in
    quiet_step k c.args.path.now _ _ (plain_running_thread old) _ old.frames.items (focused old.focus) _ refl
    (rw uses at (c.after_step.ensures _ _ _ (rw (c.deref.ensures.value, c.deref-2.ensures.value) at (c.focus_step-step.ensures c.args.path.now))))
