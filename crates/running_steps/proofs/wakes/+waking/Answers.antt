use Rattle.std.proofs.Common.{◌≡◌, refl}
use Rattle.forec_kernel.specs.Shapes.{plain_kernel}
use Rattle.running_texts.specs.declared.meter.Halt.TheVariants.{Over}
use Rattle.running_threads.specs.Views.{focused, plain_running_thread}
use Rattle.running_steps.proofs.Fates.{wakes_focus, wakes_focus_err, wakes_last, wakes_out, wakes_not, wakes_err}
use Rattle.running_steps.proofs.wakes.+waking.Goals as goal

pub wake_thread-returns-in-Ok : goal.wake_thread-returns-in-Ok
wake_thread-returns-in-Ok t c =
    let th = c.args.t.now in
    wakes_focus (plain_kernel c.args.kernel.now) c.args.uses.now (plain_running_thread c.args.t.now) c.args.copies.items _ _ _ th.frames.items
    c.wake_frames.new.after.items (focused th.focus) c.in-Ok.focus _ refl
    (rw (c.deref.ensures.value, c.deref-2.ensures.value, c.deref-3.ensures.value, c.new-frames.ensures.items, c.in-Ok-Focus.field-0-is) at c.in-Ok-Focus.ensures)
    (rw c.deref-in-Ok-Focus.ensures.value at (c.in-Ok.ensures th.words.items)) c.in_ok-with_text-in-Ok.ensures

pub wake_thread-returns-in-Ok-Focus : goal.wake_thread-returns-in-Ok-Focus
wake_thread-returns-in-Ok-Focus t c =
    let th = c.args.t.now in
    wakes_focus_err (plain_kernel c.args.kernel.now) c.args.uses.now (plain_running_thread c.args.t.now) c.args.copies.items _ _ _ th.frames.items
    c.wake_frames.new.after.items th.focus c.in-Err.halt refl
    (rw (c.deref.ensures.value, c.deref-2.ensures.value, c.deref-3.ensures.value, c.new-frames.ensures.items, c.in-Ok-Focus.field-0-is) at c.in-Ok-Focus.ensures)
    (rw c.deref-in-Ok-Focus.ensures.value at (c.in-Err.ensures th.words.items))

pub wake_thread-returns-in-Ok-Last : goal.wake_thread-returns-in-Ok-Last
wake_thread-returns-in-Ok-Last t c =
    let th = c.args.t.now in
    wakes_last (plain_kernel c.args.kernel.now) c.args.uses.now (plain_running_thread c.args.t.now) c.args.copies.items _ _ th.frames.items
    c.wake_frames.new.after.items (focused th.focus) _ refl
    (rw (c.deref.ensures.value, c.deref-2.ensures.value, c.deref-3.ensures.value, c.new-frames.ensures.items, c.in-Ok-Last.field-0-is) at c.in-Ok-Last.ensures)
    (rw c.in_ok-focus-in-Ok-Last.ensures at c.in_ok-with_text-in-Ok-Last.ensures)

pub wake_thread-returns-in-Ok-Out : goal.wake_thread-returns-in-Ok-Out
wake_thread-returns-in-Ok-Out t c =
    let th = c.args.t.now in
    wakes_out (plain_kernel c.args.kernel.now) c.args.uses.now (plain_running_thread c.args.t.now) c.args.copies.items _ _ th.frames.items
    c.wake_frames.new.after.items (focused th.focus) _ refl
    (rw (c.deref.ensures.value, c.deref-2.ensures.value, c.deref-3.ensures.value, c.new-frames.ensures.items, c.in-Ok-Out.field-0-is) at c.in-Ok-Out.ensures) c.in_ok-with_text-in-Ok-Out.ensures

pub wake_thread-returns-in-Err-Trapped : goal.wake_thread-returns-in-Err-Trapped
wake_thread-returns-in-Err-Trapped t c =
    let th = c.args.t.now in
    wakes_not (plain_kernel c.args.kernel.now) c.args.uses.now (plain_running_thread c.args.t.now) c.args.copies.items _ _ th.frames.items
    c.wake_frames.new.after.items (focused th.focus) c.in-Err-Trapped.place c.in-Err-Trapped.trap _ refl
    (rw (c.deref.ensures.value, c.deref-2.ensures.value, c.deref-3.ensures.value, c.new-frames.ensures.items, c.in-Err-Trapped.field-0-is) at c.in-Err-Trapped.ensures) c.in_ok-trapped_at-in-Err-Trapped.ensures

pub wake_thread-returns-in-Err-Over : goal.wake_thread-returns-in-Err-Over
wake_thread-returns-in-Err-Over t c =
    let th = c.args.t.now in
    wakes_err (plain_kernel c.args.kernel.now) c.args.uses.now (plain_running_thread c.args.t.now) c.args.copies.items _ _ th.frames.items
    c.wake_frames.new.after.items (focused th.focus) Over refl (λ place trap e. absurd (cc))
    (rw (c.deref.ensures.value, c.deref-2.ensures.value, c.deref-3.ensures.value, c.new-frames.ensures.items, c.in-Err-Over.field-0-is) at c.in-Err-Over.ensures)
