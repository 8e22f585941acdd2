use Rattle.std.proofs.Common.{◌≡◌, refl}
use Rattle.running_texts.specs.declared.meter.Halt.TheVariants.{Over}
use Rattle.running_threads.specs.Views.{plain_running_thread}
use Rattle.running_steps.specs.Taking.{origin_of}
use Rattle.running_steps.proofs.Threads.{after_trap, after_err}
use Rattle.running_steps.proofs.steps.stop.Goals as goal

pub returns-in-Trapped : goal.returns-in-Trapped
returns-in-Trapped c = λ uses old new m h.
    let t = c.args.t.now in
    after_trap (origin_of uses t) old new m (plain_running_thread t) _ t.frames.items _ c.in-Trapped.place c.in-Trapped.trap (rw c.in-Trapped.is at h) refl

pub returns-in-Over : goal.returns-in-Over
returns-in-Over c = λ uses old new m h.
    let t = c.args.t.now in
    after_err (origin_of uses t) old new Over m (plain_running_thread t) _ t.frames.items (λ place trap e. absurd (cc)) (rw c.in-Over.is at h)

pub returns-in-OutOfMemory : goal.returns-in-OutOfMemory
returns-in-OutOfMemory c = λ uses old new m h. record { by = tt }
