use Rattle.std.proofs.Common.{[]}
use Rattle.kernel_meaning.proofs.ticks.advance.Goals as goal

pub returns-in-Ok : goal.returns-in-Ok
returns-in-Ok c = record { path = c.deref.result.now; is = c.thread_step.ensures }

pub returns-in-Err : goal.returns-in-Err
returns-in-Err c = record { path = []; is = record { by = tt } }
