use Rattle.std.proofs.Common.{◌≡◌, false}
use Rattle.thread_code.specs.Plain.{plain_code}
use Rattle.core_machine.specs.declared.thread.Phase.TheVariants as phase
use Rattle.core_machine.specs.RunParts.{Moved, left_for}
use Rattle.core_machine.proofs.thread.Thread.run_frames.Given as goal

abbrev pub invariant-loop-function : goal.invariant-loop-function
invariant-loop-function l = record {
  moved : Moved (plain_code l.code) l.fn.self l.self;
  running : l.self.phase ≡ phase.Running false;
}

abbrev pub decreases-loop-function : goal.decreases-loop-function
decreases-loop-function l = left_for l.self
