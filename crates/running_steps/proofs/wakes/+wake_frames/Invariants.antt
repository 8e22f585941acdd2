use Rattle.std.proofs.Common.{length}
use Rattle.running_steps.proofs.wakes.+wake_frames.Given as goal

abbrev pub decreases-wake_frames : goal.decreases-wake_frames
decreases-wake_frames l = length l.frames.now
