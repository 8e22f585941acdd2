-- Whether the next tick can begin, and whether the last one was replied to.
use Rattle.combine_tree.specs.declared.packet.PacketKind.{PacketKind}
use Rattle.combine_tree.specs.declared.packet.PacketKind.TheVariants as kind
use Rattle.core_machine.specs.declared.thread.Thread.{Thread}
use Rattle.core_machine.specs.Threads.{CanBegin}
use Rattle.core_machine.specs.Replies.{RepliesByKind}
use Rattle.tick_jobs.specs.Jobs.{IsBetweenTicks, next_job_kind}
use Rattle.tick_jobs.specs.Outcomes.{IsReplied}
use Rattle.tick_jobs.specs.Ready.{IsReady}

pub between_of : (t : Thread) (k : PacketKind) → IsReady t k → IsBetweenTicks k
between_of t kind.Blank h = tt
between_of t kind.Paused h = tt
between_of t kind.Start h = absurd h
between_of t kind.Wake h = absurd h
between_of t kind.Ended h = absurd h
between_of t (kind.Trapped place trap) h = absurd h
between_of t kind.Over h = absurd h

pub begins_by : (t : Thread) (k : PacketKind) → IsReady t k → CanBegin t (next_job_kind k)
begins_by t kind.Blank h = tt
begins_by t kind.Paused h = h
begins_by t kind.Start h = absurd h
begins_by t kind.Wake h = absurd h
begins_by t kind.Ended h = absurd h
begins_by t (kind.Trapped place trap) h = absurd h
begins_by t kind.Over h = absurd h

pub replied_of : (t : Thread) (k : PacketKind) → RepliesByKind t k → IsReplied k
replied_of t kind.Paused h = tt
replied_of t kind.Ended h = tt
replied_of t (kind.Trapped place trap) h = tt
replied_of t kind.Over h = tt
replied_of t kind.Blank h = absurd h
replied_of t kind.Start h = absurd h
replied_of t kind.Wake h = absurd h
