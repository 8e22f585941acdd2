use Rattle.std.proofs.Common.{refl}
use Rattle.exchange_replay.specs.declared.track.Track.{Track}
use Rattle.exchange_replay.proofs.TrackLemmas.{none_read, other_read, can_read, job_passed}
use Rattle.exchange_replay.proofs.track.Track.passes_job.Goals.{then-not-reads_job-via-then-not-reads_job, then-not-reads_job-via-else-not-reads_job+then-not-is_same_job}
use Rattle.exchange_replay.proofs.track.Track.passes_job.Goals as goal

pub returns-then-not-reads_job : goal.returns-then-not-reads_job
returns-then-not-reads_job c s t left job h is rest reply e = elim c.then-not-reads_job.branch [
  | then-not-reads_job-via-then-not-reads_job w ↦ none_read s t c.args.log.now c.args.self.now c.reads_job.new.self c.reads_job.result left job (c.reads_job.ensures.next s t left h) w.if-not-reads_job.true rest reply e
  | then-not-reads_job-via-else-not-reads_job+then-not-is_same_job w ↦ other_read s t c.args.log.now c.args.self.now c.reads_job.new.self c.reads_job.result left job (c.reads_job.ensures.next s t left h) is w.is_same_job.result w.if-not-is_same_job.true w.is_same_job.ensures rest reply e
]

pub next_reply-requires : goal.next_reply-requires
next_reply-requires c =
    can_read c.requires.0 c.requires.1 c.args.log.now c.args.self.now c.reads_job.new.self c.reads_job.result c.requires.2 (c.reads_job.ensures.next c.requires.0 c.requires.1 c.requires.2 c.requires.3) c.if-not-reads_job.false

pub returns : goal.returns
returns c s t left job h is =
    let new : Track = record { cursor = c.next_reply.new.cursor; logged = c.next_reply.new.packet; written = c.reads_job.new.self.written } in
    job_passed s t c.args.log.now c.args.self.now c.reads_job.new.self new c.reads_job.result left job (c.reads_job.ensures.next s t left h) c.if-not-reads_job.false is c.is_same_job.result c.if-not-is_same_job.false c.is_same_job.ensures refl
    c.next_reply.ensures.room (λ r rest room at. c.next_reply.ensures.reply s t r rest room at)
