use Rattle.std.proofs.Common.{refl}
use Rattle.exchange_replay.specs.declared.track.Track.{Track}
use Rattle.exchange_replay.proofs.TrackLemmas.{reads_next}
use Rattle.exchange_replay.proofs.track.Track.reads_job.Goals as goal

pub returns-clause-next : goal.returns-clause-next
returns-clause-next c s t left h =
    let new : Track = record { cursor = c.next_job.new.cursor; logged = c.next_job.new.packet; written = c.args.self.now.written } in
    reads_next s t c.args.log.now c.args.self.now new c.next_job.result left h.fits c.next_job.ensures.room refl (c.next_job.ensures.job s t left h.fits.logged h.at)
