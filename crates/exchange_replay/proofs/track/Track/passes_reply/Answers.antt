use Rattle.std.proofs.Common.{refl}
use Rattle.exchange_replay.specs.declared.track.Track.{Track}
use Rattle.exchange_replay.proofs.TrackLemmas.{reply_passed}
use Rattle.exchange_replay.proofs.track.Track.passes_reply.Goals as goal

pub returns : goal.returns
returns c s t r q left h is =
    let new : Track = record { cursor = c.next_reply.new.cursor; logged = c.next_reply.new.packet; written = c.args.self.now.written } in
    reply_passed s t c.args.log.now c.args.self.now new r q left h is c.is_same_reply.result c.is_same_reply.ensures refl c.next_reply.ensures.room (c.next_reply.ensures.reply s t r left h.fits.logged h.at)
