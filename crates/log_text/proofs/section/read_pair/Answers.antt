use Rattle.std.proofs.Common.{◌≡◌, ◌+◌, ℕ, subst}
use Rattle.log_text.specs.Stages.{AtReply, HasCome}
use Rattle.log_text.proofs.SectionLemmas.{room_kept, job_came, reply_stops, pair_read}
use Rattle.log_text.proofs.section.read_pair.Goals as goal

pub returns-in_default-read_reply-clause-bad : goal.returns-in_default-read_reply-clause-bad
returns-in_default-read_reply-clause-bad c = λ s t left line h e.
    let bytes = c.args.bytes.now in
    let j = c.in-Some.ensures.stands s t h.room in
    let come = job_came s t left c.args.spot.line c.args.spot.at c.in-Some.middle bytes c.read_job.new.packet h.small h.come j in
    let same : c.args.spot.line + 1 ≡ line = cc in
    reply_stops s t left line c.in-Some.middle bytes (subst (λ (k : ℕ). HasCome s bytes k c.in-Some.middle (AtReply t left)) same come)
    (λ r rest is f. c.in_default-read_reply.ensures.only s t r rest (room_kept s t c.args.packet.now c.read_job.new.packet c.read_job.ensures.room h.room) is f)

pub returns-clause-pair : goal.returns-clause-pair
returns-clause-pair c = λ s t left h.
    let room = room_kept s t c.args.packet.now c.read_job.new.packet c.read_job.ensures.room h.room in
    pair_read s t left c.args.spot.line c.args.spot.at c.in-Some.middle c.in-Some-read_reply.end c.args.bytes.now c.args.packet.now c.read_job.new.packet c.read_reply.new.packet h c.read_reply.ensures.room room
    (c.in-Some.ensures.stands s t h.room) (c.in-Some-read_reply.ensures.stands s t room)
