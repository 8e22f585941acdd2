use Rattle.std.proofs.Common.{◌++◌, length, sym, ap, ◌∙◌, arith}
use Rattle.forec_kernel.specs.Packets.{PlainPacket}
use Rattle.exchange_meaning.specs.LogLines.{job_line, reply_line}
use Rattle.exchange_log.specs.Lines.{told_reply}
use Rattle.exchange_log.specs.Posted.{job_by, reply_by}
use Rattle.exchange_log.proofs.PairLemmas.{one_packet, job_told, reply_told}
use Rattle.exchange_log.proofs.book.Book.put_pair.Goals as goal

pub put_job-end-requires : goal.put_job-end-requires
put_job-end-requires c = let room = c.requires.room _ _ c.get-job.ensures c.get-reply.ensures in omega (arith, room)

pub put_reply-requires : goal.put_reply-requires
put_reply-requires c =
    let room = c.requires.room _ _ c.get-job.ensures c.get-reply.ensures in omega (arith, room, c.put_job-end.ensures.within, c.put_job-end.ensures.same_length)

pub returns-clause-lines : goal.returns-clause-lines
returns-clause-lines c p q hp hq =
    let j = c.get-job.result in
    let r = c.get-reply.result in
    let ps = one_packet _ p (sym c.get-job.ensures ∙ hp) in
    let qs = one_packet _ q (sym c.get-reply.ensures ∙ hq) in
    c.put_reply.ensures.front
    ∙ ap (λ l. l ++ told_reply r.kind r.amount r.copies.now) (c.put_job-end.ensures.front ∙ job_told j.kind j.amount j.args.now j.copies.now ∙ ap (λ (x : PlainPacket). job_line (job_by x.kind x)) ps)
    ∙ ap (λ l. job_line (job_by p.kind p) ++ l) (reply_told r.kind r.amount r.args.now r.copies.now ∙ ap (λ (x : PlainPacket). reply_line (reply_by x.kind x)) qs)

pub returns-clause-within : goal.returns-clause-within
returns-clause-within c p q hp hq =
    let ps = one_packet _ p (sym c.get-job.ensures ∙ hp) in
    let qs = one_packet _ q (sym c.get-reply.ensures ∙ hq) in
    let a = ap (λ (x : PlainPacket). length x.args) ps in
    let b = ap (λ (x : PlainPacket). length x.copies) ps in
    let d = ap (λ (x : PlainPacket). length x.copies) qs in
    omega (arith, a, b, d, c.put_job-end.ensures.within, c.put_reply.ensures.within)
