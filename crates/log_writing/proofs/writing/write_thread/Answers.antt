use Rattle.std.proofs.Common.{◌≡◌, ◌+◌, ◌-◌, ◌++◌, ◌<◌, suc, length, take, drop, subst, ◌∙◌, arith}
use Rattle.exchange_meaning.specs.LogLines.{exchange_lines, thread_log_lines}
use Rattle.exchange_log.specs.Lines.{pair_lines}
use Rattle.exchange_log.specs.Posted.{log_in}
use Rattle.exchange_log.proofs.TextLemmas.{log_length}
use Rattle.whole_writes.proofs.Appending.{front_longer}
use Rattle.log_writing.specs.Sending.{SendsBehind, head_line}
use Rattle.log_writing.proofs.PairLemmas.{jobs_are, pair_added, thread_done, thread_split}
use Rattle.log_writing.proofs.SendingLemmas.{sends_both, sends_front}
use Rattle.log_writing.proofs.writing.write_thread.Given.{Over}
use Rattle.log_writing.proofs.writing.write_thread.Goals.{After-jobs-jobs}
use Rattle.log_writing.proofs.writing.write_thread.Goals as goal

-- as many jobs are counted as there are pairs
count : (g : Over) (c : After-jobs-jobs g) → c.jobs-jobs.result ≡ length (log_in c.args.port.now.mail c.args.thread)
count g c =
    let tells = c.requires.tells in
    let k = c.args.thread - 1 in
    let within : k < length c.args.port.now.mail.ends = omega (arith, c.requires.some, c.requires.thread) in
    jobs_are c.args.port.now.mail c.args.port.now.words c.args.thread c.jobs-jobs.result tells.kept tells.small c.requires.some (tells.parents k within) (tells.replied k within) c.jobs-jobs.ensures

pub returns-in-Err-clause-err : goal.returns-in-Err-clause-err
returns-in-Err-clause-err g c =
    let held = g.K.Sink.held in
    front_longer (held c.args.out.now) (held c.write_head.new.out) c.args.room.now.waiting.items (thread_log_lines c.args.thread (log_in c.args.port.now.mail c.args.thread)) c.in-Err.ensures.err

pub write_pair-requires-clause-pair : goal.write_pair-requires-clause-pair
write_pair-requires-clause-pair g c =
    let tells = c.requires.tells in
    let k = c.args.thread - 1 in
    let replied = tells.replied k (omega (arith, c.requires.some, c.requires.thread)) in
    omega (arith, c.loop-pair-test.true, c.jobs-jobs.ensures, log_length c.args.port.now.mail k replied)

pub loop-pair-preserved : goal.loop-pair-preserved
loop-pair-preserved g c =
    let held = g.K.Sink.held in
    let mail = c.args.port.now.mail in
    let t = c.args.thread in
    let jobs = c.jobs-jobs.result in
    let j = c.loop-pair.pair in
    let i = c.loop-pair.invariant in
    let first = c.args.room.now.waiting.items in
    let added = pair_added mail t jobs c.requires.some (count g (goal.at.loop-pair-preserved g c).After-jobs-jobs) j c.loop-pair-test.true in
    record {
      within = omega (arith, c.loop-pair-test.true);
      line = c.in-Ok.ensures.line ∙ i.line;
      sent = subst (SendsBehind (held c.args.out.now) (held c.write_pair.new.out) first c.write_pair.new.room.waiting.items) added
          (sends_both (held c.args.out.now) (held c.loop-pair.out) (held c.write_pair.new.out) first c.loop-pair.room.waiting.items c.write_pair.new.room.waiting.items
          (head_line t jobs ++ exchange_lines (take j (log_in mail t))) (pair_lines j (log_in mail (suc (t - 1)))) i.sent c.in-Ok.ensures.ok);
      later = omega (arith, i.later, c.in-Ok.ensures.cause.later);
    }

pub returns-in-Err-write_pair-clause-err : goal.returns-in-Err-write_pair-clause-err
returns-in-Err-write_pair-clause-err g c =
    let held = g.K.Sink.held in
    let t = c.args.thread in
    let log = log_in c.args.port.now.mail t in
    let jobs = c.jobs-jobs.result in
    let j = c.loop-pair.pair in
    sends_front (held c.args.out.now) (held c.loop-pair.out) (held c.write_pair.new.out) c.args.room.now.waiting.items c.loop-pair.room.waiting.items (head_line t jobs ++ exchange_lines (take j log)) (thread_log_lines t log) (exchange_lines (drop j log))
    c.loop-pair.invariant.sent (thread_split c.args.port.now.mail t jobs c.requires.some (count g (goal.at.returns-in-Err-write_pair-clause-err g c).After-jobs-jobs) j) c.in-Err-write_pair.ensures.err

pub returns-clause-ok : goal.returns-clause-ok
returns-clause-ok g c =
    let held = g.K.Sink.held in
    let same = count g (goal.at.returns-clause-ok g c).After-jobs-jobs in
    subst (SendsBehind (held c.args.out.now) (held c.loop-pair.out) c.args.room.now.waiting.items c.loop-pair.room.waiting.items)
    (thread_done c.args.port.now.mail c.args.thread c.jobs-jobs.result c.requires.some same c.loop-pair.pair (omega (arith, c.loop-pair-test.false))) c.loop-pair.invariant.sent
