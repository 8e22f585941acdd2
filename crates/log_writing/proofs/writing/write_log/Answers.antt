use Rattle.std.proofs.Common.{◌-◌, subst, ◌∙◌, arith}
use Rattle.exchange_meaning.specs.LogLines.{log_lines_from, thread_log_lines}
use Rattle.exchange_log.specs.Posted.{log_in}
use Rattle.whole_writes.specs.Calls.{AppendsFront}
use Rattle.log_writing.specs.Sending.{SendsBehind}
use Rattle.log_writing.proofs.PairLemmas.{thread_added}
use Rattle.log_writing.proofs.SendingLemmas.{sends_both, err_map, log_cut, log_held}
use Rattle.log_writing.proofs.writing.write_log.Goals as goal

pub loop-thread-preserved : goal.loop-thread-preserved
loop-thread-preserved g c =
    let held = g.K.Sink.held in
    let log = log_in c.args.port.now.mail in
    let t = c.loop-thread.thread in
    let i = c.loop-thread.invariant in
    let first = c.args.room.now.waiting.items in
    record {
      some = omega (arith, i.some);
      within = omega (arith, c.loop-thread-test.true);
      line = c.in-Ok.ensures.line ∙ i.line;
      sent = subst (SendsBehind (held c.args.out.now) (held c.write_thread.new.out) first c.write_thread.new.room.waiting.items) (thread_added log t i.some)
          (sends_both (held c.args.out.now) (held c.loop-thread.out) (held c.write_thread.new.out) first c.loop-thread.room.waiting.items c.write_thread.new.room.waiting.items
          (log_lines_from 1 (t - 1) log) (thread_log_lines t (log t)) i.sent c.in-Ok.ensures.ok);
      later = omega (arith, i.later, c.in-Ok.ensures.cause.later);
    }

pub returns-in-Err-clause-err : goal.returns-in-Err-clause-err
returns-in-Err-clause-err g c =
    let held = g.K.Sink.held in
    let i = c.loop-thread.invariant in
    log_cut (log_in c.args.port.now.mail) c.args.threads c.loop-thread.thread (held c.args.out.now) (held c.loop-thread.out) (held c.write_thread.new.out) c.args.room.now.waiting.items c.loop-thread.room.waiting.items c.requires.empty i.sent
    i.some c.loop-thread-test.true c.in-Err.ensures.err

pub returns-clause-err : goal.returns-clause-err
returns-clause-err g c =
    let held = g.K.Sink.held in
    let i = c.loop-thread.invariant in
    err_map c.write_all.result _ _ c.write_all.ensures.err (λ f.
    log_held (log_in c.args.port.now.mail) c.args.threads c.loop-thread.thread (held c.args.out.now) (held c.loop-thread.out) (held c.write_all.new.out) c.args.room.now.waiting.items c.loop-thread.room.waiting.items c.requires.empty i.sent
    i.within c.loop-thread-test.false (subst (AppendsFront (held c.loop-thread.out) (held c.write_all.new.out)) c.deref.ensures.value f))
