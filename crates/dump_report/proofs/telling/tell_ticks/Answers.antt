use Rattle.std.proofs.Common.{◌≡◌, ◌<◌, ◌≤◌, ◌+◌, ◌++◌, ℕ, List, length, take, drop, get_or, sym, ap, ◌∙◌, arith}
use Rattle.trace_rows.specs.Report.{tick_line}
use Rattle.wave_dump.specs.Dumps.{plain_ticks}
use Rattle.dump_report.specs.Told.{told_ticks}
use Rattle.dump_report.proofs.Lines.{ticks_step, ticks_end, values_of_tick}
use Rattle.dump_report.proofs.Sent.{sends_none, sends_on, sends_put, sends_last, sends_front}
use Rattle.dump_report.proofs.telling.tell_ticks.Goals as goal

pub loop-i-init : goal.loop-i-init
loop-i-init g c =
    record {
      within = omega arith;
      sends = sends_none (g.K.Sink.held c.args.out.now) (told_ticks 1 c.args.names.now (plain_ticks c.args.ticks.now));
      later = omega arith;
    }

pub put_tick-end-requires-clause-values : goal.put_tick-end-requires-clause-values
put_tick-end-requires-clause-values g c =
    let names = c.args.names.now in
    let item = c.index-ticks-i in
    ap length (c.deref.ensures.value ∙ ap (λ t. t.items) item.is)
    ∙ values_of_tick (length names) c.args.ticks.now c.loop-i.i item.result c.requires.values (omega arith)

pub loop-i-preserved : goal.loop-i-preserved
loop-i-preserved g c =
    let held = g.K.Sink.held in
    let names : List (List ℕ) = c.args.names.now in
    let ticks = c.args.ticks.now in
    let i = c.loop-i.i in
    let item = c.index-ticks-i in
    let before = held c.args.out.now in
    let after = held c.make_room.new.out in
    let all : List ℕ = told_ticks 1 names (plain_ticks ticks) in
    let left : List ℕ = told_ticks (i + 1) names (plain_ticks (drop i ticks)) in
    let rest : List ℕ = told_ticks (i + 1 + 1) names (plain_ticks (drop (i + 1) ticks)) in
    let line : List ℕ = tick_line (i + 1) names c.deref.result.now in
    let old : List ℕ = take c.loop-i.end c.loop-i.room in
    let waiting : List ℕ = take c.in-Ok.next c.loop-i.room in
    let made = sends_on before (held c.loop-i.out) after all old waiting left c.loop-i.invariant.sends c.in-Ok.ensures.ok in
    let step : left ≡ line ++ rest = ticks_step ticks i names item.result (omega arith) ∙ ap (λ v. tick_line (i + 1) names v ++ rest) (sym (c.deref.ensures.value ∙ ap (λ t. t.items) item.is)) in
    record {
      within = omega (arith, c.put_tick-end.ensures.within, c.put_tick-end.auto.room);
      sends = sends_put before after all waiting (take c.put_tick-end.result c.put_tick-end.new.room) line left rest c.put_tick-end.ensures.front step made;
      later = omega (arith, c.loop-i.invariant.later, c.in-Ok.ensures.cause.later);
    }

pub returns-in-Err-clause-err : goal.returns-in-Err-clause-err
returns-in-Err-clause-err g c =
    let held = g.K.Sink.held in
    let names : List (List ℕ) = c.args.names.now in
    let ticks = c.args.ticks.now in
    sends_front (held c.args.out.now) (held c.loop-i.out) (held c.make_room.new.out) (told_ticks 1 names (plain_ticks ticks)) (take c.loop-i.end c.loop-i.room)
    (told_ticks (c.loop-i.i + 1) names (plain_ticks (drop c.loop-i.i ticks))) c.loop-i.invariant.sends c.in-Err.ensures.err

pub returns-clause-ok : goal.returns-clause-ok
returns-clause-ok g c =
    let held = g.K.Sink.held in
    let names : List (List ℕ) = c.args.names.now in
    let ticks = c.args.ticks.now in
    let i = c.loop-i.i in
    let past : length ticks ≤ i = omega arith in
    sends_last (held c.args.out.now) (held c.loop-i.out) (told_ticks 1 names (plain_ticks ticks)) (take c.loop-i.end c.loop-i.room)
    (told_ticks (i + 1) names (plain_ticks (drop i ticks))) (ticks_end ticks i names past) c.loop-i.invariant.sends
