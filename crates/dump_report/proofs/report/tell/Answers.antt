use Rattle.std.proofs.Common.{◌≡◌, Err, ap, sym, subst}
use Rattle.wave_dump.specs.Dumps.{plain_dump}
use Rattle.dump_report.specs.Calls.{TellsReport}
use Rattle.dump_report.specs.Told.{ToldReport, dump_report}
use Rattle.dump_report.proofs.Answered.{tells_as}
use Rattle.dump_report.proofs.Lines.{report_of_long, report_of_dump, report_of_none}
use Rattle.dump_report.proofs.report.tell.Goals as goal

-- ---- a text that is too long

pub returns-then-text-gt-MAX_TEXT_BYTES-clause-own : goal.returns-then-text-gt-MAX_TEXT_BYTES-clause-own
returns-then-text-gt-MAX_TEXT_BYTES-clause-own g c =
    (tells_as g.K.Sink.held g.K.Sink.faults g.K.Sink.down c.args.out.now c.refuse_long.new.out _ _ c.refuse_long.result
    (report_of_long c.args.text.now c.if-text-gt-MAX_TEXT_BYTES.true) c.refuse_long.ensures).own

pub returns-then-text-gt-MAX_TEXT_BYTES-clause-write : goal.returns-then-text-gt-MAX_TEXT_BYTES-clause-write
returns-then-text-gt-MAX_TEXT_BYTES-clause-write g c =
    (tells_as g.K.Sink.held g.K.Sink.faults g.K.Sink.down c.args.out.now c.refuse_long.new.out _ _ c.refuse_long.result
    (report_of_long c.args.text.now c.if-text-gt-MAX_TEXT_BYTES.true) c.refuse_long.ensures).write

-- ---- a dump

pub returns-in-Ok-clause-own : goal.returns-in-Ok-clause-own
returns-in-Ok-clause-own g c =
    let found = c.in-Ok.ensures.found in
    (tells_as g.K.Sink.held g.K.Sink.faults g.K.Sink.down c.args.out.now c.tell_read.new.out _ _ c.tell_read.result
    (report_of_dump c.args.text.now (plain_dump c.in-Ok.dump) c.if-text-gt-MAX_TEXT_BYTES.false found.0 found.1) c.tell_read.ensures).own

pub returns-in-Ok-clause-write : goal.returns-in-Ok-clause-write
returns-in-Ok-clause-write g c =
    let found = c.in-Ok.ensures.found in
    (tells_as g.K.Sink.held g.K.Sink.faults g.K.Sink.down c.args.out.now c.tell_read.new.out _ _ c.tell_read.result
    (report_of_dump c.args.text.now (plain_dump c.in-Ok.dump) c.if-text-gt-MAX_TEXT_BYTES.false found.0 found.1) c.tell_read.ensures).write

-- ---- any other text

pub returns-in-Err-Bad-clause-own : goal.returns-in-Err-Bad-clause-own
returns-in-Err-Bad-clause-own g c =
    let bad = c.in-Err-Bad.ensures.bad c.in-Err-Bad.at (ap Err c.in-Err-Bad.field-0-is) in
    (tells_as g.K.Sink.held g.K.Sink.faults g.K.Sink.down c.args.out.now c.refuse.new.out _ _ c.refuse.result
    (report_of_none c.args.text.now c.in-Err-Bad.at c.if-text-gt-MAX_TEXT_BYTES.false bad.1 bad.0) (rw c.in-Err-Bad.field-0-is at c.refuse.ensures)).own

pub returns-in-Err-Bad-clause-write : goal.returns-in-Err-Bad-clause-write
returns-in-Err-Bad-clause-write g c =
    let bad = c.in-Err-Bad.ensures.bad c.in-Err-Bad.at (ap Err c.in-Err-Bad.field-0-is) in
    (tells_as g.K.Sink.held g.K.Sink.faults g.K.Sink.down c.args.out.now c.refuse.new.out _ _ c.refuse.result
    (report_of_none c.args.text.now c.in-Err-Bad.at c.if-text-gt-MAX_TEXT_BYTES.false bad.1 bad.0) (rw c.in-Err-Bad.field-0-is at c.refuse.ensures)).write
