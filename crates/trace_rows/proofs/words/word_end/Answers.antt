use Rattle.std.proofs.Common.{sym}
use Rattle.trace_rows.proofs.Splitting.{end_some, end_none}
use Rattle.trace_rows.proofs.words.word_end.Goals as goal

pub returns-in-Some-clause-end : goal.returns-in-Some-clause-end
returns-in-Some-clause-end c = end_some c.args.line.now c.in-Some.end (sym c.in-Some.ensures)

pub returns-in-None-clause-end : goal.returns-in-None-clause-end
returns-in-None-clause-end c = end_none c.args.line.now (sym c.in-None.ensures)
