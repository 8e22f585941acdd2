use Rattle.trace_ticks.proofs.OneTelling.{formats_write_one_run, formats_give_one_status}
use Rattle.trace_ticks.proofs.laws.each_format_writes_one_run.Goals as goal

pub returns-clause-bytes : goal.returns-clause-bytes
returns-clause-bytes c = formats_write_one_run

pub returns-clause-status : goal.returns-clause-status
returns-clause-status c = formats_give_one_status
