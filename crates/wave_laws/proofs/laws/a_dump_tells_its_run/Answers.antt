use Rattle.wave_laws.proofs.Whole.{dumps_tell_runs}
use Rattle.wave_laws.proofs.laws.a_dump_tells_its_run.Goals as goal

pub returns : goal.returns
returns c =
    dumps_tell_runs c.each_format_writes_one_run.ensures.bytes c.each_format_writes_one_run.ensures.status c.values_fit.ensures.ticks c.written_in_parts.ensures.tail c.dumps_are_told.ensures.dump
