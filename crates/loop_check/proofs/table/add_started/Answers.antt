use Rattle.loop_check.specs.Known.{started_in}
use Rattle.loop_check.proofs.table.add_started.Goals as goal

pub returns : goal.returns
returns c = λ r. c.in_ok-add_function.ensures started_in c.in_ok-list.ensures r
