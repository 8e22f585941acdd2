use Rattle.forec_check.specs.AccessScan.{no_access}
use Rattle.loop_check.specs.Views.{indexed_text}
use Rattle.forec_check.specs.Table.{Agrees}
use Rattle.forec_check.specs.AccessCounts.{called_access, access_value}
use Rattle.forec_check.proofs.instances.accesses.two_access.Given as goal

abbrev pub invariant-loop-f : goal.invariant-loop-f
invariant-loop-f l = Agrees no_access (access_value (indexed_text l.index) l.g) l.order l.f-index (called_access l.table.items)
