use Rattle.std.proofs.Common.{◌≡◌, map, drop}
use Rattle.forec_tree.specs.Plain as plain
use Rattle.fault_order.specs.Least.{least_from}
use Rattle.loop_check.specs.Views.{indexed_text}
use Rattle.forec_check.specs.AccessCounts.{access_faults}
use Rattle.forec_check.proofs.rules.plain_globals.judge_plain_globals.Given as goal

abbrev pub invariant-loop-item : goal.invariant-loop-item
invariant-loop-item l =
    least_from l.least (access_faults (indexed_text l.symbols.index.now) l.symbols.names.now (map plain.plain_item (drop l.item-index l.items)))
    ≡ least_from l.fn.least (access_faults (indexed_text l.symbols.index.now) l.symbols.names.now (indexed_text l.symbols.index.now))
