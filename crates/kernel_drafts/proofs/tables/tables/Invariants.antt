use Rattle.std.proofs.Common.{◌≡◌, ◌++◌, map, drop}
use Rattle.text_kernel.specs.Items.{globals_of, array_table}
use Rattle.kernel_drafts.specs.Reach.{table_items}
use Rattle.kernel_drafts.proofs.tables.tables.Given as goal

abbrev pub invariant-loop-global : goal.invariant-loop-global
invariant-loop-global l = map table_items l.list.items ++ map array_table (globals_of (drop l.global-index l.arrays)) ≡ map array_table (globals_of l.arrays)
