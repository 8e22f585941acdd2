use Rattle.std.proofs.Common.{◌≡◌, map, take, Vec, Global}
use Rattle.std.specs.Prelude.{ℤ}
use Rattle.forec_kernel.proofs.shape_copy.copy_tables.Given as goal

abbrev pub invariant-loop-table : goal.invariant-loop-table
invariant-loop-table l = map (λ (v : Vec ℤ Global). v.items) l.copies.items ≡ map (λ (v : Vec ℤ Global). v.items) (take l.table-index l.tables)
