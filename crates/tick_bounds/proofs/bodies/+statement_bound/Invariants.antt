use Rattle.std.proofs.Common.{◌≡◌, ◌+◌, ◌≤◌, drop}
use Rattle.forec_kernel.specs.Shapes.{plain_kernel}
use Rattle.forec_kernel.specs.Plain.{stmts}
use Rattle.tick_bounds.specs.Bound.{stmts_bound}
use Rattle.tick_bounds.specs.Capped.{capped, by_tables}
use Rattle.tick_bounds.proofs.bodies.+statement_bound.Given as goal

abbrev pub invariant-list_bound-loop-s : goal.invariant-list_bound-loop-s
invariant-list_bound-loop-s l =
    record {
      most : l.sum ≤ 4611686018427387905;
      told : capped (l.sum + stmts_bound (plain_kernel l.scope.kernel.now) (by_tables l.scope.functions.now l.scope.threads.now) l.scope.uses.now (stmts (drop l.s-index l.list)))
          ≡ capped (stmts_bound (plain_kernel l.scope.kernel.now) (by_tables l.scope.functions.now l.scope.threads.now) l.scope.uses.now (stmts l.fn.list));
    }
