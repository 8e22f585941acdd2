use Rattle.std.proofs.Common.{◌≡◌, ◌+◌, ◌++◌, drop}
use Rattle.forec_kernel.specs.Plain.{stmts}
use Rattle.code_sizes.specs.Sizes.{statements_length, aborts_of}
use Rattle.code_sizes.proofs.sizes.+statement.Given as goal

abbrev pub invariant-list_size-loop-statement : goal.invariant-list_size-loop-statement
invariant-list_size-loop-statement l =
    record {
      size : l.sum + statements_length l.checks l.prologue (stmts (drop l.statement-index l.list)) ≡ statements_length l.checks l.prologue (stmts l.fn.list);
      bodies :
          l.sizes.items ++ aborts_of l.checks l.prologue (stmts (drop l.statement-index l.list))
          ≡ l.fn.sizes.items ++ aborts_of l.checks l.prologue (stmts l.fn.list);
    }
