use Rattle.std.proofs.Common.{◌≡◌, ◌++◌, length, drop, map}
use Rattle.forec_kernel.specs.Plain.{stmts}
use Rattle.forec_kernel.specs.Shapes.{plain_thread}
use Rattle.code_gen.specs.Statements.{statements_code}
use Rattle.code_gen.specs.Arounds.{plain_around}
use Rattle.code_gen.proofs.statements.Emitter.+statement.Given as goal

abbrev pub invariant-emit_list-loop-statement : goal.invariant-emit_list-loop-statement
invariant-emit_list-loop-statement l =
    l.self.steps.items ++ statements_code (map plain_thread l.surroundings.threads.now) (plain_around l.surroundings.around.now) (length l.self.steps.items) (stmts (drop l.statement-index l.list))
    ≡ l.fn.self.steps.items ++ statements_code (map plain_thread l.surroundings.threads.now) (plain_around l.surroundings.around.now) (length l.fn.self.steps.items) (stmts l.fn.list)
