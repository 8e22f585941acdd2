-- The code of what stands in such surroundings, from an address on.
use Rattle.std.specs.Prelude.{ℕ, List, [], map}
use Rattle.forec_kernel.specs.Terms.{Expr, Stmt, Stmts}
use Rattle.forec_kernel.specs.Shapes.{plain_thread}
use Rattle.thread_code.specs.declared.instruction.Instruction.{Instruction}
use Rattle.code_gen.specs.declared.around.Surroundings.{Surroundings}
use Rattle.code_gen.specs.Arounds.{plain_around}
use Rattle.code_gen.specs.Expressions.{expression_code}
use Rattle.code_gen.specs.Statements.{Outside, loop_code, statement_code, statements_code}

-- an assignment: its code is the same whatever stands round it, and whichever threads the kernel has
abbrev pub assignment_code : ℕ → Stmt → List Instruction
assignment_code p body = statement_code [] Outside p body

abbrev pub code_within : Surroundings → ℕ → Stmt → List Instruction
code_within s p body = statement_code (map plain_thread s.threads.now) (plain_around s.around.now) p body

abbrev pub codes_within : Surroundings → ℕ → Stmts → List Instruction
codes_within s p list = statements_code (map plain_thread s.threads.now) (plain_around s.around.now) p list

-- a loop from its test on, with what counts its turns
abbrev pub loop_within : Surroundings → ℕ → Expr → List Instruction → Stmt → List Instruction
loop_within s p test turn body = loop_code p (expression_code p test) turn (λ b. code_within s b body)
