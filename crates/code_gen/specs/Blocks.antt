-- The code of a kernel: a block for each thread and each int function.
use Rattle.std.specs.Prelude.{ℕ, suc, ◌+◌, max, Bool, true, false, pos, Option, Some, None, List, [], ◌∷◌, ◌++◌}
use Rattle.forec_kernel.specs.Terms.{Stmt, Nop, Set, SetAt, PutAt, Clear, Seq, If, While, Pause, Par, Enter, Return, Stmts, no_stmts, more_stmts}
use Rattle.forec_kernel.specs.Shapes.{PlainThread, PlainKernel}
use Rattle.forec_kernel.specs.Values.{function_words}
use Rattle.forec_kernel.specs.Texts.{words_of, params_of}
use Rattle.forec_kernel.specs.WellFormed.{function_params}
use Rattle.thread_code.specs.declared.instruction.Instruction.{Instruction}
use Rattle.thread_code.specs.declared.instruction.Instruction.TheVariants as instruction
use Rattle.thread_code.specs.Plain.{PlainBlock, PlainCode}
use Rattle.code_gen.specs.Statements.{Outside, statement_code}

-- how deep loops with a bound nest
abbrev pub loop_nesting : Option ℕ → ℕ → ℕ
loop_nesting None n = n
loop_nesting (Some bound) n = suc n

abbrev mutual
  pub counters_in : Stmt → ℕ
  counters_in Nop = 0
  counters_in (Set to e) = 0
  counters_in (SetAt x n i e place) = 0
  counters_in (PutAt v n i e place) = 0
  counters_in (Clear x n) = 0
  counters_in (Seq list) = counters_of list
  counters_in (If e then other) = max (counters_in then) (counters_in other)
  counters_in (While e bound body place) = loop_nesting bound (counters_in body)
  counters_in Pause = 0
  counters_in (Par branches) = 0
  counters_in (Enter weak immediate e body) = counters_in body
  counters_in (Return e) = 0

  pub counters_of : Stmts → ℕ
  counters_of no_stmts = 0
  counters_of (more_stmts s rest) = max (counters_in s) (counters_of rest)

-- how deep weak aborts nest
abbrev pub flagged : Bool → ℕ → ℕ
flagged false n = n
flagged true n = suc n

abbrev mutual
  pub flags_in : Stmt → ℕ
  flags_in Nop = 0
  flags_in (Set to e) = 0
  flags_in (SetAt x n i e place) = 0
  flags_in (PutAt v n i e place) = 0
  flags_in (Clear x n) = 0
  flags_in (Seq list) = flags_of list
  flags_in (If e then other) = max (flags_in then) (flags_in other)
  flags_in (While e bound body place) = flags_in body
  flags_in Pause = 0
  flags_in (Par branches) = 0
  flags_in (Enter weak immediate e body) = flagged weak (flags_in body)
  flags_in (Return e) = 0

  pub flags_of : Stmts → ℕ
  flags_of no_stmts = 0
  flags_of (more_stmts s rest) = max (flags_in s) (flags_of rest)

-- a block of these parts
abbrev pub body_block : List Instruction → ℕ → ℕ → ℕ → ℕ → PlainBlock
body_block steps params words counters flags = record { steps = steps; params = params; words = words; counters = counters; flags = flags }

-- a thread's body, and an end
abbrev pub thread_body_block : List PlainThread → (params words : ℕ) → Stmt → PlainBlock
thread_body_block ts params words body =
    body_block (statement_code ts Outside 0 body ++ instruction.End ∷ []) params words (counters_in body) (flags_in body)

-- A function's body. (It returns on each path; the jumps past its last statement lead to a return of their own.)
abbrev pub function_body_block : List PlainThread → (params words : ℕ) → Stmt → PlainBlock
function_body_block ts params words body =
    body_block (statement_code ts Outside 0 body ++ instruction.Quiet (pos 0) ∷ instruction.Return ∷ []) params words (counters_in body) 0

-- the block of thread t of a kernel
abbrev pub thread_block : PlainKernel → ℕ → Stmt → PlainBlock
thread_block k t body =
    record {
      steps = statement_code k.shape.threads Outside 0 body ++ instruction.End ∷ [];
      params = params_of k t;
      words = words_of k t;
      counters = counters_in body;
      flags = flags_in body;
    }

-- the block of function f of a kernel
abbrev pub function_block : PlainKernel → ℕ → Stmt → PlainBlock
function_block k f body =
    record {
      steps = statement_code k.shape.threads Outside 0 body ++ instruction.Quiet (pos 0) ∷ instruction.Return ∷ [];
      params = function_params k f;
      words = function_words k.shape.functions f;
      counters = counters_in body;
      flags = 0;
    }

-- a block for each body, which are numbered from n on
abbrev pub blocks_from : (ℕ → Stmt → PlainBlock) → ℕ → List Stmt → List PlainBlock
blocks_from block n [] = []
blocks_from block n (body ∷ bodies) = block n body ∷ blocks_from block (n + 1) bodies

abbrev pub kernel_code : PlainKernel → PlainCode
kernel_code k =
    record {
      shape = k.shape;
      threads = blocks_from (thread_block k) 0 k.threads;
      functions = blocks_from (function_block k) 0 k.functions;
    }
