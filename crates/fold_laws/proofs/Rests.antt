-- How much of a text is left that folding may have taken away: each step that the folded text doesn't take makes it less.
use Rattle.std.proofs.Common.{ℕ, ◌+◌, ◌≤◌, arith}
use Rattle.forec_kernel.specs.Terms.{Stmt, Nop, Set, SetAt, PutAt, Clear, Seq, If, While, Pause, Par, Enter, Return, Stmts, no_stmts, more_stmts}
use Rattle.forec_kernel.specs.Texts.{Go_on, Again, RunningText, Done, Run, Then, Turning, Resting, Fork, Held, Watch, Last, Threads, no_threads, child, text_of, texts_of}

abbrev mutual
  pub stmt_rest : Stmt → ℕ
  stmt_rest Nop = 0
  stmt_rest (Set to e) = 1
  stmt_rest (SetAt slot n i e place) = 1
  stmt_rest (PutAt v n i e place) = 1
  stmt_rest (Clear slot n) = 1
  stmt_rest (Seq list) = stmts_rest list + 1
  stmt_rest (If e a b) = stmt_rest a + stmt_rest b + 1
  stmt_rest (While e bound body place) = 2
  stmt_rest Pause = 1
  stmt_rest (Par branches) = 1
  stmt_rest (Enter weak immediate e body) = 1
  stmt_rest (Return e) = 1

  pub stmts_rest : Stmts → ℕ
  stmts_rest no_stmts = 0
  stmts_rest (more_stmts s rest) = stmt_rest s + 1 + stmts_rest rest

abbrev mutual
  pub text_rest : RunningText → ℕ
  text_rest Done = 0
  text_rest (Run s) = stmt_rest s
  text_rest (Then R (Go_on list)) = text_rest R + 1 + stmts_rest list
  text_rest (Then R (Again loop)) = text_rest R + 1
  text_rest (Turning loop) = 1
  text_rest Resting = 0
  text_rest (Fork cs) = threads_rest cs
  text_rest (Held cs) = 0
  text_rest (Watch weak e R) = text_rest R + 1
  text_rest (Last R) = text_rest R + 1

  pub threads_rest : Threads → ℕ
  threads_rest no_threads = 0
  threads_rest (child t R w c st rest) = text_rest R + threads_rest rest

mutual
  pub text_of_rest : (s : Stmt) → text_rest (text_of s) ≤ stmt_rest s
  text_of_rest Nop = omega arith
  text_of_rest (Set to e) = omega arith
  text_of_rest (SetAt slot n i e place) = omega arith
  text_of_rest (PutAt v n i e place) = omega arith
  text_of_rest (Clear slot n) = omega arith
  text_of_rest (Seq list) = omega (arith, texts_of_rest list)
  text_of_rest (If e a b) = omega arith
  text_of_rest (While e bound body place) = omega arith
  text_of_rest Pause = omega arith
  text_of_rest (Par branches) = omega arith
  text_of_rest (Enter weak immediate e body) = omega arith
  text_of_rest (Return e) = omega arith

  pub texts_of_rest : (list : Stmts) → text_rest (texts_of list) ≤ stmts_rest list
  texts_of_rest no_stmts = omega arith
  texts_of_rest (more_stmts s no_stmts) = omega (arith, text_of_rest s)
  texts_of_rest (more_stmts s (more_stmts t rest)) = omega (arith, text_of_rest s)
