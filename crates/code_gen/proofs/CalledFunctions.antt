-- The functions that code calls are those that its term calls.
use Rattle.std.proofs.Common.{◌≡◌, ℕ, zero, suc, ◌+◌, ◌<◌, List, [], ◌∷◌, ◌++◌, length, Option, Some, None, true, false, ap, ◌∙◌, arith}
use Rattle.std.specs.Prelude.{pos}
use Rattle.std.specs.List.{list_all}
use Rattle.std.proofs.lemmas.Option.{get_or_from_slice_get}
use Rattle.forec_kernel.specs.declared.terms.Spot.TheVariants as spot
use Rattle.forec_kernel.specs.Terms.{Expr, Num, Local, LocalAt, Var, SharedAt, TableAt, Un, Bin, And, Or, Choose, Call, Exprs, no_exprs, more_exprs, Stmt, Nop, Set, SetAt, PutAt, Clear, Seq, If, While, Pause, Par, Enter, Return, Stmts, no_stmts, more_stmts}
use Rattle.forec_kernel.specs.Shapes.{PlainKernel, PlainThread}
use Rattle.forec_kernel.specs.WellFormed.{TermScope, FineStmt, FineStmts, calls_of, calls_in, stmt_calls, stmts_calls, function_body, WellFormed}
use Rattle.forec_kernel.specs.Values.{function_words}
use Rattle.thread_code.specs.declared.instruction.Instruction.{Instruction}
use Rattle.thread_code.specs.declared.instruction.Instruction.TheVariants as instruction
use Rattle.thread_code.specs.Plain.{PlainBlock}
use Rattle.thread_code.specs.Valid.{called_functions, steps_of, deep_within}
use Rattle.code_gen.specs.Expressions.{expression_code, expressions_code}
use Rattle.code_gen.specs.Statements.{Around, Outside, loops, inner, fill_code, turn_code, statement_code, statements_code}
use Rattle.code_gen.specs.Blocks.{function_block, kernel_code}
use Rattle.code_gen.proofs.BlockLemmas.{block_at}
use Rattle.code_gen.proofs.Each.{Each, each_front, each_back, each_map, each_both, each_test, test_each}
use Rattle.code_gen.proofs.Deep.{deep, statement_named}

-- each called function is allowed
abbrev Allows : (ℕ → Type 0) → List Instruction → Type 0
Allows P is = Each P (called_functions is)

allows_join : (P : ℕ → Type 0) (is js : List Instruction) → Allows P is → Allows P js → Allows P (is ++ js)
allows_join P [] js h g = g
allows_join P (instruction.Call f ∷ is) js h g = (h.0, allows_join P is js h.1 g)
allows_join P (_ ∷ is) js h g = allows_join P is js h g

module _ (P : ℕ → Type 0) where
  mutual
    expression_calls : (x : Expr) (p : ℕ) → Each P (calls_of x) → Allows P (expression_code p x)
    expression_calls (Num n) p h = tt
    expression_calls (Local x) p h = tt
    expression_calls (LocalAt x n i place) p h = allows_join P (expression_code p i) _ (expression_calls i p h) tt
    expression_calls (Var v) p h = tt
    expression_calls (SharedAt v n i place) p h = allows_join P (expression_code p i) _ (expression_calls i p h) tt
    expression_calls (TableAt t i place) p h = allows_join P (expression_code p i) _ (expression_calls i p h) tt
    expression_calls (Un op a) p h = allows_join P (expression_code p a) _ (expression_calls a p h) tt
    expression_calls (Bin op a b place) p h =
        let q = p + length (expression_code p a) in
        allows_join P (expression_code p a) _ (expression_calls a p (each_front P (calls_of a) (calls_of b) h)) (allows_join P (expression_code q b) _ (expression_calls b q (each_back P (calls_of a) (calls_of b) h)) tt)
    expression_calls (And a b) p h =
        let q = p + length (expression_code p a) + 1 in
        allows_join P (expression_code p a) _ (expression_calls a p (each_front P (calls_of a) (calls_of b) h)) (allows_join P (expression_code q b) _ (expression_calls b q (each_back P (calls_of a) (calls_of b) h)) tt)
    expression_calls (Or a b) p h =
        let q = p + length (expression_code p a) + 1 in
        allows_join P (expression_code p a) _ (expression_calls a p (each_front P (calls_of a) (calls_of b) h)) (allows_join P (expression_code q b) _ (expression_calls b q (each_back P (calls_of a) (calls_of b) h)) tt)
    expression_calls (Choose t a b) p h =
        let q = p + length (expression_code p t) + 1 in
        let r = q + length (expression_code q a) + 1 in
        let first = each_front P (calls_of t ++ calls_of a) (calls_of b) h in
        allows_join P (expression_code p t) _ (expression_calls t p (each_front P (calls_of t) (calls_of a) first))
        (allows_join P (expression_code q a) _ (expression_calls a q (each_back P (calls_of t) (calls_of a) first)) (expression_calls b r (each_back P (calls_of t ++ calls_of a) (calls_of b) h)))
    expression_calls (Call f args) p h = allows_join P (expressions_code p args) _ (expressions_call args p h.1) (h.0, tt)

    expressions_call : (xs : Exprs) (p : ℕ) → Each P (calls_in xs) → Allows P (expressions_code p xs)
    expressions_call no_exprs p h = tt
    expressions_call (more_exprs x rest) p h =
        allows_join P (expression_code p x) _ (expression_calls x p (each_front P (calls_of x) (calls_in rest) h)) (expressions_call rest (p + length (expression_code p x)) (each_back P (calls_of x) (calls_in rest) h))

  fill_calls : (n : Option ℕ) (w : ℕ) → Allows P (fill_code n w)
  fill_calls None w = tt
  fill_calls (Some n) w = tt

  turn_calls : (n : Option ℕ) (w : ℕ) (place : _) → Allows P (turn_code n w place)
  turn_calls None w place = tt
  turn_calls (Some n) w place = tt

  module _ (ts : List PlainThread) (z : TermScope) where
    mutual
      -- of a function's statements
      statement_calls : (x : Stmt) (a : Around) (p : ℕ) → FineStmt true z x → Each P (stmt_calls x) → Allows P (statement_code ts a p x)
      statement_calls Nop a p ok h = tt
      statement_calls (Set (spot.Local x) e) a p ok h = allows_join P (expression_code p e) _ (expression_calls e p h) tt
      statement_calls (Set (spot.Variable v) e) a p ok h = allows_join P (expression_code p e) _ (expression_calls e p h) tt
      statement_calls (SetAt x n i e place) a p ok h =
          let q = p + length (expression_code p i) in
          allows_join P (expression_code p i) _ (expression_calls i p (each_front P (calls_of i) (calls_of e) h)) (allows_join P (expression_code q e) _ (expression_calls e q (each_back P (calls_of i) (calls_of e) h)) tt)
      statement_calls (PutAt v n i e place) a p ok h =
          let q = p + length (expression_code p i) in
          allows_join P (expression_code p i) _ (expression_calls i p (each_front P (calls_of i) (calls_of e) h)) (allows_join P (expression_code q e) _ (expression_calls e q (each_back P (calls_of i) (calls_of e) h)) tt)
      statement_calls (Clear x n) a p ok h = tt
      statement_calls (Seq list) a p ok h = statements_call list a p ok h
      statement_calls (If e x y) a p ok h =
          let q = p + length (expression_code p e) + 1 in
          let r = q + length (statement_code ts a q x) + 1 in
          let first = each_front P (calls_of e ++ stmt_calls x) (stmt_calls y) h in
          allows_join P (expression_code p e) _ (expression_calls e p (each_front P (calls_of e) (stmt_calls x) first))
          (allows_join P (statement_code ts a q x) _ (statement_calls x a q ok.1 (each_back P (calls_of e) (stmt_calls x) first)) (statement_calls y a r ok.2 (each_back P (calls_of e ++ stmt_calls x) (stmt_calls y) h)))
      statement_calls (While e n x place) a p ok h =
          let fill = fill_code n (loops a) in
          let turn = turn_code n (loops a) place in
          let b = p + length fill + length (expression_code (p + length fill) e) + 1 + length turn in
          allows_join P fill _ (fill_calls n (loops a))
          (allows_join P (expression_code (p + length fill) e) _ (expression_calls e (p + length fill) (each_front P (calls_of e) (stmt_calls x) h))
          (allows_join P turn _ (turn_calls n (loops a) place)
          (allows_join P (statement_code ts (inner n a) b x) _ (statement_calls x (inner n a) b ok.2 (each_back P (calls_of e) (stmt_calls x) h)) tt)))
      statement_calls Pause a p ok h = let no : false ≡ true = ok in cc
      statement_calls (Par bs) a p ok h = let no : false ≡ true = ok.0 in cc
      statement_calls (Enter weak immediate e x) a p ok h = let no : false ≡ true = ok.0 in cc
      statement_calls (Return e) a p ok h = allows_join P (expression_code p e) _ (expression_calls e p h) tt

      statements_call : (list : Stmts) (a : Around) (p : ℕ) → FineStmts true z list → Each P (stmts_calls list) → Allows P (statements_code ts a p list)
      statements_call no_stmts a p ok h = tt
      statements_call (more_stmts x rest) a p ok h =
          allows_join P (statement_code ts a p x) _ (statement_calls x a p ok.0 (each_front P (stmt_calls x) (stmts_calls rest) h)) (statements_call rest a (p + length (statement_code ts a p x)) ok.1 (each_back P (stmt_calls x) (stmts_calls rest) h))

module _ (k : PlainKernel) (fine : WellFormed k) where
  steps_are : (f : ℕ) → f < length k.functions → steps_of (kernel_code k).functions f ≡ (function_block k f (function_body k f)).steps
  steps_are f lt =
      let z : 0 + f ≡ f = omega arith in
      ap (λ (b : PlainBlock). b.steps) (get_or_from_slice_get (kernel_code k).functions f (function_block k (0 + f) (function_body k f)) _ (block_at (function_block k) 0 k.functions f lt) ∙ ap (λ n. function_block k n (function_body k f)) z)

  -- what is deep enough for the kernel is so for its code
  pub within : (n f : ℕ) → f < length k.functions → deep k n f ≡ true → deep_within (kernel_code k).functions n f ≡ true
  within zero f lt h = cc
  within (suc n) f lt h =
      let function = fine.each_function f lt in
      let body = function_body k f in
      let z : TermScope = record { kernel = k; words = function_words k.shape.functions f; uses = [] } in
      let named = statement_named z true body function.body in
      let calls = each_test (deep k n) (stmt_calls body) h in
      let good = each_map (λ g. (g < length k.functions) × (deep k n g ≡ true)) (λ g. deep_within (kernel_code k).functions n g ≡ true) (λ g p. within n g p.0 p.1) (stmt_calls body) (each_both _ _ (stmt_calls body) named calls) in
      let code = statement_calls (λ g. deep_within (kernel_code k).functions n g ≡ true) k.shape.threads z body Outside 0 function.body good in
      let all = allows_join (λ g. deep_within (kernel_code k).functions n g ≡ true) (statement_code k.shape.threads Outside 0 body) (instruction.Quiet (pos 0) ∷ instruction.Return ∷ []) code tt in
      ap (λ is. list_all (deep_within (kernel_code k).functions n) (called_functions is)) (steps_are f lt) ∙ test_each (deep_within (kernel_code k).functions n) (called_functions (function_block k f body).steps) all
