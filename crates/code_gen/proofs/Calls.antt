-- The blocks of a kernel's int functions give what the functions give, to any depth.
use Rattle.std.proofs.Common.{◌≡◌, ℕ, zero, suc, ◌+◌, ◌<◌, true, false, Option, Some, None, List, [], ◌∷◌, ◌++◌, length, get_or, refl, sym, ap, ◌∙◌, subst, arith}
use Rattle.std.specs.Prelude.{ℤ, pos, replicate}
use Rattle.std.proofs.lemmas.Option.{slice_get_within}
use Rattle.forec_kernel.specs.declared.terms.Spot.TheVariants as spot
use Rattle.forec_kernel.specs.Terms.{Expr, Num, Local, LocalAt, Var, SharedAt, TableAt, Un, Bin, And, Or, Choose, Call, Exprs, no_exprs, more_exprs, Stmt, Nop, Set, SetAt, PutAt, Clear, Seq, If, While, Pause, Par, Enter, Return, Stmts, no_stmts, more_stmts}
use Rattle.forec_kernel.specs.Shapes.{PlainKernel}
use Rattle.forec_kernel.specs.Values.{call_within, fresh_words, function_words}
use Rattle.forec_kernel.specs.WellFormed.{TermScope, FineExpr, FineExprs, FineStmt, FineStmts, calls_of, calls_in, stmt_calls, stmts_calls, function_body, function_params, WellFormed}
use Rattle.thread_code.specs.declared.instruction.Instruction.TheVariants as instruction
use Rattle.thread_code.specs.Plain.{PlainBlock}
use Rattle.thread_code.specs.Machine as machine
use Rattle.thread_code.specs.Machine.{Frame, Own, On}
use Rattle.code_gen.specs.Statements.{Outside, statement_code}
use Rattle.code_gen.specs.Blocks.{function_block, blocks_from, kernel_code}
use Rattle.code_gen.proofs.Stretch.{HasAt, has_all, point, Yields}
use Rattle.code_gen.proofs.Each.{Each, each_front, each_back, each_test}
use Rattle.code_gen.proofs.BlockLemmas.{blocks_length, block_at}
use Rattle.code_gen.proofs.Deep.{deep, statement_named, all_deep}
use Rattle.code_gen.proofs.Fits.{FitsCall, Fits, AllFit, Own_expression, BodyFits, BodiesFit, CallsRun, no_elements}
use Rattle.code_gen.proofs.Functions.{function_does}

module _ (k : PlainKernel) (same : length k.functions ≡ length k.shape.functions) (n : ℕ) (words : ℕ) (uses : List ℕ) where
  abbrev z : TermScope
  z = record { kernel = k; words = words; uses = uses }

  abbrev Ok : ℕ → Type 0
  Ok g = deep k n g ≡ true

  pub fits_call : (f m : ℕ) → f < length k.functions → m ≡ function_params k f → deep k n f ≡ true → FitsCall (kernel_code k) (deep k n) f m
  fits_call f m lt e d = record {
    allowed = d;
    block = function_block k (0 + f) (get_or k.functions f Nop);
    is = block_at (function_block k) 0 k.functions f lt;
    arity = sym e;
  }

  mutual
    pub fits : (e : Expr) → FineExpr z e → Each Ok (calls_of e) → Fits (kernel_code k) (deep k n) e
    fits (Num v) h d = tt
    fits (Local x) h d = tt
    fits (LocalAt x m i place) h d = fits i h.1 d
    fits (Var v) h d = tt
    fits (SharedAt v m i place) h d = fits i h.1 d
    fits (TableAt t i place) h d = fits i h.1 d
    fits (Un op a) h d = fits a h d
    fits (Bin op a b place) h d = (fits a h.1 (each_front Ok (calls_of a) (calls_of b) d), fits b h.2 (each_back Ok (calls_of a) (calls_of b) d))
    fits (And a b) h d = (fits a h.0 (each_front Ok (calls_of a) (calls_of b) d), fits b h.1 (each_back Ok (calls_of a) (calls_of b) d))
    fits (Or a b) h d = (fits a h.0 (each_front Ok (calls_of a) (calls_of b) d), fits b h.1 (each_back Ok (calls_of a) (calls_of b) d))
    fits (Choose t a b) h d =
        let first = each_front Ok (calls_of t ++ calls_of a) (calls_of b) d in
        (fits t h.0 (each_front Ok (calls_of t) (calls_of a) first), fits a h.1 (each_back Ok (calls_of t) (calls_of a) first), fits b h.2 (each_back Ok (calls_of t ++ calls_of a) (calls_of b) d))
    fits (Call f args) h d = (fits_call f _ h.0 h.1 d.0, all_fit args h.2 d.1)

    pub all_fit : (es : Exprs) → FineExprs z es → Each Ok (calls_in es) → AllFit (kernel_code k) (deep k n) es
    all_fit no_exprs h d = tt
    all_fit (more_exprs e rest) h d = (fits e h.0 (each_front Ok (calls_of e) (calls_in rest) d), all_fit rest h.1 (each_back Ok (calls_of e) (calls_in rest) d))

module _ (k : PlainKernel) (same : length k.functions ≡ length k.shape.functions) (n : ℕ) (words : ℕ) where
  abbrev z0 : TermScope
  z0 = record { kernel = k; words = words; uses = [] }

  abbrev Ok0 : ℕ → Type 0
  Ok0 g = deep k n g ≡ true

  own : (e : Expr) → FineExpr z0 e → Each Ok0 (calls_of e) → Own_expression (kernel_code k) (deep k n) z0 e
  own e h d = record { fits = fits k same n words [] e h d; fine = h }

  mutual
    pub body_fits : (s : Stmt) → FineStmt true z0 s → Each Ok0 (stmt_calls s) → BodyFits (kernel_code k) (deep k n) z0 s
    body_fits Nop h d = tt
    body_fits (Set (spot.Local x) e) h d = own e h.1 d
    body_fits (Set (spot.Variable v) e) h d = let no_variable : false ≡ true = h.0 in cc
    body_fits (SetAt x m i e place) h d = (own i h.1 (each_front Ok0 (calls_of i) (calls_of e) d), own e h.2 (each_back Ok0 (calls_of i) (calls_of e) d))
    body_fits (PutAt v m i e place) h d = no_elements k words v m h.0
    body_fits (Clear x m) h d = tt
    body_fits (Seq list) h d = bodies_fit list h d
    body_fits (If e a b) h d =
        let first = each_front Ok0 (calls_of e ++ stmt_calls a) (stmt_calls b) d in
        (own e h.0 (each_front Ok0 (calls_of e) (stmt_calls a) first), body_fits a h.1 (each_back Ok0 (calls_of e) (stmt_calls a) first), body_fits b h.2 (each_back Ok0 (calls_of e ++ stmt_calls a) (stmt_calls b) d))
    body_fits (While e None body place) h d = let no_bound : false ≡ true = h.0 in cc
    body_fits (While e (Some m) body place) h d = (own e h.1 (each_front Ok0 (calls_of e) (stmt_calls body) d), body_fits body h.2 (each_back Ok0 (calls_of e) (stmt_calls body) d))
    body_fits Pause h d = let in_function : false ≡ true = h in cc
    body_fits (Par bs) h d = let in_function : false ≡ true = h.0 in cc
    body_fits (Enter weak immediate e body) h d = let in_function : false ≡ true = h.0 in cc
    body_fits (Return e) h d = own e h.1 d

    pub bodies_fit : (list : Stmts) → FineStmts true z0 list → Each Ok0 (stmts_calls list) → BodiesFit (kernel_code k) (deep k n) z0 list
    bodies_fit no_stmts h d = tt
    bodies_fit (more_stmts s rest) h d = (body_fits s h.0 (each_front Ok0 (stmt_calls s) (stmts_calls rest) d), bodies_fit rest h.1 (each_back Ok0 (stmt_calls s) (stmts_calls rest) d))

module _ (k : PlainKernel) (t : ℕ) (fine : WellFormed k) where
  steps_at : (f : ℕ) → HasAt (function_block k f (function_body k f)).steps 0 (statement_code k.shape.threads Outside 0 (function_body k f) ++ instruction.Quiet (pos 0) ∷ instruction.Return ∷ [])
  steps_at f = has_all (statement_code k.shape.threads Outside 0 (function_body k f) ++ instruction.Quiet (pos 0) ∷ instruction.Return ∷ []) []

  pub calls_run : (n : ℕ) → CallsRun (kernel_code k) t (deep k n) (call_within k n)
  calls_run zero f ok b at args fs o u = cc
  calls_run (suc n) f ok b at args fs o u =
      let lt : f < length k.functions = omega (arith, slice_get_within (blocks_from (function_block k) 0 k.functions) f b at, blocks_length (function_block k) 0 k.functions) in
      let z : 0 + f ≡ f = omega arith in
      let is : Some b ≡ Some (function_block k f (function_body k f)) = sym at ∙ block_at (function_block k) 0 k.functions f lt ∙ ap (λ j. Some (function_block k j (function_body k f))) z in
      let function = fine.each_function f lt in
      given f b args fs o u (block_is b (function_block k f (function_body k f)) is)
      (body_fits k fine.functions n (function_words k.shape.functions f) (function_body k f) function.body (each_test (deep k n) (stmt_calls (function_body k f)) ok))
      (calls_run n)
    where
      block_is : (a b : PlainBlock) → Some a ≡ Some b → a ≡ b
      block_is a b e = ap (λ (x : Option PlainBlock). elim x [ Some y ↦ y | None ↦ a ]) e

      given : (f : ℕ) (b : PlainBlock) (args : List ℤ) (fs : List Frame) (o : Own) (u : ℕ) → b ≡ function_block k f (function_body k f) →
          BodyFits (kernel_code k) (deep k n) (record { kernel = k; words = function_words k.shape.functions f; uses = [] }) (function_body k f) → CallsRun (kernel_code k) t (deep k n) (call_within k n) →
          Yields (kernel_code k) t (On (point b.steps 0 [] (fresh_words args b.words) (replicate b.counters 0)) fs o u) u (λ v w. machine.returned (kernel_code k) t v fs o w) (call_within k (suc n) f args)
      given f b args fs o u is fit run =
          subst (λ (x : PlainBlock). Yields (kernel_code k) t (On (point x.steps 0 [] (fresh_words args x.words) (replicate x.counters 0)) fs o u) u (λ v w. machine.returned (kernel_code k) t v fs o w) (call_within k (suc n) f args)) (sym is)
          (function_does (kernel_code k) t (call_within k n) (deep k n) run k.shape.threads k (function_words k.shape.functions f) (function_block k f (function_body k f)).steps fs o
          (function_body k f) 0 (fresh_words args (function_words k.shape.functions f)) (replicate (function_block k f (function_body k f)).counters 0) u fit refl (steps_at f))

  functions_named : (f : ℕ) → f < length k.functions → Each (λ g. g < length k.functions) (stmt_calls (function_body k f))
  functions_named f lt = let function = fine.each_function f lt in statement_named (record { kernel = k; words = function_words k.shape.functions f; uses = [] }) true (function_body k f) function.body

  pub each_deep : (f : ℕ) → f < length k.functions → deep k (length k.functions) f ≡ true
  each_deep f lt = all_deep k fine.ranked functions_named f lt
