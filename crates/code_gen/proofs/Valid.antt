-- The code of a kernel is valid.
use Rattle.std.proofs.Common.{◌≡◌, ℕ, ◌+◌, ◌<◌, ◌≤◌, List, [], ◌∷◌, ◌++◌, length, Option, Some, None, true, false, refl, sym, ap, ◌∙◌, subst, arith, length-append}
use Rattle.std.specs.Prelude.{pos, slice_get}
use Rattle.std.proofs.lemmas.Option.{slice_get_within}
use Rattle.forec_kernel.specs.Terms.{Branch, Stmt, Nop, Set, SetAt, PutAt, Clear, Seq, If, While, Pause, Par, Enter, Return, Stmts, no_stmts, more_stmts}
use Rattle.forec_kernel.specs.Shapes.{PlainKernel}
use Rattle.forec_kernel.specs.Values.{function_words}
use Rattle.forec_kernel.specs.Texts.{params_in, words_in, body_of}
use Rattle.forec_kernel.specs.Combining.{contains}
use Rattle.forec_kernel.specs.WellFormed.{TermScope, FineStmt, FineStmts, FinePar, threads_in, pars_of, pars_in, function_body, WellFormed}
use Rattle.thread_code.specs.declared.instruction.Instruction.TheVariants as instruction
use Rattle.thread_code.specs.Plain.{PlainBlock}
use Rattle.thread_code.specs.Valid.{HasDepth, arguments_of, function_arguments, IsBlock, IsSound, thread_scope, function_scope, deep_within, IsValidCode}
use Rattle.thread_code.proofs.AllFine.{valid_all, fine_join}
use Rattle.thread_code.proofs.KernelShape.{shape_is_fine}
use Rattle.code_gen.specs.Statements.{Outside, statement_code}
use Rattle.code_gen.specs.Blocks.{thread_block, function_block, kernel_code, counters_in, flags_in, flags_of}
use Rattle.code_gen.proofs.Stretch.{HasAt, has_front, has_all}
use Rattle.code_gen.proofs.BlockLemmas.{blocks_length, block_at}
use Rattle.code_gen.proofs.Each.{Each, each_front, each_back}
use Rattle.code_gen.proofs.Calls.{each_deep}
use Rattle.code_gen.proofs.CalledFunctions.{within}
use Rattle.code_gen.proofs.Kernels.{body_fits, each_par}
use Rattle.code_gen.proofs.MachinePoints.{BranchesFit, StatementFits, StatementsFit}
use Rattle.code_gen.proofs.Depths.{count_all, statement_depths, statement_length}
use Rattle.code_gen.proofs.FineExpressions.{back_at}
use Rattle.code_gen.proofs.FineStatements.{First, statement_first, ParsFine, AllParsFine, statement_fine}

-- ---- pars

same_arity : (k : PlainKernel) (bs : List Branch) → BranchesFit k bs → arguments_of k.shape (threads_in bs) ≡ count_all bs
same_arity k [] h = refl
same_arity k (b ∷ bs) h = omega (arith, h.1, same_arity k bs h.2)

no_threads_in : (bs : List Branch) → threads_in bs ≡ [] → bs ≡ []
no_threads_in [] h = refl
no_threads_in (b ∷ bs) h = cc

module _ (k : PlainKernel) (t : ℕ) (b : PlainBlock) (depths : List ℕ) where
  mutual
    pars_fine : (x : Stmt) → StatementFits k x → Each (FinePar k t) (pars_of x) → ParsFine k (Some t) b depths x
    pars_fine Nop h p = tt
    pars_fine (Set to e) h p = tt
    pars_fine (SetAt x n i e place) h p = tt
    pars_fine (PutAt v n i e place) h p = tt
    pars_fine (Clear x n) h p = tt
    pars_fine (Seq list) h p = all_pars_fine list h p
    pars_fine (If e x y) h p = (pars_fine x h.1 (each_front (FinePar k t) (pars_of x) (pars_of y) p), pars_fine y h.2 (each_back (FinePar k t) (pars_of x) (pars_of y) p))
    pars_fine (While e bound body place) h p = pars_fine body h.1 p
    pars_fine Pause h p = tt
    pars_fine (Par bs) h p =
        let par = p.0 in
        record {
          is_par = record {
            owner = t;
            is = refl;
            some = λ e. h.some (no_threads_in bs (sym h.named ∙ e));
            parent = λ n m. par.parent n (ap (contains n) (sym h.named) ∙ m);
          };
          arity = ap (arguments_of k.shape) h.named ∙ same_arity k bs h.args;
        }
    pars_fine (Enter weak immediate e body) h p = pars_fine body h.1 p
    pars_fine (Return e) h p = tt

    all_pars_fine : (list : Stmts) → StatementsFit k list → Each (FinePar k t) (pars_in list) → AllParsFine k (Some t) b depths list
    all_pars_fine no_stmts h p = tt
    all_pars_fine (more_stmts x rest) h p = (pars_fine x h.0 (each_front (FinePar k t) (pars_of x) (pars_in rest) p), all_pars_fine rest h.1 (each_back (FinePar k t) (pars_of x) (pars_in rest) p))

-- ---- int functions have no pars and no flags

module _ (k : PlainKernel) (z : TermScope) (b : PlainBlock) (depths : List ℕ) where
  mutual
    no_pars : (x : Stmt) → FineStmt true z x → ParsFine k None b depths x
    no_pars Nop h = tt
    no_pars (Set to e) h = tt
    no_pars (SetAt x n i e place) h = tt
    no_pars (PutAt v n i e place) h = tt
    no_pars (Clear x n) h = tt
    no_pars (Seq list) h = none_have_pars list h
    no_pars (If e x y) h = (no_pars x h.1, no_pars y h.2)
    no_pars (While e bound body place) h = no_pars body h.2
    no_pars Pause h = tt
    no_pars (Par bs) h = let no : false ≡ true = h.0 in cc
    no_pars (Enter weak immediate e body) h = no_pars body h.2
    no_pars (Return e) h = tt

    none_have_pars : (list : Stmts) → FineStmts true z list → AllParsFine k None b depths list
    none_have_pars no_stmts h = tt
    none_have_pars (more_stmts x rest) h = (no_pars x h.0, none_have_pars rest h.1)

mutual
  no_flags : (z : TermScope) (x : Stmt) → FineStmt true z x → flags_in x ≡ 0
  no_flags z Nop h = refl
  no_flags z (Set to e) h = refl
  no_flags z (SetAt x n i e place) h = refl
  no_flags z (PutAt v n i e place) h = refl
  no_flags z (Clear x n) h = refl
  no_flags z (Seq list) h = none_have_flags z list h
  no_flags z (If e x y) h = omega (arith, no_flags z x h.1, no_flags z y h.2)
  no_flags z (While e bound body place) h = no_flags z body h.2
  no_flags z Pause h = refl
  no_flags z (Par bs) h = refl
  no_flags z (Enter weak immediate e body) h = let no : false ≡ true = h.0 in cc
  no_flags z (Return e) h = refl

  none_have_flags : (z : TermScope) (list : Stmts) → FineStmts true z list → flags_of list ≡ 0
  none_have_flags z no_stmts h = refl
  none_have_flags z (more_stmts x rest) h = omega (arith, no_flags z x h.0, none_have_flags z rest h.1)

-- ---- blocks

-- the first depth where an instruction follows
lead_zero : (ds rest : List ℕ) → First ds → slice_get (ds ++ 0 ∷ rest) 0 ≡ Some 0
lead_zero [] rest h = refl
lead_zero (d ∷ ds) rest h = ap Some h

module _ (k : PlainKernel) (fine : WellFormed k) where
  thread_sound : (t : ℕ) → t < length k.threads → IsSound (thread_scope (kernel_code k) t) (thread_block k t (body_of k t))
  thread_sound t lt =
      let thread = fine.each_thread t lt in
      let x = body_of k t in
      let b = thread_block k t x in
      let c = statement_code k.shape.threads Outside 0 x in
      let sd = statement_depths [] [] x in
      let depths = sd ++ 0 ∷ [] in
      let long : length sd ≡ length c = statement_length k.shape.threads x Outside 0 [] [] refl refl in
      let code : HasAt b.steps 0 (c ++ instruction.End ∷ []) = has_all (c ++ instruction.End ∷ []) [] in
      let has : HasAt depths 0 (sd ++ 0 ∷ []) = has_all (sd ++ 0 ∷ []) [] in
      let end = back_at depths 0 sd (0 ∷ []) (length c) long has in
      let lo : 0 + counters_in x ≤ counters_in x = omega arith in
      let fl : 0 + flags_in x ≤ flags_in x = omega arith in
      record {
        depths = depths;
        valid = valid_all (thread_scope (kernel_code k) t) b depths (omega (arith, long, length-append sd (0 ∷ []), length-append c (instruction.End ∷ []))) (lead_zero sd [] (statement_first x [] []))
            (fine_join (thread_scope (kernel_code k) t) b depths 0 c (instruction.End ∷ []) sd (0 ∷ [])
            (statement_fine k (Some t) b depths x Outside 0 false [] [] tt thread.body (pars_fine k t b depths x (body_fits k fine t lt) (each_par k fine t (pars_of x) thread.pars)) tt lo fl refl refl (has_front b.steps 0 c _ code) (has_front depths 0 sd _ has) end.0)
            (refl, tt));
      }

  function_sound : (f : ℕ) → f < length k.functions → IsSound (function_scope (kernel_code k)) (function_block k f (function_body k f))
  function_sound f lt =
      let function = fine.each_function f lt in
      let x = function_body k f in
      let z : TermScope = record { kernel = k; words = function_words k.shape.functions f; uses = [] } in
      let b = function_block k f x in
      let c = statement_code k.shape.threads Outside 0 x in
      let tail = instruction.Quiet (pos 0) ∷ instruction.Return ∷ [] in
      let sd = statement_depths [] [] x in
      let depths = sd ++ 0 ∷ 1 ∷ [] in
      let long : length sd ≡ length c = statement_length k.shape.threads x Outside 0 [] [] refl refl in
      let code : HasAt b.steps 0 (c ++ tail) = has_all (c ++ tail) [] in
      let has : HasAt depths 0 (sd ++ 0 ∷ 1 ∷ []) = has_all (sd ++ 0 ∷ 1 ∷ []) [] in
      let end = back_at depths 0 sd (0 ∷ 1 ∷ []) (length c) long has in
      let lo : 0 + counters_in x ≤ counters_in x = omega arith in
      let fl : 0 + flags_in x ≤ 0 = omega (arith, no_flags z x function.body) in
      let one : 1 ≡ 0 + 1 = omega arith in
      record {
        depths = depths;
        valid = valid_all (function_scope (kernel_code k)) b depths (omega (arith, long, length-append sd (0 ∷ 1 ∷ []), length-append c tail)) (lead_zero sd (1 ∷ []) (statement_first x [] []))
            (fine_join (function_scope (kernel_code k)) b depths 0 c tail sd (0 ∷ 1 ∷ [])
            (statement_fine k None b depths x Outside 0 true [] [] tt function.body (no_pars k z b depths x function.body) tt lo fl refl refl (has_front b.steps 0 c _ code) (has_front depths 0 sd _ has) end.0)
            (subst (λ n. HasDepth depths (0 + length c + 1) n) one end.1.0, ((refl, omega arith), tt)));
      }

  block_is : (a b : PlainBlock) → Some a ≡ Some b → a ≡ b
  block_is a b e = ap (λ (x : Option PlainBlock). elim x as (λ y. PlainBlock) [ Some y ↦ y | None ↦ a ]) e

  each_thread : (t : ℕ) (b : PlainBlock) → slice_get (kernel_code k).threads t ≡ Some b → IsBlock (thread_scope (kernel_code k) t) (params_in k.shape.threads t) (words_in k.shape.threads t) b
  each_thread t b h =
      let lt : t < length k.threads = omega (arith, slice_get_within (kernel_code k).threads t b h, blocks_length (thread_block k) 0 k.threads) in
      let z : 0 + t ≡ t = omega arith in
      let is : b ≡ thread_block k t (body_of k t) = block_is b _ (sym h ∙ block_at (thread_block k) 0 k.threads t lt ∙ ap (λ n. Some (thread_block k n (body_of k t))) z) in
      subst (IsBlock (thread_scope (kernel_code k) t) (params_in k.shape.threads t) (words_in k.shape.threads t)) (sym is)
      (record { same = refl; enough = omega arith; sound = thread_sound t lt })

  each_function : (f : ℕ) (b : PlainBlock) → slice_get (kernel_code k).functions f ≡ Some b → IsBlock (function_scope (kernel_code k)) (function_arguments (kernel_code k) f) (function_words k.shape.functions f) b
  each_function f b h =
      let lt : f < length k.functions = omega (arith, slice_get_within (kernel_code k).functions f b h, blocks_length (function_block k) 0 k.functions) in
      let z : 0 + f ≡ f = omega arith in
      let is : b ≡ function_block k f (function_body k f) = block_is b _ (sym h ∙ block_at (function_block k) 0 k.functions f lt ∙ ap (λ n. Some (function_block k n (function_body k f))) z) in
      subst (IsBlock (function_scope (kernel_code k)) (function_arguments (kernel_code k) f) (function_words k.shape.functions f)) (sym is)
      (record { same = refl; enough = omega arith; sound = function_sound f lt })

  ends : (f : ℕ) → f < length (kernel_code k).functions → deep_within (kernel_code k).functions (length (kernel_code k).functions) f ≡ true
  ends f lt =
      let count = blocks_length (function_block k) 0 k.functions in
      let lt' : f < length k.functions = omega (arith, lt, count) in
      ap (λ n. deep_within (kernel_code k).functions n f) count ∙ within k fine (length k.functions) f lt' (each_deep k 0 fine f lt')

pub kernel_code_valid : (k : PlainKernel) → WellFormed k → IsValidCode (kernel_code k)
kernel_code_valid k fine = record {
  shape = shape_is_fine k fine;
  threads = blocks_length (thread_block k) 0 k.threads ∙ fine.bodies;
  functions = blocks_length (function_block k) 0 k.functions ∙ fine.functions;
  each_thread = each_thread k fine;
  each_function = each_function k fine;
  ends = ends k fine;
}
