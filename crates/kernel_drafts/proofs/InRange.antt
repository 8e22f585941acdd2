-- Each call of the kernel of a text without faults is of a function that there is.
use Rattle.std.proofs.Common.{ℕ, zero, suc, ◌+◌, ◌<◌, ◌≤◌, ◌≡◌, ◌∙◌, ◌==◌, sym, ap, refl, subst, ◌⊎◌, inl, inr, ⊎_elim, Bool, true, false, cond, nat_lt, Option, Some, None, List, [], ◌∷◌, ◌++◌, append_assoc, length, get_or, arith}
use Rattle.std.proofs.lemmas.Bool.Decides.{nat_tests}
use Rattle.forec_tree.specs.Terms.{Text}
use Rattle.forec_kernel.specs.Terms.{Expr, Num, Local, LocalAt, Var, SharedAt, TableAt, Un, Bin, And, Or, Choose, Call, Exprs, no_exprs, more_exprs, Branch, Stmt, Nop, Set, SetAt, PutAt, Clear, Seq, If, While, Pause, Par, Enter, Return, Stmts, no_stmts, more_stmts}
use Rattle.forec_kernel.specs.Shapes.{PlainKernel}
use Rattle.forec_kernel.specs.Combining.{contains, variable_of}
use Rattle.forec_kernel.specs.Texts.{body_of, uses_of, words_of}
use Rattle.forec_kernel.specs.WellFormed.{TermScope, FineExpr, FineExprs, FineBranches, FineStmt, FineStmts, calls_of, calls_in, branch_calls, stmt_calls, stmts_calls, pars_of, users, combine_calls, par_calls, thread_calls, function_body, count_up}
use Rattle.loop_check.proofs.IndexLemmas.{split}
use Rattle.text_kernel.specs.Kernels.{kernel_of, root, variable_count}
use Rattle.kernel_drafts.specs.Measures.{CallsLow}
use Rattle.text_kernel.proofs.Called.{in_two}
use Rattle.text_kernel.proofs.Fields as fields
use Rattle.text_kernel.proofs.Forks.{at}
use Rattle.text_kernel.proofs.Faultless.{Clean, void_clean}
use Rattle.text_kernel.proofs.Functions.{int_function, int_at, function_low, body_of_function, body_fine, variable_fine}
use Rattle.text_kernel.proofs.Main.{main_fine}
use Rattle.text_kernel.proofs.Whole.{main_runs, made_fine}

module _ (s : TermScope) (g : ℕ) where
  abbrev Low : Type 0
  Low = g < length s.kernel.functions

  two : (xs ys : List ℕ) → (contains g xs ≡ true → Low) → (contains g ys ≡ true → Low) → contains g (xs ++ ys) ≡ true → Low
  two xs ys h k i = ⊎_elim h k (in_two g xs ys i)

  none : {P : Type 0} → contains g [] ≡ true → P
  none i = absurd (let q : false ≡ true = i in cc)

  first : (f : ℕ) (xs : List ℕ) → f < length s.kernel.functions → (contains g xs ≡ true → Low) → contains g (f ∷ xs) ≡ true → Low
  first f xs l h i = split (f == g) (λ e. (let q : f ≡ g = grind (arith, nat_tests) in omega (arith, l, q))) (λ e. h (sym (ap (λ c. cond c true (contains g xs)) e) ∙ i))

  mutual
    expr_low : (e : Expr) → FineExpr s e → contains g (calls_of e) ≡ true → Low
    expr_low (Num n) h i = none i
    expr_low (Local slot) h i = none i
    expr_low (LocalAt slot n x place) h i = expr_low x h.1 i
    expr_low (SharedAt v n x place) h i = expr_low x h.1 i
    expr_low (Var v) h i = none i
    expr_low (TableAt t x place) h i = expr_low x h.1 i
    expr_low (Un op a) h i = expr_low a h i
    expr_low (Bin op a b place) h i = two (calls_of a) (calls_of b) (expr_low a h.1) (expr_low b h.2) i
    expr_low (And a b) h i = two (calls_of a) (calls_of b) (expr_low a h.0) (expr_low b h.1) i
    expr_low (Or a b) h i = two (calls_of a) (calls_of b) (expr_low a h.0) (expr_low b h.1) i
    expr_low (Choose t a b) h i = two (calls_of t ++ calls_of a) (calls_of b) (two (calls_of t) (calls_of a) (expr_low t h.0) (expr_low a h.1)) (expr_low b h.2) i
    expr_low (Call f args) h i = first f (calls_in args) h.0 (exprs_low args h.2) i

    exprs_low : (es : Exprs) → FineExprs s es → contains g (calls_in es) ≡ true → Low
    exprs_low no_exprs h i = none i
    exprs_low (more_exprs e es) h i = two (calls_of e) (calls_in es) (expr_low e h.0) (exprs_low es h.1) i

  branches_low : (bs : List Branch) → FineBranches s bs → contains g (branch_calls bs) ≡ true → Low
  branches_low [] h i = none i
  branches_low (b ∷ bs) h i = two (calls_in b.args) (branch_calls bs) (exprs_low b.args h.0.args) (branches_low bs h.1) i

  module _ (f : Bool) where
    mutual
      pub stmt_low : (a : Stmt) → FineStmt f s a → contains g (stmt_calls a) ≡ true → Low
      stmt_low Nop h i = none i
      stmt_low (Set to e) h i = expr_low e h.1 i
      stmt_low (SetAt slot n x e place) h i = two (calls_of x) (calls_of e) (expr_low x h.1) (expr_low e h.2) i
      stmt_low (PutAt v n x e place) h i = two (calls_of x) (calls_of e) (expr_low x h.1) (expr_low e h.2) i
      stmt_low (Clear slot n) h i = none i
      stmt_low (Seq list) h i = stmts_low list h i
      stmt_low (If e a b) h i = two (calls_of e ++ stmt_calls a) (stmt_calls b) (two (calls_of e) (stmt_calls a) (expr_low e h.0) (stmt_low a h.1)) (stmt_low b h.2) i
      stmt_low (While e bound body place) h i = two (calls_of e) (stmt_calls body) (expr_low e h.1) (stmt_low body h.2) i
      stmt_low Pause h i = none i
      stmt_low (Par bs) h i = branches_low bs h.2 i
      stmt_low (Enter weak immediate e body) h i = two (calls_of e) (stmt_calls body) (expr_low e h.1) (stmt_low body h.2) i
      stmt_low (Return e) h i = expr_low e h.1 i

      stmts_low : (list : Stmts) → FineStmts f s list → contains g (stmts_calls list) ≡ true → Low
      stmts_low no_stmts h i = none i
      stmts_low (more_stmts a rest) h i = two (stmt_calls a) (stmts_calls rest) (stmt_low a h.0) (stmts_low rest h.1) i

-- ---- the combine functions that a thread's pars can call

module _ (k : PlainKernel) (g : ℕ) (combines : (v : ℕ) → (variable_of k v).combine ≡ Some g → g < length k.functions) where
  combine_low : (threads vs : List ℕ) → contains g (combine_calls k threads vs) ≡ true → g < length k.functions
  combine_low threads [] i = absurd (let q : false ≡ true = i in cc)
  combine_low threads (v ∷ vs) i = pick (variable_of k v).combine refl (nat_lt 1 (users k threads v)) i (combine_low threads vs)
    where
      pick : (o : Option ℕ) → (variable_of k v).combine ≡ o → (many : Bool) →
          contains g (elim o [ None ↦ combine_calls k threads vs | Some f ↦ cond many (f ∷ combine_calls k threads vs) (combine_calls k threads vs) ]) ≡ true →
          (contains g (combine_calls k threads vs) ≡ true → g < length k.functions) → g < length k.functions
      pick None e many i h = h i
      pick (Some f) e false i h = h i
      pick (Some f) e true i h =
          split (f == g) (λ d. (let q : f ≡ g = grind (arith, nat_tests) in combines v (e ∙ ap Some q))) (λ d. h (sym (ap (λ c. cond c true (contains g (combine_calls k threads vs))) d) ∙ i))

  pars_low : (uses : List ℕ) (pars : List (List ℕ)) → contains g (par_calls k uses pars) ≡ true → g < length k.functions
  pars_low uses [] i = absurd (let q : false ≡ true = i in cc)
  pars_low uses (threads ∷ rest) i = ⊎_elim (combine_low threads uses) (pars_low uses rest) (in_two g (combine_calls k threads uses) (par_calls k uses rest) i)

  pub thread_low : (f : Bool) (s : TermScope) (t : ℕ) → length s.kernel.functions ≡ length k.functions → FineStmt f s (body_of k t) → contains g (thread_calls k t) ≡ true → g < length k.functions
  thread_low f s t same fine i =
      ⊎_elim (λ j. (let l = stmt_low s g f (body_of k t) fine j in omega (arith, l, same))) (pars_low (uses_of k t) (pars_of (body_of k t))) (in_two g (stmt_calls (body_of k t)) (par_calls k (uses_of k t) (pars_of (body_of k t))) i)

-- ---- the kernel of a text

module _ (text : Text) (names : List (List ℕ)) (clean : Clean text names) where
  abbrev k : PlainKernel
  k = kernel_of text names

  variable_past : (vs : List Rattle.forec_kernel.specs.declared.shape.Variable.Variable) (v g : ℕ) → length vs ≤ v →
      (get_or vs v (record { policy = Rattle.forec_base.specs.declared.Policy.TheVariants.Mod; combine = None; start = Rattle.std.proofs.Common.pos 0; input = false })).combine ≡ Some g → ⊥
  variable_past [] zero g l e = cc
  variable_past [] (suc v) g l e = cc
  variable_past (x ∷ vs) zero g l e = absurd (omega arith)
  variable_past (x ∷ vs) (suc v) g l e = variable_past vs v g (omega arith) e

  split_low : {P : Type 0} (f n : ℕ) → (f < n → P) → (n ≤ f → P) → P
  split_low f n low high = split (nat_lt f n) (λ e. low (grind (arith, nat_tests))) (λ e. high (grind (arith, nat_tests)))

  combines : (g v : ℕ) → (variable_of k v).combine ≡ Some g → g < length k.functions
  combines g v e =
      split_low v (length k.shape.variables) (λ l. (let f = (variable_fine text names clean v l).combine g e in f.0)) (λ l. absurd (variable_past k.shape.variables v g l e))

  functions_low : (f g : ℕ) → f < length k.functions → contains g (stmt_calls (function_body k f)) ≡ true → g < length k.functions
  functions_low f g l i =
      let low = function_low text names f l in
      let at = int_at text names text f low in
      let own = int_function text names f in
      stmt_low (record { kernel = k; words = (Rattle.text_kernel.specs.Kernels.lowered_function_body text names own).next.slot; uses = [] }) g true (Rattle.text_kernel.specs.Lowering.sequence (Rattle.text_kernel.specs.Kernels.lowered_function_body text names own).list)
      (body_fine text names clean own at.member at.gives) (sym (ap (λ x. contains g (stmt_calls x)) (body_of_function text names f low)) ∙ i)

  threads_low : (t g : ℕ) → t < length k.threads → contains g (thread_calls k t) ≡ true → g < length k.functions
  threads_low zero g l i =
      thread_low k g (combines g) false (record { kernel = k; words = words_of k 0; uses = uses_of k 0 }) 0 refl (main_fine text names clean (void_clean text names clean) (main_runs text names clean)) i
  threads_low (suc n) g l i =
      let low = fields.made_count text names n l in
      let made = at (root text names).made n in
      thread_low k g (combines g) false (record { kernel = k; words = made.words; uses = count_up 0 (variable_count text names) }) (suc n) refl
      (subst (FineStmt false (record { kernel = k; words = made.words; uses = count_up 0 (variable_count text names) })) (sym (fields.made_body text names n low)) (made_fine text names clean n low).body) i

  pub calls_low : CallsLow k
  calls_low = record { functions = functions_low; threads = threads_low }
