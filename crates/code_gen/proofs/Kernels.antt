-- What a kernel's condition says of its threads: their statements fit their code.
use Rattle.std.proofs.Common.{◌≡◌, ℕ, zero, suc, ◌+◌, ◌<◌, ◌≤◌, ◌==◌, List, [], ◌∷◌, ◌++◌, length, Option, Some, None, Bool, true, false, cond, refl, sym, ap, ◌∙◌, subst, arith, get_or, ⊎_elim}
use Rattle.std.specs.Prelude.{◌≢◌}
use Rattle.std.proofs.lemmas.Bool.{cases_lt}
use Rattle.std.proofs.lemmas.Bool.Decides.{nat_tests}
use Rattle.forec_kernel.specs.Terms.{Expr, Branch, Stmt, Nop, Set, SetAt, PutAt, Clear, Seq, If, While, Pause, Par, Enter, Return, Stmts, no_stmts, more_stmts}
use Rattle.forec_kernel.specs.Shapes.{PlainKernel, PlainThread}
use Rattle.forec_kernel.specs.Texts.{uses_in, params_in, uses_of, words_of, body_of}
use Rattle.forec_kernel.specs.Combining.{contains, variable_of}
use Rattle.forec_kernel.specs.WellFormed.{TermScope, FineExpr, FineStmt, FineStmts, FineBranches, FinePar, WellFormed, distinct, threads_in, pars_of, pars_in, is_par, branches_of, blank_thread, calls_of, calls_in, branch_calls, stmt_calls, stmts_calls}
use Rattle.forec_kernel.specs.declared.shape.Variable.{Variable}
use Rattle.thread_code.specs.Valid.{branches_in}
use Rattle.code_gen.specs.Statements.{par_in, bound_or_zero, par_number}
use Rattle.code_gen.specs.Blocks.{kernel_code}
use Rattle.code_gen.proofs.Each.{Each, each_front, each_back, each_map}
use Rattle.code_gen.proofs.Deep.{deep, statement_named}
use Rattle.code_gen.proofs.Fits.{FitsCall, Fits}
use Rattle.code_gen.proofs.Calls.{fits, all_fit, fits_call, each_deep}
use Rattle.code_gen.proofs.Columns.{Ascends, ascending, not_above}
use Rattle.code_gen.proofs.MachinePoints.{ok, BranchesFit, StatementFits, StatementsFit}

-- ---- the branches of a par

-- a branch has the number of its par
branch_par : (ss : List PlainThread) (t n b : ℕ) → contains b (branches_of ss t n) ≡ true → (i : ℕ) × (b ≡ t + i) × (par_in ss i ≡ Some n)
branch_par [] t n b h = cc
branch_par (s ∷ ss) t n b h = by_par (is_par s.par n) refl h (branch_par ss (suc t) n b)
  where
    is : (p : Option ℕ) → is_par p n ≡ true → p ≡ Some n
    is None e = cc
    is (Some m) e = let same : m ≡ n = grind (arith, nat_tests, e) in ap Some same

    rest : ((i : ℕ) × (b ≡ suc t + i) × (par_in ss i ≡ Some n)) → (i : ℕ) × (b ≡ t + i) × (par_in (s ∷ ss) i ≡ Some n)
    rest r = let e = r.1 in (suc r.0, omega (arith, e), r.2)

    by_first : (x : Bool) → (t == b) ≡ x → s.par ≡ Some n → cond x true (contains b (branches_of ss (suc t) n)) ≡ true → (contains b (branches_of ss (suc t) n) ≡ true → (i : ℕ) × (b ≡ suc t + i) × (par_in ss i ≡ Some n)) → (i : ℕ) × (b ≡ t + i) × (par_in (s ∷ ss) i ≡ Some n)
    by_first true e p h ih = let same : t ≡ b = grind (arith, nat_tests, e) in (0, omega (arith, same), p)
    by_first false e p h ih = rest (ih h)

    by_par : (x : Bool) → is_par s.par n ≡ x → contains b (cond x (t ∷ branches_of ss (suc t) n) (branches_of ss (suc t) n)) ≡ true → (contains b (branches_of ss (suc t) n) ≡ true → (i : ℕ) × (b ≡ suc t + i) × (par_in ss i ≡ Some n)) → (i : ℕ) × (b ≡ t + i) × (par_in (s ∷ ss) i ≡ Some n)
    by_par true e h ih = by_first (t == b) refl (is s.par e) h ih
    by_par false e h ih = rest (ih h)

branches_above : (ss : List PlainThread) (t n z : ℕ) → z < t → Each (λ b. z < b) (branches_of ss t n)
branches_above [] t n z lt = tt
branches_above (s ∷ ss) t n z lt = pick (is_par s.par n) (branches_above ss (suc t) n z (omega (arith, lt)))
  where
    pick : (x : Bool) → Each (λ b. z < b) (branches_of ss (suc t) n) → Each (λ b. z < b) (cond x (t ∷ branches_of ss (suc t) n) (branches_of ss (suc t) n))
    pick true ih = (lt, ih)
    pick false ih = ih

pub branches_ascend : (ss : List PlainThread) (t n : ℕ) → Ascends (branches_of ss t n)
branches_ascend [] t n = tt
branches_ascend (s ∷ ss) t n = pick (is_par s.par n) (branches_ascend ss (suc t) n)
  where
    above : Each (λ b. t < b) (branches_of ss (suc t) n)
    above = branches_above ss (suc t) n t (omega arith)

    pick : (x : Bool) → Ascends (branches_of ss (suc t) n) → Ascends (cond x (t ∷ branches_of ss (suc t) n) (branches_of ss (suc t) n))
    pick true ih = (above, ih)
    pick false ih = ih

ascends_distinct : (xs : List ℕ) → Ascends xs → distinct xs ≡ true
ascends_distinct [] h = refl
ascends_distinct (x ∷ xs) h = ap (λ b. cond b false (distinct xs)) (not_above x xs h.0) ∙ ascends_distinct xs h.1

pub params_is : (ss : List PlainThread) (t : ℕ) → (get_or ss t blank_thread).params ≡ params_in ss t
params_is [] t = refl
params_is (s ∷ ss) zero = refl
params_is (s ∷ ss) (suc t) = params_is ss t

module _ (k : PlainKernel) (fine : WellFormed k) where
  -- the number of a par is that of its first branch
  par_named : (t : ℕ) (bs : List Branch) → bs ≢ [] → FinePar k t (threads_in bs) → branches_in k.shape (par_number k.shape.threads bs) ≡ threads_in bs
  par_named t [] some par = absurd (some refl)
  par_named t (b ∷ bs) some par =
      let self : (b.thread == b.thread) ≡ true = grind (arith, nat_tests) in
      let among : contains b.thread (threads_in (b ∷ bs)) ≡ true = ap (λ x. cond x true (contains b.thread (threads_in bs))) self in
      let r = branch_par k.shape.threads 0 par.number b.thread (ap (contains b.thread) (sym par.are) ∙ among) in
      let i : r.0 ≡ b.thread = (let e = r.1 in omega (arith, e)) in
      let is : par_in k.shape.threads b.thread ≡ Some par.number = ap (par_in k.shape.threads) (sym i) ∙ r.2 in
      ap (λ (x : Option ℕ). branches_of k.shape.threads 0 (bound_or_zero x)) is ∙ sym par.are

  module _ (t : ℕ) (words : ℕ) (uses : List ℕ) where
    abbrev z : TermScope
    z = record { kernel = k; words = words; uses = uses }

    abbrev Ok : ℕ → Type 0
    Ok f = deep k (length k.functions) f ≡ true

    fits_of : (e : Expr) → FineExpr z e → Each Ok (calls_of e) → Fits (kernel_code k) (ok k) e
    fits_of e h d = fits k fine.functions (length k.functions) words uses e h d

    branches_fit : (bs : List Branch) → FineBranches z bs → Each Ok (branch_calls bs) → BranchesFit k bs
    branches_fit [] h d = tt
    branches_fit (b ∷ bs) h d =
        let f = h.0 in
        (all_fit k fine.functions (length k.functions) words uses b.args f.args (each_front Ok (calls_in b.args) (branch_calls bs) d), f.count ∙ params_is k.shape.threads b.thread, branches_fit bs h.1 (each_back Ok (calls_in b.args) (branch_calls bs) d))

    mutual
      pub statement_fits : (x : Stmt) → FineStmt false z x → Each Ok (stmt_calls x) → Each (FinePar k t) (pars_of x) → StatementFits k x
      statement_fits Nop h d p = tt
      statement_fits (Set to e) h d p = fits_of e h.1 d
      statement_fits (SetAt x n i e place) h d p = (fits_of i h.1 (each_front Ok (calls_of i) (calls_of e) d), fits_of e h.2 (each_back Ok (calls_of i) (calls_of e) d))
      statement_fits (PutAt v n i e place) h d p = (fits_of i h.1 (each_front Ok (calls_of i) (calls_of e) d), fits_of e h.2 (each_back Ok (calls_of i) (calls_of e) d))
      statement_fits (Clear x n) h d p = tt
      statement_fits (Seq list) h d p = statements_fit list h d p
      statement_fits (If e a b) h d p =
          let first = each_front Ok (calls_of e ++ stmt_calls a) (stmt_calls b) d in (
            fits_of e h.0 (each_front Ok (calls_of e) (stmt_calls a) first),
            statement_fits a h.1 (each_back Ok (calls_of e) (stmt_calls a) first) (each_front (FinePar k t) (pars_of a) (pars_of b) p),
            statement_fits b h.2 (each_back Ok (calls_of e ++ stmt_calls a) (stmt_calls b) d) (each_back (FinePar k t) (pars_of a) (pars_of b) p),
          )
      statement_fits (While e bound body place) h d p = (fits_of e h.1 (each_front Ok (calls_of e) (stmt_calls body) d), statement_fits body h.2 (each_back Ok (calls_of e) (stmt_calls body) d) p)
      statement_fits Pause h d p = tt
      statement_fits (Par bs) h d p =
          let par = p.0 in
          record {
            named = par_named t bs h.1 par;
            some = h.1;
            apart = ap distinct par.are ∙ ascends_distinct (branches_of k.shape.threads 0 par.number) (branches_ascend k.shape.threads 0 par.number);
            args = branches_fit bs h.2 d;
          }
      statement_fits (Enter weak immediate e body) h d p = (fits_of e h.1 (each_front Ok (calls_of e) (stmt_calls body) d), statement_fits body h.2 (each_back Ok (calls_of e) (stmt_calls body) d) p)
      statement_fits (Return e) h d p = let in_thread : false ≡ true = h.0 in cc

      pub statements_fit : (list : Stmts) → FineStmts false z list → Each Ok (stmts_calls list) → Each (FinePar k t) (pars_in list) → StatementsFit k list
      statements_fit no_stmts h d p = tt
      statements_fit (more_stmts x rest) h d p = (
        statement_fits x h.0 (each_front Ok (stmt_calls x) (stmts_calls rest) d) (each_front (FinePar k t) (pars_of x) (pars_in rest) p),
        statements_fit rest h.1 (each_back Ok (stmt_calls x) (stmts_calls rest) d) (each_back (FinePar k t) (pars_of x) (pars_in rest) p),
      )

  pub each_par : (t : ℕ) (pars : List (List ℕ)) → ((bs : List ℕ) (i : ℕ) → i < length pars → bs ≡ get_or pars i [] → FinePar k t bs) → Each (FinePar k t) pars
  each_par t [] h = tt
  each_par t (bs ∷ pars) h = (h bs 0 (omega arith) refl, each_par t pars (λ cs i lt e. h cs (suc i) (omega (arith, lt)) e))

  -- a thread's body fits its code
  pub body_fits : (t : ℕ) → t < length k.threads → StatementFits k (body_of k t)
  body_fits t lt =
      let thread = fine.each_thread t lt in
      let named = statement_named (record { kernel = k; words = words_of k t; uses = uses_of k t }) false (body_of k t) thread.body in
      let calls = each_map (λ f. f < length k.functions) (λ f. deep k (length k.functions) f ≡ true) (λ f lt. each_deep k t fine f lt) (stmt_calls (body_of k t)) named in
      statement_fits t (words_of k t) (uses_of k t) (body_of k t) thread.body calls (each_par t (pars_of (body_of k t)) thread.pars)

  -- ---- variables

  past_uses : (ss : List PlainThread) (t : ℕ) → length ss ≤ t → uses_in ss t ≡ []
  past_uses [] t le = refl
  past_uses (s ∷ ss) zero le = absurd (omega (arith, le))
  past_uses (s ∷ ss) (suc t) le = past_uses ss t (omega (arith, le))

  pub uses_ascend : (t : ℕ) → Ascends (uses_of k t)
  uses_ascend t =
      ⊎_elim
      (λ lt. let thread = fine.each_thread t lt in ascending (uses_of k t) thread.uses)
      (λ le. subst Ascends (sym (past_uses k.shape.threads t (omega (arith, le, fine.bodies)))) tt)
      (cases_lt t (length k.threads))

  past_variable : (vs : List Variable) (v : ℕ) (d : Variable) → length vs ≤ v → get_or vs v d ≡ d
  past_variable [] v d le = refl
  past_variable (x ∷ vs) zero d le = absurd (omega (arith, le))
  past_variable (x ∷ vs) (suc v) d le = past_variable vs v d (omega (arith, le))

  pub combines : (v f : ℕ) → (variable_of k v).combine ≡ Some f → FitsCall (kernel_code k) (ok k) f 2
  combines v f e =
      ⊎_elim
      (λ lt. let x = fine.each_variable v lt in let c = x.combine f e in fits_call k fine.functions (length k.functions) 0 [] f 2 c.0 (sym c.1) (each_deep k 0 fine f c.0))
      (λ le. let none = ap (λ (x : Variable). x.combine) (past_variable k.shape.variables v _ le) in let no : None ≡ Some f = sym none ∙ e in cc)
      (cases_lt v (length k.shape.variables))
