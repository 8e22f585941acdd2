-- The folded kernel is well formed.
use Rattle.std.proofs.Common.{ℕ, zero, suc, ◌+◌, ◌<◌, ◌≤◌, ◌≡◌, ◌≢◌, max, ℤ, Bool, true, false, cond, ◌||◌, nat_lt, Option, Some, None, List, [], ◌∷◌, ◌++◌, length, map, get_or, refl, ap, sym, subst, ◌∙◌, arith, ⊎_elim, append-nil}
use Rattle.std.proofs.lemmas.Bool.{and_parts, and_from, or_cases, or_left, or_right}
use Rattle.std.proofs.lemmas.List.{length-map}
use Rattle.forec_base.specs.declared.limits.TheConstants.{MAX_DEPTH, MAX_THREADS, MAX_FUNCTIONS}
use Rattle.forec_base.specs.Numbers.{is_zero, binary_of}
use Rattle.forec_kernel.specs.declared.terms.Spot.TheVariants as spot
use Rattle.forec_kernel.specs.declared.shape.Variable.{Variable}
use Rattle.forec_kernel.specs.Terms.{Expr, Num, Local, LocalAt, Var, SharedAt, TableAt, Un, Bin, And, Or, Choose, Call, Exprs, no_exprs, more_exprs, count_exprs, Branch, Stmt, Nop, Set, SetAt, PutAt, Clear, Seq, If, While, Pause, Par, Enter, Return, Stmts, no_stmts, more_stmts}
use Rattle.forec_kernel.specs.Shapes.{PlainKernel}
use Rattle.forec_kernel.specs.Values.{function_words}
use Rattle.forec_kernel.specs.Texts.{uses_of, words_of, body_of}
use Rattle.forec_kernel.specs.Combining.{contains, variable_of}
use Rattle.forec_kernel.specs.Weight.{expr_weight, exprs_weight, branches_weight}
use Rattle.forec_kernel.specs.WellFormed.{TermScope, FineExpr, FineExprs, FineBranches, FineStmt, FineStmts, threads_in, pars_of, pars_in, joined_lists, FinePar, calls_of, calls_in, branch_calls, stmt_calls, stmts_calls, returns, some_returns, function_body, users, combine_calls, par_calls, thread_calls, greatest, chain, stmt_terms, stmts_terms, bodies_terms, expr_depth, exprs_depth, branches_depth, stmt_depth, stmts_depth, FineThread, FineChild, FineRoot, FineFunction, Ranked, FineVariable, WellFormed}
use Rattle.fold_laws.specs.Folding.{constant_of, constant_or, unary_number, binary_number, and_number, or_number, chosen_expr, chosen_stmt, fold_expr, fold_exprs, is_nop, unless_nop, in_sequence, never_turns, fold_branches, fold_stmt, fold_stmts, folded_kernel}
use Rattle.fold_laws.proofs.Flows.{is_nop_only, body_folded}
use Rattle.fold_laws.proofs.Subs.{Sub, end, skip, keep, sub_same, sub_none, sub_append, sub_left, sub_right, greatest_sub, contains_sub, distinct_sub, joined_sub, found_sub}

-- ---- calls

number_calls : (o : Option ℤ) (e : Expr) (ys : List ℕ) → Sub (calls_of e) ys → Sub (calls_of (constant_or o e)) ys
number_calls (Some n) e ys s = sub_none ys
number_calls None e ys s = s

either_calls : (b : Bool) (e f : Expr) (ys : List ℕ) → Sub (calls_of e) ys → Sub (calls_of f) ys → Sub (calls_of (cond b e f)) ys
either_calls true e f ys s t = s
either_calls false e f ys s t = t

chosen_calls : (o : Option ℤ) (a b other : Expr) (ys : List ℕ) → Sub (calls_of a) ys → Sub (calls_of b) ys → Sub (calls_of other) ys →
    Sub (calls_of (chosen_expr o a b other)) ys
chosen_calls (Some x) a b other ys s t u = either_calls (is_zero x) b a ys t s
chosen_calls None a b other ys s t u = u

mutual
  expr_calls : (e : Expr) → Sub (calls_of (fold_expr e)) (calls_of e)
  expr_calls (Num n) = end
  expr_calls (Local slot) = end
  expr_calls (LocalAt slot n i place) = expr_calls i
  expr_calls (Var v) = end
  expr_calls (SharedAt v n i place) = expr_calls i
  expr_calls (TableAt t i place) = expr_calls i
  expr_calls (Un op a) = number_calls (unary_number op (constant_of (fold_expr a))) (Un op (fold_expr a)) (calls_of a) (expr_calls a)
  expr_calls (Bin op a b place) =
      number_calls (binary_number (binary_of op) (constant_of (fold_expr a)) (constant_of (fold_expr b))) (Bin op (fold_expr a) (fold_expr b) place) (calls_of a ++ calls_of b)
      (sub_append (calls_of (fold_expr a)) (calls_of a) (calls_of (fold_expr b)) (calls_of b) (expr_calls a) (expr_calls b))
  expr_calls (And a b) =
      number_calls (and_number (constant_of (fold_expr a)) (constant_of (fold_expr b))) (And (fold_expr a) (fold_expr b)) (calls_of a ++ calls_of b)
      (sub_append (calls_of (fold_expr a)) (calls_of a) (calls_of (fold_expr b)) (calls_of b) (expr_calls a) (expr_calls b))
  expr_calls (Or a b) =
      number_calls (or_number (constant_of (fold_expr a)) (constant_of (fold_expr b))) (Or (fold_expr a) (fold_expr b)) (calls_of a ++ calls_of b)
      (sub_append (calls_of (fold_expr a)) (calls_of a) (calls_of (fold_expr b)) (calls_of b) (expr_calls a) (expr_calls b))
  expr_calls (Choose t a b) =
      let ta = calls_of t ++ calls_of a in
      chosen_calls (constant_of (fold_expr t)) (fold_expr a) (fold_expr b) (Choose (fold_expr t) (fold_expr a) (fold_expr b)) (ta ++ calls_of b)
      (sub_left (calls_of (fold_expr a)) ta (calls_of b) (sub_right (calls_of (fold_expr a)) (calls_of t) (calls_of a) (expr_calls a)))
      (sub_right (calls_of (fold_expr b)) ta (calls_of b) (expr_calls b))
      (sub_append (calls_of (fold_expr t) ++ calls_of (fold_expr a)) ta (calls_of (fold_expr b)) (calls_of b)
      (sub_append (calls_of (fold_expr t)) (calls_of t) (calls_of (fold_expr a)) (calls_of a) (expr_calls t) (expr_calls a)) (expr_calls b))
  expr_calls (Call f args) = keep f (calls_in (fold_exprs args)) (calls_in args) (exprs_calls args)

  exprs_calls : (es : Exprs) → Sub (calls_in (fold_exprs es)) (calls_in es)
  exprs_calls no_exprs = end
  exprs_calls (more_exprs e es) =
      sub_append (calls_of (fold_expr e)) (calls_of e) (calls_in (fold_exprs es)) (calls_in es) (expr_calls e) (exprs_calls es)

branches_calls : (bs : List Branch) → Sub (branch_calls (fold_branches bs)) (branch_calls bs)
branches_calls [] = end
branches_calls (b ∷ bs) =
    sub_append (calls_in (fold_exprs b.args)) (calls_in b.args) (branch_calls (fold_branches bs)) (branch_calls bs) (exprs_calls b.args) (branches_calls bs)

-- ---- what a statement has, where the parts of a folded one are among those of the other: its calls, or its pars

module _ (A : Type 0) (of : Stmt → List A) (nop : of Nop ≡ []) where
  part_nop : (ys : List A) → Sub (of Nop) ys
  part_nop ys = subst (λ xs. Sub xs ys) (sym nop) (sub_none ys)

  part_either : (b : Bool) (s r : Stmt) (ys : List A) → Sub (of s) ys → Sub (of r) ys → Sub (of (cond b s r)) ys
  part_either true s r ys h g = h
  part_either false s r ys h g = g

  part_chosen : (o : Option ℤ) (a b other : Stmt) (ys : List A) → Sub (of a) ys → Sub (of b) ys → Sub (of other) ys → Sub (of (chosen_stmt o a b other)) ys
  part_chosen (Some x) a b other ys s t u = part_either (is_zero x) b a ys t s
  part_chosen None a b other ys s t u = u

sequence_calls : (list : Stmts) → stmt_calls (in_sequence list) ≡ stmts_calls list
sequence_calls no_stmts = refl
sequence_calls (more_stmts s no_stmts) = sym (append-nil (stmt_calls s))
sequence_calls (more_stmts s (more_stmts r rest)) = refl

unless_calls : (b : Bool) (s : Stmt) (rest : Stmts) (xs ys : List ℕ) → Sub (stmt_calls s) xs → Sub (stmts_calls rest) ys →
    Sub (stmts_calls (cond b rest (more_stmts s rest))) (xs ++ ys)
unless_calls true s rest xs ys h g = sub_right (stmts_calls rest) xs ys g
unless_calls false s rest xs ys h g = sub_append (stmt_calls s) xs (stmts_calls rest) ys h g

mutual
  pub statement_calls : (s : Stmt) → Sub (stmt_calls (fold_stmt s)) (stmt_calls s)
  statement_calls Nop = end
  statement_calls (Set to e) = expr_calls e
  statement_calls (SetAt slot n i e place) =
      sub_append (calls_of (fold_expr i)) (calls_of i) (calls_of (fold_expr e)) (calls_of e) (expr_calls i) (expr_calls e)
  statement_calls (PutAt v n i e place) =
      sub_append (calls_of (fold_expr i)) (calls_of i) (calls_of (fold_expr e)) (calls_of e) (expr_calls i) (expr_calls e)
  statement_calls (Clear slot n) = end
  statement_calls (Seq list) = subst (λ xs. Sub xs (stmts_calls list)) (sym (sequence_calls (fold_stmts list))) (statements_calls list)
  statement_calls (If e a b) =
      let ea = calls_of e ++ stmt_calls a in
      part_chosen ℕ stmt_calls refl (constant_of (fold_expr e)) (fold_stmt a) (fold_stmt b) (If (fold_expr e) (fold_stmt a) (fold_stmt b)) (ea ++ stmt_calls b)
      (sub_left (stmt_calls (fold_stmt a)) ea (stmt_calls b) (sub_right (stmt_calls (fold_stmt a)) (calls_of e) (stmt_calls a) (statement_calls a)))
      (sub_right (stmt_calls (fold_stmt b)) ea (stmt_calls b) (statement_calls b))
      (sub_append (calls_of (fold_expr e) ++ stmt_calls (fold_stmt a)) ea (stmt_calls (fold_stmt b)) (stmt_calls b)
      (sub_append (calls_of (fold_expr e)) (calls_of e) (stmt_calls (fold_stmt a)) (stmt_calls a) (expr_calls e) (statement_calls a)) (statement_calls b))
  statement_calls (While e bound body place) =
      part_either ℕ stmt_calls refl (never_turns (constant_of (fold_expr e))) Nop (While (fold_expr e) bound (fold_stmt body) place) (calls_of e ++ stmt_calls body)
      (sub_none (calls_of e ++ stmt_calls body))
      (sub_append (calls_of (fold_expr e)) (calls_of e) (stmt_calls (fold_stmt body)) (stmt_calls body) (expr_calls e) (statement_calls body))
  statement_calls Pause = end
  statement_calls (Par branches) = branches_calls branches
  statement_calls (Enter weak immediate e body) =
      sub_append (calls_of (fold_expr e)) (calls_of e) (stmt_calls (fold_stmt body)) (stmt_calls body) (expr_calls e) (statement_calls body)
  statement_calls (Return e) = expr_calls e

  statements_calls : (list : Stmts) → Sub (stmts_calls (fold_stmts list)) (stmts_calls list)
  statements_calls no_stmts = end
  statements_calls (more_stmts s rest) =
      unless_calls (is_nop (fold_stmt s)) (fold_stmt s) (fold_stmts rest) (stmt_calls s) (stmts_calls rest) (statement_calls s) (statements_calls rest)

-- ---- pars

threads_same : (bs : List Branch) → threads_in (fold_branches bs) ≡ threads_in bs
threads_same [] = refl
threads_same (b ∷ bs) = ap (λ xs. b.thread ∷ xs) (threads_same bs)

sequence_pars : (list : Stmts) → pars_of (in_sequence list) ≡ pars_in list
sequence_pars no_stmts = refl
sequence_pars (more_stmts s no_stmts) = sym (append-nil (pars_of s))
sequence_pars (more_stmts s (more_stmts r rest)) = refl

unless_pars : (b : Bool) (s : Stmt) (rest : Stmts) (xs ys : List (List ℕ)) → Sub (pars_of s) xs → Sub (pars_in rest) ys →
    Sub (pars_in (cond b rest (more_stmts s rest))) (xs ++ ys)
unless_pars true s rest xs ys h g = sub_right (pars_in rest) xs ys g
unless_pars false s rest xs ys h g = sub_append (pars_of s) xs (pars_in rest) ys h g

mutual
  pub statement_pars : (s : Stmt) → Sub (pars_of (fold_stmt s)) (pars_of s)
  statement_pars Nop = end
  statement_pars (Set to e) = end
  statement_pars (SetAt slot n i e place) = end
  statement_pars (PutAt v n i e place) = end
  statement_pars (Clear slot n) = end
  statement_pars (Seq list) = subst (λ xs. Sub xs (pars_in list)) (sym (sequence_pars (fold_stmts list))) (statements_pars list)
  statement_pars (If e a b) =
      part_chosen (List ℕ) pars_of refl (constant_of (fold_expr e)) (fold_stmt a) (fold_stmt b) (If (fold_expr e) (fold_stmt a) (fold_stmt b)) (pars_of a ++ pars_of b)
      (sub_left (pars_of (fold_stmt a)) (pars_of a) (pars_of b) (statement_pars a))
      (sub_right (pars_of (fold_stmt b)) (pars_of a) (pars_of b) (statement_pars b))
      (sub_append (pars_of (fold_stmt a)) (pars_of a) (pars_of (fold_stmt b)) (pars_of b) (statement_pars a) (statement_pars b))
  statement_pars (While e bound body place) =
      part_either (List ℕ) pars_of refl (never_turns (constant_of (fold_expr e))) Nop (While (fold_expr e) bound (fold_stmt body) place) (pars_of body)
      (sub_none (pars_of body)) (statement_pars body)
  statement_pars Pause = end
  statement_pars (Par branches) =
      subst (λ xs. Sub (xs ∷ []) (threads_in branches ∷ [])) (sym (threads_same branches)) (sub_same (threads_in branches ∷ []))
  statement_pars (Enter weak immediate e body) = statement_pars body
  statement_pars (Return e) = end

  statements_pars : (list : Stmts) → Sub (pars_in (fold_stmts list)) (pars_in list)
  statements_pars no_stmts = end
  statements_pars (more_stmts s rest) =
      unless_pars (is_nop (fold_stmt s)) (fold_stmt s) (fold_stmts rest) (pars_of s) (pars_in rest) (statement_pars s) (statements_pars rest)

bodies_pars : (bodies : List Stmt) →
    Sub (joined_lists (map joined_lists (map pars_of (map fold_stmt bodies)))) (joined_lists (map joined_lists (map pars_of bodies)))
bodies_pars [] = end
bodies_pars (b ∷ bodies) =
    sub_append (joined_lists (pars_of (fold_stmt b))) (joined_lists (pars_of b)) (joined_lists (map joined_lists (map pars_of (map fold_stmt bodies))))
    (joined_lists (map joined_lists (map pars_of bodies))) (joined_sub (pars_of (fold_stmt b)) (pars_of b) (statement_pars b)) (bodies_pars bodies)

-- ---- sizes

number_weight : (o : Option ℤ) (e : Expr) (n : ℕ) → 1 ≤ n → expr_weight e ≤ n → expr_weight (constant_or o e) ≤ n
number_weight (Some x) e n h g = h
number_weight None e n h g = g

chosen_weight : (o : Option ℤ) (a b other : Expr) (n : ℕ) → expr_weight a ≤ n → expr_weight b ≤ n → expr_weight other ≤ n →
    expr_weight (chosen_expr o a b other) ≤ n
chosen_weight (Some x) a b other n h g i = pick (is_zero x)
  where
    pick : (z : Bool) → expr_weight (cond z b a) ≤ n
    pick true = g
    pick false = h
chosen_weight None a b other n h g i = i

mutual
  weight_less : (e : Expr) → expr_weight (fold_expr e) ≤ expr_weight e
  weight_less (Num n) = omega arith
  weight_less (Local slot) = omega arith
  weight_less (LocalAt slot n i place) = omega (arith, weight_less i)
  weight_less (Var v) = omega arith
  weight_less (SharedAt v n i place) = omega (arith, weight_less i)
  weight_less (TableAt t i place) = omega (arith, weight_less i)
  weight_less (Un op a) =
      number_weight (unary_number op (constant_of (fold_expr a))) (Un op (fold_expr a)) (expr_weight (Un op a)) (omega arith) (omega (arith, weight_less a))
  weight_less (Bin op a b place) =
      number_weight (binary_number (binary_of op) (constant_of (fold_expr a)) (constant_of (fold_expr b))) (Bin op (fold_expr a) (fold_expr b) place)
      (expr_weight (Bin op a b place)) (omega arith) (omega (arith, weight_less a, weight_less b))
  weight_less (And a b) =
      number_weight (and_number (constant_of (fold_expr a)) (constant_of (fold_expr b))) (And (fold_expr a) (fold_expr b))
      (expr_weight (And a b)) (omega arith) (omega (arith, weight_less a, weight_less b))
  weight_less (Or a b) =
      number_weight (or_number (constant_of (fold_expr a)) (constant_of (fold_expr b))) (Or (fold_expr a) (fold_expr b))
      (expr_weight (Or a b)) (omega arith) (omega (arith, weight_less a, weight_less b))
  weight_less (Choose t a b) =
      chosen_weight (constant_of (fold_expr t)) (fold_expr a) (fold_expr b) (Choose (fold_expr t) (fold_expr a) (fold_expr b)) (expr_weight (Choose t a b))
      (omega (arith, weight_less a)) (omega (arith, weight_less b)) (omega (arith, weight_less t, weight_less a, weight_less b))
  weight_less (Call f args) = omega (arith, weights_less args)

  weights_less : (es : Exprs) → exprs_weight (fold_exprs es) ≤ exprs_weight es
  weights_less no_exprs = omega arith
  weights_less (more_exprs e es) = omega (arith, weight_less e, weights_less es)

branches_less : (bs : List Branch) → branches_weight (fold_branches bs) ≤ branches_weight bs
branches_less [] = omega arith
branches_less (b ∷ bs) = omega (arith, weights_less b.args, branches_less bs)

chosen_terms : (o : Option ℤ) (a b other : Stmt) (n : ℕ) → stmt_terms a ≤ n → stmt_terms b ≤ n → stmt_terms other ≤ n →
    stmt_terms (chosen_stmt o a b other) ≤ n
chosen_terms (Some x) a b other n h g i = pick (is_zero x)
  where
    pick : (z : Bool) → stmt_terms (cond z b a) ≤ n
    pick true = g
    pick false = h
chosen_terms None a b other n h g i = i

either_terms : (z : Bool) (s r : Stmt) (n : ℕ) → stmt_terms s ≤ n → stmt_terms r ≤ n → stmt_terms (cond z s r) ≤ n
either_terms true s r n h g = h
either_terms false s r n h g = g

sequence_terms : (list : Stmts) → stmt_terms (in_sequence list) ≤ 1 + stmts_terms list
sequence_terms no_stmts = omega arith
sequence_terms (more_stmts s no_stmts) = omega arith
sequence_terms (more_stmts s (more_stmts r rest)) = omega arith

unless_terms : (b : Bool) (s : Stmt) (rest : Stmts) (n m : ℕ) → stmt_terms s ≤ n → stmts_terms rest ≤ m → stmts_terms (cond b rest (more_stmts s rest)) ≤ n + m
unless_terms true s rest n m h g = omega arith
unless_terms false s rest n m h g = omega arith

mutual
  terms_less : (s : Stmt) → stmt_terms (fold_stmt s) ≤ stmt_terms s
  terms_less Nop = omega arith
  terms_less (Set to e) = omega (arith, weight_less e)
  terms_less (SetAt slot n i e place) = omega (arith, weight_less i, weight_less e)
  terms_less (PutAt v n i e place) = omega (arith, weight_less i, weight_less e)
  terms_less (Clear slot n) = omega arith
  terms_less (Seq list) = omega (arith, sequence_terms (fold_stmts list), all_terms_less list)
  terms_less (If e a b) =
      chosen_terms (constant_of (fold_expr e)) (fold_stmt a) (fold_stmt b) (If (fold_expr e) (fold_stmt a) (fold_stmt b)) (stmt_terms (If e a b))
      (omega (arith, terms_less a)) (omega (arith, terms_less b)) (omega (arith, weight_less e, terms_less a, terms_less b))
  terms_less (While e bound body place) =
      either_terms (never_turns (constant_of (fold_expr e))) Nop (While (fold_expr e) bound (fold_stmt body) place) (stmt_terms (While e bound body place))
      (omega arith) (omega (arith, weight_less e, terms_less body))
  terms_less Pause = omega arith
  terms_less (Par branches) = omega (arith, branches_less branches)
  terms_less (Enter weak immediate e body) = omega (arith, weight_less e, terms_less body)
  terms_less (Return e) = omega (arith, weight_less e)

  all_terms_less : (list : Stmts) → stmts_terms (fold_stmts list) ≤ stmts_terms list
  all_terms_less no_stmts = omega arith
  all_terms_less (more_stmts s rest) =
      unless_terms (is_nop (fold_stmt s)) (fold_stmt s) (fold_stmts rest) (stmt_terms s) (stmts_terms rest) (terms_less s) (all_terms_less rest)

bodies_less : (bodies : List Stmt) → bodies_terms (map fold_stmt bodies) ≤ bodies_terms bodies
bodies_less [] = omega arith
bodies_less (b ∷ bodies) = omega (arith, terms_less b, bodies_less bodies)

-- ---- depths

number_depth : (o : Option ℤ) (e : Expr) (n : ℕ) → 1 ≤ n → expr_depth e ≤ n → expr_depth (constant_or o e) ≤ n
number_depth (Some x) e n h g = h
number_depth None e n h g = g

chosen_depth : (o : Option ℤ) (a b other : Expr) (n : ℕ) → expr_depth a ≤ n → expr_depth b ≤ n → expr_depth other ≤ n →
    expr_depth (chosen_expr o a b other) ≤ n
chosen_depth (Some x) a b other n h g i = pick (is_zero x)
  where
    pick : (z : Bool) → expr_depth (cond z b a) ≤ n
    pick true = g
    pick false = h
chosen_depth None a b other n h g i = i

mutual
  depth_less : (e : Expr) → expr_depth (fold_expr e) ≤ expr_depth e
  depth_less (Num n) = omega arith
  depth_less (Local slot) = omega arith
  depth_less (LocalAt slot n i place) = omega (arith, depth_less i)
  depth_less (Var v) = omega arith
  depth_less (SharedAt v n i place) = omega (arith, depth_less i)
  depth_less (TableAt t i place) = omega (arith, depth_less i)
  depth_less (Un op a) =
      number_depth (unary_number op (constant_of (fold_expr a))) (Un op (fold_expr a)) (expr_depth (Un op a)) (omega arith) (omega (arith, depth_less a))
  depth_less (Bin op a b place) =
      number_depth (binary_number (binary_of op) (constant_of (fold_expr a)) (constant_of (fold_expr b))) (Bin op (fold_expr a) (fold_expr b) place)
      (expr_depth (Bin op a b place)) (omega arith) (omega (arith, depth_less a, depth_less b))
  depth_less (And a b) =
      number_depth (and_number (constant_of (fold_expr a)) (constant_of (fold_expr b))) (And (fold_expr a) (fold_expr b))
      (expr_depth (And a b)) (omega arith) (omega (arith, depth_less a, depth_less b))
  depth_less (Or a b) =
      number_depth (or_number (constant_of (fold_expr a)) (constant_of (fold_expr b))) (Or (fold_expr a) (fold_expr b))
      (expr_depth (Or a b)) (omega arith) (omega (arith, depth_less a, depth_less b))
  depth_less (Choose t a b) =
      chosen_depth (constant_of (fold_expr t)) (fold_expr a) (fold_expr b) (Choose (fold_expr t) (fold_expr a) (fold_expr b)) (expr_depth (Choose t a b))
      (omega (arith, depth_less a)) (omega (arith, depth_less b)) (omega (arith, depth_less t, depth_less a, depth_less b))
  depth_less (Call f args) = omega (arith, depths_less args)

  depths_less : (es : Exprs) → exprs_depth (fold_exprs es) ≤ exprs_depth es
  depths_less no_exprs = omega arith
  depths_less (more_exprs e es) = omega (arith, depth_less e, depths_less es)

branch_depths_less : (bs : List Branch) → branches_depth (fold_branches bs) ≤ branches_depth bs
branch_depths_less [] = omega arith
branch_depths_less (b ∷ bs) = omega (arith, depths_less b.args, branch_depths_less bs)

chosen_deep : (o : Option ℤ) (a b other : Stmt) (n : ℕ) → stmt_depth a ≤ n → stmt_depth b ≤ n → stmt_depth other ≤ n →
    stmt_depth (chosen_stmt o a b other) ≤ n
chosen_deep (Some x) a b other n h g i = pick (is_zero x)
  where
    pick : (z : Bool) → stmt_depth (cond z b a) ≤ n
    pick true = g
    pick false = h
chosen_deep None a b other n h g i = i

either_deep : (z : Bool) (s r : Stmt) (n : ℕ) → stmt_depth s ≤ n → stmt_depth r ≤ n → stmt_depth (cond z s r) ≤ n
either_deep true s r n h g = h
either_deep false s r n h g = g

sequence_deep : (list : Stmts) → stmt_depth (in_sequence list) ≤ 1 + stmts_depth list
sequence_deep no_stmts = omega arith
sequence_deep (more_stmts s no_stmts) = omega arith
sequence_deep (more_stmts s (more_stmts r rest)) = omega arith

unless_deep : (b : Bool) (s : Stmt) (rest : Stmts) (n m : ℕ) → stmt_depth s ≤ n → stmts_depth rest ≤ m → stmts_depth (cond b rest (more_stmts s rest)) ≤ max n m
unless_deep true s rest n m h g = omega arith
unless_deep false s rest n m h g = omega arith

mutual
  pub deep_less : (s : Stmt) → stmt_depth (fold_stmt s) ≤ stmt_depth s
  deep_less Nop = omega arith
  deep_less (Set to e) = omega (arith, depth_less e)
  deep_less (SetAt slot n i e place) = omega (arith, depth_less i, depth_less e)
  deep_less (PutAt v n i e place) = omega (arith, depth_less i, depth_less e)
  deep_less (Clear slot n) = omega arith
  deep_less (Seq list) = omega (arith, sequence_deep (fold_stmts list), all_deep_less list)
  deep_less (If e a b) =
      chosen_deep (constant_of (fold_expr e)) (fold_stmt a) (fold_stmt b) (If (fold_expr e) (fold_stmt a) (fold_stmt b)) (stmt_depth (If e a b))
      (omega (arith, deep_less a)) (omega (arith, deep_less b)) (omega (arith, depth_less e, deep_less a, deep_less b))
  deep_less (While e bound body place) =
      either_deep (never_turns (constant_of (fold_expr e))) Nop (While (fold_expr e) bound (fold_stmt body) place) (stmt_depth (While e bound body place))
      (omega arith) (omega (arith, depth_less e, deep_less body))
  deep_less Pause = omega arith
  deep_less (Par branches) = omega (arith, branch_depths_less branches)
  deep_less (Enter weak immediate e body) = omega (arith, depth_less e, deep_less body)
  deep_less (Return e) = omega (arith, depth_less e)

  all_deep_less : (list : Stmts) → stmts_depth (fold_stmts list) ≤ stmts_depth list
  all_deep_less no_stmts = omega arith
  all_deep_less (more_stmts s rest) =
      unless_deep (is_nop (fold_stmt s)) (fold_stmt s) (fold_stmts rest) (stmt_depth s) (stmts_depth rest) (deep_less s) (all_deep_less rest)

-- ---- a function's body returns

or_more : (a b c d : Bool) → (a ≡ true → c ≡ true) → (b ≡ true → d ≡ true) → (a || b) ≡ true → (c || d) ≡ true
or_more a b c d f g h = ⊎_elim (λ e. or_left c d (f e)) (λ e. or_right c d (g e)) (or_cases a b h)

chosen_returns : (o : Option ℤ) (a b other : Stmt) → returns a ≡ true → returns b ≡ true → returns other ≡ true → returns (chosen_stmt o a b other) ≡ true
chosen_returns (Some x) a b other h g i = pick (is_zero x)
  where
    pick : (z : Bool) → returns (cond z b a) ≡ true
    pick true = g
    pick false = h
chosen_returns None a b other h g i = i

sequence_returns : (list : Stmts) → some_returns list ≡ true → returns (in_sequence list) ≡ true
sequence_returns no_stmts h = h
sequence_returns (more_stmts s no_stmts) h = pick (returns s) h
  where
    pick : (b : Bool) → (b || false) ≡ true → b ≡ true
    pick true e = refl
    pick false e = e
sequence_returns (more_stmts s (more_stmts r rest)) h = h

unless_returns : (s : Stmt) (rest : Stmts) → (returns s || some_returns rest) ≡ true → some_returns (unless_nop s rest) ≡ true
unless_returns s rest h = pick (is_nop s) refl
  where
    pick : (b : Bool) → is_nop s ≡ b → some_returns (cond b rest (more_stmts s rest)) ≡ true
    pick true e = subst (λ x. (returns x || some_returns rest) ≡ true) (is_nop_only s e) h
    pick false e = h

mutual
  pub still_returns : (s : Stmt) → returns s ≡ true → returns (fold_stmt s) ≡ true
  still_returns Nop h = h
  still_returns (Set to e) h = h
  still_returns (SetAt slot n i e place) h = h
  still_returns (PutAt v n i e place) h = h
  still_returns (Clear slot n) h = h
  still_returns (Seq list) h = sequence_returns (fold_stmts list) (still_some list h)
  still_returns (If e a b) h =
      let both = and_parts (returns a) (returns b) h in
      let x = still_returns a both.0 in
      let y = still_returns b both.1 in
      chosen_returns (constant_of (fold_expr e)) (fold_stmt a) (fold_stmt b) (If (fold_expr e) (fold_stmt a) (fold_stmt b)) x y
      (and_from (returns (fold_stmt a)) (returns (fold_stmt b)) x y)
  still_returns (While e bound body place) h = cc
  still_returns Pause h = h
  still_returns (Par branches) h = h
  still_returns (Enter weak immediate e body) h = h
  still_returns (Return e) h = h

  still_some : (list : Stmts) → some_returns list ≡ true → some_returns (fold_stmts list) ≡ true
  still_some no_stmts h = h
  still_some (more_stmts s rest) h =
      unless_returns (fold_stmt s) (fold_stmts rest)
      (or_more (returns s) (some_returns rest) (returns (fold_stmt s)) (some_returns (fold_stmts rest)) (λ e. still_returns s e) (λ e. still_some rest e) h)

-- ---- terms in range

count_same : (es : Exprs) → count_exprs (fold_exprs es) ≡ count_exprs es
count_same no_exprs = refl
count_same (more_exprs e es) = ap suc (count_same es)

module _ (k : PlainKernel) where
  functions_same : length (folded_kernel k).functions ≡ length k.functions
  functions_same = length-map k.functions fold_stmt

  threads_count : length (folded_kernel k).threads ≡ length k.threads
  threads_count = length-map k.threads fold_stmt

  module _ (n : ℕ) (uses : List ℕ) where
    abbrev sc : TermScope
    sc = record { kernel = k; words = n; uses = uses }

    abbrev sc' : TermScope
    sc' = record { kernel = folded_kernel k; words = n; uses = uses }

    fine_number : (o : Option ℤ) (e : Expr) → FineExpr sc' e → FineExpr sc' (constant_or o e)
    fine_number (Some x) e h = tt
    fine_number None e h = h

    fine_chosen : (o : Option ℤ) (a b other : Expr) → FineExpr sc' a → FineExpr sc' b → FineExpr sc' other → FineExpr sc' (chosen_expr o a b other)
    fine_chosen (Some x) a b other h g i = pick (is_zero x)
      where
        pick : (z : Bool) → FineExpr sc' (cond z b a)
        pick true = g
        pick false = h
    fine_chosen None a b other h g i = i

    mutual
      fine_expr : (e : Expr) → FineExpr sc e → FineExpr sc' (fold_expr e)
      fine_expr (Num x) h = tt
      fine_expr (Local slot) h = h
      fine_expr (LocalAt slot m i place) h = (record { within = h.0.within; some = h.0.some; most = h.0.most }, fine_expr i h.1)
      fine_expr (Var v) h = h
      fine_expr (SharedAt v m i place) h = (record { used = h.0.used; some = h.0.some; most = h.0.most }, fine_expr i h.1)
      fine_expr (TableAt t i place) h = (h.0, fine_expr i h.1)
      fine_expr (Un op a) h = fine_number (unary_number op (constant_of (fold_expr a))) (Un op (fold_expr a)) (fine_expr a h)
      fine_expr (Bin op a b place) h =
          fine_number (binary_number (binary_of op) (constant_of (fold_expr a)) (constant_of (fold_expr b))) (Bin op (fold_expr a) (fold_expr b) place)
          (h.0, fine_expr a h.1, fine_expr b h.2)
      fine_expr (And a b) h =
          fine_number (and_number (constant_of (fold_expr a)) (constant_of (fold_expr b))) (And (fold_expr a) (fold_expr b)) (fine_expr a h.0, fine_expr b h.1)
      fine_expr (Or a b) h =
          fine_number (or_number (constant_of (fold_expr a)) (constant_of (fold_expr b))) (Or (fold_expr a) (fold_expr b)) (fine_expr a h.0, fine_expr b h.1)
      fine_expr (Choose t a b) h =
          fine_chosen (constant_of (fold_expr t)) (fold_expr a) (fold_expr b) (Choose (fold_expr t) (fold_expr a) (fold_expr b))
          (fine_expr a h.1) (fine_expr b h.2) (fine_expr t h.0, fine_expr a h.1, fine_expr b h.2)
      fine_expr (Call f args) h = (subst (λ m. f < m) (sym functions_same) h.0, count_same args ∙ h.1, fine_exprs args h.2)

      fine_exprs : (es : Exprs) → FineExprs sc es → FineExprs sc' (fold_exprs es)
      fine_exprs no_exprs h = tt
      fine_exprs (more_exprs e es) h = (fine_expr e h.0, fine_exprs es h.1)

    fine_branches : (bs : List Branch) → FineBranches sc bs → FineBranches sc' (fold_branches bs)
    fine_branches [] h = tt
    fine_branches (b ∷ bs) h = (
      record {
        named = subst (λ m. b.thread < m) (sym threads_count) h.0.named;
        count = count_same b.args ∙ h.0.count;
        args = fine_exprs b.args h.0.args;
      },
      fine_branches bs h.1,
    )

    some_branches : (bs : List Branch) → bs ≢ [] → fold_branches bs ≢ []
    some_branches [] h = λ e. h refl
    some_branches (b ∷ bs) h = λ e. cc

    module _ (f : Bool) where
      fine_either : (z : Bool) (s r : Stmt) → FineStmt f sc' s → FineStmt f sc' r → FineStmt f sc' (cond z s r)
      fine_either true s r h g = h
      fine_either false s r h g = g

      fine_side : (o : Option ℤ) (a b other : Stmt) → FineStmt f sc' a → FineStmt f sc' b → FineStmt f sc' other → FineStmt f sc' (chosen_stmt o a b other)
      fine_side (Some x) a b other h g i = fine_either (is_zero x) b a g h
      fine_side None a b other h g i = i

      fine_sequence : (list : Stmts) → FineStmts f sc' list → FineStmt f sc' (in_sequence list)
      fine_sequence no_stmts h = tt
      fine_sequence (more_stmts s no_stmts) h = h.0
      fine_sequence (more_stmts s (more_stmts r rest)) h = h

      fine_unless : (b : Bool) (s : Stmt) (rest : Stmts) → FineStmt f sc' s → FineStmts f sc' rest → FineStmts f sc' (cond b rest (more_stmts s rest))
      fine_unless true s rest h g = g
      fine_unless false s rest h g = (h, g)

      mutual
        fine_stmt : (s : Stmt) → FineStmt f sc s → FineStmt f sc' (fold_stmt s)
        fine_stmt Nop h = tt
        fine_stmt (Set (spot.Local slot) e) h = (h.0, fine_expr e h.1)
        fine_stmt (Set (spot.Variable v) e) h = (h.0, fine_expr e h.1)
        fine_stmt (SetAt slot m i e place) h = (record { within = h.0.within; some = h.0.some; most = h.0.most }, fine_expr i h.1, fine_expr e h.2)
        fine_stmt (PutAt v m i e place) h = (record { used = h.0.used; some = h.0.some; most = h.0.most }, fine_expr i h.1, fine_expr e h.2)
        fine_stmt (Clear slot m) h = record { within = h.within; some = h.some; most = h.most }
        fine_stmt (Seq list) h = fine_sequence (fold_stmts list) (fine_stmts list h)
        fine_stmt (If e a b) h =
            fine_side (constant_of (fold_expr e)) (fold_stmt a) (fold_stmt b) (If (fold_expr e) (fold_stmt a) (fold_stmt b))
            (fine_stmt a h.1) (fine_stmt b h.2) (fine_expr e h.0, fine_stmt a h.1, fine_stmt b h.2)
        fine_stmt (While e bound body place) h =
            fine_either (never_turns (constant_of (fold_expr e))) Nop (While (fold_expr e) bound (fold_stmt body) place) tt
            (h.0, fine_expr e h.1, fine_stmt body h.2)
        fine_stmt Pause h = h
        fine_stmt (Par branches) h = (h.0, some_branches branches h.1, fine_branches branches h.2)
        fine_stmt (Enter weak immediate e body) h = (h.0, fine_expr e h.1, fine_stmt body h.2)
        fine_stmt (Return e) h = (h.0, fine_expr e h.1)

        fine_stmts : (list : Stmts) → FineStmts f sc list → FineStmts f sc' (fold_stmts list)
        fine_stmts no_stmts h = tt
        fine_stmts (more_stmts s rest) h = fine_unless (is_nop (fold_stmt s)) (fold_stmt s) (fold_stmts rest) (fine_stmt s h.0) (fine_stmts rest h.1)

  -- ---- calls of a thread, and chains of calls

  users_same : (ts : List ℕ) (v : ℕ) → users (folded_kernel k) ts v ≡ users k ts v
  users_same [] v = refl
  users_same (t ∷ ts) v = ap (λ n. cond (contains v (uses_of k t)) (suc n) n) (users_same ts v)

  combine_same : (bs vs : List ℕ) → combine_calls (folded_kernel k) bs vs ≡ combine_calls k bs vs
  combine_same bs [] = refl
  combine_same bs (v ∷ vs) =
      ap (λ n. elim (variable_of k v).combine [
        | None ↦ combine_calls (folded_kernel k) bs vs
        | Some f ↦ cond (nat_lt 1 n) (f ∷ combine_calls (folded_kernel k) bs vs) (combine_calls (folded_kernel k) bs vs)
      ]) (users_same bs v)
      ∙ ap (λ xs. elim (variable_of k v).combine [
        | None ↦ xs
        | Some f ↦ cond (nat_lt 1 (users k bs v)) (f ∷ xs) xs
      ]) (combine_same bs vs)

  par_sub : (uses : List ℕ) (xs ys : List (List ℕ)) → Sub xs ys → Sub (par_calls (folded_kernel k) uses xs) (par_calls k uses ys)
  par_sub uses xs ys end = end
  par_sub uses xs ys (skip y a b s) = sub_right (par_calls (folded_kernel k) uses a) (combine_calls k y uses) (par_calls k uses b) (par_sub uses a b s)
  par_sub uses xs ys (keep y a b s) =
      subst (λ zs. Sub (zs ++ par_calls (folded_kernel k) uses a) (combine_calls k y uses ++ par_calls k uses b)) (sym (combine_same y uses))
      (sub_append (combine_calls k y uses) (combine_calls k y uses) (par_calls (folded_kernel k) uses a) (par_calls k uses b)
      (sub_same (combine_calls k y uses)) (par_sub uses a b s))

  thread_sub : (t : ℕ) → Sub (thread_calls (folded_kernel k) t) (thread_calls k t)
  thread_sub t =
      subst (λ s. Sub (stmt_calls s ++ par_calls (folded_kernel k) (uses_of k t) (pars_of s)) (thread_calls k t)) (sym (body_folded k.threads t))
      (sub_append (stmt_calls (fold_stmt (body_of k t))) (stmt_calls (body_of k t))
      (par_calls (folded_kernel k) (uses_of k t) (pars_of (fold_stmt (body_of k t)))) (par_calls k (uses_of k t) (pars_of (body_of k t)))
      (statement_calls (body_of k t)) (par_sub (uses_of k t) (pars_of (fold_stmt (body_of k t))) (pars_of (body_of k t)) (statement_pars (body_of k t))))

  function_sub : (f : ℕ) → Sub (stmt_calls (function_body (folded_kernel k) f)) (stmt_calls (function_body k f))
  function_sub f =
      subst (λ s. Sub (stmt_calls s) (stmt_calls (function_body k f))) (sym (body_folded k.functions f)) (statement_calls (function_body k f))

  chain_less : (own own' : ℕ → ℕ) → ((f : ℕ) → own' f ≤ own f) → (deep f : ℕ) → chain own' (folded_kernel k) deep f ≤ chain own k deep f
  chain_less own own' h zero f = omega arith
  chain_less own own' h (suc deep) f =
      let a = h f in
      let b = greatest_sub (chain own' (folded_kernel k) deep) (chain own k deep) (λ g. chain_less own own' h deep g)
      (stmt_calls (function_body (folded_kernel k) f)) (stmt_calls (function_body k f)) (function_sub f) in
      omega arith

  depth_own : (f : ℕ) → stmt_depth (function_body (folded_kernel k) f) ≤ stmt_depth (function_body k f)
  depth_own f = subst (λ s. stmt_depth s ≤ stmt_depth (function_body k f)) (sym (body_folded k.functions f)) (deep_less (function_body k f))

  words_less : (t : ℕ) →
      greatest (chain (function_words k.shape.functions) (folded_kernel k) (length (folded_kernel k).functions)) (thread_calls (folded_kernel k) t)
      ≤ greatest (chain (function_words k.shape.functions) k (length k.functions)) (thread_calls k t)
  words_less t =
      subst (λ n. greatest (chain (function_words k.shape.functions) (folded_kernel k) n) (thread_calls (folded_kernel k) t)
      ≤ greatest (chain (function_words k.shape.functions) k (length k.functions)) (thread_calls k t)) (sym functions_same)
      (greatest_sub (chain (function_words k.shape.functions) (folded_kernel k) (length k.functions)) (chain (function_words k.shape.functions) k (length k.functions))
      (λ f. chain_less (function_words k.shape.functions) (function_words k.shape.functions) (λ g. omega arith) (length k.functions) f)
      (thread_calls (folded_kernel k) t) (thread_calls k t) (thread_sub t))

  abbrev deep_of : PlainKernel → ℕ → ℕ
  deep_of j f = stmt_depth (function_body j f)

  deeps_less : (t : ℕ) →
      greatest (chain (deep_of (folded_kernel k)) (folded_kernel k) (length (folded_kernel k).functions)) (thread_calls (folded_kernel k) t)
      ≤ greatest (chain (deep_of k) k (length k.functions)) (thread_calls k t)
  deeps_less t =
      subst (λ n. greatest (chain (deep_of (folded_kernel k)) (folded_kernel k) n) (thread_calls (folded_kernel k) t)
      ≤ greatest (chain (deep_of k) k (length k.functions)) (thread_calls k t)) (sym functions_same)
      (greatest_sub (chain (deep_of (folded_kernel k)) (folded_kernel k) (length k.functions)) (chain (deep_of k) k (length k.functions))
      (λ f. chain_less (deep_of k) (deep_of (folded_kernel k)) depth_own (length k.functions) f)
      (thread_calls (folded_kernel k) t) (thread_calls k t) (thread_sub t))

  body_deep : (t : ℕ) → stmt_depth (body_of (folded_kernel k) t) ≤ stmt_depth (body_of k t)
  body_deep t = subst (λ s. stmt_depth s ≤ stmt_depth (body_of k t)) (sym (body_folded k.threads t)) (deep_less (body_of k t))

  -- ---- the conditions

  fine_par : (t : ℕ) (branches : List ℕ) → FinePar k t branches → FinePar (folded_kernel k) t branches
  fine_par t branches p = record { number = p.number; are = p.are; parent = p.parent }

  fine_pars : (t : ℕ) (s : Stmt) → ((branches : List ℕ) (i : ℕ) → i < length (pars_of (body_of k t)) → branches ≡ get_or (pars_of (body_of k t)) i [] → FinePar k t branches) →
      s ≡ fold_stmt (body_of k t) → (branches : List ℕ) (i : ℕ) → i < length (pars_of s) → branches ≡ get_or (pars_of s) i [] → FinePar (folded_kernel k) t branches
  fine_pars t s h e branches i less is =
      let f = found_sub (pars_of (fold_stmt (body_of k t))) (pars_of (body_of k t)) (statement_pars (body_of k t)) i (subst (λ x. i < length (pars_of x)) e less) in
      fine_par t branches (h branches f.place f.below (is ∙ ap (λ x. get_or (pars_of x) i []) e ∙ f.is))

  fine_thread : (t : ℕ) → FineThread k t → FineThread (folded_kernel k) t
  fine_thread t h =
      let w = h.words in
      let d = h.depth in
      let w' = words_less t in
      let d' = deeps_less t in
      let b = body_deep t in
      record {
        params = h.params;
        uses = h.uses;
        body =
            subst (λ s. FineStmt false (record { kernel = folded_kernel k; words = words_of k t; uses = uses_of k t }) s) (sym (body_folded k.threads t))
            (fine_stmt (words_of k t) (uses_of k t) false (body_of k t) h.body);
        pars = fine_pars t (body_of (folded_kernel k) t) h.pars (body_folded k.threads t);
        words = omega arith;
        depth = omega arith;
      }

  fine_child : (t : ℕ) → FineChild k t → FineChild (folded_kernel k) t
  fine_child t h = record { parent = h.parent; is = h.is; below = h.below; par = h.par; uses = h.uses }

  fine_root : FineRoot k → FineRoot (folded_kernel k)
  fine_root h = record { parent = h.parent; par = h.par; params = h.params; uses = h.uses }

  fine_function : (f : ℕ) → FineFunction k f → FineFunction (folded_kernel k) f
  fine_function f h =
      let d = h.depth in
      let d' = chain_less (deep_of k) (deep_of (folded_kernel k)) depth_own (length k.functions) f in
      record {
        params = h.params;
        few = h.few;
        body =
            subst (λ s. FineStmt true (record { kernel = folded_kernel k; words = function_words k.shape.functions f; uses = [] }) s) (sym (body_folded k.functions f))
            (fine_stmt (function_words k.shape.functions f) [] true (function_body k f) h.body);
        returns = subst (λ s. returns s ≡ true) (sym (body_folded k.functions f)) (still_returns (function_body k f) h.returns);
        depth = subst (λ n. chain (deep_of (folded_kernel k)) (folded_kernel k) n f ≤ MAX_DEPTH) (sym functions_same) (omega arith);
      }

  still_ranked : Ranked k → Ranked (folded_kernel k)
  still_ranked h =
      record {
        rank = h.rank;
        falls = λ f g less calls.
            h.falls f g (subst (λ n. f < n) functions_same less)
            (contains_sub g (stmt_calls (function_body (folded_kernel k) f)) (stmt_calls (function_body k f)) (function_sub f) calls);
      }

  fine_variable : (v : Variable) → FineVariable k v → FineVariable (folded_kernel k) v
  fine_variable v h =
      record { combine = λ f e. let c = h.combine f e in (subst (λ n. f < n) (sym functions_same) c.0, c.1) }

  pub folded_formed : WellFormed k → WellFormed (folded_kernel k)
  folded_formed h =
      let t = bodies_less k.threads in
      let f = bodies_less k.functions in
      let most = h.few_terms in
      record {
        bodies = threads_count ∙ h.bodies;
        functions = functions_same ∙ h.functions;
        some = subst (λ n. 0 < n) (sym threads_count) h.some;
        root = fine_root h.root;
        each_thread = λ t less. fine_thread t (h.each_thread t (subst (λ n. t < n) threads_count less));
        each_child = λ t above less. fine_child t (h.each_child t above (subst (λ n. t < n) threads_count less));
        each_function = λ f less. fine_function f (h.each_function f (subst (λ n. f < n) functions_same less));
        each_variable = λ v less. fine_variable (variable_of k v) (h.each_variable v less);
        each_table = h.each_table;
        ranked = still_ranked h.ranked;
        once =
            distinct_sub (joined_lists (map joined_lists (map pars_of (map fold_stmt k.threads)))) (joined_lists (map joined_lists (map pars_of k.threads)))
            (bodies_pars k.threads) h.once;
        in_order = h.in_order;
        inputs_named = h.inputs_named;
        inputs_once = h.inputs_once;
        outputs_named = h.outputs_named;
        outputs_once = h.outputs_once;
        names = h.names;
        few_threads = subst (λ n. n ≤ MAX_THREADS) (sym threads_count) h.few_threads;
        few_variables = h.few_variables;
        few_functions = subst (λ n. n ≤ MAX_FUNCTIONS) (sym functions_same) h.few_functions;
        few_inputs = h.few_inputs;
        few_outputs = h.few_outputs;
        few_table_words = h.few_table_words;
        few_terms = omega arith;
      }
