-- Tables of capped bounds give the same capped bounds.
use Rattle.std.proofs.Common.{ℕ, zero, suc, ◌+◌, ◌-◌, ◌*◌, ◌<◌, ◌≤◌, ◌≡◌, nat_lt, Bool, true, false, Option, Some, None, List, [], ◌∷◌, refl, ap, arith}
use Rattle.std.proofs.lemmas.Bool.Decides.{nat_tests}
use Rattle.forec_kernel.specs.Terms.{Expr, Num, Local, LocalAt, Var, SharedAt, TableAt, Un, Bin, And, Or, Choose, Call, Exprs, no_exprs, more_exprs, Branch, Stmt, Nop, Set, SetAt, PutAt, Clear, Seq, If, While, Pause, Par, Enter, Return, Stmts, no_stmts, more_stmts}
use Rattle.forec_kernel.specs.Shapes.{PlainKernel}
use Rattle.forec_kernel.specs.Combining.{variable_of}
use Rattle.forec_kernel.specs.WellFormed.{users, threads_in}
use Rattle.tick_bounds.specs.Bound.{expr_bound, exprs_bound, args_bound, bodies_bound, calls_bound, join_bound, loop_bound, stmt_bound, stmts_bound}
use Rattle.tick_bounds.specs.Capped.{capped}

-- what is past the cap stays there in a product, unless the factor is 0
pub capped_times : (n x y : ℕ) → capped x ≡ capped y → capped (n * x) ≡ capped (n * y)
capped_times zero x y e = omega arith
capped_times (suc n) x y e = pick (nat_lt x 4611686018427387905) refl
  where
    pick : (b : Bool) → nat_lt x 4611686018427387905 ≡ b → capped (suc n * x) ≡ capped (suc n * y)
    pick true l =
        let less : x < 4611686018427387905 = grind (arith, nat_tests) in
        let same : x ≡ y = omega arith in
        ap (λ z. capped (suc n * z)) same
    pick false l = let past : 4611686018427387905 ≤ x = grind (arith, nat_tests) in omega arith

pub capped_loop : (bound : Option ℕ) (x y : ℕ) → capped x ≡ capped y → capped (loop_bound bound x) ≡ capped (loop_bound bound y)
capped_loop None x y e = capped_times 2 x y e
capped_loop (Some n) x y e = capped_times (n + 1) x y e

module _ (f : ℕ → ℕ) where
  abbrev pub by_capped : ℕ → ℕ
  by_capped g = capped (f g)

  mutual
    pub capped_expr : (e : Expr) → capped (expr_bound by_capped e) ≡ capped (expr_bound f e)
    capped_expr (Num n) = refl
    capped_expr (Local slot) = refl
    capped_expr (LocalAt slot n i place) = omega (arith, capped_expr i)
    capped_expr (Var v) = refl
    capped_expr (SharedAt v n i place) = omega (arith, capped_expr i)
    capped_expr (TableAt t i place) = omega (arith, capped_expr i)
    capped_expr (Un op a) = omega (arith, capped_expr a)
    capped_expr (Bin op a b place) = omega (arith, capped_expr a, capped_expr b)
    capped_expr (And a b) = omega (arith, capped_expr a, capped_expr b)
    capped_expr (Or a b) = omega (arith, capped_expr a, capped_expr b)
    capped_expr (Choose t a b) = omega (arith, capped_expr t, capped_expr a, capped_expr b)
    capped_expr (Call g args) = omega (arith, capped_exprs args)

    pub capped_exprs : (es : Exprs) → capped (exprs_bound by_capped es) ≡ capped (exprs_bound f es)
    capped_exprs no_exprs = refl
    capped_exprs (more_exprs e es) = omega (arith, capped_expr e, capped_exprs es)

  capped_args : (bs : List Branch) → capped (args_bound by_capped bs) ≡ capped (args_bound f bs)
  capped_args [] = refl
  capped_args (b ∷ bs) = omega (arith, capped_exprs b.args, capped_args bs)

  capped_bodies : (ts : List ℕ) → capped (bodies_bound by_capped ts) ≡ capped (bodies_bound f ts)
  capped_bodies [] = refl
  capped_bodies (t ∷ ts) = omega (arith, capped_bodies ts)

  capped_calls : (g : Option ℕ) (m : ℕ) → capped (calls_bound by_capped g m) ≡ capped (calls_bound f g m)
  capped_calls None m = refl
  capped_calls (Some g) m = capped_times (m - 1) (1 + capped (f g)) (1 + f g) (omega arith)

  capped_join : (k : PlainKernel) (bs vs : List ℕ) → capped (join_bound k by_capped bs vs) ≡ capped (join_bound k f bs vs)
  capped_join k bs [] = refl
  capped_join k bs (v ∷ vs) = omega (arith, capped_calls (variable_of k v).combine (users k bs v), capped_join k bs vs)

module _ (k : PlainKernel) (f T : ℕ → ℕ) (uses : List ℕ) where
  abbrev low : Stmt → ℕ
  low s = stmt_bound k (record { function = by_capped f; thread = by_capped T }) uses s

  abbrev full : Stmt → ℕ
  full s = stmt_bound k (record { function = f; thread = T }) uses s

  mutual
    pub capped_stmt : (s : Stmt) → capped (low s) ≡ capped (full s)
    capped_stmt Nop = refl
    capped_stmt (Set to e) = omega (arith, capped_expr f e)
    capped_stmt (SetAt slot n i e place) = omega (arith, capped_expr f i, capped_expr f e)
    capped_stmt (PutAt v n i e place) = omega (arith, capped_expr f i, capped_expr f e)
    capped_stmt (Clear slot n) = refl
    capped_stmt (Seq list) = capped_stmts list
    capped_stmt (If e a b) = omega (arith, capped_expr f e, capped_stmt a, capped_stmt b)
    capped_stmt (While e bound body place) =
        capped_loop bound (expr_bound (by_capped f) e + 1 + low body) (expr_bound f e + 1 + full body)
        (omega (arith, capped_expr f e, capped_stmt body))
    capped_stmt Pause = refl
    capped_stmt (Par bs) = omega (arith, capped_args f bs, capped_bodies T (threads_in bs), capped_join f k (threads_in bs) uses)
    capped_stmt (Enter weak immediate e body) = omega (arith, capped_expr f e, capped_stmt body)
    capped_stmt (Return e) = capped_expr f e

    capped_stmts : (list : Stmts) →
        capped (stmts_bound k (record { function = by_capped f; thread = by_capped T }) uses list)
        ≡ capped (stmts_bound k (record { function = f; thread = T }) uses list)
    capped_stmts no_stmts = refl
    capped_stmts (more_stmts s rest) = omega (arith, capped_stmt s, capped_stmts rest)
