-- A bound asks for those functions alone that a term calls, and for those threads alone that it starts.
use Rattle.std.proofs.Common.{ℕ, ◌+◌, ◌-◌, ◌*◌, ◌<◌, ◌≡◌, ◌==◌, Bool, true, cond, false, Option, Some, None, List, [], ◌∷◌, ◌++◌, refl, ap, arith}
use Rattle.std.proofs.lemmas.Bool.Decides.{nat_tests}
use Rattle.forec_kernel.specs.Terms.{Expr, Num, Local, LocalAt, Var, SharedAt, TableAt, Un, Bin, And, Or, Choose, Call, Exprs, no_exprs, more_exprs, Branch, Stmt, Nop, Set, SetAt, PutAt, Clear, Seq, If, While, Pause, Par, Enter, Return, Stmts, no_stmts, more_stmts}
use Rattle.forec_kernel.specs.Shapes.{PlainKernel}
use Rattle.forec_kernel.specs.Combining.{contains, variable_of}
use Rattle.forec_kernel.specs.WellFormed.{TermScope, FineStmt, FineStmts, users, threads_in, pars_of, pars_in, calls_of, calls_in, stmt_calls, stmts_calls}
use Rattle.tick_bounds.specs.Bound.{expr_bound, exprs_bound, args_bound, bodies_bound, calls_bound, join_bound, loop_bound, stmt_bound, stmts_bound}

-- ---- lists of numbers

contains_left : (c : ℕ) (xs ys : List ℕ) → contains c xs ≡ true → contains c (xs ++ ys) ≡ true
contains_left c [] ys h = cc
contains_left c (x ∷ xs) ys h = pick (x == c) h (λ e. contains_left c xs ys e)
  where
    pick : (b : Bool) → cond b true (contains c xs) ≡ true → (contains c xs ≡ true → contains c (xs ++ ys) ≡ true) →
        cond b true (contains c (xs ++ ys)) ≡ true
    pick true e ih = refl
    pick false e ih = ih e

contains_right : (c : ℕ) (xs ys : List ℕ) → contains c ys ≡ true → contains c (xs ++ ys) ≡ true
contains_right c [] ys h = h
contains_right c (x ∷ xs) ys h = pick (x == c) (contains_right c xs ys h)
  where
    pick : (b : Bool) → contains c (xs ++ ys) ≡ true → cond b true (contains c (xs ++ ys)) ≡ true
    pick true e = refl
    pick false e = e

pub first_contains : (c : ℕ) (xs : List ℕ) → contains c (c ∷ xs) ≡ true
first_contains c xs = pick (c == c) (grind (arith, nat_tests))
  where
    pick : (b : Bool) → b ≡ true → cond b true (contains c xs) ≡ true
    pick true e = refl
    pick false e = cc

pub later_contains : (c x : ℕ) (xs : List ℕ) → contains c xs ≡ true → contains c (x ∷ xs) ≡ true
later_contains c x xs e = contains_right c (x ∷ []) xs e

-- ---- functions that agree on those that a term calls

abbrev pub Agree : (ℕ → ℕ) → (ℕ → ℕ) → List ℕ → Type 0
Agree f g cs = (c : ℕ) → contains c cs ≡ true → f c ≡ g c

module _ (f g : ℕ → ℕ) where
  agree_left : (xs ys : List ℕ) → Agree f g (xs ++ ys) → Agree f g xs
  agree_left xs ys h = λ c e. h c (contains_left c xs ys e)

  agree_right : (xs ys : List ℕ) → Agree f g (xs ++ ys) → Agree f g ys
  agree_right xs ys h = λ c e. h c (contains_right c xs ys e)

  mutual
    pub expr_same : (x : Expr) → Agree f g (calls_of x) → expr_bound f x ≡ expr_bound g x
    expr_same (Num n) h = refl
    expr_same (Local slot) h = refl
    expr_same (LocalAt slot n i place) h = ap (λ a. 1 + a) (expr_same i h)
    expr_same (Var v) h = refl
    expr_same (SharedAt v n i place) h = ap (λ a. 1 + a) (expr_same i h)
    expr_same (TableAt t i place) h = ap (λ a. 1 + a) (expr_same i h)
    expr_same (Un op a) h = ap (λ a. 1 + a) (expr_same a h)
    expr_same (Bin op a b place) h =
        omega (arith, expr_same a (agree_left (calls_of a) (calls_of b) h), expr_same b (agree_right (calls_of a) (calls_of b) h))
    expr_same (And a b) h =
        omega (arith, expr_same a (agree_left (calls_of a) (calls_of b) h), expr_same b (agree_right (calls_of a) (calls_of b) h))
    expr_same (Or a b) h =
        omega (arith, expr_same a (agree_left (calls_of a) (calls_of b) h), expr_same b (agree_right (calls_of a) (calls_of b) h))
    expr_same (Choose t a b) h =
        let first = agree_left (calls_of t ++ calls_of a) (calls_of b) h in
        let et = expr_same t (agree_left (calls_of t) (calls_of a) first) in
        let ea = expr_same a (agree_right (calls_of t) (calls_of a) first) in
        let eb = expr_same b (agree_right (calls_of t ++ calls_of a) (calls_of b) h) in
        omega arith
    expr_same (Call c args) h =
        omega (arith, exprs_same args (agree_right (c ∷ []) (calls_in args) h), h c (first_contains c (calls_in args)))

    pub exprs_same : (xs : Exprs) → Agree f g (calls_in xs) → exprs_bound f xs ≡ exprs_bound g xs
    exprs_same no_exprs h = refl
    exprs_same (more_exprs x rest) h =
        omega (arith, expr_same x (agree_left (calls_of x) (calls_in rest) h), exprs_same rest (agree_right (calls_of x) (calls_in rest) h))

-- in int functions no par stands
module _ (k : PlainKernel) (s : TermScope) (f g T U : ℕ → ℕ) where
  abbrev by_f : Stmt → ℕ
  by_f x = stmt_bound k (record { function = f; thread = T }) [] x

  abbrev by_g : Stmt → ℕ
  by_g x = stmt_bound k (record { function = g; thread = U }) [] x

  mutual
    pub body_same : (x : Stmt) → FineStmt true s x → Agree f g (stmt_calls x) → by_f x ≡ by_g x
    body_same Nop fine h = refl
    body_same (Set to e) fine h = omega (arith, expr_same f g e h)
    body_same (SetAt slot n i e place) fine h =
        omega (
          arith,
          expr_same f g i (agree_left f g (calls_of i) (calls_of e) h),
          expr_same f g e (agree_right f g (calls_of i) (calls_of e) h),
        )
    body_same (PutAt v n i e place) fine h =
        omega (
          arith,
          expr_same f g i (agree_left f g (calls_of i) (calls_of e) h),
          expr_same f g e (agree_right f g (calls_of i) (calls_of e) h),
        )
    body_same (Clear slot n) fine h = refl
    body_same (Seq list) fine h = list_same list fine h
    body_same (If e a b) fine h =
        let first = agree_left f g (calls_of e ++ stmt_calls a) (stmt_calls b) h in
        let et = expr_same f g e (agree_left f g (calls_of e) (stmt_calls a) first) in
        let ea = body_same a fine.1 (agree_right f g (calls_of e) (stmt_calls a) first) in
        let eb = body_same b fine.2 (agree_right f g (calls_of e ++ stmt_calls a) (stmt_calls b) h) in
        omega arith
    body_same (While e bound body place) fine h =
        let et = expr_same f g e (agree_left f g (calls_of e) (stmt_calls body) h) in
        let eb = body_same body fine.2 (agree_right f g (calls_of e) (stmt_calls body) h) in
        let turn : expr_bound f e + 1 + by_f body ≡ expr_bound g e + 1 + by_g body = omega arith in
        ap (λ x. loop_bound bound x) turn
    body_same Pause fine h = refl
    body_same (Par bs) fine h = cc
    body_same (Enter weak immediate e body) fine h = cc
    body_same (Return e) fine h = expr_same f g e h

    list_same : (xs : Stmts) → FineStmts true s xs → Agree f g (stmts_calls xs) →
        stmts_bound k (record { function = f; thread = T }) [] xs ≡ stmts_bound k (record { function = g; thread = U }) [] xs
    list_same no_stmts fine h = refl
    list_same (more_stmts x rest) fine h =
        omega (
          arith,
          body_same x fine.0 (agree_left f g (stmt_calls x) (stmts_calls rest) h),
          list_same rest fine.1 (agree_right f g (stmt_calls x) (stmts_calls rest) h),
        )

-- ---- functions that are equal everywhere, and threads above one

abbrev pub AllAbove : ℕ → List ℕ → Type 0
AllAbove t [] = Unit {0}
AllAbove t (b ∷ bs) = (t < b) × AllAbove t bs

abbrev pub EachAbove : ℕ → List (List ℕ) → Type 0
EachAbove t [] = Unit {0}
EachAbove t (bs ∷ rest) = AllAbove t bs × EachAbove t rest

pub above_left : (t : ℕ) (xs ys : List (List ℕ)) → EachAbove t (xs ++ ys) → EachAbove t xs
above_left t [] ys h = tt
above_left t (x ∷ xs) ys h = (h.0, above_left t xs ys h.1)

pub above_right : (t : ℕ) (xs ys : List (List ℕ)) → EachAbove t (xs ++ ys) → EachAbove t ys
above_right t [] ys h = h
above_right t (x ∷ xs) ys h = above_right t xs ys h.1

module _ (k : PlainKernel) (t : ℕ) (uses : List ℕ) (f g T U : ℕ → ℕ) (equal : (c : ℕ) → f c ≡ g c) (same : (b : ℕ) → t < b → T b ≡ U b) where
  expr_equal : (e : Expr) → expr_bound f e ≡ expr_bound g e
  expr_equal e = expr_same f g e (λ c i. equal c)

  args_equal : (bs : List Branch) → args_bound f bs ≡ args_bound g bs
  args_equal [] = refl
  args_equal (b ∷ bs) = omega (arith, exprs_same f g b.args (λ c i. equal c), args_equal bs)

  bodies_same : (bs : List ℕ) → AllAbove t bs → bodies_bound T bs ≡ bodies_bound U bs
  bodies_same [] h = refl
  bodies_same (b ∷ bs) h = omega (arith, same b h.0, bodies_same bs h.1)

  calls_equal : (c : Option ℕ) (m : ℕ) → calls_bound f c m ≡ calls_bound g c m
  calls_equal None m = refl
  calls_equal (Some c) m = ap (λ x. (m - 1) * (1 + x)) (equal c)

  join_equal : (bs vs : List ℕ) → join_bound k f bs vs ≡ join_bound k g bs vs
  join_equal bs [] = refl
  join_equal bs (v ∷ vs) = omega (arith, calls_equal (variable_of k v).combine (users k bs v), join_equal bs vs)

  abbrev one : Stmt → ℕ
  one s = stmt_bound k (record { function = f; thread = T }) uses s

  abbrev other : Stmt → ℕ
  other s = stmt_bound k (record { function = g; thread = U }) uses s

  mutual
    pub threads_same : (s : Stmt) → EachAbove t (pars_of s) → one s ≡ other s
    threads_same Nop h = refl
    threads_same (Set to e) h = omega (arith, expr_equal e)
    threads_same (SetAt slot n i e place) h = omega (arith, expr_equal i, expr_equal e)
    threads_same (PutAt v n i e place) h = omega (arith, expr_equal i, expr_equal e)
    threads_same (Clear slot n) h = refl
    threads_same (Seq list) h = lists_same list h
    threads_same (If e a b) h =
        let test = expr_equal e in
        let left = threads_same a (above_left t (pars_of a) (pars_of b) h) in
        let right = threads_same b (above_right t (pars_of a) (pars_of b) h) in
        omega arith
    threads_same (While e bound body place) h =
        let test = expr_equal e in
        let rest = threads_same body h in
        let turn : expr_bound f e + 1 + one body ≡ expr_bound g e + 1 + other body = omega arith in
        ap (λ x. loop_bound bound x) turn
    threads_same Pause h = refl
    threads_same (Par bs) h = omega (arith, args_equal bs, bodies_same (threads_in bs) h.0, join_equal (threads_in bs) uses)
    threads_same (Enter weak immediate e body) h = omega (arith, expr_equal e, threads_same body h)
    threads_same (Return e) h = expr_equal e

    lists_same : (list : Stmts) → EachAbove t (pars_in list) →
        stmts_bound k (record { function = f; thread = T }) uses list ≡ stmts_bound k (record { function = g; thread = U }) uses list
    lists_same no_stmts h = refl
    lists_same (more_stmts s rest) h =
        omega (
          arith,
          threads_same s (above_left t (pars_of s) (pars_in rest) h),
          lists_same rest (above_right t (pars_of s) (pars_in rest) h),
        )
