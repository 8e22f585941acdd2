-- No chain of calls of a kernel is longer than the list of its int functions.
use Rattle.std.proofs.Common.{◌≡◌, ℕ, zero, suc, ◌+◌, ◌<◌, ◌≤◌, ◌==◌, ◌||◌, Bool, true, false, cond, List, [], ◌∷◌, ◌++◌, length, refl, ap, arith}
use Rattle.std.specs.List.{list_all, list_any, IsDistinct, AllByRecursion}
use Rattle.std.proofs.Math.Dec.{eqb}
use Rattle.std.proofs.lemmas.Bool.Decides.{nat_tests}
use Rattle.std.proofs.lemmas.Map.Steps.{length-le_from_distinct_below}
use Rattle.std.proofs.lemmas.Map.Keys.{IsDistinct-cons}
use Rattle.forec_kernel.specs.Terms.{Expr, Num, Local, LocalAt, Var, SharedAt, TableAt, Un, Bin, And, Or, Choose, Call, Exprs, no_exprs, more_exprs, Branch, Stmt, Nop, Set, SetAt, PutAt, Clear, Seq, If, While, Pause, Par, Enter, Return, Stmts, no_stmts, more_stmts}
use Rattle.forec_kernel.specs.Shapes.{PlainKernel}
use Rattle.forec_kernel.specs.Combining.{contains}
use Rattle.forec_kernel.specs.WellFormed.{TermScope, FineExpr, FineExprs, FineStmt, FineStmts, FineBranches, calls_of, calls_in, branch_calls, stmt_calls, stmts_calls, function_body, Ranked}
use Rattle.code_gen.proofs.Each.{Each, each_join, each_map, each_both, each_in, test_each}

-- a chain of calls that begins with function f has at most n functions
abbrev pub deep : PlainKernel → ℕ → ℕ → Bool
deep k zero f = false
deep k (suc n) f = list_all (deep k n) (stmt_calls (function_body k f))

-- ---- each function that a term calls is one of the kernel's
module _ (z : TermScope) where
  abbrev Is : ℕ → Type 0
  Is f = f < length z.kernel.functions

  mutual
    pub calls_named : (e : Expr) → FineExpr z e → Each Is (calls_of e)
    calls_named (Num n) h = tt
    calls_named (Local x) h = tt
    calls_named (LocalAt x n i place) h = calls_named i h.1
    calls_named (Var v) h = tt
    calls_named (SharedAt v n i place) h = calls_named i h.1
    calls_named (TableAt t i place) h = calls_named i h.1
    calls_named (Un op a) h = calls_named a h
    calls_named (Bin op a b place) h = each_join Is (calls_of a) (calls_of b) (calls_named a h.1) (calls_named b h.2)
    calls_named (And a b) h = each_join Is (calls_of a) (calls_of b) (calls_named a h.0) (calls_named b h.1)
    calls_named (Or a b) h = each_join Is (calls_of a) (calls_of b) (calls_named a h.0) (calls_named b h.1)
    calls_named (Choose t a b) h =
        each_join Is (calls_of t ++ calls_of a) (calls_of b) (each_join Is (calls_of t) (calls_of a) (calls_named t h.0) (calls_named a h.1)) (calls_named b h.2)
    calls_named (Call f args) h = (h.0, all_named args h.2)

    pub all_named : (es : Exprs) → FineExprs z es → Each Is (calls_in es)
    all_named no_exprs h = tt
    all_named (more_exprs e rest) h = each_join Is (calls_of e) (calls_in rest) (calls_named e h.0) (all_named rest h.1)

  branches_named : (bs : List Branch) → FineBranches z bs → Each Is (branch_calls bs)
  branches_named [] h = tt
  branches_named (b ∷ bs) h = each_join Is (calls_in b.args) (branch_calls bs) (all_named b.args (let f = h.0 in f.args)) (branches_named bs h.1)

  mutual
    pub statement_named : (f : Bool) (s : Stmt) → FineStmt f z s → Each Is (stmt_calls s)
    statement_named f Nop h = tt
    statement_named f (Set to e) h = calls_named e h.1
    statement_named f (SetAt x n i e place) h = each_join Is (calls_of i) (calls_of e) (calls_named i h.1) (calls_named e h.2)
    statement_named f (PutAt v n i e place) h = each_join Is (calls_of i) (calls_of e) (calls_named i h.1) (calls_named e h.2)
    statement_named f (Clear x n) h = tt
    statement_named f (Seq list) h = statements_named f list h
    statement_named f (If e a b) h =
        each_join Is (calls_of e ++ stmt_calls a) (stmt_calls b) (each_join Is (calls_of e) (stmt_calls a) (calls_named e h.0) (statement_named f a h.1)) (statement_named f b h.2)
    statement_named f (While e bound body place) h = each_join Is (calls_of e) (stmt_calls body) (calls_named e h.1) (statement_named f body h.2)
    statement_named f Pause h = tt
    statement_named f (Par bs) h = branches_named bs h.2
    statement_named f (Enter weak immediate e body) h = each_join Is (calls_of e) (stmt_calls body) (calls_named e h.1) (statement_named f body h.2)
    statement_named f (Return e) h = calls_named e h.1

    pub statements_named : (f : Bool) (list : Stmts) → FineStmts f z list → Each Is (stmts_calls list)
    statements_named f no_stmts h = tt
    statements_named f (more_stmts s rest) h = each_join Is (stmt_calls s) (stmts_calls rest) (statement_named f s h.0) (statements_named f rest h.1)

-- ---- a chain of calls

member_or : (b c : Bool) → cond b true c ≡ true → (b ≡ false → c ≡ true)
member_or true c h e = cc
member_or false c h e = h

same_member : (x y : ℕ) (rest : List ℕ) → (x == y) ≡ true → contains y (x ∷ rest) ≡ true
same_member x y rest h = rw h refl

more_member : (x y : ℕ) (rest : List ℕ) → contains y rest ≡ true → contains y (x ∷ rest) ≡ true
more_member x y rest h = pick (x == y)
  where
    pick : (b : Bool) → cond b true (contains y rest) ≡ true
    pick true = refl
    pick false = h

module _ (k : PlainKernel) (ranked : Ranked k) (named : (f : ℕ) → f < length k.functions → Each (λ g. g < length k.functions) (stmt_calls (function_body k f))) where
  abbrev N : ℕ
  N = length k.functions

  -- the functions of a chain up to one of a rank
  record Chain (vs : List ℕ) (r : ℕ) : Type 0 where
    distinct : IsDistinct eqb vs
    below : (q : ℕ) → list_any (eqb q) vs ≡ true → q < N
    above : Each (λ q. r < ranked.rank q) vs

  apart : (f : ℕ) (vs : List ℕ) → Each (λ q. ranked.rank f < ranked.rank q) vs → AllByRecursion (λ y. eqb f y ≡ false) vs
  apart f [] h = tt
  apart f (v ∷ vs) h = (differ (eqb f v) refl, apart f vs h.1)
    where
      differ : (b : Bool) → eqb f v ≡ b → b ≡ false
      differ false e = refl
      differ true e = let same : f ≡ v = grind (arith, nat_tests) in let r = ap ranked.rank same in absurd (omega (arith, r, h.0))

  next : (f : ℕ) (vs : List ℕ) → f < N → Chain vs (ranked.rank f) → (r : ℕ) → r < ranked.rank f → Chain (f ∷ vs) r
  next f vs lt h r less = record {
    distinct = IsDistinct-cons eqb f vs (apart f vs h.above) h.distinct;
    below = λ q m. one_of q (eqb q f) refl m;
    above = (less, lower vs h.above);
  }
    where
      one_of : (q : ℕ) (b : Bool) → eqb q f ≡ b → (b || list_any (eqb q) vs) ≡ true → q < N
      one_of q true e m = let same : q ≡ f = grind (arith, nat_tests) in omega (arith, same, lt)
      one_of q false e m = h.below q m

      lower : (xs : List ℕ) → Each (λ q. ranked.rank f < ranked.rank q) xs → Each (λ q. r < ranked.rank q) xs
      lower [] g = tt
      lower (x ∷ xs) g = (omega (arith, g.0, less), lower xs g.1)

  deep_enough : (n f : ℕ) (vs : List ℕ) → f < N → Chain vs (ranked.rank f) → N ≤ n + length vs → deep k n f ≡ true
  deep_enough zero f vs lt h le =
      let all = IsDistinct-cons eqb f vs (apart f vs h.above) h.distinct in
      let few = length-le_from_distinct_below (f ∷ vs) N all (λ q m. one_of q (eqb q f) refl m) in
      absurd (omega (arith, few, le))
    where
      one_of : (q : ℕ) (b : Bool) → eqb q f ≡ b → (b || list_any (eqb q) vs) ≡ true → q < N
      one_of q true e m = let same : q ≡ f = grind (arith, nat_tests) in omega (arith, same, lt)
      one_of q false e m = h.below q m
  deep_enough (suc n) f vs lt h le =
      let calls = stmt_calls (function_body k f) in
      test_each (deep k n) calls
      (each_map (λ g. (g < N) × (ranked.rank g < ranked.rank f)) (λ g. deep k n g ≡ true)
      (λ g p. deep_enough n g (f ∷ vs) p.0 (next f vs lt h (ranked.rank g) p.1) (omega (arith, le))) calls
      (each_both (λ g. g < N) (λ g. ranked.rank g < ranked.rank f) calls (named f lt) (each_in (λ g. ranked.rank g < ranked.rank f) calls (λ g m. ranked.falls f g lt m))))

  pub all_deep : (f : ℕ) → f < N → deep k N f ≡ true
  unfolding IsDistinct
  all_deep f lt = deep_enough N f [] lt (record { distinct = tt; below = λ q m. cc; above = tt }) (omega arith)
