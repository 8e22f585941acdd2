-- A body that is in range among all variables is so among those of them that it names.
use Rattle.std.proofs.Common.{ℕ, zero, suc, ◌≡◌, ◌∙◌, sym, ap, refl, Bool, true, false, cond, ◌==◌, arith, List, [], ◌∷◌, ◌++◌}
use Rattle.std.proofs.lemmas.Bool.{and_from, and_parts}
use Rattle.std.proofs.lemmas.Bool.Decides.{nat_tests}
use Rattle.forec_tree.specs.Faults.{is_in}
use Rattle.forec_tree.proofs.Agrees.{in_left, in_right}
use Rattle.forec_kernel.specs.declared.terms.Spot.{Spot}
use Rattle.forec_kernel.specs.declared.terms.Spot.TheVariants as spot
use Rattle.forec_kernel.specs.Combining.{contains}
use Rattle.forec_kernel.specs.Terms.{Expr, Num, Local, LocalAt, Var, SharedAt, TableAt, Un, Bin, And, Or, Choose, Call, Exprs, no_exprs, more_exprs, Branch, Stmt, Nop, Set, SetAt, PutAt, Clear, Seq, If, While, Pause, Par, Enter, Return, Stmts, no_stmts, more_stmts}
use Rattle.forec_kernel.specs.Shapes.{PlainKernel}
use Rattle.forec_kernel.specs.WellFormed as wf
use Rattle.forec_kernel.specs.WellFormed.{FineExpr, FineExprs, FineSpot, FineStmt, FineStmts, FineBranch, FineBranches, IsArray, IsSharedArray, count_up, all_in}
use Rattle.text_kernel.specs.Lowering.{vars_in, vars_all, vars_spot, vars_of, vars_list, vars_launches}
use Rattle.text_kernel.specs.Kernels.{filter_in}

-- those variables of a list that are among all are among some
pub record Holds (xs all uses : List ℕ) : Type 0 where
  pub keep : (v : ℕ) → is_in v xs ≡ true → contains v all ≡ true → contains v uses ≡ true

holds_left : (xs ys all uses : List ℕ) → Holds (xs ++ ys) all uses → Holds xs all uses
holds_left xs ys all uses h = record { keep = λ v e. h.keep v (in_left v xs ys e) }

holds_right : (xs ys all uses : List ℕ) → Holds (xs ++ ys) all uses → Holds ys all uses
holds_right xs ys all uses h = record { keep = λ v e. h.keep v (in_right v xs ys e) }

holds_one : (v : ℕ) (xs all uses : List ℕ) → Holds (v ∷ xs) all uses → contains v all ≡ true → contains v uses ≡ true
holds_one v xs all uses h f = let e : (v == v) ≡ true = grind (arith, nat_tests) in h.keep v (ap (λ b. cond b true (is_in v xs)) e) f

-- a thread's `uses` hold what it names
filter_holds : (v : ℕ) (named all : List ℕ) → is_in v named ≡ true → contains v all ≡ true → contains v (filter_in named all) ≡ true
filter_holds v named [] e f = f
filter_holds v named (u ∷ rest) e f = pick (u == v) (is_in u named) refl refl (λ g. filter_holds v named rest e g)
  where
    pick : (b c : Bool) → (u == v) ≡ b → is_in u named ≡ c → (contains v rest ≡ true → contains v (filter_in named rest) ≡ true) →
        contains v (cond (is_in u named) (u ∷ filter_in named rest) (filter_in named rest)) ≡ true
    pick true true d g k = rw (g, d) refl
    pick true false d g k =
        let same : u ≡ v = grind (arith, nat_tests) in
        let bad : false ≡ true = sym g ∙ (ap (λ x. is_in x named) same ∙ e) in cc
    pick false true d g k = rw (g, d) (k (ap (λ x. cond x true (contains v rest)) (sym d) ∙ f))
    pick false false d g k = rw g (k (ap (λ x. cond x true (contains v rest)) (sym d) ∙ f))

pub uses_hold : (xs named all : List ℕ) → ((v : ℕ) → is_in v xs ≡ true → is_in v named ≡ true) → Holds xs all (filter_in named all)
uses_hold xs named all w = record { keep = λ v e f. filter_holds v named all (w v e) f }

module _ (k : PlainKernel) (words : ℕ) (all uses : List ℕ) where
  abbrev wide : wf.TermScope
  wide = record { kernel = k; words = words; uses = all }

  abbrev narrow : wf.TermScope
  narrow = record { kernel = k; words = words; uses = uses }

  array : (slot n : ℕ) → IsArray wide slot n → IsArray narrow slot n
  array slot n a = record { within = a.within; some = a.some; most = a.most }

  row_holds : (v n : ℕ) (xs : List ℕ) → Holds (count_up v n ++ xs) all uses → all_in (count_up v n) all ≡ true → all_in (count_up v n) uses ≡ true
  row_holds v zero xs h f = refl
  row_holds v (suc n) xs h f =
      let parts = and_parts (contains v all) (all_in (count_up (suc v) n) all) f in
      and_from (contains v uses) (all_in (count_up (suc v) n) uses) (holds_one v (count_up (suc v) n ++ xs) all uses h parts.0)
      (row_holds (suc v) n xs (holds_right (v ∷ []) (count_up (suc v) n ++ xs) all uses h) parts.1)

  shared_array : (v n : ℕ) (xs : List ℕ) → Holds (count_up v n ++ xs) all uses → IsSharedArray wide v n → IsSharedArray narrow v n
  shared_array v n xs h a = record { used = row_holds v n xs h a.used; some = a.some; most = a.most }

  mutual
    pub weak_expr : (e : Expr) → Holds (vars_in e) all uses → FineExpr wide e → FineExpr narrow e
    weak_expr (Num n) h f = tt
    weak_expr (Local slot) h f = f
    weak_expr (LocalAt slot n i place) h f = (array slot n f.0, weak_expr i h f.1)
    weak_expr (Var v) h f = holds_one v [] all uses h f
    weak_expr (SharedAt v n i place) h f = (shared_array v n (vars_in i) h f.0, weak_expr i (holds_right (count_up v n) (vars_in i) all uses h) f.1)
    weak_expr (TableAt t i place) h f = (f.0, weak_expr i h f.1)
    weak_expr (Un op a) h f = weak_expr a h f
    weak_expr (Bin op a b place) h f = (f.0, weak_expr a (holds_left (vars_in a) (vars_in b) all uses h) f.1, weak_expr b (holds_right (vars_in a) (vars_in b) all uses h) f.2)
    weak_expr (And a b) h f = (weak_expr a (holds_left (vars_in a) (vars_in b) all uses h) f.0, weak_expr b (holds_right (vars_in a) (vars_in b) all uses h) f.1)
    weak_expr (Or a b) h f = (weak_expr a (holds_left (vars_in a) (vars_in b) all uses h) f.0, weak_expr b (holds_right (vars_in a) (vars_in b) all uses h) f.1)
    weak_expr (Choose t a b) h f =
        let r = holds_right (vars_in t) (vars_in a ++ vars_in b) all uses h in (
          weak_expr t (holds_left (vars_in t) (vars_in a ++ vars_in b) all uses h) f.0,
          weak_expr a (holds_left (vars_in a) (vars_in b) all uses r) f.1,
          weak_expr b (holds_right (vars_in a) (vars_in b) all uses r) f.2,
        )
    weak_expr (Call g args) h f = (f.0, f.1, weak_exprs args h f.2)

    pub weak_exprs : (es : Exprs) → Holds (vars_all es) all uses → FineExprs wide es → FineExprs narrow es
    weak_exprs no_exprs h f = tt
    weak_exprs (more_exprs e rest) h f = (weak_expr e (holds_left (vars_in e) (vars_all rest) all uses h) f.0, weak_exprs rest (holds_right (vars_in e) (vars_all rest) all uses h) f.1)

  weak_spot : (x : Spot) → Holds (vars_spot x) all uses → FineSpot wide x → FineSpot narrow x
  weak_spot (spot.Local slot) h f = f
  weak_spot (spot.Variable v) h f = holds_one v [] all uses h f

  weak_branches : (bs : List Branch) → Holds (vars_launches bs) all uses → FineBranches wide bs → FineBranches narrow bs
  weak_branches [] h f = tt
  weak_branches (b ∷ bs) h f =
      let g = f.0 in
      (record { named = g.named; count = g.count; args = weak_exprs b.args (holds_left (vars_all b.args) (vars_launches bs) all uses h) g.args }, weak_branches bs (holds_right (vars_all b.args) (vars_launches bs) all uses h) f.1)

  mutual
    pub weak_stmt : (b : Bool) (x : Stmt) → Holds (vars_of x) all uses → FineStmt b wide x → FineStmt b narrow x
    weak_stmt b Nop h f = tt
    weak_stmt b (Set to e) h f = (weak_spot to (holds_left (vars_spot to) (vars_in e) all uses h) f.0, weak_expr e (holds_right (vars_spot to) (vars_in e) all uses h) f.1)
    weak_stmt b (SetAt slot n i e place) h f =
        (array slot n f.0, weak_expr i (holds_left (vars_in i) (vars_in e) all uses h) f.1, weak_expr e (holds_right (vars_in i) (vars_in e) all uses h) f.2)
    weak_stmt b (PutAt v n i e place) h f =
        let r = holds_right (count_up v n) (vars_in i ++ vars_in e) all uses h in (
          shared_array v n (vars_in i ++ vars_in e) h f.0,
          weak_expr i (holds_left (vars_in i) (vars_in e) all uses r) f.1,
          weak_expr e (holds_right (vars_in i) (vars_in e) all uses r) f.2,
        )
    weak_stmt b (Clear slot n) h f = array slot n f
    weak_stmt b (Seq list) h f = weak_stmts b list h f
    weak_stmt b (If e x y) h f =
        let r = holds_right (vars_in e) (vars_of x ++ vars_of y) all uses h in (
          weak_expr e (holds_left (vars_in e) (vars_of x ++ vars_of y) all uses h) f.0,
          weak_stmt b x (holds_left (vars_of x) (vars_of y) all uses r) f.1,
          weak_stmt b y (holds_right (vars_of x) (vars_of y) all uses r) f.2,
        )
    weak_stmt b (While e bound x place) h f = (f.0, weak_expr e (holds_left (vars_in e) (vars_of x) all uses h) f.1, weak_stmt b x (holds_right (vars_in e) (vars_of x) all uses h) f.2)
    weak_stmt b Pause h f = f
    weak_stmt b (Par bs) h f = (f.0, f.1, weak_branches bs h f.2)
    weak_stmt b (Enter weak immediate e x) h f = (f.0, weak_expr e (holds_left (vars_in e) (vars_of x) all uses h) f.1, weak_stmt b x (holds_right (vars_in e) (vars_of x) all uses h) f.2)
    weak_stmt b (Return e) h f = (f.0, weak_expr e h f.1)

    pub weak_stmts : (b : Bool) (list : Stmts) → Holds (vars_list list) all uses → FineStmts b wide list → FineStmts b narrow list
    weak_stmts b no_stmts h f = tt
    weak_stmts b (more_stmts x rest) h f = (weak_stmt b x (holds_left (vars_of x) (vars_list rest) all uses h) f.0, weak_stmts b rest (holds_right (vars_of x) (vars_list rest) all uses h) f.1)
