-- Evaluation goes down: a term's parts are less deep, and a call of a body is one level down.
use Rattle.std.proofs.Common.{ℕ, zero, suc, ◌+◌, ◌-◌, ◌*◌, ◌<◌, ◌≤◌, ◌≡◌, max, List, [], ◌∷◌, length, get_or, ap, sym, ◌∙◌, Vec, Global, arith}
use Rattle.forec_kernel.specs.Plain.{expr, exprs, stmt, stmts}
use Rattle.forec_kernel.specs.WellFormed.{expr_depth, exprs_depth, stmt_depth, stmts_depth}
use Rattle.forec_kernel.specs.declared.shape.KernelParts.{KernelParts}
use Rattle.forec_kernel.specs.declared.terms.Expression.{Expression, Call}
use Rattle.forec_kernel.specs.declared.terms.Statement.{Statement, Sequence}
use Rattle.forec_kernel.proofs.VecTerms.{expr-call, stmt-sequence}

-- the greatest depth of several bodies
abbrev pub deepest : List Statement → ℕ
deepest [] = 0
deepest (s ∷ ss) = max (stmt_depth (stmt s)) (deepest ss)

-- what stands below so many levels of calls
abbrev pub below_calls : KernelParts → ℕ → ℕ
below_calls k deep = deep * (2 * deepest k.functions.items + 2)

pub expression_within : (xs : List Expression) (i : ℕ) (x : Expression) → i < length xs → x ≡ get_or xs i x → expr_depth (expr x) ≤ exprs_depth (exprs xs)
expression_within xs i x h read =
    let at : expr_depth (expr x) ≡ expr_depth (expr (get_or xs i x)) = ap (λ y. expr_depth (expr y)) read in
    omega (arith, within xs i x h)
  where
    within : (xs : List Expression) (i : ℕ) (d : Expression) → i < length xs → expr_depth (expr (get_or xs i d)) ≤ exprs_depth (exprs xs)
    within [] i d h = absurd (omega arith)
    within (x ∷ xs) zero d h = omega arith
    within (x ∷ xs) (suc i) d h = omega (arith, within xs i d (omega arith))

pub statement_within : (xs : List Statement) (i : ℕ) (x : Statement) → i < length xs → x ≡ get_or xs i x → stmt_depth (stmt x) ≤ stmts_depth (stmts xs)
statement_within xs i x h read =
    let at : stmt_depth (stmt x) ≡ stmt_depth (stmt (get_or xs i x)) = ap (λ y. stmt_depth (stmt y)) read in
    omega (arith, within xs i x h)
  where
    within : (xs : List Statement) (i : ℕ) (d : Statement) → i < length xs → stmt_depth (stmt (get_or xs i d)) ≤ stmts_depth (stmts xs)
    within [] i d h = absurd (omega arith)
    within (x ∷ xs) zero d h = omega arith
    within (x ∷ xs) (suc i) d h = omega (arith, within xs i d (omega arith))

body_within : (bodies : List Statement) (i : ℕ) (d : Statement) → i < length bodies → stmt_depth (stmt (get_or bodies i d)) ≤ deepest bodies
body_within [] i d h = absurd (omega arith)
body_within (b ∷ bs) zero d h = omega arith
body_within (b ∷ bs) (suc i) d h = omega (arith, body_within bs i d (omega arith))

one_less : (deep n : ℕ) → 0 < deep → (deep - 1) * n + n ≡ deep * n
one_less zero n h = absurd (omega arith)
one_less (suc m) n h = let e : suc m - 1 ≡ m = omega arith in rw e (grind arith)

-- a call of a body, one level down
pub call_falls : (k : KernelParts) (deep i : ℕ) (x : Statement) → 0 < deep → i < length k.functions.items → x ≡ get_or k.functions.items i x →
    below_calls k (deep - 1) + 2 * stmt_depth (stmt x) < below_calls k deep
call_falls k deep i x some h read =
    let bodies = k.functions.items in
    let at : stmt_depth (stmt x) ≡ stmt_depth (stmt (get_or bodies i x)) = ap (λ y. stmt_depth (stmt y)) read in
    let within = body_within bodies i x h in
    let level = one_less deep (2 * deepest bodies + 2) some in
    omega arith

pub call_depth : (f : ℕ) (args : Vec Expression Global) (e : Expression) (xs : List Expression) → e ≡ Call f args → xs ≡ args.items →
    expr_depth (expr e) ≡ 1 + exprs_depth (exprs xs)
call_depth f args e xs is items = ap (λ y. expr_depth (expr y)) is ∙ ap expr_depth (expr-call f args) ∙ ap (λ ys. 1 + exprs_depth (exprs ys)) (sym items)

pub sequence_depth : (list : Vec Statement Global) (s : Statement) (xs : List Statement) → s ≡ Sequence list → xs ≡ list.items →
    stmt_depth (stmt s) ≡ 1 + stmts_depth (stmts xs)
sequence_depth list s xs is items = ap (λ y. stmt_depth (stmt y)) is ∙ ap stmt_depth (stmt-sequence list) ∙ ap (λ ys. 1 + stmts_depth (stmts ys)) (sym items)
