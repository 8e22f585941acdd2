-- Lists of terms that grow while a list is folded.
use Rattle.std.proofs.Common.{ℕ, ◌+◌, ◌<◌, ◌≤◌, ◌≡◌, ◌∙◌, sym, ap, refl, Bool, true, false, cond, List, [], ◌∷◌, ◌++◌, length, get_or, drop, add-one, arith}
use Rattle.std.proofs.Math.Seq.{drop-cons}
use Rattle.std.proofs.lemmas.List.{drop_all}
use Rattle.forec_kernel.specs.Terms.{Exprs, no_exprs, more_exprs, Stmt, Stmts, Seq, no_stmts, more_stmts}
use Rattle.forec_kernel.specs.Plain.{expr, exprs, stmt, stmts}
use Rattle.forec_kernel.specs.declared.terms.Expression.{Expression}
use Rattle.forec_kernel.specs.declared.terms.Statement.{Statement}
use Rattle.forec_kernel.proofs.VecTerms.{joined_none, pushed}
pub use Rattle.forec_kernel.proofs.VecTerms.{joined}
use Rattle.fold_laws.specs.Folding.{fold_expr, fold_exprs, is_nop, unless_nop, in_sequence, then_stmts, fold_stmt, fold_stmts}

pub terms_step : (items : List Expression) (i : ℕ) (a : Expression) (xs ys : List Expression) (x : Expression) (whole : Exprs) →
    i < length items → get_or items i a ≡ a → expr x ≡ fold_expr (expr a) → ys ≡ xs ++ x ∷ [] →
    joined (exprs xs) (fold_exprs (exprs (drop i items))) ≡ whole → joined (exprs ys) (fold_exprs (exprs (drop (i + 1) items))) ≡ whole
terms_step items i a xs ys x whole h e g p w =
    let rest = fold_exprs (exprs (drop (i + 1) items)) in
    let d : drop i items ≡ a ∷ drop (i + 1) items = drop-cons items i a h ∙ rw (e, add-one) refl in
    ap (λ q. joined (exprs q) rest) p ∙ pushed xs x rest ∙ ap (λ k. joined (exprs xs) (more_exprs k rest)) g
    ∙ sym (ap (λ q. joined (exprs xs) (fold_exprs (exprs q))) d) ∙ w

pub terms_end : (items : List Expression) (i : ℕ) (xs : List Expression) (whole : Exprs) → length items ≤ i →
    joined (exprs xs) (fold_exprs (exprs (drop i items))) ≡ whole → exprs xs ≡ whole
terms_end items i xs whole h w =
    sym (joined_none (exprs xs)) ∙ ap (λ q. joined (exprs xs) (fold_exprs (exprs q))) (sym (drop_all i items h)) ∙ w

-- ---- statements

then_none : (a : Stmts) → then_stmts a no_stmts ≡ a
then_none no_stmts = refl
then_none (more_stmts s a) = ap (more_stmts s) (then_none a)

then_then : (a b c : Stmts) → then_stmts (then_stmts a b) c ≡ then_stmts a (then_stmts b c)
then_then no_stmts b c = refl
then_then (more_stmts s a) b c = ap (more_stmts s) (then_then a b c)

then_unless : (x : Stmt) (rest : Stmts) → then_stmts (unless_nop x no_stmts) rest ≡ unless_nop x rest
then_unless x rest = pick (is_nop x)
  where
    pick : (b : Bool) → then_stmts (cond b no_stmts (more_stmts x no_stmts)) rest ≡ cond b rest (more_stmts x rest)
    pick true = refl
    pick false = refl

-- one statement more
pub stmts_pushed : (xs : List Statement) (x : Statement) → stmts (xs ++ x ∷ []) ≡ then_stmts (stmts xs) (more_stmts (stmt x) no_stmts)
stmts_pushed [] x = refl
stmts_pushed (y ∷ xs) x = ap (more_stmts (stmt y)) (stmts_pushed xs x)

pub pushed_none : (xs : List Statement) (x : Statement) → is_nop (stmt x) ≡ true → stmts xs ≡ then_stmts (stmts xs) (unless_nop (stmt x) no_stmts)
pushed_none xs x e = sym (ap (λ b. then_stmts (stmts xs) (cond b no_stmts (more_stmts (stmt x) no_stmts))) e ∙ then_none (stmts xs))

pub pushed_one : (xs ys : List Statement) (x : Statement) → is_nop (stmt x) ≡ false → ys ≡ xs ++ x ∷ [] →
    stmts ys ≡ then_stmts (stmts xs) (unless_nop (stmt x) no_stmts)
pushed_one xs ys x e p =
    ap stmts p ∙ stmts_pushed xs x ∙ sym (ap (λ b. then_stmts (stmts xs) (cond b no_stmts (more_stmts (stmt x) no_stmts))) e)

pub stmts_step : (items : List Statement) (i : ℕ) (a : Statement) (xs ys : List Statement) (x : Statement) (whole : Stmts) →
    i < length items → get_or items i a ≡ a → stmt x ≡ fold_stmt (stmt a) → stmts ys ≡ then_stmts (stmts xs) (unless_nop (stmt x) no_stmts) →
    then_stmts (stmts xs) (fold_stmts (stmts (drop i items))) ≡ whole → then_stmts (stmts ys) (fold_stmts (stmts (drop (i + 1) items))) ≡ whole
stmts_step items i a xs ys x whole h e g p w =
    let rest = fold_stmts (stmts (drop (i + 1) items)) in
    let d : drop i items ≡ a ∷ drop (i + 1) items = drop-cons items i a h ∙ rw (e, add-one) refl in
    ap (λ q. then_stmts q rest) p ∙ then_then (stmts xs) (unless_nop (stmt x) no_stmts) rest ∙ ap (then_stmts (stmts xs)) (then_unless (stmt x) rest)
    ∙ ap (λ k. then_stmts (stmts xs) (unless_nop k rest)) g ∙ sym (ap (λ q. then_stmts (stmts xs) (fold_stmts (stmts q))) d) ∙ w

pub stmts_end : (items : List Statement) (i : ℕ) (xs : List Statement) (whole : Stmts) → length items ≤ i →
    then_stmts (stmts xs) (fold_stmts (stmts (drop i items))) ≡ whole → stmts xs ≡ whole
stmts_end items i xs whole h w =
    sym (then_none (stmts xs)) ∙ ap (λ q. then_stmts (stmts xs) (fold_stmts (stmts q))) (sym (drop_all i items h)) ∙ w

-- a list of two or more is a sequence
pub long_sequence : (list : List Statement) → 1 < length list → Seq (stmts list) ≡ in_sequence (stmts list)
long_sequence [] h = absurd (omega arith)
long_sequence (x ∷ []) h = absurd (omega arith)
long_sequence (x ∷ y ∷ rest) h = refl
