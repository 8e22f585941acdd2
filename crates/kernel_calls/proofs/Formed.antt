-- A fact of an expression or a statement whose kind is known.
use Rattle.std.proofs.Common.{ℕ, ◌≡◌, ◌∙◌, sym, ap, List, Vec, Global}
use Rattle.forec_kernel.specs.Terms as kernel
use Rattle.forec_kernel.specs.Plain.{expr, exprs, stmt, stmts}
use Rattle.forec_kernel.specs.declared.terms.Expression as rust_expr
use Rattle.forec_kernel.specs.declared.terms.Statement as rust_stmt
use Rattle.forec_kernel.proofs.VecTerms.{expr-call, stmt-sequence}

pub of_call : {A : Type 0} (F : kernel.Expr → A) (e : rust_expr.Expression) (f : ℕ) (args : Vec rust_expr.Expression Global) (slice : List rust_expr.Expression) → e ≡ rust_expr.Call f args → slice ≡ args.items →
    F (kernel.Call f (exprs slice)) ≡ F (expr e)
of_call F e f args slice is same = ap (λ l. F (kernel.Call f (exprs l))) same ∙ ap F (sym (ap expr is ∙ expr-call f args))

pub of_sequence : {A : Type 0} (F : kernel.Stmt → A) (s : rust_stmt.Statement) (list : Vec rust_stmt.Statement Global) (slice : List rust_stmt.Statement) → s ≡ rust_stmt.Sequence list → slice ≡ list.items →
    F (kernel.Seq (stmts slice)) ≡ F (stmt s)
of_sequence F s list slice is same = ap (λ l. F (kernel.Seq (stmts l))) same ∙ ap F (sym (ap stmt is ∙ stmt-sequence list))
