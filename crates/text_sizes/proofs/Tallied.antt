-- Terms of calls, and of sequences, at a cap.
use Rattle.std.proofs.Common.{ℕ, suc, ◌-◌, ◌^◌, ◌≡◌, ◌∙◌, min, sym, ap, refl, List, [], ◌∷◌, length}
use Rattle.forec_tree.specs.declared.tree.Name.{Name}
use Rattle.forec_tree.specs.declared.tree.Expr as tree_expr
use Rattle.forec_tree.specs.declared.tree.ExprKind as tree_kind
use Rattle.forec_tree.specs.declared.tree.Stmt.{Stmt}
use Rattle.forec_tree.specs.Plain as tree_plain
use Rattle.forec_tree.specs.Terms as tree
use Rattle.forec_tree.proofs.Rows.{term-call}
use Rattle.text_sizes.specs.TermCounts.{sequence_count, statement_count}
use Rattle.text_sizes.proofs.Nearby.{sequence_near}

pub of_tree_call : {A : Type 0} (F : tree.Term → A) (e : tree_expr.Expr) (name : Name) (args slice : List tree_expr.Expr) → e.what ≡ tree_kind.Call name args → slice ≡ args →
    F (tree.Call e.place name (tree_plain.terms slice)) ≡ F (tree_plain.term e)
of_tree_call F e name args slice is same =
    ap (λ l. F (tree.Call e.place name (tree_plain.terms l))) same ∙ ap F (sym (term-call name args e.place)) ∙ ap (λ w. F (tree_plain.term_at w e.place)) (sym is)

pub sequence_as_near : (r n k x y : ℕ) → r ≡ min (sequence_count n x) (2 ^ 64 - 1) → n ≡ k → min x (2 ^ 64 - 1) ≡ min y (2 ^ 64 - 1) → r ≡ min (sequence_count k y) (2 ^ 64 - 1)
sequence_as_near r n k x y e d h = e ∙ (ap (λ m. min (sequence_count m x) (2 ^ 64 - 1)) d ∙ sequence_near (2 ^ 64 - 1) k x y h)

pub terms_length : (es : List tree_expr.Expr) → length es ≡ tree.count_terms (tree_plain.terms es)
terms_length [] = refl
terms_length (e ∷ es) = ap suc (terms_length es)

pub statements_length : (ss : List Stmt) → length ss ≡ statement_count (tree_plain.statements ss)
statements_length [] = refl
statements_length (s ∷ ss) = ap suc (statements_length ss)
