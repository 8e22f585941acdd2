-- The branches of a `par`, one after the other.
use Rattle.std.proofs.Common.{ℕ, ◌+◌, ◌<◌, ◌≡◌, ◌∙◌, sym, ap, refl, List, ◌∷◌, length, get_or, drop, add-one}
use Rattle.std.proofs.Math.Seq.{drop-cons}
use Rattle.forec_base.specs.declared.Place.{Place}
use Rattle.forec_tree.specs.Terms as plain
use Rattle.forec_tree.specs.Plain.{terms, statements, branches, branch_with}
use Rattle.forec_tree.specs.declared.tree.Name.{Name}
use Rattle.forec_tree.specs.declared.tree.Expr.{Expr}
use Rattle.forec_tree.specs.declared.tree.Stmt.{Stmt}
use Rattle.forec_tree.specs.declared.tree.Branch.{Branch}
use Rattle.forec_tree.specs.declared.tree.Branch as branch
use Rattle.forec_tree.proofs.Rows.{branch-group}

module _ {A : Type 0} (F : plain.Branches → A) where
  -- a call of a function, and what stands after it
  pub call_first : (list : List Branch) (i : ℕ) (x : Branch) (name : Name) (args : List Expr) → i < length list → get_or list i x ≡ x → x ≡ branch.Call name args →
      F (branches (drop i list)) ≡ F (plain.by_call name (terms args) (branches (drop (i + 1) list)))
  call_first list i x name args h e k =
      let d : drop i list ≡ x ∷ drop (i + 1) list = drop-cons list i x h ∙ rw (e, add-one) refl in
      ap (λ l. F (branches l)) d ∙ ap (λ b. F (branch_with b (branches (drop (i + 1) list)))) k

  -- a block, and what stands after it
  pub group_first : (list : List Branch) (i : ℕ) (x : Branch) (place : Place) (body slice : List Stmt) → i < length list → get_or list i x ≡ x →
      x ≡ branch.Group place body → slice ≡ body →
      F (branches (drop i list)) ≡ F (plain.by_group place (statements slice) (branches (drop (i + 1) list)))
  group_first list i x place body slice h e k s =
      let d : drop i list ≡ x ∷ drop (i + 1) list = drop-cons list i x h ∙ rw (e, add-one) refl in
      ap (λ l. F (branches l)) d ∙ ap (λ b. F (branch_with b (branches (drop (i + 1) list)))) k
      ∙ ap F (branch-group place body (branches (drop (i + 1) list)))
      ∙ ap (λ l. F (plain.by_group place (statements l) (branches (drop (i + 1) list)))) (sym s)
