-- Lists of kernel terms that grow while a list of the tree is lowered.
use Rattle.std.proofs.Common.{ℕ, ◌+◌, ◌<◌, ◌≤◌, ◌≡◌, ◌∙◌, sym, ap, refl, List, [], ◌∷◌, ◌++◌, length, get_or, drop, add-one, Vec, Global}
use Rattle.std.proofs.Math.Seq.{drop-cons}
use Rattle.std.proofs.lemmas.List.{drop_all}
use Rattle.forec_tree.specs.declared.tree.Name.{Name}
use Rattle.forec_tree.specs.declared.tree.Expr as tree
use Rattle.forec_tree.specs.declared.tree.ExprKind as tree_kind
use Rattle.forec_tree.specs.Plain.{term, terms, term_at}
use Rattle.forec_tree.specs.Terms.{Text}
use Rattle.forec_tree.proofs.Rows.{term-call}
use Rattle.forec_kernel.specs.Terms as kernel
use Rattle.forec_kernel.specs.Terms.{Exprs, more_exprs}
use Rattle.forec_kernel.specs.Plain.{expr, exprs}
use Rattle.forec_kernel.specs.declared.terms.Expression.{Expression, Call}
use Rattle.forec_kernel.proofs.VecTerms.{expr-call, joined, joined_none, pushed}
use Rattle.text_kernel.specs.declared.names.Slot.{Slot}
use Rattle.text_kernel.specs.Bindings.{number_among, is_int_function}
use Rattle.text_kernel.specs.Lowering.{lower_term, lower_terms}

module _ (text : Text) (s : List Slot) where
  pub terms_step : (items : List tree.Expr) (i : ℕ) (a : tree.Expr) (xs ys : List Expression) (x : Expression) (whole : Exprs) →
      i < length items → get_or items i a ≡ a → expr x ≡ lower_term text s (term a) → ys ≡ xs ++ x ∷ [] →
      joined (exprs xs) (lower_terms text s (terms (drop i items))) ≡ whole →
      joined (exprs ys) (lower_terms text s (terms (drop (i + 1) items))) ≡ whole
  terms_step items i a xs ys x whole h e g p w =
      let rest = lower_terms text s (terms (drop (i + 1) items)) in
      let d : drop i items ≡ a ∷ drop (i + 1) items = drop-cons items i a h ∙ rw (e, add-one) refl in
      ap (λ q. joined (exprs q) rest) p ∙ pushed xs x rest ∙ ap (λ k. joined (exprs xs) (more_exprs k rest)) g
      ∙ sym (ap (λ q. joined (exprs xs) (lower_terms text s (terms q))) d) ∙ w

  pub terms_end : (items : List tree.Expr) (i : ℕ) (xs : List Expression) (whole : Exprs) → length items ≤ i → joined (exprs xs) (lower_terms text s (terms (drop i items))) ≡ whole → exprs xs ≡ whole
  terms_end items i xs whole h w =
      sym (joined_none (exprs xs)) ∙ ap (λ q. joined (exprs xs) (lower_terms text s (terms q))) (sym (drop_all i items h)) ∙ w

  pub call_done : (function : ℕ) (list : Vec Expression Global) (args items : List tree.Expr) (name : Name) (e : tree.Expr) → e.what ≡ tree_kind.Call name args → items ≡ args →
      function ≡ number_among is_int_function name.id text → exprs list.items ≡ lower_terms text s (terms items) → expr (Call function list) ≡ lower_term text s (term e)
  call_done function list args items name e is same f w =
      expr-call function list ∙ (ap (kernel.Call function) (w ∙ ap (λ q. lower_terms text s (terms q)) same)
      ∙ (ap (λ n. kernel.Call n (lower_terms text s (terms args))) f ∙ (ap (lower_term text s) (sym (term-call name args e.place)) ∙ ap (λ w. lower_term text s (term_at w e.place)) (sym is))))
