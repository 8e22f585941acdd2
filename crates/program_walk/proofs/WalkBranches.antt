-- The walk of loops, optional parts and branches.
use Rattle.std.proofs.Common.{ℕ, ◌+◌, ◌<◌, ◌≤◌, ◌≡◌, ◌∙◌, sym, ap, refl, Option, Some, None, List, [], ◌∷◌, ◌++◌, length, get_or, drop, add-one, append_assoc, append-nil}
use Rattle.std.proofs.Math.Seq.{drop-cons}
use Rattle.std.proofs.lemmas.List.{drop_all}
use Rattle.std.specs.declared.boxed.Box.{Box}
use Rattle.std.specs.declared.alloc.Global.{Global}
use Rattle.forec_base.specs.declared.Place.{Place}
use Rattle.forec_tree.specs.Terms as plain
use Rattle.forec_tree.specs.Terms.{Text}
use Rattle.forec_tree.specs.Scopes.{Scope, no_scope, inner_scope, after_perhaps}
use Rattle.forec_tree.specs.declared.tree.Name.{Name}
use Rattle.forec_tree.specs.declared.tree.Number.{Number}
use Rattle.forec_tree.specs.declared.tree.Expr.{Expr}
use Rattle.forec_tree.specs.declared.tree.Stmt.{Stmt}
use Rattle.forec_tree.specs.declared.tree.StmtKind.{StmtKind}
use Rattle.forec_tree.specs.declared.tree.Branch as branch
use Rattle.forec_tree.specs.declared.tree.Branch.{Branch}
use Rattle.forec_tree.specs.declared.uses.How.TheVariants.{Starts}
use Rattle.forec_tree.specs.Plain.{term, terms, optional_term, statement, statements, statement_at, statement_row, branches, branch_with}
use Rattle.forec_tree.specs.Findings.{Finding, Loop, Opens, Closes, use_at, in_bound, in_terms, in_optional, in_statement, in_statements, in_perhaps, in_branches}
use Rattle.forec_tree.specs.Rules.{Judging}
use Rattle.forec_tree.proofs.Rows.{branch-group}
use Rattle.forec_tree.specs.Plain.{perhaps_of}
use Rattle.program_walk.specs.Walk.{NotesView, walked}
use Rattle.program_walk.proofs.WalkLemmas.{walked-append, walked-none, passed_loop}
use Rattle.program_walk.proofs.Parts.{two, three, then, count_is}

module _ (j : Judging) (text : Text) (s : Scope) where
  pub no_statement : (kept : NotesView) (o : Option (Box Stmt Global)) → o ≡ None → kept ≡ walked j (in_perhaps text s (perhaps_of o)) kept
  no_statement kept o h = sym (walked-none j kept) ∙ ap (λ x. walked j (in_perhaps text s (perhaps_of x)) kept) (sym h)

  -- another spelling of the scope
  pub perhaps_in : (r : Scope) (kept new : NotesView) (o : plain.Perhaps) → r ≡ s → new ≡ walked j (in_perhaps text r o) kept → new ≡ walked j (in_perhaps text s o) kept
  perhaps_in r kept new o h g = g ∙ ap (λ x. walked j (in_perhaps text x o) kept) h

  pub optional_in : (r : Scope) (kept new : NotesView) (o : Option plain.Term) → r ≡ s → new ≡ walked j (in_optional text r o) kept → new ≡ walked j (in_optional text s o) kept
  optional_in r kept new o h g = g ∙ ap (λ x. walked j (in_optional text x o) kept) h

  pub body_in : (r : Scope) (kept new : NotesView) (a b : Stmt) → r ≡ s → a ≡ b → new ≡ walked j (in_statement text r (statement a)) kept →
      new ≡ walked j (in_statement text s (statement b)) kept
  body_in r kept new a b h e g = g ∙ ap (λ x. walked j (in_statement text x (statement a)) kept) h ∙ ap (λ x. walked j (in_statement text s (statement x)) kept) e

  pub for_is : (k1 k2 k3 k4 k5 k6 : NotesView) (loop : plain.Statement) (bound : Option Number) (a b d e : List Finding) →
      k2 ≡ walked j (in_bound bound) k1 → k3 ≡ walked j a k2 → k4 ≡ walked j b k3 → k5 ≡ walked j d k4 → k6 ≡ walked j e k5 →
      k6 ≡ walked j (Loop loop ∷ in_bound bound ++ (a ++ (b ++ (d ++ e)))) k1
  for_is k1 k2 k3 k4 k5 k6 loop bound a b d e h2 h3 h4 h5 h6 =
      then j (Loop loop) (in_bound bound ++ (a ++ (b ++ (d ++ e)))) k1 k1 k6 (passed_loop j loop k1)
      (three j (in_bound bound) a (b ++ (d ++ e)) k1 k2 k3 k6 h2 h3 (three j b d e k3 k4 k5 k6 h4 h5 h6))

  -- ---- branches

  pub branch_call : (kept one new : NotesView) (b : Branch) (name : Name) (args list : List Expr) (n : ℕ) → b ≡ branch.Call name args → n ≡ length args → list ≡ args →
      one ≡ walked j (use_at text s (Starts n) name ∷ []) kept → new ≡ walked j (in_terms text s (terms list)) one →
      new ≡ walked j (in_branches text s (branches (b ∷ []))) kept
  branch_call kept one new b name args list n hb hn hl g f =
      then j (use_at text s (Starts (plain.count_terms (terms args))) name) (in_terms text s (terms args) ++ []) kept one new
      (g ∙ ap (λ m. walked j (use_at text s (Starts m) name ∷ []) kept) (hn ∙ sym (count_is args)))
      (two j (in_terms text s (terms args)) [] one new new (f ∙ ap (λ x. walked j (in_terms text s (terms x)) one) hl) (sym (walked-none j new)))
      ∙ ap (λ x. walked j (in_branches text s (branch_with x plain.no_branches)) kept) (sym hb)

  pub branch_block : (kept one next new : NotesView) (b : Branch) (place : Place) (body list : List Stmt) → b ≡ branch.Group place body → list ≡ body →
      one ≡ walked j (Opens ∷ []) kept → next ≡ walked j (in_statements text no_scope (statements list)) one → new ≡ walked j (Closes ∷ []) next →
      new ≡ walked j (in_branches text s (branches (b ∷ []))) kept
  branch_block kept one next new b place body list hb hl g f e =
      then j Opens (in_statements text no_scope (statements body) ++ Closes ∷ []) kept one new g
      (two j (in_statements text no_scope (statements body)) (Closes ∷ []) one next new (f ∙ ap (λ x. walked j (in_statements text no_scope (statements x)) one) hl) e)
      ∙ ap (λ x. walked j (in_branches text s x) kept) (sym (branch-group place body plain.no_branches))
      ∙ ap (λ x. walked j (in_branches text s (branch_with x plain.no_branches)) kept) (sym hb)

  -- the first branch, and the others
  rest_call : (name : Name) (args : plain.Terms) (rest : plain.Branches) →
      in_branches text s (plain.by_call name args rest) ≡ in_branches text s (plain.by_call name args plain.no_branches) ++ in_branches text s rest
  rest_call name args rest =
      ap (λ r. use_at text s (Starts (plain.count_terms args)) name ∷ r)
      (ap (λ x. x ++ in_branches text s rest) (sym (append-nil (in_terms text s args))))

  rest_block : (place : Place) (body : plain.Statements) (rest : plain.Branches) →
      in_branches text s (plain.by_group place body rest) ≡ in_branches text s (plain.by_group place body plain.no_branches) ++ in_branches text s rest
  rest_block place body rest =
      ap (λ r. Opens ∷ r) (sym (append_assoc (in_statements text no_scope body) (Closes ∷ []) (in_branches text s rest)))

  rest_of : (b : Branch) (rest : plain.Branches) →
      in_branches text s (branch_with b rest) ≡ in_branches text s (branch_with b plain.no_branches) ++ in_branches text s rest
  rest_of (branch.Call name args) rest = rest_call name (terms args) rest
  rest_of (branch.Group' place shape body) rest = rest_block place (statement_row body) rest

  pub branches_step : (items : List Branch) (i : ℕ) (x : Branch) (r : Scope) (kept new whole : NotesView) → i < length items → get_or items i x ≡ x → r ≡ s →
      new ≡ walked j (in_branches text r (branches (x ∷ []))) kept → walked j (in_branches text s (branches (drop i items))) kept ≡ whole →
      walked j (in_branches text s (branches (drop (i + 1) items))) new ≡ whole
  branches_step items i x r kept new whole h e hr g w =
      let rest = drop (i + 1) items in
      let d : drop i items ≡ x ∷ rest = drop-cons items i x h ∙ rw (e, add-one) refl in
      let a : walked j (in_branches text s (branches (drop i items))) kept
      ≡ walked j (in_branches text s (branches rest)) (walked j (in_branches text s (branches (x ∷ []))) kept) =
      ap (λ xs. walked j (in_branches text s (branches xs)) kept) d ∙ ap (λ l. walked j l kept) (rest_of x (branches rest))
      ∙ walked-append j (in_branches text s (branches (x ∷ []))) (in_branches text s (branches rest)) kept in
      ap (walked j (in_branches text s (branches rest))) (g ∙ ap (λ q. walked j (in_branches text q (branches (x ∷ []))) kept) hr) ∙ sym a ∙ w

  pub branches_end : (items : List Branch) (i : ℕ) (kept whole : NotesView) → length items ≤ i →
      walked j (in_branches text s (branches (drop i items))) kept ≡ whole → kept ≡ whole
  branches_end items i kept whole h w =
      sym (walked-none j kept) ∙ ap (λ xs. walked j (in_branches text s (branches xs)) kept) (sym (drop_all i items h)) ∙ w
