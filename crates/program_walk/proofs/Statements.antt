-- The faults of statements, part by part.
use Rattle.std.proofs.Common.{ℕ, ◌+◌, ◌<◌, ◌≤◌, ◌≡◌, ◌∙◌, sym, ap, refl, Bool, true, false, cond, Option, Some, None, List, [], ◌∷◌, ◌++◌, length, get_or, drop, add-one, map}
use Rattle.forec_base.specs.declared.Place.{Place}
use Rattle.forec_tree.specs.declared.tree.Name.{Name}
use Rattle.forec_tree.specs.declared.tree.Expr.{Expr}
use Rattle.forec_tree.specs.declared.tree.Target.{Target}
use Rattle.forec_tree.specs.declared.uses.How.TheVariants.{Writes, WritesAt, Runs}
use Rattle.forec_tree.specs.Terms.{Text}
use Rattle.forec_tree.specs.Scopes.{Scope, inner_scope, after, with_name, with_locals, is_array, is_among}
use Rattle.forec_tree.specs.Terms as plain
use Rattle.forec_tree.specs.declared.tree.Stmt.{Stmt}
use Rattle.forec_tree.specs.declared.tree.Local.{Local}
use Rattle.forec_tree.specs.declared.tree.Number.{Number}
use Rattle.forec_tree.specs.declared.tree.StmtKind.{StmtKind, Group, Abort, If}
use Rattle.std.specs.declared.boxed.Box.{Box}
use Rattle.std.specs.declared.alloc.Global.{Global}
use Rattle.forec_tree.specs.Plain.{term, terms, written_target, optional_term, declared, statement, statements, statement_at}
use Rattle.forec_tree.specs.Findings.{Finding, Declares, Loop, Synchronous, use_at, in_term, in_terms, in_target, in_bound, in_local, in_locals, in_statement, in_statements}
use Rattle.forec_tree.specs.Rules.{Judging}
use Rattle.program_walk.specs.Walk.{NotesView, walked}
use Rattle.program_walk.proofs.WalkLemmas.{walked-append, walked-none, passed_loop}
use Rattle.forec_tree.proofs.Rows.{statement-group, statement-abort}
use Rattle.std.proofs.Math.Seq.{drop-cons}
use Rattle.std.proofs.lemmas.List.{drop_all}
use Rattle.program_walk.proofs.Parts.{two, three, then, count_is}

module _ (j : Judging) (text : Text) (s : Scope) where
  abbrev target_as : Name → Option Expr → List Finding
  target_as name index = in_target text s (record { name = name; index = optional_term index })

  pub target_none : (t : Target) (kept new : NotesView) → t.index ≡ None → new ≡ walked j (use_at text s Writes t.name ∷ []) kept →
      new ≡ walked j (in_target text s (written_target t)) kept
  target_none t kept new h g = g ∙ ap (λ i. walked j (target_as t.name i) kept) (sym h)

  pub target_some : (t : Target) (i : Expr) (kept one new : NotesView) → t.index ≡ Some i → one ≡ walked j (use_at text s WritesAt t.name ∷ []) kept →
      new ≡ walked j (in_term text s (term i)) one → new ≡ walked j (in_target text s (written_target t)) kept
  target_some t i kept one new h g f =
      then j (use_at text s WritesAt t.name) (in_term text s (term i)) kept one new g f ∙ ap (λ x. walked j (target_as t.name x) kept) (sym h)

  pub of_statement : (kept new : NotesView) (st : Stmt) (w : StmtKind) → st.what ≡ w →
      new ≡ walked j (in_statement text s (statement_at w st.place)) kept → new ≡ walked j (in_statement text s (statement st)) kept
  of_statement kept new st w h g = g ∙ ap (λ x. walked j (in_statement text s (statement_at x st.place)) kept) (sym h)

  pub group_is : (kept new : NotesView) (at : Place) (body list : List Stmt) → list ≡ body →
      new ≡ walked j (in_statements text (inner_scope s) (statements list)) kept →
      new ≡ walked j (in_statement text s (statement_at (Group body) at)) kept
  group_is kept new at body list h g =
      g ∙ ap (λ x. walked j (in_statements text (inner_scope s) (statements x)) kept) h
      ∙ ap (λ x. walked j (in_statement text s x) kept) (sym (statement-group body at))

  pub declare_is : (kept new : NotesView) (all list : List Local) → list ≡ all →
      new ≡ walked j (in_locals text s (map declared list)) kept → new ≡ walked j (in_locals text s (map declared all)) kept
  declare_is kept new all list h g = g ∙ ap (λ x. walked j (in_locals text s (map declared x)) kept) h

  pub run_is : (kept one new : NotesView) (name : Name) (args list : List Expr) (n : ℕ) → n ≡ length args → list ≡ args →
      one ≡ walked j (use_at text s (Runs n) name ∷ []) kept → new ≡ walked j (in_terms text s (terms list)) one →
      new ≡ walked j (use_at text s (Runs (plain.count_terms (terms args))) name ∷ in_terms text s (terms args)) kept
  run_is kept one new name args list n hn hl g f =
      then j (use_at text s (Runs (plain.count_terms (terms args))) name) (in_terms text s (terms args)) kept one new
      (g ∙ ap (λ m. walked j (use_at text s (Runs m) name ∷ []) kept) (hn ∙ sym (count_is args)))
      (f ∙ ap (λ x. walked j (in_terms text s (terms x)) one) hl)

  -- a statement inside that was read through a box
  pub inside : (r : Scope) (kept new : NotesView) (a b : Stmt) → r ≡ s → a ≡ b →
      new ≡ walked j (in_statement text (inner_scope r) (statement a)) kept → new ≡ walked j (in_statement text (inner_scope s) (statement b)) kept
  inside r kept new a b q h g =
      g ∙ ap (λ x. walked j (in_statement text (inner_scope r) (statement x)) kept) h ∙ ap (λ x. walked j (in_statement text (inner_scope x) (statement b)) kept) q

  -- the scope is the same again after a part
  pub last : (kept new : NotesView) (a : List Finding) → new ≡ walked j a kept → new ≡ walked j (a ++ []) kept
  last kept new a h = two j a [] kept new new h (sym (walked-none j new))

  pub if_none : (kept one new : NotesView) (test : Expr) (yes : Box Stmt Global) (no : Option (Box Stmt Global)) (at : Place) → no ≡ None →
      one ≡ walked j (in_term text s (term test)) kept → new ≡ walked j (in_statement text (inner_scope s) (statement yes.value)) one →
      new ≡ walked j (in_statement text s (statement_at (If test yes no) at)) kept
  if_none kept one new test then_ else_ at h g f =
      two j (in_term text s (term test)) (in_statement text (inner_scope s) (statement then_.value) ++ []) kept one new g (last one new _ f)
      ∙ ap (λ n. walked j (in_statement text s (statement_at (If test then_ n) at)) kept) (sym h)

  pub if_some : (kept one next new : NotesView) (test : Expr) (yes other : Box Stmt Global) (no : Option (Box Stmt Global)) (at : Place) → no ≡ Some other →
      one ≡ walked j (in_term text s (term test)) kept → next ≡ walked j (in_statement text (inner_scope s) (statement yes.value)) one →
      new ≡ walked j (in_statement text (inner_scope s) (statement other.value)) next →
      new ≡ walked j (in_statement text s (statement_at (If test yes no) at)) kept
  if_some kept one next new test then_ other else_ at h g f e =
      three j (in_term text s (term test)) (in_statement text (inner_scope s) (statement then_.value)) (in_statement text (inner_scope s) (statement other.value)) kept one next new g f e
      ∙ ap (λ n. walked j (in_statement text s (statement_at (If test then_ n) at)) kept) (sym h)

  pub abort_is : (kept one next new : NotesView) (weak immediate : Bool) (test : Expr) (body list : List Stmt) (at : Place) → list ≡ body →
      one ≡ walked j (Synchronous at ∷ []) kept → next ≡ walked j (in_term text s (term test)) one →
      new ≡ walked j (in_statements text (inner_scope s) (statements list)) next →
      new ≡ walked j (in_statement text s (statement_at (Abort weak immediate test body) at)) kept
  abort_is kept one next new weak immediate test body list at h g f e =
      then j (Synchronous at) (in_term text s (term test) ++ in_statements text (inner_scope s) (statements body)) kept one new g
      (two j (in_term text s (term test)) (in_statements text (inner_scope s) (statements body)) one next new f
      (e ∙ ap (λ x. walked j (in_statements text (inner_scope s) (statements x)) next) h))
      ∙ ap (λ x. walked j (in_statement text s x) kept) (sym (statement-abort weak immediate test body at))

  pub while_is : (kept one next new : NotesView) (loop : plain.Statement) (bound : Option Number) (a b : List Finding) →
      one ≡ walked j (in_bound bound) kept → next ≡ walked j a one → new ≡ walked j b next →
      new ≡ walked j (Loop loop ∷ in_bound bound ++ (a ++ b)) kept
  while_is kept one next new loop bound a b g f e =
      then j (Loop loop) (in_bound bound ++ (a ++ b)) kept kept new (passed_loop j loop kept) (three j (in_bound bound) a b kept one next new g f e)

  pub statements_step : (items : List Stmt) (i : ℕ) (x : Stmt) (r : Scope) (kept new whole : NotesView) → i < length items → get_or items i x ≡ x →
      r ≡ after s (statement x) → new ≡ walked j (in_statement text s (statement x)) kept →
      walked j (in_statements text s (statements (drop i items))) kept ≡ whole →
      walked j (in_statements text r (statements (drop (i + 1) items))) new ≡ whole
  statements_step items i x r kept new whole h e hr g w =
      let rest = drop (i + 1) items in
      let d : drop i items ≡ x ∷ rest = drop-cons items i x h ∙ rw (e, add-one) refl in
      let a : walked j (in_statements text s (statements (drop i items))) kept
      ≡ walked j (in_statements text (after s (statement x)) (statements rest)) (walked j (in_statement text s (statement x)) kept) =
      ap (λ xs. walked j (in_statements text s (statements xs)) kept) d
      ∙ walked-append j (in_statement text s (statement x)) (in_statements text (after s (statement x)) (statements rest)) kept in
      ap (λ q. walked j (in_statements text q (statements rest)) new) hr
      ∙ ap (walked j (in_statements text (after s (statement x)) (statements rest))) g ∙ sym a ∙ w

  pub statements_end : (items : List Stmt) (i : ℕ) (kept whole : NotesView) → length items ≤ i →
      walked j (in_statements text s (statements (drop i items))) kept ≡ whole → kept ≡ whole
  statements_end items i kept whole h w =
      sym (walked-none j kept) ∙ ap (λ xs. walked j (in_statements text s (statements xs)) kept) (sym (drop_all i items h)) ∙ w

  pub locals_step : (items : List Local) (i : ℕ) (x : Local) (r : Scope) (kept new whole : NotesView) → i < length items → get_or items i x ≡ x →
      r ≡ with_name s x.name.id (is_array x.length) → new ≡ walked j (in_local text s (declared x)) kept →
      walked j (in_locals text s (map declared (drop i items))) kept ≡ whole →
      walked j (in_locals text r (map declared (drop (i + 1) items))) new ≡ whole
  locals_step items i x r kept new whole h e hr g w =
      let rest = drop (i + 1) items in
      let d : drop i items ≡ x ∷ rest = drop-cons items i x h ∙ rw (e, add-one) refl in
      let q = with_name s x.name.id (is_array x.length) in
      let a : walked j (in_locals text s (map declared (drop i items))) kept
      ≡ walked j (in_locals text q (map declared rest)) (walked j (in_local text s (declared x)) kept) =
      ap (λ xs. walked j (in_locals text s (map declared xs)) kept) d
      ∙ walked-append j (in_local text s (declared x)) (in_locals text q (map declared rest)) kept in
      ap (λ p. walked j (in_locals text p (map declared rest)) new) hr ∙ ap (walked j (in_locals text q (map declared rest))) g ∙ sym a ∙ w

  pub locals_end : (items : List Local) (i : ℕ) (kept whole : NotesView) → length items ≤ i →
      walked j (in_locals text s (map declared (drop i items))) kept ≡ whole → kept ≡ whole
  locals_end items i kept whole h w =
      sym (walked-none j kept) ∙ ap (λ xs. walked j (in_locals text s (map declared xs)) kept) (sym (drop_all i items h)) ∙ w

  pub scope_step : (items : List Local) (i : ℕ) (x : Local) (r whole : Scope) → i < length items → get_or items i x ≡ x →
      r ≡ with_name s x.name.id (is_array x.length) → with_locals s (map declared (drop i items)) ≡ whole →
      with_locals r (map declared (drop (i + 1) items)) ≡ whole
  scope_step items i x r whole h e hr w =
      let d : drop i items ≡ x ∷ drop (i + 1) items = drop-cons items i x h ∙ rw (e, add-one) refl in
      ap (λ q. with_locals q (map declared (drop (i + 1) items))) hr ∙ sym (ap (λ xs. with_locals s (map declared xs)) d) ∙ w

  pub scope_end : (items : List Local) (i : ℕ) (whole : Scope) → length items ≤ i → with_locals s (map declared (drop i items)) ≡ whole → s ≡ whole
  scope_end items i whole h w = sym (ap (λ xs. with_locals s (map declared xs)) (drop_all i items h)) ∙ w

  pub local_is : (kept one new : NotesView) (l : Local) (again : Bool) (n : ℕ) (list : List Expr) → again ≡ is_among l.name.id s.here → n ≡ length l.values → list ≡ l.values →
      one ≡ walked j (Declares l.name again l.length n ∷ []) kept → new ≡ walked j (in_terms text s (terms list)) one →
      new ≡ walked j (in_local text s (declared l)) kept
  local_is kept one new l again n list ha hn hl g f =
      then j (Declares l.name (is_among l.name.id s.here) l.length (plain.count_terms (terms l.values))) (in_terms text s (terms l.values)) kept one new
      (g ∙ ap (λ b. walked j (Declares l.name b l.length n ∷ []) kept) ha
      ∙ ap (λ m. walked j (Declares l.name (is_among l.name.id s.here) l.length m ∷ []) kept) (hn ∙ sym (count_is l.values)))
      (f ∙ ap (λ x. walked j (in_terms text s (terms x)) one) hl)

-- what stands outside stays
pub with_name_outer : (s : Scope) (id : ℕ) (array : Bool) → (with_name s id array).outer ≡ s.outer
with_name_outer s id array =
    elim (is_among id s.here) as (λ b. (cond b s (record { outer = s.outer; here = s.here ++ record { id = id; array = array } ∷ [] })).outer ≡ s.outer) [ true ↦ refl | false ↦ refl ]

pub with_locals_outer : (s : Scope) (ls : List plain.Declared) → (with_locals s ls).outer ≡ s.outer
with_locals_outer s [] = refl
with_locals_outer s (l ∷ rest) = with_locals_outer (with_name s l.name.id (is_array l.length)) rest ∙ with_name_outer s l.name.id (is_array l.length)

pub behind_outer : (s : Scope) (st : plain.Statement) → (after s st).outer ≡ s.outer
behind_outer s (plain.Declare at locals) = with_locals_outer s locals
behind_outer s (plain.Nothing at) = refl
behind_outer s (plain.Group at body) = refl
behind_outer s (plain.Assign at target op value) = refl
behind_outer s (plain.Invoke at name args) = refl
behind_outer s (plain.If at test a b) = refl
behind_outer s (plain.While at test bound body) = refl
behind_outer s (plain.For at start test step bound body) = refl
behind_outer s (plain.Pause at) = refl
behind_outer s (plain.Par at bs) = refl
behind_outer s (plain.Abort at weak immediate test body) = refl
behind_outer s (plain.Return at value) = refl
