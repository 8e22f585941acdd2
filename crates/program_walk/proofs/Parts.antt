-- The faults of a term, part by part.
use Rattle.std.proofs.Common.{ℕ, suc, ◌+◌, ◌<◌, ◌≤◌, ◌≡◌, ◌∙◌, sym, ap, refl, Option, List, [], ◌∷◌, ◌++◌, length, get_or, drop, add-one}
use Rattle.std.proofs.Math.Seq.{drop-cons}
use Rattle.std.proofs.lemmas.List.{drop_all}
use Rattle.forec_base.specs.declared.Place.{Place}
use Rattle.forec_tree.specs.declared.tree.Name.{Name}
use Rattle.forec_tree.specs.declared.tree.Expr.{Expr}
use Rattle.forec_tree.specs.declared.tree.ExprKind.{ExprKind, Call}
use Rattle.forec_tree.specs.declared.uses.How.TheVariants.{Computes}
use Rattle.forec_tree.specs.Terms as plain
use Rattle.forec_tree.specs.Terms.{Text, count_terms}
use Rattle.forec_tree.specs.Scopes.{Scope}
use Rattle.forec_tree.specs.Plain.{term, terms, term_at}
use Rattle.forec_tree.specs.Findings.{Finding, use_at, in_term, in_terms}
use Rattle.forec_tree.specs.Rules.{Judging}
use Rattle.program_walk.specs.Walk.{NotesView, walked}
use Rattle.program_walk.proofs.WalkLemmas.{walked-append, walked-none}
use Rattle.forec_tree.proofs.Rows.{term-call}

-- two parts, one after the other
pub two : (j : Judging) (a b : List Finding) (kept one both : NotesView) → one ≡ walked j a kept → both ≡ walked j b one → both ≡ walked j (a ++ b) kept
two j a b kept one both h g = g ∙ ap (walked j b) h ∙ sym (walked-append j a b kept)

pub three : (j : Judging) (a b d : List Finding) (kept one next all : NotesView) →
    one ≡ walked j a kept → next ≡ walked j b one → all ≡ walked j d next → all ≡ walked j (a ++ (b ++ d)) kept
three j a b d kept one next all h g f = two j a (b ++ d) kept one all h (two j b d one next all g f)

-- one finding, then others
pub then : (j : Judging) (x : Finding) (b : List Finding) (kept one both : NotesView) →
    one ≡ walked j (x ∷ []) kept → both ≡ walked j b one → both ≡ walked j (x ∷ b) kept
then j x b kept one both h g = two j (x ∷ []) b kept one both h g

-- a term that was read through a box
pub part : (j : Judging) (text : Text) (s : Scope) (kept new : NotesView) (e d : Expr) → e ≡ d →
    new ≡ walked j (in_term text s (term e)) kept → new ≡ walked j (in_term text s (term d)) kept
part j text s kept new e d h g = g ∙ ap (λ x. walked j (in_term text s (term x)) kept) h

pub count_is : (es : List Expr) → count_terms (terms es) ≡ length es
count_is [] = refl
count_is (e ∷ es) = ap suc (count_is es)

-- the first of several arguments
pub call_begins : (j : Judging) (text : Text) (s : Scope) (at : Place) (name : Name) (args items : List Expr) (n : ℕ) (kept one : NotesView) →
    n ≡ length args → items ≡ args → one ≡ walked j (use_at text s (Computes n) name ∷ []) kept →
    walked j (in_terms text s (terms items)) one ≡ walked j (in_term text s (term_at (Call name args) at)) kept
call_begins j text s at name args items n kept one hn hi h =
    let count : n ≡ count_terms (terms args) = hn ∙ sym (count_is args) in
    let h' : one ≡ walked j (use_at text s (Computes (count_terms (terms args))) name ∷ []) kept =
    h ∙ ap (λ m. walked j (use_at text s (Computes m) name ∷ []) kept) count in
    let e : walked j (in_terms text s (terms items)) one ≡ walked j (in_term text s (plain.Call at name (terms args))) kept =
    ap (λ xs. walked j (in_terms text s (terms xs)) one) hi
    ∙ then j (use_at text s (Computes (count_terms (terms args))) name) (in_terms text s (terms args)) kept one (walked j (in_terms text s (terms args)) one) h' refl in
    e ∙ ap (λ x. walked j (in_term text s x) kept) (sym (term-call name args at))

pub terms_step : (j : Judging) (text : Text) (s : Scope) (items : List Expr) (i : ℕ) (x : Expr) (kept new whole : NotesView) →
    i < length items → get_or items i x ≡ x → new ≡ walked j (in_term text s (term x)) kept →
    walked j (in_terms text s (terms (drop i items))) kept ≡ whole →
    walked j (in_terms text s (terms (drop (i + 1) items))) new ≡ whole
terms_step j text s items i x kept new whole h e g w =
    let d : drop i items ≡ x ∷ drop (i + 1) items = drop-cons items i x h ∙ rw (e, add-one) refl in
    let a : walked j (in_terms text s (terms (drop i items))) kept ≡ walked j (in_terms text s (terms (drop (i + 1) items))) (walked j (in_term text s (term x)) kept) =
    ap (λ xs. walked j (in_terms text s (terms xs)) kept) d ∙ walked-append j (in_term text s (term x)) (in_terms text s (terms (drop (i + 1) items))) kept in
    ap (walked j (in_terms text s (terms (drop (i + 1) items)))) g ∙ sym a ∙ w

-- a term whose kind is known
pub of_kind : (j : Judging) (text : Text) (s : Scope) (kept new : NotesView) (e : Expr) (w : ExprKind) → e.what ≡ w →
    new ≡ walked j (in_term text s (term_at w e.place)) kept → new ≡ walked j (in_term text s (term e)) kept
of_kind j text s kept new e w h g = g ∙ ap (λ x. walked j (in_term text s (term_at x e.place)) kept) (sym h)

pub terms_end : (j : Judging) (text : Text) (s : Scope) (items : List Expr) (i : ℕ) (kept whole : NotesView) → length items ≤ i →
    walked j (in_terms text s (terms (drop i items))) kept ≡ whole → kept ≡ whole
terms_end j text s items i kept whole h w =
    sym (walked-none j kept) ∙ ap (λ xs. walked j (in_terms text s (terms xs)) kept) (sym (drop_all i items h)) ∙ w
