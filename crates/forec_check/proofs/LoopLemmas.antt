-- The faults of loops, part by part.
use Rattle.std.proofs.Common.{ℕ, ◌+◌, ◌<◌, ◌≤◌, ◌≡◌, ◌∙◌, sym, ap, refl, Bool, true, false, not, ◌&&◌, ◌||◌, Option, List, [], ◌∷◌, ◌++◌, length, get_or, drop, add-one, map, append_assoc, append-nil}
use Rattle.std.proofs.Math.Seq.{drop-cons}
use Rattle.std.proofs.lemmas.List.{drop_all}
use Rattle.forec_base.specs.declared.Place.{Place}
use Rattle.forec_tree.specs.declared.fault.Fault.{Fault}
use Rattle.forec_tree.specs.declared.tree.Item.{Item}
use Rattle.forec_tree.specs.Terms.{Text, Statement, PlainItem, IsGlobal, IsFunction}
use Rattle.forec_tree.specs.declared.tree.Stmt.{Stmt}
use Rattle.forec_tree.specs.declared.tree.StmtKind.{StmtKind}
use Rattle.forec_tree.specs.Plain.{plain_item, statement, statement_at}
use Rattle.forec_tree.specs.Rules.{fault_if, is_none, endless, loop_place}
use Rattle.forec_tree.specs.Turns.{inferred}
use Rattle.forec_tree.specs.Pauses.{certain}
use Rattle.forec_tree.specs.declared.tree.Number.{Number}
use Rattle.fault_order.specs.Least.{least_from}
use Rattle.fault_order.proofs.LeastLaws.{least-append}
use Rattle.forec_tree.proofs.Rows.{of_kind}
use Rattle.forec_check.specs.Loops.{loops_in, item_loops, all_loops, loops_faults}

pub loops_append : (text : Text) (xs ys : List Statement) → loops_faults text (xs ++ ys) ≡ loops_faults text xs ++ loops_faults text ys
loops_append text [] ys = refl
loops_append text (x ∷ xs) ys =
    let one = fault_if (endless text x) (loop_place x) 20 in
    ap (λ r. one ++ r) (loops_append text xs ys) ∙ sym (append_assoc one (loops_faults text xs) (loops_faults text ys))

pub none_here : (text : Text) (kept : Option Fault) → kept ≡ least_from kept (loops_faults text [])
unfolding least_from
none_here text kept = refl

-- a statement without loops
pub kind_none : (text : Text) (kept : Option Fault) (st : Stmt) (w : StmtKind) → st.what ≡ w → loops_in (statement_at w st.place) ≡ [] → kept ≡ least_from kept (loops_faults text (loops_in (statement st)))
kind_none text kept st w h e =
    none_here text kept ∙ sym (ap (λ l. least_from kept (loops_faults text l)) e) ∙ of_kind (λ x. least_from kept (loops_faults text (loops_in x))) st w h

-- the loops of two parts
pub two_loops : (text : Text) (kept one new : Option Fault) (a b : List Statement) → one ≡ least_from kept (loops_faults text a) → new ≡ least_from one (loops_faults text b) →
    new ≡ least_from kept (loops_faults text (a ++ b))
two_loops text kept one new a b h g =
    g ∙ ap (λ k. least_from k (loops_faults text b)) h ∙ sym (ap (least_from kept) (loops_append text a b) ∙ least-append kept (loops_faults text a) (loops_faults text b))

-- a loop that may run for ever, after those in its body
pub last_loop : (text : Text) (kept new : Option Fault) (bound : Option Number) (inside : Bool) (place : Place) (s w body : Statement) →
    new ≡ least_from kept (fault_if (is_none bound && (is_none (inferred text s) && not inside)) place 20) → inside ≡ certain text body → s ≡ w →
    endless text w ≡ (is_none bound && (is_none (inferred text w) && not (certain text body))) → place ≡ loop_place w → new ≡ least_from kept (loops_faults text (w ∷ []))
last_loop text kept new bound inside place s w body h c e d p =
    h
    ∙ ap (λ b. least_from kept (fault_if b place 20)) (ap (λ x. is_none bound && (is_none (inferred text x) && not inside)) e ∙ ap (λ x. is_none bound && (is_none (inferred text w) && not x)) c ∙ sym d)
    ∙ ap (λ q. least_from kept (fault_if (endless text w) q 20)) p
    ∙ ap (least_from kept) (sym (append-nil (fault_if (endless text w) (loop_place w) 20)))

-- one part more of a list
pub next_loops : (text : Text) (kept new whole : Option Fault) (one rest all : List Statement) → new ≡ least_from kept (loops_faults text one) → all ≡ one ++ rest →
    least_from kept (loops_faults text all) ≡ whole → least_from new (loops_faults text rest) ≡ whole
next_loops text kept new whole one rest all n a w =
    ap (λ k. least_from k (loops_faults text rest)) n
    ∙ sym (ap (λ l. least_from kept (loops_faults text l)) a ∙ ap (least_from kept) (loops_append text one rest) ∙ least-append kept (loops_faults text one) (loops_faults text rest)) ∙ w

pub or_next : (found next one rest all whole : Bool) → next ≡ (found || one) → all ≡ (one || rest) → (found || all) ≡ whole → (next || rest) ≡ whole
or_next true next one rest all whole n a w = ap (λ b. b || rest) n ∙ w
or_next false next one rest all whole n a w = ap (λ b. b || rest) n ∙ sym a ∙ w

pub item_step : (text : Text) (items : List Item) (i : ℕ) (x : Item) (kept new whole : Option Fault) → i < length items → get_or items i x ≡ x →
    new ≡ least_from kept (loops_faults text (item_loops (plain_item x))) → least_from kept (loops_faults text (all_loops (map plain_item (drop i items)))) ≡ whole →
    least_from new (loops_faults text (all_loops (map plain_item (drop (i + 1) items)))) ≡ whole
item_step text items i x kept new whole h e n w =
    let rest = drop (i + 1) items in
    let d : drop i items ≡ x ∷ rest = drop-cons items i x h ∙ rw (e, add-one) refl in
    next_loops text kept new whole (item_loops (plain_item x)) (all_loops (map plain_item rest)) (all_loops (map plain_item (drop i items))) n (ap (λ l. all_loops (map plain_item l)) d) w

pub items_end : (text : Text) (items : List Item) (i : ℕ) (kept whole : Option Fault) → length items ≤ i →
    least_from kept (loops_faults text (all_loops (map plain_item (drop i items)))) ≡ whole → kept ≡ whole
unfolding least_from
items_end text items i kept whole h w = sym (ap (λ l. least_from kept (loops_faults text (all_loops (map plain_item l)))) (drop_all i items h)) ∙ w
