-- The rules on items, one after the other.
use Rattle.std.proofs.Common.{ℕ, zero, suc, ◌+◌, ◌<◌, ◌≤◌, ◌≡◌, ◌∙◌, ◌==◌, sym, ap, refl, Bool, true, false, cond, not, ◌&&◌, ◌||◌, Option, Some, None, List, [], ◌∷◌, ◌++◌, length, get_or, drop, take, add-one, map, append_assoc, append-nil, arith}
use Rattle.std.specs.Prelude.{nat_lt, nat_le, slice_get}
use Rattle.std.proofs.Math.Seq.{drop-cons}
use Rattle.std.proofs.lemmas.List.{drop_all, map-append}
use Rattle.std.specs.declared.vec.Vec.{Vec}
use Rattle.std.specs.declared.alloc.Global.{Global}
use Rattle.forec_tree.specs.declared.tree.Item.{Item}
use Rattle.forec_tree.specs.Plain.{plain_item}
use Rattle.loop_check.proofs.Reading.{next_of}
use Rattle.program_walk.specs.declared.walk.effects.Effect.{Effect}
use Rattle.forec_base.specs.declared.Place.{Place}
use Rattle.forec_tree.specs.declared.fault.Fault.{Fault}
use Rattle.forec_tree.specs.declared.tree.Name.{Name}
use Rattle.forec_tree.specs.declared.tree.Combine.{Combine}
use Rattle.forec_tree.specs.Terms.{Text, PlainGlobal, PlainFunction, PlainItem, IsGlobal, IsFunction, Statement}
use Rattle.forec_tree.specs.Scopes.{Scope, no_scope, with_name, with_params, is_among}
use Rattle.forec_tree.specs.Findings.{Finding, Declares, in_params, in_statements}
use Rattle.forec_tree.specs.Rules.{Judging, fault_if, length_faults, too_many, is_long, some_always_returns, findings_faults, is_input, is_none}
use Rattle.forec_tree.specs.Faults.{Before, item_named, combine_faults, global_faults, function_faults, in_function, item_faults, items_faults, text_faults, main_faults, start_name, main_place, none_before, after_item, one_if, output_count}
use Rattle.fault_order.specs.Least.{least_from, judged}
use Rattle.fault_order.proofs.LeastLaws.{least-append}
use Rattle.program_walk.specs.declared.walk.item_counts.ItemCounts.{ItemCounts}
use Rattle.program_walk.specs.Walk.{NotesView, walked, effects_of, effects_lists}
use Rattle.program_walk.specs.Items.{is_extra, before_of, head_faults, in_item, counts_after}
use Rattle.program_walk.specs.Views.{judging}
use Rattle.program_walk.proofs.WalkLemmas.{walked-append, walked-none}
use Rattle.program_walk.proofs.Parts.{two, then}

pub no_combine : (text : Text) (c : Option Combine) (kept : Option Fault) → c ≡ None → kept ≡ least_from kept (combine_faults text c)
unfolding least_from
no_combine text c kept h = rw h refl

pub global_is : (text : Text) (names : List (List ℕ)) (at : ℕ) (c : ItemCounts) (g : PlainGlobal) (k0 k1 k2 k3 k4 k5 k6 : Option Fault) →
    k1 ≡ least_from k0 (fault_if (item_named g.name.id (take at text)) g.name.place 2) →
    k2 ≡ least_from k1 (length_faults g.length) →
    k3 ≡ least_from k2 (fault_if (too_many g.length (length g.values)) g.name.place 18) →
    k4 ≡ least_from k3 (fault_if (is_long names g.name.id) g.name.place 21) →
    k5 ≡ least_from k4 (combine_faults text g.combine) →
    k6 ≡ least_from k5 (fault_if (is_extra c g.kind (output_count g)) g.name.place 22) →
    k6 ≡ least_from k0 (global_faults text names (before_of text at c) g)
global_is text names at c g k0 k1 k2 k3 k4 k5 k6 e1 e2 e3 e4 e5 e6 = rw (least-append, least-append, least-append, least-append, least-append) (cc)

pub head_is : (text : Text) (names : List (List ℕ)) (at : ℕ) (c : ItemCounts) (f : PlainFunction) (k0 k1 k2 k3 k4 k5 : Option Fault) →
    k1 ≡ least_from k0 (fault_if (item_named f.name.id (take at text)) f.name.place 2) →
    k2 ≡ least_from k1 (fault_if (is_long names f.name.id) f.name.place 21) →
    k3 ≡ least_from k2 (fault_if (nat_lt 16 (length f.params)) f.name.place 23) →
    k4 ≡ least_from k3 (fault_if (nat_le 1024 c.functions) f.name.place 24) →
    k5 ≡ least_from k4 (fault_if (f.gives && not (some_always_returns f.body)) f.name.place 15) →
    k5 ≡ least_from k0 (head_faults text names (before_of text at c) f)
head_is text names at c f k0 k1 k2 k3 k4 k5 e1 e2 e3 e4 e5 = rw (least-append, least-append, least-append, least-append) (cc)

-- a function whole: its head, then its body
pub function_is : (text : Text) (names : List (List ℕ)) (b : Before) (f : PlainFunction) (k0 k1 : Option Fault) (s new : NotesView) →
    k1 ≡ least_from k0 (head_faults text names b f) → s.least ≡ k1 → new ≡ walked (judging names f.gives) (in_function text f) s →
    new.least ≡ least_from k0 (function_faults text names b f)
unfolding walked judged
function_is text names b f k0 k1 s new h e w =
    ap (λ g. g.least) w ∙ ap (λ k. least_from k (findings_faults (judging names f.gives) (in_function text f))) (e ∙ h)
    ∙ sym (least-append k0 (head_faults text names b f) (findings_faults (judging names f.gives) (in_function text f)))
    ∙ ap (least_from k0)
    (let A = fault_if (item_named f.name.id b.items) f.name.place 2 in
    let B = fault_if (is_long names f.name.id) f.name.place 21 in
    let C = fault_if (nat_lt 16 (length f.params)) f.name.place 23 in
    let D = fault_if (nat_le 1024 b.functions) f.name.place 24 in
    let E = fault_if (f.gives && not (some_always_returns f.body)) f.name.place 15 in
    let R = findings_faults (judging names f.gives) (in_function text f) in
    append_assoc A (B ++ (C ++ (D ++ E))) R
    ∙ ap (λ x. A ++ x) (append_assoc B (C ++ (D ++ E)) R ∙ ap (λ x. B ++ x) (append_assoc C (D ++ E) R ∙ ap (λ x. C ++ x) (append_assoc D E R))))

pub walked_effects : (j : Judging) (fs : List Finding) (s new : NotesView) → new ≡ walked j fs s → s.effects ≡ [] → new.effects ≡ effects_of fs
unfolding walked
walked_effects j fs s new h e = ap (λ g. g.effects) h ∙ ap (λ x. x ++ effects_of fs) e

-- ---- parameters

module _ (j : Judging) (text : Text) (s : Scope) where
  pub params_step : (items : List Name) (i : ℕ) (r : Scope) (again : Bool) (kept new whole : NotesView) (d : Name) → i < length items →
      again ≡ is_among (get_or items i d).id s.here → r ≡ with_name s (get_or items i d).id false → new ≡ walked j (Declares (get_or items i d) again None 0 ∷ []) kept →
      walked j (in_params text s (drop i items)) kept ≡ whole → walked j (in_params text r (drop (i + 1) items)) new ≡ whole
  params_step items i r again kept new whole d h ha hr g w =
      let x = get_or items i d in
      let rest = drop (i + 1) items in
      let e : drop i items ≡ x ∷ rest = drop-cons items i d h ∙ rw add-one refl in
      let q = with_name s x.id false in
      ap (λ p. walked j (in_params text p rest) new) hr ∙ ap (walked j (in_params text q rest)) (g ∙ ap (λ b. walked j (Declares x b None 0 ∷ []) kept) ha)
      ∙ sym (ap (λ xs. walked j (in_params text s xs) kept) e
      ∙ walked-append j (Declares x (is_among x.id s.here) None 0 ∷ []) (in_params text q rest) kept) ∙ w

  pub params_scope : (items : List Name) (i : ℕ) (r whole : Scope) (d : Name) → i < length items → r ≡ with_name s (get_or items i d).id false →
      with_params s (drop i items) ≡ whole → with_params r (drop (i + 1) items) ≡ whole
  params_scope items i r whole d h hr w =
      let x = get_or items i d in
      let e : drop i items ≡ x ∷ drop (i + 1) items = drop-cons items i d h ∙ rw add-one refl in
      ap (λ p. with_params p (drop (i + 1) items)) hr ∙ sym (ap (with_params s) e) ∙ w

  pub params_end : (items : List Name) (i : ℕ) (kept whole : NotesView) → length items ≤ i → walked j (in_params text s (drop i items)) kept ≡ whole → kept ≡ whole
  params_end items i kept whole h w = sym (walked-none j kept) ∙ ap (λ xs. walked j (in_params text s xs) kept) (sym (drop_all i items h)) ∙ w

-- ---- items, one after the other

-- the item of a place, and those after it
pub items_at : (items : List Item) (i : ℕ) (x : Item) → i < length items → get_or items i x ≡ x → map plain_item (drop i items) ≡ plain_item x ∷ map plain_item (drop (i + 1) items)
items_at items i x h e = let d : drop i items ≡ x ∷ drop (i + 1) items = drop-cons items i x h ∙ rw (e, add-one) refl in ap (map plain_item) d

pub item_get : (items : List Item) (i : ℕ) (x : Item) → i < length items → get_or items i x ≡ x → slice_get (map plain_item items) i ≡ Some (plain_item x)
item_get [] i x h e = absurd (omega arith)
item_get (y ∷ ys) zero x h e = ap (λ z. Some (plain_item z)) e
item_get (y ∷ ys) (suc i) x h e = item_get ys i x (omega arith) e

pub before_next : (text : Text) (at : ℕ) (c : ItemCounts) (x : PlainItem) → slice_get text at ≡ Some x → before_of text (at + 1) (counts_after c x) ≡ after_item (before_of text at c) x
before_next text at c (IsGlobal g) h =
    ap (λ xs. let b : Before = record { items = xs; inputs = c.inputs + one_if (is_input g.kind); outputs = c.outputs + output_count g; functions = c.functions } in b)
    (next_of text at (IsGlobal g) h)
before_next text at c (IsFunction f) h =
    ap (λ xs. let b : Before = record { items = xs; inputs = c.inputs; outputs = c.outputs; functions = suc c.functions } in b) (next_of text at (IsFunction f) h)

pub least_step : (text : Text) (names : List (List ℕ)) (rest behind : List PlainItem) (at : ℕ) (c after : ItemCounts) (x : PlainItem) (kept new whole : Option Fault) →
    slice_get text at ≡ Some x → after ≡ counts_after c x → rest ≡ x ∷ behind → new ≡ least_from kept (item_faults text names (before_of text at c) x) →
    least_from kept (items_faults text names (before_of text at c) rest) ≡ whole → least_from new (items_faults text names (before_of text (at + 1) after) behind) ≡ whole
least_step text names rest behind at c after x kept new whole g a r n w =
    ap (λ q. least_from new (items_faults text names (before_of text (at + 1) q) behind)) a
    ∙ ap (λ b. least_from new (items_faults text names b behind)) (before_next text at c x g)
    ∙ ap (λ k. least_from k (items_faults text names (after_item (before_of text at c) x) behind)) n
    ∙ sym (least-append kept (item_faults text names (before_of text at c) x) (items_faults text names (after_item (before_of text at c) x) behind))
    ∙ sym (ap (λ l. least_from kept (items_faults text names (before_of text at c) l)) r) ∙ w

pub least_end : (text : Text) (names : List (List ℕ)) (b : Before) (rest : List PlainItem) (kept whole : Option Fault) → rest ≡ [] →
    least_from kept (items_faults text names b rest) ≡ whole → kept ≡ whole
unfolding least_from
least_end text names b rest kept whole h w = sym (ap (λ l. least_from kept (items_faults text names b l)) h) ∙ w

pub bodies_step : (text : Text) (at : ℕ) (x : PlainItem) (old new : List (Vec Effect Global)) (v : Vec Effect Global) (f : PlainItem → List Effect) → slice_get text at ≡ Some x →
    new ≡ old ++ v ∷ [] → v.items ≡ f x → effects_lists old ≡ map f (take at text) → effects_lists new ≡ map f (take (at + 1) text)
bodies_step text at x old new v f g n e h =
    ap effects_lists n ∙ map-append (λ w. w.items) old (v ∷ []) ∙ ap (λ l. l ++ v.items ∷ []) h ∙ ap (λ i. map f (take at text) ++ i ∷ []) e
    ∙ sym (map-append f (take at text) (x ∷ [])) ∙ ap (map f) (sym (next_of text at x g))

pub text_is : (text : Text) (names : List (List ℕ)) (k1 k2 : Option Fault) → k1 ≡ least_from None (main_faults text names) →
    k2 ≡ least_from k1 (items_faults text names none_before text) → k2 ≡ least_from None (text_faults text names)
text_is text names k1 k2 h g =
    g ∙ ap (λ k. least_from k (items_faults text names none_before text)) h ∙ sym (least-append None (main_faults text names) (items_faults text names none_before text))
