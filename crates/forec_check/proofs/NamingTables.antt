-- Tables of namings, function by function.
use Rattle.std.proofs.Common.{ℕ, zero, suc, ◌+◌, ◌-◌, ◌<◌, ◌≤◌, ◌≡◌, ◌≢◌, ◌∙◌, ◌==◌, min, sym, ap, refl, subst, Bool, true, false, cond, not, ◌&&◌, ◌||◌, Option, Some, None, List, [], ◌∷◌, ◌++◌, length, take, drop, get_or, map, arith, append-nil, add-one}
use Rattle.std.specs.Prelude.{nat_lt, slice_get}
use Rattle.std.proofs.Math.Seq.{take-suc, drop-cons}
use Rattle.std.proofs.lemmas.List.{take_all, drop_all}
use Rattle.std.proofs.lemmas.Bool.Decides.{nat_tests}
use Rattle.std.specs.declared.vec.Vec.{Vec}
use Rattle.std.specs.declared.alloc.Global.{Global}
use Rattle.forec_tree.specs.declared.fault.Fault.{Fault}
use Rattle.forec_tree.specs.declared.tree.Item.{Item}
use Rattle.forec_tree.specs.Plain.{plain_item}
use Rattle.forec_tree.specs.Terms.{Text, PlainItem, IsGlobal, IsFunction, PlainFunction, PlainGlobal}
use Rattle.forec_tree.specs.Scopes.{find_item}
use Rattle.forec_tree.specs.Findings.{in_function}
use Rattle.forec_tree.specs.Rules.{fault_if, is_plain, is_none}
use Rattle.forec_tree.specs.Pauses.{within, find_function}
use Rattle.forec_check.specs.AccessScan.{TextAccess, AccessScan, no_access, scan_start, accessing_instances, as_access, body_access, access_step, instances_of, program_namings}
use Rattle.forec_tree.specs.Faults.{is_in, Leads, functions_called, ReachesByCalls, start_name}
use Rattle.fault_order.specs.Least.{least_from}
use Rattle.forec_tree.proofs.Fixed.{IsLocal}
use Rattle.fault_order.proofs.LeastLaws.{least-append}
use Rattle.loop_check.specs.Graph.{IsOrder}
use Rattle.loop_check.specs.Known.{Read, is_function}
use Rattle.loop_check.proofs.Ordered.{is_in_snoc}
use Rattle.loop_check.proofs.Settled.{all_ordered}
use Rattle.loop_check.specs.Numbered.{put_entry}
use Rattle.forec_check.proofs.TableLemmas.{settles_by}
use Rattle.loop_check.proofs.Reading.{leads_same}
use Rattle.program_walk.specs.declared.walk.effects.Effect.{Effect}
use Rattle.forec_check.specs.declared.instances.access_count.AccessCount.{AccessCount}
use Rattle.program_walk.specs.Walk.{effects_of, item_effects}
use Rattle.fault_order.specs.Least.{improves}
use Rattle.forec_check.specs.Early.{function_calls}
use Rattle.forec_check.specs.AccessCounts.{capped_access, access_of, no_access_count, called_access, effects_in, scan_effects, capped_step, access_value, Orders, access_fault, access_faults}
use Rattle.forec_check.proofs.Recursion.{graph_is}
use Rattle.forec_check.proofs.AccessCountLemmas.{effects_tell, capped_local, capped_within, two_instances, counted, capped_twice}

-- ---- the step of a function

pub step_effects : (text : Text) (g id : ℕ) (c : ℕ → TextAccess) → capped_access (as_access (scan_effects g c scan_start (effects_in text (find_function id text)))) ≡ capped_step text g c id
step_effects text g id c = pick (find_function id text)
  where
    pick : (f : Option PlainFunction) → capped_access (as_access (scan_effects g c scan_start (effects_in text f))) ≡ capped_access (body_access text g c f)
    pick None = refl
    pick (Some f) = ap (λ r. capped_access (as_access r)) (effects_tell g c scan_start (in_function text f))

-- the effects of the function of a name
pub found_effects : (text : Text) (id : ℕ) (x : PlainItem) → find_item id text ≡ Some x → item_effects text x ≡ effects_in text (find_function id text)
found_effects text id x h = pick x ∙ sym (ap (λ i. effects_in text (elim i [ None ↦ None | Some (IsGlobal x) ↦ None | Some (IsFunction f) ↦ Some f ])) h)
  where
    pick : (x : PlainItem) → item_effects text x ≡ effects_in text (elim (Some x) [ None ↦ None | Some (IsGlobal x) ↦ None | Some (IsFunction f) ↦ Some f ])
    pick (IsGlobal x) = refl
    pick (IsFunction f) = refl

-- the item of a body
pub record Bodied (xs : Text) (f : PlainItem → List Effect) (at : ℕ) (effects : List Effect) : Type 0 where
  pub item : PlainItem
  pub stands : slice_get xs at ≡ Some item
  pub is : effects ≡ f item

pub bodied : (bodies : List (Vec Effect Global)) (xs : Text) (f : PlainItem → List Effect) (at : ℕ) (v : Vec Effect Global) → map (λ w. w.items) bodies ≡ map f xs →
    slice_get bodies at ≡ Some v → Bodied xs f at v.items
bodied [] xs f at v e s = absurd (let q : None ≡ Some v = s in cc)
bodied (u ∷ us) [] f at v e s = absurd (let q : u.items ∷ map (λ w. w.items) us ≡ [] = e in cc)
bodied (u ∷ us) (y ∷ ys) f zero v e s =
    let q : u ≡ v = (let z : Some u ≡ Some v = s in cc) in
    let p : u.items ≡ f y = cc in
    record { item = y; stands = refl; is = ap (λ w. w.items) (sym q) ∙ p }
bodied (u ∷ us) (y ∷ ys) f (suc at) v e s = let p : map (λ w. w.items) us ≡ map f ys = cc in let r = bodied us ys f at v p s in record { item = r.item; stands = r.stands; is = r.is }

pub no_body : (bodies : List (Vec Effect Global)) (xs : Text) (f : PlainItem → List Effect) (at : ℕ) → map (λ w. w.items) bodies ≡ map f xs → slice_get bodies at ≡ None → slice_get xs at ≡ None
no_body [] [] f at e s = refl
no_body [] (y ∷ ys) f at e s = absurd (let q : [] ≡ f y ∷ map f ys = e in cc)
no_body (u ∷ us) [] f at e s = refl
no_body (u ∷ us) (y ∷ ys) f zero e s = absurd (let q : Some u ≡ None = s in cc)
no_body (u ∷ us) (y ∷ ys) f (suc at) e s = let p : map (λ w. w.items) us ≡ map f ys = cc in no_body us ys f at p s

-- ---- the table

pub put_capped : (f h : ℕ) (v before after : AccessCount) → after ≡ put_entry f h v before →
    capped_access (access_of after) ≡ put_entry f h (capped_access (access_of v)) (capped_access (access_of before))
put_capped f h v before after e =
    ap (λ x. capped_access (access_of x)) e
    ∙ (elim (f == h) as (λ b. capped_access (access_of (cond b v before)) ≡ cond b (capped_access (access_of v)) (capped_access (access_of before))) [ true ↦ refl | false ↦ refl ])

pub nothing_called : (h : ℕ) → called_access [] h ≡ no_access
nothing_called zero = refl
nothing_called (suc h) = refl

-- two instances, by a whole table
pub two_is : (text : Text) (g first : ℕ) (table : List AccessCount) (v : AccessCount) (count : ℕ) → access_of v ≡ called_access table first → called_access table first ≡ access_value text g first →
    min count 2 ≡ min (accessing_instances (access_of v)) 2 → nat_lt 1 count ≡ nat_lt 1 (instances_of text g first)
two_is text g first table v count is value c =
    let exact = within no_access (access_step text g) (length text) first in
    let same : capped_access (access_of v) ≡ capped_access exact = ap capped_access (is ∙ value ∙ capped_within text g (length text) first) ∙ capped_twice exact in
    less_two count (accessing_instances exact) (c ∙ counted (access_of v) exact same)
  where
    less_two : (a b : ℕ) → min a 2 ≡ min b 2 → nat_lt 1 a ≡ nat_lt 1 b
    less_two a b m = grind (arith, nat_tests)

-- an order of all functions
pub orders_is : (text : Text) (functions order : List ℕ) (calls : ℕ → List ℕ) → Read (function_calls text) text functions calls → IsOrder functions calls order →
    ((f : ℕ) → ReachesByCalls text f f → ⊥) → Orders text order
orders_is text functions order calls r o free =
    let round = λ (f : ℕ) (l : Leads calls f f). free f (leads_same calls (functions_called text) (graph_is text functions calls r) l) in
    let short = o.short in
    let few = r.few in
    record {
      settles = λ g.
          settles_by no_access (capped_step text g) (length text) functions order calls o
          (record { agrees = λ f a b h. (capped_local text g).agrees f a b (λ x e. h x (ap (is_in x) (graph_is text functions calls r f) ∙ e)) })
          (λ h i a. nothing g h a (sym (r.stands h) ∙ i)) round (omega (arith, short, few));
      whole = λ f i. all_ordered functions calls order o round f (r.stands f ∙ i);
      free = free;
    }
  where
    nothing : (g h : ℕ) (a : ℕ → TextAccess) → is_function text h ≡ false → capped_step text g a h ≡ no_access
    nothing g h a i = pick (find_function h text) i
      where
        pick : (f : Option PlainFunction) → not (is_none f) ≡ false → capped_access (body_access text g a f) ≡ no_access
        pick None q = refl
        pick (Some f) q = absurd (let z : true ≡ false = q in cc)

-- ---- plain globals, one after the other

pub plain_no : (text : Text) (names : List (List ℕ)) (x : PlainItem) (g : PlainGlobal) (kept : Option Fault) → x ≡ IsGlobal g → is_plain g.kind ≡ false → kept ≡ least_from kept (access_fault text names x)
unfolding least_from
plain_no text names x g kept h p =
    sym (ap (λ y. least_from kept (access_fault text names y)) h ∙ ap (λ b. least_from kept (fault_if (b && nat_lt 1 (program_namings text names g.name.id)) g.name.place 10)) p)

pub plain_function : (text : Text) (names : List (List ℕ)) (x : PlainItem) (f : PlainFunction) (kept : Option Fault) → x ≡ IsFunction f → kept ≡ least_from kept (access_fault text names x)
unfolding least_from
plain_function text names x f kept h = sym (ap (λ y. least_from kept (access_fault text names y)) h)

pub plain_yes : (text : Text) (names : List (List ℕ)) (x : PlainItem) (g : PlainGlobal) (first : ℕ) (two : Bool) (kept new : Option Fault) → x ≡ IsGlobal g → is_plain g.kind ≡ true →
    start_name names text ≡ Some first → two ≡ nat_lt 1 (instances_of text g.name.id first) → new ≡ least_from kept (fault_if two g.name.place 10) →
    new ≡ least_from kept (access_fault text names x)
plain_yes text names x g first two kept new h p s t n =
    n ∙ ap (λ b. least_from kept (fault_if b g.name.place 10)) (t
    ∙ sym (ap (λ o. nat_lt 1 (elim o [ None ↦ 0 | Some start ↦ instances_of text g.name.id start ])) s))
    ∙ sym (ap (λ y. least_from kept (access_fault text names y)) h ∙ ap (λ b. least_from kept (fault_if (b && nat_lt 1 (program_namings text names g.name.id)) g.name.place 10)) p)

-- a global that one instance names at most
pub plain_single : (text : Text) (names : List (List ℕ)) (x : PlainItem) (g : PlainGlobal) (first : ℕ) (kept : Option Fault) → x ≡ IsGlobal g → start_name names text ≡ Some first →
    nat_lt 1 (instances_of text g.name.id first) ≡ false → kept ≡ least_from kept (access_fault text names x)
unfolding least_from
plain_single text names x g first kept h s t =
    plain_yes_or_no (is_plain g.kind) refl
  where
    none : kept ≡ least_from kept (fault_if false g.name.place 10)
    none = refl

    plain_yes_or_no : (b : Bool) → is_plain g.kind ≡ b → kept ≡ least_from kept (access_fault text names x)
    plain_yes_or_no true p = plain_yes text names x g first false kept kept h p s (sym t) none
    plain_yes_or_no false p = plain_no text names x g kept h p

-- a fault that is not less than the one kept
pub plain_more : (text : Text) (names : List (List ℕ)) (x : PlainItem) (g : PlainGlobal) (kept : Option Fault) → x ≡ IsGlobal g →
    improves kept (record { place = g.name.place; rule = 10 }) ≡ false → kept ≡ least_from kept (access_fault text names x)
unfolding least_from
plain_more text names x g None h i = absurd (let q : true ≡ false = i in cc)
plain_more text names x g (Some k) h i =
    sym (ap (λ y. least_from (Some k) (access_fault text names y)) h ∙ by (is_plain g.kind && nat_lt 1 (program_namings text names g.name.id)))
  where
    by : (b : Bool) → least_from (Some k) (fault_if b g.name.place 10) ≡ Some k
    by true = ap (λ c. let r : Option Fault = Some (cond c (record { place = g.name.place; rule = 10 }) k) in r) i
    by false = refl

pub plains_step : (text : Text) (names : List (List ℕ)) (items : List Item) (i : ℕ) (x : Item) (kept new whole : Option Fault) → i < length items → get_or items i x ≡ x →
    new ≡ least_from kept (access_fault text names (plain_item x)) → least_from kept (access_faults text names (map plain_item (drop i items))) ≡ whole →
    least_from new (access_faults text names (map plain_item (drop (i + 1) items))) ≡ whole
plains_step text names items i x kept new whole h e n w =
    let rest = access_faults text names (map plain_item (drop (i + 1) items)) in
    let d : drop i items ≡ x ∷ drop (i + 1) items = drop-cons items i x h ∙ rw (e, add-one) refl in
    ap (λ k. least_from k rest) n ∙ sym (least-append kept (access_fault text names (plain_item x)) rest)
    ∙ sym (ap (λ l. least_from kept (access_faults text names (map plain_item l))) d) ∙ w

pub plains_end : (text : Text) (names : List (List ℕ)) (items : List Item) (i : ℕ) (kept whole : Option Fault) → length items ≤ i →
    least_from kept (access_faults text names (map plain_item (drop i items))) ≡ whole → kept ≡ whole
unfolding least_from
plains_end text names items i kept whole h w = sym (ap (λ l. least_from kept (access_faults text names (map plain_item l))) (drop_all i items h)) ∙ w

-- a text without a start has no instance
pub plains_none : (text : Text) (names : List (List ℕ)) (xs : List PlainItem) (kept : Option Fault) → start_name names text ≡ None → kept ≡ least_from kept (access_faults text names xs)
unfolding least_from
plains_none text names xs kept h = sym (ap (least_from kept) (nothing xs))
  where
    two : (g : PlainGlobal) → nat_lt 1 (program_namings text names g.name.id) ≡ false
    two g = ap (λ o. nat_lt 1 (elim o [ None ↦ 0 | Some start ↦ instances_of text g.name.id start ])) h

    one : (x : PlainItem) → access_fault text names x ≡ []
    one (IsFunction f) = refl
    one (IsGlobal g) = ap (λ b. fault_if (is_plain g.kind && b) g.name.place 10) (two g) ∙ (elim (is_plain g.kind) as (λ b. fault_if (b && false) g.name.place 10 ≡ []) [ true ↦ refl | false ↦ refl ])

    nothing : (xs : List PlainItem) → access_faults text names xs ≡ []
    nothing [] = refl
    nothing (x ∷ xs) = ap (λ l. l ++ access_faults text names xs) (one x) ∙ nothing xs
