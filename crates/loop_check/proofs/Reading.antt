-- Reading the functions of a program, item by item.
use Rattle.std.proofs.Common.{ℕ, zero, suc, ◌+◌, ◌<◌, ◌≤◌, ◌≡◌, ◌∙◌, ◌==◌, sym, ap, refl, Bool, true, false, cond, not, ◌||◌, Option, Some, None, List, [], ◌∷◌, ◌++◌, length, take, get_or, subst, arith, length-append}
use Rattle.std.specs.Prelude.{slice_get}
use Rattle.std.proofs.lemmas.Bool.{eqb-true}
use Rattle.std.proofs.Math.Bool.{or-true, or-false}
use Rattle.std.proofs.Math.Seq.{take-suc}
use Rattle.forec_tree.specs.Terms.{Text, PlainItem, IsGlobal, IsFunction, PlainFunction}
use Rattle.forec_tree.specs.Scopes.{name_of, find_item}
use Rattle.forec_tree.specs.Rules.{is_none}
use Rattle.forec_tree.specs.Pauses.{find_function, function_callees, callees_of, body_certain, certain_step, certain_function}
use Rattle.forec_tree.specs.Faults.{is_in, item_named, Leads, at_once, through}
use Rattle.forec_tree.proofs.Fixed.{IsLocal}
use Rattle.forec_tree.proofs.Agrees.{certain_local}
use Rattle.loop_check.specs.Graph.{IsOrder, set_at}
use Rattle.loop_check.proofs.Settled.{settle, out, all_ordered}
use Rattle.loop_check.specs.Known.{Read, list_at, started_in, is_function, AgreesOnFirst, IsRightTable}
use Rattle.loop_check.specs.Numbered.{put_entry}
use Rattle.loop_check.proofs.IndexLemmas.{split}
use Rattle.loop_check.proofs.Ordered.{is_in_snoc}

pub next_of : (text : Text) (at : ℕ) (x : PlainItem) → slice_get text at ≡ Some x → take (at + 1) text ≡ take at text ++ x ∷ []
next_of [] at x h = cc
next_of (y ∷ ys) zero x h = let e : y ≡ x = cc in ap (λ z. z ∷ []) e
next_of (y ∷ ys) (suc at) x h = let n : suc at + 1 ≡ suc (at + 1) = omega arith in rw n (ap (λ zs. y ∷ zs) (next_of ys at x h))

-- the first of a name, where one more item stands at the end
abbrev or_else : {A : Type 0} → Option A → Option A → Option A
or_else None b = b
or_else (Some a) b = Some a

find_snoc : (id : ℕ) (xs : Text) (x : PlainItem) → find_item id (xs ++ x ∷ []) ≡ or_else (find_item id xs) (cond ((name_of x).id == id) (Some x) None)
find_snoc id [] x = refl
find_snoc id (y ∷ ys) x =
    elim ((name_of y).id == id) as (λ b. cond b (Some y) (find_item id (ys ++ x ∷ []))
    ≡ or_else (cond b (Some y) (find_item id ys)) (cond ((name_of x).id == id) (Some x) None)) [ true ↦ refl | false ↦ find_snoc id ys x ]

abbrev pub function_at : Option PlainItem → Option PlainFunction
function_at None = None
function_at (Some (IsGlobal g)) = None
function_at (Some (IsFunction f)) = Some f

kept_some : (a : Option PlainItem) (b : Option PlainItem) → not (is_none a) ≡ true → or_else a b ≡ a
kept_some None b h = absurd (let q : false ≡ true = h in cc)
kept_some (Some a) b h = refl

none_is : (a : Option PlainItem) → not (is_none a) ≡ false → a ≡ None
none_is None h = refl
none_is (Some a) h = absurd (let q : true ≡ false = h in cc)

or_none : (a : Option PlainItem) → or_else a None ≡ a
or_none None = refl
or_none (Some a) = refl

find_is : (id : ℕ) (xs : Text) → find_function id xs ≡ function_at (find_item id xs)
find_is id xs = elim (find_item id xs) as (λ i. elim i [ None ↦ None | Some (IsGlobal g) ↦ None | Some (IsFunction f) ↦ Some f ] ≡ function_at i) [
  | None ↦ refl
  | Some (IsGlobal g) ↦ refl
  | Some (IsFunction f) ↦ refl
]

same_item : (id : ℕ) (xs : Text) (x : PlainItem) → item_named (name_of x).id xs ≡ true → find_item id (xs ++ x ∷ []) ≡ find_item id xs
same_item id xs x h =
    find_snoc id xs x ∙
    split ((name_of x).id == id)
    (λ e. kept_some (find_item id xs) _ (subst (λ n. item_named n xs ≡ true) (eqb-true (name_of x).id id e) h))
    (λ e. ap (λ b. or_else (find_item id xs) (cond b (Some x) None)) e ∙ or_none (find_item id xs))

-- nothing new
stays : (of : PlainFunction → List ℕ) (xs ys : Text) (functions : List ℕ) (calls : ℕ → List ℕ) → length xs ≤ length ys → ((id : ℕ) → find_function id ys ≡ find_function id xs) → Read of xs functions calls → Read of ys functions calls
stays of xs ys functions calls l h r =
    record {
      stands = λ id. r.stands id ∙ ap (λ f. not (is_none f)) (sym (h id));
      lists = λ id. r.lists id ∙ ap (list_at of) (sym (h id));
      few = let n = r.few in omega (arith, n, l);
    }

pub read_again : (of : PlainFunction → List ℕ) (xs : Text) (x : PlainItem) (functions : List ℕ) (calls : ℕ → List ℕ) → item_named (name_of x).id xs ≡ true →
    Read of xs functions calls → Read of (xs ++ x ∷ []) functions calls
read_again of xs x functions calls h r =
    stays of xs (xs ++ x ∷ []) functions calls (let n = length-append xs (x ∷ []) in omega (arith, n)) (λ id. find_is id (xs ++ x ∷ []) ∙ ap function_at (same_item id xs x h) ∙ sym (find_is id xs)) r

-- the function that is new, or what was found before
found_new : (id : ℕ) (xs : Text) (x : PlainItem) → item_named (name_of x).id xs ≡ false →
    find_function id (xs ++ x ∷ []) ≡ cond ((name_of x).id == id) (function_at (Some x)) (find_function id xs)
found_new id xs x h =
    find_is id (xs ++ x ∷ []) ∙ ap function_at (find_snoc id xs x) ∙
    split ((name_of x).id == id)
    (λ e.
    let n : find_item id xs ≡ None = none_is (find_item id xs) (subst (λ n. item_named n xs ≡ false) (eqb-true (name_of x).id id e) h) in
    ap (λ a. function_at (or_else a (cond ((name_of x).id == id) (Some x) None))) n ∙ ap (λ b. function_at (cond b (Some x) None)) e
    ∙ sym (ap (λ b. cond b (function_at (Some x)) (find_function id xs)) e))
    (λ e.
    ap (λ b. function_at (or_else (find_item id xs) (cond b (Some x) None))) e ∙ ap function_at (or_none (find_item id xs)) ∙ sym (find_is id xs)
    ∙ sym (ap (λ b. cond b (function_at (Some x)) (find_function id xs)) e))

pub read_global : (of : PlainFunction → List ℕ) (xs : Text) (x : PlainItem) (functions : List ℕ) (calls : ℕ → List ℕ) → item_named (name_of x).id xs ≡ false → function_at (Some x) ≡ None →
    Read of xs functions calls → Read of (xs ++ x ∷ []) functions calls
read_global of xs x functions calls h g r =
    stays of xs (xs ++ x ∷ []) functions calls (let n = length-append xs (x ∷ []) in omega (arith, n))
    (λ id.
    found_new id xs x h ∙
    split ((name_of x).id == id)
    (λ e.
    let n : find_item id xs ≡ None = none_is (find_item id xs) (subst (λ n. item_named n xs ≡ false) (eqb-true (name_of x).id id e) h) in
    ap (λ b. cond b (function_at (Some x)) (find_function id xs)) e ∙ g ∙ sym (find_is id xs ∙ ap function_at n))
    (λ e. ap (λ b. cond b (function_at (Some x)) (find_function id xs)) e)) r

pub read_function : (of : PlainFunction → List ℕ) (xs : Text) (f : PlainFunction) (functions list : List ℕ) (calls next : ℕ → List ℕ) → item_named f.name.id xs ≡ false →
    list ≡ of f → ((g : ℕ) → next g ≡ put_entry f.name.id g list (calls g)) →
    Read of xs functions calls → Read of (xs ++ IsFunction f ∷ []) (functions ++ f.name.id ∷ []) next
read_function of xs f functions list calls next h e put r =
    record {
      stands = λ id.
          is_in_snoc id f.name.id functions ∙ ap (λ b. b || (f.name.id == id)) (r.stands id)
          ∙ sym (ap (λ q. not (is_none q)) (found_new id xs (IsFunction f) h)
          ∙ (elim (f.name.id == id) as (λ b. not (is_none (cond b (Some f) (find_function id xs))) ≡ (not (is_none (find_function id xs)) || b)) [
            | true ↦ sym (or-true (not (is_none (find_function id xs))))
            | false ↦ sym (or-false (not (is_none (find_function id xs))))
          ]));
      lists = λ id.
          put id ∙ ap (λ l. put_entry f.name.id id l (calls id)) e ∙ ap (put_entry f.name.id id (of f)) (r.lists id)
          ∙ sym (ap (list_at of) (found_new id xs (IsFunction f) h)
          ∙ (elim (f.name.id == id) as (λ b. list_at of (cond b (Some f) (find_function id xs)) ≡ cond b (of f) (list_at of (find_function id xs))) [ true ↦ refl | false ↦ refl ]));
      few =
          let n = length-append xs (IsFunction f ∷ []) in
          let m = length-append functions (f.name.id ∷ []) in
          let w = r.few in omega (arith, n, m, w);
    }

-- ---- a table that is judged in order

agrees_in : (f g : ℕ) (xs : List ℕ) → (f == g) ≡ true → is_in g (xs ++ f ∷ []) ≡ true
agrees_in f g xs e = is_in_snoc g f xs ∙ ap (λ b. is_in g xs || b) e ∙ (elim (is_in g xs) as (λ b. (b || true) ≡ true) [ true ↦ refl | false ↦ refl ])

agrees_not : (f g : ℕ) (xs : List ℕ) → (f == g) ≡ false → is_in g (xs ++ f ∷ []) ≡ is_in g xs
agrees_not f g xs e = is_in_snoc g f xs ∙ ap (λ b. is_in g xs || b) e ∙ (elim (is_in g xs) as (λ b. (b || false) ≡ b) [ true ↦ refl | false ↦ refl ])

absurd_bool : {P : Type 0} (b : Bool) → b ≡ true → b ≡ false → P
absurd_bool b t f = absurd (let q : true ≡ false = sym t ∙ f in cc)

pub agrees_next : (value : ℕ → Bool) (order : List ℕ) (n : ℕ) (table next : ℕ → Bool) (b : Bool) → n < length order → AgreesOnFirst value order n table →
    b ≡ value (get_or order n 0) → ((g : ℕ) → next g ≡ cond b (set_at (get_or order n 0) g (table g)) (table g)) → AgreesOnFirst value order (n + 1) next
agrees_next value order n table next b h a v step =
    let f = get_or order n 0 in
    let t : take (n + 1) order ≡ take n order ++ f ∷ [] = let e : n + 1 ≡ suc n = omega arith in ap (λ m. take m order) e ∙ take-suc order n 0 h in
    record {
      inside = λ g i.
          split (f == g)
          (λ e.
          let q : f ≡ g = eqb-true f g e in
          step g ∙ split b (λ y. ap (λ c. cond c (set_at f g (table g)) (table g)) y ∙ ap (λ c. cond c true (table g)) e ∙ sym y ∙ v ∙ ap value q)
          (λ y.
          ap (λ c. cond c (set_at f g (table g)) (table g)) y ∙
          split (is_in g (take n order)) (λ j. a.inside g j) (λ j. a.outside g j ∙ sym y ∙ v ∙ ap value q)))
          (λ e.
          let j : is_in g (take n order) ≡ true = sym (agrees_not f g (take n order) e) ∙ ap (is_in g) (sym t) ∙ i in
          step g ∙ skip b (table g) f g e ∙ a.inside g j);
      outside = λ g i.
          let i' : is_in g (take n order ++ f ∷ []) ≡ false = ap (is_in g) (sym t) ∙ i in
          split (f == g) (λ e. absurd_bool (is_in g (take n order ++ f ∷ [])) (agrees_in f g (take n order) e) i')
          (λ e. step g ∙ skip b (table g) f g e ∙ a.outside g (sym (agrees_not f g (take n order) e) ∙ i'));
    }
  where
    skip : (b x : Bool) (f g : ℕ) → (f == g) ≡ false → cond b (set_at f g x) x ≡ x
    skip true x f g e = ap (λ c. cond c true x) e
    skip false x f g e = refl

pub take_all : {A : Type 0} (n : ℕ) (xs : List A) → length xs ≤ n → take n xs ≡ xs
take_all zero [] h = refl
take_all (suc n) [] h = refl
take_all zero (x ∷ xs) h = absurd (omega arith)
take_all (suc n) (x ∷ xs) h = ap (λ ys. x ∷ ys) (take_all n xs (omega arith))

-- the same functions lead on
pub leads_same : (calls other : ℕ → List ℕ) → ((f : ℕ) → calls f ≡ other f) → {f g : ℕ} → Leads calls f g → Leads other f g
leads_same calls other h {f} {g} (at_once e) = at_once (ap (is_in g) (sym (h f)) ∙ e)
leads_same calls other h {f} {g} (through {g = m} e r) = through (ap (is_in m) (sym (h f)) ∙ e) (leads_same calls other h r)

no_function : (text : Text) (a : ℕ → Bool) (g : ℕ) → is_function text g ≡ false → certain_step text a g ≡ false
no_function text a g h = pick (find_function g text) h
  where
    pick : (f : Option PlainFunction) → not (is_none f) ≡ false → body_certain text a f ≡ false
    pick None h = refl
    pick (Some f) h = absurd (let q : true ≡ false = h in cc)

pub started_list : (f : Option PlainFunction) → list_at started_in f ≡ function_callees f
started_list None = refl
started_list (Some f) = refl

-- the table of a whole program
pub all_judged : (text : Text) (functions order : List ℕ) (calls : ℕ → List ℕ) (table : ℕ → Bool) → Read started_in text functions calls → IsOrder functions calls order →
    ((f : ℕ) → Leads (callees_of text) f f → ⊥) → IsRightTable (certain_step text) order (length order) table → (id : ℕ) → table id ≡ certain_function text id
all_judged text functions order calls table r o free judged id =
    let lists = λ (f : ℕ). r.lists f ∙ started_list (find_function f text) in
    let loc : IsLocal calls (certain_step text) =
    record { agrees = λ f a b h. (certain_local text).agrees f a b (λ g e. h g (ap (is_in g) (lists f) ∙ e)) } in
    let outside = λ (g : ℕ) (h : is_in g functions ≡ false) (a : ℕ → Bool). no_function text a g (sym (r.stands g) ∙ h) in
    let short = o.short in
    let few = r.few in
    let agrees = judged (certain_function text) (λ k a l agree.
    settle false (certain_step text) functions calls order o loc outside (length text) k a l (omega (arith, l, short, few)) agree.inside agree.outside) in
    let whole : take (length order) order ≡ order = take_all (length order) order (omega arith) in
    split (is_in id order) (λ i. agrees.inside id (ap (is_in id) whole ∙ i))
    (λ i.
    agrees.outside id (ap (is_in id) whole ∙ i)
    ∙ sym (out false (certain_step text) functions calls order o loc outside (length text) id
    (split (is_in id functions) (λ f. absurd_bool (is_in id order) (all_ordered functions calls order o (λ g l. free g (leads_same calls (callees_of text) lists l)) id f) i) (λ f. f))))
