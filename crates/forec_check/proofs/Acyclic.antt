-- In a text without faults no function reaches itself by statements and branches.
use Rattle.std.proofs.Common.{ℕ, ◌+◌, ◌==◌, ◌≡◌, ◌∙◌, sym, ap, refl, subst, inl, inr, Bool, true, false, cond, not, ◌&&◌, Option, Some, None, List, [], ◌∷◌, ◌++◌, length, arith}
use Rattle.std.specs.Prelude.{nat_lt, nat_le}
use Rattle.std.proofs.lemmas.Bool.{eqb-true}
use Rattle.forec_tree.specs.declared.fault.Fault.{Fault}
use Rattle.forec_tree.specs.Terms.{Text, PlainItem, IsGlobal, IsFunction, PlainFunction}
use Rattle.forec_tree.specs.Scopes.{name_of, find_item, no_scope, with_params}
use Rattle.forec_tree.specs.Findings.{in_params, in_statements}
use Rattle.forec_tree.specs.Rules.{Judging, fault_if, is_long, some_always_returns, findings_faults}
use Rattle.forec_tree.specs.Pauses.{find_function, all_started, callees_of, function_callees}
use Rattle.forec_tree.specs.Faults.{Before, is_in, Leads, at_once, through, functions_called, called_in, in_function, item_named, Member, here, later, Recursive, IsEarly, text_faults, main_faults, items_faults, item_faults, function_faults, after_item, none_before}
use Rattle.loop_check.proofs.IndexLemmas.{split}
use Rattle.forec_check.proofs.Recursion.{found_member}
use Rattle.forec_check.proofs.Started.{nil_right, nil_left, calls_all, called_right, clean_right}

pub no_members : (fs : List Fault) → ((f : Fault) → Member f fs → ⊥) → fs ≡ []
no_members [] h = refl
no_members (f ∷ fs) h = absurd (h f here)

abbrev judge : List (List ℕ) → PlainFunction → Judging
judge names f = record { names = names; gives = f.gives }

function_clean : (text : Text) (names : List (List ℕ)) (b : Before) (f : PlainFunction) → function_faults text names b f ≡ [] → findings_faults (judge names f) (in_function text f) ≡ []
function_clean text names b f h =
    let A = fault_if (item_named f.name.id b.items) f.name.place 2 in
    let B = fault_if (is_long names f.name.id) f.name.place 21 in
    let C = fault_if (nat_lt 16 (length f.params)) f.name.place 23 in
    let D = fault_if (nat_le 1024 b.functions) f.name.place 24 in
    let E = fault_if (f.gives && not (some_always_returns f.body)) f.name.place 15 in
    let R = findings_faults (judge names f) (in_function text f) in
    nil_right E R (nil_right D (E ++ R) (nil_right C (D ++ (E ++ R)) (nil_right B (C ++ (D ++ (E ++ R))) (nil_right A (B ++ (C ++ (D ++ (E ++ R)))) h))))

item_clean : (text : Text) (names : List (List ℕ)) (b : Before) (xs : List PlainItem) (f : PlainFunction) → items_faults text names b xs ≡ [] → Member (IsFunction f) xs →
    findings_faults (judge names f) (in_function text f) ≡ []
item_clean text names b [] f h p = elim p [ ]
item_clean text names b (x ∷ xs) f h here = function_clean text names b f (nil_left (item_faults text names b (IsFunction f)) (items_faults text names (after_item b (IsFunction f)) xs) h)
item_clean text names b (x ∷ xs) f h (later p) = item_clean text names (after_item b x) xs f (nil_right (item_faults text names b x) (items_faults text names (after_item b x) xs) h) p

found_name : (id : ℕ) (xs : Text) (y : PlainItem) → find_item id xs ≡ Some y → (name_of y).id ≡ id
found_name id [] y h = absurd (let q : None ≡ Some y = h in cc)
found_name id (x ∷ xs) y h =
    let rest = found_name id xs y in
    split ((name_of x).id == id)
    (λ e. let q : x ≡ y = (let z : Some x ≡ Some y = sym (ap (λ b. cond b (Some x) (find_item id xs)) e) ∙ h in cc) in sym (ap (λ z. (name_of z).id) q) ∙ eqb-true (name_of x).id id e)
    (λ e. rest (sym (ap (λ b. cond b (Some x) (find_item id xs)) e) ∙ h))

-- a function that calls, found
pub record Caller (text : Text) (f : ℕ) : Type 0 where
  pub function : PlainFunction
  pub found : find_item f text ≡ Some (IsFunction function)

caller : (text : Text) (f g : ℕ) → is_in g (functions_called text f) ≡ true → Caller text f
caller text f g h = pick (find_item f text) refl h
  where
    pick : (i : Option PlainItem) → find_item f text ≡ i → is_in g (elim i [ None ↦ [] | Some (IsGlobal x) ↦ [] | Some (IsFunction x) ↦ called_in (in_function text x) ]) ≡ true → Caller text f
    pick None e q = absurd (let z : false ≡ true = q in cc)
    pick (Some (IsGlobal x)) e q = absurd (let z : false ≡ true = q in cc)
    pick (Some (IsFunction x)) e q = record { function = x; found = e }

module _ (text : Text) (names : List (List ℕ)) (none : (f : Fault) → IsEarly text names f → ⊥) where
  clean_items : items_faults text names none_before text ≡ []
  clean_items = nil_right (main_faults text names) (items_faults text names none_before text) (no_members (text_faults text names) (λ f p. none f (inl p)))

  -- what a function calls or starts it calls in its findings
  sub : (f g : ℕ) → is_in g (callees_of text f) ≡ true → is_in g (functions_called text f) ≡ true
  sub f g h = pick (find_item f text) refl h
    where
      pick : (i : Option PlainItem) → find_item f text ≡ i → is_in g (function_callees (elim i [ None ↦ None | Some (IsGlobal x) ↦ None | Some (IsFunction x) ↦ Some x ])) ≡ true →
          is_in g (elim (find_item f text) [ None ↦ [] | Some (IsGlobal x) ↦ [] | Some (IsFunction x) ↦ called_in (in_function text x) ]) ≡ true
      pick None e q = absurd (let z : false ≡ true = q in cc)
      pick (Some (IsGlobal x)) e q = absurd (let z : false ≡ true = q in cc)
      pick (Some (IsFunction x)) e q =
          let clean = item_clean text names none_before text x clean_items (found_member f text (IsFunction x) e) in
          let params = in_params text no_scope x.params in
          let body = in_statements text (with_params no_scope x.params) x.body in
          rw e (called_right g params body (calls_all (judge names x) text (with_params no_scope x.params) x.body (clean_right (judge names x) params body clean) g q))

  leads_sub : {f g : ℕ} → Leads (callees_of text) f g → Leads (functions_called text) f g
  leads_sub {f} {g} (at_once e) = at_once (sub f g e)
  leads_sub {f} {g} (through {g = m} e r) = through (sub f m e) (leads_sub r)

  first_call : {f g : ℕ} → Leads (functions_called text) f g → Caller text f
  first_call {f} {g} (at_once e) = caller text f g e
  first_call {f} {g} (through {g = m} e r) = caller text f m e

  pub no_reach : (f : ℕ) → Leads (functions_called text) f f → ⊥
  no_reach f reach =
      let c = first_call reach in
      let id : c.function.name.id ≡ f = found_name f text (IsFunction c.function) c.found in
      none (record { place = c.function.name.place; rule = 6 }) (inr (record {
        function = c.function;
        stands = found_member f text (IsFunction c.function) c.found;
        first = subst (λ n. find_item n text ≡ Some (IsFunction c.function)) (sym id) c.found;
        reaches = subst (λ n. Leads (functions_called text) n n) (sym id) reach;
        is = refl;
      }))

  pub no_circle : (f : ℕ) → Leads (callees_of text) f f → ⊥
  no_circle f l = no_reach f (leads_sub l)
