-- What a program that breaks no rule shows of its items: no list of faults has one, no function reaches itself, each name means its own item, and thread 0 has a function to run.
use Rattle.std.proofs.Common.{ℕ, ◌≤◌, ◌≡◌, ◌∙◌, sym, ap, refl, subst, inl, inr, Bool, true, false, cond, not, ◌==◌, ◌&&◌, nat_lt, nat_le, Option, Some, None, List, [], ◌∷◌, ◌++◌, append_assoc, length, arith}
use Rattle.std.proofs.lemmas.Bool.{not-true}
use Rattle.std.proofs.lemmas.Bool.{and_parts}
use Rattle.std.proofs.lemmas.Bool.Decides.{nat_tests}
use Rattle.forec_tree.specs.Terms.{Text, PlainItem, PlainFunction, IsGlobal, IsFunction}
use Rattle.forec_tree.specs.Scopes.{name_of, find_item}
use Rattle.forec_tree.specs.Pauses.{find_function}
use Rattle.forec_tree.specs.Rules.{fault_if, is_none, is_long, some_always_returns, findings_faults, loop_faults}
use Rattle.forec_tree.specs.Faults.{in_function, functions_called, Leads, Before, none_before, after_item, item_named, is_start, start_name, main_place, main_faults, function_faults, item_faults, items_faults, text_faults, late_item_faults, late_faults, Member, here, later}
use Rattle.forec_check.proofs.Acyclic.{no_members}
use Rattle.forec_check.specs.Faultless.{Faultless}
use Rattle.forec_check.proofs.Acyclic.{no_reach}
use Rattle.text_kernel.specs.Kernels.{main_id}
use Rattle.text_kernel.proofs.Fine.{none_left, none_right, not_broken}

-- the program breaks none of the rules
pub record Clean (text : Text) (names : List (List ℕ)) : Type 0 where
  pub start : main_faults text names ≡ []
  pub items : items_faults text names none_before text ≡ []
  pub free : (f : ℕ) → Leads (functions_called text) f f → ⊥
  pub late : late_faults text names text ≡ []

pub clean_of : (text : Text) (names : List (List ℕ)) → Faultless text names → Clean text names
clean_of text names h =
    let early : text_faults text names ≡ [] = no_members (text_faults text names) (λ f p. h f (inl (inl p))) in
    record {
      start = none_left (main_faults text names) (items_faults text names none_before text) early;
      items = none_right (main_faults text names) (items_faults text names none_before text) early;
      free = no_reach text names (λ f e. h f (inl e));
      late = no_members (late_faults text names text) (λ f p. h f (inr ((λ g e. h g (inl e)), p)));
    }

-- ---- each item

pub record ItemClean (text : Text) (names : List (List ℕ)) (i : PlainItem) : Type 0 where
  pub before : Before
  pub none : item_faults text names before i ≡ []

pub item_clean : (text : Text) (names : List (List ℕ)) (b : Before) (xs : List PlainItem) (i : PlainItem) → items_faults text names b xs ≡ [] → Member i xs → ItemClean text names i
item_clean text names b [] i h p = elim p [ ]
item_clean text names b (x ∷ xs) i h here = record { before = b; none = none_left (item_faults text names b x) (items_faults text names (after_item b x) xs) h }
item_clean text names b (x ∷ xs) i h (later p) =
    item_clean text names (after_item b x) xs i (none_right (item_faults text names b x) (items_faults text names (after_item b x) xs) h) p

-- what a function of such a program keeps
pub record FunctionClean (text : Text) (names : List (List ℕ)) (f : PlainFunction) : Type 0 where
  pub few : length f.params ≤ 16
  pub returns : f.gives ≡ true → some_always_returns f.body ≡ true
  pub findings : findings_faults (record { names = names; gives = f.gives }) (in_function text f) ≡ []

returning : (a b : Bool) → (a && not b) ≡ false → a ≡ true → b ≡ true
returning true true h g = refl
returning true false h g = cc
returning false b h g = cc

pub function_clean : (text : Text) (names : List (List ℕ)) (b : Before) (f : PlainFunction) → function_faults text names b f ≡ [] → FunctionClean text names f
function_clean text names b f h =
    let h1 = none_right (fault_if (item_named f.name.id b.items) f.name.place 2) _ h in
    let h2 = none_right (fault_if (is_long names f.name.id) f.name.place 21) _ h1 in
    let h3 = none_right (fault_if (nat_lt 16 (length f.params)) f.name.place 23) _ h2 in
    let h4 = none_right (fault_if (nat_le 1024 b.functions) f.name.place 24) _ h3 in
    let e : nat_lt 16 (length f.params) ≡ false = not_broken (nat_lt 16 (length f.params)) f.name.place 23 (none_left (fault_if (nat_lt 16 (length f.params)) f.name.place 23) _ h2) in
    record {
      few = grind (arith, nat_tests);
      returns = returning f.gives (some_always_returns f.body) (not_broken (f.gives && not (some_always_returns f.body)) f.name.place 15 (none_left (fault_if (f.gives && not (some_always_returns f.body)) f.name.place 15) _ h4));
      findings = none_right (fault_if (f.gives && not (some_always_returns f.body)) f.name.place 15) _ h4;
    }

pub late_clean : (text : Text) (names : List (List ℕ)) (xs : List PlainItem) (i : PlainItem) → late_faults text names xs ≡ [] → Member i xs → late_item_faults text names i ≡ []
late_clean text names [] i h p = elim p [ ]
late_clean text names (x ∷ xs) i h here = none_left (late_item_faults text names x) (late_faults text names xs) h
late_clean text names (x ∷ xs) i h (later p) = late_clean text names xs i (none_right (late_item_faults text names x) (late_faults text names xs) h) p

-- ---- names

chosen_some : {A : Type 0} (b : Bool) (x y : A) (o : Option A) → b ≡ true → cond b (Some x) o ≡ Some y → x ≡ y
chosen_some true x y o e h = cc
chosen_some false x y o e h = cc

pub found_member : (id : ℕ) (xs : List PlainItem) (i : PlainItem) → find_item id xs ≡ Some i → Member i xs
found_member id [] i h = cc
found_member id (x ∷ xs) i h = pick ((name_of x).id == id) refl (λ e. found_member id xs i e)
  where
    pick : (b : Bool) → ((name_of x).id == id) ≡ b → (find_item id xs ≡ Some i → Member i xs) → Member i (x ∷ xs)
    pick true e k = subst (λ z. Member z (x ∷ xs)) (chosen_some ((name_of x).id == id) x i (find_item id xs) e h) here
    pick false e k = later (k (sym (ap (λ b. cond b (Some x) (find_item id xs)) e) ∙ h))

pub function_item : (id : ℕ) (text : Text) (f : PlainFunction) → find_function id text ≡ Some f → find_item id text ≡ Some (IsFunction f)
function_item id text f h = pick (find_item id text) refl h
  where
    pick : (i : Option PlainItem) → find_item id text ≡ i → elim i [ None ↦ None | Some (IsGlobal g) ↦ None | Some (IsFunction x) ↦ Some x ] ≡ Some f → find_item id text ≡ Some (IsFunction f)
    pick None e k = cc
    pick (Some (IsGlobal g)) e k = cc
    pick (Some (IsFunction x)) e k = let same : x ≡ f = cc in e ∙ ap (λ z. Some (IsFunction z)) same

unnamed : {A : Type 0} (o : Option A) → not (is_none o) ≡ false → o ≡ None
unnamed None h = refl
unnamed (Some x) h = cc

find_behind : (id : ℕ) (xs ys : List PlainItem) → find_item id xs ≡ None → find_item id (xs ++ ys) ≡ find_item id ys
find_behind id [] ys h = refl
find_behind id (x ∷ xs) ys h = pick ((name_of x).id == id) refl (λ e. find_behind id xs ys e)
  where
    pick : (b : Bool) → ((name_of x).id == id) ≡ b → (find_item id xs ≡ None → find_item id (xs ++ ys) ≡ find_item id ys) → find_item id ((x ∷ xs) ++ ys) ≡ find_item id ys
    pick true e k = let bad : Some x ≡ None = sym (ap (λ b. cond b (Some x) (find_item id xs)) e) ∙ h in cc
    pick false e k = ap (λ b. cond b (Some x) (find_item id (xs ++ ys))) e ∙ k (sym (ap (λ b. cond b (Some x) (find_item id xs)) e) ∙ h)

find_first : (x : PlainItem) (xs : List PlainItem) → find_item (name_of x).id (x ∷ xs) ≡ Some x
find_first x xs = let e : ((name_of x).id == (name_of x).id) ≡ true = grind (arith, nat_tests) in ap (λ b. cond b (Some x) (find_item (name_of x).id xs)) e

pub new_name : (text : Text) (names : List (List ℕ)) (b : Before) (i : PlainItem) → item_faults text names b i ≡ [] → find_item (name_of i).id b.items ≡ None
new_name text names b (IsGlobal g) h =
    unnamed (find_item g.name.id b.items) (not_broken (item_named g.name.id b.items) g.name.place 2 (none_left (fault_if (item_named g.name.id b.items) g.name.place 2) _ h))
new_name text names b (IsFunction f) h =
    unnamed (find_item f.name.id b.items) (not_broken (item_named f.name.id b.items) f.name.place 2 (none_left (fault_if (item_named f.name.id b.items) f.name.place 2) _ h))

pub items_after : (b : Before) (x : PlainItem) → (after_item b x).items ≡ b.items ++ x ∷ []
items_after b (IsGlobal g) = refl
items_after b (IsFunction f) = refl

own_among : (text : Text) (names : List (List ℕ)) (b : Before) (xs : List PlainItem) (i : PlainItem) → items_faults text names b xs ≡ [] → Member i xs → find_item (name_of i).id (b.items ++ xs) ≡ Some i
own_among text names b [] i h p = elim p [ ]
own_among text names b (x ∷ xs) i h here =
    find_behind (name_of x).id b.items (x ∷ xs) (new_name text names b x (none_left (item_faults text names b x) (items_faults text names (after_item b x) xs) h)) ∙ find_first x xs
own_among text names b (x ∷ xs) i h (later p) =
    let same : b.items ++ (x ∷ xs) ≡ (after_item b x).items ++ xs = sym (append_assoc b.items (x ∷ []) xs) ∙ ap (λ l. l ++ xs) (sym (items_after b x)) in
    ap (find_item (name_of i).id) same ∙ own_among text names (after_item b x) xs i (none_right (item_faults text names b x) (items_faults text names (after_item b x) xs) h) p

-- where thread 0 starts
pub record Started (text : Text) (names : List (List ℕ)) (f : PlainFunction) : Type 0 where
  pub found : find_item (main_id text names) text ≡ Some (IsFunction f)
  pub void : f.gives ≡ false
  pub params : length f.params ≡ 0

record Start (names : List (List ℕ)) (xs : List PlainItem) (id : ℕ) : Type 0 where
  function : PlainFunction
  member : Member (IsFunction function) xs
  starts : is_start names (IsFunction function) ≡ true
  named : id ≡ function.name.id

start_at : (names : List (List ℕ)) (xs : List PlainItem) (id : ℕ) → start_name names xs ≡ Some id → Start names xs id
start_at names [] id h = cc
start_at names (x ∷ xs) id h = pick x (is_start names x) refl h (λ e. start_at names xs id e)
  where
    more : (y : PlainItem) → Start names xs id → Start names (y ∷ xs) id
    more y s = record { function = s.function; member = later s.member; starts = s.starts; named = s.named }

    pick : (y : PlainItem) (b : Bool) → is_start names y ≡ b → cond (is_start names y) (Some (name_of y).id) (start_name names xs) ≡ Some id → (start_name names xs ≡ Some id → Start names xs id) → Start names (y ∷ xs) id
    pick (IsGlobal g) b e d k = more (IsGlobal g) (k d)
    pick (IsFunction f) true e d k =
        record { function = f; member = here; starts = e; named = sym (chosen_some (is_start names (IsFunction f)) f.name.id id (start_name names xs) e d) }
    pick (IsFunction f) false e d k = more (IsFunction f) (k (sym (ap (λ b. cond b (Some f.name.id) (start_name names xs)) e) ∙ d))

module _ (text : Text) (names : List (List ℕ)) (clean : Clean text names) where
  -- each item is the one that its name means
  pub own_item : (i : PlainItem) → Member i text → find_item (name_of i).id text ≡ Some i
  own_item i p = own_among text names none_before text i clean.items p

  pub function_of : (f : PlainFunction) → Member (IsFunction f) text → FunctionClean text names f
  function_of f p = let c = item_clean text names none_before text (IsFunction f) clean.items p in function_clean text names c.before f c.none

  pub loops_of : (f : PlainFunction) → Member (IsFunction f) text → loop_faults text (in_function text f) ≡ []
  loops_of f p = late_clean text names text (IsFunction f) clean.late p

  -- a void function that is called, as a thread judges it
  pub void_clean : (id : ℕ) (f : PlainFunction) → find_function id text ≡ Some f → f.gives ≡ false → findings_faults (record { names = names; gives = false }) (in_function text f) ≡ []
  void_clean id f e g =
      let c = function_of f (found_member id text (IsFunction f) (function_item id text f e)) in
      subst (λ b. findings_faults (record { names = names; gives = b }) (in_function text f) ≡ []) g c.findings

  some_start : (o : Option ℕ) → start_name names text ≡ o → (s : PlainFunction) × Started text names s
  some_start None e =
      let bad = not_broken (is_none (start_name names text)) (main_place names text) 3 clean.start in
      let worse : true ≡ false = sym (ap is_none e) ∙ bad in cc
  some_start (Some id) e =
      let s = start_at names text id e in
      let parts = and_parts _ (not s.function.gives && (length s.function.params == 0)) s.starts in
      let last = and_parts (not s.function.gives) (length s.function.params == 0) parts.1 in
      let zero_ : (length s.function.params == 0) ≡ true = last.1 in
      let is : main_id text names ≡ s.function.name.id = ap (λ o. elim o [ None ↦ 0 | Some n ↦ n ]) e ∙ s.named in (
        s.function,
        record {
          found = ap (λ n. find_item n text) is ∙ own_item (IsFunction s.function) s.member;
          void = not-true s.function.gives last.0;
          params = grind (arith, nat_tests);
        },
      )

  pub start_found : (s : PlainFunction) × Started text names s
  start_found = some_start (start_name names text) refl
