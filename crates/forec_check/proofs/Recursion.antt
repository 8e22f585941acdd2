-- Functions that reach themselves, item by item.
use Rattle.std.proofs.Common.{ℕ, zero, suc, ◌+◌, ◌<◌, ◌≤◌, ◌≡◌, ◌∙◌, ◌==◌, sym, ap, refl, subst, ◌⊎◌, inl, inr, ⊎_elim, Bool, true, false, cond, not, Option, Some, None, List, [], ◌∷◌, ◌++◌, length, take, drop, get_or, map, append_assoc, length-take, arith}
use Rattle.std.specs.Prelude.{slice_get}
use Rattle.std.proofs.lemmas.List.{take-append-drop, take_all}
use Rattle.std.proofs.lemmas.Bool.Decides.{nat_tests}
use Rattle.std.specs.declared.vec.Vec.{Vec}
use Rattle.std.specs.declared.alloc.Global.{Global}
use Rattle.forec_base.specs.declared.Place.{Place}
use Rattle.forec_tree.specs.declared.fault.Fault.{Fault}
use Rattle.forec_tree.specs.declared.tree.GlobalKind.{GlobalKind}
use Rattle.forec_tree.specs.declared.uses.How.{How}
use Rattle.forec_tree.specs.declared.uses.How.TheVariants as how
use Rattle.forec_tree.specs.declared.uses.Meaning.{Meaning}
use Rattle.forec_tree.specs.declared.uses.Meaning.TheVariants as means
use Rattle.forec_tree.specs.Terms.{Text, PlainItem, IsGlobal, IsFunction, PlainFunction}
use Rattle.forec_tree.specs.Scopes.{name_of, find_item}
use Rattle.forec_tree.specs.Findings as finding
use Rattle.forec_tree.specs.Findings.{Finding}
use Rattle.forec_tree.specs.Rules.{fault_if, is_none}
use Rattle.forec_tree.specs.Pauses.{find_function}
use Rattle.forec_tree.specs.Faults.{is_in, Leads, at_once, through, ReachesByCalls, functions_called, called_in, in_function, item_named, Member, here, later, IsLeast, Recursive, IsEarly, is_before, text_faults}
use Rattle.fault_order.specs.Least.{lesser, least_from}
use Rattle.fault_order.proofs.LeastLaws.{before_trans, before_self, before_flip, lesser_none, lesser_kept, lesser_is, none_least, is_least}
use Rattle.loop_check.specs.Graph.{IsOrder, FunctionsCall}
use Rattle.loop_check.specs.Known.{Read, list_at, IsListOf}
use Rattle.loop_check.proofs.IndexLemmas.{split}
use Rattle.loop_check.proofs.Ordered.{place_of, is_in_at}
use Rattle.loop_check.proofs.Settled.{front_at, get_take}
use Rattle.loop_check.proofs.Reading.{next_of, leads_same}
use Rattle.program_walk.specs.declared.walk.effects.Effect.{Effect}
use Rattle.program_walk.specs.declared.walk.effects.Effect.TheVariants as effect
use Rattle.program_walk.specs.Walk.{as_list, effect_of, effects_of, finding_effects}
use Rattle.program_walk.specs.Items.{in_item}
use Rattle.fault_order.specs.Least.{improves}
use Rattle.forec_check.specs.Early.{effect_calls, function_calls, IsLeastOrNone, RecursiveIn, EarlyTo}

-- ---- the calls of effects

pub effect_calls-append : (xs ys : List Effect) → effect_calls (xs ++ ys) ≡ effect_calls xs ++ effect_calls ys
effect_calls-append [] ys = refl
effect_calls-append (effect.Computes id ∷ xs) ys = ap (λ r. id ∷ r) (effect_calls-append xs ys)
effect_calls-append (effect.Runs id ∷ xs) ys = ap (λ r. id ∷ r) (effect_calls-append xs ys)
effect_calls-append (effect.Starts id ∷ xs) ys = ap (λ r. id ∷ r) (effect_calls-append xs ys)
effect_calls-append (effect.Accesses id ∷ xs) ys = effect_calls-append xs ys
effect_calls-append (effect.Opens ∷ xs) ys = effect_calls-append xs ys
effect_calls-append (effect.Closes ∷ xs) ys = effect_calls-append xs ys

-- a use of what is no function calls none
abbrev used_calls : How → ℕ → Meaning → List ℕ
used_calls h id m = effect_calls (as_list (effect_of h id m))

calls_none : (h : How) (id : ℕ) → (used_calls h id means.Unknown ≡ []) × ((a : Bool) → used_calls h id (means.Local a) ≡ []) × ((k : GlobalKind) (a : Bool) → used_calls h id (means.Global k a) ≡ [])
calls_none how.Reads id = (refl, λ a. refl, λ k a. refl)
calls_none how.Indexes id = (refl, λ a. refl, λ k a. refl)
calls_none how.Writes id = (refl, λ a. refl, λ k a. refl)
calls_none how.WritesAt id = (refl, λ a. refl, λ k a. refl)
calls_none (how.Computes n) id = (refl, λ a. refl, λ k a. refl)
calls_none (how.Runs n) id = (refl, λ a. refl, λ k a. refl)
calls_none (how.Starts n) id = (refl, λ a. refl, λ k a. refl)

one_call : (f : Finding) (rest : List Finding) → effect_calls (finding_effects f) ++ called_in rest ≡ called_in (f ∷ rest)
one_call (finding.Use (how.Computes n) name (means.Function gives params)) rest = refl
one_call (finding.Use (how.Runs n) name (means.Function gives params)) rest = refl
one_call (finding.Use (how.Starts n) name (means.Function gives params)) rest = refl
one_call (finding.Use how.Reads name (means.Function gives params)) rest = refl
one_call (finding.Use how.Indexes name (means.Function gives params)) rest = refl
one_call (finding.Use how.Writes name (means.Function gives params)) rest = refl
one_call (finding.Use how.WritesAt name (means.Function gives params)) rest = refl
one_call (finding.Use h name means.Unknown) rest = ap (λ l. l ++ called_in rest) (calls_none h name.id).0
one_call (finding.Use h name (means.Local a)) rest = ap (λ l. l ++ called_in rest) ((calls_none h name.id).1 a)
one_call (finding.Use h name (means.Global k a)) rest = ap (λ l. l ++ called_in rest) ((calls_none h name.id).2 k a)
one_call (finding.Declares name again l n) rest = refl
one_call (finding.Bound n) rest = refl
one_call (finding.Loop l) rest = refl
one_call (finding.Synchronous p) rest = refl
one_call (finding.Gives p) rest = refl
one_call finding.Opens rest = refl
one_call finding.Closes rest = refl

pub calls_is : (fs : List Finding) → effect_calls (effects_of fs) ≡ called_in fs
calls_is [] = refl
calls_is (f ∷ rest) =
    effect_calls-append (finding_effects f) (effects_of rest) ∙ ap (λ x. effect_calls (finding_effects f) ++ x) (calls_is rest) ∙ one_call f rest

-- ---- the graph

pub calls_at : (text : Text) (id : ℕ) → list_at (function_calls text) (find_function id text) ≡ functions_called text id
calls_at text id = elim (find_item id text) as (λ i. list_at (function_calls text) (elim i [ None ↦ None | Some (IsGlobal g) ↦ None | Some (IsFunction f) ↦ Some f ])
    ≡ elim i [ None ↦ [] | Some (IsGlobal g) ↦ [] | Some (IsFunction f) ↦ called_in (in_function text f) ]) [
      | None ↦ refl
      | Some (IsGlobal g) ↦ refl
      | Some (IsFunction f) ↦ refl
    ]

pub graph_is : (text : Text) (functions : List ℕ) (calls : ℕ → List ℕ) → Read (function_calls text) text functions calls → (id : ℕ) → calls id ≡ functions_called text id
graph_is text functions calls r id = r.lists id ∙ calls_at text id

pub functions_call : (text : Text) (functions : List ℕ) (calls : ℕ → List ℕ) → Read (function_calls text) text functions calls → FunctionsCall functions calls
functions_call text functions calls r g h e = r.stands g ∙ pick (find_function g text) (sym (ap (is_in h) (r.lists g)) ∙ e)
  where
    pick : (f : Option PlainFunction) → is_in h (list_at (function_calls text) f) ≡ true → not (is_none f) ≡ true
    pick None q = absurd (let z : false ≡ true = q in cc)
    pick (Some f) q = refl

-- a function that calls another is one
pub leads_from : (functions : List ℕ) (calls : ℕ → List ℕ) → FunctionsCall functions calls → {m g : ℕ} → Leads calls m g → is_in m functions ≡ true
leads_from functions calls call {m} {g} (at_once e) = call m g e
leads_from functions calls call {m} {g} (through {g = q} e r) = call m q e

-- ---- the least of a growing set

pub same_kept : (k : Option Fault) (A B : Fault → Type 0) → ((f : Fault) → A f → B f) → ((f : Fault) → B f → A f) → IsLeastOrNone k A → IsLeastOrNone k B
same_kept None A B to back h = λ f b. h f (back f b)
same_kept (Some m) A B to back h = record { among = to m h.among; least = λ f b. h.least f (back f b) }

-- one fault more, where a rule is broken
abbrev pub OrFault : (Fault → Type 0) → Bool → Fault → Fault → Type 0
OrFault A b fault f = A f ⊎ ((b ≡ true) × (f ≡ fault))

kept_true : (k : Option Fault) (A : Fault → Type 0) (fault : Fault) → IsLeastOrNone k A → IsLeastOrNone (least_from k (fault ∷ [])) (OrFault A true fault)
unfolding least_from
kept_true None A fault h =
    record {
      among = inr (refl, refl);
      least = λ f p. ⊎_elim (λ a. absurd (h f a)) (λ e. ap (λ g. is_before g fault) e.1 ∙ before_self fault) p;
    }
kept_true (Some k) A fault h =
    record {
      among = ⊎_elim (λ e. inl (subst A (sym e) h.among)) (λ e. inr (refl, e)) (lesser_is k fault);
      least = λ f p.
          ⊎_elim (λ a. before_trans (lesser (Some k) fault) k f (lesser_kept k fault) (h.least f a))
          (λ e. ap (λ g. is_before g (lesser (Some k) fault)) e.1 ∙ lesser_none (Some k) fault) p;
    }

kept_false : (k : Option Fault) (A : Fault → Type 0) (fault : Fault) → IsLeastOrNone k A → IsLeastOrNone (least_from k []) (OrFault A false fault)
unfolding least_from
kept_false k A fault h =
    same_kept k A (OrFault A false fault) (λ f a. inl a) (λ f p. ⊎_elim (λ a. a) (λ e. absurd (let q : false ≡ true = e.0 in cc)) p) h

pub kept_step : (k : Option Fault) (A : Fault → Type 0) (b : Bool) (place : Place) (rule : ℕ) → IsLeastOrNone k A →
    IsLeastOrNone (least_from k (fault_if b place rule)) (OrFault A b (record { place = place; rule = rule }))
kept_step k A true place rule h = kept_true k A (record { place = place; rule = rule }) h
kept_step k A false place rule h = kept_false k A (record { place = place; rule = rule }) h

-- the least of a list
pub kept_list : (fs : List Fault) (k : Option Fault) → k ≡ least_from None fs → IsLeastOrNone k (λ f. Member f fs)
kept_list fs None h = let e = none_least fs (sym h) in λ f p. absurd (none_in f fs e p)
  where
    none_in : (f : Fault) (fs : List Fault) → fs ≡ [] → Member f fs → ⊥
    none_in f [] e p = elim p [ ]
    none_in f (g ∷ gs) e p = absurd (let q : g ∷ gs ≡ [] = e in cc)
kept_list fs (Some m) h = is_least m fs (sym h)

-- ---- items

member_left : {A : Type 0} (x : A) (xs ys : List A) → Member x xs → Member x (xs ++ ys)
member_left x [] ys p = elim p [ ]
member_left x (y ∷ xs) ys here = here
member_left x (y ∷ xs) ys (later p) = later (member_left x xs ys p)

member_last : {A : Type 0} (x : A) (xs : List A) → Member x (xs ++ x ∷ [])
member_last x [] = here
member_last x (y ∷ xs) = later (member_last x xs)

member_snoc : {A : Type 0} (y : A) (xs : List A) (x : A) → Member y (xs ++ x ∷ []) → Member y xs ⊎ (y ≡ x)
member_snoc y [] x here = inr refl
member_snoc y [] x (later p) = elim p [ ]
member_snoc y (z ∷ xs) x here = inl here
member_snoc y (z ∷ xs) x (later p) = ⊎_elim (λ q. inl (later q)) (λ e. inr e) (member_snoc y xs x p)

pub found_member : (id : ℕ) (xs : Text) (y : PlainItem) → find_item id xs ≡ Some y → Member y xs
found_member id [] y h = absurd (let q : None ≡ Some y = h in cc)
found_member id (x ∷ xs) y h =
    let rest = found_member id xs y in
    split ((name_of x).id == id)
    (λ e. let q : x ≡ y = (let z : Some x ≡ Some y = sym (ap (λ b. cond b (Some x) (find_item id xs)) e) ∙ h in cc) in subst (λ w. Member w (x ∷ xs)) q here)
    (λ e. later (rest (sym (ap (λ b. cond b (Some x) (find_item id xs)) e) ∙ h)))

-- a name of the front is found there
found_front : (id : ℕ) (xs zs : Text) → item_named id xs ≡ true → find_item id (xs ++ zs) ≡ find_item id xs
found_front id [] zs h = absurd (let q : false ≡ true = h in cc)
found_front id (x ∷ xs) zs h =
    let rest = found_front id xs zs in
    split ((name_of x).id == id)
    (λ e. ap (λ b. cond b (Some x) (find_item id (xs ++ zs))) e ∙ sym (ap (λ b. cond b (Some x) (find_item id xs)) e))
    (λ e.
    ap (λ b. cond b (Some x) (find_item id (xs ++ zs))) e ∙ rest (sym (ap (λ b. not (is_none (cond b (Some x) (find_item id xs)))) e) ∙ h)
    ∙ sym (ap (λ b. cond b (Some x) (find_item id xs)) e))

same_id : (n : ℕ) → (n == n) ≡ true
same_id n = grind (arith, nat_tests)

-- the first of its name
found_here : (x : PlainItem) (xs zs : Text) → item_named (name_of x).id xs ≡ false → find_item (name_of x).id (xs ++ x ∷ zs) ≡ Some x
found_here x [] zs h = let q : ((name_of x).id == (name_of x).id) ≡ true = same_id (name_of x).id in ap (λ b. cond b (Some x) (find_item (name_of x).id zs)) q
found_here x (y ∷ xs) zs h =
    let id = (name_of x).id in
    let rest = found_here x xs zs in
    split ((name_of y).id == id)
    (λ e. absurd (let q : true ≡ false = sym (ap (λ b. not (is_none (cond b (Some y) (find_item id xs)))) e) ∙ h in cc))
    (λ e. ap (λ b. cond b (Some y) (find_item id (xs ++ x ∷ zs))) e ∙ rest (sym (ap (λ b. not (is_none (cond b (Some y) (find_item id xs)))) e) ∙ h))

text_at : (text : Text) (at : ℕ) (x : PlainItem) → slice_get text at ≡ Some x → text ≡ take at text ++ x ∷ drop (at + 1) text
text_at text at x h = sym (take-append-drop (at + 1) text) ∙ ap (λ t. t ++ drop (at + 1) text) (next_of text at x h) ∙ append_assoc (take at text) (x ∷ []) (drop (at + 1) text)

module _ (text : Text) (names : List (List ℕ)) (at : ℕ) (x : PlainItem) (get : slice_get text at ≡ Some x) where
  grows : (f : Fault) → EarlyTo text names (take at text) f → EarlyTo text names (take (at + 1) text) f
  grows f p =
      ⊎_elim (λ a. inl a)
      (λ c. inr (record {
        function = c.function;
        stands = subst (λ ys. Member (IsFunction c.function) ys) (sym (next_of text at x get)) (member_left (IsFunction c.function) (take at text) (x ∷ []) c.stands);
        first = c.first;
        reaches = c.reaches;
        is = c.is;
      })) p

  -- what is new is the item itself
  shrinks : (f : Fault) → EarlyTo text names (take (at + 1) text) f →
      EarlyTo text names (take at text) f ⊎ ((c : RecursiveIn text (take (at + 1) text) f) × (IsFunction c.function ≡ x))
  shrinks f p =
      ⊎_elim (λ a. inl (inl a))
      (λ c.
      ⊎_elim (λ m. inl (inr (record { function = c.function; stands = m; first = c.first; reaches = c.reaches; is = c.is }))) (λ e. inr (c, e))
      (member_snoc (IsFunction c.function) (take at text) x (subst (λ ys. Member (IsFunction c.function) ys) (next_of text at x get) c.stands))) p

  pub nothing_new : (k : Option Fault) → ((f : Fault) → (c : RecursiveIn text (take (at + 1) text) f) → IsFunction c.function ≡ x → EarlyTo text names (take at text) f) →
      IsLeastOrNone k (EarlyTo text names (take at text)) → IsLeastOrNone k (EarlyTo text names (take (at + 1) text))
  nothing_new k old h =
      same_kept k (EarlyTo text names (take at text)) (EarlyTo text names (take (at + 1) text)) grows
      (λ f p. ⊎_elim (λ a. a) (λ c. old f c.0 c.1) (shrinks f p)) h

  pub named_old : item_named (name_of x).id (take at text) ≡ true → (f : Fault) → (c : RecursiveIn text (take (at + 1) text) f) → IsFunction c.function ≡ x →
      EarlyTo text names (take at text) f
  named_old n f c e =
      let id : c.function.name.id ≡ (name_of x).id = ap (λ i. (name_of i).id) e in
      let front : find_item c.function.name.id text ≡ find_item c.function.name.id (take at text) =
      ap (find_item c.function.name.id) (text_at text at x get)
      ∙ found_front c.function.name.id (take at text) (x ∷ drop (at + 1) text) (ap (λ n. item_named n (take at text)) id ∙ n) in
      inr (record {
        function = c.function;
        stands = found_member c.function.name.id (take at text) (IsFunction c.function) (sym front ∙ c.first);
        first = c.first;
        reaches = c.reaches;
        is = c.is;
      })

  -- a fault that is not less than the one kept changes nothing
  pub no_less : (k : Option Fault) (f : PlainFunction) → x ≡ IsFunction f → improves k (record { place = f.name.place; rule = 6 }) ≡ false →
      IsLeastOrNone k (EarlyTo text names (take at text)) → IsLeastOrNone k (EarlyTo text names (take (at + 1) text))
  no_less None f is i h = absurd (let q : true ≡ false = i in cc)
  no_less (Some m) f is i h =
      record {
        among = grows m h.among;
        least = λ g p.
            ⊎_elim (λ a. h.least g a)
            (λ c.
            let same : c.0.function ≡ f = (let q : IsFunction c.0.function ≡ IsFunction f = c.1 ∙ is in cc) in
            ap (λ e. is_before e m) (c.0.is ∙ ap (λ (h : PlainFunction). let r : Fault = record { place = h.name.place; rule = 6 } in r) same) ∙ i)
            (shrinks g p);
      }

  pub one_more : (k new : Option Fault) (f : PlainFunction) (b : Bool) → x ≡ IsFunction f → item_named (name_of x).id (take at text) ≡ false →
      (b ≡ true → ReachesByCalls text f.name.id f.name.id) → (ReachesByCalls text f.name.id f.name.id → b ≡ true) →
      new ≡ least_from k (fault_if b f.name.place 6) → IsLeastOrNone k (EarlyTo text names (take at text)) → IsLeastOrNone new (EarlyTo text names (take (at + 1) text))
  one_more k new f b is n yes_ back_ e h =
      let fault : Fault = record { place = f.name.place; rule = 6 } in
      let step = kept_step k (EarlyTo text names (take at text)) b f.name.place 6 h in
      subst (λ m. IsLeastOrNone m (EarlyTo text names (take (at + 1) text))) (sym e)
      (same_kept (least_from k (fault_if b f.name.place 6)) (OrFault (EarlyTo text names (take at text)) b fault) (EarlyTo text names (take (at + 1) text))
      (λ g p.
      ⊎_elim (λ a. grows g a)
      (λ q. inr (record {
        function = f;
        stands = subst (λ ys. Member (IsFunction f) ys) (sym (next_of text at x get)) (subst (λ y. Member (IsFunction f) (take at text ++ y ∷ [])) (sym is) (member_last (IsFunction f) (take at text)));
        first =
            ap (find_item f.name.id) (text_at text at x get) ∙ ap (λ i. find_item (name_of i).id (take at text ++ x ∷ drop (at + 1) text)) (sym is)
            ∙ found_here x (take at text) (drop (at + 1) text) n ∙ ap (λ i. Some i) is;
        reaches = yes_ q.0;
        is = q.1;
      })) p)
      (λ g p.
      ⊎_elim (λ a. inl a)
      (λ c.
      let same : c.0.function ≡ f = (let q : IsFunction c.0.function ≡ IsFunction f = c.1 ∙ is in cc) in
      inr (
        back_ (subst (λ h. ReachesByCalls text h.name.id h.name.id) same c.0.reaches),
        c.0.is ∙ ap (λ (h : PlainFunction). let r : Fault = record { place = h.name.place; rule = 6 } in r) same,
      )) (shrinks g p)) step)

-- all items
pub all_early : (text : Text) (names : List (List ℕ)) (n : ℕ) (k : Option Fault) → length text ≤ n → IsLeastOrNone k (EarlyTo text names (take n text)) → IsLeastOrNone k (IsEarly text names)
all_early text names n k l h =
    same_kept k (EarlyTo text names (take n text)) (IsEarly text names)
    (λ f p. ⊎_elim (λ a. inl a) (λ c. inr (record {
      function = c.function;
      stands = subst (λ ys. Member (IsFunction c.function) ys) (take_all n text l) c.stands;
      first = c.first;
      reaches = c.reaches;
      is = c.is;
    })) p)
    (λ f p. ⊎_elim (λ a. inl a) (λ c. inr (record {
      function = c.function;
      stands = subst (λ ys. Member (IsFunction c.function) ys) (sym (take_all n text l)) c.stands;
      first = c.first;
      reaches = c.reaches;
      is = c.is;
    })) p) h

pub none_early : (text : Text) (names : List (List ℕ)) (k : Option Fault) → IsLeastOrNone k (λ f. Member f (text_faults text names)) → IsLeastOrNone k (EarlyTo text names [])
none_early text names k h =
    same_kept k (λ f. Member f (text_faults text names)) (EarlyTo text names []) (λ f a. inl a) (λ f p. ⊎_elim (λ a. a) (λ c. elim c.stands [ ]) p) h

-- ---- lists of calls from bodies

pub body_at : (bodies : List (Vec Effect Global)) (xs : Text) (g : PlainItem → List Effect) (at : ℕ) (x : PlainItem) (v : Vec Effect Global) → map (λ w. w.items) bodies ≡ map g xs →
    slice_get xs at ≡ Some x → get_or bodies at v ≡ v → v.items ≡ g x
body_at bodies [] g at x v e s b = absurd (let q : None ≡ Some x = s in cc)
body_at [] (y ∷ ys) g at x v e s b = absurd (let q : [] ≡ g y ∷ map g ys = e in cc)
body_at (u ∷ us) (y ∷ ys) g zero x v e s b =
    let q : y ≡ x = (let z : Some y ≡ Some x = s in cc) in
    let p : u.items ≡ g y = cc in
    ap (λ w. w.items) (sym b) ∙ p ∙ ap g q
body_at (u ∷ us) (y ∷ ys) g (suc at) x v e s b = let p : map (λ w. w.items) us ≡ map g ys = cc in body_at us ys g at x v p s b

pub list_is : (text : Text) (x : PlainItem) (list : List ℕ) (effects : List Effect) → effects ≡ effects_of (in_item text x) → list ≡ effect_calls effects → IsListOf (function_calls text) x list
list_is text (IsGlobal g) list effects e l = tt
list_is text (IsFunction f) list effects e l = l ∙ ap effect_calls e ∙ calls_is (in_function text f)
