-- Each int function of a text that breaks no rule is in range, and each combine function is one.
use Rattle.std.proofs.Common.{ℕ, zero, suc, ◌<◌, ◌≡◌, ◌∙◌, sym, ap, refl, Bool, true, false, cond, not, ◌==◌, ◌&&◌, Option, Some, None, List, [], ◌∷◌, ◌++◌, length, map, get_or, subst, arith}
use Rattle.std.proofs.lemmas.Bool.{and_parts}
use Rattle.std.proofs.lemmas.Bool.Decides.{nat_tests}
use Rattle.std.proofs.lemmas.List.{length-map, get_or-map}
use Rattle.std.proofs.lemmas.Option.{slice_get-get_or}
use Rattle.forec_tree.specs.declared.fault.Fault.{Fault}
use Rattle.forec_tree.specs.declared.tree.Combine.{Combine}
use Rattle.forec_tree.specs.declared.tree.GlobalKind.TheVariants.{Plain}
use Rattle.forec_tree.specs.Terms.{Text, PlainItem, PlainGlobal, PlainFunction, IsGlobal, IsFunction}
use Rattle.forec_tree.specs.Scopes.{no_scope, with_params, find_item}
use Rattle.forec_tree.specs.Variables.{PlainVariable, variables}
use Rattle.forec_tree.specs.Findings.{in_params, in_statements}
use Rattle.forec_tree.specs.Rules.{Judging, fault_if, is_long, length_faults, too_many, findings_faults}
use Rattle.forec_tree.specs.Faults.{Member, here, later, in_function, item_named, combine_faults, global_faults, Before, none_before}
use Rattle.forec_kernel.specs.declared.shape.Variable.{Variable}
use Rattle.forec_kernel.specs.Terms as kernel
use Rattle.forec_kernel.specs.Terms.{Stmt, no_stmts}
use Rattle.forec_kernel.specs.Values.{function_words}
use Rattle.forec_kernel.specs.Combining.{variable_of}
use Rattle.forec_kernel.specs.WellFormed as wf
use Rattle.forec_kernel.specs.WellFormed.{FineStmt, FineFunction, FineVariable, function_params, function_body}
use Rattle.text_kernel.specs.Bindings.{params_at, number_among, is_int_function}
use Rattle.text_kernel.specs.Lowering.{NextNumbers, Inlined, lowered, sequence}
use Rattle.text_kernel.specs.Kernels as kernels
use Rattle.text_kernel.specs.Kernels.{kernel_of, int_functions, variable_shape, combine_function}
use Rattle.text_kernel.specs.Limits.{WithinLimits}
use Rattle.text_kernel.proofs.Fine.{none_left, none_right, not_broken, not_not, parts_left, Matches}
use Rattle.text_kernel.proofs.FineStatements.{sequence_fine}
use Rattle.text_kernel.proofs.Unbroken.{Unbroken, unbroken_right}
use Rattle.text_kernel.proofs.Faultless.{Clean, function_of, loops_of, item_clean}
use Rattle.text_kernel.proofs.Locals.{locals_fine}
use Rattle.text_kernel.proofs.Grown.{still}
use Rattle.text_kernel.proofs.Rises.{list_rises}
use Rattle.text_kernel.proofs.FineBodies.{list_fine}
use Rattle.text_kernel.proofs.Certain.{while_bounded, for_bounded}
use Rattle.text_kernel.proofs.Runs.{params_match}
use Rattle.text_kernel.proofs.ByNumber.{numbered_in}
use Rattle.text_kernel.proofs.Known.{first_of, number_below, known_function, blank_function, functions_long, shape_params, right_params}
use Rattle.text_kernel.proofs.Returned.{list_returns, sequence_returns}
use Rattle.text_kernel.proofs.Within.{functions_depth}

-- in an int function nothing is put in place
abbrev pub nothing : ℕ → Inlined
nothing id first t n = lowered (sequence no_stmts) n

module _ (text : Text) (names : List (List ℕ)) where
  -- the int function of a number
  pub record IntFunction (t : Text) (n : ℕ) : Type 0 where
    pub member : Member (IsFunction (get_or (int_functions text names t) n (blank_function text names))) t
    pub gives : (get_or (int_functions text names t) n (blank_function text names)).gives ≡ true

  int_more : (i : PlainItem) (t : Text) (n : ℕ) (f : PlainFunction) → Member (IsFunction f) t → Member (IsFunction f) (i ∷ t)
  int_more i t n f m = later m

  pub int_at : (t : Text) (n : ℕ) → n < length (int_functions text names t) → IntFunction t n
  int_at [] n l = absurd (omega arith)
  int_at (IsGlobal g ∷ t) n l = let r = int_at t n l in record { member = later r.member; gives = r.gives }
  int_at (IsFunction f ∷ t) n l = pick f.gives refl n l (λ m k. int_at t m k)
    where
      in_list : (b : Bool) → f.gives ≡ b → int_functions text names (IsFunction f ∷ t) ≡ cond b (f ∷ int_functions text names t) (int_functions text names t)
      in_list b e = ap (λ c. cond c (f ∷ int_functions text names t) (int_functions text names t)) e

      moved : (fs : List PlainFunction) (m : ℕ) → int_functions text names (IsFunction f ∷ t) ≡ fs → Member (IsFunction (get_or fs m (blank_function text names))) (IsFunction f ∷ t) →
          (get_or fs m (blank_function text names)).gives ≡ true → IntFunction (IsFunction f ∷ t) m
      moved fs m e p g =
          record {
            member = subst (λ l. Member (IsFunction (get_or l m (blank_function text names))) (IsFunction f ∷ t)) (sym e) p;
            gives = ap (λ l. (get_or l m (blank_function text names)).gives) e ∙ g;
          }

      pick : (b : Bool) → f.gives ≡ b → (m : ℕ) → m < length (int_functions text names (IsFunction f ∷ t)) → ((m : ℕ) → m < length (int_functions text names t) → IntFunction t m) → IntFunction (IsFunction f ∷ t) m
      pick true e zero k r = moved (f ∷ int_functions text names t) zero (in_list true e) here e
      pick true e (suc m) k r =
          let long = ap length (in_list true e) in
          let q = r m (omega (arith, k, long)) in
          moved (f ∷ int_functions text names t) (suc m) (in_list true e) (later q.member) q.gives
      pick false e m k r =
          let long = ap length (in_list false e) in
          let q = r m (omega (arith, k, long)) in
          moved (int_functions text names t) m (in_list false e) (later q.member) q.gives

  abbrev pub int_function : ℕ → PlainFunction
  int_function n = get_or (int_functions text names text) n (blank_function text names)

  words_at : (fs : List PlainFunction) (n : ℕ) → n < length fs →
      function_words (map (λ f. record { params = length f.params; words = (kernels.lowered_function_body text names f).next.slot }) fs) n ≡ (kernels.lowered_function_body text names (get_or fs n (blank_function text names))).next.slot
  words_at [] n l = absurd (omega arith)
  words_at (f ∷ fs) zero l = refl
  words_at (f ∷ fs) (suc n) l = words_at fs n (omega arith)

  pub words_of_function : (n : ℕ) → n < length (int_functions text names text) →
      function_words (kernel_of text names).shape.functions n ≡ (kernels.lowered_function_body text names (int_function n)).next.slot
  unfolding kernel_of
  words_of_function n l = words_at (int_functions text names text) n l

  pub body_of_function : (n : ℕ) → n < length (int_functions text names text) →
      function_body (kernel_of text names) n ≡ sequence (kernels.lowered_function_body text names (int_function n)).list
  unfolding kernel_of
  body_of_function n l = get_or-map (λ f. sequence (kernels.lowered_function_body text names f).list) (int_functions text names text) n (blank_function text names) kernel.Nop l

  pub function_low : (n : ℕ) → n < length (kernel_of text names).functions → n < length (int_functions text names text)
  unfolding kernel_of
  function_low n l = let e = length-map (int_functions text names text) (λ f. sequence (kernels.lowered_function_body text names f).list) in omega (arith, e)

  module _ (clean : Clean text names) where
    -- the body of an int function, with its own words
    pub body_fine : (f : PlainFunction) → Member (IsFunction f) text → f.gives ≡ true →
        FineStmt true (record { kernel = kernel_of text names; words = (kernels.lowered_function_body text names f).next.slot; uses = [] }) (sequence (kernels.lowered_function_body text names f).list)
    body_fine f m g =
        let k = kernel_of text names in
        let c = function_of text names clean f m in
        let j : Judging = record { names = names; gives = true } in
        let words = (kernels.lowered_function_body text names f).next.slot in
        let from : NextNumbers = record { slot = length f.params; thread = 1; par = 0 } in
        let inside = with_params no_scope f.params in
        let params = in_params text no_scope f.params in
        let body = in_statements text inside f.body in
        let rules : findings_faults j (params ++ body) ≡ [] = subst (λ b. findings_faults (record { names = names; gives = b }) (in_function text f) ≡ []) g c.findings in
        let whole : Unbroken text j (params ++ body) = record { rules = rules; loops = λ e. loops_of text names clean f m } in
        let up = list_rises text nothing (λ id first t n. omega arith) 0 (params_at 0 f.params) from f.body in
        let none : Matches words no_scope [] = record { same = refl; good = λ x h. elim h [ ] } in
        let match_ = params_match text j words no_scope [] 0 f.params none (parts_left j params body rules) (omega (arith, up)) in
        sequence_fine true (record { kernel = k; words = words; uses = [] }) (kernels.lowered_function_body text names f).list
        (list_fine text k words [] j (known_function text names) nothing (λ id first t n. still t n n [] refl refl refl) (λ id first t n. omega arith)
        (λ t n first sc name from broken taken low sits. tt) (while_bounded text j refl) (for_bounded text j refl)
        (locals_fine text k words [] j (known_function text names) nothing)
        0 (params_at 0 f.params) from inside f.body match_ (unbroken_right text j params body whole) (omega arith) (λ e. cc))

    returns_fine : (f : PlainFunction) → Member (IsFunction f) text → f.gives ≡ true → wf.returns (sequence (kernels.lowered_function_body text names f).list) ≡ true
    returns_fine f m g =
        let c = function_of text names clean f m in
        sequence_returns (kernels.lowered_function_body text names f).list
        ∙ list_returns text nothing 0 (params_at 0 f.params) (record { slot = length f.params; thread = 1; par = 0 }) f.body (c.returns g)

    pub function_fine : WithinLimits (kernel_of text names) → (n : ℕ) → n < length (kernel_of text names).functions → FineFunction (kernel_of text names) n
    function_fine within n l =
        let k = kernel_of text names in
        let low = function_low n l in
        let i = int_at text n low in
        let f = int_function n in
        let c = function_of text names clean f i.member in
        let words = words_of_function n low in
        let body = body_of_function n low in
        let params = shape_params text names n low in
        let from : NextNumbers = record { slot = length f.params; thread = 1; par = 0 } in
        let up = list_rises text nothing (λ id first t n. omega arith) 0 (params_at 0 f.params) from f.body in
        let few = c.few in
        record {
          params = omega (arith, params, words, up);
          few = omega (arith, params, few);
          body = subst (λ x. FineStmt true (record { kernel = k; words = function_words k.shape.functions n; uses = [] }) x) (sym body)
              (subst (λ w. FineStmt true (record { kernel = k; words = w; uses = [] }) (sequence (kernels.lowered_function_body text names f).list)) (sym words) (body_fine f i.member i.gives));
          returns = ap wf.returns body ∙ returns_fine f i.member i.gives;
          depth = functions_depth k within n l;
        }

    -- ---- variables

    blank_global : PlainGlobal
    blank_global = record { name = record { id = 0; place = record { line = 1; column = 1 } }; kind = Plain; length = None; values = []; combine = None }

    blank_variable : PlainVariable
    blank_variable = record { global = blank_global; index = None }

    abbrev variable_of_number : ℕ → PlainVariable
    variable_of_number v = get_or (variables text) v blank_variable

    variable_member : (v : ℕ) → v < length (variables text) → Member (IsGlobal (variable_of_number v).global) text
    variable_member v l =
        let r = numbered_in text names none_before text clean.items v l in
        subst (λ g. Member (IsGlobal g) text) (sym (r.of (variable_of_number v) (slice_get-get_or (variables text) v blank_variable l))) r.member

    -- rule 16
    record IsCombine (c : Combine) : Type 0 where
      function : PlainFunction
      found : find_item c.with.id text ≡ Some (IsFunction function)
      gives : function.gives ≡ true
      two : length function.params ≡ 2

    abbrev with_faults : Combine → Option PlainItem → List Fault
    with_faults c i = elim i [
      | None ↦ record { place = c.with.place; rule = 1 } ∷ []
      | Some (IsGlobal g) ↦ record { place = c.with.place; rule = 16 } ∷ []
      | Some (IsFunction f) ↦ fault_if (not (f.gives && (length f.params == 2))) c.with.place 16
    ]

    combine_is : (c : Combine) (i : Option PlainItem) → find_item c.with.id text ≡ i → with_faults c i ≡ [] → IsCombine c
    combine_is c None e h = cc
    combine_is c (Some (IsGlobal g)) e h = cc
    combine_is c (Some (IsFunction f)) e h =
        let parts = and_parts f.gives (length f.params == 2) (not_not (f.gives && (length f.params == 2)) (not_broken (not (f.gives && (length f.params == 2))) c.with.place 16 h)) in
        let two : (length f.params == 2) ≡ true = parts.1 in
        record { function = f; found = e; gives = parts.0; two = grind (arith, nat_tests) }

    combine_faultless : (b : Before) (g : PlainGlobal) → global_faults text names b g ≡ [] → combine_faults text g.combine ≡ []
    combine_faultless b g h =
        let h1 = none_right (fault_if (item_named g.name.id b.items) g.name.place 2) _ h in
        let h2 = none_right (length_faults g.length) _ h1 in
        let h3 = none_right (fault_if (too_many g.length (length g.values)) g.name.place 18) _ h2 in
        let h4 = none_right (fault_if (is_long names g.name.id) g.name.place 21) _ h3 in
        none_left (combine_faults text g.combine) _ h4

    combined : (o : Option Combine) → combine_faults text o ≡ [] → (f : ℕ) → combine_function text names o ≡ Some f → (f < length (kernel_of text names).functions) × (function_params (kernel_of text names) f ≡ 2)
    combined None h f e = cc
    combined (Some c) h f e =
        let is = combine_is c (find_item c.with.id text) refl h in
        let same : number_among is_int_function c.with.id text ≡ f = cc in
        let l = number_below is_int_function c.with.id (IsFunction is.function) text (first_of c.with.id (IsFunction is.function) text is.found) is.gives in
        let n = functions_long text names in
        let p = right_params text names c.with.id is.function is.found is.gives in
        (omega (arith, l, n, same), ap (function_params (kernel_of text names)) (sym same) ∙ (p ∙ is.two))

    variable_at : (v : ℕ) → v < length (variables text) → variable_of (kernel_of text names) v ≡ variable_shape text names (variable_of_number v)
    unfolding kernel_of
    variable_at v l = get_or-map (variable_shape text names) (variables text) v blank_variable _ l

    variable_low : (v : ℕ) → v < length (kernel_of text names).shape.variables → v < length (variables text)
    unfolding kernel_of
    variable_low v l = let e = length-map (variables text) (variable_shape text names) in omega (arith, e)

    pub variable_fine : (v : ℕ) → v < length (kernel_of text names).shape.variables → FineVariable (kernel_of text names) (variable_of (kernel_of text names) v)
    variable_fine v l =
        let low = variable_low v l in
        let g = (variable_of_number v).global in
        let c = item_clean text names none_before text (IsGlobal g) clean.items (variable_member v low) in
        let none = combine_faultless c.before g c.none in
        record { combine = λ f e. combined g.combine none f (ap (λ (x : Variable). x.combine) (sym (variable_at v low)) ∙ e) }
