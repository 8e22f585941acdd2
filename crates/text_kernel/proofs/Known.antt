-- What the names of items become is in range of the kernel of the text.
use Rattle.std.proofs.Common.{ℕ, suc, ◌+◌, ◌<◌, ◌≡◌, pos, ◌∙◌, sym, ap, refl, Bool, true, false, cond, ◌==◌, Option, Some, None, List, [], ◌∷◌, ◌++◌, length, get_or, subst, arith}
use Rattle.std.proofs.lemmas.Bool.Decides.{nat_tests}
use Rattle.std.proofs.lemmas.List.{length-map, get_or-map}
use Rattle.forec_tree.specs.declared.tree.Number.{Number}
use Rattle.forec_tree.specs.Terms.{Text, PlainItem, PlainGlobal, PlainFunction, IsGlobal, IsFunction, no_statements}
use Rattle.forec_tree.specs.Scopes.{find_item, name_of, is_array, stated_length}
use Rattle.forec_tree.specs.Variables.{width}
use Rattle.forec_tree.specs.Rules.{is_constant, fault_if, outside, length_faults}
use Rattle.forec_tree.specs.Faults.{none_before, item_named}
use Rattle.forec_kernel.specs.declared.shape.FunctionShape.{FunctionShape}
use Rattle.forec_kernel.specs.WellFormed.{count_up, function_params}
use Rattle.text_kernel.specs.Bindings.{number_among, variable_number, item_id, is_table, is_int_function}
use Rattle.text_kernel.specs.Kernels.{kernel_of, variable_count, tables_of, int_functions, lowered_function_body}
use Rattle.text_kernel.proofs.VariableNumbers.{First, first, further, stated_is, row_within, width_of, numbers_below}
use Rattle.text_kernel.proofs.Fine.{none_left, none_right, not_broken, Sized, Knows}
use Rattle.text_kernel.proofs.Faultless.{Clean, item_clean, found_member}
use Rattle.text_kernel.proofs.Locals.{elements_sized}

abbrev pub how_many : (PlainItem → Bool) → Text → ℕ
how_many sort [] = 0
how_many sort (i ∷ rest) = cond (sort i) (suc (how_many sort rest)) (how_many sort rest)

pub same_id : (i : PlainItem) → item_id i ≡ (name_of i).id
same_id (IsGlobal g) = refl
same_id (IsFunction f) = refl

pub first_of : (id : ℕ) (i : PlainItem) (text : Text) → find_item id text ≡ Some i → First id i text
first_of id i [] h = cc
first_of id i (y ∷ rest) h = pick ((name_of y).id == id) refl (λ e. first_of id i rest e)
  where
    pick : (b : Bool) → ((name_of y).id == id) ≡ b → (find_item id rest ≡ Some i → First id i rest) → First id i (y ∷ rest)
    pick true e f =
        let is : Some y ≡ Some i = sym (ap (λ b. cond b (Some y) (find_item id rest)) e) ∙ h in
        let same : y ≡ i = cc in
        subst (λ z. First id i (z ∷ rest)) (sym same) (first (ap (λ z. item_id z == id) (sym same) ∙ (ap (λ n. n == id) (same_id y) ∙ e)))
    pick false e f =
        further (ap (λ n. n == id) (same_id y) ∙ e) (f (sym (ap (λ b. cond b (Some y) (find_item id rest)) e) ∙ h))

pub first_id : (id : ℕ) (i : PlainItem) (text : Text) → First id i text → item_id i ≡ id
first_id id i [] x = elim x [ ]
first_id id i (y ∷ rest) (first e) = grind (arith, nat_tests)
first_id id i (y ∷ rest) (further e f) = first_id id i rest f

pub number_below : (sort : PlainItem → Bool) (id : ℕ) (i : PlainItem) (text : Text) → First id i text → sort i ≡ true → number_among sort id text < how_many sort text
number_below sort id i text (first {rest = rest} e) h = rw (e, h) (omega arith)
number_below sort id i text (further {y = y} {rest = rest} e f) h = pick (sort y) refl (number_below sort id i rest f h)
  where
    pick : (b : Bool) → sort y ≡ b → number_among sort id rest < how_many sort rest → number_among sort id (y ∷ rest) < how_many sort (y ∷ rest)
    pick true d l = rw (e, d) (omega arith)
    pick false d l = rw (e, d) l

module _ (text : Text) (names : List (List ℕ)) where
  pub functions_counted : (t : Text) → length (int_functions text names t) ≡ how_many is_int_function t
  functions_counted [] = refl
  functions_counted (IsGlobal g ∷ rest) = functions_counted rest
  functions_counted (IsFunction f ∷ rest) = pick f.gives (functions_counted rest)
    where
      pick : (b : Bool) → length (int_functions text names rest) ≡ how_many is_int_function rest →
          length (cond b (f ∷ int_functions text names rest) (int_functions text names rest)) ≡ cond b (suc (how_many is_int_function rest)) (how_many is_int_function rest)
      pick true e = ap suc e
      pick false e = e

  tables_counted : (t : Text) → length (tables_of text names t) ≡ how_many is_table t
  tables_counted [] = refl
  tables_counted (IsFunction f ∷ rest) = tables_counted rest
  tables_counted (IsGlobal g ∷ rest) = pick (is_constant g.kind) g.length (tables_counted rest)
    where
      pick : (b : Bool) (o : Option Number) → length (tables_of text names rest) ≡ how_many is_table rest →
          length (cond b (elim o [ None ↦ [] | Some n ↦ Rattle.text_kernel.specs.Kernels.padded (Rattle.text_kernel.specs.Bindings.number_of n) g.values ∷ [] ]) [] ++ tables_of text names rest)
          ≡ cond (cond b (elim o [ None ↦ false | Some n ↦ true ]) false) (suc (how_many is_table rest)) (how_many is_table rest)
      pick true None e = e
      pick true (Some n) e = ap suc e
      pick false o e = e

  -- the int function of a name
  pub function_at : (id : ℕ) (f : PlainFunction) (t : Text) (d : PlainFunction) → First id (IsFunction f) t → f.gives ≡ true →
      get_or (int_functions text names t) (number_among is_int_function id t) d ≡ f
  function_at id f t d (first {rest = rest} e) h = rw (e, h) refl
  function_at id f t d (further {y = y} {rest = rest} e r) h = pick y e (function_at id f rest d r h)
    where
      gives_or : (g : PlainFunction) (b : Bool) → get_or (int_functions text names rest) (number_among is_int_function id rest) d ≡ f →
          get_or (cond b (g ∷ int_functions text names rest) (int_functions text names rest)) (cond b (suc (number_among is_int_function id rest)) (number_among is_int_function id rest)) d ≡ f
      gives_or g true i = i
      gives_or g false i = i

      pick : (z : PlainItem) → (item_id z == id) ≡ false → get_or (int_functions text names rest) (number_among is_int_function id rest) d ≡ f →
          get_or (int_functions text names (z ∷ rest)) (number_among is_int_function id (z ∷ rest)) d ≡ f
      pick (IsGlobal g) w i = ap (λ b. get_or (int_functions text names rest) (cond b 0 (number_among is_int_function id rest)) d) w ∙ i
      pick (IsFunction g) w i =
          ap (λ b. get_or (int_functions text names (IsFunction g ∷ rest)) (cond b 0 (cond g.gives (suc (number_among is_int_function id rest)) (number_among is_int_function id rest))) d) w ∙ gives_or g g.gives i

  pub blank_function : PlainFunction
  blank_function = record { name = record { id = 0; place = record { line = 1; column = 1 } }; gives = false; params = []; body = no_statements }

  pub functions_long : length (kernel_of text names).functions ≡ how_many is_int_function text
  unfolding kernel_of
  functions_long = length-map (int_functions text names text) _ ∙ functions_counted text

  pub shape_params : (n : ℕ) → n < length (int_functions text names text) → function_params (kernel_of text names) n ≡ length (get_or (int_functions text names text) n blank_function).params
  unfolding kernel_of
  shape_params n l =
      ap (λ (x : FunctionShape). x.params)
      (get_or-map (λ f. record { params = length f.params; words = (lowered_function_body text names f).next.slot }) (int_functions text names text) n blank_function (record { params = 0; words = 0 }) l)

  tables_long : length (kernel_of text names).shape.tables ≡ how_many is_table text
  unfolding kernel_of
  tables_long = tables_counted text

  array_is : (b : Bool) (o : Option Number) → b ≡ true → is_array o ≡ true → cond b (elim o [ None ↦ false | Some n ↦ true ]) false ≡ true
  array_is true None h e = cc
  array_is true (Some n) h e = refl
  array_is false o h e = cc

  number_same : (sort : PlainItem → Bool) (id : ℕ) (g : PlainGlobal) → First id (IsGlobal g) text → sort (IsGlobal g) ≡ true → number_among sort g.name.id text < how_many sort text
  number_same sort id g f h = subst (λ n. number_among sort n text < how_many sort text) (sym (first_id id (IsGlobal g) text f)) (number_below sort id (IsGlobal g) text f h)

  pub right_params : (id : ℕ) (f : PlainFunction) → find_item id text ≡ Some (IsFunction f) → f.gives ≡ true →
      function_params (kernel_of text names) (number_among is_int_function id text) ≡ length f.params
  right_params id f e g =
      let l = number_below is_int_function id (IsFunction f) text (first_of id (IsFunction f) text e) g in
      let n = functions_counted text in
      shape_params (number_among is_int_function id text) (omega (arith, l, n))
      ∙ ap (λ x. length x.params) (function_at id f text blank_function (first_of id (IsFunction f) text e) g)

  -- rule 17
  sized : Clean text names → (id : ℕ) (g : PlainGlobal) (n : Number) → find_item id text ≡ Some (IsGlobal g) → stated_length g ≡ Some n → Sized n
  sized clean id g n e s =
      let c = item_clean text names none_before text (IsGlobal g) clean.items (found_member id text (IsGlobal g) e) in
      let lengths = none_left (length_faults g.length) _ (none_right (fault_if (item_named g.name.id c.before.items) g.name.place 2) _ c.none) in
      elements_sized n (not_broken (outside (pos 65536) n.value) n.place 17 (ap length_faults (sym (stated_is g n s)) ∙ lengths))

  -- in a thread
  pub known_thread : Clean text names → Knows text (kernel_of text names) (count_up 0 (variable_count text names)) false
  known_thread clean =
      record {
        item = λ id. record {
          variables = λ g e c d.
              let f = first_of id (IsGlobal g) text e in
              let named : g.name.id ≡ id = first_id id (IsGlobal g) text f in
              let n = ap (λ x. variable_number x text) named in
              let w = width_of g c in
              let l = numbers_below id (IsGlobal g) text f in
              row_within (variable_number g.name.id text) (width g) (variable_count text names) (omega (arith, l, n, w));
          sized = λ g n e c d s. sized clean id g n e s;
          table = λ g e c a.
              let l = number_same is_table id g (first_of id (IsGlobal g) text e) (array_is (is_constant g.kind) g.length c a) in omega (arith, l, tables_long);
          function = λ f e g. let l = number_below is_int_function id (IsFunction f) text (first_of id (IsFunction f) text e) g in omega (arith, l, functions_long);
          params = λ f e g. right_params id f e g;
        };
      }

  -- in an int function
  pub known_function : Knows text (kernel_of text names) [] true
  known_function =
      record {
        item = λ id. record {
          variables = λ g e c d. let bad = d in cc;
          sized = λ g n e c d s. let bad = d in cc;
          table = λ g e c a.
              let l = number_same is_table id g (first_of id (IsGlobal g) text e) (array_is (is_constant g.kind) g.length c a) in omega (arith, l, tables_long);
          function = λ f e g. let l = number_below is_int_function id (IsFunction f) text (first_of id (IsFunction f) text e) g in omega (arith, l, functions_long);
          params = λ f e g. right_params id f e g;
        };
      }
