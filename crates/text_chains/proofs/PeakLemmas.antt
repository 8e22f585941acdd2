-- The peaks that are told of a text are the most words of a thread of its kernel.
use Rattle.std.proofs.Common.{ℕ, zero, suc, ◌+◌, ◌-◌, ◌^◌, ◌<◌, ◌≤◌, ◌≡◌, ◌∙◌, ◌==◌, min, max, sym, ap, refl, subst, ◌⊎◌, inl, inr, Bool, true, false, cond, nat_lt, is_some, Option, Some, None, List, [], ◌∷◌, ◌++◌, length, map, get_or, arith}
use Rattle.std.proofs.lemmas.Bool.Decides.{nat_tests}
use Rattle.std.proofs.lemmas.List.{length-map, get_or-map}
use Rattle.std.proofs.lemmas.Option.{slice_get-get_or}
use Rattle.forec_tree.specs.declared.tree.Combine.{Combine}
use Rattle.forec_tree.specs.declared.tree.Number.{Number}
use Rattle.forec_tree.specs.declared.tree.GlobalKind.TheVariants.{Plain}
use Rattle.forec_tree.specs.Terms.{Text, PlainItem, PlainGlobal, IsGlobal, IsFunction}
use Rattle.forec_tree.specs.Scopes.{find_item, stated_length}
use Rattle.forec_tree.specs.Rules.{is_constant}
use Rattle.forec_tree.specs.Faults.{Member, here, later, is_in, none_before}
use Rattle.forec_tree.specs.Pauses.{within}
use Rattle.forec_tree.specs.Variables.{PlainVariable, width, elements, variables}
use Rattle.forec_tree.proofs.VariableCounts.{variables_counted}
use Rattle.forec_kernel.specs.Shapes.{PlainKernel, PlainThread}
use Rattle.forec_kernel.specs.Combining.{contains, variable_of}
use Rattle.forec_kernel.specs.Texts.{uses_of, words_of, words_in, body_of}
use Rattle.forec_kernel.specs.WellFormed.{greatest, count_up, stmt_calls, pars_of, all_in, blank_thread, thread_of}
use Rattle.forec_kernel.specs.declared.shape.Variable.{Variable}
use Rattle.loop_check.proofs.IndexLemmas.{split}
use Rattle.text_kernel.specs.Bindings.{number_among, variable_number, is_int_function}
use Rattle.text_kernel.specs.Items.{variable_items}
use Rattle.text_kernel.specs.Lowering.{stands, read_as, vars_in, NextNumbers, Made}
use Rattle.text_kernel.specs.declared.names.Slot.{Slot}
use Rattle.text_kernel.specs.Kernels.{kernel_of, root, main_id, thread_shape, variable_shape, variable_count, combine_function, filter_in}
use Rattle.text_kernel.proofs.Faultless.{Clean, own_item}
use Rattle.text_kernel.proofs.ByNumber.{Numbered, numbered_in}
use Rattle.text_kernel.proofs.VariableNumbers.{apart, width_of, numbers_below}
use Rattle.text_kernel.proofs.Known.{first_of, known_thread}
use Rattle.text_kernel.proofs.Fields as fields
use Rattle.text_kernel.proofs.Forks.{at, blank_made}
use Rattle.text_sizes.proofs.Heights.{made_most}
use Rattle.text_chains.specs.Tallies.{tally_value, tally_step, no_tally, names_alone, names_indexed}
use Rattle.text_chains.specs.Peaks.{called_words, most_words, peak_by, peak_of, peak_over}
use Rattle.text_chains.proofs.Parts.{folds, thread_measure, SitsIn, seen}
use Rattle.text_chains.proofs.Telling.{row_as, Tells, place_told}
use Rattle.text_chains.proofs.Reading.{reads, rows}
use Rattle.text_chains.proofs.Combined.{combined, by_variable, Below, variable_above, none_above, words_least, no_worth, greatest_least, greatest_above, count_below}

-- a measure of threads by number is that of the threads that were made
measured : (f : ℕ → ℕ) (g : Made → ℕ) (a : List Made) (from : ℕ) → ((j : ℕ) → j < length a → f (from + j) ≡ g (at a j)) → greatest f (count_up from (length a)) ≡ made_most g a
measured f g [] from h = refl
measured f g (m ∷ a) from h =
    let same : from + 0 ≡ from = omega arith in
    let e = sym (ap f same) ∙ h 0 (omega arith) in
    let r = measured f g a (suc from) (λ j l. (let q : suc from + j ≡ from + suc j = omega arith in ap f q ∙ h (suc j) (omega (arith, l)))) in
    omega (arith, e, r)

module _ (text : Text) (names : List (List ℕ)) where
  abbrev k : PlainKernel
  k = kernel_of text names

  abbrev count : ℕ
  count = variable_count text names

  made_words : (a : List Made) (j : ℕ) → j < length a → words_in (map (thread_shape text names) a) j ≡ (at a j).words
  made_words [] j l = absurd (omega arith)
  made_words (m ∷ a) zero l = refl
  made_words (m ∷ a) (suc j) l = made_words a j (omega arith)

  below_words : (j : ℕ) → j < length (root text names).made → words_of (kernel_of text names) (suc j) ≡ (at (root text names).made j).words
  unfolding kernel_of
  below_words j l = made_words (root text names).made j l

  root_sits : SitsIn (kernel_of text names) (variable_count text names) 1 (root text names).made
  root_sits j l = let e : 1 + j ≡ suc j = omega arith in ap (uses_of (kernel_of text names)) e ∙ fields.uses_made text names j l

  thread_each : (u : ℕ → ℕ) (v worth j : ℕ) → j < length (root text names).made →
      thread_measure u (kernel_of text names) v worth (words_of (kernel_of text names) (1 + j)) (body_of (kernel_of text names) (1 + j))
      ≡ thread_measure u (kernel_of text names) v worth (at (root text names).made j).words (at (root text names).made j).body
  thread_each u v worth j l =
      let e : 1 + j ≡ suc j = omega arith in
      ap (λ t. thread_measure u (kernel_of text names) v worth (words_of (kernel_of text names) t) (body_of (kernel_of text names) t)) e
      ∙ (ap (λ n. thread_measure u (kernel_of text names) v worth n (body_of (kernel_of text names) (suc j))) (below_words j l)
      ∙ ap (thread_measure u (kernel_of text names) v worth (at (root text names).made j).words) (fields.made_body text names j l))

  first_words : words_of (kernel_of text names) 0 ≡ (root text names).next.slot
  unfolding kernel_of
  first_words = refl

  first_body : body_of (kernel_of text names) 0 ≡ (root text names).stmt
  unfolding kernel_of
  first_body = refl

  first_thread : (u : ℕ → ℕ) (v worth : ℕ) →
      thread_measure u (kernel_of text names) v worth (words_of (kernel_of text names) 0) (body_of (kernel_of text names) 0)
      ≡ thread_measure u (kernel_of text names) v worth (root text names).next.slot (root text names).stmt
  first_thread u v worth =
      ap (λ n. thread_measure u (kernel_of text names) v worth n (body_of (kernel_of text names) 0)) first_words
      ∙ ap (thread_measure u (kernel_of text names) v worth (root text names).next.slot) first_body

  as_many : length (kernel_of text names).threads ≡ suc (length (root text names).made)
  unfolding kernel_of
  as_many = ap suc (length-map (root text names).made (λ m. m.body))

  all_threads : (u : ℕ → ℕ) (v worth : ℕ) → by_variable u (kernel_of text names) v worth
      ≡ max (thread_measure u (kernel_of text names) v worth (root text names).next.slot (root text names).stmt) (made_most (λ m. thread_measure u (kernel_of text names) v worth m.words m.body) (root text names).made)
  all_threads u v worth =
      let f : ℕ → ℕ = λ t. thread_measure u (kernel_of text names) v worth (words_of (kernel_of text names) t) (body_of (kernel_of text names) t) in
      let e = ap (λ n. greatest f (count_up 0 n)) as_many in
      let d = first_thread u v worth in
      let r = measured f (λ m. thread_measure u (kernel_of text names) v worth m.words m.body) (root text names).made 1 (thread_each u v worth) in
      e ∙ (ap (λ n. max n (greatest f (count_up 1 (length (root text names).made)))) d ∙ ap (max (thread_measure u (kernel_of text names) v worth (root text names).next.slot (root text names).stmt)) r)

  -- ---- the combine function of one variable

  module _ (u : ℕ → ℕ) where
    abbrev value : ℕ → ℕ
    value id = u (number_among is_int_function id text)

    peak_told : (i v worth : ℕ) (array : Bool) (Real : Type 0) → Real ⊎ (worth ≡ 0) → (Real → v < variable_count text names) →
        (Real → (s : List Slot) (h : Bool) → seen i s ≡ h → (id : ℕ) → is_in v (vars_in (read_as (stands text s id))) ≡ names_alone i array h id) →
        (Real → (s : List Slot) (h : Bool) → seen i s ≡ h → (id : ℕ) → is_in v (row_as (stands text s id)) ≡ names_indexed i array h id) →
        peak_by i array value worth text (main_id text names) ≡ min (by_variable u (kernel_of text names) v worth) (2 ^ 64 - 1)
    unfolding tally_value
    peak_told i v worth array Real either inside reading indexing =
        let from : NextNumbers = record { slot = 0; thread = 1; par = 0 } in
        let x = place_told text (kernel_of text names) (variable_count text names) i v worth array u Real either inside reading indexing (length text) (main_id text names) 0 0 from root_sits in
        let c = x.calls in
        let s = x.slot in
        let w = x.words in
        let p = x.peak in
        let all = all_threads u v worth in
        omega (arith, c, s, w, p, all)

    none_told : peak_by 0 false value 0 text (main_id text names) ≡ min (by_variable u (kernel_of text names) 0 0) (2 ^ 64 - 1)
    none_told = peak_told 0 0 0 false ⊥ (inr refl) (λ r. absurd r) (λ r. absurd r) (λ r. absurd r)

-- ---- lists

past : {A : Type 0} (xs : List A) (d : A) (n : ℕ) → length xs ≤ n → get_or xs n d ≡ d
past [] d zero l = refl
past [] d (suc n) l = refl
past (x ∷ xs) d zero l = absurd (omega arith)
past (x ∷ xs) d (suc n) l = past xs d n (omega (arith, l))

split_low : {P : Type 0} (f n : ℕ) → (f < n → P) → (n ≤ f → P) → P
split_low f n low high = split (nat_lt f n) (λ e. low (grind (arith, nat_tests))) (λ e. high (grind (arith, nat_tests)))

filter_below : (named : List ℕ) (from n x : ℕ) → contains x (filter_in named (count_up from n)) ≡ true → x < from + n
filter_below named from zero x i = absurd (let q : false ≡ true = i in cc)
filter_below named from (suc n) x i = pick (is_in from named) (λ j. (let e = filter_below named (suc from) n x j in omega (arith, e))) i
  where
    pick : (b : Bool) → (contains x (filter_in named (count_up (suc from) n)) ≡ true → x < from + suc n) →
        contains x (cond b (from ∷ filter_in named (count_up (suc from) n)) (filter_in named (count_up (suc from) n))) ≡ true → x < from + suc n
    pick false r j = r j
    pick true r j = split (from == x) (λ e. (let q : from ≡ x = grind (arith, nat_tests) in omega (arith, q))) (λ e. r (sym (ap (λ c. cond c true (contains x (filter_in named (count_up (suc from) n)))) e) ∙ j))

-- ---- the globals that aren't constants

record Changing (t : Text) (g : PlainGlobal) : Type 0 where
  member : Member (IsGlobal g) t
  changes : is_constant g.kind ≡ false

one_more : (y : PlainItem) (t : Text) (g : PlainGlobal) → Changing t g → Changing (y ∷ t) g
one_more y t g c = record { member = later c.member; changes = c.changes }

own_first : (h g : PlainGlobal) (t : Text) (gs : List PlainGlobal) → is_constant h.kind ≡ false → (Member g gs → Changing t g) → Member g (h ∷ gs) → Changing (IsGlobal h ∷ t) g
own_first h g t gs e r here = record { member = here; changes = e }
own_first h g t gs e r (later m) = one_more (IsGlobal h) t g (r m)

of_items : (t : Text) (g : PlainGlobal) → Member g (variable_items t) → Changing t g
of_items [] g m = elim m [ ]
of_items (IsFunction f ∷ t) g m = one_more (IsFunction f) t g (of_items t g m)
of_items (IsGlobal h ∷ t) g m = pick (is_constant h.kind) refl (of_items t g) m
  where
    pick : (b : Bool) → is_constant h.kind ≡ b → (Member g (variable_items t) → Changing t g) → Member g (cond b (variable_items t) (h ∷ variable_items t)) → Changing (IsGlobal h ∷ t) g
    pick true e r m = one_more (IsGlobal h) t g (r m)
    pick false e r m = own_first h g t (variable_items t) e r m

in_more : (y : PlainItem) (t : Text) (g : PlainGlobal) → Member g (variable_items t) → Member g (variable_items (y ∷ t))
in_more (IsFunction f) t g m = m
in_more (IsGlobal h) t g m = elim (is_constant h.kind) as (λ b. Member g (cond b (variable_items t) (h ∷ variable_items t))) [ true ↦ m | false ↦ later m ]

in_own : (t : Text) (g : PlainGlobal) → is_constant g.kind ≡ false → Member g (variable_items (IsGlobal g ∷ t))
in_own t g e = subst (λ b. Member g (cond b (variable_items t) (g ∷ variable_items t))) (sym e) here

in_items : (t : Text) (y : PlainItem) (g : PlainGlobal) → y ≡ IsGlobal g → is_constant g.kind ≡ false → Member y t → Member g (variable_items t)
in_items [] y g e c m = elim m [ ]
in_items (x ∷ t) y g e c here = subst (λ z. Member g (variable_items (z ∷ t))) (sym e) (in_own t g c)
in_items (x ∷ t) y g e c (later m) = in_more x t g (in_items t y g e c m)

blank : PlainVariable
blank = record { global = record { name = record { id = 0; place = record { line = 1; column = 1 } }; kind = Plain; length = None; values = []; combine = None }; index = None }

-- ---- the variables, by number

module _ (text : Text) (names : List (List ℕ)) where
  module _ (clean : Clean text names) where
    numbered : (n : ℕ) → n < variable_count text names → Numbered text names text n
    numbered n l = let many = variables_counted text in numbered_in text names none_before text clean.items n (omega (arith, l, many))

    -- the variable of a number combines as its global does
    combine_is : (n : ℕ) (l : n < variable_count text names) (r : Numbered text names text n) → (variable_of (kernel_of text names) n).combine ≡ combine_function text names r.global.combine
    unfolding kernel_of
    combine_is n l r =
        let many = variables_counted text in
        let low : n < length (variables text) = omega (arith, l, many) in
        ap (λ (x : Variable). x.combine) (get_or-map (variable_shape text names) (variables text) n blank _ low)
        ∙ ap (λ (g : PlainGlobal). combine_function text names g.combine) (r.of (get_or (variables text) n blank) (slice_get-get_or (variables text) n blank low))

    -- an element of a global that isn't a constant
    record Part (g : PlainGlobal) (n : ℕ) : Type 0 where
      is_item : find_item g.name.id text ≡ Some (IsGlobal g)
      changes : is_constant g.kind ≡ false
      nth : ℕ
      is_one : nth < width g
      number : variable_number g.name.id text + nth ≡ n
      combine : (variable_of (kernel_of text names) n).combine ≡ combine_function text names g.combine

    part_at : (n : ℕ) (l : n < variable_count text names) (r : Numbered text names text n) → Part r.global n
    part_at n l r =
        record {
          is_item = own_item text names clean (IsGlobal r.global) r.member;
          changes = r.changes;
          nth = r.index;
          is_one = r.below;
          number = r.number;
          combine = combine_is n l r;
        }

    same_owner : (g : PlainGlobal) → find_item g.name.id text ≡ Some (IsGlobal g) → is_constant g.kind ≡ false → (nth : ℕ) → nth < width g →
        (r : Numbered text names text (variable_number g.name.id text + nth)) → r.global ≡ g
    same_owner g is c nth one r =
        let own = own_item text names clean (IsGlobal r.global) r.member in
        let wide = width_of g c in
        let other = width_of r.global r.changes in
        let number = r.number in
        let below = r.below in
        let same : r.global.name.id ≡ g.name.id =
        apart r.global.name.id g.name.id nth (IsGlobal r.global) (IsGlobal g) text (first_of r.global.name.id (IsGlobal r.global) text own) (first_of g.name.id (IsGlobal g) text is) (omega (arith, wide, one))
        (record { low = omega (arith, number); high = omega (arith, number, below, other) }) in
        let one : Some (IsGlobal r.global) ≡ Some (IsGlobal g) = sym own ∙ (ap (λ i. find_item i text) same ∙ is) in cc

    number_below : (g : PlainGlobal) → find_item g.name.id text ≡ Some (IsGlobal g) → is_constant g.kind ≡ false → (nth : ℕ) → nth < width g → variable_number g.name.id text + nth < variable_count text names
    number_below g is c nth one =
        let l = numbers_below g.name.id (IsGlobal g) text (first_of g.name.id (IsGlobal g) text is) in
        let w = width_of g c in
        omega (arith, l, w, one)

    -- an array has an element
    some_width : (g : PlainGlobal) → find_item g.name.id text ≡ Some (IsGlobal g) → is_constant g.kind ≡ false → 0 < width g
    some_width g is c = pick (stated_length g) refl
      where
        wide : (o : Option Number) → stated_length g ≡ o → width g ≡ elim o [ None ↦ 1 | Some n ↦ elements n ]
        wide o e = ap (λ p. elim p [ None ↦ 1 | Some n ↦ elements n ]) e

        pick : (o : Option Number) → stated_length g ≡ o → 0 < width g
        pick None e = let w = wide None e in omega (arith, w)
        pick (Some n) e =
            let w = wide (Some n) e in
            let some = (((known_thread text names clean).item g.name.id).sized g n is c refl e).some in
            omega (arith, w, some)

    first_part : (g : PlainGlobal) → Changing text g → Part g (variable_number g.name.id text + 0)
    first_part g c =
        let is = own_item text names clean (IsGlobal g) c.member in
        let one = some_width g is c.changes in
        let l = number_below g is c.changes 0 one in
        let r = numbered (variable_number g.name.id text + 0) l in
        record {
          is_item = is;
          changes = c.changes;
          nth = 0;
          is_one = one;
          number = refl;
          combine = combine_is (variable_number g.name.id text + 0) l r ∙ ap (λ (x : PlainGlobal). combine_function text names x.combine) (same_owner g is c.changes 0 one r);
        }

    module _ (u : ℕ → ℕ) where
      abbrev valued : ℕ → ℕ
      valued id = u (number_among is_int_function id text)

      -- the peak for the combine function of one global
      abbrev part : PlainGlobal → ℕ
      part g = peak_of valued text (main_id text names) g

      variable_told : (g : PlainGlobal) (n worth : ℕ) → Part g n → peak_by g.name.id (is_some (stated_length g)) valued worth text (main_id text names) ≡ min (by_variable u (kernel_of text names) n worth) (2 ^ 64 - 1)
      variable_told g n worth p =
          peak_told text names u g.name.id (variable_number g.name.id text + p.nth) worth (is_some (stated_length g)) (Unit {0}) (inl tt) (λ r. number_below g p.is_item p.changes p.nth p.is_one)
          (λ r. reads text g p.is_item p.changes p.nth p.is_one) (λ r. rows text g p.is_item p.changes p.nth p.is_one)
          ∙ ap (λ x. min (by_variable u (kernel_of text names) x worth) (2 ^ 64 - 1)) p.number

      combined_is : (g : PlainGlobal) (n : ℕ) (o : Option Combine) → Part g n → g.combine ≡ o → combined u (kernel_of text names) n ≡ elim o [ None ↦ 0 | Some c ↦ valued c.with.id ]
      combined_is g n o p e = ap (λ x. elim x [ None ↦ 0 | Some f ↦ u f ]) (p.combine ∙ ap (combine_function text names) e) ∙ pick o
        where
          pick : (o : Option Combine) → ◌≡◌ {A = ℕ} (elim (combine_function text names o) [ None ↦ 0 | Some f ↦ u f ]) (elim o [ None ↦ 0 | Some c ↦ valued c.with.id ])
          pick None = refl
          pick (Some c) = refl

      part_none : (g : PlainGlobal) → g.combine ≡ None → part g ≡ 0
      part_none g e = ap (λ o. elim o [ None ↦ 0 | Some c ↦ peak_by g.name.id (is_some (stated_length g)) valued (valued c.with.id) text (main_id text names) ]) e

      part_some : (g : PlainGlobal) (n : ℕ) (c : Combine) → Part g n → g.combine ≡ Some c → part g ≡ min (by_variable u (kernel_of text names) n (combined u (kernel_of text names) n)) (2 ^ 64 - 1)
      part_some g n c p e =
          ap (λ o. elim o [ None ↦ 0 | Some c ↦ peak_by g.name.id (is_some (stated_length g)) valued (valued c.with.id) text (main_id text names) ]) e
          ∙ (variable_told g n (valued c.with.id) p ∙ ap (λ w. min (by_variable u (kernel_of text names) n w) (2 ^ 64 - 1)) (sym (combined_is g n (Some c) p e)))

      over_least : (gs : List PlainGlobal) (b : ℕ) → ((g : PlainGlobal) → Member g gs → part g ≤ b) → peak_over valued text (main_id text names) gs ≤ b
      over_least [] b h = omega arith
      over_least (g ∷ gs) b h =
          let e = h g here in
          let d = over_least gs b (λ x m. h x (later m)) in
          omega (arith, e, d)

      over_above : (gs : List PlainGlobal) (g : PlainGlobal) → Member g gs → part g ≤ peak_over valued text (main_id text names) gs
      over_above [] g m = elim m [ ]
      over_above (x ∷ gs) g here = omega arith
      over_above (x ∷ gs) g (later m) = let e = over_above gs g m in omega (arith, e)

      -- a branch of a par of a thread is below the thread
      root_parent : (thread_of (kernel_of text names) 0).parent ≡ None
      unfolding kernel_of
      root_parent = refl

      past_parent : (j : ℕ) → length (kernel_of text names).threads ≤ j → (thread_of (kernel_of text names) j).parent ≡ None
      past_parent j l = let e = fields.bodies text names in ap (λ (x : PlainThread). x.parent) (past (kernel_of text names).shape.threads blank_thread j (omega (arith, l, e)))

      below_is : (t b : ℕ) → (thread_of (kernel_of text names) b).parent ≡ Some t → all_in (uses_of (kernel_of text names) b) (uses_of (kernel_of text names) t) ≡ true
      below_is t zero p = absurd (let q : None ≡ Some t = sym root_parent ∙ p in cc)
      below_is t (suc j) p =
          split_low (suc j) (length (kernel_of text names).threads)
          (λ low.
          let c = fields.child_fine text names (suc j) (omega arith) low in
          let q : Some c.parent ≡ Some t = sym c.is ∙ p in
          let same : c.parent ≡ t = cc in
          subst (λ x. all_in (uses_of (kernel_of text names) (suc j)) (uses_of (kernel_of text names) x) ≡ true) same c.uses)
          (λ high. absurd (let q : None ≡ Some t = sym (past_parent (suc j) high) ∙ p in cc))

      pars_below : (t : ℕ) → t < length (kernel_of text names).threads → Below u (kernel_of text names) (uses_of (kernel_of text names) t) (pars_of (body_of (kernel_of text names) t))
      pars_below t l n b m i =
          let f = fields.thread_pars text names t l (get_or (pars_of (body_of (kernel_of text names) t)) n []) n m refl in
          below_is t b (f.parent b i)

      -- the variables that a thread uses are among those that there are
      root_uses : uses_of (kernel_of text names) 0 ≡ count_up 0 (variable_count text names)
      unfolding kernel_of
      root_uses = refl

      uses_low : (t x : ℕ) → t < length (kernel_of text names).threads → contains x (uses_of (kernel_of text names) t) ≡ true → x < variable_count text names
      uses_low zero x l i = let e = count_below 0 (variable_count text names) x (sym (ap (contains x) root_uses) ∙ i) in omega (arith, e)
      uses_low (suc j) x l i =
          let w = fields.uses_made text names j (fields.made_count text names j l) in
          let e = filter_below (at (root text names).made j).named 0 (variable_count text names) x (sym (ap (contains x) w) ∙ i) in
          omega (arith, e)

      -- with no words, each variable's peak is that of none
      zero_least : (x y : ℕ) → by_variable u (kernel_of text names) x 0 ≤ by_variable u (kernel_of text names) y 0
      zero_least x y =
          greatest_least (λ t. thread_measure u (kernel_of text names) x 0 (words_of (kernel_of text names) t) (body_of (kernel_of text names) t)) (count_up 0 (length (kernel_of text names).threads)) (by_variable u (kernel_of text names) y 0)
          (λ t i.
          let a = no_worth u (kernel_of text names) x (pars_of (body_of (kernel_of text names) t)) in
          let b = no_worth u (kernel_of text names) y (pars_of (body_of (kernel_of text names) t)) in
          let c = greatest_above (λ t. thread_measure u (kernel_of text names) y 0 (words_of (kernel_of text names) t) (body_of (kernel_of text names) t)) (count_up 0 (length (kernel_of text names).threads)) t i in
          omega (arith, a, b, c))

      abbrev told : ℕ
      told = max (peak_by 0 false valued 0 text (main_id text names)) (peak_over valued text (main_id text names) (variable_items text))

      told_least : told ≤ min (most_words u (kernel_of text names)) (2 ^ 64 - 1)
      told_least =
          let a = none_told text names u in
          let b = none_above u (kernel_of text names) pars_below 0 in
          let c =
          over_least (variable_items text) (min (most_words u (kernel_of text names)) (2 ^ 64 - 1))
          (λ g m. part_least g g.combine refl (first_part g (of_items text g m))) in
          omega (arith, a, b, c)
        where
          part_least : (g : PlainGlobal) (o : Option Combine) → g.combine ≡ o → Part g (variable_number g.name.id text + 0) → part g ≤ min (most_words u (kernel_of text names)) (2 ^ 64 - 1)
          part_least g None e p = let z = part_none g e in omega (arith, z)
          part_least g (Some c) e p =
              let z = part_some g (variable_number g.name.id text + 0) c p e in
              let m = variable_above u (kernel_of text names) pars_below (variable_number g.name.id text + 0) in
              omega (arith, z, m)

      told_above : told < 2 ^ 64 - 1 → most_words u (kernel_of text names) ≤ told
      told_above small =
          let a = none_told text names u in
          words_least u (kernel_of text names) 0 told (omega (arith, a, small)) (λ t x l i. (let low = uses_low t x l i in one x low (numbered x low)))
        where
          by_combine : (x : ℕ) (g : PlainGlobal) (o : Option Combine) → g.combine ≡ o → Part g x → Member g (variable_items text) → by_variable u (kernel_of text names) x (combined u (kernel_of text names) x) ≤ told
          by_combine x g None e p m =
              let z = ap (by_variable u (kernel_of text names) x) (combined_is g x None p e) in
              let y = zero_least x 0 in
              let a = none_told text names u in
              omega (arith, z, y, a, small)
          by_combine x g (Some c) e p m =
              let z = part_some g x c p e in
              let y = over_above (variable_items text) g m in
              omega (arith, z, y, small)

          one : (x : ℕ) (l : x < variable_count text names) → Numbered text names text x → by_variable u (kernel_of text names) x (combined u (kernel_of text names) x) ≤ told
          one x l r = by_combine x r.global r.global.combine refl (part_at x l r) (in_items text (IsGlobal r.global) r.global refl r.changes r.member)

      -- all peaks together are the most words of a thread
      pub most_told : told ≡ min (most_words u (kernel_of text names)) (2 ^ 64 - 1)
      most_told =
          let a = told_least in
          split_low told (2 ^ 64 - 1) (λ l. (let b = told_above l in omega (arith, a, b))) (λ h. omega (arith, a, h))
