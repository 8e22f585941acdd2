-- How many functions, inputs and outputs there are: rules 24 and 22.
use Rattle.std.proofs.Common.{ℕ, zero, suc, ◌+◌, ◌≤◌, ◌≡◌, ◌∙◌, sym, ap, refl, Bool, true, false, cond, ◌&&◌, ◌||◌, nat_lt, nat_le, Option, Some, None, List, [], ◌∷◌, ◌++◌, length, arith}
use Rattle.std.proofs.lemmas.Bool.{or_parts}
use Rattle.std.proofs.lemmas.Bool.Decides.{nat_tests}
use Rattle.std.proofs.lemmas.List.{length-map}
use Rattle.forec_tree.specs.declared.tree.GlobalKind.{GlobalKind}
use Rattle.forec_tree.specs.declared.tree.GlobalKind.TheVariants.{Const, Input, Output, Plain, Shared, SharedOutput}
use Rattle.forec_tree.specs.Terms.{Text, PlainItem, PlainGlobal, IsGlobal, IsFunction}
use Rattle.forec_tree.specs.declared.tree.Number.{Number}
use Rattle.forec_tree.specs.Scopes.{is_constant, may_be_array, stated_length}
use Rattle.forec_tree.specs.Variables.{PlainVariable, elements, width, elements_from, variables_of, variables}
use Rattle.forec_tree.specs.Rules.{fault_if, is_input, is_output, is_long, length_faults, too_many}
use Rattle.forec_tree.specs.Faults.{Before, none_before, after_item, one_if, output_count, runs_over, item_named, combine_faults, item_faults, items_faults}
use Rattle.text_kernel.specs.Kernels as kernels
use Rattle.text_kernel.specs.Kernels.{kernel_of, int_functions, numbers_of}
use Rattle.text_kernel.proofs.Fine.{none_left, none_right, not_broken, right_false}
use Rattle.text_kernel.proofs.Faultless.{Clean}

constant_no : (k : GlobalKind) → is_input k ≡ true → is_constant k ≡ false
constant_no Const h = cc
constant_no Input h = refl
constant_no Output h = cc
constant_no Plain h = cc
constant_no Shared h = cc
constant_no SharedOutput h = cc

output_no : (k : GlobalKind) → is_output k ≡ true → is_constant k ≡ false
output_no Const h = cc
output_no Input h = cc
output_no Output h = refl
output_no Plain h = cc
output_no Shared h = cc
output_no SharedOutput h = refl

-- an input is no array
input_array : (k : GlobalKind) → is_input k ≡ true → may_be_array k ≡ false
input_array Const h = cc
input_array Input h = refl
input_array Output h = refl
input_array Plain h = refl
input_array Shared h = cc
input_array SharedOutput h = cc

input_single : (g : PlainGlobal) → is_input g.kind ≡ true → width g ≡ 1
input_single g h = ap (λ b. elim (cond b g.length None) [ None ↦ 1 | Some n ↦ elements n ]) (input_array g.kind h)

not_over : (most before more : ℕ) → runs_over most before more ≡ false → before ≤ most → before + more ≤ most
not_over most before zero h l = omega arith
not_over most before (suc more) h l = grind (arith, nat_tests)

module _ (text : Text) (names : List (List ℕ)) where
  functions_few : (b : Before) (xs : List PlainItem) → items_faults text names b xs ≡ [] → b.functions ≤ 1024 → b.functions + length (int_functions text names xs) ≤ 1024
  functions_few b [] h l = omega arith
  functions_few b (IsGlobal g ∷ xs) h l =
      functions_few (after_item b (IsGlobal g)) xs (none_right (item_faults text names b (IsGlobal g)) (items_faults text names (after_item b (IsGlobal g)) xs) h) l
  functions_few b (IsFunction f ∷ xs) h l =
      let own = none_left (item_faults text names b (IsFunction f)) (items_faults text names (after_item b (IsFunction f)) xs) h in
      let h1 = none_right (fault_if (item_named f.name.id b.items) f.name.place 2) _ own in
      let h2 = none_right (fault_if (is_long names f.name.id) f.name.place 21) _ h1 in
      let h3 = none_right (fault_if (nat_lt 16 (length f.params)) f.name.place 23) _ h2 in
      let e : nat_le 1024 b.functions ≡ false = not_broken (nat_le 1024 b.functions) f.name.place 24 (none_left (fault_if (nat_le 1024 b.functions) f.name.place 24) _ h3) in
      let low : suc b.functions ≤ 1024 = grind (arith, nat_tests) in
      let r = functions_few (after_item b (IsFunction f)) xs (none_right (item_faults text names b (IsFunction f)) (items_faults text names (after_item b (IsFunction f)) xs) h) low in
      elim f.gives as (λ q. b.functions + length (cond q (f ∷ int_functions text names xs) (int_functions text names xs)) ≤ 1024) [ true ↦ omega (arith, r) | false ↦ omega (arith, r) ]

  -- rule 22 at a global
  limits : (b : Before) (g : PlainGlobal) → item_faults text names b (IsGlobal g) ≡ [] → ((is_input g.kind && nat_le 64 b.inputs) || runs_over 64 b.outputs (output_count g)) ≡ false
  limits b g h =
      let h1 = none_right (fault_if (item_named g.name.id b.items) g.name.place 2) _ h in
      let h2 = none_right (length_faults g.length) _ h1 in
      let h3 = none_right (fault_if (too_many g.length (length g.values)) g.name.place 18) _ h2 in
      let h4 = none_right (fault_if (is_long names g.name.id) g.name.place 21) _ h3 in
      not_broken _ g.name.place 22 (none_right (combine_faults text g.combine) _ h4)

  -- of the variables of a global all are of a sort, or none
  elements_front : (sort : GlobalKind → Bool) (g : PlainGlobal) (b : Bool) → sort g.kind ≡ b → (n index count : ℕ) (rest : List PlainVariable) →
      length (numbers_of text names sort n (elements_from g index count ++ rest)) ≡ cond b count 0 + length (numbers_of text names sort (n + count) rest)
  elements_front sort g true e n index zero rest =
      let z : n ≡ n + 0 = omega arith in
      let there = ap (λ m. length (numbers_of text names sort m rest)) z in
      omega (arith, there)
  elements_front sort g false e n index zero rest =
      let z : n ≡ n + 0 = omega arith in
      let there = ap (λ m. length (numbers_of text names sort m rest)) z in
      omega (arith, there)
  elements_front sort g true e n index (suc count) rest =
      let more = numbers_of text names sort (suc n) (elements_from g (suc index) count ++ rest) in
      let one = ap (λ b. length (cond b (n ∷ more) more)) e in
      let others = elements_front sort g true e (suc n) (suc index) count rest in
      let z : suc n + count ≡ n + suc count = omega arith in
      let there = ap (λ m. length (numbers_of text names sort m rest)) z in
      omega (arith, one, others, there)
  elements_front sort g false e n index (suc count) rest =
      let more = numbers_of text names sort (suc n) (elements_from g (suc index) count ++ rest) in
      let one = ap (λ b. length (cond b (n ∷ more) more)) e in
      let others = elements_front sort g false e (suc n) (suc index) count rest in
      let z : suc n + count ≡ n + suc count = omega arith in
      let there = ap (λ m. length (numbers_of text names sort m rest)) z in
      omega (arith, one, others, there)

  global_front : (sort : GlobalKind → Bool) (g : PlainGlobal) (b : Bool) → sort g.kind ≡ b → (n : ℕ) (rest : List PlainVariable) →
      length (numbers_of text names sort n (variables_of g ++ rest)) ≡ cond b (width g) 0 + length (numbers_of text names sort (n + width g) rest)
  global_front sort g b e n rest = pick (stated_length g) b e
    where
      pick : (o : Option Number) (b : Bool) → sort g.kind ≡ b →
          length (numbers_of text names sort n (elim o [ None ↦ record { global = g; index = None } ∷ [] | Some k ↦ elements_from g 0 (elements k) ] ++ rest))
          ≡ cond b (elim o [ None ↦ 1 | Some k ↦ elements k ]) 0 + length (numbers_of text names sort (n + elim o [ None ↦ 1 | Some k ↦ elements k ]) rest)
      pick (Some k) b d = elements_front sort g b d n 0 (elements k) rest
      pick None true d =
          let more = numbers_of text names sort (suc n) rest in
          let one = ap (λ b. length (cond b (n ∷ more) more)) d in
          let z : suc n ≡ n + 1 = omega arith in
          let there = ap (λ m. length (numbers_of text names sort m rest)) z in
          omega (arith, one, there)
      pick None false d =
          let more = numbers_of text names sort (suc n) rest in
          let one = ap (λ b. length (cond b (n ∷ more) more)) d in
          let z : suc n ≡ n + 1 = omega arith in
          let there = ap (λ m. length (numbers_of text names sort m rest)) z in
          omega (arith, one, there)

  -- the variables of one item before those of others
  item_front : (sort : GlobalKind → Bool) (g : PlainGlobal) (c d : Bool) → is_constant g.kind ≡ c → sort g.kind ≡ d → (xs : List PlainItem) (n : ℕ) →
      length (numbers_of text names sort n (variables (IsGlobal g ∷ xs)))
      ≡ cond c 0 (cond d (width g) 0) + length (numbers_of text names sort (cond c n (n + width g)) (variables xs))
  item_front sort g true d e q xs n =
      let all = ap (λ b. length (numbers_of text names sort n (cond b (variables xs) (variables_of g ++ variables xs)))) e in
      omega (arith, all)
  item_front sort g false d e q xs n =
      ap (λ b. length (numbers_of text names sort n (cond b (variables xs) (variables_of g ++ variables xs)))) e ∙ global_front sort g d q n (variables xs)

  inputs_few : (b : Before) (xs : List PlainItem) (n : ℕ) → items_faults text names b xs ≡ [] → b.inputs ≤ 64 → b.inputs + length (numbers_of text names is_input n (variables xs)) ≤ 64
  inputs_few b [] n h l = omega arith
  inputs_few b (IsFunction f ∷ xs) n h l =
      inputs_few (after_item b (IsFunction f)) xs n (none_right (item_faults text names b (IsFunction f)) (items_faults text names (after_item b (IsFunction f)) xs) h) l
  inputs_few b (IsGlobal g ∷ xs) n h l =
      let broken = (or_parts _ _ (limits b g (none_left (item_faults text names b (IsGlobal g)) (items_faults text names (after_item b (IsGlobal g)) xs) h))).0 in
      let more = none_right (item_faults text names b (IsGlobal g)) (items_faults text names (after_item b (IsGlobal g)) xs) h in
      pick (is_constant g.kind) (is_input g.kind) refl refl broken (λ m k. inputs_few (after_item b (IsGlobal g)) xs m more k)
    where
      pick : (c d : Bool) → is_constant g.kind ≡ c → is_input g.kind ≡ d → (is_input g.kind && nat_le 64 b.inputs) ≡ false →
          ((m : ℕ) → b.inputs + one_if (is_input g.kind) ≤ 64 → (b.inputs + one_if (is_input g.kind)) + length (numbers_of text names is_input m (variables xs)) ≤ 64) →
          b.inputs + length (numbers_of text names is_input n (variables (IsGlobal g ∷ xs))) ≤ 64
      pick true true e q w r = let bad : true ≡ false = sym e ∙ constant_no g.kind q in cc
      pick true false e q w r =
          let z = ap one_if q in
          let k = r n (omega (arith, z, l)) in
          let front = item_front is_input g true false e q xs n in
          omega (arith, k, z, front)
      pick false true e q w r =
          let z = ap one_if q in
          let low : nat_le 64 b.inputs ≡ false = right_false (is_input g.kind) (nat_le 64 b.inputs) q w in
          let up : suc b.inputs ≤ 64 = grind (arith, nat_tests) in
          let k = r (n + width g) (omega (arith, z, up)) in
          let front = item_front is_input g false true e q xs n in
          let one = input_single g q in
          omega (arith, k, z, front, one)
      pick false false e q w r =
          let z = ap one_if q in
          let k = r (n + width g) (omega (arith, z, l)) in
          let front = item_front is_input g false false e q xs n in
          omega (arith, k, z, front)

  outputs_few : (b : Before) (xs : List PlainItem) (n : ℕ) → items_faults text names b xs ≡ [] → b.outputs ≤ 64 → b.outputs + length (numbers_of text names is_output n (variables xs)) ≤ 64
  outputs_few b [] n h l = omega arith
  outputs_few b (IsFunction f ∷ xs) n h l =
      outputs_few (after_item b (IsFunction f)) xs n (none_right (item_faults text names b (IsFunction f)) (items_faults text names (after_item b (IsFunction f)) xs) h) l
  outputs_few b (IsGlobal g ∷ xs) n h l =
      let broken = (or_parts _ _ (limits b g (none_left (item_faults text names b (IsGlobal g)) (items_faults text names (after_item b (IsGlobal g)) xs) h))).1 in
      let more = none_right (item_faults text names b (IsGlobal g)) (items_faults text names (after_item b (IsGlobal g)) xs) h in
      let fits = not_over 64 b.outputs (output_count g) broken l in
      pick (is_constant g.kind) (is_output g.kind) refl refl (λ m. outputs_few (after_item b (IsGlobal g)) xs m more fits)
    where
      pick : (c d : Bool) → is_constant g.kind ≡ c → is_output g.kind ≡ d →
          ((m : ℕ) → (b.outputs + output_count g) + length (numbers_of text names is_output m (variables xs)) ≤ 64) →
          b.outputs + length (numbers_of text names is_output n (variables (IsGlobal g ∷ xs))) ≤ 64
      pick true true e q r = let bad : true ≡ false = sym e ∙ output_no g.kind q in cc
      pick true false e q r =
          let k = r n in
          let front = item_front is_output g true false e q xs n in
          omega (arith, k, front)
      pick false d e q r =
          let k = r (n + width g) in
          let front = item_front is_output g false d e q xs n in
          let count : output_count g ≡ cond d (width g) 0 = ap (λ b. cond b (width g) 0) q in
          omega (arith, k, front, count)

  module _ (clean : Clean text names) where
    pub few_functions : length (kernel_of text names).functions ≤ 1024
    unfolding kernel_of
    few_functions =
        let e = length-map (int_functions text names text) (λ f. Rattle.text_kernel.specs.Lowering.sequence (kernels.lowered_function_body text names f).list) in
        let l = functions_few none_before text clean.items (omega arith) in
        omega (arith, e, l)

    pub few_inputs : length (kernel_of text names).shape.inputs ≤ 64
    unfolding kernel_of
    few_inputs = let l = inputs_few none_before text 0 clean.items (omega arith) in omega (arith, l)

    pub few_outputs : length (kernel_of text names).shape.outputs ≤ 64
    unfolding kernel_of
    few_outputs = let l = outputs_few none_before text 0 clean.items (omega arith) in omega (arith, l)
