-- `uses`, `inputs` and `outputs` are parts of the numbers from 0 on, and each variable has a name.
use Rattle.std.proofs.Common.{ℕ, zero, suc, ◌+◌, ◌<◌, ◌≤◌, ◌≡◌, ◌∙◌, sym, ap, refl, Bool, true, false, cond, ◌==◌, nat_lt, IsTrue, List, [], ◌∷◌, length, map, arith}
use Rattle.std.proofs.lemmas.Bool.Decides.{nat_tests}
use Rattle.std.proofs.lemmas.Bool.{and_from}
use Rattle.std.proofs.lemmas.List.{length-map}
use Rattle.forec_tree.specs.declared.tree.GlobalKind.{GlobalKind}
use Rattle.forec_tree.specs.Terms.{Text}
use Rattle.forec_tree.specs.Variables.{PlainVariable, variables}
use Rattle.forec_tree.specs.Rules.{is_input, is_output}
use Rattle.forec_tree.specs.Faults.{is_in}
use Rattle.forec_kernel.specs.Combining.{contains}
use Rattle.forec_kernel.specs.WellFormed.{ascends, count_up, distinct, all_below}
use Rattle.text_kernel.specs.Kernels.{kernel_of, filter_in, numbers_of, variable_shape}

-- all of a list is from a number on, and it ascends
pub data Rising : ℕ → List ℕ → Type 0 where
  ends : {from : ℕ} → Rising from []
  goes : {from v : ℕ} {rest : List ℕ} → from ≤ v → Rising (suc v) rest → Rising from (v ∷ rest)

rises_from : (from to : ℕ) (list : List ℕ) → from ≤ to → Rising to list → Rising from list
rises_from from to list h ends = ends
rises_from from to list h (goes l r) = goes (omega arith) r

pub rising_ascends : {from : ℕ} (list : List ℕ) → Rising from list → ascends list ≡ true
rising_ascends [] r = refl
rising_ascends (v ∷ []) r = refl
rising_ascends (v ∷ u ∷ rest) (goes l (goes h r)) =
    let less : nat_lt v u ≡ true = grind (arith, nat_tests) in and_from (nat_lt v u) (ascends (u ∷ rest)) less (rising_ascends (u ∷ rest) (goes h r))

absent_below : (v from : ℕ) (list : List ℕ) → v < from → Rising from list → contains v list ≡ false
absent_below v from [] l r = refl
absent_below v from (u ∷ rest) l (goes h r) =
    let other : (u == v) ≡ false = grind (arith, nat_tests) in ap (λ b. cond b true (contains v rest)) other ∙ absent_below v (suc u) rest (omega arith) r

pub rising_distinct : {from : ℕ} (list : List ℕ) → Rising from list → distinct list ≡ true
rising_distinct [] r = refl
rising_distinct (v ∷ rest) (goes l r) = ap (λ b. cond b false (distinct rest)) (absent_below v (suc v) rest (omega arith) r) ∙ rising_distinct rest r

pub filter_rises : (named : List ℕ) (from n : ℕ) → Rising from (filter_in named (count_up from n))
filter_rises named from zero = ends
filter_rises named from (suc n) = pick (is_in from named) (filter_rises named (suc from) n)
  where
    pick : (b : Bool) → Rising (suc from) (filter_in named (count_up (suc from) n)) → Rising from (cond b (from ∷ filter_in named (count_up (suc from) n)) (filter_in named (count_up (suc from) n)))
    pick true r = goes (omega arith) r
    pick false r = rises_from from (suc from) (filter_in named (count_up (suc from) n)) (omega arith) r

module _ (text : Text) (names : List (List ℕ)) where
  numbers_rise : (sort : GlobalKind → Bool) (n : ℕ) (vs : List PlainVariable) → Rising n (numbers_of text names sort n vs)
  numbers_rise sort n [] = ends
  numbers_rise sort n (v ∷ rest) = pick (sort v.global.kind) (numbers_rise sort (suc n) rest)
    where
      pick : (b : Bool) → Rising (suc n) (numbers_of text names sort (suc n) rest) → Rising n (cond b (n ∷ numbers_of text names sort (suc n) rest) (numbers_of text names sort (suc n) rest))
      pick true r = goes (omega arith) r
      pick false r = rises_from n (suc n) (numbers_of text names sort (suc n) rest) (omega arith) r

  numbers_below : (sort : GlobalKind → Bool) (n to : ℕ) (vs : List PlainVariable) → n + length vs ≤ to → all_below to (numbers_of text names sort n vs) ≡ true
  numbers_below sort n to [] l = refl
  numbers_below sort n to (v ∷ rest) l = pick (sort v.global.kind) (numbers_below sort (suc n) to rest (omega arith))
    where
      pick : (b : Bool) → all_below to (numbers_of text names sort (suc n) rest) ≡ true → all_below to (cond b (n ∷ numbers_of text names sort (suc n) rest) (numbers_of text names sort (suc n) rest)) ≡ true
      pick true h = let less : nat_lt n to ≡ true = grind (arith, nat_tests) in and_from (nat_lt n to) (all_below to (numbers_of text names sort (suc n) rest)) less h
      pick false h = h

  pub names_each : length (kernel_of text names).shape.names ≡ length (kernel_of text names).shape.variables
  unfolding kernel_of
  names_each = length-map (variables text) _ ∙ sym (length-map (variables text) (variable_shape text names))

  pub inputs_once : IsTrue (distinct (kernel_of text names).shape.inputs)
  unfolding kernel_of
  inputs_once = rising_distinct (numbers_of text names is_input 0 (variables text)) (numbers_rise is_input 0 (variables text))

  pub outputs_once : IsTrue (distinct (kernel_of text names).shape.outputs)
  unfolding kernel_of
  outputs_once = rising_distinct (numbers_of text names is_output 0 (variables text)) (numbers_rise is_output 0 (variables text))

  pub inputs_named : IsTrue (all_below (length (kernel_of text names).shape.variables) (kernel_of text names).shape.inputs)
  unfolding kernel_of
  inputs_named =
      let n = length-map (variables text) (variable_shape text names) in
      numbers_below is_input 0 (length (map (variable_shape text names) (variables text))) (variables text) (omega (arith, n))

  pub outputs_named : IsTrue (all_below (length (kernel_of text names).shape.variables) (kernel_of text names).shape.outputs)
  unfolding kernel_of
  outputs_named =
      let n = length-map (variables text) (variable_shape text names) in
      numbers_below is_output 0 (length (map (variable_shape text names) (variables text))) (variables text) (omega (arith, n))
