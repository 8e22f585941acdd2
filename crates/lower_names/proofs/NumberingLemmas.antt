-- The counts before the first item of a name are the numbers of the name.
use Rattle.std.proofs.Common.{ℕ, suc, ◌+◌, ◌==◌, ◌≡◌, ◌∙◌, ap, refl, Bool, true, false, cond, Option, Some, None, [], ◌∷◌, arith}
use Rattle.forec_tree.specs.Terms.{Text, PlainItem, PlainGlobal, IsGlobal}
use Rattle.forec_tree.specs.Scopes.{is_constant}
use Rattle.text_kernel.specs.declared.names.Stands.TheVariants as st
use Rattle.lower_names.specs.declared.globals.KernelIndices.{KernelIndices}
use Rattle.text_kernel.specs.Bindings.{item_id, variables_in, variable_number, is_table, is_int_function, number_among, first_value, constant_stands, item_stands}
use Rattle.lower_names.specs.Numbering.{no_indices, count_item, before_name, indices_or, put_indices, global_stands, stands_from}

-- one count of the three
module _ (sort : PlainItem → Bool) (of : KernelIndices → ℕ) (next : (c : KernelIndices) (i : PlainItem) → of (count_item c i) ≡ of c + cond (sort i) 1 0) where
  count_is : (id : ℕ) (c : KernelIndices) (text : Text) → of (before_name id c text) ≡ of c + number_among sort id text
  count_is id c [] = omega arith
  count_is id c (i ∷ rest) = pick (item_id i == id) (sort i) refl (count_is id (count_item c i) rest)
    where
      pick : (b d : Bool) → sort i ≡ d → of (before_name id (count_item c i) rest) ≡ of (count_item c i) + number_among sort id rest →
          of (cond b c (before_name id (count_item c i) rest)) ≡ of c + cond b 0 (cond (sort i) (suc (number_among sort id rest)) (number_among sort id rest))
      pick true d e h = omega arith
      pick false true e h = let n = next c i in let m : of (count_item c i) ≡ of c + 1 = n ∙ ap (λ q. of c + cond q 1 0) e in rw e (omega (arith, h, m))
      pick false false e h = let n = next c i in let m : of (count_item c i) ≡ of c + 0 = n ∙ ap (λ q. of c + cond q 1 0) e in rw e (omega (arith, h, m))

sum_is : (id : ℕ) (c : KernelIndices) (text : Text) → (before_name id c text).variables ≡ c.variables + variable_number id text
sum_is id c [] = omega arith
sum_is id c (i ∷ rest) = pick (item_id i == id) (sum_is id (count_item c i) rest)
  where
    pick : (b : Bool) → (before_name id (count_item c i) rest).variables ≡ (c.variables + variables_in i) + variable_number id rest →
        (cond b c (before_name id (count_item c i) rest)).variables ≡ c.variables + cond b 0 (variables_in i + variable_number id rest)
    pick true h = omega arith
    pick false h = omega (arith, h)

pub variables_are : (id : ℕ) (text : Text) → (before_name id no_indices text).variables ≡ variable_number id text
variables_are id text = let e = sum_is id no_indices text in omega (arith, e)

pub tables_are : (id : ℕ) (text : Text) → (before_name id no_indices text).tables ≡ number_among is_table id text
tables_are id text = let e = count_is is_table (λ c. c.tables) (λ c i. refl) id no_indices text in omega (arith, e)

pub functions_are : (id : ℕ) (text : Text) → (before_name id no_indices text).functions ≡ number_among is_int_function id text
functions_are id text = let e = count_is is_int_function (λ c. c.functions) (λ c i. refl) id no_indices text in omega (arith, e)

-- one more item is noted
pub noted_step : (g : ℕ) (c : KernelIndices) (i : PlainItem) (rest : Text) (old : Option KernelIndices) →
    indices_or (put_indices (item_id i) g c old) (before_name g (count_item c i) rest) ≡ indices_or old (before_name g c (i ∷ rest))
noted_step g c i rest None = elim (item_id i == g) as (λ b. indices_or (cond b (Some c) None) (before_name g (count_item c i) rest) ≡ cond b c (before_name g (count_item c i) rest)) [ true ↦ refl | false ↦ refl ]
noted_step g c i rest (Some d) = elim (item_id i == g) as (λ b. indices_or (cond b (Some d) (Some d)) (before_name g (count_item c i) rest) ≡ d) [ true ↦ refl | false ↦ refl ]

-- what a global stands for
pub global_is : (c : KernelIndices) (text : Text) (g : PlainGlobal) → c ≡ before_name g.name.id no_indices text → global_stands c g ≡ item_stands text (Some (IsGlobal g))
global_is c text g e =
    ap (λ x. global_stands x g) e
    ∙ (ap (λ n. cond (is_constant g.kind) (elim g.length [ None ↦ st.AsNumber (first_value g.values) | Some k ↦ st.AsTable n ]) (stands_from (before_name g.name.id no_indices text).variables g)) (tables_are g.name.id text)
    ∙ ap (λ n. cond (is_constant g.kind) (constant_stands text g) (stands_from n g)) (variables_are g.name.id text))
