-- How many variables, constant arrays and int functions stand before the first item of a name: the numbers of these.
use Rattle.std.specs.Prelude.{ℕ, ◌+◌, ◌==◌, Bool, cond, Option, Some, None, [], ◌∷◌}
use Rattle.forec_tree.specs.Terms.{Text, PlainItem, PlainGlobal}
use Rattle.forec_tree.specs.Scopes.{is_constant, stated_length}
use Rattle.forec_tree.specs.Variables.{elements}
use Rattle.text_kernel.specs.declared.names.Stands.{Stands}
use Rattle.text_kernel.specs.declared.names.Stands.TheVariants as st
use Rattle.lower_names.specs.declared.globals.KernelIndices.{KernelIndices}
use Rattle.text_kernel.specs.Bindings.{item_id, variables_in, is_table, is_int_function, first_value}

abbrev pub no_indices : KernelIndices
no_indices = record { variables = 0; tables = 0; functions = 0 }

abbrev pub more_if : ℕ → Bool → ℕ
more_if n b = n + cond b 1 0

abbrev pub count_item : KernelIndices → PlainItem → KernelIndices
count_item c i =
    record { variables = c.variables + variables_in i; tables = more_if c.tables (is_table i); functions = more_if c.functions (is_int_function i) }

-- the counts before the first item of a name, or after all
abbrev pub before_name : ℕ → KernelIndices → Text → KernelIndices
before_name id c [] = c
before_name id c (i ∷ rest) = cond (item_id i == id) c (before_name id (count_item c i) rest)

abbrev pub indices_or : Option KernelIndices → KernelIndices → KernelIndices
indices_or None c = c
indices_or (Some d) c = d

-- counts were put at a name that had none
abbrev pub put_indices : ℕ → ℕ → KernelIndices → Option KernelIndices → Option KernelIndices
put_indices id g c old = cond (id == g) (Some (indices_or old c)) old

-- what a global that isn't a constant stands for, with the number of its first variable
abbrev pub stands_from : ℕ → PlainGlobal → Stands
stands_from first g = elim (stated_length g) [ None ↦ st.AsVariable first | Some n ↦ st.AsVariables first (elements n) ]

-- what a global stands for, with the counts before it
abbrev pub global_stands : KernelIndices → PlainGlobal → Stands
global_stands c g =
    cond (is_constant g.kind) (elim g.length [ None ↦ st.AsNumber (first_value g.values) | Some n ↦ st.AsTable c.tables ]) (stands_from c.variables g)
