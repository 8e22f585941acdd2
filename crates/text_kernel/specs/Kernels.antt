-- The kernel of a program.
use Rattle.std.specs.Prelude.{ℕ, zero, suc, ℤ, pos, Bool, cond, Option, Some, None, List, [], ◌∷◌, ◌++◌, length, map, codes, decimal}
use Rattle.forec_base.specs.declared.Policy.{Policy}
use Rattle.forec_base.specs.declared.Policy.TheVariants.{Mod}
use Rattle.forec_kernel.specs.declared.shape.Variable.{Variable}
use Rattle.forec_kernel.specs.Terms.{Stmt}
use Rattle.forec_kernel.specs.Shapes.{PlainKernel, PlainShape, PlainThread}
use Rattle.forec_kernel.specs.WellFormed.{count_up}
use Rattle.forec_tree.specs.declared.tree.Combine.{Combine}
use Rattle.forec_tree.specs.declared.tree.Number.{Number}
use Rattle.forec_tree.specs.declared.tree.GlobalKind.{GlobalKind}
use Rattle.forec_tree.specs.Terms.{Text, PlainGlobal, PlainFunction, IsGlobal, IsFunction}
use Rattle.forec_tree.specs.Variables.{PlainVariable, variables, count_variables}
use Rattle.forec_tree.specs.Rules.{spelling_of_name, is_constant, is_input, is_output}
use Rattle.forec_tree.specs.Faults.{start_name, is_in}
use Rattle.text_kernel.specs.Bindings.{params_at, number_of, number_among, is_int_function, first_value, nth_value}
use Rattle.text_kernel.specs.Lowering.{Made, Lowered, Listed, lowered, sequence, lower_list, inlined}

abbrev pub filter_in : List ℕ → List ℕ → List ℕ
filter_in named [] = []
filter_in named (v ∷ rest) = cond (is_in v named) (v ∷ filter_in named rest) (filter_in named rest)

abbrev pub padded : ℕ → List Number → List ℤ
padded zero values = []
padded (suc n) [] = pos 0 ∷ padded n []
padded (suc n) (v ∷ rest) = v.value ∷ padded n rest

-- the value of the first number, or the one that an element has; 0 where none is given
abbrev pub initial_value : PlainVariable → ℤ
initial_value v = elim v.index [ None ↦ first_value v.global.values | Some i ↦ nth_value i v.global.values ]

-- an element is named by its array and its index, as in h[0]
abbrev pub element_name : List ℕ → Option ℕ → List ℕ
element_name name None = name
element_name name (Some i) = name ++ codes "[" ++ decimal i ++ codes "]"

abbrev pub variable_name : List (List ℕ) → PlainVariable → List ℕ
variable_name names v = element_name (spelling_of_name names v.global.name.id) v.index

module _ (text : Text) (names : List (List ℕ)) where
  abbrev pub variable_count : ℕ
  variable_count = count_variables text

  abbrev pub policy_of : Option Combine → Policy
  policy_of None = Mod
  policy_of (Some c) = c.policy

  abbrev pub combine_function : Option Combine → Option ℕ
  combine_function None = None
  combine_function (Some c) = Some (number_among is_int_function c.with.id text)

  abbrev pub variable_shape : PlainVariable → Variable
  variable_shape v =
      record { policy = policy_of v.global.combine; combine = combine_function v.global.combine; start = initial_value v; input = is_input v.global.kind }

  abbrev pub numbers_of : (GlobalKind → Bool) → ℕ → List PlainVariable → List ℕ
  numbers_of sort n [] = []
  numbers_of sort n (v ∷ rest) = cond (sort v.global.kind) (n ∷ numbers_of sort (suc n) rest) (numbers_of sort (suc n) rest)

  abbrev pub table_of : PlainGlobal → List (List ℤ)
  table_of g = cond (is_constant g.kind) (elim g.length [ None ↦ [] | Some n ↦ padded (number_of n) g.values ∷ [] ]) []

  abbrev pub tables_of : Text → List (List ℤ)
  tables_of [] = []
  tables_of (IsFunction f ∷ rest) = tables_of rest
  tables_of (IsGlobal g ∷ rest) = table_of g ++ tables_of rest

  -- ---- int functions

  abbrev pub lowered_function_body : PlainFunction → Listed
  lowered_function_body f =
      lower_list text (λ id first t n. lowered (sequence (Rattle.forec_kernel.specs.Terms.no_stmts)) n) 0 (params_at 0 f.params)
      (record { slot = length f.params; thread = 1; par = 0 }) f.body

  abbrev pub int_functions : Text → List PlainFunction
  int_functions [] = []
  int_functions (IsGlobal g ∷ rest) = int_functions rest
  int_functions (IsFunction f ∷ rest) = cond f.gives (f ∷ int_functions rest) (int_functions rest)

  -- ---- threads

  -- the number of the name of the function that thread 0 runs
  abbrev pub main_id : ℕ
  main_id = elim (start_name names text) [ None ↦ 0 | Some id ↦ id ]

  -- `main` and what stands below it
  abbrev pub root : Lowered
  root = inlined text main_id 0 0 (record { slot = 0; thread = 1; par = 0 })

  abbrev pub name_bytes : Option ℕ → Option (List ℕ)
  name_bytes None = None
  name_bytes (Some id) = Some (spelling_of_name names id)

  abbrev pub thread_shape : Made → PlainThread
  thread_shape m =
      record { parent = Some m.parent; par = Some m.par; name = name_bytes m.name; params = m.params; words = m.words; uses = filter_in m.named (count_up 0 variable_count) }

  abbrev pub root_shape : PlainThread
  root_shape =
      record {
        parent = None;
        par = None;
        name = Some (spelling_of_name names main_id);
        params = 0;
        words = root.next.slot;
        uses = count_up 0 variable_count;
      }

  abbrev pub shape_of : PlainShape
  shape_of =
      record {
        threads = root_shape ∷ map thread_shape root.made;
        variables = map variable_shape (variables text);
        functions = map (λ f. record { params = length f.params; words = (lowered_function_body f).next.slot }) (int_functions text);
        tables = tables_of text;
        inputs = numbers_of is_input 0 (variables text);
        outputs = numbers_of is_output 0 (variables text);
        names = map (variable_name names) (variables text);
      }

  -- `KernelOf`
  unfoldable pub kernel_of : PlainKernel
  kernel_of =
      record {
        shape = shape_of;
        threads = root.stmt ∷ map (λ m. m.body) root.made;
        functions = map (λ f. sequence (lowered_function_body f).list) (int_functions text);
      }
