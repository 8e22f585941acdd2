-- The globals that are variables, the int functions and the constant arrays among the items of a program.
use Rattle.std.specs.Prelude.{◌≡◌, ℕ, ℤ, cond, ◌&&◌, Option, Some, None, is_some, List, [], ◌∷◌, ◌++◌, map}
use Rattle.std.specs.Borrow.{Bor}
use Rattle.forec_tree.specs.declared.tree.Global.{Global}
use Rattle.forec_tree.specs.declared.tree.Function.{Function}
use Rattle.forec_tree.specs.Terms.{PlainItem, PlainGlobal, PlainFunction, IsGlobal, IsFunction}
use Rattle.forec_tree.specs.Plain.{plain_global, plain_function}
use Rattle.forec_tree.specs.Rules.{is_constant}
use Rattle.forec_tree.specs.Variables.{PlainVariable, variables_of}
use Rattle.text_kernel.specs.Bindings.{number_of}
use Rattle.text_kernel.specs.Kernels.{padded}

abbrev pub globals_of : List (Bor Global) → List PlainGlobal
globals_of = map (λ r. plain_global r.now)

abbrev pub functions_of : List (Bor Function) → List PlainFunction
functions_of = map (λ r. plain_function r.now)

-- the global whose variables an item declares
abbrev pub variable_in : PlainItem → Option PlainGlobal
variable_in (IsFunction f) = None
variable_in (IsGlobal g) = cond (is_constant g.kind) None (Some g)

abbrev pub variable_items : List PlainItem → List PlainGlobal
variable_items [] = []
variable_items (IsFunction f ∷ rest) = variable_items rest
variable_items (IsGlobal g ∷ rest) = cond (is_constant g.kind) (variable_items rest) (g ∷ variable_items rest)

-- globals that aren't constants, each with all its elements
abbrev pub each_variable : List PlainGlobal → List PlainVariable
each_variable [] = []
each_variable (g ∷ rest) = variables_of g ++ each_variable rest

-- the int function that an item is
abbrev pub int_in : PlainItem → Option PlainFunction
int_in (IsGlobal g) = None
int_in (IsFunction f) = cond f.gives (Some f) None

abbrev pub global_in : Option (Bor Global) → Option PlainGlobal
global_in None = None
global_in (Some r) = Some (plain_global r.now)

abbrev pub function_in : Option (Bor Function) → Option PlainFunction
function_in None = None
function_in (Some r) = Some (plain_function r.now)

abbrev pub IsVariable : Option (Bor Global) → PlainItem → Type 0
IsVariable r i = global_in r ≡ variable_in i

abbrev pub IsIntFunctionOf : Option (Bor Function) → PlainItem → Type 0
IsIntFunctionOf r i = function_in r ≡ int_in i

-- the constant array that an item declares
abbrev pub array_in : PlainItem → Option PlainGlobal
array_in (IsFunction f) = None
array_in (IsGlobal g) = cond (is_constant g.kind && is_some g.length) (Some g) None

abbrev pub option_list : {A : Type 0} → Option A → List A
option_list None = []
option_list (Some x) = x ∷ []

abbrev pub array_items : List PlainItem → List PlainGlobal
array_items [] = []
array_items (i ∷ rest) = option_list (array_in i) ++ array_items rest

abbrev pub array_length : PlainGlobal → ℕ
array_length g = elim g.length [ None ↦ 0 | Some n ↦ number_of n ]

abbrev pub array_table : PlainGlobal → List ℤ
array_table g = padded (array_length g) g.values

abbrev pub IsArrayOf : Option (Bor Global) → PlainItem → Type 0
IsArrayOf r i = global_in r ≡ array_in i
