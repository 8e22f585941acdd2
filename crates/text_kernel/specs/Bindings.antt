-- What a name becomes in the kernel.
use Rattle.std.specs.Prelude.{ℕ, zero, suc, ◌+◌, ◌==◌, ℤ, pos, Bool, true, false, cond, Option, Some, None, List, [], ◌∷◌, ◌++◌}
use Rattle.std.specs.Int.{cast_unsigned, w32}
use Rattle.forec_tree.specs.declared.tree.Name.{Name}
use Rattle.forec_tree.specs.declared.tree.Number.{Number}
use Rattle.forec_tree.specs.Terms.{Declared, Text, PlainGlobal, PlainItem, IsGlobal, IsFunction}
use Rattle.forec_tree.specs.Rules.{is_constant}
use Rattle.forec_tree.specs.Scopes.{stated_length}
use Rattle.forec_tree.specs.Variables.{elements, width}
use Rattle.text_kernel.specs.declared.names.Slot.{Slot}
use Rattle.text_kernel.specs.declared.names.Stands.{Stands}
use Rattle.text_kernel.specs.declared.names.Stands.TheVariants as st

-- the number of a length or a bound
abbrev pub number_of : Number → ℕ
number_of n = cast_unsigned w32 n.value

abbrev pub size_of : Option Number → Option ℕ
size_of None = None
size_of (Some n) = Some (number_of n)

abbrev pub slots_of : Option Number → ℕ
slots_of None = 1
slots_of (Some n) = number_of n

abbrev pub slot_id : Slot → ℕ
slot_id s = s.id

-- the names of scopes, inner ones last
abbrev pub find_slot : ℕ → Option Slot → List Slot → Option Slot
find_slot id found [] = found
find_slot id found (s ∷ rest) = find_slot id (cond (s.id == id) (Some s) found) rest

abbrev pub local_slot : ℕ → Declared → Slot
local_slot slot l = record { id = l.name.id; slot = slot; size = size_of l.length }

abbrev pub with_local_slots : List Slot → ℕ → List Declared → List Slot
with_local_slots s slot [] = s
with_local_slots s slot (l ∷ rest) = with_local_slots (s ++ local_slot slot l ∷ []) (slot + slots_of l.length) rest

abbrev pub params_at : ℕ → List Name → List Slot
params_at slot [] = []
params_at slot (p ∷ rest) = record { id = p.id; slot = slot; size = None } ∷ params_at (suc slot) rest

-- how many variables an item declares
abbrev pub variables_in : PlainItem → ℕ
variables_in (IsGlobal g) = cond (is_constant g.kind) 0 (width g)
variables_in (IsFunction f) = 0

-- globals by number: constant arrays and int functions each in order of declaration
abbrev pub is_table : PlainItem → Bool
is_table (IsGlobal g) = cond (is_constant g.kind) (elim g.length [ None ↦ false | Some n ↦ true ]) false
is_table (IsFunction f) = false

abbrev pub is_int_function : PlainItem → Bool
is_int_function (IsGlobal g) = false
is_int_function (IsFunction f) = f.gives

abbrev pub item_id : PlainItem → ℕ
item_id (IsGlobal g) = g.name.id
item_id (IsFunction f) = f.name.id

-- how many items of a sort stand before the one of a name
abbrev pub number_among : (PlainItem → Bool) → ℕ → Text → ℕ
number_among sort id [] = 0
number_among sort id (i ∷ rest) = cond (item_id i == id) 0 (cond (sort i) (suc (number_among sort id rest)) (number_among sort id rest))

-- the number of the first variable of a name
abbrev pub variable_number : ℕ → Text → ℕ
variable_number id [] = 0
variable_number id (i ∷ rest) = cond (item_id i == id) 0 (variables_in i + variable_number id rest)

abbrev pub first_value : List Number → ℤ
first_value [] = pos 0
first_value (n ∷ rest) = n.value

abbrev pub nth_value : ℕ → List Number → ℤ
nth_value i [] = pos 0
nth_value zero (n ∷ rest) = n.value
nth_value (suc i) (n ∷ rest) = nth_value i rest

abbrev pub first_number : List ℤ → ℤ
first_number [] = pos 0
first_number (n ∷ rest) = n

abbrev pub slot_stands : Slot → Stands
slot_stands s = elim s.size [ None ↦ st.AtSlot s.slot | Some n ↦ st.AtSlots s.slot n ]

abbrev pub constant_stands : Text → PlainGlobal → Stands
constant_stands text g = elim g.length [ None ↦ st.AsNumber (first_value g.values) | Some n ↦ st.AsTable (number_among is_table g.name.id text) ]

-- an array stands for its elements, which are variables in a row
abbrev pub variable_stands : Text → PlainGlobal → Stands
variable_stands text g =
    let first = variable_number g.name.id text in elim (stated_length g) [ None ↦ st.AsVariable first | Some n ↦ st.AsVariables first (elements n) ]

abbrev pub item_stands : Text → Option PlainItem → Stands
item_stands text None = st.AsNothing
item_stands text (Some (IsFunction f)) = st.AsNothing
item_stands text (Some (IsGlobal g)) = cond (is_constant g.kind) (constant_stands text g) (variable_stands text g)
