-- What makes a block or a code invalid, one for each rule.
use Rattle.std.proofs.Common.{◌≡◌, pos, true, false, Some, None, List, [], ◌∷◌, refl, arith}
use Rattle.std.proofs.lemmas.Option.{slice_get_within}
use Rattle.forec_base.specs.declared.Place.{Place}
use Rattle.forec_base.specs.declared.Policy.TheVariants as policy
use Rattle.forec_base.specs.declared.operators.Binary.TheVariants as binary
use Rattle.thread_code.specs.declared.instruction.Instruction.{Instruction}
use Rattle.thread_code.specs.declared.instruction.Instruction.TheVariants.{Push, Load, LoadAt, Clear, Table, Get, GetAt, PutAt, Binary, Jump, Unit as Count, Turn, Flag, Flagged, Fork, Again, Pause, End, Call, Return}
use Rattle.thread_code.specs.Plain.{PlainBlock, PlainCode}
use Rattle.thread_code.specs.Valid.{IsSound, thread_scope, function_scope, deep_within}
use Rattle.thread_code.proofs.WorkedCodes.{joined_code}

abbrev code : PlainCode
code = joined_code policy.All

abbrev at : Place
at = record { line = 3; column = 5 }

-- a block of two words, a counter and a flag, of thread 0, which has par 0; of its branch, thread 1; and of a function
abbrev block : List Instruction → PlainBlock
block steps = record { steps = steps; params = 0; words = 2; counters = 1; flags = 1 }

abbrev In_main : List Instruction → Type 0
In_main steps = IsSound (thread_scope code 0) (block steps)

abbrev In_branch : List Instruction → Type 0
In_branch steps = IsSound (thread_scope code 1) (block steps)

abbrev In_function : List Instruction → Type 0
In_function steps = IsSound (function_scope code) (block steps)

-- there is an instruction
empty : In_main [] → ⊥
empty s = let lt = slice_get_within s.depths 0 0 s.valid.start in absurd (omega (arith, lt, s.valid.long))

-- a block doesn't run past its end
past_end : In_main (Push (pos 0) ∷ []) → ⊥
past_end s =
    let f = s.valid.each 0 0 (Push (pos 0)) refl s.valid.start in
    let lt = slice_get_within s.depths 1 1 f in absurd (omega (arith, lt, s.valid.long))

-- each place has one depth
two_depths : In_main (Push (pos 0) ∷ Jump 0 ∷ []) → ⊥
two_depths s =
    let f = s.valid.each 0 0 (Push (pos 0)) refl s.valid.start in
    let g = s.valid.each 1 1 (Jump 0) refl f in
    let e = s.valid.start in
    let there = g.0 in cc

-- an operator finds both its sides
one_side : In_main (Push (pos 0) ∷ Binary binary.Add None ∷ End ∷ []) → ⊥
one_side s =
    let f = s.valid.each 0 0 (Push (pos 0)) refl s.valid.start in
    let g = s.valid.each 1 1 (Binary binary.Add None) refl f in absurd (omega (arith, g.1))

-- a jump back goes to an instruction that costs
free_loop : In_main (Jump 0 ∷ []) → ⊥
free_loop s =
    let f = s.valid.each 0 0 (Jump 0) refl s.valid.start in
    let e = f.1 (omega arith) in cc

free_count : In_main (Count 0 ∷ Jump 0 ∷ []) → ⊥
free_count s =
    let f = s.valid.each 0 0 (Count 0) refl s.valid.start in
    let g = s.valid.each 1 0 (Jump 0) refl f in
    let e = g.1 (omega arith) in cc

-- flags and branches lead forward
flag_back : In_main (Flagged 0 0 ∷ End ∷ []) → ⊥
flag_back s = let f = s.valid.each 0 0 (Flagged 0 0) refl s.valid.start in absurd (omega (arith, f.2.2))

again_back : In_main (Again 0 0 ∷ End ∷ []) → ⊥
again_back s = let f = s.valid.each 0 0 (Again 0 0) refl s.valid.start in absurd (omega (arith, f.1.2))

-- words, counters, flags, tables, variables and functions are there
word_past : In_main (Load 2 ∷ End ∷ []) → ⊥
word_past s = let f = s.valid.each 0 0 (Load 2) refl s.valid.start in absurd (omega (arith, f.0))

array_past : In_main (Push (pos 0) ∷ LoadAt 1 2 at ∷ End ∷ []) → ⊥
array_past s =
    let f = s.valid.each 0 0 (Push (pos 0)) refl s.valid.start in
    let g = s.valid.each 1 1 (LoadAt 1 2 at) refl f in absurd (omega (arith, g.0))

clear_past : In_main (Clear 1 2 ∷ End ∷ []) → ⊥
clear_past s = let f = s.valid.each 0 0 (Clear 1 2) refl s.valid.start in absurd (omega (arith, f.0))

counter_past : In_main (Turn 1 at ∷ End ∷ []) → ⊥
counter_past s = let f = s.valid.each 0 0 (Turn 1 at) refl s.valid.start in absurd (omega (arith, f.0))

flag_past : In_main (Flag 1 true ∷ End ∷ []) → ⊥
flag_past s = let f = s.valid.each 0 0 (Flag 1 true) refl s.valid.start in absurd (omega (arith, f.1))

no_table : In_main (Push (pos 0) ∷ Table 0 at ∷ End ∷ []) → ⊥
no_table s =
    let f = s.valid.each 0 0 (Push (pos 0)) refl s.valid.start in
    let g = s.valid.each 1 1 (Table 0 at) refl f in absurd (omega (arith, g.0))

not_used : In_main (Get 1 ∷ End ∷ []) → ⊥
not_used s =
    let f = s.valid.each 0 0 (Get 1) refl s.valid.start in
    let e = f.0 in cc

-- each element of a shared array is used
element_not_used : In_main (Push (pos 0) ∷ GetAt 0 2 at ∷ End ∷ []) → ⊥
element_not_used s =
    let f = s.valid.each 0 0 (Push (pos 0)) refl s.valid.start in
    let g = s.valid.each 1 1 (GetAt 0 2 at) refl f in
    let e = g.0 in cc

set_element_not_used : In_main (Push (pos 0) ∷ Push (pos 0) ∷ PutAt 0 2 at ∷ End ∷ []) → ⊥
set_element_not_used s =
    let f = s.valid.each 0 0 (Push (pos 0)) refl s.valid.start in
    let g = s.valid.each 1 1 (Push (pos 0)) refl f in
    let h = s.valid.each 2 2 (PutAt 0 2 at) refl g in
    let e = h.0 in cc

-- a store into an element finds its index and its number
one_number : In_main (Push (pos 0) ∷ PutAt 0 1 at ∷ End ∷ []) → ⊥
one_number s =
    let f = s.valid.each 0 0 (Push (pos 0)) refl s.valid.start in
    let g = s.valid.each 1 1 (PutAt 0 1 at) refl f in absurd (omega (arith, g.1))

no_function : In_main (Push (pos 0) ∷ Push (pos 0) ∷ Call 1 ∷ End ∷ []) → ⊥
no_function s =
    let f = s.valid.each 0 0 (Push (pos 0)) refl s.valid.start in
    let g = s.valid.each 1 1 (Push (pos 0)) refl f in
    let h = s.valid.each 2 2 (Call 1) refl g in absurd (omega (arith, h.0))

-- a call finds its arguments
few_arguments : In_main (Push (pos 0) ∷ Call 0 ∷ End ∷ []) → ⊥
few_arguments s =
    let f = s.valid.each 0 0 (Push (pos 0)) refl s.valid.start in
    let g = s.valid.each 1 1 (Call 0) refl f in absurd (omega (arith, g.1))

-- a quotient has a place, a sum has none
placeless : In_main (Push (pos 0) ∷ Push (pos 0) ∷ Binary binary.Div None ∷ End ∷ []) → ⊥
placeless s =
    let f = s.valid.each 0 0 (Push (pos 0)) refl s.valid.start in
    let g = s.valid.each 1 1 (Push (pos 0)) refl f in
    let h = s.valid.each 2 2 (Binary binary.Div None) refl g in
    let e = h.0 in cc

placed : In_main (Push (pos 0) ∷ Push (pos 0) ∷ Binary binary.Add (Some at) ∷ End ∷ []) → ⊥
placed s =
    let f = s.valid.each 0 0 (Push (pos 0)) refl s.valid.start in
    let g = s.valid.each 1 1 (Push (pos 0)) refl f in
    let h = s.valid.each 2 2 (Binary binary.Add (Some at)) refl g in
    let e = h.0 in cc

-- a par is one of the thread's own, and has branches
foreign_par : In_branch (Fork 0 1 ∷ End ∷ []) → ⊥
foreign_par s =
    let f = s.valid.each 0 0 (Fork 0 1) refl s.valid.start in
    let mine = f.0.is in
    let others = f.0.parent 1 refl in cc

no_par : In_main (Fork 1 1 ∷ End ∷ []) → ⊥
no_par s = let f = s.valid.each 0 0 (Fork 1 1) refl s.valid.start in f.0.some refl

-- functions return and threads end, and functions have no variables, flags and pauses
function_ends : In_function (End ∷ []) → ⊥
function_ends s = let f = s.valid.each 0 0 End refl s.valid.start in cc

function_gets : In_function (Get 0 ∷ Return ∷ []) → ⊥
function_gets s =
    let f = s.valid.each 0 0 (Get 0) refl s.valid.start in
    let e = f.0 in cc

function_gets_element : In_function (Push (pos 0) ∷ GetAt 0 1 at ∷ Return ∷ []) → ⊥
function_gets_element s =
    let f = s.valid.each 0 0 (Push (pos 0)) refl s.valid.start in
    let g = s.valid.each 1 1 (GetAt 0 1 at) refl f in
    let e = g.0 in cc

function_pauses : In_function (Pause 0 ∷ []) → ⊥
function_pauses s =
    let f = s.valid.each 0 0 (Pause 0) refl s.valid.start in
    let e = f.0 in cc

function_flags : In_function (Flag 0 true ∷ Push (pos 0) ∷ Return ∷ []) → ⊥
function_flags s =
    let f = s.valid.each 0 0 (Flag 0 true) refl s.valid.start in
    let e = f.0 in cc

function_forks : In_function (Fork 0 1 ∷ Push (pos 0) ∷ Return ∷ []) → ⊥
function_forks s =
    let f = s.valid.each 0 0 (Fork 0 1) refl s.valid.start in
    let e = f.0.is in cc

thread_returns : In_main (Push (pos 0) ∷ Return ∷ []) → ⊥
thread_returns s =
    let f = s.valid.each 0 0 (Push (pos 0)) refl s.valid.start in
    let g = s.valid.each 1 1 Return refl f in
    let e = g.0 in cc

-- no function reaches itself, alone or through another
calls_itself : deep_within (block (Call 0 ∷ Return ∷ []) ∷ []) 1 0 ≡ false
calls_itself = refl

calls_each_other : deep_within (block (Call 1 ∷ Return ∷ []) ∷ block (Call 0 ∷ Return ∷ []) ∷ []) 2 0 ≡ false
calls_each_other = refl
