-- The lines of a report. Numbers are decimal without leading zeros, and each line ends with byte 10.
use Rattle.std.specs.Prelude.{ℕ, ◌+◌, List, [], ◌∷◌, ◌++◌, ℤ, length, codes, decimal}
use Rattle.std.specs.Fmt.{signed_decimal}
use Rattle.forec_base.specs.declared.Place.{Place}
use Rattle.forec_base.specs.declared.Trap.{Trap}
use Rattle.forec_base.specs.declared.Trap.TheVariants as trap
use Rattle.trace_rows.specs.declared.fault.RowFault.{RowFault}
use Rattle.trace_rows.specs.declared.fault.RowFault.TheVariants as fault

-- ---- the line of a tick

-- ` name=value` for each output
abbrev pub pairs : List (List ℕ) → List ℤ → List ℕ
pairs [] values = []
pairs (name ∷ names) [] = []
pairs (name ∷ names) (value ∷ values) = codes " " ++ name ++ codes "=" ++ signed_decimal value ++ pairs names values

-- tick n paused or ended, and these are the outputs, in order of declaration
abbrev pub tick_line : ℕ → List (List ℕ) → List ℤ → List ℕ
tick_line n names values = codes "tick " ++ decimal n ++ pairs names values ++ codes "\n"

-- room for these names, each with a value of at most 11 bytes
abbrev pub pairs_room : List (List ℕ) → ℕ
pairs_room [] = 0
pairs_room (name ∷ names) = (length name + 13) + pairs_room names

-- room for the line of a tick with these outputs
abbrev pub tick_room : List (List ℕ) → ℕ
tick_room names = 26 + pairs_room names

-- ---- the last line, without its byte 10

-- the program ended in tick n
abbrev pub end_words : ℕ → List ℕ
end_words n = codes "end " ++ decimal n

abbrev pub trap_word : Trap → List ℕ
trap_word trap.Divide = codes " divide"
trap_word trap.Index = codes " index"
trap_word trap.Turns = codes " turns"

-- tick n traps at a place
abbrev pub trap_words : ℕ → Place → Trap → List ℕ
trap_words n place trap =
    codes "trap " ++ decimal n ++ codes " " ++ decimal place.line ++ codes ":" ++ decimal place.column ++ trap_word trap

-- the units of tick n pass the budget
abbrev pub over_words : ℕ → ℕ → List ℕ
over_words n budget = codes "over " ++ decimal n ++ codes " budget " ++ decimal budget

-- the trace ended after so many rows, and the program goes on
abbrev pub rows_words : ℕ → List ℕ
rows_words rows = codes "rows " ++ decimal rows

-- what a line is that is no row; the faults that no line has are no words
abbrev pub fault_word : RowFault → List ℕ
fault_word fault.Bad = codes " bad"
fault_word fault.Long = codes " long"
fault_word fault.Many = codes " many"
fault_word fault.ReadFault = []
fault_word fault.OutOfMemory = []

-- line n of the trace is no row; the header is line 0
abbrev pub row_words : ℕ → RowFault → List ℕ
row_words n f = codes "row " ++ decimal n ++ fault_word f
