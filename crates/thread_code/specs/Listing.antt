-- The listing of a code: its instructions as lines of text.
use Rattle.std.specs.Prelude.{ℕ, ◌+◌, Bool, true, false, Some, None, List, [], ◌∷◌, ◌++◌, codes, decimal}
use Rattle.std.specs.Fmt.{signed_decimal}
use Rattle.forec_base.specs.declared.Place.{Place}
use Rattle.forec_base.specs.declared.operators.Unary.TheVariants as unary
use Rattle.forec_base.specs.declared.operators.Unary as unary_type
use Rattle.forec_base.specs.declared.operators.Binary.TheVariants as binary
use Rattle.forec_base.specs.declared.operators.Binary as binary_type
use Rattle.thread_code.specs.declared.instruction.Instruction.{Instruction}
use Rattle.thread_code.specs.declared.instruction.Instruction.TheVariants.{Push, Quiet, Load, Store, LoadAt, StoreAt, Clear, Table, Get, Put, GetAt, PutAt, Unary, Binary, Truth, Zero, NonZero, Jump, Unit as Count, Fill, Turn, Flag, Keep, Flagged, Fork, Again, Pause, End, Call, Return}
use Rattle.thread_code.specs.declared.printing.Operands.{Operands}
use Rattle.thread_code.specs.declared.printing.Operands.TheVariants as operands
use Rattle.thread_code.specs.Plain.{PlainBlock, PlainCode}

abbrev pub unary_name : unary_type.Unary → List ℕ
unary_name unary.Minus = codes "minus"
unary_name unary.Invert = codes "invert"
unary_name unary.Not = codes "not"

abbrev pub binary_name : binary_type.Binary → List ℕ
binary_name binary.Add = codes "add"
binary_name binary.Sub = codes "sub"
binary_name binary.Mul = codes "mul"
binary_name binary.Div = codes "div"
binary_name binary.Rem = codes "rem"
binary_name binary.Shl = codes "shl"
binary_name binary.Shr = codes "shr"
binary_name binary.Lt = codes "lt"
binary_name binary.Le = codes "le"
binary_name binary.Gt = codes "gt"
binary_name binary.Ge = codes "ge"
binary_name binary.Eq = codes "eq"
binary_name binary.Ne = codes "ne"
binary_name binary.BitAnd = codes "and"
binary_name binary.BitXor = codes "xor"
binary_name binary.BitOr = codes "or"

abbrev pub flag_value : Bool → ℕ
flag_value false = 0
flag_value true = 1

-- a word with one operand, and with two
abbrev pub one_operand : List ℕ → ℕ → List ℕ
one_operand word a = word ++ codes " " ++ decimal a

abbrev pub two_operands : List ℕ → ℕ → ℕ → List ℕ
two_operands word a b = one_operand word a ++ codes " " ++ decimal b

-- an instruction that can trap ends with the trap's place
abbrev pub trapping : List ℕ → Place → List ℕ
trapping text place = text ++ codes " @" ++ decimal place.line ++ codes ":" ++ decimal place.column

-- a word and what stands after it
abbrev pub line_text : List ℕ → Operands → List ℕ
line_text word operands.None = word
line_text word (operands.Number n) = word ++ codes " " ++ signed_decimal n
line_text word (operands.One a) = one_operand word a
line_text word (operands.Two a b) = two_operands word a b
line_text word (operands.OneAt a place) = trapping (one_operand word a) place
line_text word (operands.TwoAt a b place) = trapping (two_operands word a b) place
line_text word (operands.Unary op) = word ++ codes " " ++ unary_name op
line_text word (operands.Binary op None) = word ++ codes " " ++ binary_name op
line_text word (operands.Binary op (Some place)) = trapping (word ++ codes " " ++ binary_name op) place

abbrev pub instruction_text : Instruction → List ℕ
instruction_text (Push n) = codes "push " ++ signed_decimal n
instruction_text (Quiet n) = codes "quiet " ++ signed_decimal n
instruction_text (Load x) = one_operand (codes "load") x
instruction_text (Store x) = one_operand (codes "store") x
instruction_text (LoadAt x n place) = trapping (two_operands (codes "loadat") x n) place
instruction_text (StoreAt x n place) = trapping (two_operands (codes "storeat") x n) place
instruction_text (Clear x n) = two_operands (codes "clear") x n
instruction_text (Table t place) = trapping (one_operand (codes "table") t) place
instruction_text (Get v) = one_operand (codes "get") v
instruction_text (Put v) = one_operand (codes "put") v
instruction_text (GetAt v n place) = trapping (two_operands (codes "getat") v n) place
instruction_text (PutAt v n place) = trapping (two_operands (codes "putat") v n) place
instruction_text (Unary op) = codes "unary " ++ unary_name op
instruction_text (Binary op None) = codes "binary " ++ binary_name op
instruction_text (Binary op (Some place)) = trapping (codes "binary " ++ binary_name op) place
instruction_text Truth = codes "truth"
instruction_text (Zero to) = one_operand (codes "zero") to
instruction_text (NonZero to) = one_operand (codes "nonzero") to
instruction_text (Jump to) = one_operand (codes "jump") to
instruction_text (Count n) = one_operand (codes "unit") n
instruction_text (Fill w n) = two_operands (codes "fill") w n
instruction_text (Turn w place) = trapping (one_operand (codes "turn") w) place
instruction_text (Flag f value) = two_operands (codes "flag") f (flag_value value)
instruction_text (Keep f) = one_operand (codes "keep") f
instruction_text (Flagged f to) = two_operands (codes "flagged") f to
instruction_text (Fork j to) = two_operands (codes "fork") j to
instruction_text (Again j to) = two_operands (codes "again") j to
instruction_text (Pause to) = one_operand (codes "pause") to
instruction_text End = codes "end"
instruction_text (Call f) = one_operand (codes "call") f
instruction_text Return = codes "return"

-- one line for each instruction, from an address on
abbrev pub steps_text : ℕ → List Instruction → List ℕ
steps_text p [] = []
steps_text p (i ∷ is) = (decimal p ++ codes " " ++ instruction_text i ++ codes "\n") ++ steps_text (p + 1) is

-- a line for each block, from a number on, and its instructions under it
abbrev pub blocks_text : List ℕ → ℕ → List PlainBlock → List ℕ
blocks_text word n [] = []
blocks_text word n (b ∷ bs) = (one_operand word n ++ codes "\n") ++ steps_text 0 b.steps ++ blocks_text word (n + 1) bs

-- the threads in order, then the functions
abbrev pub listing_of : PlainCode → List ℕ
listing_of c = blocks_text (codes "thread") 0 c.threads ++ blocks_text (codes "function") 0 c.functions
