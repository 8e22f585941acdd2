-- Values that stand at a place.
use Rattle.std.specs.Prelude.{ℕ, ℤ, ◌≡◌, List, [], ◌++◌, cond, drop, codes, FitsSigned}
use Rattle.std.specs.Fmt.{signed_decimal}
use Rattle.std.specs.Int.{w32}
use Rattle.forec_kernel.specs.declared.shape.VarCopy.{VarCopy}
use Rattle.forec_kernel.specs.Solo.{unmarked_copies}
use Rattle.exchange_meaning.specs.LogLines.{spaced_numbers, marked_numbers}
use Rattle.exchange_meaning.specs.OfShape.{AreInts, HaveInts}
use Rattle.log_text.specs.Pieces.{StandsTo, EndsDigits}

-- a space and this number stand there, and no digit comes next
pub record ReadsValue (bytes : List ℕ) (at : ℕ) (value : ℤ) (end : ℕ) : Type 0 where
  pub int : FitsSigned w32 value
  pub stands : StandsTo bytes at (codes " " ++ signed_decimal value) end
  pub ends : EndsDigits (drop end bytes)

pub record ReadsArgs (bytes : List ℕ) (at : ℕ) (args : List ℤ) (end : ℕ) : Type 0 where
  pub ints : AreInts args
  pub stands : StandsTo bytes at (spaced_numbers args) end

-- the copies have these values, and no marks
pub record ReadsValues (bytes : List ℕ) (at : ℕ) (copies : List VarCopy) (end : ℕ) : Type 0 where
  pub values : List ℤ
  pub are : copies ≡ unmarked_copies values
  pub ints : AreInts values
  pub stands : StandsTo bytes at (spaced_numbers values) end

-- a star where the copy is marked
abbrev pub star_of : VarCopy → List ℕ
star_of c = cond c.modified (codes "*") []

-- a space and this copy stand there
pub record ReadsCopy (bytes : List ℕ) (at : ℕ) (copy : VarCopy) (end : ℕ) : Type 0 where
  pub int : FitsSigned w32 copy.value
  pub stands : StandsTo bytes at ((codes " " ++ signed_decimal copy.value) ++ star_of copy) end

pub record ReadsCopies (bytes : List ℕ) (at : ℕ) (copies : List VarCopy) (end : ℕ) : Type 0 where
  pub ints : HaveInts copies
  pub stands : StandsTo bytes at (marked_numbers copies) end
