-- Kernels whose numbers fit 32 bits.
use Rattle.std.specs.Prelude.{ℤ, List, FitsSigned}
use Rattle.std.specs.Int.{w32}
use Rattle.std.specs.List.{AllByRecursion}
use Rattle.forec_kernel.specs.declared.shape.Variable.{Variable}
use Rattle.forec_kernel.specs.Shapes.{PlainKernel}
use Rattle.value_ranges.specs.Properties.{Property, StmtHolds}

abbrev pub AreWords : List ℤ → Type 0
AreWords = AllByRecursion (FitsSigned w32)

-- ---- the numbers that stand in terms

-- each number fits, and a place may be any
abbrev pub fitting_words : Property
fitting_words = record { OfNumber = FitsSigned w32; OfPlace = λ place. Unit {0} }

-- ---- a kernel

-- each number in a body, each entry of a table, and the start value of each variable
pub record KernelWords (k : PlainKernel) : Type 0 where
  pub threads : AllByRecursion (StmtHolds fitting_words) k.threads
  pub functions : AllByRecursion (StmtHolds fitting_words) k.functions
  pub tables : AllByRecursion AreWords k.shape.tables
  pub starts : AllByRecursion (λ (v : Variable). FitsSigned w32 v.start) k.shape.variables
