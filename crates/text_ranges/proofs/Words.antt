-- The property that a number fits 32 bits is one that the numbers of texts can have.
use Rattle.std.proofs.Common.{ℕ, ◌≤◌, pos, FitsSigned, w32, arith}
use Rattle.forec_base.specs.declared.operators.Unary.TheVariants as un
use Rattle.value_ranges.specs.Words.{fitting_words}
use Rattle.value_ranges.proofs.Numbers.{unary_fits}
use Rattle.text_ranges.proofs.Trees.{HasSmall}

small_fits : (k : ℕ) → k ≤ 200001 → FitsSigned w32 (pos k)
small_fits k few = record { sfits = omega arith }

pub small_words : HasSmall fitting_words
small_words = record { small = small_fits; minus = unary_fits un.Minus }
