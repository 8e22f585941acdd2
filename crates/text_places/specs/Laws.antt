-- The places in the kernel of a program that is spelled.
use Rattle.std.specs.Prelude.{ℕ, suc, ◌<◌, ◌^◌, List, length}
use Rattle.forec_tree.specs.declared.token.Token.{Token}
use Rattle.forec_tree.specs.LexedText.{IsLexed}
use Rattle.forec_tree.specs.SpelledPrograms.{IsSpelled}
use Rattle.forec_tree.specs.Terms.{Text}
use Rattle.text_kernel.specs.Kernels.{kernel_of}
use Rattle.log_ranges.specs.Places.{KernelPlaces}

-- whether the program breaks a rule or not
abbrev pub SpelledProgramsHavePlaces : Type 0
SpelledProgramsHavePlaces =
    (bytes : List ℕ) (tokens : List Token) (names : List (List ℕ)) (limit : ℕ) (program : Text) → suc (length bytes) < 2 ^ 32 →
    IsLexed bytes tokens names → IsSpelled limit program tokens → KernelPlaces (kernel_of program names)
