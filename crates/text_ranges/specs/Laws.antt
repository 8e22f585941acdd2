-- The numbers in the kernel of a program that is spelled, and those that its runs give.
use Rattle.std.specs.Prelude.{ℕ, ℤ, List}
use Rattle.std.specs.List.{AllByRecursion}
use Rattle.forec_tree.specs.declared.token.Token.{Token}
use Rattle.forec_tree.specs.LexedText.{IsLexed}
use Rattle.forec_tree.specs.SpelledPrograms.{IsSpelled}
use Rattle.forec_tree.specs.Terms.{Text}
use Rattle.forec_kernel.specs.Ticks.{run_of}
use Rattle.text_kernel.specs.Kernels.{kernel_of}
use Rattle.value_ranges.specs.Words.{AreWords, KernelWords}
use Rattle.value_ranges.specs.Laws.{TickWords}

-- whether the program breaks a rule or not
abbrev pub SpelledProgramsHaveWords : Type 0
SpelledProgramsHaveWords =
    (bytes : List ℕ) (tokens : List Token) (names : List (List ℕ)) (limit : ℕ) (program : Text) → IsLexed bytes tokens names → IsSpelled limit program tokens →
    KernelWords (kernel_of program names)

-- each tick of each run
abbrev pub SpelledRunsFit : Type 0
SpelledRunsFit =
    (bytes : List ℕ) (tokens : List Token) (names : List (List ℕ)) (limit : ℕ) (program : Text) → IsLexed bytes tokens names → IsSpelled limit program tokens →
    (budget : ℕ) (rows : List (List ℤ)) → AllByRecursion AreWords rows → AllByRecursion (TickWords (kernel_of program names)) (run_of (kernel_of program names) budget rows)
