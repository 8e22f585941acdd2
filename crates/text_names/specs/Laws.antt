-- The names in the kernel of a program that is spelled, whether it breaks a rule or not.
use Rattle.std.specs.Prelude.{ℕ, List}
use Rattle.std.specs.List.{AllByRecursion}
use Rattle.forec_tree.specs.declared.token.Token.{Token}
use Rattle.forec_tree.specs.LexedText.{IsLexed}
use Rattle.forec_tree.specs.SpelledPrograms.{IsSpelled}
use Rattle.forec_tree.specs.Terms.{Text}
use Rattle.text_kernel.specs.Kernels.{kernel_of}
use Rattle.text_names.specs.Names.{IsPlainName, IsSafeName, HasNames, names_by_number}

abbrev pub SpelledProgramsHaveNames : Type 0
SpelledProgramsHaveNames =
    (bytes : List ℕ) (tokens : List Token) (names : List (List ℕ)) (limit : ℕ) (program : Text) → IsLexed bytes tokens names → IsSpelled limit program tokens →
    AllByRecursion IsPlainName (kernel_of program names).shape.names

abbrev pub SpelledVariablesAreNamed : Type 0
SpelledVariablesAreNamed =
    (bytes : List ℕ) (tokens : List Token) (names : List (List ℕ)) (limit : ℕ) (program : Text) → IsLexed bytes tokens names → IsSpelled limit program tokens →
    HasNames (kernel_of program names).shape

abbrev pub SpelledOutputsAreSafe : Type 0
SpelledOutputsAreSafe =
    (bytes : List ℕ) (tokens : List Token) (names : List (List ℕ)) (limit : ℕ) (program : Text) → IsLexed bytes tokens names → IsSpelled limit program tokens →
    AllByRecursion IsSafeName (names_by_number (kernel_of program names).shape.names (kernel_of program names).shape.outputs)
