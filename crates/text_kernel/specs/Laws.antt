-- The kernel of an accepted program is one.
use Rattle.std.specs.Prelude.{ℕ, List}
use Rattle.forec_tree.specs.declared.token.Token.{Token}
use Rattle.forec_tree.specs.Terms.{Text}
use Rattle.forec_tree.specs.SpelledPrograms.{IsSpelled}
use Rattle.forec_kernel.specs.WellFormed.{WellFormed}
use Rattle.forec_check.specs.Faultless.{Faultless}
use Rattle.text_kernel.specs.Kernels.{kernel_of, main_id}
use Rattle.text_kernel.specs.Instances.{ThreadsOfTree, UsesOfTree}
use Rattle.text_kernel.specs.Limits.{WithinLimits}

abbrev pub AcceptedProgramsHaveKernels : Type 0
AcceptedProgramsHaveKernels = (text : Text) (names : List (List ℕ)) → Faultless text names → WithinLimits (kernel_of text names) → WellFormed (kernel_of text names)

abbrev pub ThreadsAreInstances : Type 0
ThreadsAreInstances = (text : Text) (names : List (List ℕ)) → ThreadsOfTree text (main_id text names) (kernel_of text names)

abbrev pub UsesAreThoseOfTheTree : Type 0
UsesAreThoseOfTheTree =
    (text : Text) (names : List (List ℕ)) (limit : ℕ) (tokens : List Token) → IsSpelled limit text tokens → Faultless text names → UsesOfTree text (main_id text names) (kernel_of text names)
