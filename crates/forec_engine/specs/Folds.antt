-- The kernel that a command is done with: that of its text, whose constants are folded where that is asked for.
use Rattle.std.specs.Prelude.{Bool, true, false}
use Rattle.forec_kernel.specs.Shapes.{PlainKernel}
use Rattle.fold_laws.specs.Folding.{folded_kernel}

abbrev pub kernel_for : Bool → PlainKernel → PlainKernel
kernel_for true k = folded_kernel k
kernel_for false k = k
