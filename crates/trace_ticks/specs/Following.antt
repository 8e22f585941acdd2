-- What runs a code follows.
use Rattle.std.specs.Prelude.{List}
use Rattle.forec_kernel.specs.Composed.{TickInput}
use Rattle.forec_kernel.specs.Shapes.{PlainKernel}
use Rattle.forec_kernel.specs.WellFormed.{WellFormed}
use Rattle.thread_code.specs.Alone.{Stands}
use Rattle.thread_code.specs.Plain.{PlainCode}
use Rattle.trace_ticks.specs.declared.status.Status.{Status}

-- a code stands for a kernel, and these ticks were run
pub record CodeFollows (c : PlainCode) (Ran : List TickInput → Type 0) (k : PlainKernel) (turns : List TickInput) : Type 0 where
  pub formed : WellFormed k
  pub stands : Stands c k
  pub ran : Ran turns

-- this was done with each kernel for which a code stands
abbrev pub DidForEach : PlainCode → (PlainKernel → Status → Type 0) → Status → Type 0
DidForEach c Did end = (k : PlainKernel) → WellFormed k → Stands c k → Did k end
