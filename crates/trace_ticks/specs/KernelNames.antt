-- The names of a kernel's inputs and outputs.
use Rattle.std.specs.Prelude.{◌≤◌, ℕ, IsTrue, List, [], map, length, get_or}
use Rattle.forec_base.specs.declared.limits.TheConstants.{MAX_INPUTS, MAX_OUTPUTS}
use Rattle.forec_kernel.specs.Shapes.{PlainShape, PlainKernel}
use Rattle.forec_kernel.specs.WellFormed.{all_below}
use Rattle.trace_ticks.specs.Formats.{format_for}
use Rattle.trace_ticks.specs.declared.format.Format.{Format}
use Rattle.trace_ticks.specs.declared.format.Telling.{Telling}

-- the names of these variables
abbrev pub names_at : List (List ℕ) → List ℕ → List (List ℕ)
names_at names = map (λ v. get_or names v [])

-- the inputs and outputs have names, and there are at most 64 of each
pub record IsNamed (s : PlainShape) : Type 0 where
  pub inputs_named : IsTrue (all_below (length s.names) s.inputs)
  pub outputs_named : IsTrue (all_below (length s.names) s.outputs)
  pub few_inputs : length s.inputs ≤ MAX_INPUTS
  pub few_outputs : length s.outputs ≤ MAX_OUTPUTS

-- the names of the inputs, and of the outputs, in order of declaration
abbrev pub inputs_of : PlainShape → List (List ℕ)
inputs_of s = names_at s.names s.inputs

abbrev pub outputs_of : PlainShape → List (List ℕ)
outputs_of s = names_at s.names s.outputs

abbrev pub input_names : PlainKernel → List (List ℕ)
input_names k = inputs_of k.shape

abbrev pub output_names : PlainKernel → List (List ℕ)
output_names k = outputs_of k.shape

-- how a run of a kernel is written that tells this, before tick 1
abbrev pub run_format : Telling → PlainKernel → Format
run_format tells k = format_for tells (output_names k)
