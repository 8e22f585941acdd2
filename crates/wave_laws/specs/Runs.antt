-- A run as a dump.
use Rattle.std.specs.Prelude.{◌≤◌, ℕ, List, length}
use Rattle.std.specs.List.{AllByRecursion}
use Rattle.forec_base.specs.declared.limits.TheConstants.{MAX_OUTPUTS}
use Rattle.forec_kernel.specs.Shapes.{PlainKernel}
use Rattle.trace_ticks.specs.KernelNames.{output_names}
use Rattle.trace_ticks.specs.OneRun.{run_values, run_words}
use Rattle.value_ranges.specs.Words.{KernelWords}
use Rattle.wave_dump.specs.Wave.{PlainDump, IsWaveName}

-- a kernel whose numbers fit 32 bits, with at most 64 outputs whose names a dump may have
pub record CanDump (k : PlainKernel) : Type 0 where
  pub words : KernelWords k
  pub names : AllByRecursion IsWaveName (output_names k)
  pub few : length (output_names k) ≤ MAX_OUTPUTS

-- the outputs of a run over these bytes, in each tick that has any, and its last line
abbrev pub run_dump : (limit : ℕ) → PlainKernel → ℕ → List ℕ → PlainDump
run_dump limit k budget bytes = record { names = output_names k; ticks = run_values limit k budget bytes; ending = run_words limit k budget bytes }
