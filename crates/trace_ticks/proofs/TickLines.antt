-- The lines that were put for a tick are those of the tick.
use Rattle.std.proofs.Common.{◌≡◌, ℕ, ℤ, List, length, refl, sym, ap, subst, ◌∙◌}
use Rattle.std.proofs.lemmas.List.{length-map}
use Rattle.forec_kernel.specs.declared.shape.Outcome.{Outcome}
use Rattle.forec_kernel.specs.Shapes.{PlainShape, PlainKernel}
use Rattle.forec_kernel.specs.Ticks.{Tick}
use Rattle.tick_jobs.specs.Outcomes.{HasOutputs}
use Rattle.trace_ticks.specs.KernelNames.{inputs_of, output_names}
use Rattle.trace_ticks.specs.Formats.{names_in, format_after}
use Rattle.trace_ticks.specs.Report.{outcome_lines, tick_lines}
use Rattle.trace_ticks.specs.WaitingRoom.{AddsLines}
use Rattle.trace_ticks.specs.declared.format.Format.{Format}
use Rattle.trace_ticks.specs.declared.format.Format.TheVariants as format
use Rattle.trace_ticks.specs.declared.waiting.Waiting.{Waiting}

pub put_tick_lines : (how : Format) (budget row : ℕ) (t : Tick) (o : Outcome) (values : List ℤ) (old new : Waiting) →
    o ≡ t.outcome → (HasOutputs o → values ≡ t.outputs) →
    ((outputs : List ℤ) → (HasOutputs o → outputs ≡ values) → AddsLines old new (outcome_lines how budget row o outputs)) → AddsLines old new (tick_lines how budget row t)
put_tick_lines how budget row t o values old new went outputs adds =
    subst (AddsLines old new) (ap (λ q. outcome_lines how budget row q t.outputs) went) (adds t.outputs (λ has. sym (outputs has)))

-- a tick changes no name
pub names_after : (how : Format) (values : List ℤ) → names_in (format_after how values) ≡ names_in how
names_after (format.Report names) values = refl
names_after (format.Wave names olds) values = refl

-- as many names as outputs, and as inputs
pub names_each : (k : PlainKernel) → length (output_names k) ≡ length k.shape.outputs
names_each k = length-map k.shape.outputs _

pub inputs_each : (s : PlainShape) → length (inputs_of s) ≡ length s.inputs
inputs_each s = length-map s.inputs _
