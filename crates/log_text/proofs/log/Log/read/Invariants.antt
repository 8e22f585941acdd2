use Rattle.std.proofs.Common.{◌≤◌, ◌-◌, length}
use Rattle.forec_kernel.specs.Shapes.{plain_shape}
use Rattle.log_text.specs.Sections.{IsOn}
use Rattle.log_text.proofs.ReadLemmas.{Done}
use Rattle.log_text.proofs.log.Log.read.Given as goal

abbrev pub invariant-loop-t : goal.invariant-loop-t
invariant-loop-t l = record {
  on : IsOn l.bytes.items l.spot;
  done : Done (plain_shape l.shape) l.bytes.items l.t l.sections.items l.spot;
  bound : l.t - 1 ≤ length l.shape.threads.items - 1;
}
