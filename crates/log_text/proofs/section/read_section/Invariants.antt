use Rattle.std.proofs.Common.{◌≡◌, ◌+◌, ◌*◌, ◌<◌, length}
use Rattle.forec_kernel.specs.Shapes.{PlainShape}
use Rattle.log_text.specs.Stages.{AtHead}
use Rattle.log_text.specs.Sections.{Expects, IsOn}
use Rattle.log_text.proofs.SectionLemmas.{Going}
use Rattle.log_text.proofs.section.read_section.Given as goal

abbrev pub invariant-loop-pair : goal.invariant-loop-pair
invariant-loop-pair l = record {
  on : IsOn l.bytes l.spot;
  lines : l.spot.line ≡ l.fn.from.line + 1 + 2 * l._pair;
  going : (s : PlainShape) → Expects s l.thread l.bytes l.fn.from l.fn.packet (AtHead l.thread) → l.thread < length s.threads → Going s l.thread l.bytes l.fn.from.at l.start l.jobs l._pair l.spot l.packet;
}
