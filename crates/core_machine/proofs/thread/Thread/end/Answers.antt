use Rattle.std.proofs.Common.{refl}
use Rattle.thread_code.specs.Plain.{plain_code}
use Rattle.core_machine.specs.declared.thread.Event.TheVariants as event
use Rattle.core_machine.specs.RunParts.{comes}
use Rattle.core_machine.proofs.Outer.{end_moved}
use Rattle.core_machine.proofs.thread.Thread.end.Goals as goal

pub returns : goal.returns
returns c = record {
  moved = end_moved (plain_code c.args.code.now) c.args.self.now c.requires.loaded c.requires.running c.requires.before;
  shown = comes event.Ended c.requires.before.within refl;
  stops = tt;
  none = λ before e. cc;
}
