use Rattle.std.proofs.Common.{refl}
use Rattle.thread_code.specs.Plain.{plain_code}
use Rattle.core_machine.specs.declared.thread.Event.TheVariants as event
use Rattle.core_machine.specs.RunParts.{over, comes}
use Rattle.core_machine.proofs.Outer.{trap_moved}
use Rattle.core_machine.proofs.thread.Thread.trap.Goals as goal

pub returns-then-units-self : goal.returns-then-units-self
returns-then-units-self c = record {
  moved = trap_moved (plain_code c.args.code.now) c.args.self.now c.requires.loaded c.requires.running c.args.place c.args.trap c.args.units c.requires.before;
  shown = over c.if-units-self.true;
  stops = tt;
  none = λ before e. cc;
}

pub returns-else-units-self : goal.returns-else-units-self
returns-else-units-self c = record {
  moved = trap_moved (plain_code c.args.code.now) c.args.self.now c.requires.loaded c.requires.running c.args.place c.args.trap c.args.units c.requires.before;
  shown = comes (event.Trapped c.args.place c.args.trap) c.if-units-self.false refl;
  stops = tt;
  none = λ before e. cc;
}
