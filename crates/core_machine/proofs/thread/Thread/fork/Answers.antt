use Rattle.std.proofs.Common.{sym, refl, subst, inl}
use Rattle.thread_code.specs.Plain.{plain_code}
use Rattle.core_machine.specs.declared.thread.Thread.{Thread}
use Rattle.core_machine.specs.declared.thread.Phase.TheVariants as phase
use Rattle.core_machine.specs.declared.thread.Event.TheVariants as event
use Rattle.core_machine.specs.Branches.{Gathered}
use Rattle.core_machine.specs.RunParts.{over, comes, ComesToEvent}
use Rattle.core_machine.proofs.Outer.{fork_here, fork_moved, fork_view}
use Rattle.core_machine.proofs.thread.Thread.fork.Goals as goal

pub fork_at-fork-requires-clause-fork : goal.fork_at-fork-requires-clause-fork
fork_at-fork-requires-clause-fork c = fork_here (plain_code c.args.code.now) c.args.self.now c.requires.loaded c.requires.running c.args.units c.requires.before

pub returns-then-units-self : goal.returns-then-units-self
returns-then-units-self c =
    let code = plain_code c.args.code.now in
    let h = c.args.self.now in
    let make : Gathered → Thread = λ b. record { number = h.number; phase = phase.Forked h.units; function = h.function; at = h.at; stack = h.stack; own = h.own; units = c.args.units; allowance = h.allowance; branches = b; joining = h.joining } in
    subst (λ b. ComesToEvent code h (make b) event.Over) (sym c.gather.ensures)
    (record {
      moved = fork_moved code h c.requires.loaded c.requires.running c.args.units c.requires.before c.requires.valid c.fork_at-fork.result c.fork_at-fork.ensures;
      shown = over c.if-units-self.true;
      stops = tt;
      none = λ before e. record { ended = refl; units = inl refl; verdict = refl };
    })

pub returns-else-units-self : goal.returns-else-units-self
returns-else-units-self c =
    let code = plain_code c.args.code.now in
    let h = c.args.self.now in
    let make : Gathered → Thread = λ b. record { number = h.number; phase = phase.Forked h.units; function = h.function; at = h.at; stack = h.stack; own = h.own; units = c.args.units; allowance = h.allowance; branches = b; joining = h.joining } in
    subst (λ b. ComesToEvent code h (make b) event.Fork) (sym c.gather.ensures)
    (record {
      moved = fork_moved code h c.requires.loaded c.requires.running c.args.units c.requires.before c.requires.valid c.fork_at-fork.result c.fork_at-fork.ensures;
      shown = comes event.Fork c.if-units-self.false (fork_view code h c.requires.loaded c.requires.running c.args.units c.requires.before c.requires.valid c.fork_at-fork.result c.fork_at-fork.ensures);
      stops = tt;
      none = λ before e. record { ended = refl; units = inl refl; verdict = refl };
    })
