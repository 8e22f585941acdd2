use Rattle.std.proofs.Common.{◌∙◌, ap, Some, cond}
use Rattle.thread_code.specs.declared.instruction.Instruction.TheVariants as instruction
use Rattle.thread_code.specs.Plain.{plain_code}
use Rattle.core_machine.proofs.Seeds.{fork_numbers, numbers_room}
use Rattle.core_machine.proofs.thread.Thread.write_kind.Goals as goal

pub write_args-requires-clause-branches : goal.write_args-requires-clause-branches
write_args-requires-clause-branches c =
    let f = c.fork_here.result in (
      f.par,
      fork_numbers (plain_code c.args.code.now) c.args.self.now c.requires.loaded c.requires.fork f.par f.to
          (c.fork_here.ensures ∙ ap (λ b. Some (cond b (instruction.Again f.par f.to) (instruction.Fork f.par f.to))) c.if-fork_here.false),
    )

pub write_args-requires-clause-pars : goal.write_args-requires-clause-pars
write_args-requires-clause-pars c = c.requires.loaded.serves.pars

pub write_args-requires-clause-stack : goal.write_args-requires-clause-stack
write_args-requires-clause-stack c =
    let f = c.fork_here.result in
    numbers_room (plain_code c.args.code.now) c.args.self.now c.requires.loaded c.requires.fork f.par f.to
    (c.fork_here.ensures ∙ ap (λ b. Some (cond b (instruction.Again f.par f.to) (instruction.Fork f.par f.to))) c.if-fork_here.false)
