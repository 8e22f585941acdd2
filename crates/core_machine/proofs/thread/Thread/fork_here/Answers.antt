use Rattle.std.proofs.Common.{◌∙◌, sym, ap, Some}
use Rattle.thread_code.specs.Plain.{plain_code}
use Rattle.core_machine.specs.Branches.{instruction_of}
use Rattle.core_machine.proofs.Asking.{waits}
use Rattle.core_machine.proofs.thread.Thread.fork_here.Goals as goal

pub returns : goal.returns
returns c =
    (waits (plain_code c.args._code.now) c.args.self.now c.requires.loaded c.requires.fork).is ∙ ap (λ f. Some (instruction_of f)) (sym c.fork.ensures)
