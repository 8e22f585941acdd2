use Rattle.std.proofs.Common.{refl}
use Rattle.thread_code.specs.Plain.{plain_code}
use Rattle.core_machine.specs.declared.thread.Thread.{Thread}
use Rattle.core_machine.proofs.Replying.{settle_stands}
use Rattle.core_machine.proofs.thread.Thread.settle_call.Goals as goal

pub returns-clause-stands : goal.returns-clause-stands
returns-clause-stands c = λ xs rs r n is stands.
    let h = c.args.self.now in
    let h' : Thread = record { number = h.number; phase = h.phase; function = h.function; at = h.at; stack = h.stack; own = h.own; units = h.units; allowance = h.allowance; branches = c.settle_with.new.self; joining = h.joining } in
    settle_stands (plain_code c.args._code.now) h h' c.args._k c.requires.order refl refl refl refl refl xs rs r n (c.settle_with.ensures.says rs r is) _ refl stands

pub returns-clause-jobs : goal.returns-clause-jobs
returns-clause-jobs c = refl
