use Rattle.std.proofs.Common.{◌≡◌, ◌∙◌, sym, ap, arith, true}
use Rattle.thread_code.specs.declared.instruction.Instruction.TheVariants as instruction
use Rattle.thread_code.specs.Plain.{plain_code}
use Rattle.thread_code.specs.Valid.{branches_in}
use Rattle.thread_code.specs.Machine.{living}
use Rattle.thread_state.specs.Kept.{some_of}
use Rattle.core_machine.proofs.NextStep.{next_within, before_next}
use Rattle.core_machine.proofs.thread.Thread.stop_at_once.Goals as goal

pub index-requires : goal.index-requires
index-requires c =
    next_within c.args.code.now c.args.self.now c.requires.loaded c.requires.running (sym c.is_some.ensures ∙ c.if-is_some.false) c.block_at.result.now c.block_at.ensures c.if-self.false

pub returns-in-Pause : goal.returns-in-Pause
returns-in-Pause c =
    before_next c.args.code.now c.args.self.now c.requires.loaded c.requires.running (sym c.is_some.ensures ∙ c.if-is_some.false) c.block_at.result.now c.block_at.ensures c.if-self.false
    c.index.result.now (instruction.Pause c.in-Pause.to) c.index.ensures c.in-Pause.is

pub returns-in-Again : goal.returns-in-Again
returns-in-Again c =
    let again = instruction.Again c.in-Again.par c.in-Again.to in
    let some : some_of (living c.args.self.now.own.live (branches_in (plain_code c.args.code.now).shape c.in-Again.par)) ≡ true = sym c.some_living.ensures ∙ c.if-some_living.true in (
      again,
      before_next c.args.code.now c.args.self.now c.requires.loaded c.requires.running (sym c.is_some.ensures ∙ c.if-is_some.false) c.block_at.result.now c.block_at.ensures c.if-self.false
          c.index.result.now again c.index.ensures c.in-Again.is,
      λ none. let k = ap some_of none in cc,
      omega arith,
    )
