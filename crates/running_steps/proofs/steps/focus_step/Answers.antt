use Rattle.std.proofs.Common.{◌≡◌, false}
use Rattle.forec_kernel.specs.Shapes.{plain_kernel}
use Rattle.forec_kernel.specs.Texts.{some_running}
use Rattle.forec_kernel.proofs.Commute.{fork_quiet}
use Rattle.running_threads.specs.Views.{threads}
use Rattle.running_steps.proofs.Stepping.{finishes, halts}
use Rattle.running_steps.proofs.steps.focus_step.Goals as goal

pub returns-in-Done : goal.returns-in-Done
returns-in-Done c = λ path. rw c.in-Done.is (finishes _ _)

pub returns-in-Run : goal.returns-in-Run
returns-in-Run c = λ path. rw c.in-Run.is (c.statement_step.ensures _)

pub returns-in-Turning : goal.returns-in-Turning
returns-in-Turning c = λ path. rw c.in-Turning.is (c.loop_step.ensures _)

pub returns-in-Resting : goal.returns-in-Resting
returns-in-Resting c = λ path. rw c.in-Resting.is (halts _ _)

pub returns-in-Held : goal.returns-in-Held
returns-in-Held c = λ path. rw c.in-Held.is (halts _ _)

pub returns-in-Fork : goal.returns-in-Fork
returns-in-Fork c = λ path.
    let same : c.deref.result.now ≡ c.in-Fork.children.value = c.deref.ensures in
    let none : some_running (threads c.in-Fork.children.value) ≡ false = rw c.in-Fork.is at c.requires in
    rw (c.in-Fork.is, fork_quiet (plain_kernel c.args.kernel.now) path c.args.values.now.uses.now c.args.values.now.words.now c.args.values.now.copies.now (threads c.in-Fork.children.value) none)
    (rw same at c.join_step.ensures)
