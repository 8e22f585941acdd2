use Rattle.thread_code.specs.Plain.{plain_code}
use Rattle.thread_steps.specs.BlockRun.{work}
use Rattle.core_machine.proofs.Outer.{runs_block}
use Rattle.core_machine.proofs.thread.Thread.run_frame.Goals as goal

pub returns : goal.returns
returns c =
    let r = c.run_block-ran.result in
    runs_block c.requires.running.0 (plain_code c.args.code.now) c.args.self.now c.requires.loaded c.requires.running.1 (work r.at c.run_block-ran.new.stack c.run_block-ran.new.own r.units) c.run_block-ran.ensures.runs c.run_block-ran.ensures.small r.stop c.run_block-ran.ensures.shows
