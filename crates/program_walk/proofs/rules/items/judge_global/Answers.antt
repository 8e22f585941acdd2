use Rattle.loop_check.specs.Views.{indexed_text}
use Rattle.forec_tree.specs.Plain.{plain_global}
use Rattle.program_walk.proofs.ItemRules.{global_is}
use Rattle.program_walk.proofs.rules.items.judge_global.Goals as goal

pub returns : goal.returns
returns c =
    global_is (indexed_text c.args.index.now) c.args.names.now c.args.at c.args.counts (plain_global c.args.g.now) c.args.least.now
    c.keep_fault.new.least c.judge_length.new.least c.keep_fault-2.new.least c.keep_fault-3.new.least c.judge_combine.new.least c.keep_fault-4.new.least (cc) (cc) (cc) (cc) (cc) (cc)
