use Rattle.loop_check.specs.Views.{indexed_text}
use Rattle.forec_tree.specs.Plain.{plain_function}
use Rattle.program_walk.proofs.ItemRules.{head_is}
use Rattle.program_walk.proofs.rules.items.judge_head.Goals as goal

pub returns : goal.returns
returns c =
    head_is (indexed_text c.args.index.now) c.args.names.now c.args.at c.args.counts (plain_function c.args.f.now) c.args.least.now
    c.keep_fault.new.least c.keep_fault-2.new.least c.keep_fault-3.new.least c.keep_fault-4.new.least c.keep_fault-5.new.least (cc) (cc) (cc) (cc) (cc)
