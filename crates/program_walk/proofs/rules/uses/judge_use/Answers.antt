use Rattle.program_walk.proofs.UseRules.{use_is}
use Rattle.program_walk.specs.Views.{judging_in}
use Rattle.program_walk.proofs.rules.uses.judge_use.Goals as goal

pub returns : goal.returns
returns c =
    use_is (judging_in c.args.context.now) c.args.how c.args.name c.args.means c.args.least.now
    c.keep_fault.new.least c.keep_fault-2.new.least c.keep_fault-3.new.least c.keep_fault-4.new.least c.keep_fault-5.new.least c.keep_fault-6.new.least c.keep_fault-7.new.least c.keep_fault-8.new.least
    (cc) (cc) (cc) (cc) (cc) (cc) (cc) (cc)
