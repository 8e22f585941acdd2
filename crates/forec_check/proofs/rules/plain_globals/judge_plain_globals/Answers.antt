use Rattle.std.proofs.Common.{sym}
use Rattle.loop_check.specs.Views.{indexed_text}
use Rattle.forec_check.proofs.NamingTables.{plains_step, plains_end}
use Rattle.forec_check.proofs.rules.plain_globals.judge_plain_globals.Goals as goal

pub loop-item-preserved : goal.loop-item-preserved
loop-item-preserved c =
    plains_step (indexed_text c.args.symbols.now.index.now) c.args.symbols.now.names.now c.args.items.now c.loop-item.item-index c.item-item.result c.loop-item.least c.judge_plain_global.new.least _ c.loop-item-test.true
    (sym c.item-item.is) c.in_ok-judge_plain_global.ensures c.loop-item.invariant

pub returns : goal.returns
returns c = plains_end (indexed_text c.args.symbols.now.index.now) c.args.symbols.now.names.now c.args.items.now c.loop-item.item-index c.loop-item.least _ c.loop-item-test.false c.loop-item.invariant
