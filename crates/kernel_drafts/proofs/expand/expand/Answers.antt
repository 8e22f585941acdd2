use Rattle.std.proofs.Common.{refl}
use Rattle.loop_check.specs.Views.{indexed_text}
use Rattle.kernel_drafts.proofs.Assembled.{expanded}
use Rattle.kernel_drafts.proofs.expand.expand.Goals as goal

pub returns : goal.returns
returns c =
    expanded (indexed_text c.args.source.now.globals.index) c.args.deep c.args.first (record { main = c.in_ok-main.main; words = c.inlined.new.state.slot; threads = c.in_ok-threads.threads }) c.new-state.result c.inlined.new.state
    c.requires.deep c.new-state.ensures.slot c.new-state.ensures.thread c.new-state.ensures.par c.new-state.ensures.pending c.in_ok-main.ensures.does refl c.in_ok-threads.ensures
