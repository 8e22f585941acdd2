use Rattle.std.proofs.Common.{◌∙◌, ap}
use Rattle.loop_check.specs.Index.{blank_entry}
use Rattle.loop_check.specs.Views.{indexed_text}
use Rattle.loop_check.proofs.IndexLemmas.{global_is}
use Rattle.loop_check.proofs.index.Index.is_global.Goals as goal

pub returns : goal.returns
returns c = ap (λ e. e.global) c.entry.ensures ∙ global_is c.args.id 0 blank_entry (indexed_text c.args.self.now)
