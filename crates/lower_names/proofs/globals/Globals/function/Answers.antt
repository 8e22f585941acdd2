use Rattle.std.proofs.Common.{◌∙◌, ap}
use Rattle.loop_check.specs.Views.{indexed_text}
use Rattle.lower_names.specs.declared.globals.KernelIndices.{KernelIndices}
use Rattle.lower_names.proofs.NumberingLemmas.{functions_are}
use Rattle.lower_names.proofs.globals.Globals.function.Goals as goal

pub returns : goal.returns
returns c = ap (λ (x : KernelIndices). x.functions) c.counts.ensures ∙ functions_are c.args.id (indexed_text c.args.self.now.index)
