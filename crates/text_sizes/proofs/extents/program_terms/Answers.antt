use Rattle.std.proofs.Common.{◌∙◌, ap}
use Rattle.text_kernel.specs.Items.{functions_of}
use Rattle.text_sizes.specs.Extents.{extent_at}
use Rattle.text_sizes.proofs.Amounts.{terms_amount}
use Rattle.text_sizes.specs.declared.extents.Extent.{Extent}
use Rattle.loop_check.specs.Views.{indexed_text}
use Rattle.text_sizes.proofs.extents.program_terms.Goals as goal

pub returns : goal.returns
returns c =
    let text = indexed_text c.args.index.now in
    let first = c.args.first in
    let same = ap (λ l. extent_at l first) c.deref.ensures.value ∙ c.in_ok-table.ensures first in
    let main = c.known_of-main in
    terms_amount text c.args.names.now first main.result.own main.result.under c.function_terms.result c.add.result c.add-2.result (functions_of c.args.functions.now) c.requires.first c.requires.functions
    (main.ensures.own ∙ ap (λ (x : Extent). x.own) same) (main.ensures.under ∙ ap (λ (x : Extent). x.under) same) c.function_terms.ensures c.add.ensures c.add-2.ensures
