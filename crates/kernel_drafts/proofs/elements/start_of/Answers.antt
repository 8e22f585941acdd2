use Rattle.std.proofs.Common.{◌∙◌, ℕ, Option, Some, None, sym, ap, SFits, w32, rules}
use Rattle.std.proofs.lemmas.Int.{to_z-of_z}
use Rattle.forec_tree.specs.Plain.{plain_global}
use Rattle.text_kernel.specs.Bindings.{first_value, nth_value}
use Rattle.kernel_drafts.proofs.ElementLemmas.{value_dropped}
use Rattle.kernel_drafts.proofs.elements.start_of.Goals as goal

pub returns-in-Some : goal.returns-in-Some
returns-in-Some c =
    let values = (plain_global c.args.e.now.global.now).values in
    let i = c.in-Some.i in
    let fits : SFits w32 c.number_at.result = search rules in
    to_z-of_z w32 c.number_at.result fits
    ∙ (c.number_at.ensures
    ∙ (value_dropped i c.as_slice.result.now
    ∙ (ap (nth_value i) c.as_slice.ensures ∙ ap (λ (o : Option ℕ). elim o [ None ↦ first_value values | Some n ↦ nth_value n values ]) (sym c.in-Some.is))))
