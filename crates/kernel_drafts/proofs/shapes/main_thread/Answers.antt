use Rattle.std.proofs.Common.{◌∙◌, ℕ, List, ap, Some, None}
use Rattle.forec_kernel.specs.Shapes.{PlainThread}
use Rattle.forec_kernel.specs.WellFormed.{count_up}
use Rattle.forec_tree.specs.Rules.{spelling_of_name}
use Rattle.kernel_drafts.specs.Drafts.{marked_from}
use Rattle.kernel_drafts.proofs.Assembled.{first_shape}
use Rattle.kernel_drafts.proofs.Marking.{all_marked}
use Rattle.kernel_drafts.proofs.shapes.main_thread.Goals as goal

pub returns-clause-shapes : goal.returns-clause-shapes
returns-clause-shapes c =
    let made : List ℕ → List ℕ → PlainThread = λ name uses. record { parent = None; par = None; name = Some name; params = 0; words = c.args.words; uses = uses } in
    let uses = c.in_ok-uses.ensures ∙ (ap (marked_from 0) c.deref.ensures.value ∙ all_marked 0 c.args.count c.in_ok-row.row.items c.in_ok-row.ensures.0 c.in_ok-row.ensures.1) in
    first_shape c.push.new.self.items c.new-shapes.result.items _ (made (spelling_of_name c.args.names.now c.args.first) (count_up 0 c.args.count)) c.in_ok-push.ensures.items c.new-shapes.ensures.items
    (ap (λ n. made n c.in_ok-uses.uses.items) c.in_ok-name.ensures ∙ ap (made (spelling_of_name c.args.names.now c.args.first)) uses)
