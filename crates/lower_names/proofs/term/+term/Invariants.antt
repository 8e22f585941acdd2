use Rattle.std.proofs.Common.{◌≡◌, drop}
use Rattle.forec_tree.specs.Plain.{terms}
use Rattle.forec_kernel.specs.Plain.{exprs}
use Rattle.loop_check.specs.Views.{indexed_text}
use Rattle.lower_names.specs.Views.{seen}
use Rattle.text_kernel.specs.Lowering as lowering
use Rattle.forec_kernel.proofs.VecTerms.{joined}
use Rattle.lower_names.proofs.term.+term.Given as goal

abbrev pub invariant-lower_terms-loop-e : goal.invariant-lower_terms-loop-e
invariant-lower_terms-loop-e l =
    joined (exprs l.terms.items) (lowering.lower_terms (indexed_text l.globals.index) (seen l.scope) (terms (drop l.e-index l.list))) ≡ lowering.lower_terms (indexed_text l.globals.index) (seen l.scope) (terms l.list)
