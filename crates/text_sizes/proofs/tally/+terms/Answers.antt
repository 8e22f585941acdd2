use Rattle.std.proofs.Common.{◌≡◌, ◌∙◌, ◌+◌, ◌-◌, ◌^◌, min, arith}
use Rattle.forec_tree.specs.Plain.{terms}
use Rattle.text_sizes.specs.TermCounts.{term_count, terms_count}
use Rattle.text_sizes.proofs.Tallied.{of_tree_call}
use Rattle.text_sizes.proofs.tally.+terms.Goals as goal

pub terms_of-returns-in-Call : goal.terms_of-returns-in-Call
terms_of-returns-in-Call t c =
    let slice = c.as_slice.result.now in
    let a = c.add-in-Call.ensures in
    let b = c.all_terms.ensures in
    let base : c.add-in-Call.result ≡ min (1 + terms_count (terms slice)) (2 ^ 64 - 1) = omega (arith, a, b) in
    base ∙ of_tree_call (λ k. min (term_count k) (2 ^ 64 - 1)) c.args.e.now c.in-Call.name c.in-Call.args slice c.in-Call.is c.as_slice.ensures
