use Rattle.std.proofs.Common.{◌≡◌, ◌∙◌, ◌+◌, ◌-◌, ◌^◌, suc, min, sym, ap, length, Option, Some, None, arith}
use Rattle.forec_tree.specs.declared.tree.Number.{Number}
use Rattle.forec_tree.specs.Plain.{terms}
use Rattle.forec_tree.specs.Terms.{count_terms}
use Rattle.text_sizes.specs.TermCounts.{values_count, sequence_count, first_count}
use Rattle.text_sizes.proofs.Tallied.{sequence_as_near, terms_length}
use Rattle.text_sizes.proofs.tally.local_terms.Goals as goal

pub returns-in-Some : goal.returns-in-Some
returns-in-Some c =
    let list = c.as_slice-list.result.now in
    let values = c.args.local.now.values in
    let is = c.as_slice-list.ensures in
    let l = terms_length list in
    let n : length list + 1 ≡ suc (count_terms (terms list)) = omega (arith, l) in
    let a = c.add.ensures in
    let b = c.values.ensures in
    let same : min c.add.result (2 ^ 64 - 1) ≡ min (1 + values_count (terms list)) (2 ^ 64 - 1) = omega (arith, a, b) in
    sequence_as_near c.sequence.result (length list + 1) (suc (count_terms (terms list))) c.add.result (1 + values_count (terms list)) c.sequence.ensures n same
    ∙ (ap (λ x. min (sequence_count (suc (count_terms (terms x))) (1 + values_count (terms x))) (2 ^ 64 - 1)) is
    ∙ ap (λ (o : Option Number). min (elim o [ None ↦ first_count (terms values) | Some m ↦ sequence_count (suc (count_terms (terms values))) (1 + values_count (terms values)) ]) (2 ^ 64 - 1)) (sym c.in-Some.is))
