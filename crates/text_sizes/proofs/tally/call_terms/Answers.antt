use Rattle.std.proofs.Common.{◌≡◌, ◌+◌, ◌-◌, ◌^◌, suc, min, length, arith}
use Rattle.forec_tree.specs.Plain.{terms}
use Rattle.forec_tree.specs.Terms.{count_terms}
use Rattle.text_sizes.specs.TermCounts.{sets_count}
use Rattle.text_sizes.proofs.Tallied.{sequence_as_near, terms_length}
use Rattle.text_sizes.proofs.tally.call_terms.Goals as goal

pub returns : goal.returns
returns c =
    let list = c.args.args.now in
    let l = terms_length list in
    let n : length list + 1 ≡ suc (count_terms (terms list)) = omega (arith, l) in
    let a = c.add.ensures in
    let b = c.sets.ensures in
    let same : min c.add.result (2 ^ 64 - 1) ≡ min (sets_count (terms list) + c.args.body) (2 ^ 64 - 1) = omega (arith, a, b) in
    sequence_as_near c.sequence.result (length list + 1) (suc (count_terms (terms list))) c.add.result (sets_count (terms list) + c.args.body) c.sequence.ensures n same
