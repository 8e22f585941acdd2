use Rattle.std.proofs.Common.{ℕ, ◌≡◌, ◌+◌, ◌-◌, ◌^◌, ◌==◌, zero, suc, min, length, false, true, arith}
use Rattle.forec_tree.specs.Plain.{terms}
use Rattle.forec_tree.specs.Terms.{count_terms}
use Rattle.text_sizes.specs.Spans.{sequence_levels}
use Rattle.text_sizes.proofs.Tallied.{terms_length}
use Rattle.text_sizes.proofs.span.call_levels.Goals as goal

more : (n m body result : ℕ) → n ≡ m → false ≡ (n == 0) → result ≡ min (1 + body) (2 ^ 64 - 1) → result ≡ min (sequence_levels (suc m) body) (2 ^ 64 - 1)
more zero m body result l f e = absurd (let q : false ≡ true = f in cc)
more (suc n) zero body result l f e = absurd (omega (arith, l))
more (suc n) (suc m) body result l f e = e

pub returns : goal.returns
returns c = more (length c.args.args.now) (count_terms (terms c.args.args.now)) c.args.body c.add.result (terms_length c.args.args.now) c.if-is_empty.ensures c.add.ensures
