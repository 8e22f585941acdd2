use Rattle.std.proofs.Common.{◌∙◌, ◌==◌, ◌&&◌, ◌+◌, not, ℕ, sym, ap, refl, arith}
use Rattle.std.specs.Prelude.{nat_le}
use Rattle.std.proofs.lemmas.Bool.Decides.{nat_tests}
use Rattle.loop_check.specs.Index.{blank_entry}
use Rattle.loop_check.specs.Views.{indexed_text}
use Rattle.loop_check.proofs.IndexLemmas.{named_is}
use Rattle.loop_check.proofs.index.Index.named_before.Goals as goal

pub returns-then-first-ne0 : goal.returns-then-first-ne0
returns-then-first-ne0 c =
    let e = ap (λ y. y.first) c.entry-first.ensures in
    let t = c.if-first-ne0.true in
    grind (arith, nat_tests) ∙ ap (λ (r : ℕ). not (r == 0) && nat_le r (0 + c.args.at)) e ∙ sym (named_is c.args.id 0 c.args.at blank_entry (indexed_text c.args.self.now) refl)

pub returns-else-first-ne0 : goal.returns-else-first-ne0
returns-else-first-ne0 c =
    let e = ap (λ y. y.first) c.entry-first.ensures in
    let t = c.if-first-ne0.false in
    grind (arith, nat_tests) ∙ ap (λ (r : ℕ). not (r == 0) && nat_le r (0 + c.args.at)) e ∙ sym (named_is c.args.id 0 c.args.at blank_entry (indexed_text c.args.self.now) refl)
