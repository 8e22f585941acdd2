use Rattle.std.proofs.Common.{◌∙◌, ◌-◌, sym, ap, refl, arith}
use Rattle.loop_check.specs.Index.{blank_entry}
use Rattle.loop_check.specs.Views.{indexed_text}
use Rattle.loop_check.proofs.IndexLemmas.{absent_is, found_is}
use Rattle.loop_check.proofs.index.Index.position.Goals as goal

pub returns-then-first-eq0 : goal.returns-then-first-eq0
returns-then-first-eq0 c =
    let e = ap (λ y. y.first) c.entry-first.ensures in
    let t = c.if-first-eq0.true in
    absent_is c.args.id 0 blank_entry (indexed_text c.args.self.now) refl (sym e ∙ t)

pub returns : goal.returns
returns c =
    let e = ap (λ y. y.first) c.entry-first.ensures in
    let t = c.if-first-eq0.false in
    found_is c.args.id 0 (c.entry-first.result.first - 1) blank_entry (indexed_text c.args.self.now) refl (omega (arith, e, t))
