use Rattle.std.proofs.Common.{◌∙◌, sym, arith, nat_eq, true, false, drop, codes, ◌≡◌}
use Rattle.std.specs.List.{starts_with}
use Rattle.std.proofs.lemmas.List.{take_rest}
use Rattle.forec_lexer.proofs.Steps.{close_here, close_later, close_nowhere}
use Rattle.forec_lexer.proofs.comments.close_of.Goals as goal

pub returns-then-starts_with-clause-value : goal.returns-then-starts_with-clause-value
returns-then-starts_with-clause-value c =
    let t : starts_with nat_eq (drop c.loop-at.at c.args.text.now) (codes "*/") ≡ true = rw (c.as_slice.ensures, take_rest c.args.text.now c.loop-at.at) at (sym c.starts_with.ensures.value ∙ c.if-starts_with.true) in
    sym (c.loop-at.invariant ∙ close_here c.args.text.now c.loop-at.at (omega arith) t)

pub loop-at-preserved : goal.loop-at-preserved
loop-at-preserved c =
    let t : starts_with nat_eq (drop c.loop-at.at c.args.text.now) (codes "*/") ≡ false = rw (c.as_slice.ensures, take_rest c.args.text.now c.loop-at.at) at (sym c.starts_with.ensures.value ∙ c.if-starts_with.false) in
    c.loop-at.invariant ∙ close_later c.args.text.now c.loop-at.at (omega arith) t

pub returns-clause-value : goal.returns-clause-value
returns-clause-value c = sym (c.loop-at.invariant ∙ close_nowhere c.args.text.now c.loop-at.at (omega arith))
