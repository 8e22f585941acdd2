use Rattle.std.proofs.Common.{◌+◌, ◌<◌, drop, sym, ◌∙◌, arith}
use Rattle.log_text.specs.Pieces.{EndsDigits}
use Rattle.log_text.proofs.BriefLemmas.{one_stands, two_stand, no_more}
use Rattle.log_text.proofs.numbers.brief_at.Goals as goal

pub returns-in_default : goal.returns-in_default
returns-in_default c =
    let d = c.in_ok-first.ensures.some in
    (omega (arith, d.0), one_stands c.args.bytes.now c.args.at c.in_ok-first.first d.0 d.1 d.2 c.in_default.ensures.none)

pub returns : goal.returns
returns c =
    let d = c.in_ok-first.ensures.some in
    let e = c.in-Some.ensures.some in
    let some : 0 < c.in_ok-first.first = (let ne = c.if-first-eq0.false in omega arith) in (
      omega (arith, d.0, e.0),
      two_stand c.args.bytes.now c.args.at c.in_ok-first.first c.in-Some.second some d.0 e.0 d.1 d.2 e.1 e.2
          (no_more (EndsDigits (drop (c.args.at + 2) c.args.bytes.now)) c.digit_at-else-first-eq0.result (sym c.is_some.ensures ∙ c.if-is_some.false) c.digit_at-else-first-eq0.ensures.none),
    )
