use Rattle.std.proofs.Common.{rules, ◌≡◌, codes, decimal, ◌∙◌}
use Rattle.wave_dump.specs.Machine.{literal}
use Rattle.wave_dump.proofs.GoesLemmas.{goes_after, goes_passed}
use Rattle.wave_dump.proofs.Between.{line_parts}
use Rattle.wave_dump.proofs.numbers.number_line.Goals as goal

pub returns-clause-goes : goal.returns-clause-goes
returns-clause-goes c =
    let bytes = c.args.bytes.now in
    let digits : c.as_bytes.result.now ≡ decimal c.args.tick = search rules in
    λ s. goes_after c.expect-2.result _ _ _ (line_parts bytes c.args.at c.args.tick c.as_bytes.result.now s digits ∙ c.in_ok-next.ensures.goes (literal (codes "\n") s)) (c.expect-2.ensures.goes s)

pub returns-in_err-next-clause-goes : goal.returns-in_err-next-clause-goes
returns-in_err-next-clause-goes c =
    let bytes = c.args.bytes.now in
    let digits : c.as_bytes.result.now ≡ decimal c.args.tick = search rules in
    λ s. goes_passed c.from_residual.result c.in_err-next.field-0.0 _ _ _ _ c.from_residual.ensures.1 (line_parts bytes c.args.at c.args.tick c.as_bytes.result.now s digits) (c.in_err-next.ensures.goes (literal (codes "\n") s))
