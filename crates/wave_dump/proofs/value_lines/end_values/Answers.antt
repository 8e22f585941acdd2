use Rattle.std.proofs.Common.{◌<◌, length, ap, ◌∙◌, arith}
use Rattle.wave_dump.specs.Machine.{Body}
use Rattle.wave_dump.specs.Reading.{dump_from, spot_with, olds_at}
use Rattle.wave_dump.proofs.AllLemmas.{values_missing, values_quiet}
use Rattle.wave_dump.proofs.value_lines.end_values.Goals as goal

pub returns-then-first-clause-goes : goal.returns-then-first-clause-goes
returns-then-first-clause-goes c =
    let bytes = c.args.bytes.now in
    let left = c.args.left.now in
    let some : 0 < length left = omega arith in
    λ names ticks now. ap (λ b. dump_from bytes c.args.at (Body (spot_with names ticks now (olds_at b left)))) c.if-first.true ∙ values_missing bytes c.args.at names ticks now left some (c.requires.gone some)

pub returns-clause-goes : goal.returns-clause-goes
returns-clause-goes c =
    let bytes = c.args.bytes.now in
    let left = c.args.left.now in
    let some : 0 < length left = omega arith in
    λ names ticks now. ap (λ b. dump_from bytes c.args.at (Body (spot_with names ticks now (olds_at b left)))) c.if-first.false ∙ values_quiet bytes c.args.at names ticks now left (c.requires.gone some)
