use Rattle.std.proofs.Common.{ap, sym, ◌∙◌}
use Rattle.std.specs.Int.{w32, cast_signed}
use Rattle.wave_dump.specs.Machine.{can_take}
use Rattle.wave_dump.specs.Reading.{olds_at}
use Rattle.wave_dump.proofs.ValueLemmas.{can_first}
use Rattle.wave_dump.proofs.values.can_have.Goals as goal

pub returns-then-first : goal.returns-then-first
returns-then-first c =
    let left = c.args.left.now in
    let v = cast_signed w32 c.args.word in
    sym (ap (λ b. can_take (olds_at b left) v) c.if-first.true ∙ can_first left v c.requires)
