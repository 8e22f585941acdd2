use Rattle.std.proofs.Common.{rules, ◌≡◌, length, ap, ◌∙◌}
use Rattle.wave_dump.specs.Writing.{none_yet}
use Rattle.wave_dump.proofs.WritingLemmas.{none_values}
use Rattle.wave_dump.proofs.waver.Waver.new.Goals as goal

pub returns : goal.returns
returns c =
    let n : length c.in_ok-vec.field-0.items ≡ c.args.outputs = search rules in
    none_values c.in_ok-vec.field-0.items ∙ ap none_yet n
