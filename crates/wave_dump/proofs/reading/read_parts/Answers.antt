use Rattle.std.proofs.Common.{rules, ◌≡◌, [], length, ◌∙◌, refl}
use Rattle.wave_dump.specs.Machine.{Vars}
use Rattle.wave_dump.specs.Dumps.{plain_ticks}
use Rattle.wave_dump.proofs.GoesLemmas.{goes_passed}
use Rattle.wave_dump.proofs.reading.read_parts.Goals as goal

pub returns-in_err-head : goal.returns-in_err-head
returns-in_err-head c = goes_passed c.from_residual.result c.in_err-head.field-0.0 _ _ _ _ c.from_residual.ensures.1 refl (c.in_err-head.ensures.goes (Vars []))

pub returns-in_err-names : goal.returns-in_err-names
returns-in_err-names c = goes_passed c.from_residual-in_err-names.result c.in_err-names.field-0.0 _ _ _ _ c.from_residual-in_err-names.ensures.1 (c.in_ok-head.ensures.goes (Vars [])) c.in_err-names.ensures.goes

pub returns-in_err-ticks : goal.returns-in_err-ticks
returns-in_err-ticks c =
    let names = c.in_ok-names.names in
    let count : length names ≡ length c.in_ok-values.values.items = search rules in
    goes_passed c.from_residual-in_err-ticks.result c.in_err-ticks.field-0.0 _ _ _ _ c.from_residual-in_err-ticks.ensures.1 (c.in_ok-head.ensures.goes (Vars []) ∙ c.in_ok-names.ensures.goes) (c.in_err-ticks.ensures.goes names (search rules))

pub returns : goal.returns
returns c =
    let names = c.in_ok-names.names in
    let count : length names ≡ length c.in_ok-values.values.items = search rules in
    c.in_ok-head.ensures.goes (Vars []) ∙ c.in_ok-names.ensures.goes ∙ c.in_ok-ticks.ensures.goes names (search rules) ∙ c.in_ok-ending.ensures names (plain_ticks c.in_ok-ticks.ticks.items)

pub returns-in_err-ending : goal.returns-in_err-ending
returns-in_err-ending c =
    let names = c.in_ok-names.names in
    let count : length names ≡ length c.in_ok-values.values.items = search rules in
    goes_passed c.from_residual-in_err-ending.result c.in_err-ending.field-0.0 _ _ _ _ c.from_residual-in_err-ending.ensures.1 (c.in_ok-head.ensures.goes (Vars []) ∙ c.in_ok-names.ensures.goes ∙ c.in_ok-ticks.ensures.goes names (search rules)) (c.in_err-ending.ensures names (plain_ticks c.in_ok-ticks.ticks.items))
