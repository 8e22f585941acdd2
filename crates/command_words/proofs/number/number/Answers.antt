use Rattle.std.proofs.Common.{sym, ◌∙◌}
use Rattle.command_words.proofs.Digits.{number_is}
use Rattle.command_words.proofs.number.number.Goals as goal

pub returns-then-is_number : goal.returns-then-is_number
returns-then-is_number c =
    number_is c.args.word.now c.parse.result c.ok.result c.parse.ensures.value.0 (sym c.is_number.ensures ∙ c.if-is_number.true) c.ok.ensures.value
