use Rattle.std.proofs.Common.{rules, ◌∙◌, ap, sym, map, string_bytes, List, option_map}
use Rattle.clap.specs.Words.{Text}
use Rattle.command_words.specs.Requests.{request_by, plain_request}
use Rattle.command_words.proofs.Asked.{asked, refused}
use Rattle.command_words.proofs.reading.read_words.Goals as goal

pub returns-in_err-values-clause-usage : goal.returns-in_err-values-clause-usage
returns-in_err-values-clause-usage c = λ same.
    let words : List Text = map string_bytes c.args.words.now in
    refused words (c.in_err-values.ensures.usage (search (rules, same, c.from_residual.ensures, c.in_err-values.is)))

pub returns-in-Some-clause-request : goal.returns-in-Some-clause-request
returns-in-Some-clause-request c =
    let words : List Text = map string_bytes c.args.words.now in
    asked words c.in_ok-values.ensures.accepted
    ∙ ap request_by (sym c.in_ok-values.ensures.values)
    ∙ sym c.request.ensures
    ∙ ap (option_map plain_request) c.in-Some.is

pub returns-in-None-clause-usage : goal.returns-in-None-clause-usage
returns-in-None-clause-usage c = λ same.
    let words : List Text = map string_bytes c.args.words.now in
    asked words c.in_ok-values.ensures.accepted
    ∙ ap request_by (sym c.in_ok-values.ensures.values)
    ∙ sym c.request.ensures
    ∙ ap (option_map plain_request) c.in-None.is
