-- What a `Tokens` shows.
use Rattle.expr_parser.specs.declared.tokens.Tokens.TheInside.{Inside}
use Rattle.expr_parser.specs.Input.{Input, input}

abbrev pub input_of : Inside → Input
input_of t = input t.rest.now t.level
