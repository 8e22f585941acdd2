use Rattle.forec_lexer.proofs.OneWay.{one_way}
use Rattle.forec_lexer.proofs.law.one_lexing.Goals as goal

pub returns : goal.returns
returns c = λ text ts us ns ms a b x y. one_way text ts us ns ms a b x y
