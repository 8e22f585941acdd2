use Rattle.fold_laws.proofs.Values.{value_same, expr_like}
use Rattle.fold_laws.proofs.Flows.{call_like}
use Rattle.fold_laws.proofs.laws.folding_keeps_values.Goals as goal

pub returns : goal.returns
returns c =
    record {
      terms = λ s e a. expr_like s.tables s.call s.call (λ n args. value_same (s.call n args)) e a;
      functions = call_like;
    }
