use Rattle.std.proofs.Common.{sym, arith, ◌∷◌, []}
use Rattle.program_walk.proofs.Texts.{lengths_apart}
use Rattle.program_walk.proofs.rules.uses.is_main_text.Goals as goal

pub returns-in_default : goal.returns-in_default
returns-in_default c = sym (lengths_apart c.args.name.now (109 ∷ 97 ∷ 105 ∷ 110 ∷ []) (λ e. omega arith))

pub returns-in_default-2 : goal.returns-in_default-2
returns-in_default-2 c = sym (lengths_apart c.args.name.now (109 ∷ 97 ∷ 105 ∷ 110 ∷ []) (λ e. omega arith))
