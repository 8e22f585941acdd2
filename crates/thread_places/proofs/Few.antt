-- All weights together are at most all terms.
use Rattle.std.proofs.Common.{◌≡◌, ◌≤◌, ◌+◌, ◌∙◌, ◌++◌, append-nil, ap, sym, length, drop, ℕ, List, [], ◌∷◌, map, sum, arith}
use Rattle.std.proofs.lemmas.List.{drop_all}
use Rattle.std.proofs.lemmas.List.Sums.{sum_by-cons}
use Rattle.forec_kernel.specs.Terms.{Stmt}
use Rattle.forec_kernel.specs.Weight.{stmt_weight}
use Rattle.forec_kernel.specs.WellFormed.{bodies_terms}
use Rattle.forec_kernel.proofs.WeightLemmas.{weight_le_terms}

pub weights_low : (bodies : List Stmt) → sum (map stmt_weight bodies) ≤ bodies_terms bodies
weights_low [] = omega arith
weights_low (s ∷ ss) = omega (arith, sum_by-cons (λ x. x) (stmt_weight s) (map stmt_weight ss), weight_le_terms s, weights_low ss)

-- where each thread was weighed
pub all_weights : (bodies : List Stmt) (n : ℕ) (list : List ℕ) → length bodies ≤ n → list ++ map stmt_weight (drop n bodies) ≡ map stmt_weight bodies → list ≡ map stmt_weight bodies
all_weights bodies n list all is =
    sym (append-nil list) ∙ sym (ap (λ rest. list ++ map stmt_weight rest) (drop_all n bodies all)) ∙ is
