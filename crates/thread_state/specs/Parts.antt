-- Lists that lie one behind the other in one list.
use Rattle.std.specs.Prelude.{ℕ, ◌-◌, ◌≡◌, ◌≤◌, List, [], ◌∷◌, take, drop}

-- from each start up to the next one
abbrev pub parts : List ℕ → List ℕ → List (List ℕ)
parts [] xs = []
parts (from ∷ []) xs = []
parts (from ∷ to ∷ starts) xs = take (to - from) (drop from xs) ∷ parts (to ∷ starts) xs

-- no start is greater than the next one, and the last one is n
abbrev pub RiseTo : ℕ → List ℕ → Type 0
RiseTo n [] = ⊥
RiseTo n (last ∷ []) = last ≡ n
RiseTo n (from ∷ to ∷ starts) = (from ≤ to) × RiseTo n (to ∷ starts)
