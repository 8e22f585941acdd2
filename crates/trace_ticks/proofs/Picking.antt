-- Names of variables, one by one.
use Rattle.std.proofs.Common.{◌≡◌, ℕ, ◌+◌, ◌<◌, Bool, true, false, ◌&&◌, IsTrue, nat_lt, List, [], ◌∷◌, ◌++◌, Some, length, get_or, drop, slice_get, sym, ap, subst, ◌∙◌, append_assoc}
use Rattle.std.proofs.lemmas.List.{drop_more}
use Rattle.std.proofs.lemmas.Option.{get_or_from_slice_get}
use Rattle.forec_kernel.specs.WellFormed.{all_below}
use Rattle.trace_ticks.specs.KernelNames.{names_at}

right_too : (a b : Bool) → IsTrue (a && b) → IsTrue b
right_too true b h = h
right_too false b h = absurd cc

-- the first variable and those after it
pub below_more : (n : ℕ) (vs : List ℕ) (i : ℕ) → i < length vs → IsTrue (all_below n (drop i vs)) → IsTrue (all_below n (drop (i + 1) vs))
below_more n vs i h b =
    right_too (nat_lt (get_or vs i 0) n) (all_below n (drop (i + 1) vs)) (subst (λ l. IsTrue (all_below n l)) (drop_more vs i 0 h) b)

pub names_more : (names picked new : List (List ℕ)) (name : List ℕ) (vs : List ℕ) (i : ℕ) (all : List (List ℕ)) → i < length vs → slice_get names (get_or vs i 0) ≡ Some name →
    new ≡ picked ++ name ∷ [] → picked ++ names_at names (drop i vs) ≡ all → new ++ names_at names (drop (i + 1) vs) ≡ all
names_more names picked new name vs i all h g e told =
    let rest = names_at names (drop (i + 1) vs) in
    ap (λ x. x ++ rest) e ∙ append_assoc picked (name ∷ []) rest ∙ ap (λ x. picked ++ (x ∷ rest)) (sym (get_or_from_slice_get names (get_or vs i 0) name [] g))
    ∙ ap (λ l. picked ++ names_at names l) (sym (drop_more vs i 0 h)) ∙ told
