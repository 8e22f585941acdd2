-- The names and values of a line, one by one.
use Rattle.std.proofs.Common.{◌≡◌, ℕ, ◌+◌, ◌<◌, ℤ, List, ◌∷◌, ◌++◌, Some, length, drop, get_or, codes, refl, sym, ap, ◌∙◌, append_assoc}
use Rattle.std.specs.List.{slice_get}
use Rattle.std.specs.Fmt.{signed_decimal}
use Rattle.std.proofs.lemmas.List.{drop_more}
use Rattle.std.proofs.lemmas.Option.{slice_get_within, get_or_from_slice_get}
use Rattle.trace_rows.specs.Report.{pairs, pairs_room}

drop_at_some : {X : Type 0} (xs : List X) (i : ℕ) (x : X) → slice_get xs i ≡ Some x → drop i xs ≡ x ∷ drop (i + 1) xs
drop_at_some xs i x e =
    drop_more xs i x (slice_get_within xs i x e) ∙ ap (λ y. y ∷ drop (i + 1) xs) (get_or_from_slice_get xs i x x e)

pub room_step : (names : List (List ℕ)) (i : ℕ) (name : List ℕ) → slice_get names i ≡ Some name → pairs_room (drop i names) ≡ (length name + 13) + pairs_room (drop (i + 1) names)
room_step names i name e = ap pairs_room (drop_at_some names i name e)

-- ` name=value`
abbrev pub pair : List ℕ → ℤ → List ℕ
pair name value = codes " " ++ name ++ codes "=" ++ signed_decimal value

pub pairs_step : (names : List (List ℕ)) (values : List ℤ) (i : ℕ) (name : List ℕ) (d : ℤ) → slice_get names i ≡ Some name → i < length values →
    pairs (drop i names) (drop i values) ≡ pair name (get_or values i d) ++ pairs (drop (i + 1) names) (drop (i + 1) values)
pairs_step names values i name d e h =
    rw (drop_at_some names i name e, drop_more values i d h) refl

-- one pair more, in a buffer whose front was `before`
pub text_step : (names : List (List ℕ)) (values : List ℤ) (i : ℕ) (name : List ℕ) (d : ℤ) (before now tail all : List ℕ) → slice_get names i ≡ Some name → i < length values →
    now ≡ before ++ pair name (get_or values i d) → before ++ (pairs (drop i names) (drop i values) ++ tail) ≡ all →
    now ++ (pairs (drop (i + 1) names) (drop (i + 1) values) ++ tail) ≡ all
text_step names values i name d before now tail all e h f g =
    let one : List ℕ = pair name (get_or values i d) in
    let rest : List ℕ = pairs (drop (i + 1) names) (drop (i + 1) values) in
    ap (λ x. x ++ (rest ++ tail)) f ∙ append_assoc before one (rest ++ tail) ∙ ap (λ x. before ++ x) (sym (append_assoc one rest tail))
    ∙ ap (λ x. before ++ (x ++ tail)) (sym (pairs_step names values i name d e h)) ∙ g
