-- The names of a header, one by one.
use Rattle.std.proofs.Common.{◌≡◌, ℕ, ◌+◌, ◌<◌, ◌==◌, Bool, true, false, List, [], ◌∷◌, ◌++◌, map, Some, length, count_by, take, get_or, set, sym, ap, ◌∙◌}
use Rattle.std.specs.List.{position_or_len, slice_get, list_all}
use Rattle.std.specs.Str.{bytes_eq}
use Rattle.std.proofs.lemmas.Bool.{and_right, and_from, eq-eqb, ne_eqb}
use Rattle.std.proofs.lemmas.List.{take_more, take_more_set, map-append}
use Rattle.std.proofs.lemmas.List.Folds.{list_all_at, list_all_more}
use Rattle.std.proofs.lemmas.Option.{slice_get_within, get_or_from_slice_get}
use Rattle.trace_rows.specs.Trace.{names_each, places_of}

-- the name stands once among the words
abbrev pub stands_once : List (List ℕ) → List ℕ → Bool
stands_once words name = count_by (bytes_eq name) words == 1

pub once_more : (names words : List (List ℕ)) (i : ℕ) (name : List ℕ) → slice_get names i ≡ Some name → count_by (bytes_eq name) words ≡ 1 →
    list_all (stands_once words) (take i names) ≡ true → list_all (stands_once words) (take (i + 1) names) ≡ true
once_more names words i name e once so_far =
    list_all_more (stands_once words) names i name (slice_get_within names i name e)
    ∙ and_from (list_all (stands_once words) (take i names)) (stands_once words (get_or names i name)) so_far
    (ap (stands_once words) (get_or_from_slice_get names i name name e) ∙ eq-eqb (count_by (bytes_eq name) words) 1 once)

pub places_more : (names words : List (List ℕ)) (i : ℕ) (name : List ℕ) (places : List ℕ) → slice_get names i ≡ Some name → i < length places →
    take i places ≡ places_of (take i names) words → take (i + 1) (set places i (position_or_len (bytes_eq name) words)) ≡ places_of (take (i + 1) names) words
places_more names words i name places e low so_far =
    let place : List ℕ → ℕ = λ n. position_or_len (bytes_eq n) words in
    take_more_set places i (place name) low ∙ ap (λ ps. ps ++ place name ∷ []) so_far
    ∙ sym (ap (map place) (take_more names i name (slice_get_within names i name e)) ∙ map-append place (take i names) (get_or names i name ∷ [])
    ∙ ap (λ n. map place (take i names) ++ place n ∷ []) (get_or_from_slice_get names i name name e))

-- a name that doesn't stand once
pub not_each : (names words : List (List ℕ)) (i : ℕ) (name : List ℕ) → slice_get names i ≡ Some name → (count_by (bytes_eq name) words ≡ 1 → ⊥) → names_each names words ≡ false
not_each names words i name e other =
    and_right (length words == length names) (list_all (stands_once words) names)
    (list_all_at (stands_once words) names i name (slice_get_within names i name e)
    (ap (stands_once words) (get_or_from_slice_get names i name name e) ∙ ne_eqb (count_by (bytes_eq name) words) 1 other))
