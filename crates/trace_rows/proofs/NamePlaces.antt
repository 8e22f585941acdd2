-- Where names stand first.
use Rattle.std.proofs.Common.{◌≡◌, inl, inr, ℕ, ◌<◌, ◌≤◌, true, false, List, [], ◌∷◌, Some, None, length, ◌+◌, ◌++◌, take, get_or, refl, sym, ap, ◌∙◌, arith}
use Rattle.std.specs.List.{position, position_or_len, slice_get}
use Rattle.std.specs.Str.{bytes_eq}
use Rattle.std.proofs.lemmas.Bool.{cases_lt, le-ltb, lt-ltb}
use Rattle.std.proofs.lemmas.List.{get_or-map, length-map, take_more}
use Rattle.std.proofs.lemmas.List.Sums.{fails_before_first, position_or_len_is}
use Rattle.std.proofs.lemmas.Option.{slice_get_within, get_or_from_slice_get}
use Rattle.std.proofs.lemmas.Slice.Eq.{bytes_eq-Decides}
use Rattle.trace_rows.specs.Trace.{places_of}

pub bytes_eq_same : (xs ys : List ℕ) → xs ≡ ys → bytes_eq xs ys ≡ true
bytes_eq_same xs ys e = (bytes_eq-Decides xs ys).1 e

pub position_some : {X : Type 0} (p : X → _) (xs : List X) → position_or_len p xs < length xs → Some (position_or_len p xs) ≡ position p xs
position_some p xs low = rw (lt-ltb (position_or_len p xs) (length xs) low) refl

-- where a name stands among names, it stands first within them
first_within : (names : List (List ℕ)) (i : ℕ) (name : List ℕ) → slice_get names i ≡ Some name → position_or_len (bytes_eq name) names < length names
first_within names i name at =
    let low : i < length names = slice_get_within names i name at in
    let same : get_or names i [] ≡ name = get_or_from_slice_get names i name [] at in
    elim (cases_lt i (position_or_len (bytes_eq name) names)) [
      | inl less ↦ absurd (
          let no : bytes_eq name (get_or names i []) ≡ false = fails_before_first (bytes_eq name) names i [] less in
          let yes : bytes_eq name (get_or names i []) ≡ true = bytes_eq_same name (get_or names i []) (sym same) in cc)
      | inr past ↦ omega arith
    ]

pub first_is : (names : List (List ℕ)) (firsts : List ℕ) (i : ℕ) (name : List ℕ) (place : ℕ) → firsts ≡ places_of names names → slice_get names i ≡ Some name → place ≡ get_or firsts i place →
    Some place ≡ position (bytes_eq name) names
first_is names firsts i name place e at read =
    let first : List ℕ → ℕ = λ n. position_or_len (bytes_eq n) names in
    let is : place ≡ first name =
    read ∙ ap (λ (ps : List ℕ). get_or ps i place) e ∙ get_or-map first names i [] place (slice_get_within names i name at) ∙ ap first (get_or_from_slice_get names i name [] at) in
    ap Some is ∙ position_some (bytes_eq name) names (first_within names i name at)

pub firsts_within : (names : List (List ℕ)) (firsts : List ℕ) (i : ℕ) (name : List ℕ) → firsts ≡ places_of names names → slice_get names i ≡ Some name → i < length firsts
firsts_within names firsts i name e at =
    let low : i < length names = slice_get_within names i name at in
    omega (arith, low, ap length e, length-map names (λ n. position_or_len (bytes_eq n) names))

-- none of the first texts is the name
abbrev pub NoneBefore : List (List ℕ) → List ℕ → ℕ → Type 0
NoneBefore texts name i = (k : ℕ) → k < i → bytes_eq name (get_or texts k []) ≡ false

pub place_found : (texts : List (List ℕ)) (name text : List ℕ) (i : ℕ) → slice_get texts i ≡ Some text → bytes_eq name text ≡ true → NoneBefore texts name i → i ≡ position_or_len (bytes_eq name) texts
place_found texts name text i at same none =
    let low : i < length texts = slice_get_within texts i text at in
    sym (position_or_len_is (bytes_eq name) texts i [] (omega arith) none (λ h. ap (bytes_eq name) (get_or_from_slice_get texts i text [] at) ∙ same))

pub none_more : (texts : List (List ℕ)) (name text : List ℕ) (i : ℕ) → slice_get texts i ≡ Some text → bytes_eq name text ≡ false → NoneBefore texts name i → NoneBefore texts name (i + 1)
none_more texts name text i at other none k low =
    elim (cases_lt k i) [
      | inl less ↦ none k less
      | inr more ↦ (let is : k ≡ i = omega arith in ap (λ j. bytes_eq name (get_or texts j [])) is ∙ ap (bytes_eq name) (get_or_from_slice_get texts i text [] at) ∙ other)
    ]

pub place_none : (texts : List (List ℕ)) (name : List ℕ) (i : ℕ) → length texts ≤ i → NoneBefore texts name i → length texts ≡ position_or_len (bytes_eq name) texts
place_none texts name i end none = sym (position_or_len_is (bytes_eq name) texts (length texts) [] (omega arith) (λ k low. none k (omega arith)) (λ h. absurd (omega arith)))

pub copy_more : (texts copy : List (List ℕ)) (i : ℕ) (text : List ℕ) → slice_get texts i ≡ Some text → copy ≡ take i texts → copy ++ text ∷ [] ≡ take (i + 1) texts
copy_more texts copy i text at so_far =
    ap (λ c. c ++ text ∷ []) so_far
    ∙ sym (take_more texts i text (slice_get_within texts i text at) ∙ ap (λ t. take i texts ++ t ∷ []) (get_or_from_slice_get texts i text text at))

pub found_at : (names : List (List ℕ)) (name : List ℕ) (place : ℕ) → place ≡ position_or_len (bytes_eq name) names → place < length names → Some place ≡ position (bytes_eq name) names
found_at names name place e low = ap Some e ∙ position_some (bytes_eq name) names (omega (arith, e))

pub not_found : (names : List (List ℕ)) (name : List ℕ) (place : ℕ) → place ≡ position_or_len (bytes_eq name) names → length names ≤ place → None ≡ position (bytes_eq name) names
not_found names name place e high = rw (le-ltb (position_or_len (bytes_eq name) names) (length names) (omega (arith, e))) refl
