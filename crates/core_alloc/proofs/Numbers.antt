-- Numbers of one to three digits, and lists of them.
use Rattle.std.proofs.Common.{◌≡◌, ℕ, ◌+◌, ◌<◌, ◌≤◌, ◌^◌, ◌==◌, nat_lt, is_none, Bool, true, false, not, cond, Option, None, Some, option_map, unwrap_or, position, Result, Ok, List, [], ◌∷◌, length, map, All, refl, ap, ◌∙◌, arith, rules}
use Rattle.std.specs.Char.{is_ascii_digit}
use Rattle.std.specs.List.{list_all, position_or_len}
use Rattle.std.specs.Result.{result_ok}
use Rattle.std.specs.Str.Parse.{digits_value, ParsesUnsigned}
use Rattle.std.proofs.lemmas.Bool.{not-false, ltb-true, and_parts}
use Rattle.std.proofs.lemmas.List.{length-map}
use Rattle.std.proofs.lemmas.List.Sums.{fails_before_first}
use Rattle.std.proofs.lemmas.Str.Parse.{IsNumeralModel, IsDigitsTest, numerals_by_value, parse_gives, digits_value_short}
use Rattle.core_alloc.specs.Places.{is_number_in, piece_number, is_core, piece_numbers, refusal}
use Rattle.core_alloc.specs.declared.fault.PlaceFault.TheVariants.{Core}

-- ---- one number

tells : IsDigitsTest (λ ds. list_all is_ascii_digit ds ≡ true)
tells = search rules

own : IsNumeralModel (λ ds. list_all is_ascii_digit ds ≡ true) (digits_value 10)
own = numerals_by_value _ tells

parses : {E : Type 0} (bs : List ℕ) (r : Result ℕ E) → ParsesUnsigned 32 10 bs r → is_number_in bs ≡ true → r ≡ Ok (digits_value 10 bs)
parses bs r h number =
    let all = and_parts (nat_lt 0 (length bs)) _ number in
    let rest = and_parts (nat_lt (length bs) 4) (list_all is_ascii_digit bs) all.1 in
    let some : 0 < length bs = ltb-true _ _ all.0 in
    let few : length bs < 4 = ltb-true _ _ rest.0 in
    let small : digits_value 10 bs < 10 ^ 3 = digits_value_short own bs 3 rest.1 (omega arith) in
    parse_gives own 32 bs r h rest.1 some (omega arith)

pub number_is : {E : Type 0} (bs : List ℕ) (r : Result ℕ E) (o : Option ℕ) → ParsesUnsigned 32 10 bs r → is_number_in bs ≡ true → o ≡ result_ok r → o ≡ piece_number bs
number_is bs r o h number is = rw number (is ∙ ap result_ok (parses bs r h number))

-- ---- lists of numbers

past_all : {X : Type 0} (p : X → Bool) (xs : List X) (b : Bool) → nat_lt (position_or_len p xs) (length xs) ≡ b →
    cond b (Some (position_or_len p xs)) None ≡ None → length xs ≤ position_or_len p xs
past_all p xs true e none = cc
past_all p xs false e none = grind (arith, e)

-- no place is found where no element passes
not_found : {X : Type 0} (p : X → Bool) (xs : List X) → position p xs ≡ None → length xs ≤ position_or_len p xs
not_found p xs none = past_all p xs (nat_lt (position_or_len p xs) (length xs)) refl none

abbrev pub value_of : Option ℕ → ℕ
value_of number = unwrap_or number 0

values_within : (numbers : List (Option ℕ)) → length numbers ≤ position_or_len is_none numbers → map (λ n. Some n) (map value_of numbers) ≡ numbers
values_within [] all = refl
values_within (None ∷ numbers) all = absurd (omega arith)
values_within (Some n ∷ numbers) all = ap (λ ns. Some n ∷ ns) (values_within numbers (omega arith))

-- where each piece has a number, they are those
pub values : (numbers : List (Option ℕ)) → position is_none numbers ≡ None → map (λ n. Some n) (map value_of numbers) ≡ numbers
values numbers none = values_within numbers (not_found is_none numbers none)

cores_within : (cores : ℕ) (numbers : List (Option ℕ)) → length numbers ≤ position_or_len is_none numbers →
    position_or_len (λ n. not (is_core cores n)) numbers ≡ position_or_len (λ core. not (nat_lt core cores)) (map value_of numbers)
cores_within cores [] all = refl
cores_within cores (None ∷ numbers) all = absurd (omega arith)
cores_within cores (Some n ∷ numbers) all = ap (λ k. cond (not (not (nat_lt n cores))) (1 + k) 0) (cores_within cores numbers (omega arith))

-- the first number that is none of a core is found among the values
pub cores_found : (cores : ℕ) (numbers : List (Option ℕ)) → position is_none numbers ≡ None →
    position (λ n. not (is_core cores n)) numbers ≡ position (λ core. not (nat_lt core cores)) (map value_of numbers)
cores_found cores numbers none =
    rw (cores_within cores numbers (not_found is_none numbers none), length-map numbers value_of) refl

pub below : (cores : ℕ) (places : List ℕ) → position (λ core. not (nat_lt core cores)) places ≡ None → All (λ core. core < cores) places
below cores places none k d here =
    let all : length places ≤ position_or_len (λ core. not (nat_lt core cores)) places = not_found (λ core. not (nat_lt core cores)) places none in
    ltb-true _ _ (not-false _ (fails_before_first (λ core. not (nat_lt core cores)) places k d (omega arith)))

same_test : (n : ℕ) → (n == n) ≡ true
same_test n = grind arith

-- where each piece has a number, and there is one for each thread, what is left to refuse is a core
past_count : (text : List ℕ) (threads cores : ℕ) → position is_none (piece_numbers text) ≡ None → length (piece_numbers text) ≡ threads →
    refusal text threads cores ≡ option_map (λ at. Core at) (position (λ core. not (nat_lt core cores)) (map value_of (piece_numbers text)))
past_count text threads cores none count =
    let as_many : (length (piece_numbers text) == threads) ≡ true = rw count (same_test threads) in
    rw (none, as_many) (ap (option_map (λ at. Core at)) (cores_found cores (piece_numbers text) none))

pub refuses_core : (text : List ℕ) (threads cores : ℕ) (numbers : List (Option ℕ)) (places : List ℕ) (found : Option ℕ) →
    numbers ≡ piece_numbers text → position is_none numbers ≡ None → length numbers ≡ threads → places ≡ map value_of numbers →
    found ≡ position (λ core. not (nat_lt core cores)) places → refusal text threads cores ≡ option_map (λ at. Core at) found
refuses_core text threads cores numbers places found is none count are found_is =
    past_count text threads cores (rw (← is) none) (rw (← is) count) ∙ ap (option_map (λ at. Core at)) (rw (found_is, are, is) refl)
