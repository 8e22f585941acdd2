-- Numbers of 1 to 19 digits.
use Rattle.std.proofs.Common.{◌≡◌, ℕ, ◌<◌, ◌^◌, nat_lt, true, Option, Result, Ok, List, length, ap, ◌∙◌, arith, rules}
use Rattle.std.specs.Char.{is_ascii_digit}
use Rattle.std.specs.List.{list_all}
use Rattle.std.specs.Result.{result_ok}
use Rattle.std.specs.Str.Parse.{digits_value, ParsesUnsigned}
use Rattle.std.proofs.lemmas.Bool.{ltb-true, and_parts}
use Rattle.std.proofs.lemmas.Str.Parse.{IsNumeralModel, IsDigitsTest, numerals_by_value, parse_gives, digits_value_short}
use Rattle.command_words.specs.Numbers.{is_decimal, written_number}

tells : IsDigitsTest (λ ds. list_all is_ascii_digit ds ≡ true)
tells = search rules

own : IsNumeralModel (λ ds. list_all is_ascii_digit ds ≡ true) (digits_value 10)
own = numerals_by_value _ tells

parses : {E : Type 0} (bs : List ℕ) (r : Result ℕ E) → ParsesUnsigned 64 10 bs r → is_decimal bs ≡ true → r ≡ Ok (digits_value 10 bs)
parses bs r h number =
    let all = and_parts (nat_lt 0 (length bs)) _ number in
    let rest = and_parts (nat_lt (length bs) 20) (list_all is_ascii_digit bs) all.1 in
    let some : 0 < length bs = ltb-true _ _ all.0 in
    let few : length bs < 20 = ltb-true _ _ rest.0 in
    let small : digits_value 10 bs < 10 ^ 19 = digits_value_short own bs 19 rest.1 (omega arith) in
    parse_gives own 64 bs r h rest.1 some (omega arith)

pub number_is : {E : Type 0} (bs : List ℕ) (r : Result ℕ E) (o : Option ℕ) → ParsesUnsigned 64 10 bs r → is_decimal bs ≡ true → o ≡ result_ok r → o ≡ written_number bs
number_is bs r o h number is = rw number (is ∙ ap result_ok (parses bs r h number))
