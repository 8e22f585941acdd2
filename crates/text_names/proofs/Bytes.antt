-- The bytes of names.
use Rattle.std.proofs.Common.{◌≡◌, ℕ, zero, suc, ◌<◌, ◌%◌, ◌/◌, Bool, true, false, cond, not, ◌&&◌, ◌||◌, ◌==◌, List, [], ◌∷◌, ◌++◌, get_or, codes, decimal, refl, arith}
use Rattle.std.specs.List.{AllByRecursion}
use Rattle.std.specs.Fmt.{digits, digits_onto, digit_glyph}
use Rattle.std.proofs.lemmas.Bool.{agree_below_at}
use Rattle.std.proofs.lemmas.Bool.Decides.{nat_tests}
use Rattle.forec_tree.specs.Lexis.{is_letter, is_digit, continues_name, Each, IsName}
use Rattle.text_names.specs.Names.{is_plain_byte, IsPlainName, is_safe_byte, IsSafeName, IsVariableName, whole_name, array_element, names_by_number}

-- ---- lists

module _ {X : Type 0} (P : X → Type 0) where
  pub all_append : (xs ys : List X) → AllByRecursion P xs → AllByRecursion P ys → AllByRecursion P (xs ++ ys)
  all_append [] ys h g = g
  all_append (x ∷ xs) ys h g = (h.0, all_append xs ys h.1 g)

  all_get : (xs : List X) (i : ℕ) (d : X) → AllByRecursion P xs → P d → P (get_or xs i d)
  all_get [] i d h p = p
  all_get (x ∷ xs) zero d h p = h.0
  all_get (x ∷ xs) (suc i) d h p = all_get xs i d h.1 p

  pub all_weaker : (Q : X → Type 0) → ((x : X) → P x → Q x) → (xs : List X) → AllByRecursion P xs → AllByRecursion Q xs
  all_weaker Q f [] h = tt
  all_weaker Q f (x ∷ xs) h = (f x h.0, all_weaker Q f xs h.1)

-- ---- a plain name

plain_goes_on : (b : ℕ) → continues_name b ≡ true → is_plain_byte b ≡ true
plain_goes_on b h = by (continues_name b) h
  where
    by : (t : Bool) → t ≡ true → (t || (b == 91 || b == 93)) ≡ true
    by true e = refl
    by false e = absurd cc

each_plain : (bs : List ℕ) → Each continues_name bs → IsPlainName bs
each_plain [] h = tt
each_plain (b ∷ bs) h = (plain_goes_on b h.0, each_plain bs h.1)

letter_goes_on : (b : ℕ) → is_letter b ≡ true → continues_name b ≡ true
letter_goes_on b h = by (is_letter b) h
  where
    by : (t : Bool) → t ≡ true → (t || is_digit b) ≡ true
    by true e = refl
    by false e = absurd cc

pub name_plain : (name : List ℕ) → IsName name → IsPlainName name
name_plain [] h = absurd h
name_plain (b ∷ bs) h = (plain_goes_on b (letter_goes_on b h.0), each_plain bs h.1)

-- ---- a number in decimals

abbrev pub never : ℕ → Bool
never b = false

pub surely : (t : Bool) → not t ≡ false → t ≡ true
surely true h = refl
surely false h = absurd cc

-- where a test passes each digit, it passes the bytes of a number
module _ (passes : ℕ → Bool) (digit : (n : ℕ) → passes (digit_glyph false (n % 10)) ≡ true) where
  abbrev Pass : List ℕ → Type 0
  Pass = AllByRecursion (λ b. passes b ≡ true)

  digits_pass : (k n : ℕ) (acc : List ℕ) → Pass acc → Pass (digits_onto k 10 false n acc)
  digits_pass zero n acc h = h
  digits_pass (suc k) n acc h = by (n / 10 == 0) (digits_pass k (n / 10) (digit_glyph false (n % 10) ∷ acc) (digit n, h))
    where
      by : (t : Bool) → Pass (digits_onto k 10 false (n / 10) (digit_glyph false (n % 10) ∷ acc)) →
          Pass (cond t (digit_glyph false (n % 10) ∷ acc) (digits_onto k 10 false (n / 10) (digit_glyph false (n % 10) ∷ acc)))
      by true r = (digit n, h)
      by false r = r

  pub decimal_passes : (n : ℕ) → Pass (decimal n)
  unfolding digits
  decimal_passes n = digits_pass 64 n [] tt

abbrev wrong_digit : ℕ → Bool
wrong_digit d = not (is_plain_byte (digit_glyph false d))

glyph_plain : (n : ℕ) → is_plain_byte (digit_glyph false (n % 10)) ≡ true
glyph_plain n =
    let small : n % 10 < 10 = omega arith in
    surely (is_plain_byte (digit_glyph false (n % 10))) (agree_below_at wrong_digit never 10 (n % 10) refl small)

decimal_plain : (n : ℕ) → IsPlainName (decimal n)
decimal_plain n = decimal_passes is_plain_byte glyph_plain n

-- ---- the name of a variable

pub variable_plain : (name : List ℕ) → IsVariableName name → IsPlainName name
variable_plain name (whole_name n h) = name_plain n h
variable_plain name (array_element array i h) =
    let P : ℕ → Type 0 = λ b. is_plain_byte b ≡ true in
    all_append P (array ++ codes "[" ++ decimal i) (codes "]")
    (all_append P (array ++ codes "[") (decimal i) (all_append P array (codes "[") (name_plain array h) (refl, tt)) (decimal_plain i)) (refl, tt)

-- ---- a safe name

abbrev wrong_byte : ℕ → Bool
wrong_byte b = is_plain_byte b && not (is_safe_byte b)

small_byte : (b : ℕ) → is_plain_byte b ≡ true → b < 127
small_byte b h = grind (arith, nat_tests)

both_true : (x y : Bool) → x ≡ true → (x && not y) ≡ false → y ≡ true
both_true true true h k = refl
both_true true false h k = absurd cc
both_true false y h k = absurd cc

pub safe_byte : (b : ℕ) → is_plain_byte b ≡ true → is_safe_byte b ≡ true
safe_byte b h = both_true (is_plain_byte b) (is_safe_byte b) h (agree_below_at wrong_byte never 127 b refl (small_byte b h))

pub safe_name : (name : List ℕ) → IsPlainName name → IsSafeName name
safe_name [] h = tt
safe_name (b ∷ name) h = (safe_byte b h.0, safe_name name h.1)

-- the names at some numbers are safe where all names are plain, also where a number is that of none
pub safe_names : (names : List (List ℕ)) (numbers : List ℕ) → AllByRecursion IsPlainName names → AllByRecursion IsSafeName (names_by_number names numbers)
safe_names names [] h = tt
safe_names names (v ∷ rest) h = (safe_name (get_or names v []) (all_get IsPlainName names v [] h tt), safe_names names rest h)
