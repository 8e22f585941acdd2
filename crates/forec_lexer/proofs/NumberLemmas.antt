-- What is read as a number is one, and each number is read.
use Rattle.std.proofs.Common.{◌≡◌, ℕ, ◌+◌, ◌*◌, ◌≤◌, Bool, true, false, nat_le, cond, ◌||◌, ◌==◌, ◌⊎◌, inl, inr, List, [], ◌∷◌, ◌++◌, Option, Some, None, refl, sym, ap, subst, ◌∙◌, arith, codes}
use Rattle.std.specs.List.{fold}
use Rattle.std.proofs.lemmas.Bool.Decides.{nat_tests}
use Rattle.forec_tree.specs.Lexis.{is_digit, continues_name, digit_of, is_digit_in, value_in_base, Each, IsNumber, decimal, octal, hexadecimal}
use Rattle.forec_lexer.specs.Reading.{value_from, lexed_number, after_zero}
use Rattle.forec_lexer.specs.Reading as reading
use Rattle.forec_lexer.proofs.Runs.{each_by}

abbrev pub total : ℕ → ℕ → List ℕ → ℕ
total base value ds = fold (λ v b. v * base + digit_of b) value ds

-- ---- digits

pub digit_goes_on : (base b : ℕ) → base ≤ 16 → is_digit_in base b ≡ true → continues_name b ≡ true
digit_goes_on base b le h = grind (arith, nat_tests)

pub digits_go_on : (base : ℕ) (bs : List ℕ) → base ≤ 16 → Each (is_digit_in base) bs → Each continues_name bs
digits_go_on base bs le h = each_by (is_digit_in base) continues_name (λ b e. digit_goes_on base b le e) bs h

decimal_digit : (b : ℕ) → 49 ≤ b → b ≤ 57 → is_digit_in 10 b ≡ true
decimal_digit b lo hi = grind (arith, nat_tests)

abbrev some_of : ℕ → Option ℕ
some_of v = Some v

some_number : (a b : ℕ) → Some a ≡ Some b → a ≡ b
some_number a b h = cc

-- ---- the value of digits

pub record Value (base value : ℕ) (ds : List ℕ) (v : ℕ) : Type 0 where
  pub digits : Each (is_digit_in base) ds
  pub is : v ≡ total base value ds
  pub small : value ≤ 4294967295 → v ≤ 4294967295

value_sound : (base value : ℕ) (ds : List ℕ) (v : ℕ) → value_from base value ds ≡ Some v → Value base value ds v
unfolding value_from
value_sound base value [] v h = let e : value ≡ v = cc in record { digits = tt; is = sym e; small = λ s. omega arith }
value_sound base value (b ∷ bs) v h = by_digit (is_digit_in base b) refl h (λ k. value_sound base (value * base + digit_of b) bs v k)
  where
    by_small : is_digit_in base b ≡ true → (t : Bool) → nat_le (value * base + digit_of b) 4294967295 ≡ t → cond t (value_from base (value * base + digit_of b) bs) None ≡ Some v
        → (value_from base (value * base + digit_of b) bs ≡ Some v → Value base (value * base + digit_of b) bs v) → Value base value (b ∷ bs) v
    by_small d true e k ih =
        let r = ih k in
        record { digits = (d, r.digits); is = r.is; small = λ s. r.small (le (value * base + digit_of b) e) }
      where
        le : (n : ℕ) → nat_le n 4294967295 ≡ true → n ≤ 4294967295
        le n h = grind (arith, nat_tests)
    by_small d false e k ih = absurd (cc)

    by_digit : (t : Bool) → is_digit_in base b ≡ t → cond t (cond (nat_le (value * base + digit_of b) 4294967295) (value_from base (value * base + digit_of b) bs) None) None ≡ Some v
        → (value_from base (value * base + digit_of b) bs ≡ Some v → Value base (value * base + digit_of b) bs v) → Value base value (b ∷ bs) v
    by_digit true d k ih = by_small d (nat_le (value * base + digit_of b) 4294967295) refl k ih
    by_digit false d k ih = absurd (cc)

grows : (base : ℕ) → ((n : ℕ) → n ≤ n * base) → (value : ℕ) (ds : List ℕ) → value ≤ total base value ds
grows base g value [] = omega arith
grows base g value (b ∷ bs) = let ih = grows base g (value * base + digit_of b) bs in omega (arith, ih, g value)

value_complete : (base : ℕ) → ((n : ℕ) → n ≤ n * base) → (value : ℕ) (ds : List ℕ) → Each (is_digit_in base) ds → total base value ds ≤ 4294967295 → value_from base value ds ≡ Some (total base value ds)
unfolding value_from
value_complete base g value [] h s = refl
value_complete base g value (b ∷ bs) h s =
    let le : value * base + digit_of b ≤ 4294967295 = omega (arith, grows base g (value * base + digit_of b) bs) in
    let t : nat_le (value * base + digit_of b) 4294967295 ≡ true = is_le (value * base + digit_of b) le in
    rw (h.0, t) (value_complete base g (value * base + digit_of b) bs h.1 s)
  where
    is_le : (n : ℕ) → n ≤ 4294967295 → nat_le n 4294967295 ≡ true
    is_le n h = grind (arith, nat_tests)

-- ---- numbers

hex_mark : (x : ℕ) → (x == 120 || x == 88) ≡ true → (x ≡ 120) ⊎ (x ≡ 88)
hex_mark x h = by (x == 120) refl (x == 88) refl
  where
    by : (s : Bool) → (x == 120) ≡ s → (t : Bool) → (x == 88) ≡ t → (x ≡ 120) ⊎ (x ≡ 88)
    by true e t f = inl (grind (arith, nat_tests))
    by false e true f = inr (grind (arith, nat_tests))
    by false e false f = absurd (grind (arith, nat_tests))

octal_no_hex : (x : ℕ) → is_digit_in 8 x ≡ true → (x == 120 || x == 88) ≡ false
octal_no_hex x h = grind (arith, nat_tests)

pub record Denoted (bytes : List ℕ) (v : ℕ) : Type 0 where
  pub number : IsNumber bytes v
  pub small : v ≤ 4294967295

octal_read : (b : ℕ) (ds : List ℕ) (v : ℕ) → b ≡ 48 → value_from 8 0 ds ≡ Some v → Denoted (b ∷ ds) v
octal_read b ds v z h = let r = value_sound 8 0 ds v h in record { number = octal ds (rw z) r.digits r.is; small = r.small (omega arith) }

hex_read : (b x : ℕ) (ds : List ℕ) (v : ℕ) → b ≡ 48 → (x ≡ 120) ⊎ (x ≡ 88) → reading.hexadecimal ds ≡ Some v → Denoted (b ∷ x ∷ ds) v
hex_read b x [] v z m h = absurd (cc)
hex_read b x (d ∷ ds) v z m h =
    let r = value_sound 16 0 (d ∷ ds) v h in
    record {
      number = hexadecimal d ds (elim m [ inl e ↦ inl (rw (z, e)) | inr e ↦ inr (rw (z, e)) ]) r.digits r.is;
      small = r.small (omega arith);
    }

behind_read : (b : ℕ) (ds : List ℕ) (v : ℕ) → b ≡ 48 → after_zero ds ≡ Some v → Denoted (b ∷ ds) v
behind_read b [] v z h = octal_read b [] v z h
behind_read b (x ∷ ds) v z h = by (x == 120 || x == 88) refl h
  where
    by : (t : Bool) → (x == 120 || x == 88) ≡ t → cond t (reading.hexadecimal ds) (value_from 8 0 (x ∷ ds)) ≡ Some v → Denoted (b ∷ x ∷ ds) v
    by true e k = hex_read b x ds v z (hex_mark x e) k
    by false e k = octal_read b (x ∷ ds) v z k

-- What is read as a number is one.
pub number_sound : (b : ℕ) (bs : List ℕ) (v : ℕ) → is_digit b ≡ true → lexed_number (b ∷ bs) ≡ Some v → Denoted (b ∷ bs) v
number_sound b bs v d h = by (b == 48) refl h
  where
    by : (t : Bool) → (b == 48) ≡ t → cond t (after_zero bs) (value_from 10 0 (b ∷ bs)) ≡ Some v → Denoted (b ∷ bs) v
    by true e k = behind_read b bs v (grind (arith, nat_tests)) k
    by false e k =
        let r = value_sound 10 0 (b ∷ bs) v k in
        record { number = decimal b bs refl (grind (arith, nat_tests)) (grind (arith, nat_tests)) r.digits.1 r.is; small = r.small (omega arith) }

octal_behind : (ds : List ℕ) → Each (is_digit_in 8) ds → after_zero ds ≡ value_from 8 0 ds
octal_behind [] h = refl
octal_behind (x ∷ ds) h = let e = octal_no_hex x h.0 in rw e

hex_behind : (x d : ℕ) (ds : List ℕ) → (x ≡ 120) ⊎ (x ≡ 88) → after_zero (x ∷ d ∷ ds) ≡ value_from 16 0 (d ∷ ds)
hex_behind x d ds (inl e) = rw e
hex_behind x d ds (inr e) = rw e

-- Each number is read.
pub number_complete : (bytes : List ℕ) (v : ℕ) → IsNumber bytes v → v ≤ 4294967295 → lexed_number bytes ≡ Some v
number_complete bytes v (decimal d ds e lo hi h is) s =
    let k : v ≡ total 10 0 (d ∷ ds) = is ∙ ap (value_in_base 10) e in
    ap lexed_number e ∙ by k (d == 48) refl ∙ ap some_of (sym k)
  where
    by : v ≡ total 10 0 (d ∷ ds) → (t : Bool) → (d == 48) ≡ t → cond t (after_zero ds) (value_from 10 0 (d ∷ ds)) ≡ Some (total 10 0 (d ∷ ds))
    by k true f = absurd (grind (arith, nat_tests))
    by k false f = value_complete 10 (λ n. omega arith) 0 (d ∷ ds) (decimal_digit d lo hi, h) (omega (arith, k, s))
number_complete bytes v (octal ds e h is) s =
    let k : v ≡ total 8 0 ds = is in
    ap lexed_number e ∙ octal_behind ds h ∙ value_complete 8 (λ n. omega arith) 0 ds h (omega (arith, k, s)) ∙ ap some_of (sym k)
number_complete bytes v (hexadecimal d ds p h is) s =
    let k : v ≡ total 16 0 (d ∷ ds) = is in
    read p ∙ value_complete 16 (λ n. omega arith) 0 (d ∷ ds) h (omega (arith, k, s)) ∙ ap some_of (sym k)
  where
    read : (bytes ≡ codes "0x" ++ d ∷ ds) ⊎ (bytes ≡ codes "0X" ++ d ∷ ds) → lexed_number bytes ≡ value_from 16 0 (d ∷ ds)
    read (inl e) = ap lexed_number e
    read (inr e) = ap lexed_number e

-- ---- the bytes of a number

pub number_goes_on : (bytes : List ℕ) (v : ℕ) → IsNumber bytes v → Each continues_name bytes
number_goes_on bytes v (decimal d ds e lo hi h is) =
    let P : List ℕ → Type 0 = λ z. Each continues_name z in
    subst P (sym e) (digit_goes_on 10 d (omega arith) (decimal_digit d lo hi), digits_go_on 10 ds (omega arith) h)
number_goes_on bytes v (octal ds e h is) = let P : List ℕ → Type 0 = λ z. Each continues_name z in subst P (sym e) (refl, digits_go_on 8 ds (omega arith) h)
number_goes_on bytes v (hexadecimal d ds (inl e) h is) = let P : List ℕ → Type 0 = λ z. Each continues_name z in subst P (sym e) (refl, (refl, digits_go_on 16 (d ∷ ds) (omega arith) h))
number_goes_on bytes v (hexadecimal d ds (inr e) h is) = let P : List ℕ → Type 0 = λ z. Each continues_name z in subst P (sym e) (refl, (refl, digits_go_on 16 (d ∷ ds) (omega arith) h))

pub number_first : (b : ℕ) (bs : List ℕ) (v : ℕ) → IsNumber (b ∷ bs) v → is_digit b ≡ true
number_first b bs v (decimal d ds e lo hi h is) = let k : b ≡ d = cc in grind (arith, nat_tests)
number_first b bs v (octal ds e h is) = let k : b ≡ 48 = cc in rw k
number_first b bs v (hexadecimal d ds (inl e) h is) = let k : b ≡ 48 = cc in rw k
number_first b bs v (hexadecimal d ds (inr e) h is) = let k : b ≡ 48 = cc in rw k

pub number_some : (v : ℕ) → IsNumber [] v → ⊥
number_some v (decimal d ds e lo hi h is) = cc
number_some v (octal ds e h is) = cc
number_some v (hexadecimal d ds (inl e) h is) = cc
number_some v (hexadecimal d ds (inr e) h is) = cc
