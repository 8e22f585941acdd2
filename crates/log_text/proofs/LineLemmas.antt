-- The lines of a text, and that each line of a log is one.
use Rattle.std.proofs.Common.{◌≡◌, ◌≢◌, ℕ, suc, ◌<◌, ◌^◌, Bool, true, false, cond, eqb, List, [], ◌∷◌, ◌++◌, ℤ, pos, negsuc, length, codes, refl, sym, ap, ◌∙◌, arith, append_assoc, FitsSigned}
use Rattle.std.specs.Int.{w32}
use Rattle.std.specs.Char.{digit_value}
use Rattle.std.specs.Fmt.{decimal, signed_decimal}
use Rattle.std.specs.Str.Parse.{AllDigits}
use Rattle.std.proofs.lemmas.Bool.{ne_eqb, eqb-false}
use Rattle.std.proofs.lemmas.Fmt.{decimal_is_IsNumeral}
use Rattle.forec_base.specs.declared.Trap.{Trap}
use Rattle.forec_base.specs.declared.Trap.TheVariants as trap
use Rattle.forec_kernel.specs.declared.shape.VarCopy.{VarCopy}
use Rattle.forec_kernel.specs.Engine.{Job, Start, Wake, Reply, WasPaused, WasEnded, WasTrapped, WasOver}
use Rattle.exchange_meaning.specs.LogLines.{spaced_numbers, marked_numbers, job_line, reply_line, logged_trap}
use Rattle.exchange_meaning.specs.OfShape.{AreInts, HaveInts, HasJobNumbers, HasReplyNumbers}
use Rattle.log_text.specs.Pieces.{IsDecimal}
use Rattle.log_text.specs.Fronts.{lines_in, onto_first, IsHeadLine}

-- no byte 10 is in it
abbrev pub IsInner : List ℕ → Type 0
IsInner [] = Unit {0}
IsInner (b ∷ bs) = (b ≢ 10) × IsInner bs

pub record IsLine (line : List ℕ) : Type 0 where
  pub inner : List ℕ
  pub some : 0 < length inner
  pub free : IsInner inner
  pub is : line ≡ inner ++ 10 ∷ []

pub lines_at : (w rest : List ℕ) → IsInner w → lines_in (w ++ 10 ∷ rest) ≡ (w ++ 10 ∷ []) ∷ lines_in rest
lines_at [] rest h = refl
lines_at (b ∷ w) rest h = rw (ne_eqb b 10 h.0, lines_at w rest h.1) refl

pub lines_step : (line rest : List ℕ) → IsLine line → lines_in (line ++ rest) ≡ line ∷ lines_in rest
lines_step line rest l =
    ap (λ (x : List ℕ). lines_in (x ++ rest)) l.is ∙ (ap lines_in (append_assoc l.inner (10 ∷ []) rest) ∙ (lines_at l.inner rest l.free ∙ ap (λ (x : List ℕ). x ∷ lines_in rest) (sym l.is)))

-- the first line of a text stands at its front
pub first_line : (xs line : List ℕ) (lines : List (List ℕ)) → lines_in xs ≡ line ∷ lines → (rest : List ℕ) × (xs ≡ line ++ rest)
first_line [] line lines e = absurd (cc)
first_line (b ∷ bs) line lines e = by_test (λ m ms. first_line bs m ms) (eqb b 10) e
  where
    onto : ((m : List ℕ) (ms : List (List ℕ)) → lines_in bs ≡ m ∷ ms → (rest : List ℕ) × (bs ≡ m ++ rest)) → (ls : List (List ℕ)) → lines_in bs ≡ ls → onto_first b ls ≡ line ∷ lines →
        (rest : List ℕ) × (b ∷ bs ≡ line ++ rest)
    onto later [] same h = (bs, let first : b ∷ [] ≡ line = cc in ap (λ (l : List ℕ). l ++ bs) first)
    onto later (m ∷ ms) same h =
        let r = later m ms same in
        let first : b ∷ m ≡ line = cc in
        (r.0, ap (λ (l : List ℕ). b ∷ l) r.1 ∙ ap (λ (l : List ℕ). l ++ r.0) first)

    by_test : ((m : List ℕ) (ms : List (List ℕ)) → lines_in bs ≡ m ∷ ms → (rest : List ℕ) × (bs ≡ m ++ rest)) → (test : Bool) → cond test ((b ∷ []) ∷ lines_in bs) (onto_first b (lines_in bs)) ≡ line ∷ lines →
        (rest : List ℕ) × (b ∷ bs ≡ line ++ rest)
    by_test later true h = (bs, let first : b ∷ [] ≡ line = cc in ap (λ (l : List ℕ). l ++ bs) first)
    by_test later false h = onto later (lines_in bs) refl h

-- ---- pieces without byte 10

pub inner_append : (xs ys : List ℕ) → IsInner xs → IsInner ys → IsInner (xs ++ ys)
inner_append [] ys p q = q
inner_append (x ∷ xs) ys p q = (p.0, inner_append xs ys p.1 q)

inner_digits : (ds : List ℕ) → AllDigits 10 ds → IsInner ds
inner_digits [] h = tt
inner_digits (d ∷ ds) h = (λ e. let low : digit_value 10 < 10 = rw e at h.0 in omega arith, inner_digits ds h.1)

pub inner_decimal : (n : ℕ) → n < 2 ^ 64 → IsInner (decimal n)
inner_decimal n small = inner_digits (decimal n) (decimal_is_IsNumeral n small).0.1

pub inner_number : (digits : List ℕ) (n : ℕ) → IsDecimal digits n → IsInner digits
inner_number digits n d = inner_digits digits d.numeral.1

inner_signed : (n : ℤ) → FitsSigned w32 n → IsInner (signed_decimal n)
inner_signed (pos n) h = inner_decimal n (omega (arith, h.sfits))
inner_signed (negsuc n) h = (λ e. omega arith, inner_decimal (suc n) (omega (arith, h.sfits)))

pub inner_spaced : (ns : List ℤ) → AreInts ns → IsInner (spaced_numbers ns)
inner_spaced [] h = tt
inner_spaced (n ∷ ns) h = inner_append (32 ∷ signed_decimal n) (spaced_numbers ns) (λ e. omega arith, inner_signed n h.0) (inner_spaced ns h.1)

inner_star : (marked : Bool) → IsInner (cond marked (codes "*") [])
inner_star true = (λ e. omega arith, tt)
inner_star false = tt

pub inner_marked : (cs : List VarCopy) → HaveInts cs → IsInner (marked_numbers cs)
inner_marked [] h = tt
inner_marked (c ∷ cs) h =
    inner_append ((32 ∷ signed_decimal c.value) ++ cond c.modified (codes "*") []) (marked_numbers cs)
    (inner_append (32 ∷ signed_decimal c.value) (cond c.modified (codes "*") []) (λ e. omega arith, inner_signed c.value h.0) (inner_star c.modified)) (inner_marked cs h.1)

-- a text of these codes, in which none is 10
abbrev is_free : List ℕ → Bool
is_free [] = true
is_free (b ∷ bs) = cond (eqb b 10) false (is_free bs)

inner_codes : (bs : List ℕ) → is_free bs ≡ true → IsInner bs
inner_codes [] h = tt
inner_codes (b ∷ bs) h = by_test (inner_codes bs) (eqb b 10) refl h
  where
    by_test : (is_free bs ≡ true → IsInner bs) → (test : Bool) → eqb b 10 ≡ test → cond test false (is_free bs) ≡ true → IsInner (b ∷ bs)
    by_test later true e h = absurd (cc)
    by_test later false e h = (eqb-false b 10 e, later h)

-- ---- the lines of a log

pub job_is_line : (j : Job) → HasJobNumbers j → IsLine (job_line j)
job_is_line (Start args values a) h = record {
  inner = ((codes "start " ++ decimal a) ++ spaced_numbers args) ++ spaced_numbers values;
  free = inner_append ((codes "start " ++ decimal a) ++ spaced_numbers args) (spaced_numbers values)
      (inner_append (codes "start " ++ decimal a) (spaced_numbers args)
      (inner_append (codes "start ") (decimal a) (inner_codes (codes "start ") refl) (inner_decimal a (omega (arith, h.2)))) (inner_spaced args h.0)) (inner_spaced values h.1);
  is = refl;
  some = omega arith;
}
job_is_line (Wake values a) h = record {
  inner = (codes "wake " ++ decimal a) ++ spaced_numbers values;
  free = inner_append (codes "wake " ++ decimal a) (spaced_numbers values)
      (inner_append (codes "wake ") (decimal a) (inner_codes (codes "wake ") refl) (inner_decimal a (omega (arith, h.1)))) (inner_spaced values h.0);
  is = refl;
  some = omega arith;
}

inner_trap : (k : Trap) → IsInner (logged_trap k)
inner_trap trap.Divide = inner_codes (codes "divide") refl
inner_trap trap.Index = inner_codes (codes "index") refl
inner_trap trap.Turns = inner_codes (codes "turns") refl

pub reply_is_line : (r : Reply) → HasReplyNumbers r → IsLine (reply_line r)
reply_is_line (WasPaused copies u) h = record {
  inner = (codes "paused " ++ decimal u) ++ marked_numbers copies;
  free = inner_append (codes "paused " ++ decimal u) (marked_numbers copies)
      (inner_append (codes "paused ") (decimal u) (inner_codes (codes "paused ") refl) (inner_decimal u h.1)) (inner_marked copies h.0);
  is = refl;
  some = omega arith;
}
reply_is_line (WasEnded copies u) h = record {
  inner = (codes "ended " ++ decimal u) ++ marked_numbers copies;
  free = inner_append (codes "ended " ++ decimal u) (marked_numbers copies)
      (inner_append (codes "ended ") (decimal u) (inner_codes (codes "ended ") refl) (inner_decimal u h.1)) (inner_marked copies h.0);
  is = refl;
  some = omega arith;
}
reply_is_line (WasTrapped place k u) h =
    let space : IsInner (codes " ") = inner_codes (codes " ") refl in
    let a = inner_append (codes "trapped ") (decimal u) (inner_codes (codes "trapped ") refl) (inner_decimal u h.0) in
    let b = inner_append (codes "trapped " ++ decimal u) (codes " ") a space in
    let d = inner_append (codes "trapped " ++ decimal u ++ codes " ") (decimal place.line) b (inner_decimal place.line (omega (arith, h.1))) in
    let e = inner_append (codes "trapped " ++ decimal u ++ codes " " ++ decimal place.line) (codes ":") d (inner_codes (codes ":") refl) in
    let f = inner_append (codes "trapped " ++ decimal u ++ codes " " ++ decimal place.line ++ codes ":") (decimal place.column) e (inner_decimal place.column (omega (arith, h.2))) in
    let g = inner_append (codes "trapped " ++ decimal u ++ codes " " ++ decimal place.line ++ codes ":" ++ decimal place.column) (codes " ") f space in
    record {
      inner = codes "trapped " ++ decimal u ++ codes " " ++ decimal place.line ++ codes ":" ++ decimal place.column ++ codes " " ++ logged_trap k;
      free = inner_append (codes "trapped " ++ decimal u ++ codes " " ++ decimal place.line ++ codes ":" ++ decimal place.column ++ codes " ") (logged_trap k) g (inner_trap k);
      is = refl;
      some = omega arith;
    }
reply_is_line WasOver h = record { inner = codes "over"; free = inner_codes (codes "over") refl; is = refl; some = omega arith }

pub head_is_line : (t jobs : ℕ) (line : List ℕ) → t < 2 ^ 64 → IsHeadLine t jobs line → IsLine line
head_is_line t jobs line small h = record {
  inner = codes "thread " ++ (decimal t ++ (codes " jobs " ++ h.digits));
  free = inner_append (codes "thread ") (decimal t ++ (codes " jobs " ++ h.digits)) (inner_codes (codes "thread ") refl)
      (inner_append (decimal t) (codes " jobs " ++ h.digits) (inner_decimal t small)
      (inner_append (codes " jobs ") h.digits (inner_codes (codes " jobs ") refl) (inner_number h.digits jobs h.number)));
  is = h.is ∙ sym (simp append_assoc);
  some = omega arith;
}
