-- The values of a line, one behind the other.
use Rattle.std.proofs.Common.{◌≡◌, ℕ, zero, suc, ◌+◌, ◌<◌, ◌≤◌, Bool, true, false, cond, List, [], ◌∷◌, ◌++◌, ℤ, pos, FitsSigned, length, get_or, take, drop, codes, refl, sym, ap, subst, ◌∙◌, arith, append_assoc, inl, inr}
use Rattle.std.proofs.lemmas.Bool.{cases_lt}
use Rattle.std.specs.Int.{w32}
use Rattle.std.specs.Fmt.{signed_decimal}
use Rattle.std.proofs.lemmas.List.{append-nil, get_or-drop, take_more, drop_more, drop_all, take_all, length_push}
use Rattle.forec_kernel.specs.declared.shape.VarCopy.{VarCopy}
use Rattle.forec_kernel.specs.Solo.{unmarked_copies}
use Rattle.exchange_meaning.specs.LogLines.{spaced_numbers, marked_numbers}
use Rattle.exchange_meaning.specs.OfShape.{AreInts, HaveInts}
use Rattle.log_text.specs.Pieces.{StandsTo, EndsDigits, EndsCopy}
use Rattle.log_text.specs.Values.{ReadsCopy, ReadsValue}
use Rattle.log_text.proofs.PieceLemmas.{stands_more, stands_none}
use Rattle.log_text.proofs.SignedLemmas.{one_on}

pub spaced_push : (ns : List ℤ) (n : ℤ) → spaced_numbers (ns ++ n ∷ []) ≡ spaced_numbers ns ++ (codes " " ++ signed_decimal n)
spaced_push [] n = append-nil (codes " " ++ signed_decimal n)
spaced_push (m ∷ ns) n =
    ap (λ (l : List ℕ). (codes " " ++ signed_decimal m) ++ l) (spaced_push ns n) ∙ sym (append_assoc (codes " " ++ signed_decimal m) (spaced_numbers ns) (codes " " ++ signed_decimal n))

pub ints_push : (ns : List ℤ) (n : ℤ) → AreInts ns → FitsSigned w32 n → AreInts (ns ++ n ∷ [])
ints_push [] n h f = (f, tt)
ints_push (m ∷ ns) n h f = (h.0, ints_push ns n h.1 f)

-- these values stand there, and where further ones do, those come next
pub record Spaced (bytes : List ℕ) (at : ℕ) (values : List ℤ) (end : ℕ) : Type 0 where
  pub ints : AreInts values
  pub stands : StandsTo bytes at (spaced_numbers values) end
  pub only : (ns : List ℤ) (rest : List ℕ) → AreInts ns → EndsDigits rest → length values ≤ length ns → drop at bytes ≡ spaced_numbers ns ++ rest →
      (take (length values) ns ≡ values) × (drop end bytes ≡ spaced_numbers (drop (length values) ns) ++ rest)

pub spaced_none : (bytes : List ℕ) (at : ℕ) → at ≤ length bytes → Spaced bytes at [] at
spaced_none bytes at low = record { ints = tt; stands = stands_none bytes at low; only = λ ns rest fit stop some e. (refl, e) }

pub ends_spaced : (ns : List ℤ) (rest : List ℕ) → EndsDigits rest → EndsDigits (spaced_numbers ns ++ rest)
ends_spaced [] rest h = h
ends_spaced (n ∷ ns) rest h = omega arith

pub drop_one : (ns : List ℤ) (k : ℕ) → k < length ns → (n : ℤ) × (more : List ℤ) × (drop k ns ≡ n ∷ more) × (more ≡ drop (k + 1) ns) × (take (k + 1) ns ≡ take k ns ++ n ∷ [])
drop_one ns k low = (get_or ns k (pos 0), drop (k + 1) ns, drop_more ns k (pos 0) low, refl, take_more ns k (pos 0) low)

pub int_at : (ns : List ℤ) (k : ℕ) (n : ℤ) (more : List ℤ) → AreInts ns → drop k ns ≡ n ∷ more → FitsSigned w32 n
int_at [] zero n more h e = absurd (cc)
int_at [] (suc k) n more h e = absurd (cc)
int_at (m ∷ ns) zero n more h e = let same : m ≡ n = cc in subst (FitsSigned w32) same h.0
int_at (m ∷ ns) (suc k) n more h e = int_at ns k n more h.1 e

-- the next value, where one more is to come
pub next_value : (bytes : List ℕ) (at end : ℕ) (values ns : List ℤ) (rest : List ℕ) → Spaced bytes at values end → AreInts ns → EndsDigits rest → length values < length ns → drop at bytes ≡ spaced_numbers ns ++ rest →
    (n : ℤ) × FitsSigned w32 n × (drop end bytes ≡ codes " " ++ (signed_decimal n ++ (spaced_numbers (drop (length values + 1) ns) ++ rest))) × (take (length values + 1) ns ≡ values ++ n ∷ [])
next_value bytes at end values ns rest h fit stop few e =
    let o = h.only ns rest fit stop (omega arith) e in
    let d = drop_one ns (length values) few in
    let text : drop end bytes ≡ spaced_numbers (d.0 ∷ d.1) ++ rest = o.1 ∙ ap (λ (l : List ℤ). spaced_numbers l ++ rest) d.2 in (
      d.0,
      int_at ns (length values) d.0 d.1 fit d.2,
      text ∙ (append_assoc (codes " " ++ signed_decimal d.0) (spaced_numbers d.1) rest ∙ ap (λ (l : List ℤ). codes " " ++ (signed_decimal d.0 ++ (spaced_numbers l ++ rest))) d.3),
      d.4 ∙ ap (λ (l : List ℤ). l ++ d.0 ∷ []) o.0,
    )

pub spaced_more : (bytes : List ℕ) (at end next : ℕ) (values : List ℤ) (value : ℤ) → Spaced bytes at values end → ReadsValue bytes end value next →
    ((n : ℤ) (rest : List ℕ) → FitsSigned w32 n → EndsDigits rest → drop end bytes ≡ codes " " ++ (signed_decimal n ++ rest) → (value ≡ n) × (drop next bytes ≡ rest)) → Spaced bytes at (values ++ value ∷ []) next
spaced_more bytes at end next values value h v step = record {
  ints = ints_push values value h.ints v.int;
  stands = subst (λ (l : List ℕ). StandsTo bytes at l next) (sym (spaced_push values value))
      (stands_more bytes at end next (spaced_numbers values) (codes " " ++ signed_decimal value) h.stands v.stands);
  only = λ ns rest fit stop some e.
      let size : length (values ++ value ∷ []) ≡ length values + 1 = length_push values value in
      let n = next_value bytes at end values ns rest h fit stop (omega arith) e in
      let o = step n.0 (spaced_numbers (drop (length values + 1) ns) ++ rest) n.1 (ends_spaced (drop (length values + 1) ns) rest stop) n.2 in
      (ap (λ (k : ℕ). take k ns) size ∙ (n.3 ∙ ap (λ (v : ℤ). values ++ v ∷ []) (sym o.0)), o.1 ∙ ap (λ (k : ℕ). spaced_numbers (drop k ns) ++ rest) (sym size));
}

-- all of them were read
pub spaced_all : (bytes : List ℕ) (at end : ℕ) (values ns : List ℤ) (rest : List ℕ) → Spaced bytes at values end → AreInts ns → EndsDigits rest → length ns ≡ length values → drop at bytes ≡ spaced_numbers ns ++ rest →
    (drop end bytes ≡ rest) × (values ≡ ns)
spaced_all bytes at end values ns rest h fit stop size e =
    let o = h.only ns rest fit stop (omega arith) e in
    (o.1 ∙ ap (λ (l : List ℤ). spaced_numbers l ++ rest) (drop_all (length values) ns (omega arith)), sym o.0 ∙ take_all (length values) ns (omega arith))

-- a further one is to come
pub spaced_next : (bytes : List ℕ) (at end : ℕ) (values ns : List ℤ) (rest : List ℕ) → Spaced bytes at values end → AreInts ns → EndsDigits rest → length values < length ns → drop at bytes ≡ spaced_numbers ns ++ rest →
    ((n : ℤ) (more : List ℕ) → FitsSigned w32 n → EndsDigits more → drop end bytes ≡ codes " " ++ (signed_decimal n ++ more) → ⊥) → ⊥
spaced_next bytes at end values ns rest h fit stop few e none =
    let n = next_value bytes at end values ns rest h fit stop few e in
    none n.0 (spaced_numbers (drop (length values + 1) ns) ++ rest) n.1 (ends_spaced (drop (length values + 1) ns) rest stop) n.2

-- ---- copies

pub unmarked_push : (ns : List ℤ) (n : ℤ) → unmarked_copies (ns ++ n ∷ []) ≡ unmarked_copies ns ++ (record { value = n; modified = false }) ∷ []
unmarked_push [] n = refl
unmarked_push (m ∷ ns) n = ap (λ (l : List VarCopy). (record { value = m; modified = false }) ∷ l) (unmarked_push ns n)

-- ---- marked copies

pub marked_push : (cs : List VarCopy) (c : VarCopy) → marked_numbers (cs ++ c ∷ []) ≡ marked_numbers cs ++ ((codes " " ++ signed_decimal c.value) ++ cond c.modified (codes "*") [])
marked_push [] c = append-nil ((codes " " ++ signed_decimal c.value) ++ cond c.modified (codes "*") [])
marked_push (m ∷ cs) c =
    ap (λ (l : List ℕ). ((codes " " ++ signed_decimal m.value) ++ cond m.modified (codes "*") []) ++ l) (marked_push cs c)
    ∙ sym (append_assoc ((codes " " ++ signed_decimal m.value) ++ cond m.modified (codes "*") []) (marked_numbers cs) ((codes " " ++ signed_decimal c.value) ++ cond c.modified (codes "*") []))

pub have_push : (cs : List VarCopy) (c : VarCopy) → HaveInts cs → FitsSigned w32 c.value → HaveInts (cs ++ c ∷ [])
have_push [] c h f = (f, tt)
have_push (m ∷ cs) c h f = (h.0, have_push cs c h.1 f)

pub record Marked (bytes : List ℕ) (at : ℕ) (copies : List VarCopy) (end : ℕ) : Type 0 where
  pub ints : HaveInts copies
  pub stands : StandsTo bytes at (marked_numbers copies) end
  pub only : (cs : List VarCopy) (rest : List ℕ) → HaveInts cs → EndsCopy rest → length copies ≤ length cs → drop at bytes ≡ marked_numbers cs ++ rest →
      (take (length copies) cs ≡ copies) × (drop end bytes ≡ marked_numbers (drop (length copies) cs) ++ rest)

pub marked_none : (bytes : List ℕ) (at : ℕ) → at ≤ length bytes → Marked bytes at [] at
marked_none bytes at low = record { ints = tt; stands = stands_none bytes at low; only = λ cs rest fit stop some e. (refl, e) }

pub ends_marked : (cs : List VarCopy) (rest : List ℕ) → EndsCopy rest → EndsCopy (marked_numbers cs ++ rest)
ends_marked [] rest h = h
ends_marked (c ∷ cs) rest h = (omega arith, λ e. omega arith)

-- what comes behind a number
ends_star : (marked : Bool) (rest : List ℕ) → EndsCopy rest → EndsDigits (cond marked (codes "*") [] ++ rest)
ends_star true rest h = omega arith
ends_star false rest h = h.0

copy_at : (cs : List VarCopy) (k : ℕ) (c : VarCopy) (more : List VarCopy) → HaveInts cs → drop k cs ≡ c ∷ more → FitsSigned w32 c.value
copy_at [] zero c more h e = absurd (cc)
copy_at [] (suc k) c more h e = absurd (cc)
copy_at (m ∷ cs) zero c more h e = let same : m ≡ c = cc in subst (λ (x : VarCopy). FitsSigned w32 x.value) same h.0
copy_at (m ∷ cs) (suc k) c more h e = copy_at cs k c more h.1 e

-- the next copy, where one more is to come
pub next_copy : (bytes : List ℕ) (at end : ℕ) (copies cs : List VarCopy) (rest : List ℕ) → Marked bytes at copies end → HaveInts cs → EndsCopy rest → length copies < length cs → drop at bytes ≡ marked_numbers cs ++ rest →
    (c : VarCopy) × (more : List ℕ) × FitsSigned w32 c.value × EndsCopy more × (drop end bytes ≡ codes " " ++ (signed_decimal c.value ++ (cond c.modified (codes "*") [] ++ more)))
    × (take (length copies + 1) cs ≡ copies ++ c ∷ []) × (more ≡ marked_numbers (drop (length copies + 1) cs) ++ rest)
next_copy bytes at end copies cs rest h fit stop few e =
    let o = h.only cs rest fit stop (omega arith) e in
    let k = length copies in
    let c = get_or cs k (record { value = pos 0; modified = false }) in
    let later = drop (k + 1) cs in
    let one : drop k cs ≡ c ∷ later = drop_more cs k (record { value = pos 0; modified = false }) few in
    let text : drop end bytes ≡ marked_numbers (c ∷ later) ++ rest = o.1 ∙ ap (λ (l : List VarCopy). marked_numbers l ++ rest) one in (
      c,
      marked_numbers later ++ rest,
      copy_at cs k c later fit one,
      ends_marked later rest stop,
      text ∙ (append_assoc ((codes " " ++ signed_decimal c.value) ++ cond c.modified (codes "*") []) (marked_numbers later) rest ∙ append_assoc (codes " " ++ signed_decimal c.value) (cond c.modified (codes "*") []) (marked_numbers later ++ rest)),
      take_more cs k (record { value = pos 0; modified = false }) few ∙ ap (λ (l : List VarCopy). l ++ c ∷ []) o.0,
      refl,
    )

pub marked_more : (bytes : List ℕ) (at end next : ℕ) (copies : List VarCopy) (copy : VarCopy) → Marked bytes at copies end → ReadsCopy bytes end copy next →
    ((c : VarCopy) (rest : List ℕ) → FitsSigned w32 c.value → EndsCopy rest → drop end bytes ≡ codes " " ++ (signed_decimal c.value ++ (cond c.modified (codes "*") [] ++ rest)) → (copy ≡ c) × (drop next bytes ≡ rest)) →
    Marked bytes at (copies ++ copy ∷ []) next
marked_more bytes at end next copies copy h v step = record {
  ints = have_push copies copy h.ints v.int;
  stands = subst (λ (l : List ℕ). StandsTo bytes at l next) (sym (marked_push copies copy))
      (stands_more bytes at end next (marked_numbers copies) ((codes " " ++ signed_decimal copy.value) ++ cond copy.modified (codes "*") []) h.stands v.stands);
  only = λ cs rest fit stop some e.
      let size : length (copies ++ copy ∷ []) ≡ length copies + 1 = length_push copies copy in
      let n = next_copy bytes at end copies cs rest h fit stop (omega arith) e in
      let o = step n.0 n.1 n.2 n.3 n.4 in
      (ap (λ (k : ℕ). take k cs) size ∙ (n.5 ∙ ap (λ (c : VarCopy). copies ++ c ∷ []) (sym o.0)), o.1 ∙ (n.6 ∙ ap (λ (k : ℕ). marked_numbers (drop k cs) ++ rest) (sym size)));
}

pub marked_all : (bytes : List ℕ) (at end : ℕ) (copies cs : List VarCopy) (rest : List ℕ) → Marked bytes at copies end → HaveInts cs → EndsCopy rest → length cs ≡ length copies → drop at bytes ≡ marked_numbers cs ++ rest →
    (drop end bytes ≡ rest) × (copies ≡ cs)
marked_all bytes at end copies cs rest h fit stop size e =
    let o = h.only cs rest fit stop (omega arith) e in
    (o.1 ∙ ap (λ (l : List VarCopy). marked_numbers l ++ rest) (drop_all (length copies) cs (omega arith)), sym o.0 ∙ take_all (length copies) cs (omega arith))

-- a number was read: where no star comes next the copy isn't marked, else it is, and goes on behind the star
pub step_plain : (bytes : List ℕ) (next : ℕ) (c : VarCopy) (rest : List ℕ) (value : ℤ) → EndsCopy rest → (get_or (drop next bytes) 0 0 ≡ 42 → ⊥) → value ≡ c.value → drop next bytes ≡ cond c.modified (codes "*") [] ++ rest →
    (c.modified ≡ false) × (drop next bytes ≡ rest)
step_plain bytes next c rest value stop plain same e = by_mark c.modified refl e
  where
    by_mark : (m : Bool) → c.modified ≡ m → drop next bytes ≡ cond m (codes "*") [] ++ rest → (c.modified ≡ false) × (drop next bytes ≡ rest)
    by_mark true is f = absurd (plain (ap (λ (l : List ℕ). get_or l 0 0) f))
    by_mark false is f = (is, f)

pub step_star : (bytes : List ℕ) (next : ℕ) (c : VarCopy) (rest : List ℕ) → EndsCopy rest → get_or (drop next bytes) 0 0 ≡ 42 → drop next bytes ≡ cond c.modified (codes "*") [] ++ rest →
    (c.modified ≡ true) × (drop (next + 1) bytes ≡ rest)
step_star bytes next c rest stop star e = by_mark c.modified refl e
  where
    by_mark : (m : Bool) → c.modified ≡ m → drop next bytes ≡ cond m (codes "*") [] ++ rest → (c.modified ≡ true) × (drop (next + 1) bytes ≡ rest)
    by_mark true is f = (is, one_on bytes rest next 42 f)
    by_mark false is f = absurd (stop.1 (sym (ap (λ (l : List ℕ). get_or l 0 0) f) ∙ star))

pub copy_next : (bytes : List ℕ) (at end : ℕ) (copies cs : List VarCopy) (rest : List ℕ) → Marked bytes at copies end → HaveInts cs → EndsCopy rest → length copies < length cs → drop at bytes ≡ marked_numbers cs ++ rest →
    ((c : VarCopy) (more : List ℕ) → FitsSigned w32 c.value → EndsCopy more → drop end bytes ≡ codes " " ++ (signed_decimal c.value ++ (cond c.modified (codes "*") [] ++ more)) → ⊥) → ⊥
copy_next bytes at end copies cs rest h fit stop few e none =
    let n = next_copy bytes at end copies cs rest h fit stop few e in
    none n.0 n.1 n.2 n.3 n.4

pub ends_behind : (c : VarCopy) (rest : List ℕ) → EndsCopy rest → EndsDigits (cond c.modified (codes "*") [] ++ rest)
ends_behind c rest h = ends_star c.modified rest h

-- the star of a copy that is marked, and none of one that isn't
pub same_copy : (value : ℤ) (m : Bool) (c : VarCopy) → value ≡ c.value → c.modified ≡ m → record { value = value; modified = m } ≡ c
same_copy value m c v e = ap (λ (z : ℤ). record { value = z; modified = m }) v ∙ ap (λ (b : Bool). record { value = c.value; modified = b }) (sym e)

pub byte_there : (bytes : List ℕ) (at b : ℕ) → get_or bytes at 0 ≡ b → get_or (drop at bytes) 0 0 ≡ b
byte_there bytes at b e = get_or-drop at bytes 0 0 ∙ (ap (λ (k : ℕ). get_or bytes k 0) (omega arith) ∙ e)

-- a byte other than 0 that comes next stands there
pub no_byte_there : (bytes : List ℕ) (at b : ℕ) → 0 < b → get_or (drop at bytes) 0 0 ≡ b → (at < length bytes) × (get_or bytes at 0 ≡ b)
no_byte_there bytes at b some e = elim (cases_lt at (length bytes)) [
  | inl low ↦ (low, ap (λ (k : ℕ). get_or bytes k 0) (omega arith) ∙ (sym (get_or-drop at bytes 0 0) ∙ e))
  | inr past ↦ absurd (let none : get_or (drop at bytes) 0 0 ≡ 0 = ap (λ (l : List ℕ). get_or l 0 0) (drop_all at bytes past) in omega arith)
]

-- the end of a line ends a number
pub ends_line : (rest : List ℕ) → EndsDigits (codes "\n" ++ rest)
ends_line rest = omega arith

pub ends_copy_line : (rest : List ℕ) → EndsCopy (codes "\n" ++ rest)
ends_copy_line rest = (omega arith, λ e. omega arith)

pub ends_values : (values : List ℤ) (rest : List ℕ) → EndsDigits (spaced_numbers values ++ (codes "\n" ++ rest))
ends_values values rest = ends_spaced values (codes "\n" ++ rest) (ends_line rest)

pub ends_args : (args values : List ℤ) (rest : List ℕ) → EndsDigits (spaced_numbers args ++ (spaced_numbers values ++ (codes "\n" ++ rest)))
ends_args args values rest = ends_spaced args (spaced_numbers values ++ (codes "\n" ++ rest)) (ends_values values rest)

pub ends_copies : (copies : List VarCopy) (rest : List ℕ) → EndsDigits (marked_numbers copies ++ (codes "\n" ++ rest))
ends_copies copies rest = (ends_marked copies (codes "\n" ++ rest) (ends_copy_line rest)).0
