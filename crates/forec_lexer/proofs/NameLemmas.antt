-- The numbering of names by their first use.
use Rattle.std.proofs.Common.{◌≡◌, ℕ, zero, suc, ◌≤◌, Bool, true, false, not, ◌||◌, cond, ◌⊎◌, inl, inr, List, [], ◌∷◌, ◌++◌, map, length, Option, Some, refl, sym, subst, ◌∙◌, ap, arith}
use Rattle.std.specs.List.{slice_get, list_any, position_or_len}
use Rattle.std.specs.Borrow.{Bor}
use Rattle.std.specs.Str.{bytes_eq}
use Rattle.std.proofs.lemmas.Slice.Eq.{bytes_eq-Decides}
use Rattle.forec_tree.specs.LexedText.{name_number, with_spelt_name, AreDistinct}

-- ---- the set of names

abbrev pub same : Bor (List ℕ) → Bor (List ℕ) → Bool
same x y = bytes_eq x.now y.now

abbrev pub text_of : Bor (List ℕ) → List ℕ
text_of s = s.now

pub number_is : (keys : List (Bor (List ℕ))) (k : Bor (List ℕ)) → position_or_len (same k) keys ≡ name_number (map text_of keys) k.now
number_is [] k = refl
number_is (x ∷ xs) k = by (bytes_eq k.now x.now) refl (number_is xs k)
  where
    by : (t : Bool) → bytes_eq k.now x.now ≡ t → position_or_len (same k) xs ≡ name_number (map text_of xs) k.now → position_or_len (same k) (x ∷ xs) ≡ name_number (map text_of (x ∷ xs)) k.now
    by true e ih = rw e
    by false e ih = rw (e, ih) (omega arith)

any_text : (spelt : List ℕ) (keys : List (Bor (List ℕ))) → list_any (bytes_eq spelt) (map text_of keys) ≡ list_any (λ s. bytes_eq spelt s.now) keys
any_text spelt [] = refl
any_text spelt (k ∷ ks) = ap (λ b. bytes_eq spelt k.now || b) (any_text spelt ks)

with_old : (ns : List (List ℕ)) (spelt : List ℕ) → list_any (bytes_eq spelt) ns ≡ true → with_spelt_name ns spelt ≡ ns
with_old [] spelt h = absurd (cc)
with_old (n ∷ ns) spelt h = by (bytes_eq spelt n) refl (with_old ns spelt)
  where
    by : (t : Bool) → bytes_eq spelt n ≡ t → (list_any (bytes_eq spelt) ns ≡ true → with_spelt_name ns spelt ≡ ns) → with_spelt_name (n ∷ ns) spelt ≡ n ∷ ns
    by true e ih = rw e
    by false e ih = rw (e, ih (rw e at h))

with_new : (ns : List (List ℕ)) (spelt : List ℕ) → list_any (bytes_eq spelt) ns ≡ false → with_spelt_name ns spelt ≡ ns ++ spelt ∷ []
with_new [] spelt h = refl
with_new (n ∷ ns) spelt h = by (bytes_eq spelt n) refl (with_new ns spelt)
  where
    by : (t : Bool) → bytes_eq spelt n ≡ t → (list_any (bytes_eq spelt) ns ≡ false → with_spelt_name ns spelt ≡ ns ++ spelt ∷ []) → with_spelt_name (n ∷ ns) spelt ≡ n ∷ (ns ++ spelt ∷ [])
    by true e ih = absurd (let f : true ≡ false = rw e at h in cc)
    by false e ih = rw (e, ih (rw e at h))

pub after_old : (keys : List (Bor (List ℕ))) (k : Bor (List ℕ)) (labels : List (List ℕ)) → map text_of keys ≡ labels → list_any (same k) keys ≡ true → labels ≡ with_spelt_name labels k.now
after_old keys k labels e h =
    let t : list_any (bytes_eq k.now) labels ≡ true = ap (list_any (bytes_eq k.now)) (sym e) ∙ any_text k.now keys ∙ h in
    sym (with_old labels k.now t)

pub after_new : (keys : List (Bor (List ℕ))) (k : Bor (List ℕ)) (labels : List (List ℕ)) → map text_of keys ≡ labels → list_any (same k) keys ≡ false → labels ++ k.now ∷ [] ≡ with_spelt_name labels k.now
after_new keys k labels e h =
    let t : list_any (bytes_eq k.now) labels ≡ false = ap (list_any (bytes_eq k.now)) (sym e) ∙ any_text k.now keys ∙ h in
    sym (with_new labels k.now t)

pub number_among : (keys : List (Bor (List ℕ))) (k : Bor (List ℕ)) (labels : List (List ℕ)) (id : ℕ) → map text_of keys ≡ labels → id ≡ position_or_len (same k) keys → id ≡ name_number labels k.now
number_among keys k labels id e h = h ∙ number_is keys k ∙ ap (λ z. name_number z k.now) e

-- ---- the names are distinct, and each has its number

abbrev some_name : List ℕ → Option (List ℕ)
some_name n = Some n

same_name : (m n : List ℕ) → some_name m ≡ some_name n → m ≡ n
same_name m n h = cc

pub spelt_there : (ns : List (List ℕ)) (spelt : List ℕ) → slice_get (with_spelt_name ns spelt) (name_number ns spelt) ≡ Some spelt
spelt_there [] spelt = refl
spelt_there (n ∷ ns) spelt = by (bytes_eq spelt n) refl (spelt_there ns spelt)
  where
    by : (t : Bool) → bytes_eq spelt n ≡ t → slice_get (with_spelt_name ns spelt) (name_number ns spelt) ≡ Some spelt
        → slice_get (cond t (n ∷ ns) (n ∷ with_spelt_name ns spelt)) (cond t zero (suc (name_number ns spelt))) ≡ Some spelt
    by true e ih = ap some_name (sym ((bytes_eq-Decides spelt n).0 e))
    by false e ih = ih

pub name_kept : (ns : List (List ℕ)) (spelt : List ℕ) (i : ℕ) (x : List ℕ) → slice_get ns i ≡ Some x → slice_get (with_spelt_name ns spelt) i ≡ Some x
name_kept [] spelt i x h = absurd (cc)
name_kept (n ∷ ns) spelt zero x h = by (bytes_eq spelt n)
  where
    by : (t : Bool) → slice_get (cond t (n ∷ ns) (n ∷ with_spelt_name ns spelt)) zero ≡ Some x
    by true = h
    by false = h
name_kept (n ∷ ns) spelt (suc i) x h = by (bytes_eq spelt n) (name_kept ns spelt i x h)
  where
    by : (t : Bool) → slice_get (with_spelt_name ns spelt) i ≡ Some x → slice_get (cond t (n ∷ ns) (n ∷ with_spelt_name ns spelt)) (suc i) ≡ Some x
    by true ih = h
    by false ih = ih

pub names_more : (ns : List (List ℕ)) (spelt : List ℕ) → length (with_spelt_name ns spelt) ≤ suc (length ns)
names_more [] spelt = omega arith
names_more (n ∷ ns) spelt = by (bytes_eq spelt n) (names_more ns spelt)
  where
    by : (t : Bool) → length (with_spelt_name ns spelt) ≤ suc (length ns) → length (cond t (n ∷ ns) (n ∷ with_spelt_name ns spelt)) ≤ suc (suc (length ns))
    by true ih = omega arith
    by false ih = omega arith

found_among : (ns : List (List ℕ)) (spelt : List ℕ) (i : ℕ) → slice_get ns i ≡ Some spelt → list_any (bytes_eq spelt) ns ≡ true
found_among [] spelt i h = absurd (cc)
found_among (n ∷ ns) spelt zero h =
    let e : spelt ≡ n = sym (same_name n spelt h) in
    let t : bytes_eq spelt n ≡ true = (bytes_eq-Decides spelt n).1 e in
    rw t
found_among (n ∷ ns) spelt (suc i) h = by (bytes_eq spelt n) (found_among ns spelt i h)
  where
    by : (t : Bool) → list_any (bytes_eq spelt) ns ≡ true → (t || list_any (bytes_eq spelt) ns) ≡ true
    by true ih = refl
    by false ih = ih

at_push : (ns : List (List ℕ)) (spelt x : List ℕ) (i : ℕ) → slice_get (ns ++ spelt ∷ []) i ≡ Some x → (slice_get ns i ≡ Some x) ⊎ ((i ≡ length ns) × (x ≡ spelt))
at_push [] spelt x zero h = inr (refl, sym (same_name spelt x h))
at_push [] spelt x (suc i) h = absurd (cc)
at_push (n ∷ ns) spelt x zero h = inl h
at_push (n ∷ ns) spelt x (suc i) h = elim (at_push ns spelt x i h) [ inl e ↦ inl e | inr e ↦ inr (ap suc e.0, e.1) ]

push_distinct : (ns : List (List ℕ)) (spelt : List ℕ) → AreDistinct ns → list_any (bytes_eq spelt) ns ≡ false → AreDistinct (ns ++ spelt ∷ [])
push_distinct ns spelt d h i j x a b = by (at_push ns spelt x i a) (at_push ns spelt x j b)
  where
    no_old : (k : ℕ) → x ≡ spelt → slice_get ns k ≡ Some x → ⊥
    no_old k e f = let t = found_among ns spelt k (f ∙ ap some_name e) in let u : true ≡ false = sym t ∙ h in cc

    by : (slice_get ns i ≡ Some x) ⊎ ((i ≡ length ns) × (x ≡ spelt)) → (slice_get ns j ≡ Some x) ⊎ ((j ≡ length ns) × (x ≡ spelt)) → i ≡ j
    by (inl e) (inl f) = d i j x e f
    by (inl e) (inr f) = absurd (no_old i f.1 e)
    by (inr e) (inl f) = absurd (no_old j e.1 f)
    by (inr e) (inr f) = e.0 ∙ sym f.0

pub with_distinct : (ns : List (List ℕ)) (spelt : List ℕ) → AreDistinct ns → AreDistinct (with_spelt_name ns spelt)
with_distinct ns spelt d = by (list_any (bytes_eq spelt) ns) refl
  where
    by : (t : Bool) → list_any (bytes_eq spelt) ns ≡ t → AreDistinct (with_spelt_name ns spelt)
    by true e = let Q : List (List ℕ) → Type 0 = λ z. AreDistinct z in subst Q (sym (with_old ns spelt e)) d
    by false e = let Q : List (List ℕ) → Type 0 = λ z. AreDistinct z in subst Q (sym (with_new ns spelt e)) (push_distinct ns spelt d e)

pub not_true : (b r : Bool) → r ≡ not b → r ≡ true → b ≡ false
not_true true r e f = absurd (let g : false ≡ true = sym e ∙ f in cc)
not_true false r e f = refl

pub not_false : (b r : Bool) → r ≡ not b → r ≡ false → b ≡ true
not_false true r e f = refl
not_false false r e f = absurd (let g : true ≡ false = sym e ∙ f in cc)
