-- Where no function reaches itself, functions have a rank that falls along each call: how often one stays when those without a callee among the rest are taken away.
use Rattle.std.proofs.Common.{ℕ, zero, suc, ◌-◌, ◌<◌, ◌≤◌, ◌≡◌, ◌∙◌, ◌==◌, sym, ap, refl, ⊎_elim, Bool, true, false, cond, ◌||◌, List, [], ◌∷◌, length, subst, arith}
use Rattle.std.proofs.lemmas.Bool.{cases_lt, eqb-true, or_left, or_right}
use Rattle.forec_tree.specs.Faults.{is_in, Leads, at_once}
use Rattle.forec_tree.proofs.Agrees.{in_head, in_tail}
use Rattle.forec_tree.proofs.Reach.{count}
use Rattle.loop_check.proofs.IndexLemmas.{split}
use Rattle.loop_check.proofs.Settled.{circle}

-- one of some numbers is among others
abbrev some_in : List ℕ → List ℕ → Bool
some_in [] xs = false
some_in (g ∷ gs) xs = is_in g xs || some_in gs xs

record Both (gs xs : List ℕ) : Type 0 where
  number : ℕ
  first : is_in number gs ≡ true
  second : is_in number xs ≡ true

some_which : (gs xs : List ℕ) → some_in gs xs ≡ true → Both gs xs
some_which [] xs h = cc
some_which (g ∷ gs) xs h =
    let rest = some_which gs xs in
    split (is_in g xs) (λ e. record { number = g; first = in_head g gs; second = e })
    (λ e. let r = rest (sym (ap (λ b. b || some_in gs xs) e) ∙ h) in record { number = r.number; first = in_tail r.number g gs r.first; second = r.second })

some_when : (g : ℕ) (gs xs : List ℕ) → is_in g gs ≡ true → is_in g xs ≡ true → some_in gs xs ≡ true
some_when g [] xs h k = cc
some_when g (f ∷ gs) xs h k =
    let rest = some_when g gs xs in
    split (f == g)
    (λ e. or_left (is_in f xs) (some_in gs xs) (subst (λ n. is_in n xs ≡ true) (sym (eqb-true f g e)) k))
    (λ e. or_right (is_in f xs) (some_in gs xs) (rest (sym (ap (λ b. cond b true (is_in g gs)) e) ∙ h) k))

module _ (calls : ℕ → List ℕ) where
  -- those that call one of xs
  abbrev keep : List ℕ → List ℕ → List ℕ
  keep xs [] = []
  keep xs (f ∷ fs) = cond (some_in (calls f) xs) (f ∷ keep xs fs) (keep xs fs)

  -- what is left of some functions after so many rounds
  abbrev left : List ℕ → ℕ → List ℕ
  left fs zero = fs
  left fs (suc d) = keep (left fs d) (left fs d)

  kept : (xs fs : List ℕ) (f : ℕ) → is_in f fs ≡ true → some_in (calls f) xs ≡ true → is_in f (keep xs fs) ≡ true
  kept xs [] f h s = h
  kept xs (g ∷ fs) f h s =
      let rest = kept xs fs f in
      split (g == f)
      (λ e.
      let same : g ≡ f = eqb-true g f e in
      let t : some_in (calls g) xs ≡ true = subst (λ n. some_in (calls n) xs ≡ true) (sym same) s in
      ap (λ b. is_in f (cond b (g ∷ keep xs fs) (keep xs fs))) t ∙ ap (λ b. cond b true (is_in f (keep xs fs))) e)
      (λ e.
      let r = rest (sym (ap (λ b. cond b true (is_in f fs)) e) ∙ h) s in
      elim (some_in (calls g) xs) as (λ b. is_in f (cond b (g ∷ keep xs fs) (keep xs fs)) ≡ true) [ true ↦ in_tail f g (keep xs fs) r | false ↦ r ])

  was_kept : (xs fs : List ℕ) (f : ℕ) → is_in f (keep xs fs) ≡ true → is_in f fs ≡ true
  was_kept xs [] f h = h
  was_kept xs (g ∷ fs) f h =
      let rest = was_kept xs fs f in
      split (g == f) (λ e. ap (λ b. cond b true (is_in f fs)) e)
      (λ e.
      let inner : is_in f (keep xs fs) ≡ true = split (some_in (calls g) xs)
      (λ t. sym (ap (λ b. cond b true (is_in f (keep xs fs))) e) ∙ (sym (ap (λ b. is_in f (cond b (g ∷ keep xs fs) (keep xs fs))) t) ∙ h))
      (λ t. sym (ap (λ b. is_in f (cond b (g ∷ keep xs fs) (keep xs fs))) t) ∙ h) in
      in_tail f g fs (rest inner))

  keep_short : (xs fs : List ℕ) → length (keep xs fs) ≤ length fs
  keep_short xs [] = omega arith
  keep_short xs (g ∷ fs) =
      let r = keep_short xs fs in
      elim (some_in (calls g) xs) as (λ b. length (cond b (g ∷ keep xs fs) (keep xs fs)) ≤ suc (length fs)) [ true ↦ omega (arith, r) | false ↦ omega (arith, r) ]

  -- where none is taken away, each calls one of xs
  keep_all : (xs fs : List ℕ) (f : ℕ) → length fs ≤ length (keep xs fs) → is_in f fs ≡ true → some_in (calls f) xs ≡ true
  keep_all xs [] f l h = cc
  keep_all xs (g ∷ fs) f l h =
      let r = keep_short xs fs in
      let rest = keep_all xs fs f in
      split (some_in (calls g) xs)
      (λ t.
      let long = ap (λ b. length (cond b (g ∷ keep xs fs) (keep xs fs))) t in
      split (g == f) (λ e. subst (λ n. some_in (calls n) xs ≡ true) (eqb-true g f e) t)
      (λ e. rest (omega (arith, l, long)) (sym (ap (λ b. cond b true (is_in f fs)) e) ∙ h)))
      (λ t. let long = ap (λ b. length (cond b (g ∷ keep xs fs) (keep xs fs))) t in absurd (omega (arith, l, long, r)))

  module _ (free : (f : ℕ) → Leads calls f f → ⊥) where
    shrinks : (x : ℕ) (xs : List ℕ) → length (keep (x ∷ xs) (x ∷ xs)) < length (x ∷ xs)
    shrinks x xs =
        ⊎_elim (λ l. l)
        (λ (l : length (x ∷ xs) ≤ length (keep (x ∷ xs) (x ∷ xs))).
        let c = circle calls x xs (λ f i. let b = some_which (calls f) (x ∷ xs) (keep_all (x ∷ xs) (x ∷ xs) f l i) in record { next = b.number; stands = b.second; leads = at_once b.first }) in
        absurd (free c.0 c.1))
        (cases_lt (length (keep (x ∷ xs) (x ∷ xs))) (length (x ∷ xs)))

    keep_shrinks : (xs : List ℕ) → length (keep xs xs) ≤ length xs - 1
    keep_shrinks [] = omega arith
    keep_shrinks (x ∷ xs) = let l = shrinks x xs in omega (arith, l)

    left_short : (fs : List ℕ) (d : ℕ) → length (left fs d) ≤ length fs - d
    left_short fs zero = omega arith
    left_short fs (suc d) = let l = keep_shrinks (left fs d) in let r = left_short fs d in omega (arith, l, r)

    none_of : (xs : List ℕ) (f : ℕ) → length xs ≤ 0 → is_in f xs ≡ false
    none_of [] f l = refl
    none_of (x ∷ xs) f l = absurd (omega arith)

    -- where g is left after d rounds, its caller f is left after one more
    stays : (fs : List ℕ) (f g d : ℕ) → is_in f fs ≡ true → is_in g (calls f) ≡ true → is_in g (left fs d) ≡ true → is_in f (left fs (suc d)) ≡ true
    stays fs f g zero i c h = kept fs fs f i (some_when g (calls f) fs c h)
    stays fs f g (suc d) i c h =
        let before = stays fs f g d i c (was_kept (left fs d) (left fs d) g h) in
        kept (left fs (suc d)) (left fs (suc d)) f before (some_when g (calls f) (left fs (suc d)) c h)

    abbrev pub rank : List ℕ → ℕ → ℕ
    rank fs f = count (λ d. is_in f (left fs d)) (length fs)

    ahead : (fs : List ℕ) (f g n : ℕ) → is_in f fs ≡ true → is_in g (calls f) ≡ true →
        suc (count (λ d. is_in g (left fs d)) n) ≤ count (λ d. is_in f (left fs d)) (suc n)
    ahead fs f g zero i c = rw i (omega arith)
    ahead fs f g (suc n) i c =
        let r = ahead fs f g n i c in
        let s = stays fs f g n i c in
        split (is_in g (left fs n))
        (λ e. rw (e, s e) (omega (arith, r)))
        (λ e. rw e (elim (is_in f (left fs (suc n))) as (λ b. suc (count (λ d. is_in g (left fs d)) n) ≤ cond b (suc (count (λ d. is_in f (left fs d)) (suc n))) (count (λ d. is_in f (left fs d)) (suc n))) [ true ↦ omega (arith, r) | false ↦ r ]))

    pub rank_along : (fs : List ℕ) (f g : ℕ) → is_in f fs ≡ true → is_in g (calls f) ≡ true → rank fs g < rank fs f
    rank_along fs f g i c =
        let a = ahead fs f g (length fs) i c in
        let gone : is_in f (left fs (length fs)) ≡ false = none_of (left fs (length fs)) f (let l = left_short fs (length fs) in omega (arith, l)) in
        let last : count (λ d. is_in f (left fs d)) (suc (length fs)) ≡ count (λ d. is_in f (left fs d)) (length fs) =
        ap (λ b. cond b (suc (count (λ d. is_in f (left fs d)) (length fs))) (count (λ d. is_in f (left fs d)) (length fs))) gone in
        omega (arith, a, last)
