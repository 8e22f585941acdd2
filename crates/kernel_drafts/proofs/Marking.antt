-- Marks, and numbers one after the other.
use Rattle.std.proofs.Common.{ℕ, zero, suc, ◌+◌, ◌-◌, ◌<◌, ◌≤◌, ◌≡◌, ◌∙◌, ◌||◌, ◌==◌, sym, ap, refl, subst, Bool, true, false, cond, List, [], ◌∷◌, ◌++◌, length, take, get_or, arith}
use Rattle.std.proofs.Math.Seq.{take-append_seam}
use Rattle.forec_tree.specs.Faults.{is_in}
use Rattle.forec_kernel.specs.WellFormed.{count_up}
use Rattle.kernel_drafts.specs.Drafts.{marked_from}
use Rattle.kernel_drafts.specs.Marks.{is_marked, Marks}

-- ---- marks

or_assoc : (a b d : Bool) → ((a || b) || d) ≡ (a || (b || d))
or_assoc true b d = refl
or_assoc false b d = refl

pub in_both : (v : ℕ) (xs ys : List ℕ) → is_in v (xs ++ ys) ≡ (is_in v xs || is_in v ys)
in_both v [] ys = refl
in_both v (x ∷ xs) ys = pick (x == v) (in_both v xs ys)
  where
    pick : (b : Bool) → is_in v (xs ++ ys) ≡ (is_in v xs || is_in v ys) → cond b true (is_in v (xs ++ ys)) ≡ (cond b true (is_in v xs) || is_in v ys)
    pick true h = refl
    pick false h = h

pub marks_two : (old mid new : List Bool) (a b named : List ℕ) → Marks old mid a → Marks mid new b → named ≡ a ++ b → Marks old new named
marks_two old mid new a b named h k e =
    let long = k.long in
    record {
      each = λ v l.
          k.each v l
          ∙ (ap (λ m. m || is_in v b) (h.each v (omega (arith, l, long)))
          ∙ (or_assoc (is_marked old v) (is_in v a) (is_in v b) ∙ ap (λ m. is_marked old v || m) (sym (in_both v a b) ∙ ap (is_in v) (sym e))));
      long = k.long ∙ h.long;
    }

pub marks_as : (old new : List Bool) (a b : List ℕ) → Marks old new a → a ≡ b → Marks old new b
marks_as old new a b h e = subst (Marks old new) e h

-- one step of a loop that marks what a list names
pub marks_step : (old new : List Bool) (a rest all : List ℕ) (whole : ℕ → Bool) (n : ℕ) → Marks old new a → all ≡ a ++ rest → n ≤ length new → ((v : ℕ) → v < n → (is_marked old v || is_in v all) ≡ whole v) →
    (v : ℕ) → v < n → (is_marked new v || is_in v rest) ≡ whole v
marks_step old new a rest all whole n h e s w v l =
    ap (λ m. m || is_in v rest) (h.each v (omega (arith, l, s)))
    ∙ (or_assoc (is_marked old v) (is_in v a) (is_in v rest) ∙ (ap (λ m. is_marked old v || m) (sym (in_both v a rest) ∙ ap (is_in v) (sym e)) ∙ w v l))

pub row_more : (first n i : ℕ) → i < n → count_up (first + i) (n - i) ≡ ((first + i) ∷ []) ++ count_up (first + (i + 1)) (n - (i + 1))
row_more first n i l =
    let d : n - i ≡ suc (n - (i + 1)) = omega (arith, l) in
    let z : suc (first + i) ≡ first + (i + 1) = omega arith in
    ap (count_up (first + i)) d ∙ ap (λ m. (first + i) ∷ count_up m (n - (i + 1))) z

-- a vector whose items were lent as a slice
pub written_back : (n : ℕ) (new rest : List Bool) → length new ≡ n → take n (new ++ rest) ≡ new
written_back n new rest e = ap (λ m. take m (new ++ rest)) (sym e) ∙ take-append_seam new rest

-- all marks
pub all_marked : (from count : ℕ) (marks : List Bool) → length marks ≡ count → ((v : ℕ) → v < count → get_or marks v true ≡ true) → marked_from from marks ≡ count_up from count
all_marked from zero [] e h = refl
all_marked from (suc n) [] e h = absurd (omega (arith, e))
all_marked from zero (m ∷ marks) e h = absurd (omega (arith, e))
all_marked from (suc n) (m ∷ marks) e h =
    let first : m ≡ true = h 0 (omega arith) in
    ap (λ b. cond b (from ∷ marked_from (suc from) marks) (marked_from (suc from) marks)) first
    ∙ ap (λ l. from ∷ l) (all_marked (suc from) n marks (omega (arith, e)) (λ v l. h (suc v) (omega (arith, l))))

-- ---- numbers

pub count_more : (from n : ℕ) → count_up from (n + 1) ≡ count_up from n ++ (from + n) ∷ []
count_more from zero = let e : from + 0 ≡ from = omega arith in ap (λ m. m ∷ []) (sym e)
count_more from (suc n) =
    let e : suc n + 1 ≡ suc (n + 1) = omega arith in
    let d : suc from + n ≡ from + suc n = omega arith in
    ap (count_up from) e ∙ ap (λ l. from ∷ l) (count_more (suc from) n ∙ ap (λ m. count_up (suc from) n ++ m ∷ []) d)
