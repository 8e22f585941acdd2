-- What follows from the skeleton of a lowering alone, by one induction on it for each fact.
use Rattle.std.proofs.Common.{ℕ, zero, suc, ◌+◌, ◌<◌, ◌≤◌, ◌≡◌, ◌∙◌, ap, refl, Bool, true, ◌&&◌, ◌||◌, ◌==◌, nat_lt, None, List, [], ◌∷◌, ◌++◌, append_assoc, map, length, length-append, get_or, arith}
use Rattle.std.proofs.lemmas.Bool.Decides.{nat_tests}
use Rattle.std.proofs.lemmas.List.{map-append}
use Rattle.forec_tree.specs.Terms.{Text}
use Rattle.forec_kernel.specs.Terms as kernel
use Rattle.forec_kernel.specs.Shapes.{PlainThread}
use Rattle.forec_kernel.specs.WellFormed.{numbered}
use Rattle.text_kernel.specs.Lowering.{Made}
use Rattle.text_kernel.specs.Kernels.{thread_shape}
use Rattle.text_kernel.proofs.Grown.{Grown, nothing, both, fork, turned, Branching, branch, Row, no_row, more_row, Fork}

abbrev pub blank_made : Made
blank_made = record { parent = 0; par = 0; name = None; params = 0; words = 0; behind = 0; body = kernel.Nop; named = [] }

-- ---- numbers of threads and pars

mutual
  pub threads_grow : {t m p m1 p1 : ℕ} {a : List Made} {x : List Fork} → Grown t m p a x m1 p1 → m1 ≡ m + length a
  threads_grow nothing = omega arith
  threads_grow (both {a = a} {b = b} g k) = let e = length-append a b in omega (arith, threads_grow g, threads_grow k)
  threads_grow (fork {a = a} {b = b} g r) = let e = length-append a b in omega (arith, branch_threads g, row_threads r)
  threads_grow (turned x y g) = threads_grow g

  pub branch_threads : {t q m p m1 p1 : ℕ} {a : List Made} → Branching t q m p a m1 p1 → m1 ≡ m + length a
  branch_threads (branch made e d n f behind g) = omega (arith, threads_grow g)

  pub row_threads : {t q m p m1 p1 : ℕ} {a : List Made} {us : List ℕ} → Row t q m p a us m1 p1 → m1 ≡ m + length a
  row_threads no_row = omega arith
  row_threads (more_row {a = a} {b = b} g r) = let e = length-append a b in omega (arith, branch_threads g, row_threads r)

mutual
  pub pars_grow : {t m p m1 p1 : ℕ} {a : List Made} {x : List Fork} → Grown t m p a x m1 p1 → p ≤ p1
  pars_grow nothing = omega arith
  pars_grow (both g k) = omega (arith, pars_grow g, pars_grow k)
  pars_grow (fork g r) = omega (arith, branch_pars g, row_pars r)
  pars_grow (turned x y g) = pars_grow g

  pub branch_pars : {t q m p m1 p1 : ℕ} {a : List Made} → Branching t q m p a m1 p1 → p ≤ p1
  branch_pars (branch made e d n f behind g) = pars_grow g

  pub row_pars : {t q m p m1 p1 : ℕ} {a : List Made} {us : List ℕ} → Row t q m p a us m1 p1 → p ≤ p1
  row_pars no_row = omega arith
  row_pars (more_row g r) = omega (arith, branch_pars g, row_pars r)

-- ---- each parent has a lower number

abbrev pub at : List Made → ℕ → Made
at a i = get_or a i blank_made

abbrev pub Low : ℕ → List Made → Type 0
Low m a = (i : ℕ) → i < length a → (at a i).parent < m + i

-- an element of two lists is one of either
pub data SplitIndex (a b : List Made) (i : ℕ) : Type 0 where
  left : i < length a → at (a ++ b) i ≡ at a i → SplitIndex a b i
  right : (j : ℕ) → i ≡ length a + j → j < length b → at (a ++ b) i ≡ at b j → SplitIndex a b i

place_more : (c : Made) (a b : List Made) (i : ℕ) → SplitIndex a b i → SplitIndex (c ∷ a) b (suc i)
place_more c a b i (left l e) = left (omega arith) e
place_more c a b i (right j h l e) = right j (omega arith) l e

pub place_of : (a b : List Made) (i : ℕ) → i < length (a ++ b) → SplitIndex a b i
place_of [] b i l = right i (omega arith) l refl
place_of (c ∷ a) b zero l = left (omega arith) refl
place_of (c ∷ a) b (suc i) l = place_more c a b i (place_of a b i (omega arith))

low_at : (m m1 : ℕ) (a b : List Made) (i : ℕ) → m1 ≡ m + length a → Low m a → Low m1 b → SplitIndex a b i → (at (a ++ b) i).parent < m + i
low_at m m1 a b i e h k (left l d) = rw d (h i l)
low_at m m1 a b i e h k (right j w l d) = let g = k j l in rw d (omega (arith, e, w))

low_append : (m m1 : ℕ) (a b : List Made) → m1 ≡ m + length a → Low m a → Low m1 b → Low m (a ++ b)
low_append m m1 a b e h k = λ i l. low_at m m1 a b i e h k (place_of a b i l)

one : {t : ℕ} (m : ℕ) (made : Made) → made.parent ≡ t → t < m → Low m (made ∷ [])
one m made e l zero k = omega arith
one m made e l (suc i) k = absurd (omega arith)

mutual
  pub parents_low : {t m p m1 p1 : ℕ} {a : List Made} {x : List Fork} → t < m → Grown t m p a x m1 p1 → Low m a
  parents_low l nothing = λ i k. absurd (omega arith)
  parents_low {m = m} l (both {m1 = m1} {a = a} {b = b} g k) = low_append m m1 a b (threads_grow g) (parents_low l g) (parents_low (omega (arith, threads_grow g)) k)
  parents_low {m = m} l (fork {m1 = m1} {a = a} {b = b} g r) = low_append m m1 a b (branch_threads g) (branch_low l g) (row_low (omega (arith, branch_threads g)) r)
  parents_low l (turned x y g) = parents_low l g

  branch_low : {t q m p m1 p1 : ℕ} {a : List Made} → t < m → Branching t q m p a m1 p1 → Low m a
  branch_low {m = m} l (branch {a = a} made e d n f behind g) =
      low_append m (suc m) (made ∷ []) a (omega arith) (one m made e l) (parents_low (omega arith) g)

  row_low : {t q m p m1 p1 : ℕ} {a : List Made} {us : List ℕ} → t < m → Row t q m p a us m1 p1 → Low m a
  row_low l no_row = λ i k. absurd (omega arith)
  row_low {m = m} l (more_row {m1 = m1} {a = a} {b = b} g r) = low_append m m1 a b (branch_threads g) (branch_low l g) (row_low (omega (arith, branch_threads g)) r)

-- ---- pars are numbered in the order of their first branches

seen : (n next : ℕ) (b c : Bool) → n < next → b ≡ true → ((nat_lt n next && b) || (n == next && c)) ≡ true
seen n next b c l e = grind (arith, nat_tests)

fresh : (n next : ℕ) (b c : Bool) → n ≡ next → c ≡ true → ((nat_lt n next && b) || (n == next && c)) ≡ true
fresh n next b c l e = grind (arith, nat_tests)

module _ (text : Text) (names : List (List ℕ)) where
  abbrev pub shapes : List Made → List PlainThread
  shapes = map (thread_shape text names)

  num_append : (p : ℕ) (a b : List Made) (rest : List PlainThread) → numbered p (shapes a ++ (shapes b ++ rest)) ≡ true → numbered p (shapes (a ++ b) ++ rest) ≡ true
  num_append p a b rest h =
      ap (λ l. numbered p (l ++ rest)) (map-append (thread_shape text names) a b) ∙ (ap (numbered p) (append_assoc (shapes a) (shapes b) rest) ∙ h)

  mutual
    pub in_order : {t m p m1 p1 : ℕ} {a : List Made} {x : List Fork} → Grown t m p a x m1 p1 → (rest : List PlainThread) →
        numbered p1 rest ≡ true → numbered p (shapes a ++ rest) ≡ true
    in_order nothing rest h = h
    in_order {p = p} (both {a = a} {b = b} g k) rest h = num_append p a b rest (in_order g (shapes b ++ rest) (in_order k rest h))
    in_order {p = p} (fork {a = a} {b = b} g r) rest h = num_append p a b rest (first_order g (shapes b ++ rest) (row_order (branch_pars g) r rest h))
    in_order (turned x y g) rest h = in_order g rest h

    -- the first branch of a new par
    first_order : {t q m p1 m1 : ℕ} {a : List Made} → Branching t q m (suc q) a m1 p1 → (rest : List PlainThread) →
        numbered p1 rest ≡ true → numbered q (shapes a ++ rest) ≡ true
    first_order {q = q} (branch {a = a} made e d n f behind g) rest h = fresh made.par q _ _ d (in_order g rest h)

    branch_order : {t q m p m1 p1 : ℕ} {a : List Made} → q < p → Branching t q m p a m1 p1 → (rest : List PlainThread) →
        numbered p1 rest ≡ true → numbered p (shapes a ++ rest) ≡ true
    branch_order {q = q} {p = p} l (branch {a = a} made e d n f behind g) rest h = seen made.par p _ _ (omega arith) (in_order g rest h)

    row_order : {t q m p m1 p1 : ℕ} {a : List Made} {us : List ℕ} → q < p → Row t q m p a us m1 p1 → (rest : List PlainThread) →
        numbered p1 rest ≡ true → numbered p (shapes a ++ rest) ≡ true
    row_order l no_row rest h = h
    row_order {p = p} l (more_row {a = a} {b = b} g r) rest h =
        num_append p a b rest (branch_order l g (shapes b ++ rest) (row_order (omega (arith, branch_pars g)) r rest h))
