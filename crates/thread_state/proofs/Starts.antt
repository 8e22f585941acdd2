-- The branches that live since the present start of a thread.
use Rattle.std.proofs.Common.{◌≡◌, ℕ, zero, suc, ◌+◌, ◌<◌, ◌≤◌, ◌==◌, List, [], ◌∷◌, length, get_or, replicate, Bool, true, false, cond, refl, ap, ◌∙◌, arith}
use Rattle.std.specs.Prelude.{slice_set}
use Rattle.std.proofs.lemmas.Bool.Decides.{nat_tests}
use Rattle.thread_state.specs.Kept.{lives_in, AreUpTo}

other : (n start : ℕ) → n < start → (n == start) ≡ false
other n start lt = grind (arith, nat_tests)

same : (n : ℕ) → (n == n) ≡ true
same n = grind (arith, nat_tests)

pub lives_count : (start : ℕ) (ns : List ℕ) → length (lives_in start ns) ≡ length ns
lives_count start [] = refl
lives_count start (n ∷ ns) = ap suc (lives_count start ns)

pub lives_at : (start : ℕ) (ns : List ℕ) (t d : ℕ) → t < length ns → get_or (lives_in start ns) t false ≡ (get_or ns t d == start)
lives_at start [] t d lt = absurd (omega arith)
lives_at start (n ∷ ns) zero d lt = refl
lives_at start (n ∷ ns) (suc t) d lt = lives_at start ns t d (omega arith)

-- ---- one branch begins or ends

pub lives_set : (start : ℕ) (ns : List ℕ) (t x : ℕ) (b : Bool) → (x == start) ≡ b → lives_in start (slice_set ns t x) ≡ slice_set (lives_in start ns) t b
lives_set start [] t x b e = refl
lives_set start (n ∷ ns) zero x b e = ap (λ b. b ∷ lives_in start ns) e
lives_set start (n ∷ ns) (suc t) x b e = ap (λ l. (n == start) ∷ l) (lives_set start ns t x b e)

pub up_to_set : (start : ℕ) (ns : List ℕ) (t x : ℕ) → x ≤ start → AreUpTo start ns → AreUpTo start (slice_set ns t x)
up_to_set start [] t x le h = tt
up_to_set start (n ∷ ns) zero x le h = (le, h.1)
up_to_set start (n ∷ ns) (suc t) x le h = (h.0, up_to_set start ns t x le h.1)

pub note_of : (start : ℕ) (b : Bool) → 0 < start → (cond b start 0 == start) ≡ b
note_of start true some = same start
note_of start false some = other 0 start some

pub note_small : (start : ℕ) (b : Bool) → cond b start 0 ≤ start
note_small start true = omega arith
note_small start false = omega arith

-- ---- another start

pub none_lives : (start : ℕ) (ns : List ℕ) → AreUpTo start ns → lives_in (start + 1) ns ≡ replicate (length ns) false
none_lives start [] h = refl
none_lives start (n ∷ ns) h = ap (λ b. b ∷ lives_in (start + 1) ns) (other n (start + 1) (omega (arith, h.0))) ∙ ap (λ l. false ∷ l) (none_lives start ns h.1)

pub up_to_more : (start more : ℕ) (ns : List ℕ) → start ≤ more → AreUpTo start ns → AreUpTo more ns
up_to_more start more [] le h = tt
up_to_more start more (n ∷ ns) le h = (omega (arith, h.0), up_to_more start more ns le h.1)

pub up_to_zeros : (start n : ℕ) → AreUpTo start (replicate n 0)
up_to_zeros start zero = tt
up_to_zeros start (suc n) = (omega arith, up_to_zeros start n)

pub lives_zeros : (n : ℕ) → lives_in 1 (replicate n 0) ≡ replicate n false
lives_zeros zero = refl
lives_zeros (suc n) = ap (λ l. false ∷ l) (lives_zeros n)
