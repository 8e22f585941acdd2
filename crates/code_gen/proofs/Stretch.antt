-- Stretches of a run, and where instructions stand.
use Rattle.std.proofs.Common.{◌≡◌, ℕ, zero, suc, ◌+◌, ◌<◌, List, [], ◌∷◌, ◌++◌, length, Some, refl, ap, ◌∙◌, subst, arith, append_assoc, length-append}
use Rattle.std.specs.Prelude.{ℤ, slice_get}
use Rattle.std.proofs.Math.Seq.{get_or-append_seam}
use Rattle.std.proofs.lemmas.Option.{slice_get-get_or}
use Rattle.forec_kernel.specs.Values.{Value, Gives, Raises, Values, AllGive, OneRaises, more_units, value_then, first_then, one_more, values_then}
use Rattle.forec_kernel.specs.Engine.{run_for}
use Rattle.thread_code.specs.declared.instruction.Instruction.{Instruction}
use Rattle.thread_code.specs.Plain.{PlainCode}
use Rattle.thread_code.specs.Machine.{Point, Frame, Own, Machine, On, Trapped, act, step}

-- these stand in the list from this place on
abbrev pub HasAt : {A : Type 0} → List A → ℕ → List A → Type 0
HasAt s p [] = Unit {0}
HasAt s p (i ∷ is) = (slice_get s p ≡ Some i) × HasAt s (p + 1) is

pub has_front : {A : Type 0} → (s : List A) (p : ℕ) (a b : List A) → HasAt s p (a ++ b) → HasAt s p a
has_front s p [] b h = tt
has_front s p (i ∷ a) b h = (h.0, has_front s (p + 1) a b h.1)

pub has_back : {A : Type 0} → (s : List A) (p : ℕ) (a b : List A) → HasAt s p (a ++ b) → HasAt s (p + length a) b
has_back s p [] b h = let e : p ≡ p + 0 = omega arith in subst (λ n. HasAt s n b) e h
has_back s p (i ∷ a) b h =
    let e : p + 1 + length a ≡ p + length (i ∷ a) = omega arith in
    subst (λ n. HasAt s n b) e (has_back s (p + 1) a b h.1)

pub has_join : {A : Type 0} → (s : List A) (p : ℕ) (a b : List A) → HasAt s p a → HasAt s (p + length a) b → HasAt s p (a ++ b)
has_join s p [] b h g = let e : p + 0 ≡ p = omega arith in subst (λ n. HasAt s n b) e g
has_join s p (i ∷ a) b h g =
    let e : p + length (i ∷ a) ≡ p + 1 + length a = omega arith in
    (h.0, has_join s (p + 1) a b h.1 (subst (λ n. HasAt s n b) e g))

pub has_all : {A : Type 0} → (is pre : List A) → HasAt (pre ++ is) (length pre) is
has_all [] pre = tt
has_all (i ∷ is) pre =
    let within : length pre < length (pre ++ i ∷ is) = omega (arith, length-append pre (i ∷ is)) in
    let here = slice_get-get_or (pre ++ i ∷ is) (length pre) i within ∙ ap Some (get_or-append_seam pre i is i) in
    let n : length (pre ++ i ∷ []) ≡ length pre + 1 = omega (arith, length-append pre (i ∷ [])) in
    let rest = has_all is (pre ++ i ∷ []) in
    let rest' = subst (λ l. HasAt l (length (pre ++ i ∷ [])) is) (append_assoc pre (i ∷ []) is) rest in
    (here, subst (λ m. HasAt (pre ++ i ∷ is) m is) n rest')

pub run_add : {S : Type 0} → (step : S → S) (n k : ℕ) (m : S) → run_for step (n + k) m ≡ run_for step k (run_for step n m)
run_add step zero k m = let e : zero + k ≡ k = omega arith in ap (λ n. run_for step n m) e
run_add step (suc n) k m =
    let e : suc n + k ≡ suc (n + k) = omega arith in
    ap (λ j. run_for step j m) e ∙ run_add step n k (step m)

-- as many numbers
abbrev pub SameCount : ℕ → Values → Type 0
SameCount n (AllGive ns u) = length ns ≡ n
SameCount n (OneRaises place trap u) = Unit {0}

abbrev pub point : List Instruction → ℕ → List ℤ → List ℤ → List ℕ → Point
point s p stack words counters = record { steps = s; at = p; stack = stack; words = words; counters = counters }

module _ (c : PlainCode) (t : ℕ) where
  -- the machine comes from one state to another
  pub record Comes (m m' : Machine) : Type 0 where
    pub count : ℕ
    pub lands : run_for (step c t) count m ≡ m'

  pub stays : (m : Machine) → Comes m m
  stays m = record { count = 0; lands = refl }

  pub comes_on : {m m1 m2 : Machine} → Comes m m1 → Comes m1 m2 → Comes m m2
  comes_on {m = m} {m1 = m1} a b =
      record { count = a.count + b.count; lands = run_add (step c t) a.count b.count m ∙ ap (run_for (step c t) b.count) a.lands ∙ b.lands }

  -- one instruction
  pub one : (i : Instruction) (p : Point) (fs : List Frame) (o : Own) (u : ℕ) → slice_get p.steps p.at ≡ Some i → Comes (On p fs o u) (act c t (Some i) p fs o u)
  one i p fs o u h = record { count = 1; lands = ap (λ x. act c t x p fs o u) h }

  -- the same state, written otherwise
  pub comes_at : {m m1 m2 : Machine} → m1 ≡ m2 → Comes m m1 → Comes m m2
  comes_at e a = record { count = a.count; lands = a.lands ∙ e }

  -- The code of a term, u units having come before: it comes to `to` with the number and the units, or traps.
  abbrev pub Yields : Machine → ℕ → (ℤ → ℕ → Machine) → Value → Type 0
  Yields m u to (Gives n v) = Comes m (to n (u + v))
  Yields m u to (Raises place trap v) = Comes m (Trapped place trap (u + v))

  abbrev pub YieldsAll : Machine → ℕ → (List ℤ → ℕ → Machine) → Values → Type 0
  YieldsAll m u to (AllGive ns v) = Comes m (to ns (u + v))
  YieldsAll m u to (OneRaises place trap v) = Comes m (Trapped place trap (u + v))

  pub yields_from : (m m1 : Machine) (u : ℕ) (to : ℤ → ℕ → Machine) (r : Value) → Comes m m1 → Yields m1 u to r → Yields m u to r
  yields_from m m1 u to (Gives n v) k g = comes_on k g
  yields_from m m1 u to (Raises place trap v) k g = comes_on k g

  pub yields_to : (m : Machine) (u : ℕ) (to to' : ℤ → ℕ → Machine) (r : Value) → ((n : ℤ) (w : ℕ) → Comes (to n w) (to' n w)) → Yields m u to r → Yields m u to' r
  yields_to m u to to' (Gives n v) k g = comes_on g (k n (u + v))
  yields_to m u to to' (Raises place trap v) k g = g

  -- a number that costs nothing more
  pub yields_value : (m : Machine) (u : ℕ) (to : ℤ → ℕ → Machine) (n : ℤ) → Comes m (to n u) → Yields m u to (Gives n 0)
  yields_value m u to n k = let e : u ≡ u + 0 = omega arith in comes_at (ap (to n) e) k

  -- units that came before
  pub yields_after : (m : Machine) (v u : ℕ) (to : ℤ → ℕ → Machine) (r : Value) → Yields m (u + v) to r → Yields m u to (more_units v r)
  yields_after m v u to (Gives n w) g = let e : u + v + w ≡ u + (v + w) = omega arith in comes_at (ap (to n) e) g
  yields_after m v u to (Raises place trap w) g = let e : u + v + w ≡ u + (v + w) = omega arith in comes_at (ap (Trapped place trap) e) g

  -- a number, and what is done with it
  pub yields_then : (m : Machine) (u : ℕ) (mid to : ℤ → ℕ → Machine) (r : Value) (go : ℤ → Value) → Yields m u mid r → ((n : ℤ) (w : ℕ) → Yields (mid n w) w to (go n)) → Yields m u to (value_then r go)
  yields_then m u mid to (Gives n v) go g h = yields_after m v u to (go n) (yields_from m (mid n (u + v)) (u + v) to (go n) g (h n (u + v)))
  yields_then m u mid to (Raises place trap v) go g h = g

  pub yields_all_then : (k : ℕ) (m : Machine) (u : ℕ) (mid : List ℤ → ℕ → Machine) (to : ℤ → ℕ → Machine) (r : Values) (go : List ℤ → Value) → SameCount k r → YieldsAll m u mid r → ((ns : List ℤ) (w : ℕ) → length ns ≡ k → Yields (mid ns w) w to (go ns)) → Yields m u to (values_then r go)
  yields_all_then k m u mid to (AllGive ns v) go c g h = yields_after m v u to (go ns) (yields_from m (mid ns (u + v)) (u + v) to (go ns) g (h ns (u + v) c))
  yields_all_then k m u mid to (OneRaises place trap v) go c g h = g

  -- one number before the others
  pub yields_one_before : (m : Machine) (u v : ℕ) (n : ℤ) (to to' : List ℤ → ℕ → Machine) (r : Values) → ((ns : List ℤ) (w : ℕ) → to ns w ≡ to' (n ∷ ns) w) → YieldsAll m (u + v) to r → YieldsAll m u to' (one_more n v r)
  yields_one_before m u v n to to' (AllGive ns w) e g =
      let f : u + v + w ≡ u + (v + w) = omega arith in
      comes_at (e ns (u + v + w) ∙ ap (to' (n ∷ ns)) f) g
  yields_one_before m u v n to to' (OneRaises place trap w) e g = let f : u + v + w ≡ u + (v + w) = omega arith in comes_at (ap (Trapped place trap) f) g

  pub yields_all_from : (m m1 : Machine) (u : ℕ) (to : List ℤ → ℕ → Machine) (r : Values) → Comes m m1 → YieldsAll m1 u to r → YieldsAll m u to r
  yields_all_from m m1 u to (AllGive ns v) k g = comes_on k g
  yields_all_from m m1 u to (OneRaises place trap v) k g = comes_on k g

  pub yields_both : (m : Machine) (u : ℕ) (mid : ℤ → ℕ → Machine) (to' : List ℤ → ℕ → Machine) (to : ℤ → List ℤ → ℕ → Machine) (r : Value) (rs : Values) → ((n : ℤ) (ns : List ℤ) (w : ℕ) → to n ns w ≡ to' (n ∷ ns) w) → Yields m u mid r → ((n : ℤ) (w : ℕ) → YieldsAll (mid n w) w (to n) rs) → YieldsAll m u to' (first_then r rs)
  yields_both m u mid to' to (Gives n v) rs e g h =
      yields_one_before m u v n (to n) to' rs (e n) (yields_all_from m (mid n (u + v)) (u + v) (to n) rs g (h n (u + v)))
  yields_both m u mid to' to (Raises place trap v) rs e g h = g
