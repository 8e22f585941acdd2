-- The branches of a par are the threads that have its number in the whole list of threads, and their parent is the thread in whose body it stands.
use Rattle.std.proofs.Common.{ℕ, suc, ◌+◌, ◌<◌, ◌≤◌, ◌≡◌, ◌∙◌, sym, ap, refl, Bool, true, false, cond, ◌==◌, ◌⊎◌, inl, inr, ⊎_elim, List, [], ◌∷◌, ◌++◌, append-nil, map, length, length-append, arith}
use Rattle.std.proofs.lemmas.Bool.Decides.{nat_tests}
use Rattle.std.proofs.lemmas.List.{map-append, length-map, get_or-append-add, get_or_append_left}
use Rattle.forec_tree.specs.Terms.{Text}
use Rattle.forec_tree.specs.Faults.{Member, here, later}
use Rattle.forec_kernel.specs.Shapes.{PlainThread}
use Rattle.forec_kernel.specs.Combining.{contains}
use Rattle.forec_kernel.specs.WellFormed.{branches_of, is_par}
use Rattle.text_kernel.specs.Lowering.{Made}
use Rattle.text_kernel.specs.Kernels.{thread_shape}
use Rattle.text_kernel.proofs.Grown.{Grown, nothing, both, fork, turned, Branching, branch, Row, no_row, more_row, Fork}
use Rattle.text_kernel.proofs.Forks.{threads_grow, branch_threads, pars_grow, branch_pars, row_pars, blank_made, at}

pub branches_append : (xs ys : List PlainThread) (t u n : ℕ) → u ≡ t + length xs → branches_of (xs ++ ys) t n ≡ branches_of xs t n ++ branches_of ys u n
branches_append [] ys t u n e = ap (λ k. branches_of ys k n) (omega (arith, e))
branches_append (x ∷ xs) ys t u n e = with_rest (is_par x.par n) (branches_append xs ys (suc t) u n (omega (arith, e)))
  where
    with_rest : (b : Bool) → branches_of (xs ++ ys) (suc t) n ≡ branches_of xs (suc t) n ++ branches_of ys u n →
        cond b (t ∷ branches_of (xs ++ ys) (suc t) n) (branches_of (xs ++ ys) (suc t) n) ≡ cond b (t ∷ branches_of xs (suc t) n) (branches_of xs (suc t) n) ++ branches_of ys u n
    with_rest true h = ap (λ l. t ∷ l) h
    with_rest false h = h

pub both_empty : (xs ys : List ℕ) → xs ≡ [] → ys ≡ [] → xs ++ ys ≡ []
both_empty xs ys h k = ap (λ l. l ++ ys) h ∙ k

abbrev pub Out : (n p q : ℕ) → Type 0
Out n p q = (n < p) ⊎ (q ≤ n)

out_left : (n p q r : ℕ) → p ≤ q → q ≤ r → Out n p r → Out n p q
out_left n p q r h k (inl l) = inl l
out_left n p q r h k (inr l) = inr (omega arith)

out_right : (n p q r : ℕ) → p ≤ q → q ≤ r → Out n p r → Out n q r
out_right n p q r h k (inl l) = inl (omega arith)
out_right n p q r h k (inr l) = inr l

pub out_ne : (n p r : ℕ) → p < r → Out n p r → (p == n) ≡ false
out_ne n p r h (inl l) = grind (arith, nat_tests)
out_ne n p r h (inr l) = grind (arith, nat_tests)

module _ (text : Text) (names : List (List ℕ)) where
  abbrev pub shaped : List Made → List PlainThread
  shaped = map (thread_shape text names)

  pub split : (a b : List Made) (m m1 n : ℕ) → m1 ≡ m + length a → branches_of (shaped (a ++ b)) m n ≡ branches_of (shaped a) m n ++ branches_of (shaped b) m1 n
  split a b m m1 n e =
      let d : length (shaped a) ≡ length a = length-map a (thread_shape text names) in
      ap (λ l. branches_of l m n) (map-append (thread_shape text names) a b) ∙ branches_append (shaped a) (shaped b) m m1 n (e ∙ ap (λ k. m + k) (sym d))

  split_empty : (a b : List Made) (m m1 n : ℕ) → m1 ≡ m + length a → branches_of (shaped a) m n ≡ [] → branches_of (shaped b) m1 n ≡ [] → branches_of (shaped (a ++ b)) m n ≡ []
  split_empty a b m m1 n e h k = split a b m m1 n e ∙ both_empty (branches_of (shaped a) m n) (branches_of (shaped b) m1 n) h k

  -- a number outside of those that are given
  mutual
    pub outside : {t m p m1 p1 : ℕ} {a : List Made} {x : List Fork} → Grown t m p a x m1 p1 → (n : ℕ) → Out n p p1 → branches_of (shaped a) m n ≡ []
    outside nothing n o = refl
    outside {m = m} {p = p} (both {m1 = m1} {p1 = p1} {p2 = p2} {a = a} {b = b} g k) n o =
        split_empty a b m m1 n (threads_grow g) (outside g n (out_left n p p1 p2 (pars_grow g) (pars_grow k) o)) (outside k n (out_right n p p1 p2 (pars_grow g) (pars_grow k) o))
    outside {m = m} {p = p} (fork {m1 = m1} {p1 = p1} {p2 = p2} {a = a} {b = b} g r) n o =
        let ne = out_ne n p p2 (omega (arith, branch_pars g, row_pars r)) o in
        let o' = out_right n p (suc p) p2 (omega arith) (omega (arith, branch_pars g, row_pars r)) o in
        split_empty a b m m1 n (branch_threads g)
        (branch_outside g n ne (out_left n (suc p) p1 p2 (branch_pars g) (row_pars r) o'))
        (row_outside r n ne (out_right n (suc p) p1 p2 (branch_pars g) (row_pars r) o'))
    outside (turned x y g) n o = outside g n o

    pub branch_outside : {t q m p m1 p1 : ℕ} {a : List Made} → Branching t q m p a m1 p1 → (n : ℕ) → (q == n) ≡ false → Out n p p1 → branches_of (shaped a) m n ≡ []
    branch_outside {q = q} {m = m} (branch {a = a} made e d w f behind g) n ne o =
        let miss : (made.par == n) ≡ false = ap (λ k. k == n) d ∙ ne in
        let rest = branches_of (shaped a) (suc m) n in
        ap (λ b. cond b (m ∷ rest) rest) miss ∙ outside g n o

    pub row_outside : {t q m p m1 p1 : ℕ} {a : List Made} {us : List ℕ} → Row t q m p a us m1 p1 → (n : ℕ) → (q == n) ≡ false → Out n p p1 → branches_of (shaped a) m n ≡ []
    row_outside no_row n ne o = refl
    row_outside {m = m} {p = p} (more_row {m1 = m1} {p1 = p1} {p2 = p2} {a = a} {b = b} g r) n ne o =
        split_empty a b m m1 n (branch_threads g)
        (branch_outside g n ne (out_left n p p1 p2 (branch_pars g) (row_pars r) o))
        (row_outside r n ne (out_right n p p1 p2 (branch_pars g) (row_pars r) o))

  same : (q : ℕ) → (q == q) ≡ true
  same q = grind (arith, nat_tests)

  -- the branches of a par among the threads that it adds
  first_hit : {t q m p m1 p1 : ℕ} {a : List Made} → Branching t q m p a m1 p1 → q < p → branches_of (shaped a) m q ≡ m ∷ []
  first_hit {q = q} {m = m} (branch {a = a} made e d w f behind g) l =
      let hit : (made.par == q) ≡ true = ap (λ k. k == q) d ∙ same q in
      let rest = branches_of (shaped a) (suc m) q in
      ap (λ b. cond b (m ∷ rest) rest) hit ∙ ap (λ r. m ∷ r) (outside g q (inl (omega arith)))

  row_hit : {t q m p m1 p1 : ℕ} {a : List Made} {us : List ℕ} → Row t q m p a us m1 p1 → q < p → branches_of (shaped a) m q ≡ us
  row_hit no_row l = refl
  row_hit {q = q} {m = m} (more_row {m1 = m1} {a = a} {b = b} {us = us} g r) l =
      split a b m m1 q (branch_threads g)
      ∙ (ap (λ x. x ++ branches_of (shaped b) m1 q) (first_hit g l) ∙ ap (λ x. m ∷ x) (row_hit r (omega (arith, branch_pars g))))

  -- a thread among those that are added, with its parent
  pub record Child (t m : ℕ) (a : List Made) (u : ℕ) : Type 0 where
    pub index : ℕ
    pub inside : index < length a
    pub is : u ≡ m + index
    pub parent : (at a index).parent ≡ t

  child_left : (t m : ℕ) (a b : List Made) (u : ℕ) → Child t m a u → Child t m (a ++ b) u
  child_left t m a b u c =
      let long = length-append a b in
      record { index = c.index; inside = omega (arith, long, c.inside); is = c.is; parent = ap (λ x. x.parent) (get_or_append_left a b blank_made c.index c.inside) ∙ c.parent }

  child_right : (t m m1 : ℕ) (a b : List Made) (u : ℕ) → m1 ≡ m + length a → Child t m1 b u → Child t m (a ++ b) u
  child_right t m m1 a b u e c =
      let long = length-append a b in
      record {
        index = length a + c.index;
        inside = omega (arith, long, c.inside);
        is = omega (arith, e, c.is);
        parent = ap (λ x. x.parent) (get_or-append-add a b c.index blank_made) ∙ c.parent;
      }

  first_child : {t q m p m1 p1 : ℕ} {a : List Made} → Branching t q m p a m1 p1 → (u : ℕ) → u ≡ m → Child t m a u
  first_child (branch made e d w f behind g) u h = record { index = 0; inside = omega arith; is = omega (arith, h); parent = e }

  member_head : (u m : ℕ) (us : List ℕ) → contains u (m ∷ us) ≡ true → (u ≡ m) ⊎ (contains u us ≡ true)
  member_head u m us h = pick (m == u) refl
    where
      pick : (b : Bool) → (m == u) ≡ b → (u ≡ m) ⊎ (contains u us ≡ true)
      pick true e = inl (grind (arith, nat_tests))
      pick false e = inr (ap (λ b. cond b true (contains u us)) (sym e) ∙ h)

  row_child : {t q m p m1 p1 : ℕ} {a : List Made} {us : List ℕ} → Row t q m p a us m1 p1 → (u : ℕ) → contains u us ≡ true → Child t m a u
  row_child no_row u h = cc
  row_child {t = t} {m = m} (more_row {m1 = m1} {a = a} {b = b} {us = us} g r) u h =
      ⊎_elim (λ e. child_left t m a b u (first_child g u e)) (λ e. child_right t m m1 a b u (branch_threads g) (row_child r u e)) (member_head u m us h)

  -- a par of the thread's own
  pub record Owns (t m p : ℕ) (a : List Made) (p1 : ℕ) (f : Fork) : Type 0 where
    pub low : p ≤ f.number
    pub high : f.number < p1
    pub are : branches_of (shaped a) m f.number ≡ f.threads
    pub child : (u : ℕ) → contains u f.threads ≡ true → Child t m a u

  member_append : (f : Fork) (x y : List Fork) → Member f (x ++ y) → Member f x ⊎ Member f y
  member_append f [] y h = inr h
  member_append f (g ∷ x) y here = inl here
  member_append f (g ∷ x) y (later h) = ⊎_elim (λ k. inl (later k)) (λ k. inr k) (member_append f x y h)

  member_left : (f : Fork) (x y : List Fork) → Member f x → Member f (x ++ y)
  member_left f [] y h = elim h [ ]
  member_left f (g ∷ x) y here = here
  member_left f (g ∷ x) y (later h) = later (member_left f x y h)

  member_right : (f : Fork) (x y : List Fork) → Member f y → Member f (x ++ y)
  member_right f [] y h = h
  member_right f (g ∷ x) y h = later (member_right f x y h)

  owns_left : (t m p m1 p1 p2 : ℕ) (a b : List Made) (f : Fork) → m1 ≡ m + length a → p1 ≤ p2 → (f.number < p1 → branches_of (shaped b) m1 f.number ≡ []) → Owns t m p a p1 f → Owns t m p (a ++ b) p2 f
  owns_left t m p m1 p1 p2 a b f e l none o =
      record {
        low = o.low;
        high = omega (arith, o.high);
        are = split a b m m1 f.number e ∙ (ap (λ x. branches_of (shaped a) m f.number ++ x) (none o.high) ∙ (append-nil (branches_of (shaped a) m f.number) ∙ o.are));
        child = λ u h. child_left t m a b u (o.child u h);
      }

  owns_right : (t m p m1 p1 p2 : ℕ) (a b : List Made) (f : Fork) → m1 ≡ m + length a → p ≤ p1 → (p1 ≤ f.number → branches_of (shaped a) m f.number ≡ []) → Owns t m1 p1 b p2 f → Owns t m p (a ++ b) p2 f
  owns_right t m p m1 p1 p2 a b f e l none o =
      record {
        low = omega (arith, o.low);
        high = o.high;
        are = split a b m m1 f.number e ∙ (ap (λ x. x ++ branches_of (shaped b) m1 f.number) (none o.low) ∙ o.are);
        child = λ u h. child_right t m m1 a b u e (o.child u h);
      }

  pub own_fork : {t m p m1 p1 : ℕ} {a : List Made} {x : List Fork} → Grown t m p a x m1 p1 → (f : Fork) → Member f x → Owns t m p a p1 f
  own_fork nothing f h = elim h [ ]
  own_fork {t = t} {m = m} {p = p} (both {m1 = m1} {p1 = p1} {p2 = p2} {a = a} {b = b} {x = x} {y = y} g k) f h =
      ⊎_elim
      (λ i. owns_left t m p m1 p1 p2 a b f (threads_grow g) (pars_grow k) (λ l. outside k f.number (inl l)) (own_fork g f i))
      (λ i. owns_right t m p m1 p1 p2 a b f (threads_grow g) (pars_grow g) (λ l. outside g f.number (inr l)) (own_fork k f i))
      (member_append f x y h)
  own_fork {t = t} {m = m} {p = p} (fork {m1 = m1} {p1 = p1} {p2 = p2} {a = a} {b = b} {us = us} g r) f here =
      record {
        low = omega arith;
        high = omega (arith, branch_pars g, row_pars r);
        are = split a b m m1 p (branch_threads g) ∙ (ap (λ x. x ++ branches_of (shaped b) m1 p) (first_hit g (omega arith)) ∙ ap (λ x. m ∷ x) (row_hit r (omega (arith, branch_pars g))));
        child = λ u h.
            ⊎_elim (λ e. child_left t m a b u (first_child g u e)) (λ e. child_right t m m1 a b u (branch_threads g) (row_child r u e)) (member_head u m us h);
      }
  own_fork (fork g r) f (later h) = elim h [ ]
  own_fork (turned x y g) f h = own_fork g f (⊎_elim (λ i. member_right f x y i) (λ i. member_left f x y i) (member_append f y x h))
