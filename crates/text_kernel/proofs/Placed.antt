-- The pars of each thread in the whole list of threads.
use Rattle.std.proofs.Common.{ℕ, zero, suc, ◌+◌, ◌<◌, ◌≤◌, ◌≡◌, ◌∙◌, sym, ap, refl, true, false, cond, ◌==◌, inl, inr, Some, List, [], ◌∷◌, ◌++◌, append-nil, append_assoc, length, length-append, get_or, subst, arith}
use Rattle.std.proofs.lemmas.Bool.Decides.{nat_tests}
use Rattle.std.proofs.lemmas.List.{map-append, length-map, get_or-append-add, get_or_append_left, get_or-map}
use Rattle.forec_tree.specs.Terms.{Text}
use Rattle.forec_tree.specs.Faults.{Member}
use Rattle.forec_kernel.specs.Shapes.{PlainThread}
use Rattle.forec_kernel.specs.Combining.{contains}
use Rattle.forec_kernel.specs.WellFormed.{branches_of, pars_of, blank_thread}
use Rattle.text_kernel.specs.Lowering.{Made}
use Rattle.text_kernel.specs.Kernels.{thread_shape, root, root_shape}
use Rattle.text_kernel.proofs.Grown.{Grown, nothing, both, fork, turned, Branching, branch, Row, no_row, more_row, Fork, lists, IsGrown, place_grows}
use Rattle.text_kernel.proofs.Forks.{threads_grow, branch_threads, row_threads, pars_grow, branch_pars, row_pars, blank_made, at, SplitIndex, left, right, place_of}
use Rattle.text_kernel.proofs.Owned.{branches_append, both_empty, outside, branch_outside, row_outside, shaped, Owns, Child, own_fork}

-- no par of these numbers is in a list of threads from k on
pub record Away (p q k : ℕ) (list : List PlainThread) : Type 0 where
  pub none : (n : ℕ) → p ≤ n → n < q → branches_of list k n ≡ []

pub record FineFork (whole : List PlainThread) (t : ℕ) (f : Fork) : Type 0 where
  pub are : branches_of whole 0 f.number ≡ f.threads
  pub parent : (u : ℕ) → contains u f.threads ≡ true → (get_or whole u blank_thread).parent ≡ Some t

pub record Placed (whole : List PlainThread) (t : ℕ) (pars : List (List ℕ)) : Type 0 where
  pub forks : List Fork
  pub are : lists forks ≡ pars
  pub fine : (f : Fork) → Member f forks → FineFork whole t f

away_narrow : (p q r s k : ℕ) (list : List PlainThread) → p ≤ r → s ≤ q → Away p q k list → Away r s k list
away_narrow p q r s k list h g w = record { none = λ n l m. w.none n (omega arith) (omega arith) }

away_append : (p q k u : ℕ) (xs ys : List PlainThread) → u ≡ k + length xs → Away p q k xs → Away p q u ys → Away p q k (xs ++ ys)
away_append p q k u xs ys e v w =
    record { none = λ n l m. branches_append xs ys k u n e ∙ both_empty (branches_of xs k n) (branches_of ys u n) (v.none n l m) (w.none n l m) }

module _ (text : Text) (names : List (List ℕ)) where
  abbrev shapes_of : List Made → List PlainThread
  shapes_of = shaped text names

  shapes_length : (a : List Made) → length (shapes_of a) ≡ length a
  shapes_length a = length-map a (thread_shape text names)

  child_parent : (t m : ℕ) (a : List Made) (pre post : List PlainThread) (u : ℕ) → length pre ≡ m → Child text names t m a u →
      (get_or (pre ++ (shapes_of a ++ post)) u blank_thread).parent ≡ Some t
  child_parent t m a pre post u e c =
      let long = shapes_length a in
      let here_is : u ≡ length pre + c.index = omega (arith, e, c.is) in
      let read : get_or (pre ++ (shapes_of a ++ post)) u blank_thread ≡ thread_shape text names (at a c.index) =
      ap (λ k. get_or (pre ++ (shapes_of a ++ post)) k blank_thread) here_is
      ∙ (get_or-append-add pre (shapes_of a ++ post) c.index blank_thread
      ∙ (get_or_append_left (shapes_of a) post blank_thread c.index (omega (arith, c.inside))
      ∙ get_or-map (thread_shape text names) a c.index blank_made blank_thread c.inside)) in
      ap (λ x. x.parent) read ∙ ap Some c.parent

  fork_placed : (t m p m1 p1 : ℕ) (a : List Made) (pre post whole : List PlainThread) (f : Fork) → whole ≡ pre ++ (shapes_of a ++ post) → length pre ≡ m → m1 ≡ m + length a →
      Away p p1 0 pre → Away p p1 m1 post → Owns text names t m p a p1 f → FineFork whole t f
  fork_placed t m p m1 p1 a pre post whole f e long long1 v w o =
      let n = f.number in
      let mid : branches_of (shapes_of a ++ post) m n ≡ f.threads =
      branches_append (shapes_of a) post m m1 n (long1 ∙ ap (λ k. m + k) (sym (shapes_length a)))
      ∙ (ap (λ l. branches_of (shapes_of a) m n ++ l) (w.none n o.low o.high) ∙ (append-nil (branches_of (shapes_of a) m n) ∙ o.are)) in
      record {
        are =
            ap (λ l. branches_of l 0 n) e
            ∙ (branches_append pre (shapes_of a ++ post) 0 m n (omega (arith, long)) ∙ (ap (λ l. l ++ branches_of (shapes_of a ++ post) m n) (v.none n o.low o.high) ∙ mid));
        parent = λ u h. ap (λ l. (get_or l u blank_thread).parent) e ∙ child_parent t m a pre post u long (o.child u h);
      }

  -- the parts of a whole list, seen from the first or the second of two lists
  parts_left : (a b : List Made) (pre post : List PlainThread) → pre ++ (shapes_of (a ++ b) ++ post) ≡ pre ++ (shapes_of a ++ (shapes_of b ++ post))
  parts_left a b pre post = ap (λ l. pre ++ l) (ap (λ l. l ++ post) (map-append (thread_shape text names) a b) ∙ append_assoc (shapes_of a) (shapes_of b) post)

  parts_right : (a b : List Made) (pre post : List PlainThread) → pre ++ (shapes_of (a ++ b) ++ post) ≡ (pre ++ shapes_of a) ++ (shapes_of b ++ post)
  parts_right a b pre post = parts_left a b pre post ∙ sym (append_assoc pre (shapes_of a) (shapes_of b ++ post))

  pre_long : (m m1 : ℕ) (a : List Made) (pre : List PlainThread) → length pre ≡ m → m1 ≡ m + length a → length (pre ++ shapes_of a) ≡ m1
  pre_long m m1 a pre e d = let h = length-append pre (shapes_of a) in let g = shapes_length a in omega arith

  post_from : (m m1 m2 p q : ℕ) (b : List Made) (post : List PlainThread) → m2 ≡ m1 + length b →
      ((n : ℕ) → p ≤ n → n < q → branches_of (shapes_of b) m1 n ≡ []) → Away p q m2 post → Away p q m1 (shapes_of b ++ post)
  post_from m m1 m2 p q b post e none w =
      away_append p q m1 m2 (shapes_of b) post (e ∙ ap (λ k. m1 + k) (sym (shapes_length b))) (record { none = none }) w

  pre_to : (m p q : ℕ) (a : List Made) (pre : List PlainThread) → length pre ≡ m → Away p q 0 pre →
      ((n : ℕ) → p ≤ n → n < q → branches_of (shapes_of a) m n ≡ []) → Away p q 0 (pre ++ shapes_of a)
  pre_to m p q a pre e v none = away_append p q 0 m pre (shapes_of a) (omega (arith, e)) v (record { none = none })

  abbrev Done : (whole : List PlainThread) (m : ℕ) (a : List Made) → Type 0
  Done whole m a = (i : ℕ) → i < length a → Placed whole (m + i) (pars_of (at a i).body)

  moved_to : (whole : List PlainThread) (t u : ℕ) (xs ys : List (List ℕ)) → t ≡ u → xs ≡ ys → Placed whole t xs → Placed whole u ys
  moved_to whole t u xs ys e d z = subst (λ k. Placed whole k ys) e (record { forks = z.forks; are = z.are ∙ d; fine = z.fine })

  done_at : (whole : List PlainThread) (m m1 : ℕ) (a b : List Made) (i : ℕ) → m1 ≡ m + length a → Done whole m a → Done whole m1 b → SplitIndex a b i → Placed whole (m + i) (pars_of (at (a ++ b) i).body)
  done_at whole m m1 a b i e h k (left l d) = moved_to whole (m + i) (m + i) (pars_of (at a i).body) (pars_of (at (a ++ b) i).body) refl (ap (λ x. pars_of x.body) (sym d)) (h i l)
  done_at whole m m1 a b i e h k (right j w l d) =
      moved_to whole (m1 + j) (m + i) (pars_of (at b j).body) (pars_of (at (a ++ b) i).body) (omega (arith, e, w)) (ap (λ x. pars_of x.body) (sym d)) (k j l)

  done_append : (whole : List PlainThread) (m m1 : ℕ) (a b : List Made) → m1 ≡ m + length a → Done whole m a → Done whole m1 b → Done whole m (a ++ b)
  done_append whole m m1 a b e h k = λ i l. done_at whole m m1 a b i e h k (place_of a b i l)

  one_done : (whole : List PlainThread) (m : ℕ) (made : Made) → Placed whole m (pars_of made.body) → Done whole m (made ∷ [])
  one_done whole m made z zero l = moved_to whole m (m + 0) (pars_of made.body) (pars_of made.body) (omega arith) refl z
  one_done whole m made z (suc i) l = absurd (omega arith)

  mutual
    pub placed : {t m p m1 p1 : ℕ} {a : List Made} {x : List Fork} → Grown t m p a x m1 p1 → (pre post whole : List PlainThread) →
        whole ≡ pre ++ (shapes_of a ++ post) → length pre ≡ m → Away p p1 0 pre → Away p p1 m1 post → Done whole m a
    placed nothing pre post whole e long v w = λ i l. absurd (omega arith)
    placed {m = m} {p = p} (both {m1 = m1} {p1 = p1} {m2 = m2} {p2 = p2} {a = a} {b = b} g k) pre post whole e long v w =
        let up = pars_grow g in
        let down = pars_grow k in
        done_append whole m m1 a b (threads_grow g)
        (placed g pre (shapes_of b ++ post) whole (e ∙ parts_left a b pre post) long (away_narrow p p2 p p1 0 pre (omega arith) down v)
        (post_from m m1 m2 p p1 b post (threads_grow k) (λ n h l. outside text names k n (inl l)) (away_narrow p p2 p p1 m2 post (omega arith) down w)))
        (placed k (pre ++ shapes_of a) post whole (e ∙ parts_right a b pre post) (pre_long m m1 a pre long (threads_grow g))
        (pre_to m p1 p2 a pre long (away_narrow p p2 p1 p2 0 pre up (omega arith) v) (λ n h l. outside text names g n (inr h)))
        (away_narrow p p2 p1 p2 m2 post up (omega arith) w))
    placed {m = m} {p = p} (fork {m1 = m1} {p1 = p1} {m2 = m2} {p2 = p2} {a = a} {b = b} g r) pre post whole e long v w =
        let up = branch_pars g in
        let down = row_pars r in
        done_append whole m m1 a b (branch_threads g)
        (branch_placed g (omega arith) pre (shapes_of b ++ post) whole (e ∙ parts_left a b pre post) long (away_narrow p p2 (suc p) p1 0 pre (omega arith) down v)
        (post_from m m1 m2 (suc p) p1 b post (row_threads r) (λ n h l. row_outside text names r n (grind (arith, nat_tests)) (inl l)) (away_narrow p p2 (suc p) p1 m2 post (omega arith) down w)))
        (row_placed r (omega arith) (pre ++ shapes_of a) post whole (e ∙ parts_right a b pre post) (pre_long m m1 a pre long (branch_threads g))
        (pre_to m p1 p2 a pre long (away_narrow p p2 p1 p2 0 pre (omega arith) (omega arith) v) (λ n h l. branch_outside text names g n (grind (arith, nat_tests)) (inr h)))
        (away_narrow p p2 p1 p2 m2 post (omega arith) (omega arith) w))
    placed (turned x y g) pre post whole e long v w = placed g pre post whole e long v w

    branch_placed : {t q m p m1 p1 : ℕ} {a : List Made} → Branching t q m p a m1 p1 → q < p → (pre post whole : List PlainThread) →
        whole ≡ pre ++ (shapes_of a ++ post) → length pre ≡ m → Away p p1 0 pre → Away p p1 m1 post → Done whole m a
    branch_placed {q = q} {m = m} {p = p} {m1 = m1} {p1 = p1} (branch {a = a} {x = x} made pe pd n fs behind g) lt pre post whole e long v w =
        let e' : whole ≡ (pre ++ shapes_of (made ∷ [])) ++ (shapes_of a ++ post) = e ∙ parts_right (made ∷ []) a pre post in
        let long' : length (pre ++ shapes_of (made ∷ [])) ≡ suc m = pre_long m (suc m) (made ∷ []) pre long (omega arith) in
        let v' : Away p p1 0 (pre ++ shapes_of (made ∷ [])) = pre_to m p p1 (made ∷ []) pre long v (λ k h l.
        (let miss : (made.par == k) ≡ false = grind (arith, nat_tests) in ap (λ b. cond b (m ∷ []) []) miss)) in
        done_append whole m (suc m) (made ∷ []) a (omega arith)
        (one_done whole m made
        (record { forks = x; are = fs; fine = λ f h. fork_placed m (suc m) p m1 p1 a (pre ++ shapes_of (made ∷ [])) post whole f e' long' (threads_grow g) v' w (own_fork text names g f h) }))
        (placed g (pre ++ shapes_of (made ∷ [])) post whole e' long' v' w)

    row_placed : {t q m p m1 p1 : ℕ} {a : List Made} {us : List ℕ} → Row t q m p a us m1 p1 → q < p → (pre post whole : List PlainThread) →
        whole ≡ pre ++ (shapes_of a ++ post) → length pre ≡ m → Away p p1 0 pre → Away p p1 m1 post → Done whole m a
    row_placed no_row lt pre post whole e long v w = λ i l. absurd (omega arith)
    row_placed {q = q} {m = m} {p = p} (more_row {m1 = m1} {p1 = p1} {m2 = m2} {p2 = p2} {a = a} {b = b} g r) lt pre post whole e long v w =
        let up = branch_pars g in
        let down = row_pars r in
        done_append whole m m1 a b (branch_threads g)
        (branch_placed g lt pre (shapes_of b ++ post) whole (e ∙ parts_left a b pre post) long (away_narrow p p2 p p1 0 pre (omega arith) down v)
        (post_from m m1 m2 p p1 b post (row_threads r) (λ n h l. row_outside text names r n (grind (arith, nat_tests)) (inl l)) (away_narrow p p2 p p1 m2 post (omega arith) down w)))
        (row_placed r (omega arith) (pre ++ shapes_of a) post whole (e ∙ parts_right a b pre post) (pre_long m m1 a pre long (branch_threads g))
        (pre_to m p1 p2 a pre long (away_narrow p p2 p1 p2 0 pre up (omega arith) v) (λ n h l. branch_outside text names g n (grind (arith, nat_tests)) (inr h)))
        (away_narrow p p2 p1 p2 m2 post up (omega arith) w))

  -- ---- of the kernel

  pub root_grown : IsGrown 0 (record { slot = 0; thread = 1; par = 0 }) (pars_of (root text names).stmt) (root text names).made (root text names).next
  root_grown = place_grows text _ 0 0 (record { slot = 0; thread = 1; par = 0 })

  root_away : (p k : ℕ) → Away 0 p 0 (root_shape text names ∷ [])
  root_away p k = record { none = λ n l m. refl }

  none_away : (p k : ℕ) → Away 0 p k []
  none_away p k = record { none = λ n l m. refl }

  root_parts : root_shape text names ∷ shapes_of (root text names).made ≡ (root_shape text names ∷ []) ++ (shapes_of (root text names).made ++ [])
  root_parts = ap (λ l. root_shape text names ∷ l) (sym (append-nil (shapes_of (root text names).made)))

  pub root_placed : Placed (root_shape text names ∷ shapes_of (root text names).made) 0 (pars_of (root text names).stmt)
  root_placed =
      let g = root_grown in
      record {
        forks = g.forks;
        are = g.are;
        fine = λ f h.
            fork_placed 0 1 0 (root text names).next.thread (root text names).next.par (root text names).made (root_shape text names ∷ []) [] _ f root_parts refl (threads_grow g.grown)
            (root_away (root text names).next.par 0) (none_away (root text names).next.par (root text names).next.thread) (own_fork text names g.grown f h);
      }

  pub made_placed : Done (root_shape text names ∷ shapes_of (root text names).made) 1 (root text names).made
  made_placed =
      let g = root_grown in
      placed g.grown (root_shape text names ∷ []) [] _ root_parts refl (root_away (root text names).next.par 0) (none_away (root text names).next.par (root text names).next.thread)
