-- A search through the calls.
use Rattle.std.proofs.Common.{ℕ, ◌+◌, ◌*◌, ◌≤◌, ◌≡◌, ◌∙◌, ◌==◌, sym, ap, refl, subst, ◌⊎◌, inl, inr, ⊎_elim, Bool, true, false, cond, not, ◌&&◌, ◌||◌, List, [], ◌∷◌, ◌++◌, length, set, get_or, length-append, arith, get_or-set_same, get_or-set_other}
use Rattle.std.proofs.Math.Bool.{and-true, and-false, or-true, or-false}
use Rattle.std.proofs.lemmas.Bool.{eqb-true}
use Rattle.std.proofs.lemmas.Bool.Decides.{nat_tests}
use Rattle.forec_tree.specs.Faults.{is_in, Leads, at_once, through}
use Rattle.forec_tree.proofs.Reach.{append}
use Rattle.loop_check.specs.Graph.{trues, FunctionsCall}
use Rattle.loop_check.proofs.IndexLemmas.{split}
use Rattle.loop_check.proofs.Ordered.{is_in_snoc, in_marks, other_id, trues_clear}

-- ---- those of a list that wait are put on the stack

pub record Followed (list : List ℕ) (before after : List Bool) (old new : List ℕ) : Type 0 where
  pub waiting : (g : ℕ) → get_or after g false ≡ (get_or before g false && not (is_in g list))
  pub rest : (g : ℕ) → is_in g new ≡ (is_in g old || (get_or before g false && is_in g list))
  pub size : 2 * trues after + length new ≤ 2 * trues before + length old

pub none_followed : (before : List Bool) (old : List ℕ) → Followed [] before before old old
none_followed before old =
    record {
      waiting = λ g. sym (and-true (get_or before g false));
      rest = λ g. sym (or-false (is_in g old)) ∙ ap (λ b. is_in g old || b) (sym (and-false (get_or before g false)));
      size = omega arith;
    }

module _ (list : List ℕ) (before after : List Bool) (old new : List ℕ) (x : ℕ) (f : Followed list before after old new) where
  -- one that waits
  pub put_one : get_or after x false ≡ true → Followed (list ++ x ∷ []) before (set after x false) old (new ++ x ∷ [])
  put_one w =
      let began : get_or before x false ≡ true = left_true (get_or before x false) (not (is_in x list)) (sym (f.waiting x) ∙ w) in
      let clear = trues_clear after x w in
      let size = f.size in
      let n = length-append new (x ∷ []) in
      record {
        waiting = λ g.
            split (x == g)
            (λ e.
            let q : x ≡ g = eqb-true x g e in
            ap (λ y. get_or (set after x false) y false) (sym q) ∙ get_or-set_same after x false false (in_marks after x w)
            ∙ sym (ap (λ b. get_or before g false && not b) (is_in_snoc g x list ∙ ap (λ b. is_in g list || b) e ∙ or-true (is_in g list)) ∙ and-false (get_or before g false)))
            (λ e.
            get_or-set_other after x g false false (other_id x g e) ∙ f.waiting g
            ∙ ap (λ b. get_or before g false && not b) (sym (is_in_snoc g x list ∙ ap (λ b. is_in g list || b) e ∙ or-false (is_in g list))));
        rest = λ g.
            is_in_snoc g x new ∙
            split (x == g)
            (λ e.
            let q : x ≡ g = eqb-true x g e in
            ap (λ b. is_in g new || b) e ∙ or-true (is_in g new)
            ∙ sym (ap (λ b. is_in g old || (get_or before g false && b)) (is_in_snoc g x list ∙ ap (λ b. is_in g list || b) e ∙ or-true (is_in g list))
            ∙ ap (λ b. is_in g old || (b && true)) (subst (λ y. get_or before y false ≡ true) q began) ∙ or-true (is_in g old)))
            (λ e.
            ap (λ b. is_in g new || b) e ∙ or-false (is_in g new) ∙ f.rest g
            ∙ ap (λ b. is_in g old || (get_or before g false && b)) (sym (is_in_snoc g x list ∙ ap (λ b. is_in g list || b) e ∙ or-false (is_in g list))));
        size = omega (arith, clear, size, n);
      }
    where
      left_true : (a b : Bool) → (a && b) ≡ true → a ≡ true
      left_true true b h = refl
      left_true false b h = h

  -- one that waits no more, or is no function
  pub pass_one : get_or after x false ≡ false → Followed (list ++ x ∷ []) before after old new
  pass_one w =
      record {
        waiting = λ g.
            split (x == g)
            (λ e.
            let q : x ≡ g = eqb-true x g e in
            subst (λ y. get_or after y false ≡ false) q w
            ∙ sym (ap (λ b. get_or before g false && not b) (is_in_snoc g x list ∙ ap (λ b. is_in g list || b) e ∙ or-true (is_in g list)) ∙ and-false (get_or before g false)))
            (λ e. f.waiting g ∙ ap (λ b. get_or before g false && not b) (sym (is_in_snoc g x list ∙ ap (λ b. is_in g list || b) e ∙ or-false (is_in g list))));
        rest = λ g.
            f.rest g ∙
            split (x == g)
            (λ e.
            let q : x ≡ g = eqb-true x g e in
            let gone : (get_or before g false && not (is_in g list)) ≡ false = sym (f.waiting g) ∙ subst (λ y. get_or after y false ≡ false) q w in
            ap (λ b. is_in g old || b) (same (get_or before g false) (is_in g list) gone)
            ∙ ap (λ b. is_in g old || (get_or before g false && b)) (sym (is_in_snoc g x list ∙ ap (λ b. is_in g list || b) e ∙ or-true (is_in g list))))
            (λ e. ap (λ b. is_in g old || (get_or before g false && b)) (sym (is_in_snoc g x list ∙ ap (λ b. is_in g list || b) e ∙ or-false (is_in g list))));
        size = f.size;
      }
    where
      same : (a b : Bool) → (a && not b) ≡ false → (a && b) ≡ (a && true)
      same true true h = refl
      same true false h = absurd (let q : true ≡ false = h in cc)
      same false b h = refl

-- ---- the search from a function

-- what was seen: the function itself, and each function that waits no more
abbrev pub seen : List ℕ → ℕ → List Bool → ℕ → Bool
seen functions f waiting g = (f == g) || (is_in g functions && not (get_or waiting g false))

-- no call of a function leads to the one that is looked for, nor to one that was not seen
abbrev pub Passed : List ℕ → (ℕ → List ℕ) → ℕ → List Bool → ℕ → Type 0
Passed functions calls f waiting g =
    (h : ℕ) → is_in h (calls g) ≡ true → ((f == h) ≡ false) × (is_in h functions ≡ true → get_or waiting h false ≡ false)

pub record Searching (functions : List ℕ) (calls : ℕ → List ℕ) (f : ℕ) (waiting : List Bool) (rest : List ℕ) : Type 0 where
  pub sound : (g : ℕ) → is_in g rest ≡ true → (f ≡ g) ⊎ Leads calls f g
  pub closed : (g : ℕ) → seen functions f waiting g ≡ true → (is_in g rest ≡ true) ⊎ Passed functions calls f waiting g

only : (g n : ℕ) → is_in g (n ∷ []) ≡ true → n ≡ g
only g n h = split (n == g) (λ e. eqb-true n g e) (λ e. absurd (let q : false ≡ true = sym (ap (λ b. cond b true false) e) ∙ h in cc))

pub begins : (functions : List ℕ) (calls : ℕ → List ℕ) (f : ℕ) (waiting : List Bool) → ((g : ℕ) → get_or waiting g false ≡ is_in g functions) → Searching functions calls f waiting (f ∷ [])
begins functions calls f waiting w =
    record {
      sound = λ g i. inl (only g f i);
      closed = λ g s.
          inl (split (f == g) (λ e. ap (λ b. cond b true false) e)
          (λ e. absurd (none (is_in g functions) (sym (ap (λ b. b || (is_in g functions && not (get_or waiting g false))) e ∙ ap (λ b. is_in g functions && not b) (w g)) ∙ s))));
    }
  where
    none : (b : Bool) → (b && not b) ≡ true → ⊥
    none true h = let q : false ≡ true = h in cc
    none false h = let q : false ≡ true = h in cc

module _ (functions : List ℕ) (calls : ℕ → List ℕ) (f : ℕ) (call : FunctionsCall functions calls) where
  -- the last one of the stack leads to the function
  pub found_it : (waiting : List Bool) (rest : List ℕ) (g : ℕ) → Searching functions calls f waiting (rest ++ g ∷ []) → is_in f (calls g) ≡ true → Leads calls f f
  found_it waiting rest g s i =
      ⊎_elim (λ e. at_once (subst (λ y. is_in f (calls y) ≡ true) (sym e) i)) (λ l. append calls l (at_once i))
      (s.sound g (is_in_snoc g g rest ∙ (let q : (g == g) ≡ true = grind (arith, nat_tests) in ap (λ b. is_in g rest || b) q) ∙ or-true (is_in g rest)))

  -- it was followed
  pub followed_on : (before after : List Bool) (old new : List ℕ) (g : ℕ) → Searching functions calls f before (old ++ g ∷ []) → Followed (calls g) before after old new →
      is_in f (calls g) ≡ false → Searching functions calls f after new
  followed_on before after old new g s w no_f =
      record {
        sound = λ h i.
            split (is_in h old) (λ o. s.sound h (is_in_snoc h g old ∙ ap (λ b. b || (g == h)) o))
            (λ o.
            let c : is_in h (calls g) ≡ true = right_true (get_or before h false) (is_in h (calls g)) (sym (ap (λ b. b || (get_or before h false && is_in h (calls g))) o) ∙ sym (w.rest h) ∙ i) in
            inr (⊎_elim (λ e. at_once (subst (λ y. is_in h (calls y) ≡ true) (sym e) c)) (λ l. append calls l (at_once c))
            (s.sound g (is_in_snoc g g old ∙ (let q : (g == g) ≡ true = grind (arith, nat_tests) in ap (λ b. is_in g old || b) q) ∙ or-true (is_in g old)))));
        closed = λ h v.
            split (get_or before h false && is_in h (calls g)) (λ p. inl (w.rest h ∙ ap (λ b. is_in h old || b) p ∙ or-true (is_in h old)))
            (λ p.
            let was : seen functions f before h ≡ true = earlier (f == h) (is_in h functions) (get_or before h false) (is_in h (calls g)) p (sym (ap (λ b. (f == h) || (is_in h functions && not b)) (w.waiting h)) ∙ v) in
            ⊎_elim
            (λ i.
            split (is_in h old) (λ o. inl (w.rest h ∙ ap (λ b. b || (get_or before h false && is_in h (calls g))) o))
            (λ o.
            let q : g ≡ h = eqb-true g h (sym (is_in_snoc h g old ∙ ap (λ b. b || (g == h)) o) ∙ i) in
            inr (subst (λ y. Passed functions calls f after y) q now)))
            (λ d. inr (λ k c. ((d k c).0, λ x. w.waiting k ∙ ap (λ b. b && not (is_in k (calls g))) ((d k c).1 x))))
            (s.closed h was));
      }
    where
      now : Passed functions calls f after g
      now k c = (
        split (f == k) (λ e. absurd (let q : true ≡ false = sym c ∙ sym (ap (λ y. is_in y (calls g)) (eqb-true f k e)) ∙ no_f in cc)) (λ e. e),
        λ x. w.waiting k ∙ ap (λ b. get_or before k false && not b) c ∙ and-false (get_or before k false),
      )

      right_true : (a b : Bool) → (a && b) ≡ true → b ≡ true
      right_true true b h = h
      right_true false b h = absurd (let q : false ≡ true = h in cc)

      earlier : (e i w c : Bool) → (w && c) ≡ false → (e || (i && not (w && not c))) ≡ true → (e || (i && not w)) ≡ true
      earlier true i w c p v = refl
      earlier false i false c p v = v
      earlier false i true true p v = absurd (let q : true ≡ false = p in cc)
      earlier false i true false p v = v

  -- the end of the search
  pub never : (waiting : List Bool) → Searching functions calls f waiting [] → {g h : ℕ} → Leads calls g h → h ≡ f → seen functions f waiting g ≡ true → ⊥
  never waiting s {g} {h} (at_once e) q v =
      ⊎_elim (λ i. let z : false ≡ true = i in cc)
      (λ p. let z : true ≡ false = sym (let t : (f == h) ≡ true = grind (arith, nat_tests) in t) ∙ (p h e).0 in cc)
      (s.closed g v)
  never waiting s {g} {h} (through {g = m} e r) q v =
      ⊎_elim (λ i. let z : false ≡ true = i in cc)
      (λ p.
      let is : is_in m functions ≡ true = function m r in
      never waiting s r q (ap (λ b. (f == m) || (b && not (get_or waiting m false))) is ∙ ap (λ b. (f == m) || not b) ((p m e).1 is) ∙ or-true (f == m)))
      (s.closed g v)
    where
      function : (m : ℕ) → Leads calls m h → is_in m functions ≡ true
      function m (at_once e) = call m h e
      function m (through {g = k} e r) = call m k e

  pub answers : (waiting : List Bool) → Searching functions calls f waiting [] → Leads calls f f → ⊥
  answers waiting s l =
      never waiting s l refl (let t : (f == f) ≡ true = grind (arith, nat_tests) in ap (λ b. b || (is_in f functions && not (get_or waiting f false))) t)
