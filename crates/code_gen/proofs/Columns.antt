-- The calls of combine functions, variable by variable and branch by branch.
use Rattle.std.proofs.Common.{◌≡◌, ℕ, suc, ◌+◌, ◌<◌, ◌==◌, nat_lt, List, [], ◌∷◌, ◌++◌, Option, Some, None, Bool, true, false, cond, ◌&&◌, refl, sym, ap, ◌∙◌, subst, arith}
use Rattle.std.specs.Prelude.{ℤ}
use Rattle.std.proofs.lemmas.Bool.{and_parts}
use Rattle.std.proofs.lemmas.Bool.Decides.{nat_tests}
use Rattle.forec_base.specs.declared.Policy.{Policy}
use Rattle.forec_kernel.specs.declared.shape.VarCopy.{VarCopy}
use Rattle.forec_kernel.specs.Shapes.{PlainKernel}
use Rattle.forec_kernel.specs.Values.{Value, Gives, Raises, copy_of}
use Rattle.forec_kernel.specs.Texts.{Threads, no_threads, child, is_active, uses_of}
use Rattle.forec_kernel.specs.WellFormed.{ascends}
use Rattle.forec_kernel.specs.Combining as combining
use Rattle.forec_kernel.specs.Combining.{contains, shares, takes_part, taking_part, some_marked, Joint, fold_calls, last_value, variable_calls, combined_value, variable_of, combine_of, part_of, joined_copy, joined_copies, joint_calls, calls_from, calls_at, count_threads, calls_in_order, Cost, Costs, Fails, more_cost, cost_of, join_cost}
use Rattle.thread_code.specs.Machine.{Total, total_of, put_total, no_total, no_totals}
use Rattle.code_gen.proofs.Each.{Each, each_map}

-- ---- ascending lists

abbrev pub Ascends : List ℕ → Type 0
Ascends [] = Unit {0}
Ascends (x ∷ xs) = Each (λ y. x < y) xs × Ascends xs

pub above_all : (x : ℕ) (ys : List ℕ) → Each (λ y. x < y) ys → (z : ℕ) → z < x → Each (λ y. z < y) ys
above_all x ys h z lt = each_map (λ y. x < y) (λ y. z < y) (λ y g. omega (arith, g, lt)) ys h

pub ascending : (xs : List ℕ) → ascends xs ≡ true → Ascends xs
ascending [] h = tt
ascending (x ∷ []) h = (tt, tt)
ascending (x ∷ y ∷ rest) h =
    let b = and_parts (nat_lt x y) (ascends (y ∷ rest)) h in
    let lt : x < y = grind (arith, nat_tests, b.0) in
    let r = ascending (y ∷ rest) b.1 in
    ((lt, above_all y rest r.0 x lt), r)

pub not_above : (x : ℕ) (ys : List ℕ) → Each (λ y. x < y) ys → contains x ys ≡ false
not_above x [] h = refl
not_above x (y ∷ ys) h = let e : (y == x) ≡ false = grind (arith, nat_tests, h.0) in rw e (not_above x ys h.1)

-- ---- the variables of which the thread has copies

abbrev pub kept : List ℕ → List VarCopy → List ℕ
kept [] copies = []
kept (v ∷ uses) [] = []
kept (v ∷ uses) (c ∷ copies) = v ∷ kept uses copies

kept_above : (x : ℕ) (uses : List ℕ) (copies : List VarCopy) → Each (λ y. x < y) uses → Each (λ y. x < y) (kept uses copies)
kept_above x [] copies h = tt
kept_above x (v ∷ uses) [] h = tt
kept_above x (v ∷ uses) (c ∷ copies) h = (h.0, kept_above x uses copies h.1)

pub kept_ascends : (uses : List ℕ) (copies : List VarCopy) → Ascends uses → Ascends (kept uses copies)
kept_ascends [] copies h = tt
kept_ascends (v ∷ uses) [] h = tt
kept_ascends (v ∷ uses) (c ∷ copies) h = (kept_above v uses copies h.0, kept_ascends uses copies h.1)

-- a total for each of them
abbrev pub Sized : List ℕ → List VarCopy → List Total → Type 0
Sized [] copies totals = totals ≡ []
Sized (v ∷ uses) [] totals = totals ≡ []
Sized (v ∷ uses) (c ∷ copies) [] = ⊥
Sized (v ∷ uses) (c ∷ copies) (x ∷ totals) = Sized uses copies totals

pub none_sized : (uses : List ℕ) (copies : List VarCopy) → Sized uses copies (no_totals uses copies)
none_sized [] copies = refl
none_sized (v ∷ uses) [] = refl
none_sized (v ∷ uses) (c ∷ copies) = none_sized uses copies

pub none_total : (uses : List ℕ) (copies : List VarCopy) (v : ℕ) → total_of uses (no_totals uses copies) v ≡ no_total
none_total [] copies v = refl
none_total (x ∷ uses) [] v = refl
none_total (x ∷ uses) (c ∷ copies) v = pick (x == v) (none_total uses copies v)
  where
    pick : (b : Bool) → total_of uses (no_totals uses copies) v ≡ no_total → cond b no_total (total_of uses (no_totals uses copies) v) ≡ no_total
    pick true ih = refl
    pick false ih = ih

pub put_sized : (uses : List ℕ) (copies : List VarCopy) (totals : List Total) (v : ℕ) (new : Total) → Sized uses copies totals → Sized uses copies (put_total uses totals v new)
put_sized [] copies totals v new h = h
put_sized (x ∷ uses) [] totals v new h = subst (λ l. put_total (x ∷ uses) l v new ≡ []) (sym h) refl
put_sized (x ∷ uses) (c ∷ copies) [] v new h = absurd h
put_sized (x ∷ uses) (c ∷ copies) (total ∷ totals) v new h = pick (x == v) (put_sized uses copies totals v new h)
  where
    pick : (b : Bool) → Sized uses copies (put_total uses totals v new) → Sized (x ∷ uses) (c ∷ copies) (cond b (new ∷ totals) (total ∷ put_total uses totals v new))
    pick true g = h
    pick false g = g

pub total_same : (uses : List ℕ) (copies : List VarCopy) (totals : List Total) (v : ℕ) (new : Total) → Sized uses copies totals → contains v (kept uses copies) ≡ true → total_of uses (put_total uses totals v new) v ≡ new
total_same [] copies totals v new h m = cc
total_same (x ∷ uses) [] totals v new h m = cc
total_same (x ∷ uses) (c ∷ copies) [] v new h m = absurd h
total_same (x ∷ uses) (c ∷ copies) (total ∷ totals) v new h m = pick (x == v) refl m (total_same uses copies totals v new h)
  where
    pick : (b : Bool) → (x == v) ≡ b → cond b true (contains v (kept uses copies)) ≡ true → (contains v (kept uses copies) ≡ true → total_of uses (put_total uses totals v new) v ≡ new) →
        total_of (x ∷ uses) (cond b (new ∷ totals) (total ∷ put_total uses totals v new)) v ≡ new
    pick true e m ih = rw e refl
    pick false e m ih = rw e (ih m)

pub total_other : (uses : List ℕ) (totals : List Total) (v : ℕ) (new : Total) (w : ℕ) → (v ≡ w → ⊥) → total_of uses (put_total uses totals v new) w ≡ total_of uses totals w
total_other [] totals v new w h = refl
total_other (x ∷ uses) [] v new w h = refl
total_other (x ∷ uses) (total ∷ totals) v new w h = pick (x == v) refl (total_other uses totals v new w h)
  where
    pick : (b : Bool) → (x == v) ≡ b → total_of uses (put_total uses totals v new) w ≡ total_of uses totals w → total_of (x ∷ uses) (cond b (new ∷ totals) (total ∷ put_total uses totals v new)) w ≡ total_of (x ∷ uses) (total ∷ totals) w
    pick true e ih =
        let same : x ≡ v = grind (arith, nat_tests, e) in
        let other : (x == w) ≡ false = differs x w (λ e'. h (sym same ∙ e')) in
        rw other refl
      where
        differs : (a b : ℕ) → (a ≡ b → ⊥) → (a == b) ≡ false
        differs a b h = by_test (a == b) refl
          where
            by_test : (t : Bool) → (a == b) ≡ t → t ≡ false
            by_test false e = refl
            by_test true e = absurd (h (grind (arith, nat_tests, e)))
    pick false e ih = ap (cond (x == w) total) ih

pub total_outside : (uses : List ℕ) (copies : List VarCopy) (totals : List Total) (v : ℕ) → Sized uses copies totals → contains v (kept uses copies) ≡ false → total_of uses totals v ≡ no_total
total_outside [] copies totals v h m = refl
total_outside (x ∷ uses) [] totals v h m = ap (λ l. total_of (x ∷ uses) l v) h
total_outside (x ∷ uses) (c ∷ copies) [] v h m = absurd h
total_outside (x ∷ uses) (c ∷ copies) (total ∷ totals) v h m = pick (x == v) m (total_outside uses copies totals v h)
  where
    pick : (b : Bool) → cond b true (contains v (kept uses copies)) ≡ false → (contains v (kept uses copies) ≡ false → total_of uses totals v ≡ no_total) → cond b total (total_of uses totals v) ≡ no_total
    pick true m ih = cc
    pick false m ih = ih m

-- ---- one call

-- the call of a combine function that a value makes, after the total so far
abbrev pub called : Option (ℤ → ℤ → Value) → Bool → Option ℤ → ℤ → List Value
called f false total n = []
called f true None n = []
called None true (Some m) n = []
called (Some g) true (Some m) n = g m n ∷ []

abbrev pub given_or : ℤ → Value → ℤ
given_or m (Gives x u) = x
given_or m (Raises place trap u) = m

abbrev pub total_after : Option (ℤ → ℤ → Value) → Bool → Option ℤ → ℤ → Option ℤ
total_after f false total n = total
total_after f true None n = Some n
total_after None true (Some m) n = Some m
total_after (Some g) true (Some m) n = Some (given_or m (g m n))

-- ---- costs

abbrev pub cost_then : Cost → Cost → Cost
cost_then (Costs a) c = more_cost a c
cost_then (Fails place trap a) c = Fails place trap a

more_then : (u : ℕ) (x y : Cost) → more_cost u (cost_then x y) ≡ cost_then (more_cost u x) y
more_then u (Costs a) (Costs b) = let e : u + (a + b) ≡ u + a + b = omega arith in ap Costs e
more_then u (Costs a) (Fails place trap b) = let e : u + (a + b) ≡ u + a + b = omega arith in ap (Fails place trap) e
more_then u (Fails place trap a) y = refl

none_then : (y : Cost) → y ≡ cost_then (Costs 0) y
none_then (Costs b) = let e : b ≡ 0 + b = omega arith in ap Costs e
none_then (Fails place trap b) = let e : b ≡ 0 + b = omega arith in ap (Fails place trap) e

pub cost_append : (xs ys : List Value) → cost_of (xs ++ ys) ≡ cost_then (cost_of xs) (cost_of ys)
cost_append [] ys = none_then (cost_of ys)
cost_append (Gives n u ∷ xs) ys = ap (more_cost u) (cost_append xs ys) ∙ more_then u (cost_of xs) (cost_of ys)
cost_append (Raises place trap u ∷ xs) ys = refl

-- no call traps
abbrev pub Given : Value → Type 0
Given (Gives n u) = Unit {0}
Given (Raises place trap u) = ⊥

pub all_given : (xs : List Value) (a : ℕ) → cost_of xs ≡ Costs a → Each Given xs
all_given [] a h = tt
all_given (Gives n u ∷ xs) a h = (tt, more u (cost_of xs) refl h (λ b e. all_given xs b e))
  where
    more : (u : ℕ) (c : Cost) → cost_of xs ≡ c → more_cost u c ≡ Costs a → ((b : ℕ) → cost_of xs ≡ Costs b → Each Given xs) → Each Given xs
    more u (Costs b) e h ih = ih b e
    more u (Fails place trap b) e h ih = cc
all_given (Raises place trap u ∷ xs) a h = cc

-- ---- one variable

abbrev pub rest_calls : Option (ℤ → ℤ → Value) → Option ℤ → List combining.Share → List Joint
rest_calls f None ss = variable_calls f ss
rest_calls None (Some n) ss = []
rest_calls (Some g) (Some n) ss = fold_calls g n ss

-- the total after all these, or up to a trap
abbrev pub total_in : Option (ℤ → ℤ → Value) → Option ℤ → List combining.Share → Option ℤ
total_in f total [] = total
total_in f None (s ∷ ss) = total_in f (Some s.copy.value) ss
total_in None (Some n) (s ∷ ss) = total_in None (Some n) ss
total_in (Some g) (Some n) (s ∷ ss) = elim (g n s.copy.value) [ Gives m u ↦ total_in (Some g) (Some m) ss | Raises place trap u ↦ Some n ]

-- from later branches
abbrev pub Later : ℕ → List combining.Share → Type 0
Later j = Each (λ s. j < s.from)

no_fold : (g : ℤ → ℤ → Value) (j : ℕ) (n : ℤ) (ss : List combining.Share) → Later j ss → calls_from j (fold_calls g n ss) ≡ []
no_fold g j n [] h = refl
no_fold g j n (s ∷ ss) h = pick (g n s.copy.value) (λ m. no_fold g j m ss h.1)
  where
    other : (s.from == j) ≡ false
    other = let lt : j < s.from = h.0 in grind (arith, nat_tests)

    pick : (v : Value) → ((m : ℤ) → calls_from j (fold_calls g m ss) ≡ []) →
        calls_from j (elim v [ Gives m u ↦ record { from = s.from; gives = Gives m u } ∷ fold_calls g m ss | Raises place trap u ↦ record { from = s.from; gives = Raises place trap u } ∷ [] ]) ≡ []
    pick (Gives m u) ih = rw other (ih m)
    pick (Raises place trap u) ih = rw other refl

no_rest : (f : Option (ℤ → ℤ → Value)) (j : ℕ) (total : Option ℤ) (ss : List combining.Share) → Later j ss → calls_from j (rest_calls f total ss) ≡ []
no_rest None j None [] h = refl
no_rest None j None (s ∷ ss) h = refl
no_rest (Some g) j None [] h = refl
no_rest (Some g) j None (s ∷ ss) h = no_fold g j s.copy.value ss h.1
no_rest None j (Some n) ss h = refl
no_rest (Some g) j (Some n) ss h = no_fold g j n ss h

taking_later : (p : Policy) (base : ℤ) (j : ℕ) (ss : List combining.Share) → Later j ss → Later j (taking_part p base ss)
taking_later p base j [] h = tt
taking_later p base j (s ∷ ss) h = pick (takes_part p base s.copy) (taking_later p base j ss h.1)
  where
    pick : (b : Bool) → Later j (taking_part p base ss) → Later j (cond b (s ∷ taking_part p base ss) (taking_part p base ss))
    pick true ih = (h.0, ih)
    pick false ih = ih

pub shares_later : (k : PlainKernel) (v i j : ℕ) (cs : Threads) → i < j → Later i (shares k v j cs)
shares_later k v i j no_threads lt = tt
shares_later k v i j (child t R w c st rest) lt = pick (is_active st && contains v (uses_of k t)) (shares_later k v i (suc j) rest (omega (arith, lt)))
  where
    pick : (b : Bool) → Later i (shares k v (suc j) rest) → Later i (cond b (record { from = j; copy = copy_of (uses_of k t) c v } ∷ shares k v (suc j) rest) (shares k v (suc j) rest))
    pick true ih = (lt, ih)
    pick false ih = ih

-- this branch's share before the others
abbrev pub with_share : Option VarCopy → ℕ → List combining.Share → List combining.Share
with_share None j ss = ss
with_share (Some d) j ss = record { from = j; copy = d } ∷ ss

abbrev pub share_calls : Option (ℤ → ℤ → Value) → Policy → ℤ → Option ℤ → Option VarCopy → List Value
share_calls f p base total None = []
share_calls f p base total (Some d) = called f (takes_part p base d) total d.value

abbrev pub share_total : Option (ℤ → ℤ → Value) → Policy → ℤ → Option ℤ → Option VarCopy → Option ℤ
share_total f p base total None = total
share_total f p base total (Some d) = total_after f (takes_part p base d) total d.value

same_one : (j : ℕ) → (j == j) ≡ true
same_one j = grind (arith, nat_tests)

-- the calls of this branch
pub calls_now : (f : Option (ℤ → ℤ → Value)) (p : Policy) (base : ℤ) (total : Option ℤ) (sh : Option VarCopy) (j : ℕ) (ss : List combining.Share) → Later j ss →
    calls_from j (rest_calls f total (taking_part p base (with_share sh j ss))) ≡ share_calls f p base total sh
calls_now f p base total None j ss h = no_rest f j total (taking_part p base ss) (taking_later p base j ss h)
calls_now f p base total (Some d) j ss h = pick (takes_part p base d) f total
  where
    later : Later j (taking_part p base ss)
    later = taking_later p base j ss h

    pick : (b : Bool) (f : Option (ℤ → ℤ → Value)) (total : Option ℤ) → calls_from j (rest_calls f total (cond b (record { from = j; copy = d } ∷ taking_part p base ss) (taking_part p base ss))) ≡ called f b total d.value
    pick false f total = no_rest f j total (taking_part p base ss) later
    pick true None None = refl
    pick true (Some g) None = no_fold g j d.value (taking_part p base ss) later
    pick true None (Some m) = refl
    pick true (Some g) (Some m) = by_value (g m d.value)
      where
        by_value : (v : Value) → calls_from j (elim v [ Gives m u ↦ record { from = j; gives = Gives m u } ∷ fold_calls g m (taking_part p base ss) | Raises place trap u ↦ record { from = j; gives = Raises place trap u } ∷ [] ]) ≡ v ∷ []
        by_value (Gives x u) = rw (same_one j) (ap (λ l. Gives x u ∷ l) (no_fold g j x (taking_part p base ss) later))
        by_value (Raises place trap u) = rw (same_one j) refl

-- the calls of later branches and the total of all, where no call of this one trapped
branch_done : (f : Option (ℤ → ℤ → Value)) (p : Policy) (base : ℤ) (total : Option ℤ) (sh : Option VarCopy) (i j : ℕ) (ss : List combining.Share) → j < i → Each Given (share_calls f p base total sh) →
    (calls_from i (rest_calls f total (taking_part p base (with_share sh j ss))) ≡ calls_from i (rest_calls f (share_total f p base total sh) (taking_part p base ss)))
    × (total_in f total (taking_part p base (with_share sh j ss)) ≡ total_in f (share_total f p base total sh) (taking_part p base ss))
branch_done f p base total None i j ss lt h = (refl, refl)
branch_done f p base total (Some d) i j ss lt h = pick (takes_part p base d) f total h
  where
    other : (j == i) ≡ false
    other = grind (arith, nat_tests)

    pick : (b : Bool) (f : Option (ℤ → ℤ → Value)) (total : Option ℤ) → Each Given (called f b total d.value) →
        (calls_from i (rest_calls f total (cond b (record { from = j; copy = d } ∷ taking_part p base ss) (taking_part p base ss))) ≡ calls_from i (rest_calls f (total_after f b total d.value) (taking_part p base ss)))
        × (total_in f total (cond b (record { from = j; copy = d } ∷ taking_part p base ss) (taking_part p base ss)) ≡ total_in f (total_after f b total d.value) (taking_part p base ss))
    pick false f total h = (refl, refl)
    pick true None None h = (refl, refl)
    pick true (Some g) None h = (refl, refl)
    pick true None (Some m) h = (refl, refl)
    pick true (Some g) (Some m) h = by_value (g m d.value) h.0
      where
        by_value : (v : Value) → Given v →
            (calls_from i (elim v [ Gives m u ↦ record { from = j; gives = Gives m u } ∷ fold_calls g m (taking_part p base ss) | Raises place trap u ↦ record { from = j; gives = Raises place trap u } ∷ [] ]) ≡ calls_from i (fold_calls g (given_or m v) (taking_part p base ss)))
            × (elim v [ Gives x u ↦ total_in (Some g) (Some x) (taking_part p base ss) | Raises place trap u ↦ Some m ] ≡ total_in (Some g) (Some (given_or m v)) (taking_part p base ss))
        by_value (Gives x u) h = (rw other refl, refl)
        by_value (Raises place trap u) h = absurd h

pub calls_later : (f : Option (ℤ → ℤ → Value)) (p : Policy) (base : ℤ) (total : Option ℤ) (sh : Option VarCopy) (i j : ℕ) (ss : List combining.Share) → j < i → Each Given (share_calls f p base total sh) →
    calls_from i (rest_calls f total (taking_part p base (with_share sh j ss))) ≡ calls_from i (rest_calls f (share_total f p base total sh) (taking_part p base ss))
calls_later f p base total sh i j ss lt h = (branch_done f p base total sh i j ss lt h).0

pub total_now : (f : Option (ℤ → ℤ → Value)) (p : Policy) (base : ℤ) (total : Option ℤ) (sh : Option VarCopy) (j : ℕ) (ss : List combining.Share) → Each Given (share_calls f p base total sh) →
    total_in f total (taking_part p base (with_share sh j ss)) ≡ total_in f (share_total f p base total sh) (taking_part p base ss)
total_now f p base total sh j ss h = (branch_done f p base total sh (suc j) j ss (omega arith) h).1

-- what is combined of all
pub total_combined : (f : Option (ℤ → ℤ → Value)) (base : ℤ) (ss : List combining.Share) → elim (total_in f None ss) [ Some n ↦ n | None ↦ base ] ≡ combined_value f base ss
total_combined None base [] = refl
total_combined (Some g) base [] = refl
total_combined None base (s ∷ ss) = ap (λ (x : Option ℤ). elim x [ Some n ↦ n | None ↦ base ]) (none s.copy.value ss)
  where
    none : (n : ℤ) (ss : List combining.Share) → total_in None (Some n) ss ≡ Some n
    none n [] = refl
    none n (s ∷ ss) = none n ss
total_combined (Some g) base (s ∷ ss) = folded s.copy.value ss
  where
    folded : (n : ℤ) (ss : List combining.Share) → elim (total_in (Some g) (Some n) ss) [ Some n ↦ n | None ↦ base ] ≡ last_value n (fold_calls g n ss)
    folded n [] = refl
    folded n (s ∷ ss) = by_value (g n s.copy.value) (λ m. folded m ss)
      where
        by_value : (v : Value) → ((m : ℤ) → elim (total_in (Some g) (Some m) ss) [ Some n ↦ n | None ↦ base ] ≡ last_value m (fold_calls g m ss)) →
            elim (elim v as (λ x. Option ℤ) [ Gives m u ↦ total_in (Some g) (Some m) ss | Raises place trap u ↦ Some n ]) [ Some n ↦ n | None ↦ base ] ≡ last_value n (elim v [ Gives m u ↦ record { from = s.from; gives = Gives m u } ∷ fold_calls g m ss | Raises place trap u ↦ record { from = s.from; gives = Raises place trap u } ∷ [] ])
        by_value (Gives m u) ih = ih m
        by_value (Raises place trap u) ih = refl
