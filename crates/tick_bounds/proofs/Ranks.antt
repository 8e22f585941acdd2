-- A value along chains of calls doesn't change once it is deep enough: no function reaches itself.
use Rattle.std.proofs.Common.{ℕ, zero, suc, ◌+◌, ◌<◌, ◌≤◌, ◌≡◌, ◌∙◌, ◌==◌, nat_lt, max, Bool, true, false, cond, List, [], ◌∷◌, length, refl, ap, sym, arith}
use Rattle.std.proofs.lemmas.Bool.Decides.{nat_tests}
use Rattle.std.proofs.lemmas.List.{get_or_past}
use Rattle.forec_kernel.specs.Terms.{Nop}
use Rattle.forec_kernel.specs.Shapes.{PlainKernel}
use Rattle.forec_kernel.specs.Combining.{contains}
use Rattle.forec_kernel.specs.WellFormed.{WellFormed, function_body, stmt_calls, greatest, chain}
use Rattle.tick_bounds.proofs.Agreeing.{Agree, first_contains, later_contains}

-- ---- how many of the first n functions have a smaller rank

abbrev smaller : (ℕ → ℕ) → ℕ → ℕ → ℕ
smaller rank r zero = 0
smaller rank r (suc n) = cond (nat_lt (rank n) r) 1 0 + smaller rank r n

more_smaller : (rank : ℕ → ℕ) (q r n : ℕ) → q ≤ r → smaller rank q n ≤ smaller rank r n
more_smaller rank q r zero h = omega arith
more_smaller rank q r (suc n) h = pick (nat_lt (rank n) q) (nat_lt (rank n) r) refl refl (more_smaller rank q r n h)
  where
    pick : (a b : Bool) → nat_lt (rank n) q ≡ a → nat_lt (rank n) r ≡ b → smaller rank q n ≤ smaller rank r n →
        cond a 1 0 + smaller rank q n ≤ cond b 1 0 + smaller rank r n
    pick true true e f ih = omega arith
    pick true false e f ih = absurd (grind (arith, nat_tests))
    pick false true e f ih = omega arith
    pick false false e f ih = omega arith

strictly : (rank : ℕ → ℕ) (g r n : ℕ) → g < n → rank g < r → smaller rank (rank g) n < smaller rank r n
strictly rank g r zero h l = absurd (omega arith)
strictly rank g r (suc n) h l =
    pick (nat_lt g n) refl (nat_lt (rank n) (rank g)) (nat_lt (rank n) r) refl refl (λ i. strictly rank g r n i l)
  where
    pick : (x : Bool) → nat_lt g n ≡ x → (a b : Bool) → nat_lt (rank n) (rank g) ≡ a → nat_lt (rank n) r ≡ b →
        (g < n → smaller rank (rank g) n < smaller rank r n) → cond a 1 0 + smaller rank (rank g) n < cond b 1 0 + smaller rank r n
    pick true x true true e f ih = let less = ih (grind (arith, nat_tests)) in omega arith
    pick true x true false e f ih = absurd (grind (arith, nat_tests))
    pick true x false true e f ih = let less = ih (grind (arith, nat_tests)) in omega arith
    pick true x false false e f ih = let less = ih (grind (arith, nat_tests)) in omega arith
    pick false x a b e f ih =
        let not_below : n ≤ g = grind (arith, nat_tests) in
        let is : g ≡ n = omega arith in
        last_one a b (ap rank is) e f
      where
        last_one : (a b : Bool) → rank g ≡ rank n → nat_lt (rank n) (rank g) ≡ a → nat_lt (rank n) r ≡ b →
            cond a 1 0 + smaller rank (rank g) n < cond b 1 0 + smaller rank r n
        last_one true b i e f = absurd (grind (arith, nat_tests))
        last_one false true i e f = omega (arith, more_smaller rank (rank g) r n (omega arith))
        last_one false false i e f = absurd (grind (arith, nat_tests))

all_smaller : (rank : ℕ → ℕ) (r n : ℕ) → smaller rank r n ≤ n
all_smaller rank r zero = omega arith
all_smaller rank r (suc n) = pick (nat_lt (rank n) r) (all_smaller rank r n)
  where
    pick : (a : Bool) → smaller rank r n ≤ n → cond a 1 0 + smaller rank r n ≤ suc n
    pick true h = omega arith
    pick false h = omega arith

-- ---- values by depth: nothing past the last function, and more depth matters for none that calls only such

module _ (k : PlainKernel) (wf : WellFormed k) (value : ℕ → ℕ → ℕ) (past : (deep f : ℕ) → length k.functions ≤ f → value deep f ≡ 0) (same : (deep f : ℕ) → f < length k.functions → Agree (value (suc deep)) (value deep) (stmt_calls (function_body k f)) → value (suc (suc deep)) f ≡ value (suc deep) f) where
  abbrev place_of : ℕ → ℕ
  place_of f = smaller wf.ranked.rank (wf.ranked.rank f) (length k.functions)

  settled_case : (deep f : ℕ) →
      (f < length k.functions → (g : ℕ) → (g < length k.functions → place_of g < place_of f) → value (suc deep) g ≡ value deep g) →
      (x : Bool) → nat_lt f (length k.functions) ≡ x → value (suc (suc deep)) f ≡ value (suc deep) f
  settled_case deep f ih true e =
      let within : f < length k.functions = grind (arith, nat_tests) in
      same deep f within
      (λ g c. ih within g (λ l. strictly wf.ranked.rank g (wf.ranked.rank f) (length k.functions) l (wf.ranked.falls f g within c)))
  settled_case deep f ih false e =
      let beyond : length k.functions ≤ f = grind (arith, nat_tests) in
      past (suc (suc deep)) f beyond ∙ sym (past (suc deep) f beyond)

  settled_at : (deep f : ℕ) → (f < length k.functions → place_of f < deep) → value (suc deep) f ≡ value deep f
  settled_at zero f h = first (nat_lt f (length k.functions)) refl
    where
      first : (x : Bool) → nat_lt f (length k.functions) ≡ x → value 1 f ≡ value 0 f
      first true e = let never = h (grind (arith, nat_tests)) in absurd (omega arith)
      first false e = let beyond : length k.functions ≤ f = grind (arith, nat_tests) in past 1 f beyond ∙ sym (past 0 f beyond)
  settled_at (suc deep) f h =
      settled_case deep f
      (λ w g l. settled_at deep g (λ i. let above = h w in let less = l i in omega arith)) (nat_lt f (length k.functions)) refl

  pub settled : (f : ℕ) → value (suc (length k.functions)) f ≡ value (length k.functions) f
  settled f =
      let n = length k.functions in
      let rank = wf.ranked.rank in
      settled_at n f
      (λ i. let less = strictly rank f (suc (rank f)) n i (omega arith) in
      let few = all_smaller rank (suc (rank f)) n in
      omega arith)

-- ---- how many functions stand in the longest chain of calls from one: a walk along calls ends

greatest_same : (a b : ℕ → ℕ) (fs : List ℕ) → Agree a b fs → greatest a fs ≡ greatest b fs
greatest_same a b [] h = refl
greatest_same a b (f ∷ fs) h =
    omega (arith, h f (first_contains f fs), greatest_same a b fs (λ g i. h g (later_contains g f fs i)))

le_greatest : (a : ℕ → ℕ) (fs : List ℕ) (g : ℕ) → contains g fs ≡ true → a g ≤ greatest a fs
le_greatest a [] g h = absurd (cc)
le_greatest a (f ∷ fs) g h = pick (f == g) refl h (λ i. le_greatest a fs g i)
  where
    pick : (x : Bool) → (f == g) ≡ x → cond x true (contains g fs) ≡ true → (contains g fs ≡ true → a g ≤ greatest a fs) → a g ≤ max (a f) (greatest a fs)
    pick true e i ih = let is : f ≡ g = grind (arith, nat_tests) in omega (arith, ap a is)
    pick false e i ih = omega (arith, ih i)

abbrev one_if : Bool → ℕ
one_if true = 1
one_if false = 0

abbrev one_each : PlainKernel → ℕ → ℕ
one_each k g = one_if (nat_lt g (length k.functions))

abbrev chain_within : PlainKernel → ℕ → ℕ → ℕ
chain_within k = chain (one_each k) k

unfoldable pub chain_length : PlainKernel → ℕ → ℕ
chain_length k = chain_within k (length k.functions)

one_past : (k : PlainKernel) (f : ℕ) → length k.functions ≤ f → one_each k f ≡ 0
one_past k f h = pick (nat_lt f (length k.functions)) refl
  where
    pick : (x : Bool) → nat_lt f (length k.functions) ≡ x → one_if x ≡ 0
    pick true e = absurd (grind (arith, nat_tests))
    pick false e = refl

one_within : (k : PlainKernel) (f : ℕ) → f < length k.functions → one_each k f ≡ 1
one_within k f h = pick (nat_lt f (length k.functions)) refl
  where
    pick : (x : Bool) → nat_lt f (length k.functions) ≡ x → one_if x ≡ 1
    pick true e = refl
    pick false e = absurd (grind (arith, nat_tests))

chain_past : (k : PlainKernel) (deep f : ℕ) → length k.functions ≤ f → chain_within k deep f ≡ 0
chain_past k zero f h = refl
chain_past k (suc deep) f h =
    let none = ap (λ s. greatest (chain_within k deep) (stmt_calls s)) (get_or_past k.functions f Nop h) in
    omega (arith, one_past k f h, none)

pub calls_fall : (k : PlainKernel) → WellFormed k → (f g : ℕ) → f < length k.functions → contains g (stmt_calls (function_body k f)) ≡ true →
    chain_length k g < chain_length k f
unfolding chain_length
calls_fall k wf f g h c =
    let n = length k.functions in
    let fixed = settled k wf (chain_within k) (chain_past k)
    (λ deep f' l agree. ap (λ m. one_each k f' + m) (greatest_same (chain_within k (suc deep)) (chain_within k deep) (stmt_calls (function_body k f')) agree)) f in
    omega (arith, fixed, one_within k f h, le_greatest (chain_within k n) (stmt_calls (function_body k f)) g c)
