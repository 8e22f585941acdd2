-- How many values of a rising or falling run pass.
use Rattle.std.proofs.Common.{ℕ, zero, suc, ◌+◌, ◌-◌, ◌*◌, ◌<◌, ◌≤◌, ◌≡◌, ◌∙◌, ap, refl, Bool, true, false, ℤ, pos, negsuc, ◌+ℤ◌, ◌-ℤ◌, neg_ℤ, ◌≤ℤ◌, ◌<ℤ◌, Option, Some, None, arith}
use Rattle.std.specs.Prelude.{int_lt, int_le, FitsSigned}
use Rattle.std.specs.Int.{w32}
use Rattle.std.proofs.lemmas.Int.{ints}
use Rattle.forec_tree.specs.Turns.{is_i32, values_passed}
use Rattle.forec_tree.proofs.Runs.{value_at, run_is, run_none, run_out}

suc_times : (k c : ℕ) → suc k * c ≡ c + k * c
suc_times k c = omega arith

pub up_at : (k c : ℕ) (a : ℤ) → value_at k (pos c) a ≡ a +ℤ pos (k * c)
up_at zero c a = let e : 0 * c ≡ 0 = omega arith in rw e (omega (arith, ints))
up_at (suc k) c a = rw (suc_times k c) (up_at k c (a +ℤ pos c) ∙ omega (arith, ints))

pub down_at : (k c : ℕ) (a : ℤ) → value_at k (neg_ℤ (pos c)) a ≡ a -ℤ pos (k * c)
down_at zero c a = let e : 0 * c ≡ 0 = omega arith in rw e (omega (arith, ints))
down_at (suc k) c a = rw (suc_times k c) (down_at k c (a +ℤ neg_ℤ (pos c)) ∙ omega (arith, ints))

pub lt_true : (a b : ℤ) → a <ℤ b → int_lt a b ≡ true
lt_true a b h = grind (arith, ints)

pub lt_false : (a b : ℤ) → b ≤ℤ a → int_lt a b ≡ false
lt_false a b h = grind (arith, ints)

pub in_32 : (a : ℤ) → negsuc 2147483647 ≤ℤ a → a ≤ℤ pos 2147483647 → is_i32 a ≡ true
in_32 a l h = grind (arith, ints)

pub fits_32 : (a : ℤ) → FitsSigned w32 a → is_i32 a ≡ true
fits_32 a h = in_32 a (omega (arith, ints, h)) (omega (arith, ints, h))

pub out_32 : (a : ℤ) → pos 2147483647 <ℤ a → is_i32 a ≡ false
out_32 a h = grind (arith, ints)

pub under_32 : (a : ℤ) → a <ℤ negsuc 2147483647 → is_i32 a ≡ false
under_32 a h = grind (arith, ints)

-- the products below the last one
pub steps_mono : (k n c : ℕ) → k ≤ n → k * c ≤ n * c
steps_mono k zero c h = let e : k ≡ 0 = omega arith in rw e (omega arith)
steps_mono zero (suc n) c h = omega arith
steps_mono (suc k) (suc n) c h = let r = steps_mono k n c (omega arith) in rw (suc_times k c, suc_times n c) (omega (arith, r))

pub steps_le : (k n c d : ℕ) → k < n → (n - 1) * c < d → k * c < d
steps_le k n c d h e = let r = steps_mono k (n - 1) c (omega arith) in omega (arith, r, e)

module _ (left : ℕ) (a limit : ℤ) (c n d : ℕ) (some : 1 ≤ n) (reach : d ≤ n * c) (last : (n - 1) * c < d) (fit : is_i32 a ≡ true) where
  -- rising
  module _ (gap : a +ℤ pos d ≡ limit) where
    rises : (k : ℕ) → k < n → int_lt (value_at k (pos c) a) limit ≡ true
    rises k h =
        let below = steps_le k n c d h last in
        rw (up_at k c a) (lt_true (a +ℤ pos (k * c)) limit (omega (arith, ints, gap, below)))

    up_fits : (a +ℤ pos (n * c)) ≤ℤ pos 2147483647 → (k : ℕ) → k ≤ n → is_i32 (value_at k (pos c) a) ≡ true
    up_fits h k l =
        let m = steps_mono k n c l in
        rw (up_at k c a) (in_32 (a +ℤ pos (k * c)) (grind (arith, ints)) (omega (arith, ints, h, m)))

    pub up_some : n < left → (a +ℤ pos (n * c)) ≤ℤ pos 2147483647 → values_passed left (λ v. int_lt v limit) (pos c) a ≡ Some n
    up_some small h =
        run_is left (λ v. int_lt v limit) (pos c) a n small
        (record {
          pass = rises;
          fails = rw (up_at n c a) (lt_false (a +ℤ pos (n * c)) limit (omega (arith, ints, gap, reach)));
          fit = up_fits h;
        })

    pub up_long : left ≤ n → values_passed left (λ v. int_lt v limit) (pos c) a ≡ None
    up_long h = run_none left (λ v. int_lt v limit) (pos c) a n h rises

    pub up_out : pos 2147483647 <ℤ (a +ℤ pos (n * c)) → values_passed left (λ v. int_lt v limit) (pos c) a ≡ None
    up_out h = run_out left (λ v. int_lt v limit) (pos c) a n rises (rw (up_at n c a) (out_32 (a +ℤ pos (n * c)) h))

  -- falling
  module _ (gap : limit +ℤ pos d ≡ a) where
    falls : (k : ℕ) → k < n → int_lt limit (value_at k (neg_ℤ (pos c)) a) ≡ true
    falls k h =
        let below = steps_le k n c d h last in
        rw (down_at k c a) (lt_true limit (a -ℤ pos (k * c)) (omega (arith, ints, gap, below)))

    down_fits : negsuc 2147483647 ≤ℤ (a -ℤ pos (n * c)) → (k : ℕ) → k ≤ n → is_i32 (value_at k (neg_ℤ (pos c)) a) ≡ true
    down_fits h k l =
        let m = steps_mono k n c l in
        rw (down_at k c a) (in_32 (a -ℤ pos (k * c)) (omega (arith, ints, h, m)) (grind (arith, ints)))

    pub down_some : n < left → negsuc 2147483647 ≤ℤ (a -ℤ pos (n * c)) → values_passed left (λ v. int_lt limit v) (neg_ℤ (pos c)) a ≡ Some n
    down_some small h =
        run_is left (λ v. int_lt limit v) (neg_ℤ (pos c)) a n small
        (record {
          pass = falls;
          fails = rw (down_at n c a) (lt_false limit (a -ℤ pos (n * c)) (omega (arith, ints, gap, reach)));
          fit = down_fits h;
        })

    pub down_long : left ≤ n → values_passed left (λ v. int_lt limit v) (neg_ℤ (pos c)) a ≡ None
    down_long h = run_none left (λ v. int_lt limit v) (neg_ℤ (pos c)) a n h falls

    pub down_out : (a -ℤ pos (n * c)) <ℤ negsuc 2147483647 → values_passed left (λ v. int_lt limit v) (neg_ℤ (pos c)) a ≡ None
    down_out h = run_out left (λ v. int_lt limit v) (neg_ℤ (pos c)) a n falls (rw (down_at n c a) (under_32 (a -ℤ pos (n * c)) h))

-- a test that fails at once
pub none_pass : (left : ℕ) (passes : ℤ → Bool) (step a : ℤ) → 0 < left → passes a ≡ false → is_i32 a ≡ true → values_passed left passes step a ≡ Some 0
none_pass left passes step a h f i =
    run_is left passes step a 0 h
    (record { pass = λ k l. absurd (omega arith); fails = f; fit = λ k l. let e : k ≡ 0 = omega arith in rw e i })

-- tests that agree
pub same_run : (left : ℕ) (p q : ℤ → Bool) (step a : ℤ) → ((v : ℤ) → p v ≡ q v) → values_passed left p step a ≡ values_passed left q step a
unfolding values_passed
same_run zero p q step a h = refl
same_run (suc left) p q step a h = rw (h a, same_run left p q step (a +ℤ step) h) refl

pub le_lt : (b v : ℤ) → int_lt v (b +ℤ pos 1) ≡ int_le v b
le_lt b v = grind (arith, ints)

pub le_gt : (b v : ℤ) → int_lt (b -ℤ pos 1) v ≡ int_le b v
le_gt b v = grind (arith, ints)

pub up_to : (left : ℕ) (limit b step a n : ℤ) (result : Option ℕ) → limit ≡ b +ℤ pos 1 → a ≡ n → result ≡ values_passed left (λ v. int_lt v limit) step a →
    result ≡ values_passed left (λ v. int_le v b) step n
up_to left limit b step a n result h e g =
    g ∙ ap (λ l. values_passed left (λ v. int_lt v l) step a) h ∙ ap (values_passed left (λ v. int_lt v (b +ℤ pos 1)) step) e
    ∙ same_run left (λ v. int_lt v (b +ℤ pos 1)) (λ v. int_le v b) step n (le_lt b)

pub down_to : (left : ℕ) (limit b step a n : ℤ) (result : Option ℕ) → limit ≡ b -ℤ pos 1 → a ≡ n → result ≡ values_passed left (λ v. int_lt limit v) step a →
    result ≡ values_passed left (λ v. int_le b v) step n
down_to left limit b step a n result h e g =
    g ∙ ap (λ l. values_passed left (λ v. int_lt l v) step a) h ∙ ap (values_passed left (λ v. int_lt (b -ℤ pos 1) v) step) e
    ∙ same_run left (λ v. int_lt (b -ℤ pos 1) v) (λ v. int_le b v) step n (le_gt b)
