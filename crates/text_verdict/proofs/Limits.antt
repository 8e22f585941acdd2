-- A program passes one limit first, or none.
use Rattle.std.proofs.Common.{◌≡◌, ◌⊎◌, inl, inr, ℕ, ◌<◌, Bool, true, false, nat_lt, ltb-true, ltb-false, List, [], ◌∷◌, refl, sym, ap, ◌∙◌, arith}
use Rattle.forec_kernel.specs.Shapes.{PlainKernel}
use Rattle.forec_tree.specs.Terms.{Text}
use Rattle.forec_tree.specs.Faults.{Member, here, later}
use Rattle.text_kernel.specs.Kernels.{kernel_of}
use Rattle.text_kernel.specs.Limits.{amount, limit_of, earlier, IsWithinLimit, WithinLimits, IsLimit}
use Rattle.text_kernel.specs.declared.limits.Quantity.{Quantity}
use Rattle.text_kernel.specs.declared.limits.Quantity.TheVariants.{Threads, Words, Globals, Tables, Terms, Depth}

-- of two quantities one is tested before the other
data Order (p q : Quantity) : Type 0 where
  same : p ≡ q → Order p q
  first : Member p (earlier q) → Order p q
  second : Member q (earlier p) → Order p q

order : (p q : Quantity) → Order p q
order Threads Threads = same refl
order Threads Words = first here
order Threads Globals = first here
order Threads Tables = first here
order Threads Terms = first here
order Threads Depth = first here
order Words Threads = second here
order Words Words = same refl
order Words Globals = first (later here)
order Words Tables = first (later here)
order Words Terms = first (later here)
order Words Depth = first (later here)
order Globals Threads = second here
order Globals Words = second (later here)
order Globals Globals = same refl
order Globals Tables = first (later (later here))
order Globals Terms = first (later (later here))
order Globals Depth = first (later (later here))
order Tables Threads = second here
order Tables Words = second (later here)
order Tables Globals = second (later (later here))
order Tables Tables = same refl
order Tables Terms = first (later (later (later here)))
order Tables Depth = first (later (later (later here)))
order Terms Threads = second here
order Terms Words = second (later here)
order Terms Globals = second (later (later here))
order Terms Tables = second (later (later (later here)))
order Terms Terms = same refl
order Terms Depth = first (later (later (later (later here))))
order Depth Threads = second here
order Depth Words = second (later here)
order Depth Globals = second (later (later here))
order Depth Tables = second (later (later (later here)))
order Depth Terms = second (later (later (later (later here))))
order Depth Depth = same refl

-- a limit that is passed isn't kept
passed : (text : Text) (names : List (List ℕ)) (q : Quantity) → limit_of q < amount q (kernel_of text names) → IsWithinLimit (kernel_of text names) q → ⊥
passed text names q p f = omega arith

pub one_limit : (text : Text) (names : List (List ℕ)) (p q : Quantity) (m n : ℕ) → IsLimit text names p m → IsLimit text names q n → (p ≡ q) × (m ≡ n)
one_limit text names p q m n x y = by (order p q)
  where
    by : Order p q → (p ≡ q) × (m ≡ n)
    by (same e) = (e, x.is ∙ ap limit_of e ∙ sym y.is)
    by (first e) = absurd (passed text names p x.passes (y.first p e))
    by (second e) = absurd (passed text names q y.passes (x.first q e))

pub no_limit : (text : Text) (names : List (List ℕ)) (q : Quantity) (n : ℕ) → WithinLimits (kernel_of text names) → IsLimit text names q n → ⊥
no_limit text names q n w x = passed text names q x.passes (w q)

-- a quantity keeps its limit, or passes it
data Kept (k : PlainKernel) (q : Quantity) : Type 0 where
  fits : IsWithinLimit k q → Kept k q
  over : limit_of q < amount q k → Kept k q

kept : (k : PlainKernel) (q : Quantity) → Kept k q
kept k q = by (nat_lt (limit_of q) (amount q k)) refl
  where
    by : (t : Bool) → nat_lt (limit_of q) (amount q k) ≡ t → Kept k q
    by true e = over (ltb-true (limit_of q) (amount q k) e)
    by false e = fits (ltb-false (limit_of q) (amount q k) e)

no_member : {A : Type 0} (P : A → Type 0) (p : A) → Member p [] → P p
no_member P p m = elim m [ ]

-- what holds of an item and of the others holds of each
one_member : {A : Type 0} (P : A → Type 0) (x : A) (xs : List A) → P x → ((p : A) → Member p xs → P p) → (p : A) → Member p (x ∷ xs) → P p
one_member P x xs a f p here = a
one_member P x xs a f p (later m) = f p m

-- which of the first limits are kept, up to one that isn't
module _ (text : Text) (names : List (List ℕ)) where
  abbrev kernel : PlainKernel
  kernel = kernel_of text names

  abbrev Passes : Type 0
  Passes = (q : Quantity) × IsLimit text names q (limit_of q)

  passes : (q : Quantity) → limit_of q < amount q kernel → ((p : Quantity) → Member p (earlier q) → IsWithinLimit kernel p) → Passes
  passes q p f = (q, record { passes = p; first = f; is = refl })

  before_threads : (p : Quantity) → Member p (earlier Threads) → IsWithinLimit kernel p
  before_threads = no_member (IsWithinLimit kernel)

  before_words : IsWithinLimit kernel Threads → (p : Quantity) → Member p (earlier Words) → IsWithinLimit kernel p
  before_words f0 = one_member (IsWithinLimit kernel) Threads _ f0 (no_member (IsWithinLimit kernel))

  before_globals : IsWithinLimit kernel Threads → IsWithinLimit kernel Words → (p : Quantity) → Member p (earlier Globals) → IsWithinLimit kernel p
  before_globals f0 f1 = one_member (IsWithinLimit kernel) Threads _ f0 (one_member (IsWithinLimit kernel) Words _ f1 (no_member (IsWithinLimit kernel)))

  before_tables : IsWithinLimit kernel Threads → IsWithinLimit kernel Words → IsWithinLimit kernel Globals → (p : Quantity) → Member p (earlier Tables) → IsWithinLimit kernel p
  before_tables f0 f1 f2 = one_member (IsWithinLimit kernel) Threads _ f0 (one_member (IsWithinLimit kernel) Words _ f1 (one_member (IsWithinLimit kernel) Globals _ f2 (no_member (IsWithinLimit kernel))))

  before_terms : IsWithinLimit kernel Threads → IsWithinLimit kernel Words → IsWithinLimit kernel Globals → IsWithinLimit kernel Tables → (p : Quantity) → Member p (earlier Terms) → IsWithinLimit kernel p
  before_terms f0 f1 f2 f3 = one_member (IsWithinLimit kernel) Threads _ f0 (one_member (IsWithinLimit kernel) Words _ f1 (one_member (IsWithinLimit kernel) Globals _ f2 (one_member (IsWithinLimit kernel) Tables _ f3 (no_member (IsWithinLimit kernel)))))

  before_depth : IsWithinLimit kernel Threads → IsWithinLimit kernel Words → IsWithinLimit kernel Globals → IsWithinLimit kernel Tables → IsWithinLimit kernel Terms → (p : Quantity) → Member p (earlier Depth) → IsWithinLimit kernel p
  before_depth f0 f1 f2 f3 f4 = one_member (IsWithinLimit kernel) Threads _ f0 (one_member (IsWithinLimit kernel) Words _ f1 (one_member (IsWithinLimit kernel) Globals _ f2 (one_member (IsWithinLimit kernel) Tables _ f3 (one_member (IsWithinLimit kernel) Terms _ f4 (no_member (IsWithinLimit kernel))))))

  within : IsWithinLimit kernel Threads → IsWithinLimit kernel Words → IsWithinLimit kernel Globals → IsWithinLimit kernel Tables → IsWithinLimit kernel Terms → IsWithinLimit kernel Depth → WithinLimits kernel
  within a b c d e f Threads = a
  within a b c d e f Words = b
  within a b c d e f Globals = c
  within a b c d e f Tables = d
  within a b c d e f Terms = e
  within a b c d e f Depth = f

  decide_6 : IsWithinLimit kernel Threads → IsWithinLimit kernel Words → IsWithinLimit kernel Globals → IsWithinLimit kernel Tables → IsWithinLimit kernel Terms → IsWithinLimit kernel Depth → WithinLimits kernel ⊎ Passes
  decide_6 a b c d e f = inl (within a b c d e f)

  decide_5 : IsWithinLimit kernel Threads → IsWithinLimit kernel Words → IsWithinLimit kernel Globals → IsWithinLimit kernel Tables → IsWithinLimit kernel Terms → WithinLimits kernel ⊎ Passes
  decide_5 a b c d e = by (kept kernel Depth)
    where
      by : Kept kernel Depth → WithinLimits kernel ⊎ Passes
      by (fits x) = decide_6 a b c d e x
      by (over x) = inr (passes Depth x (before_depth a b c d e))

  decide_4 : IsWithinLimit kernel Threads → IsWithinLimit kernel Words → IsWithinLimit kernel Globals → IsWithinLimit kernel Tables → WithinLimits kernel ⊎ Passes
  decide_4 a b c d = by (kept kernel Terms)
    where
      by : Kept kernel Terms → WithinLimits kernel ⊎ Passes
      by (fits x) = decide_5 a b c d x
      by (over x) = inr (passes Terms x (before_terms a b c d))

  decide_3 : IsWithinLimit kernel Threads → IsWithinLimit kernel Words → IsWithinLimit kernel Globals → WithinLimits kernel ⊎ Passes
  decide_3 a b c = by (kept kernel Tables)
    where
      by : Kept kernel Tables → WithinLimits kernel ⊎ Passes
      by (fits x) = decide_4 a b c x
      by (over x) = inr (passes Tables x (before_tables a b c))

  decide_2 : IsWithinLimit kernel Threads → IsWithinLimit kernel Words → WithinLimits kernel ⊎ Passes
  decide_2 a b = by (kept kernel Globals)
    where
      by : Kept kernel Globals → WithinLimits kernel ⊎ Passes
      by (fits x) = decide_3 a b x
      by (over x) = inr (passes Globals x (before_globals a b))

  decide_1 : IsWithinLimit kernel Threads → WithinLimits kernel ⊎ Passes
  decide_1 a = by (kept kernel Words)
    where
      by : Kept kernel Words → WithinLimits kernel ⊎ Passes
      by (fits x) = decide_2 a x
      by (over x) = inr (passes Words x (before_words a))

  pub limits_kept : WithinLimits kernel ⊎ Passes
  limits_kept = by (kept kernel Threads)
    where
      by : Kept kernel Threads → WithinLimits kernel ⊎ Passes
      by (fits x) = decide_1 x
      by (over x) = inr (passes Threads x (before_threads))
