-- What the combine functions of all variables add to the words of threads, variable by variable.
use Rattle.std.proofs.Common.{ℕ, zero, suc, ◌+◌, ◌-◌, ◌<◌, ◌≤◌, ◌≡◌, ◌∙◌, ◌==◌, max, sym, ap, refl, Bool, true, false, cond, nat_lt, Option, Some, None, List, [], ◌∷◌, ◌++◌, length, get_or, arith}
use Rattle.std.proofs.lemmas.Bool.Decides.{nat_tests}
use Rattle.std.specs.Prelude.{IsTrue, ◌&&◌}
use Rattle.forec_kernel.specs.Shapes.{PlainKernel}
use Rattle.forec_kernel.specs.Combining.{contains, variable_of}
use Rattle.forec_kernel.specs.Texts.{uses_of, words_of, body_of}
use Rattle.forec_kernel.specs.WellFormed.{greatest, count_up, users, combine_calls, par_calls, thread_calls, stmt_calls, pars_of, all_in}
use Rattle.loop_check.proofs.IndexLemmas.{split}
use Rattle.text_chains.specs.Peaks.{called_words, most_words}
use Rattle.text_chains.proofs.Parts.{greatest_append, folds, thread_measure}

-- the words of a variable's combine function
abbrev pub combined : (ℕ → ℕ) → PlainKernel → ℕ → ℕ
combined u k x = elim (variable_of k x).combine [ None ↦ 0 | Some f ↦ u f ]

-- ---- lists

first_in : (x : ℕ) (xs : List ℕ) → contains x (x ∷ xs) ≡ true
first_in x xs = let e : (x == x) ≡ true = grind (arith, nat_tests) in ap (λ c. cond c true (contains x xs)) e

more_in : (x y : ℕ) (ys : List ℕ) → contains x ys ≡ true → contains x (y ∷ ys) ≡ true
more_in x y ys i = elim (y == x) as (λ c. cond c true (contains x ys) ≡ true) [ true ↦ refl | false ↦ i ]

pub greatest_least : (f : ℕ → ℕ) (xs : List ℕ) (b : ℕ) → ((g : ℕ) → contains g xs ≡ true → f g ≤ b) → greatest f xs ≤ b
greatest_least f [] b h = omega arith
greatest_least f (y ∷ ys) b h =
    let e = h y (first_in y ys) in
    let d = greatest_least f ys b (λ g i. h g (more_in g y ys i)) in
    omega (arith, e, d)

pub greatest_above : (f : ℕ → ℕ) (xs : List ℕ) (g : ℕ) → contains g xs ≡ true → f g ≤ greatest f xs
greatest_above f [] g i = absurd (let q : false ≡ true = i in cc)
greatest_above f (y ∷ ys) g i =
    split (y == g) (λ e. (let q : y ≡ g = grind (arith, nat_tests) in let d = ap f q in omega (arith, d)))
    (λ e. (let d = greatest_above f ys g (sym (ap (λ c. cond c true (contains g ys)) e) ∙ i) in omega (arith, d)))

pub count_has : (from n g : ℕ) → from ≤ g → g < from + n → contains g (count_up from n) ≡ true
count_has from zero g l h = absurd (omega (arith, l, h))
count_has from (suc n) g l h =
    split (from == g) (λ e. ap (λ c. cond c true (contains g (count_up (suc from) n))) e)
    (λ e. (let q : suc from ≤ g = grind (arith, nat_tests) in ap (λ c. cond c true (contains g (count_up (suc from) n))) e ∙ count_has (suc from) n g q (omega (arith, h))))

pub count_below : (from n g : ℕ) → contains g (count_up from n) ≡ true → g < from + n
count_below from zero g i = absurd (let q : false ≡ true = i in cc)
count_below from (suc n) g i =
    split (from == g) (λ e. (let q : from ≡ g = grind (arith, nat_tests) in omega (arith, q)))
    (λ e. (let r = count_below (suc from) n g (sym (ap (λ c. cond c true (contains g (count_up (suc from) n))) e) ∙ i) in omega (arith, r)))

all_has : (a b : List ℕ) (x : ℕ) → all_in a b ≡ true → contains x a ≡ true → contains x b ≡ true
all_has [] b x h i = absurd (let q : false ≡ true = i in cc)
all_has (y ∷ a) b x h i =
    split (y == x) (λ e. (let q : y ≡ x = grind (arith, nat_tests) in ap (λ z. contains z b) (sym q) ∙ front (contains y b) (all_in a b) h))
    (λ e. all_has a b x (back (contains y b) (all_in a b) h) (sym (ap (λ c. cond c true (contains x a)) e) ∙ i))
  where
    front : (p q : Bool) → (p && q) ≡ true → p ≡ true
    front true q h = refl
    front false q h = cc

    back : (p q : Bool) → (p && q) ≡ true → q ≡ true
    back true q h = h
    back false q h = cc

module _ (u : ℕ → ℕ) (k : PlainKernel) where
  -- ---- one par

  one_fold : (x v : ℕ) (bs vs : List ℕ) → (v == x) ≡ true → cond (nat_lt 1 (users k bs x)) (combined u k x) 0 ≤ greatest u (combine_calls k bs (v ∷ vs))
  one_fold x v bs vs e =
      let q : v ≡ x = grind (arith, nat_tests) in
      let d = ap (λ z. cond (nat_lt 1 (users k bs z)) (combined u k z) 0) q in
      let l = pick (variable_of k v).combine (nat_lt 1 (users k bs v)) (combine_calls k bs vs) in
      omega (arith, d, l)
    where
      pick : (o : Option ℕ) (c : Bool) (rest : List ℕ) → cond c (elim o [ None ↦ 0 | Some f ↦ u f ]) 0 ≤ greatest u (elim o [ None ↦ rest | Some f ↦ cond c (f ∷ rest) rest ])
      pick None true rest = omega arith
      pick None false rest = omega arith
      pick (Some f) true rest = omega arith
      pick (Some f) false rest = omega arith

  less_fold : (v : ℕ) (bs vs : List ℕ) → greatest u (combine_calls k bs vs) ≤ greatest u (combine_calls k bs (v ∷ vs))
  less_fold v bs vs = pick (variable_of k v).combine (nat_lt 1 (users k bs v)) (combine_calls k bs vs)
    where
      pick : (o : Option ℕ) (c : Bool) (rest : List ℕ) → greatest u rest ≤ greatest u (elim o [ None ↦ rest | Some f ↦ cond c (f ∷ rest) rest ])
      pick None c rest = omega arith
      pick (Some f) true rest = omega arith
      pick (Some f) false rest = omega arith

  par_above : (x : ℕ) (bs vs : List ℕ) → contains x vs ≡ true → cond (nat_lt 1 (users k bs x)) (combined u k x) 0 ≤ greatest u (combine_calls k bs vs)
  par_above x bs [] i = absurd (let q : false ≡ true = i in cc)
  par_above x bs (v ∷ vs) i =
      split (v == x) (λ e. one_fold x v bs vs e)
      (λ e. (let r = par_above x bs vs (sym (ap (λ c. cond c true (contains x vs)) e) ∙ i) in let l = less_fold v bs vs in omega (arith, r, l)))

  par_least : (bs vs : List ℕ) (b : ℕ) → ((x : ℕ) → contains x vs ≡ true → cond (nat_lt 1 (users k bs x)) (combined u k x) 0 ≤ b) → greatest u (combine_calls k bs vs) ≤ b
  par_least bs [] b h = omega arith
  par_least bs (v ∷ vs) b h =
      let own = h v (first_in v vs) in
      let rest = par_least bs vs b (λ x i. h x (more_in x v vs i)) in
      pick (variable_of k v).combine (nat_lt 1 (users k bs v)) (combine_calls k bs vs) own rest
    where
      pick : (o : Option ℕ) (c : Bool) (rest : List ℕ) → cond c (elim o [ None ↦ 0 | Some f ↦ u f ]) 0 ≤ b → greatest u rest ≤ b → greatest u (elim o [ None ↦ rest | Some f ↦ cond c (f ∷ rest) rest ]) ≤ b
      pick None c rest l m = m
      pick (Some f) true rest l m = omega (arith, l, m)
      pick (Some f) false rest l m = m

  -- ---- the pars of a thread

  pars_above : (x : ℕ) (uses : List ℕ) (pars : List (List ℕ)) → contains x uses ≡ true → folds k x (combined u k x) pars ≤ greatest u (par_calls k uses pars)
  pars_above x uses [] i = omega arith
  pars_above x uses (bs ∷ rest) i =
      let a = par_above x bs uses i in
      let b = pars_above x uses rest i in
      let c = greatest_append u (combine_calls k bs uses) (par_calls k uses rest) in
      omega (arith, a, b, c)

  pub pars_least : (uses : List ℕ) (pars : List (List ℕ)) (b : ℕ) → ((x : ℕ) → contains x uses ≡ true → folds k x (combined u k x) pars ≤ b) → greatest u (par_calls k uses pars) ≤ b
  pars_least uses [] b h = omega arith
  pars_least uses (bs ∷ rest) b h =
      let x = par_least bs uses b (λ x i. (let e = h x i in omega (arith, e))) in
      let y = pars_least uses rest b (λ x i. (let e = h x i in omega (arith, e))) in
      let c = greatest_append u (combine_calls k bs uses) (par_calls k uses rest) in
      omega (arith, x, y, c)

  -- no branch uses what the thread doesn't use
  no_user : (x : ℕ) (uses bs : List ℕ) → contains x uses ≡ false → ((b : ℕ) → contains b bs ≡ true → all_in (uses_of k b) uses ≡ true) → users k bs x ≡ 0
  no_user x uses [] n h = refl
  no_user x uses (b ∷ bs) n h =
      let rest = no_user x uses bs n (λ c i. h c (more_in c b bs i)) in
      split (contains x (uses_of k b)) (λ e. absurd (let q : false ≡ true = sym n ∙ all_has (uses_of k b) uses x (h b (first_in b bs)) e in cc))
      (λ e. ap (λ c. cond c (suc (users k bs x)) (users k bs x)) e ∙ rest)

  abbrev pub Below : List ℕ → List (List ℕ) → Type 0
  Below uses pars = (i b : ℕ) → i < length pars → contains b (get_or pars i []) ≡ true → all_in (uses_of k b) uses ≡ true

  no_fold : (x worth : ℕ) (uses : List ℕ) (pars : List (List ℕ)) → contains x uses ≡ false → Below uses pars → folds k x worth pars ≡ 0
  no_fold x worth uses [] n h = refl
  no_fold x worth uses (bs ∷ rest) n h =
      let e = no_user x uses bs n (λ b i. h 0 b (omega arith) i) in
      let d = ap (λ m. cond (nat_lt 1 m) worth 0) e in
      let r = no_fold x worth uses rest n (λ i b l. h (suc i) b (omega (arith, l))) in
      omega (arith, d, r)

  pub pars_cover : (x : ℕ) (uses : List ℕ) (pars : List (List ℕ)) → Below uses pars → folds k x (combined u k x) pars ≤ greatest u (par_calls k uses pars)
  pars_cover x uses pars h =
      split (contains x uses) (λ i. pars_above x uses pars i) (λ n. (let e = no_fold x (combined u k x) uses pars n h in omega (arith, e)))

  pub no_worth : (x : ℕ) (pars : List (List ℕ)) → folds k x 0 pars ≡ 0
  no_worth x [] = refl
  no_worth x (bs ∷ rest) =
      let e = none (nat_lt 1 (users k bs x)) in
      let r = no_worth x rest in
      omega (arith, e, r)
    where
      none : (c : Bool) → ◌≡◌ {A = ℕ} (cond c 0 0) 0
      none true = refl
      none false = refl

  -- ---- all threads

  -- the most words of a thread, with the combine function of one variable
  abbrev pub by_variable : ℕ → ℕ → ℕ
  by_variable x worth = greatest (λ t. thread_measure u k x worth (words_of k t) (body_of k t)) (count_up 0 (length k.threads))

  module _ (below : (t : ℕ) → t < length k.threads → Below (uses_of k t) (pars_of (body_of k t))) where
    thread_above : (x t : ℕ) → t < length k.threads → thread_measure u k x (combined u k x) (words_of k t) (body_of k t) ≤ called_words u k t
    thread_above x t l =
        let e = pars_cover x (uses_of k t) (pars_of (body_of k t)) (below t l) in
        let c = greatest_append u (stmt_calls (body_of k t)) (par_calls k (uses_of k t) (pars_of (body_of k t))) in
        omega (arith, e, c)

    pub variable_above : (x : ℕ) → by_variable x (combined u k x) ≤ most_words u k
    variable_above x =
        greatest_least (λ t. thread_measure u k x (combined u k x) (words_of k t) (body_of k t)) (count_up 0 (length k.threads)) (most_words u k)
        (λ t i.
        let l = count_below 0 (length k.threads) t i in
        let e = thread_above x t (omega (arith, l)) in
        let d = greatest_above (called_words u k) (count_up 0 (length k.threads)) t i in
        omega (arith, e, d))

    pub none_above : (x : ℕ) → by_variable x 0 ≤ most_words u k
    none_above x =
        greatest_least (λ t. thread_measure u k x 0 (words_of k t) (body_of k t)) (count_up 0 (length k.threads)) (most_words u k)
        (λ t i.
        let e = no_worth x (pars_of (body_of k t)) in
        let c = greatest_append u (stmt_calls (body_of k t)) (par_calls k (uses_of k t) (pars_of (body_of k t))) in
        let d = greatest_above (called_words u k) (count_up 0 (length k.threads)) t i in
        omega (arith, e, c, d))

  -- each thread's words are those of some variable
  pub words_least : (y b : ℕ) → by_variable y 0 ≤ b → ((t x : ℕ) → t < length k.threads → contains x (uses_of k t) ≡ true → by_variable x (combined u k x) ≤ b) → most_words u k ≤ b
  words_least y b h g =
      greatest_least (called_words u k) (count_up 0 (length k.threads)) b
      (λ t i.
      let l = count_below 0 (length k.threads) t i in
      let own = greatest_above (λ t. thread_measure u k y 0 (words_of k t) (body_of k t)) (count_up 0 (length k.threads)) t i in
      let c = greatest_append u (stmt_calls (body_of k t)) (par_calls k (uses_of k t) (pars_of (body_of k t))) in
      let e =
      pars_least (uses_of k t) (pars_of (body_of k t)) (b - words_of k t)
      (λ x j.
      let n = g t x (omega (arith, l)) j in
      let m = greatest_above (λ t. thread_measure u k x (combined u k x) (words_of k t) (body_of k t)) (count_up 0 (length k.threads)) t i in
      omega (arith, n, m)) in
      omega (arith, own, c, e, h))
