-- The links from each branch of a par to the next, made from the last thread to the first.
use Rattle.std.proofs.Common.{◌≡◌, ◌≢◌, ℕ, zero, suc, ◌+◌, ◌-◌, ◌*◌, ◌<◌, ◌≤◌, ◌==◌, List, [], ◌∷◌, length, drop, map, get_or, replicate, Option, Some, None, Bool, true, false, cond, refl, sym, ap, ◌∙◌, subst, arith, add-one, drop-cons, length-set, get_or-set_same, get_or-set_other}
use Rattle.std.specs.Prelude.{IsTrue, IfSome, slice_set, nat_lt, ◌&&◌, ◌||◌}
use Rattle.std.proofs.lemmas.List.{length-map, length-replicate}
use Rattle.forec_kernel.specs.Shapes.{PlainShape, PlainThread}
use Rattle.forec_kernel.specs.Texts.{params_in, uses_in}
use Rattle.forec_kernel.specs.WellFormed.{branches_of, is_par, blank_thread, numbered}
use Rattle.thread_code.specs.Valid.{FineShape, branches_in, arguments_of}
use Rattle.thread_state.specs.declared.pars.Sibling.{Sibling}
use Rattle.thread_state.specs.Pars.{Links, first_of, sibling_at, used_by, arguments_from, with_first, IsLink, Lead, HavePars}
use Rattle.thread_state.proofs.Lists.{drop_past}
use Rattle.thread_state.proofs.Indexed.{equal_of, differs_of}

-- the links lead over the branches from thread i on
pub record LinkedFrom (s : PlainShape) (p : Links) (i : ℕ) : Type 0 where
  pub firsts : length p.firsts ≡ length s.threads
  pub siblings : length p.siblings ≡ length s.threads
  pub from : (j : ℕ) → IfSome (first_of p j) (λ t. i ≤ t)
  pub lead : (j : ℕ) → Lead s p.siblings (first_of p j) (branches_of (drop i s.threads) i j)

-- ---- none is linked yet

same_all : {A : Type 0} → (n j : ℕ) (x : A) → get_or (replicate n x) j x ≡ x
same_all zero j x = refl
same_all (suc n) zero x = refl
same_all (suc n) (suc j) x = same_all n j x

pub linked_none : (s : PlainShape) (n : ℕ) (x : Sibling) (uses : List (List ℕ)) → n ≡ length s.threads → LinkedFrom s (record { firsts = replicate n None; siblings = replicate n x; uses = uses }) n
linked_none s n x uses e = record {
  firsts = length-replicate n None ∙ e;
  siblings = length-replicate n x ∙ e;
  from = λ j. subst (λ o. IfSome o (λ t. n ≤ t)) (sym (same_all {A = Option ℕ} n j None)) tt;
  lead = λ j.
      subst (λ l. Lead s (replicate n x) (get_or (replicate n None) j None) (branches_of l n j)) (sym (drop_past s.threads n (omega (arith, e))))
      (same_all {A = Option ℕ} n j None);
}

-- ---- pars have small numbers

par_within : (ss : List PlainThread) (next : ℕ) → IsTrue (numbered next ss) → (i : ℕ) → i < length ss → (j : ℕ) → (get_or ss i blank_thread).par ≡ Some j → j < next + length ss
par_within [] next h i lt j e = absurd (omega arith)
par_within (s ∷ ss) next h i lt j e = by_par s.par refl h (par_within ss next) (par_within ss (suc next)) i lt e
  where
    Later : ℕ → Type 0
    Later n = IsTrue (numbered n ss) → (i : ℕ) → i < length ss → (j : ℕ) → (get_or ss i blank_thread).par ≡ Some j → j < n + length ss

    below_of : (a b : ℕ) → nat_lt a b ≡ true → a < b
    below_of a b e = grind arith

    by_place : (p : Option ℕ) → s.par ≡ p → ((j : ℕ) → p ≡ Some j → j < next + suc (length ss)) → ((i : ℕ) → i < length ss → (j : ℕ) → (get_or ss i blank_thread).par ≡ Some j → j < next + suc (length ss)) →
        (i : ℕ) → i < length (s ∷ ss) → (get_or (s ∷ ss) i blank_thread).par ≡ Some j → j < next + suc (length ss)
    by_place p is here there zero lt e = here j (sym is ∙ e)
    by_place p is here there (suc i) lt e = there i (omega arith) j e

    by_next : (n : ℕ) → s.par ≡ Some n → (a b c d : Bool) → nat_lt n next ≡ a → (n == next) ≡ c → numbered next ss ≡ b → numbered (suc next) ss ≡ d → IsTrue ((a && b) || (c && d)) → Later next → Later (suc next) →
        (i : ℕ) → i < length (s ∷ ss) → (get_or (s ∷ ss) i blank_thread).par ≡ Some j → j < next + suc (length ss)
    by_next n is true true c d ea ec eb ed h old new =
        by_place (Some n) is (λ j e. let k : n ≡ j = cc in omega (arith, k, below_of n next ea)) (λ i lt j e. let f = old (subst (λ b. IsTrue b) (sym eb) refl) i lt j e in omega (arith, f))
    by_next n is a b true true ea ec eb ed h old new =
        by_place (Some n) is (λ j e. let k : n ≡ j = cc in omega (arith, k, equal_of n next ec)) (λ i lt j e. let f = new (subst (λ b. IsTrue b) (sym ed) refl) i lt j e in omega (arith, f))
    by_next n is false b false d ea ec eb ed h old new = cc
    by_next n is false b true false ea ec eb ed h old new = cc
    by_next n is true false false d ea ec eb ed h old new = cc
    by_next n is true false true false ea ec eb ed h old new = cc

    by_par : (p : Option ℕ) → s.par ≡ p → IsTrue (elim p [ None ↦ numbered next ss | Some n ↦ (nat_lt n next && numbered next ss) || (n == next && numbered (suc next) ss) ]) → Later next → Later (suc next) →
        (i : ℕ) → i < length (s ∷ ss) → (get_or (s ∷ ss) i blank_thread).par ≡ Some j → j < next + suc (length ss)
    by_par None is h old new = by_place None is (λ j e. cc) (λ i lt j e. let f = old h i lt j e in omega (arith, f))
    by_par (Some n) is h old new = by_next n is (nat_lt n next) (numbered next ss) (n == next) (numbered (suc next) ss) refl refl refl refl h old new

pub par_below : (s : PlainShape) → FineShape s → (i : ℕ) → i < length s.threads → (j : ℕ) → (get_or s.threads i blank_thread).par ≡ Some j → j < length s.threads
par_below s fine i lt j e = let f = par_within s.threads 0 fine.in_order i lt j e in omega (arith, f)

-- ---- few arguments

module _ (s : PlainShape) (fine : FineShape s) (ss : List Sibling) (n : length ss ≡ length s.threads) where
  pub lead_small : (o : Option ℕ) (bs : List ℕ) → Lead s ss o bs → arguments_of s bs ≤ length bs * 65536
  lead_small o [] h = omega arith
  lead_small o (b ∷ bs) h =
      let t = fine.each_thread b (omega (arith, h.1.within, n)) in
      omega (arith, t.params, t.words, lead_small (sibling_at ss b).next bs h.2)

-- what the first link says of the arguments after it
pub lead_arguments : (s : PlainShape) (ss : List Sibling) (o : Option ℕ) (bs : List ℕ) → Lead s ss o bs → arguments_from ss o ≡ arguments_of s bs
lead_arguments s ss o [] h = ap (arguments_from ss) h
lead_arguments s ss o (b ∷ bs) h = ap (arguments_from ss) h.0 ∙ h.1.arguments

pub lead_within : (s : PlainShape) (ss : List Sibling) (o : Option ℕ) (bs : List ℕ) → Lead s ss o bs → IfSome o (λ b. b < length ss)
lead_within s ss o [] h = subst (λ o. IfSome o (λ b. b < length ss)) (sym h) tt
lead_within s ss o (b ∷ bs) h = subst (λ o. IfSome o (λ b. b < length ss)) (sym h.0) h.1.within

-- ---- one thread more

-- a link of an earlier thread changes nothing
module _ (s : PlainShape) (ss : List Sibling) (i : ℕ) (x : Sibling) where
  pub lead_kept : (o : Option ℕ) (bs : List ℕ) → IfSome o (λ t. i < t) → Lead s ss o bs → Lead s (slice_set ss i x) o bs
  lead_kept o [] lt h = h
  lead_kept o (b ∷ bs) lt h =
      let after : i < b = subst (λ o. IfSome o (λ t. i < t)) h.0 lt in
      let other : b ≢ i = λ e. omega (arith, e, after) in
      let same : sibling_at (slice_set ss i x) b ≡ sibling_at ss b = get_or-set_other ss i b x (record { next = None; arguments = 0 }) other in
      let later = further (sibling_at ss b).next after h.1.later in (
        h.0,
        record {
          within = omega (arith, h.1.within, length-set ss i x);
          arguments = ap (λ (y : Sibling). y.arguments) same ∙ h.1.arguments;
          later = subst (λ (y : Sibling). IfSome y.next (λ n. b < n)) (sym same) h.1.later;
        },
        subst (λ (y : Sibling). Lead s (slice_set ss i x) y.next bs) (sym same) (lead_kept (sibling_at ss b).next bs later h.2),
      )
    where
      further : (o : Option ℕ) → i < b → IfSome o (λ n. b < n) → IfSome o (λ n. i < n)
      further None lt h = tt
      further (Some n) lt h = omega (arith, lt, h)

branches_next : (ss : List PlainThread) (i j : ℕ) → i < length ss → (b : Bool) → is_par (get_or ss i blank_thread).par j ≡ b →
    branches_of (drop i ss) i j ≡ cond b (i ∷ branches_of (drop (i + 1) ss) (i + 1) j) (branches_of (drop (i + 1) ss) (i + 1) j)
branches_next ss i j lt b e =
    ap (λ l. branches_of l i j) (drop-cons ss i blank_thread lt)
    ∙ ap (λ k. cond (is_par (get_or ss i blank_thread).par j) (i ∷ branches_of (drop k ss) k j) (branches_of (drop k ss) k j)) (sym (add-one i))
    ∙ ap (λ b. cond b (i ∷ branches_of (drop (i + 1) ss) (i + 1) j) (branches_of (drop (i + 1) ss) (i + 1) j)) e

later_of : (i : ℕ) (o : Option ℕ) → IfSome o (λ t. i + 1 ≤ t) → IfSome o (λ t. i < t)
later_of i None h = tt
later_of i (Some t) h = omega (arith, h)

no_less : (i : ℕ) (o : Option ℕ) → IfSome o (λ t. i + 1 ≤ t) → IfSome o (λ t. i ≤ t)
no_less i None h = tt
no_less i (Some t) h = omega (arith, h)

module _ (s : PlainShape) (p : Links) (i : ℕ) (lt : i < length s.threads) (l : LinkedFrom s p (i + 1)) where
  -- a thread that is no branch
  pub linked_root : (get_or s.threads i blank_thread).par ≡ None → LinkedFrom s p i
  linked_root none = record {
    firsts = l.firsts;
    siblings = l.siblings;
    from = λ j. no_less i (first_of p j) (l.from j);
    lead = λ j. subst (Lead s p.siblings (first_of p j)) (sym (branches_next s.threads i j lt false (ap (λ o. is_par o j) none))) (l.lead j);
  }

  module _ (j : ℕ) (is : (get_or s.threads i blank_thread).par ≡ Some j) (within : j < length s.threads) where
    abbrev x : Sibling
    x = record { next = first_of p j; arguments = params_in s.threads i + arguments_from p.siblings (first_of p j) }

    abbrev p' : Links
    p' = with_first j i (params_in s.threads i) p

    first_here : first_of p' j ≡ Some i
    first_here = get_or-set_same p.firsts j (Some i) None (omega (arith, within, l.firsts))

    first_there : (k : ℕ) → k ≢ j → first_of p' k ≡ first_of p k
    first_there k other = get_or-set_other p.firsts j k (Some i) None other

    sibling_here : sibling_at p'.siblings i ≡ x
    sibling_here = get_or-set_same p.siblings i x (record { next = None; arguments = 0 }) (omega (arith, lt, l.siblings))

    kept : (k : ℕ) → Lead s p'.siblings (first_of p k) (branches_of (drop (i + 1) s.threads) (i + 1) k)
    kept k = lead_kept s p.siblings i x (first_of p k) (branches_of (drop (i + 1) s.threads) (i + 1) k) (later_of i (first_of p k) (l.from k)) (l.lead k)

    leads_here : Lead s p'.siblings (first_of p' j) (i ∷ branches_of (drop (i + 1) s.threads) (i + 1) j)
    leads_here = (
      first_here,
      record {
        within = omega (arith, lt, l.siblings, length-set p.siblings i x);
        arguments = ap (λ (y : Sibling). y.arguments) sibling_here ∙ ap (λ n. params_in s.threads i + n) (lead_arguments s p.siblings (first_of p j) (branches_of (drop (i + 1) s.threads) (i + 1) j) (l.lead j));
        later = subst (λ (y : Sibling). IfSome y.next (λ n. i < n)) (sym sibling_here) (later_of i (first_of p j) (l.from j));
      },
      subst (λ (y : Sibling). Lead s p'.siblings y.next (branches_of (drop (i + 1) s.threads) (i + 1) j)) (sym sibling_here) (kept j),
    )

    from_by : (k : ℕ) (b : Bool) → (j == k) ≡ b → IfSome (first_of p' k) (λ t. i ≤ t)
    from_by k true e = subst (λ k. IfSome (first_of p' k) (λ t. i ≤ t)) (equal_of j k e) (subst (λ o. IfSome o (λ t. i ≤ t)) (sym first_here) (omega arith))
    from_by k false e = subst (λ o. IfSome o (λ t. i ≤ t)) (sym (first_there k (differs_of j k e))) (no_less i (first_of p k) (l.from k))

    lead_by : (k : ℕ) (b : Bool) → (j == k) ≡ b → Lead s p'.siblings (first_of p' k) (branches_of (drop i s.threads) i k)
    lead_by k true e =
        subst (λ k. Lead s p'.siblings (first_of p' k) (branches_of (drop i s.threads) i k)) (equal_of j k e)
        (subst (Lead s p'.siblings (first_of p' j)) (sym (branches_next s.threads i j lt true (ap (λ o. is_par o j) is ∙ ap (λ k. j == k) (equal_of j k e) ∙ e))) leads_here)
    lead_by k false e =
        subst (λ o. Lead s p'.siblings o (branches_of (drop i s.threads) i k)) (sym (first_there k (differs_of j k e)))
        (subst (Lead s p'.siblings (first_of p k)) (sym (branches_next s.threads i k lt false (ap (λ o. is_par o k) is ∙ e))) (kept k))

    pub linked_branch : LinkedFrom s p' i
    linked_branch = record {
      firsts = length-set p.firsts j (Some i) ∙ l.firsts;
      siblings = length-set p.siblings i x ∙ l.siblings;
      from = λ k. from_by k (j == k) refl;
      lead = λ k. lead_by k (j == k) refl;
    }

pub linked_all : (s : PlainShape) (p : Links) → LinkedFrom s p 0 → p.uses ≡ map (λ t. t.uses) s.threads → HavePars s p
linked_all s p l uses = record { threads = l.siblings; lead = l.lead; uses = uses }

-- ---- from link to link

-- a branch, and those after it
pub record Ahead (s : PlainShape) (ss : List Sibling) (b : ℕ) (bs : List ℕ) : Type 0 where
  pub rest : List ℕ
  pub is : bs ≡ b ∷ rest
  pub link : IsLink s ss b rest
  pub lead : Lead s ss (sibling_at ss b).next rest

module _ (s : PlainShape) (ss : List Sibling) where
  pub ahead : (o : Option ℕ) (bs : List ℕ) (b : ℕ) → Lead s ss o bs → o ≡ Some b → Ahead s ss b bs
  ahead o [] b h e = let k : None ≡ Some b = sym h ∙ e in cc
  ahead o (x ∷ rest) b h e =
      let k : x ≡ b = let f : Some x ≡ Some b = sym h.0 ∙ e in cc in
      subst (λ b. Ahead s ss b (x ∷ rest)) k (record { rest = rest; is = refl; link = h.1; lead = h.2 })

  pub behind_last : (bs : List ℕ) → Lead s ss None bs → bs ≡ []
  behind_last [] h = refl
  behind_last (b ∷ bs) h = let k : None ≡ Some b = h.0 in cc

  abbrev pub left_of : Option ℕ → ℕ
  left_of None = 0
  left_of (Some b) = length ss - b

  pub left_falls : (b : ℕ) (bs : List ℕ) → IsLink s ss b bs → left_of (sibling_at ss b).next < left_of (Some b)
  left_falls b bs h = by (sibling_at ss b).next h.later
    where
      by : (o : Option ℕ) → IfSome o (λ n. b < n) → left_of o < length ss - b
      by None later = omega (arith, h.within)
      by (Some n) later = omega (arith, h.within, later)

  -- so less is left behind each link
  pub next_falls : {b : ℕ} {bs : List ℕ} {o after : Option ℕ} → IsLink s ss b bs → o ≡ Some b → after ≡ (sibling_at ss b).next → left_of after < left_of o
  next_falls {b} {bs} {o} link is next =
      subst (λ x. left_of x < left_of o) (sym next) (subst (λ o. left_of (sibling_at ss b).next < left_of o) (sym is) (left_falls b bs link))

  -- what the k-th link says of the arguments from it on
  pub lead_at : (o : Option ℕ) (bs : List ℕ) (k : ℕ) → Lead s ss o bs → k < length bs → (get_or bs k 0 < length ss) × (arguments_from ss (Some (get_or bs k 0)) ≡ arguments_of s (drop k bs))
  lead_at o [] k h lt = absurd (omega arith)
  lead_at o (b ∷ bs) zero h lt = (h.1.within, h.1.arguments)
  lead_at o (b ∷ bs) (suc k) h lt = lead_at (sibling_at ss b).next bs k h.2 (omega arith)

-- the first branch that was read of these links leads
pub first_leads : (s : PlainShape) (bs : List ℕ) (j : ℕ) {p q : Links} {o : Option ℕ} → o ≡ first_of p j → p ≡ q → Lead s q.siblings (first_of q j) bs → Lead s p.siblings o bs
first_leads s bs j {p} first same h =
    subst (λ o. Lead s p.siblings o bs) (sym first) (subst (λ (p : Links). Lead s p.siblings (first_of p j) bs) (sym same) h)

-- what is noted of the arguments of the k-th of all branches of a par
pub fork_arguments : (s : PlainShape) (p : Links) → HavePars s p → (bs : List ℕ) (j : ℕ) → bs ≡ branches_in s j → (k : ℕ) → k < length bs →
    (get_or bs k 0 < length p.siblings) × (arguments_from p.siblings (Some (get_or bs k 0)) ≡ arguments_of s (drop k bs))
fork_arguments s p h bs j e k lt =
    subst (λ bs. (get_or bs k 0 < length p.siblings) × (arguments_from p.siblings (Some (get_or bs k 0)) ≡ arguments_of s (drop k bs))) (sym e)
    (lead_at s p.siblings (first_of p j) (branches_in s j) k (h.lead j) (subst (λ bs. k < length bs) e lt))

-- ---- the variables that each thread uses

uses_at : (ss : List PlainThread) (t : ℕ) → get_or (map (λ x. x.uses) ss) t [] ≡ uses_in ss t
uses_at [] t = refl
uses_at (s ∷ ss) zero = refl
uses_at (s ∷ ss) (suc t) = uses_at ss t

module _ (s : PlainShape) (p : Links) (h : HavePars s p) where
  pub used_is : (t : ℕ) → used_by p t ≡ uses_in s.threads t
  used_is t = ap (λ ls. get_or ls t []) h.uses ∙ uses_at s.threads t

  pub used_count : length p.uses ≡ length s.threads
  used_count = ap length h.uses ∙ length-map s.threads (λ x. x.uses)
