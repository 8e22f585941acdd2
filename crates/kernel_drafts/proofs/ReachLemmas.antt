-- Sums along chains of calls, computed in an order in which each function stands after those that it calls.
use Rattle.std.proofs.Common.{ℕ, zero, suc, ◌+◌, ◌-◌, ◌^◌, ◌<◌, ◌≤◌, ◌≡◌, ◌∙◌, ◌==◌, min, max, sym, ap, refl, true, false, cond, List, [], ◌∷◌, length, arith}
use Rattle.std.proofs.lemmas.Bool.Decides.{nat_tests}
use Rattle.std.specs.declared.vec.Vec.{Vec}
use Rattle.std.specs.declared.alloc.Global.{Global}
use Rattle.forec_tree.specs.Faults.{is_in, Leads}
use Rattle.forec_kernel.specs.WellFormed.{greatest, count_up}
use Rattle.loop_check.specs.Graph.{IsOrder, callees}
use Rattle.loop_check.proofs.IndexLemmas.{split}
use Rattle.forec_check.specs.Table.{Settles}
use Rattle.forec_check.proofs.TableLemmas.{settles_by}
use Rattle.kernel_drafts.specs.Reach.{value_at, chain_step, chain_value}

pub no_value : (h : ℕ) → value_at [] h ≡ 0
no_value zero = refl
no_value (suc h) = refl

value_past : (xs : List ℕ) (f : ℕ) → length xs ≤ f → value_at xs f ≡ 0
value_past [] f h = no_value f
value_past (x ∷ xs) zero h = absurd (omega arith)
value_past (x ∷ xs) (suc f) h = value_past xs f (omega arith)

callees_past : (lists : List (Vec ℕ Global)) (f : ℕ) → length lists ≤ f → callees lists f ≡ []
callees_past [] zero h = refl
callees_past [] (suc f) h = refl
callees_past (x ∷ xs) zero h = absurd (omega arith)
callees_past (x ∷ xs) (suc f) h = callees_past xs f (omega arith)

-- the greatest value of some functions depends on these alone
pub greatest_same : (a b : ℕ → ℕ) (fs : List ℕ) → ((g : ℕ) → is_in g fs ≡ true → a g ≡ b g) → greatest a fs ≡ greatest b fs
greatest_same a b [] h = refl
greatest_same a b (f ∷ fs) h =
    let first = h f (let e : (f == f) ≡ true = grind (arith, nat_tests) in ap (λ c. cond c true (is_in f fs)) e) in
    let rest = greatest_same a b fs (λ g i. h g (elim (f == g) as (λ c. cond c true (is_in g fs) ≡ true) [ true ↦ refl | false ↦ i ])) in
    ap (λ n. max n (greatest a fs)) first ∙ ap (λ n. max (b f) n) rest

-- a number that is none of the first so many
not_counted : (from n g : ℕ) → is_in g (count_up from n) ≡ false → from ≤ g → from + n ≤ g
not_counted from zero g h l = omega (arith, l)
not_counted from (suc n) g h l =
    split (from == g)
    (λ e. absurd (let q : true ≡ false = sym (ap (λ c. cond c true (is_in g (count_up (suc from) n))) e) ∙ h in cc))
    (λ e.
    let more : from < g = grind (arith, nat_tests) in
    let r = not_counted (suc from) n g (sym (ap (λ c. cond c true (is_in g (count_up (suc from) n))) e) ∙ h) (omega (arith, more)) in
    omega (arith, r))

pub chains_settle : (own : List ℕ) (lists : List (Vec ℕ Global)) (order : List ℕ) → IsOrder (count_up 0 (length own)) (callees lists) order → length lists ≡ length own →
    ((f : ℕ) → Leads (callees lists) f f → ⊥) → length order ≤ length own → Settles 0 (chain_step own (callees lists)) (chain_value own (callees lists)) order
unfolding chain_value
chains_settle own lists order o long free short =
    settles_by 0 (chain_step own (callees lists)) (length own) (count_up 0 (length own)) order (callees lists) o
    (record { agrees = λ f a b h. ap (λ n. min (value_at own f + n) (2 ^ 64 - 1)) (greatest_same a b (callees lists f) h) })
    (λ g h a. outside g a (let r = not_counted 0 (length own) g h (omega arith) in omega (arith, r)))
    free short
  where
    outside : (g : ℕ) (a : ℕ → ℕ) → length own ≤ g → chain_step own (callees lists) a g ≡ 0
    outside g a l =
        let e = value_past own g l in
        let d = ap (greatest a) (callees_past lists g (omega (arith, l, long))) in
        omega (arith, e, d)

pub count_long : (from n : ℕ) → length (count_up from n) ≡ n
count_long from zero = refl
count_long from (suc n) = ap suc (count_long (suc from) n)
