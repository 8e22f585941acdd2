-- The least of several lists of faults, one after the other.
use Rattle.std.proofs.Common.{◌≡◌, ◌∙◌, sym, ap, refl, Bool, true, false, cond, Option, Some, None, List, [], ◌∷◌, ◌++◌, append_assoc, ◌⊎◌, inl, inr, ⊎_elim, subst, arith}
use Rattle.std.proofs.lemmas.Bool.Decides.{nat_tests}
use Rattle.forec_tree.specs.declared.fault.Fault.{Fault}
use Rattle.forec_tree.specs.Findings.{Finding}
use Rattle.forec_tree.specs.Rules.{Judging, finding_faults, findings_faults}
use Rattle.forec_tree.specs.Faults.{is_before, Member, here, later, IsLeast}
use Rattle.forec_tree.proofs.FindingFaults.{findings-append}
use Rattle.fault_order.specs.Least.{lesser, least_from, judged}

pub least-append : (kept : Option Fault) (xs ys : List Fault) → least_from kept (xs ++ ys) ≡ least_from (least_from kept xs) ys
unfolding least_from
least-append kept [] ys = refl
least-append kept (x ∷ xs) ys = least-append (Some (lesser kept x)) xs ys

pub judged-append : (j : Judging) (xs ys : List Finding) (kept : Option Fault) → judged j (xs ++ ys) kept ≡ judged j ys (judged j xs kept)
unfolding judged
judged-append j xs ys kept = ap (least_from kept) (findings-append j xs ys) ∙ least-append kept (findings_faults j xs) (findings_faults j ys)

pub judged-none : (j : Judging) (kept : Option Fault) → judged j [] kept ≡ kept
unfolding judged least_from
judged-none j kept = refl

pub judged-one : (j : Judging) (x : Finding) (xs : List Finding) (kept : Option Fault) → judged j (x ∷ xs) kept ≡ judged j xs (judged j (x ∷ []) kept)
judged-one j x xs kept = judged-append j (x ∷ []) xs kept

-- ---- the least of a list

pub before_trans : (a b c : Fault) → is_before b a ≡ false → is_before c b ≡ false → is_before c a ≡ false
before_trans a b c h g = grind (arith, nat_tests)

pub before_self : (a : Fault) → is_before a a ≡ false
before_self a = grind (arith, nat_tests)

pub before_flip : (a b : Fault) → is_before a b ≡ true → is_before b a ≡ false
before_flip a b h = grind (arith, nat_tests)

-- the lesser of two stands before neither
pub lesser_none : (kept : Option Fault) (f : Fault) → is_before f (lesser kept f) ≡ false
lesser_none None f = before_self f
lesser_none (Some k) f = pick (is_before f k) refl
  where
    pick : (b : Bool) → is_before f k ≡ b → is_before f (lesser (Some k) f) ≡ false
    pick true e = rw e (before_self f)
    pick false e = rw e e

pub lesser_kept : (k f : Fault) → is_before k (lesser (Some k) f) ≡ false
lesser_kept k f = pick (is_before f k) refl
  where
    pick : (b : Bool) → is_before f k ≡ b → is_before k (lesser (Some k) f) ≡ false
    pick true e = rw e (before_flip f k e)
    pick false e = rw e (before_self k)

pub lesser_is : (k f : Fault) → (lesser (Some k) f ≡ k) ⊎ (lesser (Some k) f ≡ f)
lesser_is k f = elim (is_before f k) as (λ b. (cond b f k ≡ k) ⊎ (cond b f k ≡ f)) [ true ↦ inr refl | false ↦ inl refl ]

-- none where there is no fault
pub some_least : (k : Fault) (fs : List Fault) → (m : Fault) × (least_from (Some k) fs ≡ Some m)
unfolding least_from
some_least k [] = (k, refl)
some_least k (f ∷ fs) = some_least (lesser (Some k) f) fs

pub none_least : (fs : List Fault) → least_from None fs ≡ None → fs ≡ []
unfolding least_from
none_least [] h = refl
none_least (f ∷ fs) h = let m = some_least f fs in let e : Some m.0 ≡ None = sym m.1 ∙ h in cc

-- the least stands before none
pub least_kept : (k m : Fault) (fs : List Fault) → least_from (Some k) fs ≡ Some m → is_before k m ≡ false
unfolding least_from
least_kept k m [] h = let e : k ≡ m = cc in rw e (before_self m)
least_kept k m (f ∷ fs) h = before_trans m (lesser (Some k) f) k (least_kept (lesser (Some k) f) m fs h) (lesser_kept k f)

pub least_all : (kept : Option Fault) (m g : Fault) (fs : List Fault) → least_from kept fs ≡ Some m → Member g fs → is_before g m ≡ false
unfolding least_from
least_all kept m g [] h p = elim p [ ]
least_all kept m g (f ∷ fs) h here = before_trans m (lesser kept g) g (least_kept (lesser kept g) m fs h) (lesser_none kept g)
least_all kept m g (f ∷ fs) h (later p) = least_all (Some (lesser kept f)) m g fs h p

pub least_among : (k m : Fault) (fs : List Fault) → least_from (Some k) fs ≡ Some m → (m ≡ k) ⊎ Member m fs
unfolding least_from
least_among k m [] h = inl cc
least_among k m (f ∷ fs) h =
    ⊎_elim
    (λ e. ⊎_elim (λ d. inl (e ∙ d)) (λ d. inr (subst (λ x. Member x (f ∷ fs)) (sym (e ∙ d)) here)) (lesser_is k f))
    (λ p. inr (later p))
    (least_among (lesser (Some k) f) m fs h)

pub least_of_all : (m : Fault) (fs : List Fault) → least_from None fs ≡ Some m → Member m fs
unfolding least_from
least_of_all m [] h = cc
least_of_all m (f ∷ fs) h = ⊎_elim (λ e. subst (λ x. Member x (f ∷ fs)) (sym e) here) (λ p. later p) (least_among f m fs h)

-- what a walk that keeps the least gives
pub is_least : (m : Fault) (fs : List Fault) → least_from None fs ≡ Some m → IsLeast m (λ f. Member f fs)
is_least m fs h = record { among = least_of_all m fs h; least = λ g p. least_all None m g fs h p }
