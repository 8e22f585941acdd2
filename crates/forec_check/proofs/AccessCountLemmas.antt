-- Counting up to two gives the count up to two.
use Rattle.std.proofs.Common.{ℕ, zero, suc, ◌+◌, ◌<◌, ◌≤◌, ◌≡◌, ◌∙◌, ◌==◌, min, sym, ap, refl, subst, Bool, true, false, cond, not, ◌||◌, Option, Some, None, List, [], ◌∷◌, ◌++◌, length, arith}
use Rattle.std.specs.Prelude.{nat_lt}
use Rattle.std.proofs.lemmas.Bool.Decides.{nat_tests}
use Rattle.forec_tree.specs.declared.tree.Name.{Name}
use Rattle.forec_tree.specs.declared.uses.How.{How}
use Rattle.forec_tree.specs.declared.uses.How.TheVariants as how
use Rattle.forec_tree.specs.declared.uses.Meaning.{Meaning}
use Rattle.forec_tree.specs.declared.uses.Meaning.TheVariants as means
use Rattle.forec_tree.specs.Terms.{Text, PlainFunction}
use Rattle.forec_tree.specs.Findings as finding
use Rattle.forec_tree.specs.Findings.{Finding, in_function}
use Rattle.forec_tree.specs.Pauses.{within, find_function}
use Rattle.forec_check.specs.AccessScan.{TextAccess, AccessScan, no_access, scan_start, closed, accessing_instances, as_access, scan_finding, scan_all, body_access, access_step, instances_of}
use Rattle.forec_tree.specs.Faults.{is_in, called_in, functions_called}
use Rattle.forec_tree.proofs.Fixed.{IsLocal}
use Rattle.loop_check.specs.Known.{list_at}
use Rattle.program_walk.specs.declared.walk.effects.Effect.{Effect}
use Rattle.program_walk.specs.declared.walk.effects.Effect.TheVariants as effect
use Rattle.forec_check.specs.Early.{effect_calls, function_calls}
use Rattle.program_walk.specs.Walk.{effects_of, finding_effects}
use Rattle.forec_check.proofs.Recursion.{effect_calls-append, calls_is, calls_at}
use Rattle.forec_check.proofs.Started.{in_left, in_right}
use Rattle.forec_check.specs.AccessCounts.{AlikeUpToTwo, capped_access, scan_effect, scan_effects, capped_step}

-- ---- the effects tell the same

effects_scanned : (g : ℕ) (c : ℕ → TextAccess) (r : AccessScan) (xs ys : List Effect) → scan_effects g c r (xs ++ ys) ≡ scan_effects g c (scan_effects g c r xs) ys
effects_scanned g c r [] ys = refl
effects_scanned g c r (x ∷ xs) ys = effects_scanned g c (scan_effect g c r x) xs ys

one_read : (g : ℕ) (c : ℕ → TextAccess) (r : AccessScan) (f : Finding) → scan_effects g c r (finding_effects f) ≡ scan_finding g c r f
one_read g c r (finding.Use how.Reads name means.Unknown) = refl
one_read g c r (finding.Use how.Reads name (means.Local a)) = refl
one_read g c r (finding.Use how.Reads name (means.Global k a)) = refl
one_read g c r (finding.Use how.Reads name (means.Function x p)) = refl
one_read g c r (finding.Use how.Indexes name means.Unknown) = refl
one_read g c r (finding.Use how.Indexes name (means.Local a)) = refl
one_read g c r (finding.Use how.Indexes name (means.Global k a)) = refl
one_read g c r (finding.Use how.Indexes name (means.Function x p)) = refl
one_read g c r (finding.Use how.Writes name means.Unknown) = refl
one_read g c r (finding.Use how.Writes name (means.Local a)) = refl
one_read g c r (finding.Use how.Writes name (means.Global k a)) = refl
one_read g c r (finding.Use how.Writes name (means.Function x p)) = refl
one_read g c r (finding.Use how.WritesAt name means.Unknown) = refl
one_read g c r (finding.Use how.WritesAt name (means.Local a)) = refl
one_read g c r (finding.Use how.WritesAt name (means.Global k a)) = refl
one_read g c r (finding.Use how.WritesAt name (means.Function x p)) = refl
one_read g c r (finding.Use (how.Computes n) name means.Unknown) = refl
one_read g c r (finding.Use (how.Computes n) name (means.Local a)) = refl
one_read g c r (finding.Use (how.Computes n) name (means.Global k a)) = refl
one_read g c r (finding.Use (how.Computes n) name (means.Function x p)) = refl
one_read g c r (finding.Use (how.Runs n) name means.Unknown) = refl
one_read g c r (finding.Use (how.Runs n) name (means.Local a)) = refl
one_read g c r (finding.Use (how.Runs n) name (means.Global k a)) = refl
one_read g c r (finding.Use (how.Runs n) name (means.Function x p)) = refl
one_read g c r (finding.Use (how.Starts n) name means.Unknown) = refl
one_read g c r (finding.Use (how.Starts n) name (means.Local a)) = refl
one_read g c r (finding.Use (how.Starts n) name (means.Global k a)) = refl
one_read g c r (finding.Use (how.Starts n) name (means.Function x p)) = refl
one_read g c r (finding.Declares n a l v) = refl
one_read g c r (finding.Bound n) = refl
one_read g c r (finding.Loop l) = refl
one_read g c r (finding.Synchronous p) = refl
one_read g c r (finding.Gives p) = refl
one_read g c r finding.Opens = refl
one_read g c r finding.Closes = refl

pub effects_tell : (g : ℕ) (c : ℕ → TextAccess) (r : AccessScan) (fs : List Finding) → scan_effects g c r (effects_of fs) ≡ scan_all g c r fs
effects_tell g c r [] = refl
effects_tell g c r (f ∷ rest) =
    effects_scanned g c r (finding_effects f) (effects_of rest) ∙ ap (λ q. scan_effects g c q (effects_of rest)) (one_read g c r f) ∙ effects_tell g c (scan_finding g c r f) rest

-- ---- counts up to two

pub alike_capped : (a b : AccessScan) → AlikeUpToTwo a b → capped_access (as_access a) ≡ capped_access (as_access b)
alike_capped a b h =
    ap (λ o. let n : TextAccess = record { own = o; below = min a.below 2 } in n) h.own ∙ ap (λ m. let n : TextAccess = record { own = b.own; below = m } in n) h.below

below_of : (a b : TextAccess) → capped_access a ≡ capped_access b → min a.below 2 ≡ min b.below 2
below_of a b h = ap (λ n. n.below) h

own_of : (a b : TextAccess) → capped_access a ≡ capped_access b → a.own ≡ b.own
own_of a b h = ap (λ n. n.own) h

pub counted : (a b : TextAccess) → capped_access a ≡ capped_access b → min (accessing_instances a) 2 ≡ min (accessing_instances b) 2
counted a b h =
    let m = below_of a b h in
    ap (λ o. min (cond o (suc a.below) a.below) 2) (own_of a b h)
    ∙ (elim b.own as (λ o. min (cond o (suc a.below) a.below) 2 ≡ min (cond o (suc b.below) b.below) 2) [ true ↦ omega (arith, m) | false ↦ m ])

sum_two : (a b x y : ℕ) → min a 2 ≡ min b 2 → min x 2 ≡ min y 2 → min (a + x) 2 ≡ min (b + y) 2
sum_two a b x y h g = omega (arith, h, g)

pub closes_alike : (a b : AccessScan) → AlikeUpToTwo a b → (xs ys : List Bool) → xs ≡ ys → AlikeUpToTwo (closed a xs) (closed b ys)
closes_alike a b h [] [] e = h
closes_alike a b h [] (y ∷ ys) e = absurd (let q : [] ≡ y ∷ ys = e in cc)
closes_alike a b h (x ∷ xs) [] e = absurd (let q : x ∷ xs ≡ [] = e in cc)
closes_alike a b h (x ∷ xs) (y ∷ ys) e =
    let p : x ≡ y = cc in
    let q : xs ≡ ys = cc in
    record {
      own = p;
      below = sum_two a.below b.below (cond a.own 1 0) (cond b.own 1 0) h.below (ap (λ o. min (cond o 1 0) 2) h.own);
      round = q;
    }

here_in : (id : ℕ) → is_in id (id ∷ []) ≡ true
here_in id = let s : (id == id) ≡ true = grind (arith, nat_tests) in ap (λ b. cond b true false) s

-- one effect, with namings that are the same up to two
effect_alike : (g : ℕ) (c d : ℕ → TextAccess) (e : Effect) (a b : AccessScan) → ((h : ℕ) → is_in h (effect_calls (e ∷ [])) ≡ true → capped_access (c h) ≡ capped_access (d h)) → AlikeUpToTwo a b →
    AlikeUpToTwo (scan_effect g c a e) (scan_effect g d b e)
effect_alike g c d (effect.Accesses id) a b n h = record { own = ap (λ o. o || (id == g)) h.own; below = h.below; round = h.round }
effect_alike g c d (effect.Computes id) a b n h = h
effect_alike g c d (effect.Runs id) a b n h =
    let e = n id (here_in id) in
    record {
      own = ap (λ o. o || (c id).own) h.own ∙ ap (λ o. b.own || o) (own_of (c id) (d id) e);
      below = sum_two a.below b.below (c id).below (d id).below h.below (below_of (c id) (d id) e);
      round = h.round;
    }
effect_alike g c d (effect.Starts id) a b n h =
    let e = n id (here_in id) in
    record { own = h.own; below = sum_two a.below b.below (accessing_instances (c id)) (accessing_instances (d id)) h.below (counted (c id) (d id) e); round = h.round }
effect_alike g c d effect.Opens a b n h = record { own = refl; below = h.below; round = ap (λ o. o ∷ a.round) h.own ∙ ap (λ r. b.own ∷ r) h.round }
effect_alike g c d effect.Closes a b n h = closes_alike a b h a.round b.round h.round

pub all_alike : (g : ℕ) (c d : ℕ → TextAccess) (es : List Effect) (a b : AccessScan) → ((h : ℕ) → is_in h (effect_calls es) ≡ true → capped_access (c h) ≡ capped_access (d h)) → AlikeUpToTwo a b →
    AlikeUpToTwo (scan_effects g c a es) (scan_effects g d b es)
all_alike g c d [] a b n h = h
all_alike g c d (e ∷ es) a b n h =
    all_alike g c d es (scan_effect g c a e) (scan_effect g d b e)
    (λ x i. n x (ap (is_in x) (cons_calls e es) ∙ in_right x (effect_calls (e ∷ [])) (effect_calls es) i))
    (effect_alike g c d e a b (λ x i. n x (ap (is_in x) (cons_calls e es) ∙ in_left x (effect_calls (e ∷ [])) (effect_calls es) i)) h)
  where
    cons_calls : (e : Effect) (es : List Effect) → effect_calls (e ∷ es) ≡ effect_calls (e ∷ []) ++ effect_calls es
    cons_calls e es = effect_calls-append (e ∷ []) es

pub alike_self : (a : AccessScan) → AlikeUpToTwo a a
alike_self a = record { own = refl; below = refl; round = refl }

-- ---- the step of a function

step_alike : (text : Text) (g f : ℕ) (c d : ℕ → TextAccess) → ((h : ℕ) → is_in h (functions_called text f) ≡ true → capped_access (c h) ≡ capped_access (d h)) →
    capped_step text g c f ≡ capped_step text g d f
step_alike text g f c d n = pick (find_function f text) (λ h i. n h (ap (is_in h) (sym (calls_at text f)) ∙ i))
  where
    pick : (x : Option PlainFunction) → ((h : ℕ) → is_in h (list_at (function_calls text) x) ≡ true → capped_access (c h) ≡ capped_access (d h)) →
        capped_access (body_access text g c x) ≡ capped_access (body_access text g d x)
    pick None m = refl
    pick (Some x) m =
        let fs = in_function text x in
        sym (ap (λ r. capped_access (as_access r)) (effects_tell g c scan_start fs))
        ∙ alike_capped (scan_effects g c scan_start (effects_of fs)) (scan_effects g d scan_start (effects_of fs))
        (all_alike g c d (effects_of fs) scan_start scan_start (λ h i. m h (ap (is_in h) (sym (calls_is fs)) ∙ i)) (alike_self scan_start))
        ∙ ap (λ r. capped_access (as_access r)) (effects_tell g d scan_start fs)

pub capped_local : (text : Text) (g : ℕ) → IsLocal (functions_called text) (capped_step text g)
capped_local text g = record { agrees = λ f a b h. step_alike text g f a b (λ x i. ap capped_access (h x i)) }

pub capped_twice : (n : TextAccess) → capped_access (capped_access n) ≡ capped_access n
capped_twice n = let e : min (min n.below 2) 2 ≡ min n.below 2 = omega arith in ap (λ m. let q : TextAccess = record { own = n.own; below = m } in q) e

pub capped_within : (text : Text) (g d f : ℕ) → within no_access (capped_step text g) d f ≡ capped_access (within no_access (access_step text g) d f)
unfolding within
capped_within text g zero f = refl
capped_within text g (suc d) f =
    step_alike text g f (within no_access (capped_step text g) d) (within no_access (access_step text g) d)
    (λ h i. ap capped_access (capped_within text g d h) ∙ capped_twice (within no_access (access_step text g) d h))

-- two instances
pub two_instances : (n : TextAccess) → nat_lt 1 (accessing_instances (capped_access n)) ≡ nat_lt 1 (accessing_instances n)
two_instances n =
    elim n.own as (λ o. nat_lt 1 (cond o (suc (min n.below 2)) (min n.below 2)) ≡ nat_lt 1 (cond o (suc n.below) n.below)) [ true ↦ grind (arith, nat_tests) | false ↦ grind (arith, nat_tests) ]
