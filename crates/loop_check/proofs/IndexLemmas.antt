-- What an entry tells of the items of its name.
use Rattle.std.proofs.Common.{ℕ, zero, suc, ◌+◌, ◌==◌, ◌<◌, ◌≤◌, ◌≡◌, ◌∙◌, sym, ap, refl, ◌⊎◌, inl, inr, ⊎_elim, Bool, true, false, cond, not, ◌&&◌, ◌||◌, Some, None, [], ◌∷◌, take, arith}
use Rattle.std.specs.Prelude.{nat_le, slice_get}
use Rattle.std.proofs.Math.Bool.{or_assoc}
use Rattle.std.proofs.lemmas.Bool.Decides.{nat_tests}
use Rattle.forec_tree.specs.Terms.{Text, PlainItem, IsGlobal, IsFunction}
use Rattle.forec_tree.specs.Scopes.{name_of, find_item}
use Rattle.forec_tree.specs.Turns.{global_named}
use Rattle.forec_tree.specs.Rules.{is_none}
use Rattle.forec_tree.specs.Faults.{item_named}
use Rattle.loop_check.specs.declared.entry.Entry.{Entry}
use Rattle.loop_check.specs.Index.{met, noted_item, entry_from}

global_step : (id at : ℕ) (x : PlainItem) (e : Entry) (rest : Text) → ((noted_item id at x e).global || global_named id rest) ≡ (e.global || global_named id (x ∷ rest))
global_step id at (IsGlobal g) e rest =
    elim (g.name.id == id) as (λ b. ((cond b (met at (IsGlobal g) e) e).global || global_named id rest) ≡ (e.global || (b || global_named id rest))) [
      | true ↦ or_assoc e.global true (global_named id rest)
      | false ↦ refl
    ]
global_step id at (IsFunction f) e rest =
    elim (f.name.id == id) as (λ b. ((cond b (met at (IsFunction f) e) e).global || global_named id rest) ≡ (e.global || global_named id rest)) [
      | true ↦ or_assoc e.global false (global_named id rest)
      | false ↦ refl
    ]

pub global_is : (id at : ℕ) (e : Entry) (xs : Text) → (entry_from id at e xs).global ≡ (e.global || global_named id xs)
global_is id at e [] = elim e.global as (λ b. b ≡ (b || false)) [ true ↦ refl | false ↦ refl ]
global_is id at e (x ∷ xs) = global_is id (suc at) (noted_item id at x e) xs ∙ global_step id at x e xs

-- an entry that is known stays
suc_zero : (p : ℕ) → (suc p == 0) ≡ false
suc_zero p = grind (arith, nat_tests)

met_kept : (at p : ℕ) (x : PlainItem) (e : Entry) → e.first ≡ suc p → (met at x e).first ≡ suc p
met_kept at p x e h = rw (h, suc_zero p) refl

noted_kept : (id at p : ℕ) (x : PlainItem) (e : Entry) → e.first ≡ suc p → (noted_item id at x e).first ≡ suc p
noted_kept id at p x e h =
    elim ((name_of x).id == id) as (λ b. (cond b (met at x e) e).first ≡ suc p) [ true ↦ met_kept at p x e h | false ↦ h ]

pub kept : (id at p : ℕ) (e : Entry) (xs : Text) → e.first ≡ suc p → (entry_from id at e xs).first ≡ suc p
kept id at p e [] h = h
kept id at p e (x ∷ xs) h = kept id (suc at) p (noted_item id at x e) xs (noted_kept id at p x e h)

-- the first item of a name, and the items after it
match_first : (id at : ℕ) (x : PlainItem) (e : Entry) (xs : Text) → e.first ≡ 0 → ((name_of x).id == id) ≡ true → (entry_from id at e (x ∷ xs)).first ≡ suc at
match_first id at x e xs z h =
    kept id (suc at) at (noted_item id at x e) xs (rw h (rw z refl))

-- what an item of another name leaves
skipped : (id at : ℕ) (x : PlainItem) (e : Entry) (xs : Text) → ((name_of x).id == id) ≡ false → entry_from id at e (x ∷ xs) ≡ entry_from id (suc at) e xs
skipped id at x e xs h = rw h refl

-- whether the name is the one that is looked for
pub split : {P : Type 0} (b : Bool) → (b ≡ true → P) → (b ≡ false → P) → P
split true t f = t refl
split false t f = f refl

pub later : (id at : ℕ) (e : Entry) (xs : Text) → e.first ≡ 0 → ((entry_from id at e xs).first ≡ 0) ⊎ (at < (entry_from id at e xs).first)
later id at e [] z = inl z
later id at e (x ∷ xs) z =
    let rest = later id (suc at) e xs z in
    split ((name_of x).id == id) (λ h. let r = match_first id at x e xs z h in inr (omega (arith, r)))
    (λ h. let s = skipped id at x e xs h in ⊎_elim (λ r. inl (ap (λ y. y.first) s ∙ r)) (λ r. let q = ap (λ y. y.first) s in inr (omega (arith, r, q))) rest)

pub absent_is : (id at : ℕ) (e : Entry) (xs : Text) → e.first ≡ 0 → (entry_from id at e xs).first ≡ 0 → find_item id xs ≡ None
absent_is id at e [] z r = refl
absent_is id at e (x ∷ xs) z r =
    let rest = absent_is id (suc at) e xs z in
    split ((name_of x).id == id) (λ h. let m = match_first id at x e xs z h in absurd (omega (arith, m, r)))
    (λ h. let s = ap (λ y. y.first) (skipped id at x e xs h) in rw h (rest (sym s ∙ r)))

pub found_is : (id at k : ℕ) (e : Entry) (xs : Text) → e.first ≡ 0 → (entry_from id at e xs).first ≡ suc (at + k) → find_item id xs ≡ slice_get xs k
found_is id at k e [] z r = let q = sym z ∙ r in absurd (omega (arith, q))
found_is id at zero e (x ∷ xs) z r =
    split ((name_of x).id == id) (λ h. rw h refl)
    (λ h.
    let s = ap (λ y. y.first) (skipped id at x e xs h) in
    ⊎_elim (λ q. absurd (omega (arith, q, r, s))) (λ q. absurd (omega (arith, q, r, s))) (later id (suc at) e xs z))
found_is id at (suc k) e (x ∷ xs) z r =
    let rest = found_is id (suc at) k e xs z in
    split ((name_of x).id == id) (λ h. let m = match_first id at x e xs z h in absurd (omega (arith, m, r)))
    (λ h. let s = ap (λ y. y.first) (skipped id at x e xs h) in rw h (rest (omega (arith, s, r))))

-- whether the first of a name is among the first items
among_no : (r n : ℕ) → (r ≡ 0) ⊎ (n < r) → (not (r == 0) && nat_le r n) ≡ false
among_no r n (inl h) = rw h refl
among_no r n (inr h) = grind (arith, nat_tests)

among_yes : (r n p : ℕ) → r ≡ suc p → r ≤ n → (not (r == 0) && nat_le r n) ≡ true
among_yes r n p h l = grind (arith, nat_tests)

pub named_is : (id at m : ℕ) (e : Entry) (xs : Text) → e.first ≡ 0 →
    item_named id (take m xs) ≡ (not ((entry_from id at e xs).first == 0) && nat_le (entry_from id at e xs).first (at + m))
named_is id at zero e xs z =
    sym (among_no (entry_from id at e xs).first (at + 0) (⊎_elim (λ q. inl q) (λ q. inr (omega (arith, q))) (later id at e xs z)))
named_is id at (suc m) e [] z = rw z refl
named_is id at (suc m) e (x ∷ xs) z =
    let rest = named_is id (suc at) m e xs z in
    split ((name_of x).id == id)
    (λ h.
    let r = match_first id at x e xs z h in
    ap (λ b. not (is_none (cond b (Some x) (find_item id (take m xs))))) h
    ∙ sym (among_yes (entry_from id at e (x ∷ xs)).first (at + suc m) at r (omega (arith, r))))
    (λ h.
    let s = ap (λ y. y.first) (skipped id at x e xs h) in
    let n : suc at + m ≡ at + suc m = omega arith in
    ap (λ b. not (is_none (cond b (Some x) (find_item id (take m xs))))) h ∙ rest
    ∙ ap (λ q. not (q == 0) && nat_le q (suc at + m)) (sym s) ∙ ap (λ q. not ((entry_from id at e (x ∷ xs)).first == 0) && nat_le (entry_from id at e (x ∷ xs)).first q) n)
