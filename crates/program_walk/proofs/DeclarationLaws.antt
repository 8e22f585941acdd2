-- Declared names, pushed and popped.
use Rattle.std.proofs.Common.{ℕ, zero, suc, ◌+◌, ◌-◌, ◌==◌, ◌<◌, ◌≤◌, ◌≡◌, ◌≢◌, ◌∙◌, sym, ap, refl, inl, inr, ◌⊎◌, ⊎_elim, Bool, true, false, cond, Option, Some, None, List, [], ◌∷◌, ◌++◌, length, take, drop, set, get_or, map, subst, arith, length-append, length-take, get_or-set_other, get_or-set_same}
use Rattle.std.specs.Prelude.{nat_lt}
use Rattle.std.proofs.lemmas.Bool.Decides.{nat_tests}
use Rattle.std.proofs.lemmas.Bool.{cases_lt, eqb-true}
use Rattle.std.proofs.lemmas.List.{take-append-le, get_or_append_left, take-append-drop}
use Rattle.std.proofs.Math.Seq.{take-append_seam, get_or-append_seam}
use Rattle.forec_tree.specs.declared.uses.Seen.{Seen}
use Rattle.forec_tree.specs.Scopes.{find_last, is_among}
use Rattle.program_walk.specs.declared.scopes.declaration.Declaration.{Declaration}
use Rattle.program_walk.specs.Declarations.{blank_declaration, seen_name, last_from, last_of, AreDeclarationsChained, pushed_declaration}
use Rattle.loop_check.specs.Numbered.{put_entry}
use Rattle.loop_check.proofs.IndexLemmas.{split}

pub last_append : (id at f : ℕ) (xs ys : List Declaration) → last_from id at f (xs ++ ys) ≡ last_from id (at + length xs) (last_from id at f xs) ys
last_append id at f [] ys = let e : at + 0 ≡ at = omega arith in ap (λ n. last_from id n f ys) (sym e)
last_append id at f (x ∷ xs) ys =
    let e : suc at + length xs ≡ at + suc (length xs) = omega arith in
    last_append id (suc at) (cond (x.id == id) (suc at) f) xs ys ∙ ap (λ n. last_from id n (last_from id (suc at) (cond (x.id == id) (suc at) f) xs) ys) e

pub last_snoc : (id : ℕ) (es : List Declaration) (e : Declaration) → last_of id (es ++ e ∷ []) ≡ cond (e.id == id) (suc (length es)) (last_of id es)
last_snoc id es e = last_append id 0 0 es (e ∷ []) ∙ (let n : suc (0 + length es) ≡ suc (length es) = omega arith in ap (λ m. cond (e.id == id) m (last_of id es)) n)

other_id : (a b : ℕ) → (a == b) ≡ false → b ≢ a
other_id a b h = λ e. grind (arith, nat_tests)

same_id : (a : ℕ) → (a == a) ≡ true
same_id a = grind (arith, nat_tests)

pub chained_push : (es : List Declaration) (id : ℕ) (array : Bool) → AreDeclarationsChained es → AreDeclarationsChained (pushed_declaration es id array)
chained_push es id array h k l =
    let e : Declaration = record { id = id; array = array; before = last_of id es } in
    let n = length-append es (e ∷ []) in
    ⊎_elim
    (λ (q : k < length es).
    let g = get_or_append_left es (e ∷ []) blank_declaration k q in
    let t = take-append-le k es (e ∷ []) (omega arith) in
    ap (λ x. x.before) g ∙ h k q ∙ sym (ap (λ x. last_of x.id (take k (es ++ e ∷ []))) g ∙ ap (last_of (get_or es k blank_declaration).id) t))
    (λ (q : length es ≤ k).
    let m : k ≡ length es = omega (arith, n, l) in
    let g : get_or (es ++ e ∷ []) k blank_declaration ≡ e = ap (λ i. get_or (es ++ e ∷ []) i blank_declaration) m ∙ get_or-append_seam es e [] blank_declaration in
    let t : take k (es ++ e ∷ []) ≡ es = ap (λ i. take i (es ++ e ∷ [])) m ∙ take-append_seam es (e ∷ []) in
    ap (λ x. x.before) g ∙ sym (ap (λ x. last_of x.id (take k (es ++ e ∷ []))) g ∙ ap (last_of id) t))
    (cases_lt k (length es))

pub chained_pop : (es : List Declaration) (e : Declaration) → AreDeclarationsChained (es ++ e ∷ []) → AreDeclarationsChained es
chained_pop es e h k l =
    let n = length-append es (e ∷ []) in
    let g = get_or_append_left es (e ∷ []) blank_declaration k l in
    let t = take-append-le k es (e ∷ []) (omega arith) in
    sym (ap (λ x. x.before) g) ∙ h k (omega (arith, n)) ∙ ap (λ x. last_of x.id (take k (es ++ e ∷ []))) g ∙ ap (last_of (get_or es k blank_declaration).id) t

-- what the last entry knows
pub last_before : (es : List Declaration) (e : Declaration) → AreDeclarationsChained (es ++ e ∷ []) → e.before ≡ last_of e.id es
last_before es e h =
    let n = length-append es (e ∷ []) in
    let g = get_or-append_seam es e [] blank_declaration in
    let t = take-append_seam es (e ∷ []) in
    sym (ap (λ x. x.before) g) ∙ h (length es) (omega (arith, n)) ∙ ap (λ x. last_of x.id (take (length es) (es ++ e ∷ []))) g ∙ ap (last_of e.id) t

pub popped : (es : List Declaration) (e : Declaration) (latest : List ℕ) → AreDeclarationsChained (es ++ e ∷ []) → ((id : ℕ) → get_or latest id 0 ≡ last_of id (es ++ e ∷ [])) → e.id < length latest →
    (id : ℕ) → get_or (set latest e.id e.before) id 0 ≡ last_of id es
popped es e latest c h l id =
    split (e.id == id)
    (λ q.
    let s : e.id ≡ id = eqb-true e.id id q in
    ap (λ n. get_or (set latest e.id e.before) n 0) (sym s) ∙ get_or-set_same latest e.id e.before 0 l ∙ last_before es e c ∙ ap (λ n. last_of n es) s)
    (λ q. get_or-set_other latest e.id id e.before 0 (other_id e.id id q) ∙ h id ∙ last_snoc id es e ∙ ap (λ b. cond b (suc (length es)) (last_of id es)) q)

past : (xs : List ℕ) (i : ℕ) → length xs ≤ i → get_or xs i 0 ≡ 0
past [] i h = refl
past (x ∷ xs) zero h = absurd (omega arith)
past (x ∷ xs) (suc i) h = past xs i (omega arith)

-- the last name has a place in the table
pub has_place : {P : Type 0} (es : List Declaration) (e : Declaration) (latest : List ℕ) → ((id : ℕ) → get_or latest id 0 ≡ last_of id (es ++ e ∷ [])) → length latest ≤ e.id → P
has_place es e latest h l =
    let q = sym (past latest e.id l) ∙ h e.id ∙ last_snoc e.id es e ∙ ap (λ b. cond b (suc (length es)) (last_of e.id es)) (same_id e.id) in
    absurd (omega (arith, q))

pub latest_push : (es : List Declaration) (id : ℕ) (array : Bool) (place : ℕ) (old new : ℕ → ℕ) → place ≡ length es + 1 → ((g : ℕ) → old g ≡ last_of g es) →
    ((g : ℕ) → new g ≡ put_entry id g place (old g)) → (g : ℕ) → new g ≡ last_of g (pushed_declaration es id array)
latest_push es id array place old new p h n g =
    let e : place ≡ suc (length es) = omega (arith, p) in
    n g ∙ ap (λ m. put_entry id g m (old g)) e ∙ ap (put_entry id g (suc (length es))) (h g) ∙ sym (last_snoc g es (record { id = id; array = array; before = last_of id es }))

-- ---- looking up

pub last_bound : (id at f : ℕ) (xs : List Declaration) → f ≤ at → last_from id at f xs ≤ at + length xs
last_bound id at f [] h = omega arith
last_bound id at f (x ∷ xs) h =
    let r = λ (q : ℕ) (l : q ≤ suc at). last_bound id (suc at) q xs l in
    elim (x.id == id) as (λ b. last_from id (suc at) (cond b (suc at) f) xs ≤ at + suc (length xs)) [
      | true ↦ let a = r (suc at) (omega arith) in omega (arith, a)
      | false ↦ let a = r f (omega arith) in omega (arith, a)
    ]

-- the last of a name: the one before, or one of these
pub data Last (id at f : ℕ) (found : Option Seen) (ys : List Declaration) : Type 0 where
  none_here : last_from id at f ys ≡ f → find_last id found (map seen_name ys) ≡ found → is_among id (map seen_name ys) ≡ false → Last id at f found ys
  one_here : (k : ℕ) → last_from id at f ys ≡ suc (at + k) → k < length ys → find_last id found (map seen_name ys) ≡ Some (seen_name (get_or ys k blank_declaration)) →
      is_among id (map seen_name ys) ≡ true → Last id at f found ys

pub last_is : (id at f : ℕ) (found : Option Seen) (ys : List Declaration) → Last id at f found ys
last_is id at f found [] = none_here refl refl refl
last_is id at f found (y ∷ ys) =
    let hit = last_is id (suc at) (suc at) (Some (seen_name y)) ys in
    let miss = last_is id (suc at) f found ys in
    split (y.id == id)
    (λ e.
    let l = ap (λ b. last_from id (suc at) (cond b (suc at) f) ys) e in
    let d = ap (λ b. find_last id (cond b (Some (seen_name y)) found) (map seen_name ys)) e in
    let a = ap (λ b. cond b true (is_among id (map seen_name ys))) e in
    elim hit [
      | none_here p q r ↦ one_here 0 (l ∙ p ∙ omega arith) (omega arith) (d ∙ q) a
      | one_here k p s q r ↦ one_here (suc k) (l ∙ p ∙ omega arith) (omega (arith, s)) (d ∙ q) a
    ])
    (λ e.
    let l = ap (λ b. last_from id (suc at) (cond b (suc at) f) ys) e in
    let d = ap (λ b. find_last id (cond b (Some (seen_name y)) found) (map seen_name ys)) e in
    let a = ap (λ b. cond b true (is_among id (map seen_name ys))) e in
    elim miss [
      | none_here p q r ↦ none_here (l ∙ p) (d ∙ q) (a ∙ r)
      | one_here k p s q r ↦ one_here (suc k) (l ∙ p ∙ omega arith) (omega (arith, s)) (d ∙ q) (a ∙ r)
    ])

-- ---- the names of a scope

pub split_drop : (b s : ℕ) (es : List Declaration) → b ≤ s → drop b es ≡ drop b (take s es) ++ drop s es
split_drop zero s es h = sym (take-append-drop s es)
split_drop (suc b) zero es h = absurd (omega arith)
split_drop (suc b) (suc s) [] h = refl
split_drop (suc b) (suc s) (e ∷ es) h = split_drop b s es (omega arith)

map_append : (xs ys : List Declaration) → map seen_name (xs ++ ys) ≡ map seen_name xs ++ map seen_name ys
map_append [] ys = refl
map_append (x ∷ xs) ys = ap (λ r. seen_name x ∷ r) (map_append xs ys)

pub whole : (b s : ℕ) (es : List Declaration) → b ≤ s → map seen_name (drop b (take s es)) ++ map seen_name (drop s es) ≡ map seen_name (drop b es)
whole b s es h = sym (ap (map seen_name) (split_drop b s es h) ∙ map_append (drop b (take s es)) (drop s es))

last_behind : (id b : ℕ) (es : List Declaration) → b ≤ length es → last_of id es ≡ last_from id b (last_of id (take b es)) (drop b es)
last_behind id b es h =
    let n : 0 + length (take b es) ≡ b = let l = length-take b es in omega (arith, l) in
    ap (last_of id) (sym (take-append-drop b es)) ∙ last_append id 0 0 (take b es) (drop b es) ∙ ap (λ m. last_from id m (last_of id (take b es)) (drop b es)) n

before_bound : (id b : ℕ) (es : List Declaration) → b ≤ length es → last_of id (take b es) ≤ b
before_bound id b es h = let l = length-take b es in let r = last_bound id 0 0 (take b es) (omega arith) in omega (arith, l, r)

get_drop : (b k : ℕ) (es : List Declaration) → get_or (drop b es) k blank_declaration ≡ get_or es (b + k) blank_declaration
get_drop zero k es = let n : k ≡ 0 + k = omega arith in ap (λ m. get_or es m blank_declaration) n
get_drop (suc b) k [] = nothing k (suc b + k)
  where
    nothing : (i j : ℕ) → get_or [] i blank_declaration ≡ get_or [] j blank_declaration
    nothing i j = none i ∙ sym (none j)
      where
        none : (i : ℕ) → get_or [] i blank_declaration ≡ blank_declaration
        none zero = refl
        none (suc i) = refl
get_drop (suc b) k (e ∷ es) = let n : suc b + k ≡ suc (b + k) = omega arith in get_drop b k es ∙ ap (λ m. get_or (e ∷ es) m blank_declaration) (sym n)

pub not_found : (id b : ℕ) (es : List Declaration) → b ≤ length es → last_of id es ≤ b → find_last id None (map seen_name (drop b es)) ≡ None
not_found id b es h l =
    let e = last_behind id b es h in
    elim (last_is id b (last_of id (take b es)) None (drop b es)) [
      | none_here p q r ↦ q
      | one_here k p s q r ↦ absurd (omega (arith, e, p, l))
    ]

pub found_at : (id b : ℕ) (es : List Declaration) → b ≤ length es → b < last_of id es → find_last id None (map seen_name (drop b es)) ≡ Some (seen_name (get_or es (last_of id es - 1) blank_declaration))
found_at id b es h l =
    let e = last_behind id b es h in
    let f = before_bound id b es h in
    elim (last_is id b (last_of id (take b es)) None (drop b es)) [
      | none_here p q r ↦ absurd (omega (arith, e, p, l, f))
      | one_here k p s q r ↦
          let n : b + k ≡ last_of id es - 1 = omega (arith, e, p) in
          q ∙ ap (λ x. Some (seen_name x)) (get_drop b k es ∙ ap (λ m. get_or es m blank_declaration) n)
    ]

pub here_is : (id b : ℕ) (es : List Declaration) → b ≤ length es → nat_lt b (last_of id es) ≡ is_among id (map seen_name (drop b es))
here_is id b es h =
    let e = last_behind id b es h in
    let f = before_bound id b es h in
    elim (last_is id b (last_of id (take b es)) None (drop b es)) [
      | none_here p q r ↦ (let l : last_of id es ≤ b = omega (arith, e, p, f) in let n : nat_lt b (last_of id es) ≡ false = grind (arith, nat_tests) in n) ∙ sym r
      | one_here k p s q r ↦ (let l : b < last_of id es = omega (arith, e, p) in let n : nat_lt b (last_of id es) ≡ true = grind (arith, nat_tests) in n) ∙ sym r
    ]
