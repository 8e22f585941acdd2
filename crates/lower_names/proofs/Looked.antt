-- Looking a local up: where its number stands last is where it is found.
use Rattle.std.proofs.Common.{ℕ, zero, suc, ◌+◌, ◌-◌, ◌==◌, ◌<◌, ◌≤◌, ◌≡◌, ◌∙◌, sym, ap, refl, true, false, cond, Option, Some, None, List, [], ◌∷◌, ◌++◌, length, take, drop, get_or, map, arith, length-take}
use Rattle.std.proofs.lemmas.List.{length-map, take-append-drop}
use Rattle.loop_check.proofs.IndexLemmas.{split}
use Rattle.text_kernel.specs.declared.names.Slot.{Slot}
use Rattle.program_walk.specs.declared.scopes.declaration.Declaration.{Declaration}
use Rattle.text_kernel.specs.Bindings.{slot_id, find_slot}
use Rattle.program_walk.specs.Declarations.{id_of, last_from, last_of}

-- where the last slot of a name stands, counted from 1
abbrev slot_from : ℕ → ℕ → ℕ → List Slot → ℕ
slot_from id at found [] = found
slot_from id at found (s ∷ ss) = slot_from id (suc at) (cond (s.id == id) (suc at) found) ss

head_same : (a b : ℕ) (as_ bs : List ℕ) → a ∷ as_ ≡ b ∷ bs → a ≡ b
head_same a b as_ bs h = cc

tail_same : (a b : ℕ) (as_ bs : List ℕ) → a ∷ as_ ≡ b ∷ bs → as_ ≡ bs
tail_same a b as_ bs h = cc

same_from : (id at f : ℕ) (ss : List Declaration) (xs : List Slot) → map id_of ss ≡ map slot_id xs → last_from id at f ss ≡ slot_from id at f xs
same_from id at f [] [] h = refl
same_from id at f [] (x ∷ xs) h = cc
same_from id at f (s ∷ ss) [] h = cc
same_from id at f (s ∷ ss) (x ∷ xs) h =
    let e = head_same s.id x.id (map id_of ss) (map slot_id xs) h in
    ap (λ n. last_from id (suc at) (cond (n == id) (suc at) f) ss) e ∙ same_from id (suc at) (cond (x.id == id) (suc at) f) ss xs (tail_same s.id x.id (map id_of ss) (map slot_id xs) h)

pub same_length : (ss : List Declaration) (xs : List Slot) → map id_of ss ≡ map slot_id xs → length ss ≡ length xs
same_length ss xs h = sym (length-map ss id_of) ∙ (ap length h ∙ length-map xs slot_id)

from_append : (id at f : ℕ) (xs ys : List Slot) → slot_from id at f (xs ++ ys) ≡ slot_from id (at + length xs) (slot_from id at f xs) ys
from_append id at f [] ys = let e : at + 0 ≡ at = omega arith in ap (λ n. slot_from id n f ys) (sym e)
from_append id at f (x ∷ xs) ys =
    let e : suc at + length xs ≡ at + suc (length xs) = omega arith in
    from_append id (suc at) (cond (x.id == id) (suc at) f) xs ys ∙ ap (λ n. slot_from id n (slot_from id (suc at) (cond (x.id == id) (suc at) f) xs) ys) e

from_bound : (id at f : ℕ) (xs : List Slot) → f ≤ at → slot_from id at f xs ≤ at + length xs
from_bound id at f [] h = omega arith
from_bound id at f (x ∷ xs) h =
    let r = λ (q : ℕ) (l : q ≤ suc at). from_bound id (suc at) q xs l in
    elim (x.id == id) as (λ b. slot_from id (suc at) (cond b (suc at) f) xs ≤ at + suc (length xs)) [
      | true ↦ let a = r (suc at) (omega arith) in omega (arith, a)
      | false ↦ let a = r f (omega arith) in omega (arith, a)
    ]

blank_slot : Slot
blank_slot = record { id = 0; slot = 0; size = None }

-- the last of a name: the one before, or one of these
data Last (id at f : ℕ) (found : Option Slot) (ys : List Slot) : Type 0 where
  none_here : slot_from id at f ys ≡ f → find_slot id found ys ≡ found → Last id at f found ys
  one_here : (k : ℕ) → slot_from id at f ys ≡ suc (at + k) → k < length ys → find_slot id found ys ≡ Some (get_or ys k blank_slot) → Last id at f found ys

last_is : (id at f : ℕ) (found : Option Slot) (ys : List Slot) → Last id at f found ys
last_is id at f found [] = none_here refl refl
last_is id at f found (y ∷ ys) =
    let hit = last_is id (suc at) (suc at) (Some y) ys in
    let miss = last_is id (suc at) f found ys in
    split (y.id == id)
    (λ e.
    let l = ap (λ b. slot_from id (suc at) (cond b (suc at) f) ys) e in
    let d = ap (λ b. find_slot id (cond b (Some y) found) ys) e in
    elim hit [
      | none_here p q ↦ one_here 0 (l ∙ p ∙ omega arith) (omega arith) (d ∙ q)
      | one_here k p s q ↦ one_here (suc k) (l ∙ p ∙ omega arith) (omega (arith, s)) (d ∙ q)
    ])
    (λ e.
    let l = ap (λ b. slot_from id (suc at) (cond b (suc at) f) ys) e in
    let d = ap (λ b. find_slot id (cond b (Some y) found) ys) e in
    elim miss [
      | none_here p q ↦ none_here (l ∙ p) (d ∙ q)
      | one_here k p s q ↦ one_here (suc k) (l ∙ p ∙ omega arith) (omega (arith, s)) (d ∙ q)
    ])

behind : (id b : ℕ) (xs : List Slot) → b ≤ length xs → slot_from id 0 0 xs ≡ slot_from id b (slot_from id 0 0 (take b xs)) (drop b xs)
behind id b xs h =
    let n : 0 + length (take b xs) ≡ b = let l = length-take b xs in omega (arith, l) in
    ap (slot_from id 0 0) (sym (take-append-drop b xs)) ∙ from_append id 0 0 (take b xs) (drop b xs) ∙ ap (λ m. slot_from id m (slot_from id 0 0 (take b xs)) (drop b xs)) n

before_bound : (id b : ℕ) (xs : List Slot) → b ≤ length xs → slot_from id 0 0 (take b xs) ≤ b
before_bound id b xs h = let l = length-take b xs in let r = from_bound id 0 0 (take b xs) (omega arith) in omega (arith, l, r)

get_drop : (b k : ℕ) (xs : List Slot) (d : Slot) → k < length (drop b xs) → get_or (drop b xs) k d ≡ get_or xs (b + k) d
get_drop zero k xs d l = let n : k ≡ 0 + k = omega arith in ap (λ m. get_or xs m d) n
get_drop (suc b) k [] d l = absurd (omega arith)
get_drop (suc b) k (x ∷ xs) d l = let n : suc b + k ≡ suc (b + k) = omega arith in get_drop b k xs d l ∙ ap (λ m. get_or (x ∷ xs) m d) (sym n)

any_default : (xs : List Slot) (k : ℕ) (d f : Slot) → k < length xs → get_or xs k d ≡ get_or xs k f
any_default [] k d f h = absurd (omega arith)
any_default (x ∷ xs) zero d f h = refl
any_default (x ∷ xs) (suc k) d f h = any_default xs k d f (omega arith)

module _ (id b : ℕ) (ss : List Declaration) (xs : List Slot) (same : map id_of ss ≡ map slot_id xs) (within : b ≤ length xs) where
  pub last_low : last_of id ss ≤ length xs
  last_low = let e = same_from id 0 0 ss xs same in let l = from_bound id 0 0 xs (omega arith) in omega (arith, e, l)

  pub not_found : last_of id ss ≤ b → find_slot id None (drop b xs) ≡ None
  not_found l =
      let s = same_from id 0 0 ss xs same in
      let e = behind id b xs within in
      elim (last_is id b (slot_from id 0 0 (take b xs)) None (drop b xs)) [
        | none_here p q ↦ q
        | one_here k p w q ↦ absurd (omega (arith, s, e, p, l))
      ]

  pub found_at : (d : Slot) → b < last_of id ss → find_slot id None (drop b xs) ≡ Some (get_or xs (last_of id ss - 1) d)
  found_at d l =
      let s = same_from id 0 0 ss xs same in
      let e = behind id b xs within in
      let f = before_bound id b xs within in
      elim (last_is id b (slot_from id 0 0 (take b xs)) None (drop b xs)) [
        | none_here p q ↦ absurd (omega (arith, s, e, p, l, f))
        | one_here k p w q ↦
            let n : b + k ≡ last_of id ss - 1 = omega (arith, s, e, p) in
            q ∙ ap Some (any_default (drop b xs) k blank_slot d w ∙ (get_drop b k xs d w ∙ ap (λ m. get_or xs m d) n))
      ]

pub map_take : (n : ℕ) (ss : List Declaration) (xs : List Slot) → map id_of ss ≡ map slot_id xs → map id_of (take n ss) ≡ map slot_id (take n xs)
map_take zero ss xs h = refl
map_take (suc n) [] [] h = refl
map_take (suc n) [] (x ∷ xs) h = cc
map_take (suc n) (s ∷ ss) [] h = cc
map_take (suc n) (s ∷ ss) (x ∷ xs) h =
    ap (λ i. i ∷ map id_of (take n ss)) (head_same s.id x.id (map id_of ss) (map slot_id xs) h) ∙ ap (λ l. x.id ∷ l) (map_take n ss xs (tail_same s.id x.id (map id_of ss) (map slot_id xs) h))
