-- The places of the tokens of a text.
use Rattle.std.proofs.Common.{ℕ, zero, suc, ◌+◌, ◌^◌, ◌<◌, ◌≤◌, subst, Bool, true, false, List, [], ◌∷◌, length, take, arith}
use Rattle.std.specs.Prelude.{fold, if◌then◌else◌}
use Rattle.std.specs.List.{AllByRecursion}
use Rattle.forec_base.specs.declared.Place.{Place}
use Rattle.forec_tree.specs.declared.token.Token.{Token}
use Rattle.forec_tree.specs.Lexis.{is_line_end}
use Rattle.forec_tree.specs.LexedText.{place_after, first_place, place_at, token_at, Cuts, begins, skips, takes}
use Rattle.value_ranges.proofs.Lists.{all_append}
use Rattle.log_ranges.specs.Places.{IsPlace}

-- a place so many bytes after one, or fewer
record IsNear (p : Place) (n : ℕ) : Type 0 where
  pub line_from : 1 ≤ p.line
  pub line_to : p.line ≤ n + 1
  pub column_from : 1 ≤ p.column
  pub column_to : p.column ≤ n + 1

one_more : (p : Place) (n b : ℕ) → IsNear p n → IsNear (place_after p b) (suc n)
one_more p n b h = pick (is_line_end b)
  where
    pick : (t : Bool) → IsNear (if t then record { line = suc p.line; column = 1 } else record { line = p.line; column = suc p.column }) (suc n)
    pick true = let to = h.line_to in record { line_from = omega arith; line_to = omega (arith, to); column_from = omega arith; column_to = omega arith }
    pick false =
        let from = h.line_from in
        let to = h.line_to in
        let ends = h.column_to in record { line_from = from; line_to = omega (arith, to); column_from = omega arith; column_to = omega (arith, ends) }

bytes_after : (bytes : List ℕ) (p : Place) (n : ℕ) → IsNear p n → IsNear (fold place_after p bytes) (n + length bytes)
bytes_after [] p n h = subst (IsNear p) (omega arith) h
bytes_after (b ∷ bytes) p n h = subst (IsNear (fold place_after (place_after p b) bytes)) (omega arith) (bytes_after bytes (place_after p b) (suc n) (one_more p n b h))

take_few : (n : ℕ) (bytes : List ℕ) → length (take n bytes) ≤ length bytes
take_few zero bytes = omega arith
take_few (suc n) [] = omega arith
take_few (suc n) (b ∷ bytes) = let ih = take_few n bytes in omega (arith, ih)

place_is : (text : List ℕ) → suc (length text) < 2 ^ 32 → (at : ℕ) → IsPlace (place_at text at)
place_is text small at =
    let first : IsNear first_place 0 = record { line_from = omega arith; line_to = omega arith; column_from = omega arith; column_to = omega arith } in
    let near = bytes_after (take at text) first_place 0 first in
    let few = take_few at text in
    let a = near.line_from in
    let b = near.line_to in
    let c = near.column_from in
    let d = near.column_to in ((a, omega (arith, b, few, small)), (c, omega (arith, d, few, small)))

pub cuts_places : {text : List ℕ} {ts : List Token} {names : List (List ℕ)} {at : ℕ} → suc (length text) < 2 ^ 32 → Cuts text ts names at →
    AllByRecursion (λ (t : Token). IsPlace t.place) ts
cuts_places small begins = tt
cuts_places small (skips n c x) = cuts_places small c
cuts_places {text} small (takes {tokens = ts} {at = at} p n k c x e) =
    all_append (λ (t : Token). IsPlace t.place) ts (token_at text at n k ∷ []) (cuts_places small c) (place_is text small at, tt)
