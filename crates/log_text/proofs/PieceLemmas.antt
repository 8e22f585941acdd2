-- Pieces of a text, one behind the other.
use Rattle.std.proofs.Common.{◌≡◌, ℕ, zero, suc, ◌+◌, ◌<◌, ◌≤◌, List, [], ◌∷◌, ◌++◌, length, get_or, drop, refl, sym, ap, ◌∙◌, arith, add-zero, append_assoc, length-append}
use Rattle.std.proofs.lemmas.List.{length-drop, append_cancel_left, drop_more, get_or-drop}
use Rattle.log_text.specs.Pieces.{StandsTo}

pub stands_none : (bytes : List ℕ) (at : ℕ) → at ≤ length bytes → StandsTo bytes at [] at
stands_none bytes at low = record { within = low; place = sym (add-zero at); text = refl }

pub stands_more : (bytes : List ℕ) (at mid end : ℕ) (x y : List ℕ) → StandsTo bytes at x mid → StandsTo bytes mid y end → StandsTo bytes at (x ++ y) end
stands_more bytes at mid end x y p q = record {
  within = q.within;
  place = omega (arith, p.place, q.place, length-append x y);
  text = p.text ∙ (ap (λ (l : List ℕ). x ++ l) q.text ∙ sym (append_assoc x y (drop end bytes)));
}

-- a byte that stands there
pub stands_byte : (bytes : List ℕ) (at b : ℕ) → at < length bytes → get_or bytes at 0 ≡ b → StandsTo bytes at (b ∷ []) (at + 1)
stands_byte bytes at b low e = record {
  within = omega arith;
  place = refl;
  text = drop_more bytes at 0 low ∙ ap (λ (c : ℕ). c ∷ drop (at + 1) bytes) e;
}

-- what stands behind it
pub behind : (bytes : List ℕ) (at end : ℕ) (piece rest : List ℕ) → StandsTo bytes at piece end → drop at bytes ≡ piece ++ rest → drop end bytes ≡ rest
behind bytes at end piece rest p e = append_cancel_left piece (drop end bytes) rest (sym p.text ∙ e)

-- the byte of a piece that stands there
pub byte_at : (bytes : List ℕ) (at i : ℕ) (piece rest : List ℕ) → drop at bytes ≡ piece ++ rest → i < length piece → get_or bytes (at + i) 0 ≡ get_or piece i 0
byte_at bytes at i piece rest e low =
    sym (get_or-drop at bytes i 0) ∙ (ap (λ (l : List ℕ). get_or l i 0) e ∙ first_part piece rest i low)
  where
    first_part : (xs ys : List ℕ) (i : ℕ) → i < length xs → get_or (xs ++ ys) i 0 ≡ get_or xs i 0
    first_part [] ys i h = absurd (omega arith)
    first_part (x ∷ xs) ys zero h = refl
    first_part (x ∷ xs) ys (suc i) h = first_part xs ys i (omega arith)

pub room_for : (bytes : List ℕ) (at : ℕ) (piece rest : List ℕ) → at ≤ length bytes → drop at bytes ≡ piece ++ rest → at + length piece ≤ length bytes
room_for bytes at piece rest low e = omega (arith, ap (λ (l : List ℕ). length l) e, length-drop at bytes, length-append piece rest)
