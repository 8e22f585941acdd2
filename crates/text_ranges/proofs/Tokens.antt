-- The numbers among the tokens of a text fit 32 bits. Tokens that have a property, with their levels.
use Rattle.std.proofs.Common.{◌≡◌, ℕ, suc, ◌≤◌, ◌∙◌, sym, ap, refl, subst, Some, List, [], ◌∷◌, ◌++◌, length, take, drop, ℤ, FitsSigned, w32, length-append, arith}
use Rattle.std.specs.Int.{cast_signed}
use Rattle.std.specs.List.{AllByRecursion}
use Rattle.forec_tree.specs.declared.token.Token.{Token}
use Rattle.forec_tree.specs.declared.token.TokenKind.{TokenKind}
use Rattle.forec_tree.specs.declared.token.TokenKind.TheVariants as kind
use Rattle.forec_tree.specs.Lexis.{IsPiece, Piece, blank, name, number, word, mark}
use Rattle.forec_tree.specs.LexedText.{token_kind_of, token_at, Cuts, begins, skips, takes, IsLexed}
use Rattle.forec_tree.specs.Spelling.{Spelt, tokens}
use Rattle.value_ranges.proofs.Numbers.{signed_fits}
use Rattle.value_ranges.proofs.Lists.{all_append}
use Rattle.value_ranges.specs.Properties.{Property}

-- if the token is a number, it fits
abbrev pub TokenFits : Token → Type 0
TokenFits t = (value : ℤ) → t.kind ≡ kind.Number value → FitsSigned w32 value

-- ---- the tokens of a text

piece_fits : (names : List (List ℕ)) (p : Piece) (bytes after : List ℕ) (k : TokenKind) → IsPiece p bytes after → token_kind_of names p bytes ≡ Some k →
    (value : ℤ) → k ≡ kind.Number value → FitsSigned w32 value
piece_fits names blank bytes after k f e value i = cc
piece_fits names name bytes after k f e value i = cc
piece_fits names (number int) bytes after k f e value i =
    let is = f.0.same_bits in
    let small = f.0.small in
    let same : cast_signed w32 f.0.value ≡ value = cc in subst (FitsSigned w32) same (signed_fits f.0.value (omega arith))
piece_fits names (word w) bytes after k f e value i = cc
piece_fits names (mark m) bytes after k f e value i = cc

pub cuts_fit : {text : List ℕ} {ts : List Token} {names : List (List ℕ)} {at : ℕ} → Cuts text ts names at → AllByRecursion TokenFits ts
cuts_fit begins = tt
cuts_fit (skips n c x) = cuts_fit c
cuts_fit {text} (takes {tokens = ts} {names = names} {at = at} p n k c x e) =
    all_append TokenFits ts (token_at text at n k ∷ []) (cuts_fit c)
    ((λ value i. piece_fits names p (take n (drop at text)) (drop n (drop at text)) k x.fits.fits e value i), tt)

-- ---- tokens with their levels

module _ (has : Property) where
  -- if the token is a number, the number has the property; and so has the place
  pub record TokenHolds (t : Token) : Type 0 where
    pub number : (value : ℤ) → t.kind ≡ kind.Number value → has.OfNumber value
    pub place : has.OfPlace t.place

  abbrev AllHold : List Spelt → Type 0
  AllHold = AllByRecursion (λ (s : Spelt). TokenHolds s.token)

  -- at most 200000 tokens that have it
  pub record SpeltHolds (ls : List Spelt) : Type 0 where
    pub each : AllHold ls
    pub few : length ls ≤ 200000

  each_holds : (ls : List Spelt) → AllByRecursion TokenHolds (tokens ls) → AllHold ls
  each_holds [] h = tt
  each_holds (s ∷ ls) h = (h.0, each_holds ls h.1)

  as_many : (ls : List Spelt) → length (tokens ls) ≡ length ls
  as_many [] = refl
  as_many (s ∷ ls) = ap suc (as_many ls)

  pub lexed_holds : (bytes : List ℕ) (ts : List Token) (names : List (List ℕ)) (ls : List Spelt) → IsLexed bytes ts names → tokens ls ≡ ts →
      AllByRecursion TokenHolds ts → SpeltHolds ls
  lexed_holds bytes ts names ls h e all =
      let few = h.few in
      let n : length ls ≡ length ts = sym (as_many ls) ∙ ap (λ (us : List Token). length us) e in
      record { each = each_holds ls (subst (AllByRecursion TokenHolds) (sym e) all); few = omega arith }

  -- those after the first
  pub behind : {s : Spelt} {ls : List Spelt} → SpeltHolds (s ∷ ls) → SpeltHolds ls
  behind h = let few = h.few in record { each = h.each.1; few = omega arith }

  left_hold : (ls rs : List Spelt) → AllHold (ls ++ rs) → AllHold ls
  left_hold [] rs h = tt
  left_hold (s ∷ ls) rs h = (h.0, left_hold ls rs h.1)

  right_hold : (ls rs : List Spelt) → AllHold (ls ++ rs) → AllHold rs
  right_hold [] rs h = h
  right_hold (s ∷ ls) rs h = right_hold ls rs h.1

  pub front : (ls rs : List Spelt) → SpeltHolds (ls ++ rs) → SpeltHolds ls
  front ls rs h = let few = h.few in record { each = left_hold ls rs h.each; few = omega (arith, length-append ls rs, few) }

  pub back : (ls rs : List Spelt) → SpeltHolds (ls ++ rs) → SpeltHolds rs
  back ls rs h = let few = h.few in record { each = right_hold ls rs h.each; few = omega (arith, length-append ls rs, few) }
