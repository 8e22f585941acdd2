-- Where a text stops to be the front of a program: its viable prefixes, as in Aho, Sethi and Ullman, "Compilers", on the viable-prefix property.
use Rattle.std.specs.Prelude.{◌≡◌, ◌≤◌, ◌<◌, ℕ, suc, ◌+◌, List, [], ◌∷◌, ◌++◌, length, take}
use Rattle.forec_tree.specs.declared.token.Token.{Token}
use Rattle.forec_tree.specs.Terms.{Text}
use Rattle.forec_tree.specs.Spelling.{Spelt, at, tokens, IsWithin}
use Rattle.forec_tree.specs.SpelledPrograms.{Programs, IsSpelled}

-- A program of any level begins with these tokens.
pub record IsFront (ts : List Token) : Type 0 where
  pub program : Text
  pub front : List Spelt
  pub after : List Spelt
  pub spells : Programs program 0 (front ++ after)
  pub are : tokens front ≡ ts

-- The same, and none of these tokens opens a level above the limit.
pub record IsFrontWithin (limit : ℕ) (ts : List Token) : Type 0 where
  pub program : Text
  pub front : List Spelt
  pub after : List Spelt
  pub spells : Programs program 0 (front ++ after)
  pub are : tokens front ≡ ts
  pub within : IsWithin limit front

-- A program of any level begins with these tokens, and the last of them is the first that opens a level above the limit.
pub record OpensAbove (limit : ℕ) (ts : List Token) : Type 0 where
  pub program : Text
  pub front : List Spelt
  pub token : Token
  pub after : List Spelt
  pub spells : Programs program 0 (front ++ (at token (limit + 1) ∷ after))
  pub are : tokens front ++ (token ∷ []) ≡ ts
  pub within : IsWithin limit front

-- ---- where a text is refused; tokens are counted from 0

-- At this token the text stops to be a program: those before it are a front within the limit, and those up to it are
-- a front of no program of any level. After the last token: no program of any level has all of them.
pub record StopsAt (limit : ℕ) (ts : List Token) (n : ℕ) : Type 0 where
  pub among : n ≤ length ts
  pub front : IsFrontWithin limit (take n ts)
  pub breaks : n < length ts → IsFront (take (suc n) ts) → ⊥
  pub unspelled : n ≡ length ts → (level : ℕ) (program : Text) → IsSpelled level program ts → ⊥

-- This token is the first that opens a level above the limit: it does so in a program that begins with the tokens up
-- to it, and in no program that begins so are they all within the limit.
pub record OpensAt (limit : ℕ) (ts : List Token) (n : ℕ) : Type 0 where
  pub among : n < length ts
  pub opens : OpensAbove limit (take (suc n) ts)
  pub always : IsFrontWithin limit (take (suc n) ts) → ⊥
