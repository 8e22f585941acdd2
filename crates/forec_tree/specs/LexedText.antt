-- The tokens and the names of a whole text.
use Rattle.std.specs.Prelude.{◌≡◌, ◌↔◌, ℕ, suc, zero, ◌+◌, ◌-◌, ◌≤◌, ◌<◌, if◌then◌else◌, Option, Some, None, List, [], ◌∷◌, ◌++◌, length, take, drop, fold, slice_get}
use Rattle.std.specs.Str.{bytes_eq}
use Rattle.forec_base.specs.declared.Place.{Place}
use Rattle.forec_tree.specs.declared.token.Token.{Token}
use Rattle.forec_tree.specs.declared.token.TokenKind.{TokenKind}
use Rattle.forec_tree.specs.declared.token.TokenKind.TheVariants as kind
use Rattle.forec_tree.specs.Lexis.{Piece, blank, name, number, word, mark, NextPiece, NothingFits, is_line_end}

-- ---- places

-- the place after a byte
abbrev pub place_after : Place → ℕ → Place
place_after p b = if is_line_end b then record { line = suc p.line; column = 1 } else record { line = p.line; column = suc p.column }

abbrev pub first_place : Place
first_place = record { line = 1; column = 1 }

-- the place of a byte of the text
abbrev pub place_at : List ℕ → ℕ → Place
place_at text at = fold place_after first_place (take at text)

-- ---- names, in the order of their first use

-- the number of a name: its place among the names, and after all of them where it is new
abbrev pub name_number : List (List ℕ) → List ℕ → ℕ
name_number [] spelt = 0
name_number (n ∷ ns) spelt = if bytes_eq spelt n then 0 else suc (name_number ns spelt)

-- the names once this one is used: it comes last where it is new
abbrev pub with_spelt_name : List (List ℕ) → List ℕ → List (List ℕ)
with_spelt_name [] spelt = spelt ∷ []
with_spelt_name (n ∷ ns) spelt = if bytes_eq spelt n then n ∷ ns else n ∷ with_spelt_name ns spelt

-- the kind of token that a piece of these bytes gives
abbrev pub token_kind_of : List (List ℕ) → Piece → List ℕ → Option TokenKind
token_kind_of names blank bytes = None
token_kind_of names name bytes = Some (kind.Name (name_number names bytes))
token_kind_of names (number int) bytes = Some (kind.Number int)
token_kind_of names (word w) bytes = Some (kind.Word w)
token_kind_of names (mark m) bytes = Some (kind.Mark m)

abbrev pub names_after : List (List ℕ) → Piece → List ℕ → List (List ℕ)
names_after names name bytes = with_spelt_name names bytes
names_after names piece bytes = names

-- ---- the text

-- the token of n bytes from the byte `at` on
abbrev pub token_at : List ℕ → ℕ → ℕ → TokenKind → Token
token_at text at n k = record { kind = k; start = at; end = at + n; place = place_at text at }

-- the n bytes of the text from the byte `at` on
abbrev pub slice : List ℕ → ℕ → ℕ → List ℕ
slice text at n = take n (drop at text)

-- `Cuts text tokens names at`: the front of the text up to the byte `at` is cut into these tokens, with these names.
pub data Cuts (text : List ℕ) : List Token → List (List ℕ) → ℕ → Type 0 where
  begins : Cuts text [] [] zero
  skips : {tokens : List Token} {names : List (List ℕ)} {at : ℕ} (n : ℕ) → Cuts text tokens names at
      → NextPiece (drop at text) blank n
      → Cuts text tokens names (at + n)
  takes : {tokens : List Token} {names : List (List ℕ)} {at : ℕ} (piece : Piece) (n : ℕ) (k : TokenKind) → Cuts text tokens names at
      → NextPiece (drop at text) piece n → token_kind_of names piece (slice text at n) ≡ Some k
      → Cuts text (tokens ++ token_at text at n k ∷ []) (names_after names piece (slice text at n)) (at + n)

-- The lexed front of the text has these tokens and names, and ends at the byte `stop`: nothing fits there.
-- At the end of the text nothing fits either.
pub record Lexes (text : List ℕ) (tokens : List Token) (names : List (List ℕ)) (stop : ℕ) : Type 0 where
  pub cuts : Cuts text tokens names stop
  pub stops : NothingFits (drop stop text)

-- ---- the answers

abbrev pub max_tokens : ℕ
max_tokens = 200000

-- the whole text is lexed, into at most so many tokens
pub record IsLexed (text : List ℕ) (tokens : List Token) (names : List (List ℕ)) : Type 0 where
  pub lexes : Lexes text tokens names (length text)
  pub few : length tokens ≤ max_tokens

-- at most so many tokens stand before this place, at which the lexed front stops and the text goes on
pub record IsBad (text : List ℕ) (place : Place) : Type 0 where
  pub tokens : List Token
  pub names : List (List ℕ)
  pub stop : ℕ
  pub lexes : Lexes text tokens names stop
  pub few : length tokens ≤ max_tokens
  pub goes_on : stop < length text
  pub place_is : place ≡ place_at text stop

-- at this place one token more is lexed
pub record IsMany (text : List ℕ) (place : Place) : Type 0 where
  pub tokens : List Token
  pub token : Token
  pub names : List (List ℕ)
  pub at : ℕ
  pub cuts : Cuts text (tokens ++ token ∷ []) names at
  pub full : length tokens ≡ max_tokens
  pub place_is : place ≡ token.place

-- ---- what the parts above rely on

-- no two names are equal
abbrev pub AreDistinct : List (List ℕ) → Type 0
AreDistinct names = (i j : ℕ) (spelt : List ℕ) → slice_get names i ≡ Some spelt → slice_get names j ≡ Some spelt → i ≡ j

-- the bytes of a token
abbrev pub token_bytes : List ℕ → Token → List ℕ
token_bytes text token = slice text token.start (token.end - token.start)

-- a name's number is that of its spelling
abbrev pub IsSpelt : List ℕ → List (List ℕ) → Token → Type 0
IsSpelt text names token = (i : ℕ) → token.kind ≡ kind.Name i → slice_get names i ≡ Some (token_bytes text token)

-- a name's number is one of the names
abbrev pub IsNumbered : List (List ℕ) → Token → Type 0
IsNumbered names token = (i : ℕ) → token.kind ≡ kind.Name i → i < length names

-- two name tokens have one number exactly where their spelling is equal
abbrev pub NumbersSpellings : List ℕ → List Token → Type 0
NumbersSpellings text tokens =
    (a b i j : ℕ) (s t : Token) → slice_get tokens a ≡ Some s → slice_get tokens b ≡ Some t → s.kind ≡ kind.Name i → t.kind ≡ kind.Name j
    → (i ≡ j) ↔ (token_bytes text s ≡ token_bytes text t)

-- the tokens stand one after the other, from one byte of the text up to another, and none is empty
abbrev pub AreInOrder : ℕ → List Token → ℕ → Type 0
AreInOrder from [] to = from ≤ to
AreInOrder from (t ∷ ts) to = (from ≤ t.start) × (t.start < t.end) × AreInOrder t.end ts to
