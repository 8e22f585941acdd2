-- The lexis: which bytes are white space, a comment or a token, by what stands after them in the text.
use Rattle.std.specs.Prelude.{◌≡◌, ℕ, ◌+◌, ◌-◌, ◌*◌, ◌≤◌, Bool, true, not, ◌&&◌, ◌||◌, ◌==◌, nat_le, nat_lt, if◌then◌else◌, ◌⊎◌, ℤ, List, [], ◌∷◌, ◌++◌, length, take, drop, fold, codes}
use Rattle.std.specs.Int.{w32, cast_signed}
use Rattle.forec_tree.specs.declared.token.Word.{Word}
use Rattle.forec_tree.specs.declared.token.Word.TheVariants as reserved
use Rattle.forec_tree.specs.declared.token.Mark.{Mark}
use Rattle.forec_tree.specs.declared.token.Mark.TheVariants as sign

-- ---- bytes

abbrev pub is_space : ℕ → Bool
is_space b = b == 32 || (nat_le 9 b && nat_le b 13)

-- a letter or `_`
abbrev pub is_letter : ℕ → Bool
is_letter b = b == 95 || (nat_le 97 b && nat_le b 122) || (nat_le 65 b && nat_le b 90)

abbrev pub is_digit : ℕ → Bool
is_digit b = nat_le 48 b && nat_le b 57

-- a letter, `_` or a digit
abbrev pub continues_name : ℕ → Bool
continues_name b = is_letter b || is_digit b

abbrev pub is_line_end : ℕ → Bool
is_line_end b = b == 10

-- each byte passes the test
abbrev pub Each : (ℕ → Bool) → List ℕ → Type 0
Each test [] = Unit {0}
Each test (b ∷ bs) = (test b ≡ true) × Each test bs

-- the text is at its end, or its next byte passes the test
abbrev pub EndsOr : (ℕ → Bool) → List ℕ → Type 0
EndsOr test [] = Unit {0}
EndsOr test (b ∷ bs) = test b ≡ true

-- ---- spellings

abbrev pub letters_of : Word → List ℕ
letters_of reserved.Int = codes "int"
letters_of reserved.Void = codes "void"
letters_of reserved.Const = codes "const"
letters_of reserved.Input = codes "input"
letters_of reserved.Output = codes "output"
letters_of reserved.Shared = codes "shared"
letters_of reserved.Combine = codes "combine"
letters_of reserved.All = codes "all"
letters_of reserved.New = codes "new"
letters_of reserved.Mod = codes "mod"
letters_of reserved.With = codes "with"
letters_of reserved.Par = codes "par"
letters_of reserved.Pause = codes "pause"
letters_of reserved.Weak = codes "weak"
letters_of reserved.Abort = codes "abort"
letters_of reserved.Immediate = codes "immediate"
letters_of reserved.When = codes "when"
letters_of reserved.If = codes "if"
letters_of reserved.Else = codes "else"
letters_of reserved.While = codes "while"
letters_of reserved.For = codes "for"
letters_of reserved.Return = codes "return"

abbrev pub spelling : Mark → List ℕ
spelling sign.ShlAssign = codes "<<="
spelling sign.ShrAssign = codes ">>="
spelling sign.AddAssign = codes "+="
spelling sign.SubAssign = codes "-="
spelling sign.MulAssign = codes "*="
spelling sign.DivAssign = codes "/="
spelling sign.RemAssign = codes "%="
spelling sign.AndAssign = codes "&="
spelling sign.OrAssign = codes "|="
spelling sign.XorAssign = codes "^="
spelling sign.Shl = codes "<<"
spelling sign.Shr = codes ">>"
spelling sign.LessEqual = codes "<="
spelling sign.GreaterEqual = codes ">="
spelling sign.Equal = codes "=="
spelling sign.NotEqual = codes "!="
spelling sign.AndAnd = codes "&&"
spelling sign.OrOr = codes "||"
spelling sign.PlusPlus = codes "++"
spelling sign.MinusMinus = codes "--"
spelling sign.Plus = codes "+"
spelling sign.Minus = codes "-"
spelling sign.Star = codes "*"
spelling sign.Slash = codes "/"
spelling sign.Percent = codes "%"
spelling sign.Ampersand = codes "&"
spelling sign.Bar = codes "|"
spelling sign.Caret = codes "^"
spelling sign.Tilde = codes "~"
spelling sign.Bang = codes "!"
spelling sign.Less = codes "<"
spelling sign.Greater = codes ">"
spelling sign.Assign = codes "="
spelling sign.Question = codes "?"
spelling sign.Colon = codes ":"
spelling sign.Semicolon = codes ";"
spelling sign.Comma = codes ","
spelling sign.LeftRound = codes "("
spelling sign.RightRound = codes ")"
spelling sign.LeftCurly = codes "{"
spelling sign.RightCurly = codes "}"
spelling sign.LeftSquare = codes "["
spelling sign.RightSquare = codes "]"
spelling sign.Hash = codes "#"

-- ---- names

-- a letter or `_`, then letters, `_` and digits
abbrev pub IsName : List ℕ → Type 0
IsName [] = ⊥
IsName (b ∷ bs) = (is_letter b ≡ true) × Each continues_name bs

abbrev pub IsReserved : List ℕ → Type 0
IsReserved bs = (w : Word) × (bs ≡ letters_of w)

-- ---- numbers

-- the value of a digit, and 16 for a byte that is none
abbrev pub digit_of : ℕ → ℕ
digit_of b =
    if is_digit b then b - 48
    else (if nat_le 97 b && nat_le b 102 then b - 87
    else (if nat_le 65 b && nat_le b 70 then b - 55
    else 16))

abbrev pub is_digit_in : ℕ → ℕ → Bool
is_digit_in base b = nat_lt (digit_of b) base

abbrev pub value_in_base : ℕ → List ℕ → ℕ
value_in_base base digits = fold (λ value b. value * base + digit_of b) 0 digits

-- The bytes are a number of this value.
pub data IsNumber (bytes : List ℕ) (value : ℕ) : Type 0 where
  -- the first digit is 1 to 9
  decimal : (d : ℕ) (ds : List ℕ) → bytes ≡ d ∷ ds → 49 ≤ d → d ≤ 57 → Each (is_digit_in 10) ds
      → value ≡ value_in_base 10 bytes → IsNumber bytes value
  -- `0` alone too
  octal : (ds : List ℕ) → bytes ≡ codes "0" ++ ds → Each (is_digit_in 8) ds
      → value ≡ value_in_base 8 ds → IsNumber bytes value
  hexadecimal : (d : ℕ) (ds : List ℕ) → (bytes ≡ codes "0x" ++ d ∷ ds) ⊎ (bytes ≡ codes "0X" ++ d ∷ ds) → Each (is_digit_in 16) (d ∷ ds)
      → value ≡ value_in_base 16 (d ∷ ds) → IsNumber bytes value

-- the bytes are a number of at most 32 bits, and this is the `int` with the same 32 bits
pub record IsInt (bytes : List ℕ) (int : ℤ) : Type 0 where
  pub value : ℕ
  pub number : IsNumber bytes value
  pub small : value ≤ 4294967295
  pub same_bits : int ≡ cast_signed w32 value

-- ---- comments

-- the bytes end in `*/`, and hold no other one before
abbrev pub IsToClose : List ℕ → Type 0
IsToClose [] = ⊥
IsToClose (b ∷ bs) = (b ∷ bs ≡ codes "*/") ⊎ ((take 2 (b ∷ bs) ≡ codes "*/" → ⊥) × IsToClose bs)

pub data IsComment (bytes after : List ℕ) : Type 0 where
  -- from `/*` to the next `*/`
  block : (inner : List ℕ) → bytes ≡ codes "/*" ++ inner → IsToClose inner → IsComment bytes after
  -- from `//` up to the end of the line or of the text
  line : (inner : List ℕ) → bytes ≡ codes "//" ++ inner → Each (λ b. not (is_line_end b)) inner → EndsOr is_line_end after → IsComment bytes after

abbrev pub OpensComment : List ℕ → Type 0
OpensComment text = (take 2 text ≡ codes "/*") ⊎ (take 2 text ≡ codes "//")

-- ---- what fits

-- what a stretch of a text can be: a byte of white space or a comment, or a token of a kind
pub data Piece : Type 0 where
  blank : Piece
  name : Piece
  number : ℤ → Piece
  word : Word → Piece
  mark : Mark → Piece

abbrev pub IsBlank : List ℕ → List ℕ → Type 0
IsBlank bytes after = ((b : ℕ) × (is_space b ≡ true) × (bytes ≡ b ∷ [])) ⊎ IsComment bytes after

-- The bytes, with these others after them, are such a piece.
-- A number is the whole run of letters, `_` and digits; where a comment opens there is no mark, also where the comment isn't closed.
abbrev pub IsPiece : Piece → List ℕ → List ℕ → Type 0
IsPiece blank bytes after = IsBlank bytes after
IsPiece name bytes after = IsName bytes × (IsReserved bytes → ⊥)
IsPiece (number int) bytes after = IsInt bytes int × EndsOr (λ b. not (continues_name b)) after
IsPiece (word w) bytes after = bytes ≡ letters_of w
IsPiece (mark m) bytes after = (bytes ≡ spelling m) × (OpensComment (bytes ++ after) → ⊥)

-- The first n bytes of the text fit the piece.
pub record FitsAhead (text : List ℕ) (piece : Piece) (n : ℕ) : Type 0 where
  pub within : n ≤ length text
  pub fits : IsPiece piece (take n text) (drop n text)

-- The piece is the longest that fits, and has n bytes.
pub record NextPiece (text : List ℕ) (piece : Piece) (n : ℕ) : Type 0 where
  pub fits : FitsAhead text piece n
  pub longest : (other : Piece) (m : ℕ) → FitsAhead text other m → m ≤ n

abbrev pub NothingFits : List ℕ → Type 0
NothingFits text = (piece : Piece) (n : ℕ) → FitsAhead text piece n → ⊥
