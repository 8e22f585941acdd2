-- What stands at the front of a text, as the code reads it.
use Rattle.std.specs.Prelude.{ℕ, ◌+◌, ◌*◌, Bool, ◌||◌, ◌==◌, not, nat_eq, nat_le, if◌then◌else◌, List, [], ◌∷◌, length, drop, Option, Some, None, codes}
use Rattle.std.specs.Option.{option_map}
use Rattle.std.specs.Int.{w32, cast_signed}
use Rattle.std.specs.List.{take_while, starts_with}
use Rattle.std.specs.Str.{bytes_eq, IsAscii}
use Rattle.forec_tree.specs.declared.token.Word.{Word}
use Rattle.forec_tree.specs.declared.token.Word.TheVariants as reserved
use Rattle.forec_tree.specs.declared.token.Mark.{Mark}
use Rattle.forec_tree.specs.declared.token.Mark.TheVariants as sign
use Rattle.forec_tree.specs.Lexis as lexis
use Rattle.forec_tree.specs.Lexis.{letters_of, spelling, is_space, is_letter, is_digit, continues_name, is_line_end, digit_of, is_digit_in}
use Rattle.forec_lexer.specs.declared.pieces.Piece.{Piece}
use Rattle.forec_lexer.specs.declared.pieces.Piece.TheVariants as piece

-- the piece of the lexis
abbrev pub shown : Piece → lexis.Piece
shown piece.Blank = lexis.blank
shown piece.Name = lexis.name
shown (piece.Number int) = lexis.number int
shown (piece.Word w) = lexis.word w
shown (piece.Mark m) = lexis.mark m

-- a name has only bytes of text
abbrev pub IsText : Piece → List ℕ → Type 0
IsText piece.Name bytes = IsAscii bytes
IsText other bytes = Unit {0}

-- ---- words and marks

abbrev pub words : List Word
words =
    reserved.Int ∷ reserved.Void ∷ reserved.Const ∷ reserved.Input ∷ reserved.Output ∷ reserved.Shared ∷ reserved.Combine ∷ reserved.All
    ∷ reserved.New ∷ reserved.Mod ∷ reserved.With ∷ reserved.Par ∷ reserved.Pause ∷ reserved.Weak ∷ reserved.Abort ∷ reserved.Immediate
    ∷ reserved.When ∷ reserved.If ∷ reserved.Else ∷ reserved.While ∷ reserved.For ∷ reserved.Return ∷ []

unfoldable pub word_in : List Word → List ℕ → Option Word
word_in [] run = None
word_in (w ∷ ws) run = if bytes_eq run (letters_of w) then Some w else word_in ws run

abbrev pub marks : List Mark
marks =
    sign.ShlAssign ∷ sign.ShrAssign ∷ sign.AddAssign ∷ sign.SubAssign ∷ sign.MulAssign ∷ sign.DivAssign ∷ sign.RemAssign ∷ sign.AndAssign ∷ sign.OrAssign ∷ sign.XorAssign
    ∷ sign.Shl ∷ sign.Shr ∷ sign.LessEqual ∷ sign.GreaterEqual ∷ sign.Equal ∷ sign.NotEqual ∷ sign.AndAnd ∷ sign.OrOr ∷ sign.PlusPlus ∷ sign.MinusMinus
    ∷ sign.Plus ∷ sign.Minus ∷ sign.Star ∷ sign.Slash ∷ sign.Percent ∷ sign.Ampersand ∷ sign.Bar ∷ sign.Caret ∷ sign.Tilde ∷ sign.Bang
    ∷ sign.Less ∷ sign.Greater ∷ sign.Assign ∷ sign.Question ∷ sign.Colon ∷ sign.Semicolon ∷ sign.Comma ∷ sign.LeftRound ∷ sign.RightRound
    ∷ sign.LeftCurly ∷ sign.RightCurly ∷ sign.LeftSquare ∷ sign.RightSquare ∷ sign.Hash ∷ []

-- the first of these marks that begins the text, and its length
unfoldable pub mark_ahead : List Mark → List ℕ → Option (Mark × ℕ)
mark_ahead [] text = None
mark_ahead (m ∷ ms) text = if starts_with nat_eq text (spelling m) then Some (m, length (spelling m)) else mark_ahead ms text

-- ---- numbers

-- the value of more digits after those of `value`
unfoldable pub value_from : ℕ → ℕ → List ℕ → Option ℕ
value_from base value [] = Some value
value_from base value (b ∷ bs) =
    if is_digit_in base b then (if nat_le (value * base + digit_of b) 4294967295 then value_from base (value * base + digit_of b) bs else None) else None

abbrev pub hexadecimal : List ℕ → Option ℕ
hexadecimal [] = None
hexadecimal (d ∷ ds) = value_from 16 0 (d ∷ ds)

abbrev pub after_zero : List ℕ → Option ℕ
after_zero [] = value_from 8 0 []
after_zero (x ∷ ds) = if x == 120 || x == 88 then hexadecimal ds else value_from 8 0 (x ∷ ds)

abbrev pub lexed_number : List ℕ → Option ℕ
lexed_number [] = None
lexed_number (d ∷ ds) = if d == 48 then after_zero ds else value_from 10 0 (d ∷ ds)

-- ---- comments

-- how many bytes stand up to the first `*/`, with it, when n are passed
unfoldable pub close_from : ℕ → List ℕ → Option ℕ
close_from n [] = None
close_from n (b ∷ bs) = if starts_with nat_eq (b ∷ bs) (codes "*/") then Some (n + 2) else close_from (n + 1) bs

abbrev pub is_in_line : ℕ → Bool
is_in_line b = not (is_line_end b)

-- ---- the front of a text

abbrev pub run : List ℕ → List ℕ
run text = take_while continues_name text

abbrev pub word_or_name : Option Word → Piece
word_or_name None = piece.Name
word_or_name (Some w) = piece.Word w

abbrev pub letters_ahead : List ℕ → Piece × ℕ
letters_ahead text = (word_or_name (word_in words (run text)), length (run text))

abbrev pub number_ahead : List ℕ → Option (Piece × ℕ)
number_ahead text = option_map (λ value. (piece.Number (cast_signed w32 value), length (run text))) (lexed_number (run text))

abbrev pub sign_ahead : List ℕ → Option (Piece × ℕ)
sign_ahead text =
    if starts_with nat_eq text (codes "//") then Some (piece.Blank, 2 + length (take_while is_in_line (drop 2 text)))
    else (if starts_with nat_eq text (codes "/*") then option_map (λ n. (piece.Blank, 2 + n)) (close_from 0 (drop 2 text))
    else option_map (λ r. (piece.Mark r.0, r.1)) (mark_ahead marks text))

unfoldable pub piece_ahead : List ℕ → Option (Piece × ℕ)
piece_ahead [] = None
piece_ahead (b ∷ bs) =
    if is_space b then Some (piece.Blank, 1)
    else (if is_letter b then Some (letters_ahead (b ∷ bs))
    else (if is_digit b then number_ahead (b ∷ bs)
    else sign_ahead (b ∷ bs)))
