-- Each reserved word and each mark: its first byte, its place in the table, and that its spelling gives it back.
use Rattle.std.proofs.Common.{◌≡◌, ℕ, true, false, List, [], ◌∷◌, length, Some, refl, inl, inr, arith}
use Rattle.forec_tree.specs.declared.token.Word.{Word}
use Rattle.forec_tree.specs.declared.token.Word.TheVariants as reserved
use Rattle.forec_tree.specs.declared.token.Mark.{Mark}
use Rattle.forec_tree.specs.declared.token.Mark.TheVariants as sign
use Rattle.forec_tree.specs.Lexis.{is_space, is_letter, is_digit, continues_name, Each, letters_of, spelling}
use Rattle.forec_lexer.specs.Reading.{words, word_in, marks, mark_ahead}
use Rattle.forec_lexer.proofs.Tables.{Among, AmongWords, IsSorted}

-- ---- words

pub word_first : (w : Word) (b : ℕ) (bs : List ℕ) → b ∷ bs ≡ letters_of w → is_letter b ≡ true
word_first reserved.Int b bs f = let e : b ≡ 105 = cc in rw e
word_first reserved.Void b bs f = let e : b ≡ 118 = cc in rw e
word_first reserved.Const b bs f = let e : b ≡ 99 = cc in rw e
word_first reserved.Input b bs f = let e : b ≡ 105 = cc in rw e
word_first reserved.Output b bs f = let e : b ≡ 111 = cc in rw e
word_first reserved.Shared b bs f = let e : b ≡ 115 = cc in rw e
word_first reserved.Combine b bs f = let e : b ≡ 99 = cc in rw e
word_first reserved.All b bs f = let e : b ≡ 97 = cc in rw e
word_first reserved.New b bs f = let e : b ≡ 110 = cc in rw e
word_first reserved.Mod b bs f = let e : b ≡ 109 = cc in rw e
word_first reserved.With b bs f = let e : b ≡ 119 = cc in rw e
word_first reserved.Par b bs f = let e : b ≡ 112 = cc in rw e
word_first reserved.Pause b bs f = let e : b ≡ 112 = cc in rw e
word_first reserved.Weak b bs f = let e : b ≡ 119 = cc in rw e
word_first reserved.Abort b bs f = let e : b ≡ 97 = cc in rw e
word_first reserved.Immediate b bs f = let e : b ≡ 105 = cc in rw e
word_first reserved.When b bs f = let e : b ≡ 119 = cc in rw e
word_first reserved.If b bs f = let e : b ≡ 105 = cc in rw e
word_first reserved.Else b bs f = let e : b ≡ 101 = cc in rw e
word_first reserved.While b bs f = let e : b ≡ 119 = cc in rw e
word_first reserved.For b bs f = let e : b ≡ 102 = cc in rw e
word_first reserved.Return b bs f = let e : b ≡ 114 = cc in rw e

pub word_some : (w : Word) → [] ≡ letters_of w → ⊥
word_some reserved.Int f = cc
word_some reserved.Void f = cc
word_some reserved.Const f = cc
word_some reserved.Input f = cc
word_some reserved.Output f = cc
word_some reserved.Shared f = cc
word_some reserved.Combine f = cc
word_some reserved.All f = cc
word_some reserved.New f = cc
word_some reserved.Mod f = cc
word_some reserved.With f = cc
word_some reserved.Par f = cc
word_some reserved.Pause f = cc
word_some reserved.Weak f = cc
word_some reserved.Abort f = cc
word_some reserved.Immediate f = cc
word_some reserved.When f = cc
word_some reserved.If f = cc
word_some reserved.Else f = cc
word_some reserved.While f = cc
word_some reserved.For f = cc
word_some reserved.Return f = cc

pub word_goes_on : (w : Word) → Each continues_name (letters_of w)
word_goes_on reserved.Int = (refl, (refl, (refl, tt)))
word_goes_on reserved.Void = (refl, (refl, (refl, (refl, tt))))
word_goes_on reserved.Const = (refl, (refl, (refl, (refl, (refl, tt)))))
word_goes_on reserved.Input = (refl, (refl, (refl, (refl, (refl, tt)))))
word_goes_on reserved.Output = (refl, (refl, (refl, (refl, (refl, (refl, tt))))))
word_goes_on reserved.Shared = (refl, (refl, (refl, (refl, (refl, (refl, tt))))))
word_goes_on reserved.Combine = (refl, (refl, (refl, (refl, (refl, (refl, (refl, tt)))))))
word_goes_on reserved.All = (refl, (refl, (refl, tt)))
word_goes_on reserved.New = (refl, (refl, (refl, tt)))
word_goes_on reserved.Mod = (refl, (refl, (refl, tt)))
word_goes_on reserved.With = (refl, (refl, (refl, (refl, tt))))
word_goes_on reserved.Par = (refl, (refl, (refl, tt)))
word_goes_on reserved.Pause = (refl, (refl, (refl, (refl, (refl, tt)))))
word_goes_on reserved.Weak = (refl, (refl, (refl, (refl, tt))))
word_goes_on reserved.Abort = (refl, (refl, (refl, (refl, (refl, tt)))))
word_goes_on reserved.Immediate = (refl, (refl, (refl, (refl, (refl, (refl, (refl, (refl, (refl, tt)))))))))
word_goes_on reserved.When = (refl, (refl, (refl, (refl, tt))))
word_goes_on reserved.If = (refl, (refl, tt))
word_goes_on reserved.Else = (refl, (refl, (refl, (refl, tt))))
word_goes_on reserved.While = (refl, (refl, (refl, (refl, (refl, tt)))))
word_goes_on reserved.For = (refl, (refl, (refl, tt)))
word_goes_on reserved.Return = (refl, (refl, (refl, (refl, (refl, (refl, tt))))))

pub word_among : (w : Word) → AmongWords w words
word_among reserved.Int = inl refl
word_among reserved.Void = inr (inl refl)
word_among reserved.Const = inr (inr (inl refl))
word_among reserved.Input = inr (inr (inr (inl refl)))
word_among reserved.Output = inr (inr (inr (inr (inl refl))))
word_among reserved.Shared = inr (inr (inr (inr (inr (inl refl)))))
word_among reserved.Combine = inr (inr (inr (inr (inr (inr (inl refl))))))
word_among reserved.All = inr (inr (inr (inr (inr (inr (inr (inl refl)))))))
word_among reserved.New = inr (inr (inr (inr (inr (inr (inr (inr (inl refl))))))))
word_among reserved.Mod = inr (inr (inr (inr (inr (inr (inr (inr (inr (inl refl)))))))))
word_among reserved.With = inr (inr (inr (inr (inr (inr (inr (inr (inr (inr (inl refl))))))))))
word_among reserved.Par = inr (inr (inr (inr (inr (inr (inr (inr (inr (inr (inr (inl refl)))))))))))
word_among reserved.Pause = inr (inr (inr (inr (inr (inr (inr (inr (inr (inr (inr (inr (inl refl))))))))))))
word_among reserved.Weak = inr (inr (inr (inr (inr (inr (inr (inr (inr (inr (inr (inr (inr (inl refl)))))))))))))
word_among reserved.Abort = inr (inr (inr (inr (inr (inr (inr (inr (inr (inr (inr (inr (inr (inr (inl refl))))))))))))))
word_among reserved.Immediate = inr (inr (inr (inr (inr (inr (inr (inr (inr (inr (inr (inr (inr (inr (inr (inl refl)))))))))))))))
word_among reserved.When = inr (inr (inr (inr (inr (inr (inr (inr (inr (inr (inr (inr (inr (inr (inr (inr (inl refl))))))))))))))))
word_among reserved.If = inr (inr (inr (inr (inr (inr (inr (inr (inr (inr (inr (inr (inr (inr (inr (inr (inr (inl refl)))))))))))))))))
word_among reserved.Else = inr (inr (inr (inr (inr (inr (inr (inr (inr (inr (inr (inr (inr (inr (inr (inr (inr (inr (inl refl))))))))))))))))))
word_among reserved.While = inr (inr (inr (inr (inr (inr (inr (inr (inr (inr (inr (inr (inr (inr (inr (inr (inr (inr (inr (inl refl)))))))))))))))))))
word_among reserved.For = inr (inr (inr (inr (inr (inr (inr (inr (inr (inr (inr (inr (inr (inr (inr (inr (inr (inr (inr (inr (inl refl))))))))))))))))))))
word_among reserved.Return = inr (inr (inr (inr (inr (inr (inr (inr (inr (inr (inr (inr (inr (inr (inr (inr (inr (inr (inr (inr (inr (inl refl)))))))))))))))))))))

-- each spelling gives its word back, so no two are the same
pub word_back : (w : Word) → word_in words (letters_of w) ≡ Some w
unfolding word_in
word_back reserved.Int = refl
word_back reserved.Void = refl
word_back reserved.Const = refl
word_back reserved.Input = refl
word_back reserved.Output = refl
word_back reserved.Shared = refl
word_back reserved.Combine = refl
word_back reserved.All = refl
word_back reserved.New = refl
word_back reserved.Mod = refl
word_back reserved.With = refl
word_back reserved.Par = refl
word_back reserved.Pause = refl
word_back reserved.Weak = refl
word_back reserved.Abort = refl
word_back reserved.Immediate = refl
word_back reserved.When = refl
word_back reserved.If = refl
word_back reserved.Else = refl
word_back reserved.While = refl
word_back reserved.For = refl
word_back reserved.Return = refl

-- ---- marks

pub record NoRun (b : ℕ) : Type 0 where
  pub space : is_space b ≡ false
  pub letter : is_letter b ≡ false
  pub digit : is_digit b ≡ false

pub mark_first : (m : Mark) (b : ℕ) (bs : List ℕ) → b ∷ bs ≡ spelling m → NoRun b
mark_first sign.ShlAssign b bs f = let e : b ≡ 60 = cc in record { space = rw e; letter = rw e; digit = rw e }
mark_first sign.ShrAssign b bs f = let e : b ≡ 62 = cc in record { space = rw e; letter = rw e; digit = rw e }
mark_first sign.AddAssign b bs f = let e : b ≡ 43 = cc in record { space = rw e; letter = rw e; digit = rw e }
mark_first sign.SubAssign b bs f = let e : b ≡ 45 = cc in record { space = rw e; letter = rw e; digit = rw e }
mark_first sign.MulAssign b bs f = let e : b ≡ 42 = cc in record { space = rw e; letter = rw e; digit = rw e }
mark_first sign.DivAssign b bs f = let e : b ≡ 47 = cc in record { space = rw e; letter = rw e; digit = rw e }
mark_first sign.RemAssign b bs f = let e : b ≡ 37 = cc in record { space = rw e; letter = rw e; digit = rw e }
mark_first sign.AndAssign b bs f = let e : b ≡ 38 = cc in record { space = rw e; letter = rw e; digit = rw e }
mark_first sign.OrAssign b bs f = let e : b ≡ 124 = cc in record { space = rw e; letter = rw e; digit = rw e }
mark_first sign.XorAssign b bs f = let e : b ≡ 94 = cc in record { space = rw e; letter = rw e; digit = rw e }
mark_first sign.Shl b bs f = let e : b ≡ 60 = cc in record { space = rw e; letter = rw e; digit = rw e }
mark_first sign.Shr b bs f = let e : b ≡ 62 = cc in record { space = rw e; letter = rw e; digit = rw e }
mark_first sign.LessEqual b bs f = let e : b ≡ 60 = cc in record { space = rw e; letter = rw e; digit = rw e }
mark_first sign.GreaterEqual b bs f = let e : b ≡ 62 = cc in record { space = rw e; letter = rw e; digit = rw e }
mark_first sign.Equal b bs f = let e : b ≡ 61 = cc in record { space = rw e; letter = rw e; digit = rw e }
mark_first sign.NotEqual b bs f = let e : b ≡ 33 = cc in record { space = rw e; letter = rw e; digit = rw e }
mark_first sign.AndAnd b bs f = let e : b ≡ 38 = cc in record { space = rw e; letter = rw e; digit = rw e }
mark_first sign.OrOr b bs f = let e : b ≡ 124 = cc in record { space = rw e; letter = rw e; digit = rw e }
mark_first sign.PlusPlus b bs f = let e : b ≡ 43 = cc in record { space = rw e; letter = rw e; digit = rw e }
mark_first sign.MinusMinus b bs f = let e : b ≡ 45 = cc in record { space = rw e; letter = rw e; digit = rw e }
mark_first sign.Plus b bs f = let e : b ≡ 43 = cc in record { space = rw e; letter = rw e; digit = rw e }
mark_first sign.Minus b bs f = let e : b ≡ 45 = cc in record { space = rw e; letter = rw e; digit = rw e }
mark_first sign.Star b bs f = let e : b ≡ 42 = cc in record { space = rw e; letter = rw e; digit = rw e }
mark_first sign.Slash b bs f = let e : b ≡ 47 = cc in record { space = rw e; letter = rw e; digit = rw e }
mark_first sign.Percent b bs f = let e : b ≡ 37 = cc in record { space = rw e; letter = rw e; digit = rw e }
mark_first sign.Ampersand b bs f = let e : b ≡ 38 = cc in record { space = rw e; letter = rw e; digit = rw e }
mark_first sign.Bar b bs f = let e : b ≡ 124 = cc in record { space = rw e; letter = rw e; digit = rw e }
mark_first sign.Caret b bs f = let e : b ≡ 94 = cc in record { space = rw e; letter = rw e; digit = rw e }
mark_first sign.Tilde b bs f = let e : b ≡ 126 = cc in record { space = rw e; letter = rw e; digit = rw e }
mark_first sign.Bang b bs f = let e : b ≡ 33 = cc in record { space = rw e; letter = rw e; digit = rw e }
mark_first sign.Less b bs f = let e : b ≡ 60 = cc in record { space = rw e; letter = rw e; digit = rw e }
mark_first sign.Greater b bs f = let e : b ≡ 62 = cc in record { space = rw e; letter = rw e; digit = rw e }
mark_first sign.Assign b bs f = let e : b ≡ 61 = cc in record { space = rw e; letter = rw e; digit = rw e }
mark_first sign.Question b bs f = let e : b ≡ 63 = cc in record { space = rw e; letter = rw e; digit = rw e }
mark_first sign.Colon b bs f = let e : b ≡ 58 = cc in record { space = rw e; letter = rw e; digit = rw e }
mark_first sign.Semicolon b bs f = let e : b ≡ 59 = cc in record { space = rw e; letter = rw e; digit = rw e }
mark_first sign.Comma b bs f = let e : b ≡ 44 = cc in record { space = rw e; letter = rw e; digit = rw e }
mark_first sign.LeftRound b bs f = let e : b ≡ 40 = cc in record { space = rw e; letter = rw e; digit = rw e }
mark_first sign.RightRound b bs f = let e : b ≡ 41 = cc in record { space = rw e; letter = rw e; digit = rw e }
mark_first sign.LeftCurly b bs f = let e : b ≡ 123 = cc in record { space = rw e; letter = rw e; digit = rw e }
mark_first sign.RightCurly b bs f = let e : b ≡ 125 = cc in record { space = rw e; letter = rw e; digit = rw e }
mark_first sign.LeftSquare b bs f = let e : b ≡ 91 = cc in record { space = rw e; letter = rw e; digit = rw e }
mark_first sign.RightSquare b bs f = let e : b ≡ 93 = cc in record { space = rw e; letter = rw e; digit = rw e }
mark_first sign.Hash b bs f = let e : b ≡ 35 = cc in record { space = rw e; letter = rw e; digit = rw e }

pub mark_some : (m : Mark) → [] ≡ spelling m → ⊥
mark_some sign.ShlAssign f = cc
mark_some sign.ShrAssign f = cc
mark_some sign.AddAssign f = cc
mark_some sign.SubAssign f = cc
mark_some sign.MulAssign f = cc
mark_some sign.DivAssign f = cc
mark_some sign.RemAssign f = cc
mark_some sign.AndAssign f = cc
mark_some sign.OrAssign f = cc
mark_some sign.XorAssign f = cc
mark_some sign.Shl f = cc
mark_some sign.Shr f = cc
mark_some sign.LessEqual f = cc
mark_some sign.GreaterEqual f = cc
mark_some sign.Equal f = cc
mark_some sign.NotEqual f = cc
mark_some sign.AndAnd f = cc
mark_some sign.OrOr f = cc
mark_some sign.PlusPlus f = cc
mark_some sign.MinusMinus f = cc
mark_some sign.Plus f = cc
mark_some sign.Minus f = cc
mark_some sign.Star f = cc
mark_some sign.Slash f = cc
mark_some sign.Percent f = cc
mark_some sign.Ampersand f = cc
mark_some sign.Bar f = cc
mark_some sign.Caret f = cc
mark_some sign.Tilde f = cc
mark_some sign.Bang f = cc
mark_some sign.Less f = cc
mark_some sign.Greater f = cc
mark_some sign.Assign f = cc
mark_some sign.Question f = cc
mark_some sign.Colon f = cc
mark_some sign.Semicolon f = cc
mark_some sign.Comma f = cc
mark_some sign.LeftRound f = cc
mark_some sign.RightRound f = cc
mark_some sign.LeftCurly f = cc
mark_some sign.RightCurly f = cc
mark_some sign.LeftSquare f = cc
mark_some sign.RightSquare f = cc
mark_some sign.Hash f = cc

pub mark_among : (m : Mark) → Among m marks
mark_among sign.ShlAssign = inl refl
mark_among sign.ShrAssign = inr (inl refl)
mark_among sign.AddAssign = inr (inr (inl refl))
mark_among sign.SubAssign = inr (inr (inr (inl refl)))
mark_among sign.MulAssign = inr (inr (inr (inr (inl refl))))
mark_among sign.DivAssign = inr (inr (inr (inr (inr (inl refl)))))
mark_among sign.RemAssign = inr (inr (inr (inr (inr (inr (inl refl))))))
mark_among sign.AndAssign = inr (inr (inr (inr (inr (inr (inr (inl refl)))))))
mark_among sign.OrAssign = inr (inr (inr (inr (inr (inr (inr (inr (inl refl))))))))
mark_among sign.XorAssign = inr (inr (inr (inr (inr (inr (inr (inr (inr (inl refl)))))))))
mark_among sign.Shl = inr (inr (inr (inr (inr (inr (inr (inr (inr (inr (inl refl))))))))))
mark_among sign.Shr = inr (inr (inr (inr (inr (inr (inr (inr (inr (inr (inr (inl refl)))))))))))
mark_among sign.LessEqual = inr (inr (inr (inr (inr (inr (inr (inr (inr (inr (inr (inr (inl refl))))))))))))
mark_among sign.GreaterEqual = inr (inr (inr (inr (inr (inr (inr (inr (inr (inr (inr (inr (inr (inl refl)))))))))))))
mark_among sign.Equal = inr (inr (inr (inr (inr (inr (inr (inr (inr (inr (inr (inr (inr (inr (inl refl))))))))))))))
mark_among sign.NotEqual = inr (inr (inr (inr (inr (inr (inr (inr (inr (inr (inr (inr (inr (inr (inr (inl refl)))))))))))))))
mark_among sign.AndAnd = inr (inr (inr (inr (inr (inr (inr (inr (inr (inr (inr (inr (inr (inr (inr (inr (inl refl))))))))))))))))
mark_among sign.OrOr = inr (inr (inr (inr (inr (inr (inr (inr (inr (inr (inr (inr (inr (inr (inr (inr (inr (inl refl)))))))))))))))))
mark_among sign.PlusPlus = inr (inr (inr (inr (inr (inr (inr (inr (inr (inr (inr (inr (inr (inr (inr (inr (inr (inr (inl refl))))))))))))))))))
mark_among sign.MinusMinus = inr (inr (inr (inr (inr (inr (inr (inr (inr (inr (inr (inr (inr (inr (inr (inr (inr (inr (inr (inl refl)))))))))))))))))))
mark_among sign.Plus = inr (inr (inr (inr (inr (inr (inr (inr (inr (inr (inr (inr (inr (inr (inr (inr (inr (inr (inr (inr (inl refl))))))))))))))))))))
mark_among sign.Minus = inr (inr (inr (inr (inr (inr (inr (inr (inr (inr (inr (inr (inr (inr (inr (inr (inr (inr (inr (inr (inr (inl refl)))))))))))))))))))))
mark_among sign.Star = inr (inr (inr (inr (inr (inr (inr (inr (inr (inr (inr (inr (inr (inr (inr (inr (inr (inr (inr (inr (inr (inr (inl refl))))))))))))))))))))))
mark_among sign.Slash = inr (inr (inr (inr (inr (inr (inr (inr (inr (inr (inr (inr (inr (inr (inr (inr (inr (inr (inr (inr (inr (inr (inr (inl refl)))))))))))))))))))))))
mark_among sign.Percent = inr (inr (inr (inr (inr (inr (inr (inr (inr (inr (inr (inr (inr (inr (inr (inr (inr (inr (inr (inr (inr (inr (inr (inr (inl refl))))))))))))))))))))))))
mark_among sign.Ampersand = inr (inr (inr (inr (inr (inr (inr (inr (inr (inr (inr (inr (inr (inr (inr (inr (inr (inr (inr (inr (inr (inr (inr (inr (inr (inl refl)))))))))))))))))))))))))
mark_among sign.Bar = inr (inr (inr (inr (inr (inr (inr (inr (inr (inr (inr (inr (inr (inr (inr (inr (inr (inr (inr (inr (inr (inr (inr (inr (inr (inr (inl refl))))))))))))))))))))))))))
mark_among sign.Caret = inr (inr (inr (inr (inr (inr (inr (inr (inr (inr (inr (inr (inr (inr (inr (inr (inr (inr (inr (inr (inr (inr (inr (inr (inr (inr (inr (inl refl)))))))))))))))))))))))))))
mark_among sign.Tilde = inr (inr (inr (inr (inr (inr (inr (inr (inr (inr (inr (inr (inr (inr (inr (inr (inr (inr (inr (inr (inr (inr (inr (inr (inr (inr (inr (inr (inl refl))))))))))))))))))))))))))))
mark_among sign.Bang = inr (inr (inr (inr (inr (inr (inr (inr (inr (inr (inr (inr (inr (inr (inr (inr (inr (inr (inr (inr (inr (inr (inr (inr (inr (inr (inr (inr (inr (inl refl)))))))))))))))))))))))))))))
mark_among sign.Less = inr (inr (inr (inr (inr (inr (inr (inr (inr (inr (inr (inr (inr (inr (inr (inr (inr (inr (inr (inr (inr (inr (inr (inr (inr (inr (inr (inr (inr (inr (inl refl))))))))))))))))))))))))))))))
mark_among sign.Greater = inr (inr (inr (inr (inr (inr (inr (inr (inr (inr (inr (inr (inr (inr (inr (inr (inr (inr (inr (inr (inr (inr (inr (inr (inr (inr (inr (inr (inr (inr (inr (inl refl)))))))))))))))))))))))))))))))
mark_among sign.Assign = inr (inr (inr (inr (inr (inr (inr (inr (inr (inr (inr (inr (inr (inr (inr (inr (inr (inr (inr (inr (inr (inr (inr (inr (inr (inr (inr (inr (inr (inr (inr (inr (inl refl))))))))))))))))))))))))))))))))
mark_among sign.Question = inr (inr (inr (inr (inr (inr (inr (inr (inr (inr (inr (inr (inr (inr (inr (inr (inr (inr (inr (inr (inr (inr (inr (inr (inr (inr (inr (inr (inr (inr (inr (inr (inr (inl refl)))))))))))))))))))))))))))))))))
mark_among sign.Colon = inr (inr (inr (inr (inr (inr (inr (inr (inr (inr (inr (inr (inr (inr (inr (inr (inr (inr (inr (inr (inr (inr (inr (inr (inr (inr (inr (inr (inr (inr (inr (inr (inr (inr (inl refl))))))))))))))))))))))))))))))))))
mark_among sign.Semicolon = inr (inr (inr (inr (inr (inr (inr (inr (inr (inr (inr (inr (inr (inr (inr (inr (inr (inr (inr (inr (inr (inr (inr (inr (inr (inr (inr (inr (inr (inr (inr (inr (inr (inr (inr (inl refl)))))))))))))))))))))))))))))))))))
mark_among sign.Comma = inr (inr (inr (inr (inr (inr (inr (inr (inr (inr (inr (inr (inr (inr (inr (inr (inr (inr (inr (inr (inr (inr (inr (inr (inr (inr (inr (inr (inr (inr (inr (inr (inr (inr (inr (inr (inl refl))))))))))))))))))))))))))))))))))))
mark_among sign.LeftRound = inr (inr (inr (inr (inr (inr (inr (inr (inr (inr (inr (inr (inr (inr (inr (inr (inr (inr (inr (inr (inr (inr (inr (inr (inr (inr (inr (inr (inr (inr (inr (inr (inr (inr (inr (inr (inr (inl refl)))))))))))))))))))))))))))))))))))))
mark_among sign.RightRound = inr (inr (inr (inr (inr (inr (inr (inr (inr (inr (inr (inr (inr (inr (inr (inr (inr (inr (inr (inr (inr (inr (inr (inr (inr (inr (inr (inr (inr (inr (inr (inr (inr (inr (inr (inr (inr (inr (inl refl))))))))))))))))))))))))))))))))))))))
mark_among sign.LeftCurly = inr (inr (inr (inr (inr (inr (inr (inr (inr (inr (inr (inr (inr (inr (inr (inr (inr (inr (inr (inr (inr (inr (inr (inr (inr (inr (inr (inr (inr (inr (inr (inr (inr (inr (inr (inr (inr (inr (inr (inl refl)))))))))))))))))))))))))))))))))))))))
mark_among sign.RightCurly = inr (inr (inr (inr (inr (inr (inr (inr (inr (inr (inr (inr (inr (inr (inr (inr (inr (inr (inr (inr (inr (inr (inr (inr (inr (inr (inr (inr (inr (inr (inr (inr (inr (inr (inr (inr (inr (inr (inr (inr (inl refl))))))))))))))))))))))))))))))))))))))))
mark_among sign.LeftSquare = inr (inr (inr (inr (inr (inr (inr (inr (inr (inr (inr (inr (inr (inr (inr (inr (inr (inr (inr (inr (inr (inr (inr (inr (inr (inr (inr (inr (inr (inr (inr (inr (inr (inr (inr (inr (inr (inr (inr (inr (inr (inl refl)))))))))))))))))))))))))))))))))))))))))
mark_among sign.RightSquare = inr (inr (inr (inr (inr (inr (inr (inr (inr (inr (inr (inr (inr (inr (inr (inr (inr (inr (inr (inr (inr (inr (inr (inr (inr (inr (inr (inr (inr (inr (inr (inr (inr (inr (inr (inr (inr (inr (inr (inr (inr (inr (inl refl))))))))))))))))))))))))))))))))))))))))))
mark_among sign.Hash = inr (inr (inr (inr (inr (inr (inr (inr (inr (inr (inr (inr (inr (inr (inr (inr (inr (inr (inr (inr (inr (inr (inr (inr (inr (inr (inr (inr (inr (inr (inr (inr (inr (inr (inr (inr (inr (inr (inr (inr (inr (inr (inr (inl refl)))))))))))))))))))))))))))))))))))))))))))

pub marks_sorted : IsSorted marks
marks_sorted = grind arith

pub mark_back : (m : Mark) → mark_ahead marks (spelling m) ≡ Some (m, length (spelling m))
unfolding mark_ahead
mark_back sign.ShlAssign = refl
mark_back sign.ShrAssign = refl
mark_back sign.AddAssign = refl
mark_back sign.SubAssign = refl
mark_back sign.MulAssign = refl
mark_back sign.DivAssign = refl
mark_back sign.RemAssign = refl
mark_back sign.AndAssign = refl
mark_back sign.OrAssign = refl
mark_back sign.XorAssign = refl
mark_back sign.Shl = refl
mark_back sign.Shr = refl
mark_back sign.LessEqual = refl
mark_back sign.GreaterEqual = refl
mark_back sign.Equal = refl
mark_back sign.NotEqual = refl
mark_back sign.AndAnd = refl
mark_back sign.OrOr = refl
mark_back sign.PlusPlus = refl
mark_back sign.MinusMinus = refl
mark_back sign.Plus = refl
mark_back sign.Minus = refl
mark_back sign.Star = refl
mark_back sign.Slash = refl
mark_back sign.Percent = refl
mark_back sign.Ampersand = refl
mark_back sign.Bar = refl
mark_back sign.Caret = refl
mark_back sign.Tilde = refl
mark_back sign.Bang = refl
mark_back sign.Less = refl
mark_back sign.Greater = refl
mark_back sign.Assign = refl
mark_back sign.Question = refl
mark_back sign.Colon = refl
mark_back sign.Semicolon = refl
mark_back sign.Comma = refl
mark_back sign.LeftRound = refl
mark_back sign.RightRound = refl
mark_back sign.LeftCurly = refl
mark_back sign.RightCurly = refl
mark_back sign.LeftSquare = refl
mark_back sign.RightSquare = refl
mark_back sign.Hash = refl
