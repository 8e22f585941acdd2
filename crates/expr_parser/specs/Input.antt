-- What a parser reads from, and the steps that every rule is made of.
use Rattle.std.specs.Prelude.{◌≡◌, ◌≢◌, ℕ, suc, ◌+◌, Bool, true, false, if◌then◌else◌, nat_lt, List, [], ◌∷◌, length, Option, Some, None, Result, Ok, Err}
use Rattle.forec_tree.specs.declared.token.Token.{Token}
use Rattle.forec_tree.specs.declared.token.TokenKind.{TokenKind}
use Rattle.expr_parser.specs.declared.fault.Fault.{Fault}
use Rattle.expr_parser.specs.declared.fault.Fault.TheVariants.{Syntax, Deep, OutOfMemory}

pub record Input : Type 0 where
  -- the tokens from the next one on
  pub rest : List Token
  -- the level after the last token that was read
  pub level : ℕ

abbrev pub input : List Token → ℕ → Input
input rest level = record { rest = rest; level = level }

abbrev pub max_level : ℕ
max_level = 128

-- ---- parsers

abbrev pub Outcome : Type 0 → Type 0
Outcome A = Result (A × Input) Fault

abbrev pub Parser : Type 0 → Type 0
Parser A = Input → Outcome A

abbrev pub and_then : {A B : Type 0} → Outcome A → (A → Parser B) → Outcome B
and_then (Ok p) f = f p.0 p.1
and_then (Err e) f = Err e

infixl 10 ◌>>=◌
abbrev pub ◌>>=◌ : {A B : Type 0} → Parser A → (A → Parser B) → Parser B
p >>= f = λ i. and_then (p i) f

infixl 10 ◌>>◌
abbrev pub ◌>>◌ : {A B : Type 0} → Parser A → Parser B → Parser B
p >> q = p >>= (λ _. q)

abbrev pub pure : {A : Type 0} → A → Parser A
pure a = λ i. Ok (a, i)

abbrev pub refuse : {A : Type 0} → Parser A
refuse = λ i. Err (Syntax (length i.rest))

-- reads a part, and goes back to the level outside, where brackets, a statement or an expression of its own end
abbrev pub scoped : {A : Type 0} → Parser A → Parser A
scoped p = λ i. and_then (p i) (λ x j. Ok (x, input j.rest i.level))

abbrev pub kind_ahead : List Token → Option TokenKind
kind_ahead [] = None
kind_ahead (t ∷ ts) = Some t.kind

-- whether no token is left
abbrev pub at_end : Option TokenKind → Bool
at_end None = true
at_end (Some k) = false

abbrev pub take_from : List Token → ℕ → Outcome Token
take_from [] v = Err (Syntax 0)
take_from (t ∷ ts) v = Ok (t, input ts v)

-- takes a token that opens no level
unfoldable pub take : Parser Token
take i = take_from i.rest i.level

abbrev pub raise_from : ℕ → List Token → ℕ → Outcome Token
raise_from limit [] v = Err (Syntax 0)
raise_from limit (t ∷ ts) v = if nat_lt v limit then Ok (t, input ts (v + 1)) else Err (Deep (suc (length ts)))

-- takes a token that opens a level, up to the limit
unfoldable pub raise : ℕ → Parser Token
raise limit i = raise_from limit i.rest i.level

-- ---- what a function that reads ensures: the parser's outcome, seen by the view, unless memory fails

abbrev pub Reads : {A B : Type 0} → (A → B) → Outcome B → Result A Fault → Input → Type 0
Reads view outcome (Ok a) new = outcome ≡ Ok (view a, new)
Reads view outcome (Err e) new = e ≢ OutOfMemory → outcome ≡ Err e

-- where the tokens stand when a function that reads refuses: at the refused one, so as many are left as its fault tells
abbrev pub RefusesAt : Fault → Input → Type 0
RefusesAt (Syntax left) i = left ≡ length i.rest
RefusesAt (Deep left) i = left ≡ length i.rest
RefusesAt OutOfMemory i = Unit {0}
