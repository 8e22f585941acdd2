-- What it means that tokens spell an expression.
use Rattle.std.specs.Prelude.{◌≡◌, ℕ, ℤ, ◌+◌, ◌≤◌, List, [], ◌∷◌, ◌++◌}
use Rattle.forec_base.specs.declared.Place.{Place}
use Rattle.forec_base.specs.declared.operators.Unary.{Unary}
use Rattle.forec_base.specs.declared.operators.Unary.TheVariants as un
use Rattle.forec_base.specs.declared.operators.Binary.{Binary}
use Rattle.forec_base.specs.declared.operators.Binary.TheVariants as bin
use Rattle.forec_tree.specs.declared.operators.Operator.{Operator}
use Rattle.forec_tree.specs.declared.operators.Operator.TheVariants as oper
use Rattle.forec_tree.specs.declared.token.Token.{Token}
use Rattle.forec_tree.specs.declared.token.TokenKind.TheVariants as kind
use Rattle.forec_tree.specs.declared.token.Mark.{Mark}
use Rattle.forec_tree.specs.declared.token.Mark.TheVariants as mark
use Rattle.forec_tree.specs.declared.token.Word.{Word}
use Rattle.forec_tree.specs.declared.tree.Name.{Name}
use Rattle.forec_tree.specs.Terms as plain
use Rattle.forec_tree.specs.Terms.{Term, Terms, no_terms, more_terms}

-- a token of a program, and the level after it
pub record Spelt : Type 0 where
  pub token : Token
  pub level : ℕ

abbrev pub at : Token → ℕ → Spelt
at token level = record { token = token; level = level }

abbrev pub IsMark : Mark → Token → Type 0
IsMark m t = t.kind ≡ kind.Mark m

abbrev pub IsWord : Word → Token → Type 0
IsWord w t = t.kind ≡ kind.Word w

abbrev pub IsNameToken : ℕ → Token → Type 0
IsNameToken id t = t.kind ≡ kind.Name id

abbrev pub IsNumberToken : ℤ → Token → Type 0
IsNumberToken value t = t.kind ≡ kind.Number value

abbrev pub name_at : ℕ → Place → Name
name_at id place = record { id = id; place = place }

-- ---- operators, from the loosest to the tightest; `? :` is level 1, a sign level 12, an operand level 13

abbrev pub computing_level : Binary → ℕ
computing_level bin.BitOr = 4
computing_level bin.BitXor = 5
computing_level bin.BitAnd = 6
computing_level bin.Eq = 7
computing_level bin.Ne = 7
computing_level bin.Lt = 8
computing_level bin.Le = 8
computing_level bin.Gt = 8
computing_level bin.Ge = 8
computing_level bin.Shl = 9
computing_level bin.Shr = 9
computing_level bin.Add = 10
computing_level bin.Sub = 10
computing_level bin.Mul = 11
computing_level bin.Div = 11
computing_level bin.Rem = 11

abbrev pub level_of : Operator → ℕ
level_of oper.Or = 2
level_of oper.And = 3
level_of (oper.Computes op) = computing_level op

abbrev pub computing_mark : Binary → Mark
computing_mark bin.BitOr = mark.Bar
computing_mark bin.BitXor = mark.Caret
computing_mark bin.BitAnd = mark.Ampersand
computing_mark bin.Eq = mark.Equal
computing_mark bin.Ne = mark.NotEqual
computing_mark bin.Lt = mark.Less
computing_mark bin.Le = mark.LessEqual
computing_mark bin.Gt = mark.Greater
computing_mark bin.Ge = mark.GreaterEqual
computing_mark bin.Shl = mark.Shl
computing_mark bin.Shr = mark.Shr
computing_mark bin.Add = mark.Plus
computing_mark bin.Sub = mark.Minus
computing_mark bin.Mul = mark.Star
computing_mark bin.Div = mark.Slash
computing_mark bin.Rem = mark.Percent

abbrev pub mark_of : Operator → Mark
mark_of oper.Or = mark.OrOr
mark_of oper.And = mark.AndAnd
mark_of (oper.Computes op) = computing_mark op

-- an operator between its operands
abbrev pub operator_term : Operator → Place → Term → Term → Term
operator_term oper.Or place left right = plain.Or place left right
operator_term oper.And place left right = plain.And place left right
operator_term (oper.Computes op) place left right = plain.Bin place op left right

abbrev pub sign_of : Unary → Mark
sign_of un.Minus = mark.Minus
sign_of un.Invert = mark.Tilde
sign_of un.Not = mark.Bang

-- the terms of a list, as a term holds them
abbrev pub listed : List Term → Terms
listed [] = no_terms
listed (e ∷ es) = more_terms e (listed es)

-- ---- expressions

-- `Spells n e v ls w`: at level n of the operators the tokens of ls spell e; the level of the program is v before them and w after them.
-- An operator raises it up to the end of the expression that it stands in, a bracket up to the bracket that closes it. Brackets leave no node.
mutual
  pub data Spells : ℕ → Term → ℕ → List Spelt → ℕ → Type 0 where
    number : {n v : ℕ} {t : Token} (value : ℤ) → IsNumberToken value t → Spells n (plain.Num t.place value) v (at t v ∷ []) v
    read : {n v : ℕ} {t : Token} (id : ℕ) → IsNameToken id t → Spells n (plain.Read t.place (name_at id t.place)) v (at t v ∷ []) v
    element : {n v : ℕ} {t : Token} {index : Term} {ls : List Spelt} (id : ℕ) → IsNameToken id t → SpellsIndex index v ls
        → Spells n (plain.Element t.place (name_at id t.place) index) v (at t v ∷ ls) v
    call : {n v : ℕ} {t : Token} {args : List Term} {ls : List Spelt} (id : ℕ) → IsNameToken id t → SpellsArguments args v ls
        → Spells n (plain.Call t.place (name_at id t.place) (listed args)) v (at t v ∷ ls) v
    bracketed : {n v : ℕ} {inner : Term} {ls : List Spelt} → Brackets inner v ls → Spells n inner v ls v
    unary : {n v w : ℕ} {t : Token} {part : Term} {ls : List Spelt} (op : Unary)
        → n ≤ 12 → IsMark (sign_of op) t → Spells 12 part (v + 1) ls w
        → Spells n (plain.Un t.place op part) v (at t (v + 1) ∷ ls) w
    binary : {n v w x : ℕ} (t : Token) {left right : Term} {ls rs : List Spelt} (op : Operator)
        → n ≤ level_of op → Spells (level_of op) left v ls w → IsMark (mark_of op) t → Spells (level_of op + 1) right (w + 1) rs x
        → Spells n (operator_term op t.place left right) v (ls ++ (at t (w + 1) ∷ rs)) x
    choose : {n v w x y : ℕ} (t colon : Token) {test first second : Term} {ls ms rs : List Spelt}
        → n ≤ 1 → Spells 2 test v ls w → IsMark mark.Question t → Spells 1 first (w + 1) ms x → IsMark mark.Colon colon → Spells 1 second x rs y
        → Spells n (plain.Choose t.place test first second) v (ls ++ (at t (w + 1) ∷ (ms ++ (at colon x ∷ rs)))) y

  -- an expression of its own
  pub data Whole : Term → ℕ → List Spelt → Type 0 where
    whole : {v w : ℕ} {e : Term} {ls : List Spelt} → Spells 1 e v ls w → Whole e v ls

  -- between round brackets
  pub data Brackets : Term → ℕ → List Spelt → Type 0 where
    brackets : {v : ℕ} {left : Token} (right : Token) {inner : Term} {ls : List Spelt}
        → IsMark mark.LeftRound left → Whole inner (v + 1) ls → IsMark mark.RightRound right
        → Brackets inner v (at left (v + 1) ∷ (ls ++ (at right v ∷ [])))

  -- an index, with its square brackets
  pub data SpellsIndex : Term → ℕ → List Spelt → Type 0 where
    indexes : {v : ℕ} {left : Token} (right : Token) {index : Term} {ls : List Spelt}
        → IsMark mark.LeftSquare left → Whole index (v + 1) ls → IsMark mark.RightSquare right
        → SpellsIndex index v (at left (v + 1) ∷ (ls ++ (at right v ∷ [])))

  -- the arguments of a call, with their brackets
  pub data SpellsArguments : List Term → ℕ → List Spelt → Type 0 where
    passes_none : {v : ℕ} {left right : Token} → IsMark mark.LeftRound left → IsMark mark.RightRound right → SpellsArguments [] v (at left (v + 1) ∷ at right v ∷ [])
    passes : {v : ℕ} {left : Token} (right : Token) {args : List Term} {ls : List Spelt}
        → IsMark mark.LeftRound left → SpellsExpressions args (v + 1) ls → IsMark mark.RightRound right
        → SpellsArguments args v (at left (v + 1) ∷ (ls ++ (at right v ∷ [])))

  -- one expression or more, with a comma between each two
  pub data SpellsExpressions : List Term → ℕ → List Spelt → Type 0 where
    one : {v : ℕ} {arg : Term} {ls : List Spelt} → Whole arg v ls → SpellsExpressions (arg ∷ []) v ls
    more : {v : ℕ} {arg : Term} {args : List Term} (comma : Token) {ls rs : List Spelt}
        → Whole arg v ls → IsMark mark.Comma comma → SpellsExpressions args v rs
        → SpellsExpressions (arg ∷ args) v (ls ++ (at comma v ∷ rs))

-- ---- tokens and levels

abbrev pub tokens : List Spelt → List Token
tokens [] = []
tokens (s ∷ ls) = s.token ∷ tokens ls

-- no level exceeds the limit
abbrev pub IsWithin : ℕ → List Spelt → Type 0
IsWithin limit [] = Unit {0}
IsWithin limit (s ∷ ls) = (s.level ≤ limit) × IsWithin limit ls
