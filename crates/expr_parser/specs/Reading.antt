-- Reading an expression, from tokens to the tree. `proofs/` shows that this is the converse of spelling.
use Rattle.std.specs.Prelude.{ℕ, ℤ, zero, suc, ◌+◌, Bool, if◌then◌else◌, nat_lt, List, [], ◌∷◌, ◌++◌, length, Option, Some, None, Ok, Err}
use Rattle.forec_base.specs.declared.Place.{Place}
use Rattle.forec_tree.specs.declared.token.Token.{Token}
use Rattle.forec_tree.specs.declared.token.TokenKind.{TokenKind}
use Rattle.forec_tree.specs.declared.tree.Name.{Name}
use Rattle.forec_tree.specs.declared.tree.Number.{Number}
use Rattle.forec_tree.specs.Terms as plain
use Rattle.forec_tree.specs.Terms.{Term}
use Rattle.forec_tree.specs.Spelling.{name_at, operator_term, listed, level_of}
use Rattle.forec_tree.specs.Parts.{number_at}
use Rattle.expr_parser.specs.declared.fault.Fault.TheVariants.{Deep}
use Rattle.expr_parser.specs.declared.fixed.Fixed.{Fixed}
use Rattle.expr_parser.specs.declared.fixed.Fixed.TheVariants as fixed
use Rattle.expr_parser.specs.declared.meaning.Start.{Start}
use Rattle.expr_parser.specs.declared.meaning.Start.TheVariants as beg
use Rattle.expr_parser.specs.declared.meaning.Infix.{Infix}
use Rattle.expr_parser.specs.declared.meaning.Infix.TheVariants as inf
use Rattle.expr_parser.specs.declared.meaning.Behind.{Behind}
use Rattle.expr_parser.specs.declared.meaning.Behind.TheVariants as follow
use Rattle.expr_parser.specs.Input.{Input, Parser, ◌>>=◌, ◌>>◌, pure, refuse, scoped, kind_ahead, take, raise}
use Rattle.expr_parser.specs.Meaning.{token_name, token_number, term_start, infix_of, after_of, binds, is_fixed}

-- whether the next token is this one
abbrev pub next_is : Fixed → Input → Bool
next_is f i = is_fixed f (kind_ahead i.rest)

-- takes this token
unfoldable pub close : Fixed → Parser Token
close f = λ i. if next_is f i then take i else refuse i

-- takes this token, which opens a level
unfoldable pub enter : ℕ → Fixed → Parser Token
enter limit f = λ i. if next_is f i then raise limit i else refuse i

-- a part between two brackets
abbrev pub enclosed : {A B : Type 0} → ℕ → Fixed → Fixed → (Token → A → B) → Parser A → Parser B
enclosed limit left right f part = scoped (do
  t ← enter limit left
  x ← part
  close right
  pure (f t x))

-- a token that holds something, and what is made of this
abbrev pub leaf_by : {A B : Type 0} → (A → Place → B) → Option A → Parser B
leaf_by build (Some x) = do
  t ← take
  pure (build x t.place)
leaf_by build None = refuse

abbrev pub leaf : {A B : Type 0} → (A → Place → B) → (Option TokenKind → Option A) → Parser B
leaf build find = λ i. leaf_by build (find (kind_ahead i.rest)) i

unfoldable pub name : Parser Name
name = leaf name_at token_name

unfoldable pub read_number : Parser Number
read_number = leaf number_at token_number

-- One or more parts, with a comma between each two. The count is that of the turns, one for each token that is left.
unfoldable pub separated_from : {A : Type 0} → Parser A → ℕ → List A → Parser (List A)
separated_from part zero found = refuse
separated_from part (suc n) found = do
  x ← part
  (λ i. if next_is fixed.Comma i then (take >> separated_from part n (found ++ x ∷ [])) i else Ok (found ++ x ∷ [], i))

unfoldable pub separated : {A : Type 0} → Parser A → Parser (List A)
separated part = λ i. separated_from part (length i.rest) [] i

abbrev pub infix_at : Input → Infix
infix_at i = infix_of (kind_ahead i.rest)

abbrev pub binding_ahead : Input → ℕ
binding_ahead i = binds (infix_at i)

-- `expr` reads an expression that goes on with the operators of this level and above.
module _ (limit : ℕ) (expr : ℕ → Parser Term) where
  -- an expression of its own
  unfoldable pub value : Parser Term
  value = scoped (expr 1)

  unfoldable pub bracketed : Parser Term
  bracketed = enclosed limit fixed.LeftRound fixed.RightRound (λ _ inner. inner) (expr 1)

  unfoldable pub indexed : Parser Term
  indexed = enclosed limit fixed.LeftSquare fixed.RightSquare (λ _ index. index) (expr 1)

  unfoldable pub read_arguments : Parser (List Term)
  read_arguments = λ i. if next_is fixed.RightRound i then Ok ([], i) else separated value i

  -- the arguments of a call, with their brackets
  unfoldable pub passed : Parser (List Term)
  passed = enclosed limit fixed.LeftRound fixed.RightRound (λ _ args. args) read_arguments

  abbrev pub named_by : Behind → Name → Parser Term
  named_by follow.Index n = do
    index ← indexed
    pure (plain.Element n.place n index)
  named_by follow.Arguments n = do
    args ← passed
    pure (plain.Call n.place n (listed args))
  named_by follow.Nothing n = pure (plain.Read n.place n)

  unfoldable pub named_term : Parser Term
  named_term = do
    n ← name
    (λ i. named_by (after_of (kind_ahead i.rest)) n i)

  abbrev pub prefix_by : Start → Parser Term
  prefix_by beg.Literal = do
    n ← read_number
    pure (plain.Num n.place n.value)
  prefix_by beg.Named = named_term
  prefix_by (beg.Sign op) = do
    t ← raise limit
    part ← expr 12
    pure (plain.Un t.place op part)
  prefix_by beg.Round = bracketed
  prefix_by beg.Nothing = refuse

  unfoldable pub prefix : Parser Term
  prefix = λ i. prefix_by (term_start (kind_ahead i.rest)) i

  unfoldable pub choose_term : Term → Parser Term
  choose_term test = do
    t ← raise limit
    first ← expr 1
    close fixed.Colon
    second ← expr 1
    pure (plain.Choose t.place test first second)

  abbrev pub operation_by : Term → Infix → Parser Term
  operation_by left (inf.Joins op) = do
    t ← raise limit
    right ← expr (level_of op + 1)
    pure (operator_term op t.place left right)
  operation_by left inf.Question = choose_term left
  operation_by left inf.Nothing = refuse

  unfoldable pub operation : Term → Parser Term
  operation left = λ i. operation_by left (infix_at i) i

  unfoldable pub climb : ℕ → ℕ → Term → Parser Term
  climb least zero left = λ i. if nat_lt (binding_ahead i) least then Ok (left, i) else refuse i
  climb least (suc n) left = λ i. if nat_lt (binding_ahead i) least then Ok (left, i) else (operation left >>= climb least n) i

  unfoldable pub operations : ℕ → Term → Parser Term
  operations least left = λ i. climb least (length i.rest) left i

  unfoldable pub climbing : ℕ → Parser Term
  climbing least = prefix >>= operations least

-- with expressions nested no deeper than the second number
unfoldable pub read_expression : ℕ → ℕ → ℕ → Parser Term
read_expression limit zero least = λ i. Err (Deep (length i.rest))
read_expression limit (suc depth) least = climbing limit (read_expression limit depth) least
