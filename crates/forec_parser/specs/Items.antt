-- Reading globals, functions and a program, from tokens to the tree.
use Rattle.std.specs.Prelude.{ℕ, zero, suc, Bool, true, false, if◌then◌else◌, List, [], ◌∷◌, ◌++◌, length, Option, Some, None, Ok}
use Rattle.forec_base.specs.declared.Policy.{Policy}
use Rattle.forec_base.specs.declared.operators.Unary.TheVariants as un
use Rattle.forec_base.specs.Numbers.{unary_of}
use Rattle.forec_tree.specs.declared.tree.Name.{Name}
use Rattle.forec_tree.specs.declared.tree.Number.{Number}
use Rattle.forec_tree.specs.declared.tree.Combine.{Combine}
use Rattle.forec_tree.specs.declared.tree.GlobalKind.{GlobalKind}
use Rattle.forec_tree.specs.declared.tree.GlobalKind.TheVariants as kind
use Rattle.forec_tree.specs.Terms.{PlainItem, IsGlobal, IsFunction, Text}
use Rattle.forec_tree.specs.Parts.{number_at, in_order, global_of}
use Rattle.expr_parser.specs.declared.fixed.Fixed.TheVariants as fixed
use Rattle.statement_parser.specs.declared.meaning.Opening.{Opening}
use Rattle.statement_parser.specs.declared.meaning.Opening.TheVariants as opening
use Rattle.statement_parser.specs.declared.meaning.Declarator.{Declarator}
use Rattle.statement_parser.specs.declared.meaning.Declarator.TheVariants as declarator
use Rattle.expr_parser.specs.Input.{Parser, ◌>>=◌, ◌>>◌, pure, refuse, kind_ahead, at_end, take}
use Rattle.statement_parser.specs.Meaning.{opening_of, token_policy}
use Rattle.expr_parser.specs.Reading.{next_is, close, enclosed, name, read_number, separated}
use Rattle.statement_parser.specs.Statements.{maybe_length, block, read_statement}

-- ---- values

unfoldable pub negative_number : Parser Number
negative_number = do
  t ← close fixed.Minus
  n ← read_number
  pure (number_at (unary_of un.Minus n.value) t.place)

unfoldable pub signed : Parser Number
signed = λ i. if next_is fixed.Minus i then negative_number i else read_number i

unfoldable pub one_value : Parser (List Number)
one_value = do
  close fixed.Assign
  n ← signed
  pure (n ∷ [])

unfoldable pub maybe_value : Parser (List Number)
maybe_value = λ i. if next_is fixed.Assign i then one_value i else pure [] i

abbrev pub policy_by : Option Policy → Parser Policy
policy_by (Some p) = do
  take
  pure p
policy_by None = refuse

unfoldable pub policy : Parser Policy
policy = λ i. policy_by (token_policy (kind_ahead i.rest)) i

abbrev pub combine_with : Policy → Name → Combine
combine_with policy with = record { policy = policy; with = with }

unfoldable pub combines : Parser Combine
combines = do
  close fixed.Combine
  p ← policy
  close fixed.With
  n ← name
  pure (combine_with p n)

unfoldable pub param : Parser Name
param = do
  close fixed.Int
  name

unfoldable pub some_params : Parser (List Name)
some_params = λ i. if next_is fixed.Void i then (close fixed.Void >>= λ _. pure []) i else separated param i

unfoldable pub params : Parser (List Name)
params = λ i. if next_is fixed.RightRound i then pure [] i else some_params i

module _ (limit : ℕ) where
  unfoldable pub table_values : Parser (List Number)
  table_values = enclosed limit fixed.LeftCurly fixed.RightCurly (λ _ xs. xs) (separated signed)

  unfoldable pub many_values : Parser (List Number)
  many_values = do
    close fixed.Assign
    table_values

  abbrev pub values_by : Option Number → Parser (List Number)
  values_by None = one_value
  values_by (Some n) = many_values

  unfoldable pub maybe_values : Option Number → Parser (List Number)
  maybe_values length = λ i. if next_is fixed.Assign i then values_by length i else pure [] i

  unfoldable pub table : Parser PlainItem
  table = do
    n ← name
    length ← maybe_length limit
    found ← values_by length
    pure (IsGlobal (global_of kind.Const None n length found))

  abbrev pub declared_by : Declarator → Parser PlainItem
  declared_by declarator.Table = table
  declared_by declarator.Bare = do
    n ← name
    pure (IsGlobal (global_of kind.Input None n None []))
  declared_by (declarator.Valued k) = do
    n ← name
    found ← maybe_value
    pure (IsGlobal (global_of k None n None found))

  unfoldable pub declared_item : Declarator → Parser PlainItem
  declared_item d = declared_by d

  unfoldable pub globals : Declarator → Parser (List PlainItem)
  globals d = do
    found ← separated (declared_item d)
    close fixed.Semicolon
    pure found

  -- globals from `int` on
  unfoldable pub ints : Declarator → Parser (List PlainItem)
  ints d = do
    close fixed.Int
    globals d

  -- a shared variable or array from `int` on
  unfoldable pub shared : GlobalKind → Parser (List PlainItem)
  shared k = do
    close fixed.Int
    n ← name
    length ← maybe_length limit
    found ← maybe_values length
    c ← combines
    close fixed.Semicolon
    pure (IsGlobal (global_of k (Some c) n length found) ∷ [])

  unfoldable pub output_shared : Parser (List PlainItem)
  output_shared = do
    close fixed.Shared
    shared kind.SharedOutput

  unfoldable pub shared_output : Parser (List PlainItem)
  shared_output = do
    close fixed.Output
    shared kind.SharedOutput

  unfoldable pub parameters : Parser (List Name)
  parameters = enclosed limit fixed.LeftRound fixed.RightRound (λ _ ps. ps) params

  -- a function from its parameters on
  unfoldable pub function : Bool → Name → Parser (List PlainItem)
  function gives n = do
    ps ← parameters
    b ← block limit (read_statement limit (suc limit))
    pure (IsFunction (record { name = n; gives = gives; params = ps; body = in_order b.1 }) ∷ [])

  unfoldable pub more_globals : Parser (List PlainItem)
  more_globals = λ i. if next_is fixed.Comma i then (close fixed.Comma >> separated (declared_item (declarator.Valued kind.Plain))) i else pure [] i

  -- plain globals after the first name
  unfoldable pub plain_globals : Name → Parser (List PlainItem)
  plain_globals n = do
    found ← maybe_value
    more ← more_globals
    close fixed.Semicolon
    pure (IsGlobal (global_of kind.Plain None n None found) ∷ more)

  unfoldable pub outputs : Parser (List PlainItem)
  outputs = do
    close fixed.Output
    (λ i. if next_is fixed.Shared i then output_shared i else ints (declarator.Valued kind.Output) i)

  unfoldable pub shared_globals : Parser (List PlainItem)
  shared_globals = do
    close fixed.Shared
    (λ i. if next_is fixed.Output i then shared_output i else shared kind.Shared i)

  unfoldable pub int_item : Parser (List PlainItem)
  int_item = do
    close fixed.Int
    n ← name
    (λ i. if next_is fixed.LeftRound i then function true n i else plain_globals n i)

  abbrev pub item_by : Opening → Parser (List PlainItem)
  item_by opening.Const = do
    close fixed.Const
    ints declarator.Table
  item_by opening.Input = do
    close fixed.Input
    ints declarator.Bare
  item_by opening.Output = outputs
  item_by opening.Shared = shared_globals
  item_by opening.Int = int_item
  item_by opening.Void = do
    close fixed.Void
    n ← name
    function false n
  item_by opening.Nothing = refuse

  unfoldable pub item : Parser (List PlainItem)
  item = λ i. item_by (opening_of (kind_ahead i.rest)) i

  unfoldable pub items_from : ℕ → Text → Parser Text
  items_from zero found = λ i. if at_end (kind_ahead i.rest) then Ok (found, i) else refuse i
  items_from (suc n) found = λ i. if at_end (kind_ahead i.rest) then Ok (found, i) else (item >>= λ xs. items_from n (found ++ xs)) i

  unfoldable pub items : Parser Text
  items = λ i. items_from (length i.rest) [] i
