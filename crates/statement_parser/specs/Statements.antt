-- Reading a statement, from tokens to the tree.
use Rattle.std.specs.Prelude.{ℕ, zero, suc, pos, Bool, true, false, if◌then◌else◌, List, [], ◌∷◌, ◌++◌, length, Option, Some, None, Ok, Err}
use Rattle.forec_base.specs.declared.Place.{Place}
use Rattle.forec_base.specs.declared.operators.Binary.{Binary}
use Rattle.forec_tree.specs.declared.token.Token.{Token}
use Rattle.forec_tree.specs.declared.tree.Name.{Name}
use Rattle.forec_tree.specs.declared.tree.Number.{Number}
use Rattle.forec_tree.specs.declared.tree.OpAt.{OpAt}
use Rattle.forec_tree.specs.Terms as plain
use Rattle.forec_tree.specs.Terms.{Term, Declared, PlainTarget, Statement, Perhaps, absent, present}
use Rattle.forec_tree.specs.Spelling.{listed}
use Rattle.forec_tree.specs.Parts.{op_at, written_at, declared_as, in_order, Launch, Calls, Blocks, launched, Head, head_of}
use Rattle.expr_parser.specs.declared.fault.Fault.TheVariants.{Deep}
use Rattle.expr_parser.specs.declared.fixed.Fixed.{Fixed}
use Rattle.expr_parser.specs.declared.fixed.Fixed.TheVariants as fixed
use Rattle.statement_parser.specs.declared.meaning.Change.{Change}
use Rattle.statement_parser.specs.declared.meaning.Change.TheVariants as change
use Rattle.statement_parser.specs.declared.meaning.Act.{Act}
use Rattle.statement_parser.specs.declared.meaning.Act.TheVariants as act
use Rattle.statement_parser.specs.declared.meaning.Sort.{Sort}
use Rattle.statement_parser.specs.declared.meaning.Sort.TheVariants as sort
use Rattle.expr_parser.specs.Input.{Parser, ◌>>=◌, ◌>>◌, pure, refuse, scoped, kind_ahead, take}
use Rattle.statement_parser.specs.Meaning.{update_of, token_step, change_of, act_of, sort_of, ends_body}
use Rattle.expr_parser.specs.Reading as expression
use Rattle.expr_parser.specs.Reading.{next_is, close, enter, enclosed, name, read_number, separated, read_expression}

abbrev pub op_by : Option Binary → Parser OpAt
op_by (Some op) = do
  t ← take
  pure (op_at op t.place)
op_by None = refuse

unfoldable pub update : Parser OpAt
update = λ i. op_by (update_of (kind_ahead i.rest)) i

unfoldable pub step_mark : Parser OpAt
step_mark = λ i. op_by (token_step (kind_ahead i.rest)) i

-- whether this token is there
unfoldable pub flag : Fixed → Parser Bool
flag f = λ i. if next_is f i then (close f >>= λ _. pure true) i else pure false i

module _ (limit : ℕ) where
  unfoldable pub whole_expression : Parser Term
  whole_expression = expression.value limit (read_expression limit (suc limit))

  unfoldable pub values : Parser (List Term)
  values = separated (expression.value limit (read_expression limit (suc limit)))

  unfoldable pub bracketed_expression : Parser Term
  bracketed_expression = expression.bracketed limit (read_expression limit (suc limit))

  unfoldable pub index_expression : Parser Term
  index_expression = expression.indexed limit (read_expression limit (suc limit))

  unfoldable pub passed_expressions : Parser (List Term)
  passed_expressions = expression.passed limit (read_expression limit (suc limit))

  -- ---- simple statements

  unfoldable pub maybe_index : Parser (Option Term)
  maybe_index = λ i. if next_is fixed.LeftSquare i then (index_expression >>= λ x. pure (Some x)) i else pure None i

  unfoldable pub target : Parser PlainTarget
  target = do
    n ← name
    index ← maybe_index
    pure (written_at n index)

  abbrev pub changed_by : Change → PlainTarget → Parser Statement
  changed_by change.Sets to = do
    close fixed.Assign
    x ← whole_expression
    pure (plain.Assign to.name.place to None x)
  changed_by change.Updates to = do
    op ← update
    x ← whole_expression
    pure (plain.Assign to.name.place to (Some op) x)
  changed_by change.Increments to = do
    op ← step_mark
    pure (plain.Assign to.name.place to (Some op) (plain.Num op.place (pos 1)))
  changed_by change.Nothing to = refuse

  unfoldable pub changed : PlainTarget → Parser Statement
  changed to = λ i. changed_by (change_of (kind_ahead i.rest)) to i

  unfoldable pub invoked : Name → Parser Statement
  invoked n = do
    args ← passed_expressions
    pure (plain.Invoke n.place n (listed args))

  unfoldable pub assign_statement : Name → Parser Statement
  assign_statement n = do
    index ← maybe_index
    changed (written_at n index)

  unfoldable pub named_statement : Parser Statement
  named_statement = do
    n ← name
    (λ i. if next_is fixed.LeftRound i then invoked n i else assign_statement n i)

  unfoldable pub stepped : Parser Statement
  stepped = do
    op ← step_mark
    found ← target
    pure (plain.Assign op.place found (Some op) (plain.Num op.place (pos 1)))

  abbrev pub simple_by : Act → Parser Statement
  simple_by act.Named = named_statement
  simple_by act.Increments = stepped
  simple_by act.Nothing = refuse

  unfoldable pub simple : Parser Statement
  simple = λ i. simple_by (act_of (kind_ahead i.rest)) i

  -- ---- declarations

  unfoldable pub length_part : Parser Number
  length_part = enclosed limit fixed.LeftSquare fixed.RightSquare (λ _ n. n) read_number

  unfoldable pub maybe_length : Parser (Option Number)
  maybe_length = λ i. if next_is fixed.LeftSquare i then (length_part >>= λ n. pure (Some n)) i else pure None i

  unfoldable pub listed_values : Parser (List Term)
  listed_values = enclosed limit fixed.LeftCurly fixed.RightCurly (λ _ xs. xs) values

  abbrev pub initial_by : Option Number → Parser (List Term)
  initial_by None = do
    x ← whole_expression
    pure (x ∷ [])
  initial_by (Some n) = listed_values

  unfoldable pub initial : Option Number → Parser (List Term)
  initial length = λ i. if next_is fixed.Assign i then (close fixed.Assign >> initial_by length) i else pure [] i

  unfoldable pub local : Parser Declared
  local = do
    n ← name
    length ← maybe_length
    found ← initial length
    pure (declared_as n length found)

  -- ---- loops

  unfoldable pub bound : Parser (Option Number)
  bound = λ i. if next_is fixed.Hash i then (close fixed.Hash >> read_number >>= λ n. pure (Some n)) i else pure None i

  unfoldable pub first_local : Parser Perhaps
  first_local = do
    int ← close fixed.Int
    n ← name
    close fixed.Assign
    x ← whole_expression
    pure (present (plain.Declare int.place (declared_as n None (x ∷ []) ∷ [])))

  unfoldable pub some_start : Parser Perhaps
  some_start = λ i. if next_is fixed.Int i then first_local i else (simple >>= λ x. pure (present x)) i

  unfoldable pub start_part : Parser Perhaps
  start_part = λ i. if next_is fixed.Semicolon i then pure absent i else some_start i

  unfoldable pub loop_test : Parser (Option Term)
  loop_test = λ i. if next_is fixed.Semicolon i then pure None i else (whole_expression >>= λ x. pure (Some x)) i

  unfoldable pub step_part : Parser Perhaps
  step_part = λ i. if next_is fixed.RightRound i then pure absent i else (simple >>= λ x. pure (present x)) i

  unfoldable pub head_parts : Parser Head
  head_parts = do
    first ← start_part
    close fixed.Semicolon
    second ← loop_test
    close fixed.Semicolon
    third ← step_part
    pure (head_of first second third)

  unfoldable pub head : Parser Head
  head = enclosed limit fixed.LeftRound fixed.RightRound (λ _ h. h) head_parts

  -- ---- statements without others in them

  unfoldable pub declaring : Parser Statement
  declaring = do
    t ← close fixed.Int
    locals ← separated local
    close fixed.Semicolon
    pure (plain.Declare t.place locals)

  unfoldable pub acting : Parser Statement
  acting = do
    x ← simple
    close fixed.Semicolon
    pure x

  unfoldable pub pausing : Parser Statement
  pausing = do
    t ← close fixed.Pause
    close fixed.Semicolon
    pure (plain.Pause t.place)

  unfoldable pub return_statement : Parser Statement
  return_statement = do
    t ← close fixed.Return
    x ← whole_expression
    close fixed.Semicolon
    pure (plain.Return t.place x)

  unfoldable pub maybe_passed : Parser (List Term)
  maybe_passed = λ i. if next_is fixed.LeftRound i then passed_expressions i else pure [] i

  unfoldable pub call_launch : Parser Launch
  call_launch = do
    n ← name
    args ← maybe_passed
    pure (Calls n (listed args))

  -- ---- statements, by the parser of those in them

  module _ (stmt : Parser Statement) where
    unfoldable pub body_from : ℕ → List Statement → Parser (List Statement)
    body_from zero found = λ i. if ends_body (kind_ahead i.rest) then Ok (found, i) else refuse i
    body_from (suc n) found = λ i. if ends_body (kind_ahead i.rest) then Ok (found, i) else (stmt >>= λ x. body_from n (found ++ x ∷ [])) i

    unfoldable pub body : Parser (List Statement)
    body = λ i. body_from (length i.rest) [] i

    unfoldable pub block : Parser (Place × List Statement)
    block = enclosed limit fixed.LeftCurly fixed.RightCurly (λ t xs. (t.place, xs)) body

    unfoldable pub group : Parser Statement
    group = do
      b ← block
      pure (plain.Group b.0 (in_order b.1))

    unfoldable pub otherwise : Token → Term → Statement → Parser Statement
    otherwise t test first = do
      enter limit fixed.Else
      second ← stmt
      pure (plain.If t.place test first (present second))

    unfoldable pub if_statement : Parser Statement
    if_statement = scoped (do
      t ← enter limit fixed.If
      test ← bracketed_expression
      first ← stmt
      (λ i. if next_is fixed.Else i then otherwise t test first i else pure (plain.If t.place test first absent) i))

    unfoldable pub while_statement : Parser Statement
    while_statement = scoped (do
      t ← enter limit fixed.While
      test ← bracketed_expression
      turns ← bound
      x ← stmt
      pure (plain.While t.place test turns x))

    unfoldable pub for_statement : Parser Statement
    for_statement = scoped (do
      t ← enter limit fixed.For
      h ← head
      turns ← bound
      x ← stmt
      pure (plain.For t.place h.start h.test h.step turns x))

    unfoldable pub launch : Parser Launch
    launch = λ i. if next_is fixed.LeftCurly i then (block >>= λ b. pure (Blocks b.0 (in_order b.1))) i else call_launch i

    unfoldable pub launches : Parser (List Launch)
    launches = separated launch

    unfoldable pub par_statement : Parser Statement
    par_statement = do
      t ← close fixed.Par
      branches ← enclosed limit fixed.LeftRound fixed.RightRound (λ _ xs. xs) launches
      close fixed.Semicolon
      pure (plain.Par t.place (launched branches))

    unfoldable pub abort_statement : Bool → Parser Statement
    abort_statement weak = scoped (do
      t ← enter limit fixed.Abort
      b ← block
      close fixed.When
      immediate ← flag fixed.Immediate
      test ← bracketed_expression
      close fixed.Semicolon
      pure (plain.Abort t.place weak immediate test (in_order b.1)))

    abbrev pub one_by : Sort → Parser Statement
    one_by sort.Empty = do
      t ← close fixed.Semicolon
      pure (plain.Nothing t.place)
    one_by sort.Curly = group
    one_by sort.Declares = declaring
    one_by sort.If = if_statement
    one_by sort.While = while_statement
    one_by sort.For = for_statement
    one_by sort.Pause = pausing
    one_by sort.Par = par_statement
    one_by sort.Weak = do
      close fixed.Weak
      abort_statement true
    one_by sort.Abort = abort_statement false
    one_by sort.Return = return_statement
    one_by sort.Simple = acting
    one_by sort.Nothing = refuse

    unfoldable pub one_statement : Parser Statement
    one_statement = λ i. one_by (sort_of (kind_ahead i.rest)) i

-- with statements nested no deeper than the second number
unfoldable pub read_statement : ℕ → ℕ → Parser Statement
read_statement limit zero = λ i. Err (Deep (length i.rest))
read_statement limit (suc depth) = one_statement limit (read_statement limit depth)
