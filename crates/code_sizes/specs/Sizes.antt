-- How many instructions code has, wherever it stands.
use Rattle.std.specs.Prelude.{ℕ, ◌+◌, ◌*◌, Bool, cond, Option, Some, None, List, [], ◌∷◌, ◌++◌}
use Rattle.forec_kernel.specs.Terms.{Expr, Num, Local, LocalAt, Var, SharedAt, TableAt, Un, Bin, And, Or, Choose, Call, Exprs, no_exprs, more_exprs, Branch, Stmt, Nop, Set, SetAt, PutAt, Clear, Seq, If, While, Pause, Par, Enter, Return, Stmts, no_stmts, more_stmts}

abbrev mutual
  pub expression_length : Expr → ℕ
  expression_length (Num n) = 1
  expression_length (Local x) = 1
  expression_length (LocalAt x n i place) = expression_length i + 1
  expression_length (Var v) = 1
  expression_length (SharedAt v n i place) = expression_length i + 1
  expression_length (TableAt t i place) = expression_length i + 1
  expression_length (Un op a) = expression_length a + 1
  expression_length (Bin op a b place) = expression_length a + expression_length b + 1
  expression_length (And a b) = expression_length a + expression_length b + 4
  expression_length (Or a b) = expression_length a + expression_length b + 4
  expression_length (Choose t a b) = expression_length t + (expression_length a + expression_length b) + 2
  expression_length (Call f args) = expressions_length args + 1

  pub expressions_length : Exprs → ℕ
  expressions_length no_exprs = 0
  expressions_length (more_exprs e rest) = expression_length e + expressions_length rest

abbrev pub arguments_length : List Branch → ℕ
arguments_length [] = 0
arguments_length (b ∷ bs) = expressions_length b.args + arguments_length bs

abbrev pub count_if : Bool → ℕ
count_if b = cond b 1 0

-- a loop with a bound is counted
abbrev pub counted_loops : Option ℕ → ℕ
counted_loops None = 0
counted_loops (Some n) = 1

-- the start of an abort: its test and a guard where it is immediate, a flag where it is weak
abbrev pub entry_length : Bool → Bool → ℕ → ℕ
entry_length weak immediate test = cond immediate (test + 1) (count_if weak)

-- a statement with so many instructions before each of its pauses, and so many after it
abbrev mutual
  pub statement_length : (checks prologue : ℕ) → Stmt → ℕ
  statement_length c w Nop = 0
  statement_length c w (Set to e) = expression_length e + 1
  statement_length c w (SetAt x n i e place) = expression_length i + expression_length e + 1
  statement_length c w (PutAt v n i e place) = expression_length i + expression_length e + 1
  statement_length c w (Clear x n) = 1
  statement_length c w (Seq list) = statements_length c w list
  statement_length c w (If e a b) = expression_length e + (statement_length c w a + statement_length c w b) + 2
  statement_length c w (While e bound body place) =
      expression_length e + statement_length c (w + counted_loops bound) body + (2 + 2 * counted_loops bound)
  statement_length c w Pause = c + w + 2
  statement_length c w (Par branches) = arguments_length branches + (c + c + w) + 6
  statement_length c w (Enter weak immediate e body) =
      entry_length weak immediate (expression_length e) + statement_length (c + count_if weak) (w + (expression_length e + 1)) body
  statement_length c w (Return e) = expression_length e + 1

  pub statements_length : (checks prologue : ℕ) → Stmts → ℕ
  statements_length c w no_stmts = 0
  statements_length c w (more_stmts s rest) = statement_length c w s + statements_length c w rest

-- the body of an abort whose test has so many instructions
abbrev pub abort_length : (checks prologue : ℕ) → Bool → (test : ℕ) → Stmt → ℕ
abort_length c w weak test body = statement_length (c + count_if weak) (w + (test + 1)) body

-- how many instructions the bodies of aborts have, in the order of the text
abbrev mutual
  pub aborts_in : (checks prologue : ℕ) → Stmt → List ℕ
  aborts_in c w Nop = []
  aborts_in c w (Set to e) = []
  aborts_in c w (SetAt x n i e place) = []
  aborts_in c w (PutAt v n i e place) = []
  aborts_in c w (Clear x n) = []
  aborts_in c w (Seq list) = aborts_of c w list
  aborts_in c w (If e a b) = aborts_in c w a ++ aborts_in c w b
  aborts_in c w (While e bound body place) = aborts_in c (w + counted_loops bound) body
  aborts_in c w Pause = []
  aborts_in c w (Par branches) = []
  aborts_in c w (Enter weak immediate e body) =
      statement_length (c + count_if weak) (w + (expression_length e + 1)) body ∷ aborts_in (c + count_if weak) (w + (expression_length e + 1)) body
  aborts_in c w (Return e) = []

  pub aborts_of : (checks prologue : ℕ) → Stmts → List ℕ
  aborts_of c w no_stmts = []
  aborts_of c w (more_stmts s rest) = aborts_in c w s ++ aborts_of c w rest

-- the body of an abort whose test has so many instructions, and the bodies inside
abbrev pub abort_bodies : (checks prologue : ℕ) → Bool → (test : ℕ) → Stmt → List ℕ
abort_bodies c w weak test body =
    statement_length (c + count_if weak) (w + (test + 1)) body ∷ aborts_in (c + count_if weak) (w + (test + 1)) body
