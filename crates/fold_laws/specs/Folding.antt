-- A kernel with its constants folded: each term is rewritten once, from the inside out.
use Rattle.std.specs.Prelude.{ℕ, ℤ, pos, Bool, true, false, not, cond, Option, Some, None, List, map, ◌≡◌}
use Rattle.forec_base.specs.Numbers.{truth, is_zero, unary_of, binary_of}
use Rattle.forec_base.specs.declared.Place.{Place}
use Rattle.forec_base.specs.declared.operators.Unary.{Unary}
use Rattle.forec_base.specs.declared.operators.Binary.{Binary}
use Rattle.forec_kernel.specs.Terms.{Expr, Num, Local, LocalAt, Var, SharedAt, TableAt, Un, Bin, And, Or, Choose, Call, Exprs, no_exprs, more_exprs, Branch, Stmt, Nop, Set, SetAt, PutAt, Clear, Seq, If, While, Pause, Par, Enter, Return, Stmts, no_stmts, more_stmts}
use Rattle.forec_kernel.specs.Shapes.{PlainKernel}

-- ---- expressions

-- the number that a term is
abbrev pub constant_of : Expr → Option ℤ
constant_of (Num n) = Some n
constant_of _ = None

-- a number in place of the term, where there is one
abbrev pub constant_or : Option ℤ → Expr → Expr
constant_or (Some n) e = Num n
constant_or None e = e

abbrev pub unary_number : Unary → Option ℤ → Option ℤ
unary_number op (Some x) = Some (unary_of op x)
unary_number op None = None

-- of two numbers, where the operator has a result
abbrev pub binary_number : (ℤ → ℤ → Option ℤ) → Option ℤ → Option ℤ → Option ℤ
binary_number f (Some x) (Some y) = f x y
binary_number f (Some x) None = None
binary_number f None b = None

abbrev pub truth_number : Option ℤ → Option ℤ
truth_number (Some y) = Some (truth (not (is_zero y)))
truth_number None = None

-- where the left side is 0 it is 0, whatever the right side is
abbrev pub and_number : Option ℤ → Option ℤ → Option ℤ
and_number (Some x) b = cond (is_zero x) (Some (pos 0)) (truth_number b)
and_number None b = None

-- where the left side isn't 0 it is 1, whatever the right side is
abbrev pub or_number : Option ℤ → Option ℤ → Option ℤ
or_number (Some x) b = cond (is_zero x) (truth_number b) (Some (pos 1))
or_number None b = None

-- the side that a number chooses
abbrev pub chosen_expr : Option ℤ → Expr → Expr → Expr → Expr
chosen_expr (Some x) a b other = cond (is_zero x) b a
chosen_expr None a b other = other

-- each operator over parts that are folded already

abbrev pub unary_term : Unary → Expr → Expr
unary_term op a = constant_or (unary_number op (constant_of a)) (Un op a)

abbrev pub binary_term : Binary → Expr → Expr → Option Place → Expr
binary_term op a b place = constant_or (binary_number (binary_of op) (constant_of a) (constant_of b)) (Bin op a b place)

abbrev pub and_term : Expr → Expr → Expr
and_term a b = constant_or (and_number (constant_of a) (constant_of b)) (And a b)

abbrev pub or_term : Expr → Expr → Expr
or_term a b = constant_or (or_number (constant_of a) (constant_of b)) (Or a b)

abbrev pub choice_term : Expr → Expr → Expr → Expr
choice_term t a b = chosen_expr (constant_of t) a b (Choose t a b)

abbrev mutual
  pub fold_expr : Expr → Expr
  fold_expr (Num n) = Num n
  fold_expr (Local slot) = Local slot
  fold_expr (LocalAt slot n i place) = LocalAt slot n (fold_expr i) place
  fold_expr (Var v) = Var v
  fold_expr (SharedAt v n i place) = SharedAt v n (fold_expr i) place
  fold_expr (TableAt t i place) = TableAt t (fold_expr i) place
  fold_expr (Un op a) = unary_term op (fold_expr a)
  fold_expr (Bin op a b place) = binary_term op (fold_expr a) (fold_expr b) place
  fold_expr (And a b) = and_term (fold_expr a) (fold_expr b)
  fold_expr (Or a b) = or_term (fold_expr a) (fold_expr b)
  fold_expr (Choose t a b) = choice_term (fold_expr t) (fold_expr a) (fold_expr b)
  fold_expr (Call f args) = Call f (fold_exprs args)

  pub fold_exprs : Exprs → Exprs
  fold_exprs no_exprs = no_exprs
  fold_exprs (more_exprs e es) = more_exprs (fold_expr e) (fold_exprs es)

-- ---- statements

abbrev pub is_nop : Stmt → Bool
is_nop Nop = true
is_nop _ = false

-- a list without `nop`
abbrev pub unless_nop : Stmt → Stmts → Stmts
unless_nop s rest = cond (is_nop s) rest (more_stmts s rest)

-- an empty sequence is `nop`, one of one statement is that statement
abbrev pub in_sequence : Stmts → Stmt
in_sequence no_stmts = Nop
in_sequence (more_stmts s no_stmts) = s
in_sequence (more_stmts s (more_stmts r rest)) = Seq (more_stmts s (more_stmts r rest))

-- the side that a number chooses
abbrev pub chosen_stmt : Option ℤ → Stmt → Stmt → Stmt → Stmt
chosen_stmt (Some x) a b other = cond (is_zero x) b a
chosen_stmt None a b other = other

-- the test is the number 0
abbrev pub never_turns : Option ℤ → Bool
never_turns (Some x) = is_zero x
never_turns None = false

-- a test, and sides that are folded already
abbrev pub if_term : Expr → Stmt → Stmt → Stmt
if_term e a b = chosen_stmt (constant_of e) a b (If e a b)

-- a test, and a body that is folded already
abbrev pub while_term : Expr → Option ℕ → Stmt → Place → Stmt
while_term e bound body place = cond (never_turns (constant_of e)) Nop (While e bound body place)

abbrev pub fold_branch : Branch → Branch
fold_branch b = record { thread = b.thread; args = fold_exprs b.args }

abbrev pub fold_branches : List Branch → List Branch
fold_branches = map fold_branch

-- one list of statements after another
abbrev pub then_stmts : Stmts → Stmts → Stmts
then_stmts no_stmts more = more
then_stmts (more_stmts s rest) more = more_stmts s (then_stmts rest more)

abbrev mutual
  pub fold_stmt : Stmt → Stmt
  fold_stmt Nop = Nop
  fold_stmt (Set to e) = Set to (fold_expr e)
  fold_stmt (SetAt slot n i e place) = SetAt slot n (fold_expr i) (fold_expr e) place
  fold_stmt (PutAt v n i e place) = PutAt v n (fold_expr i) (fold_expr e) place
  fold_stmt (Clear slot n) = Clear slot n
  fold_stmt (Seq list) = in_sequence (fold_stmts list)
  fold_stmt (If e a b) = if_term (fold_expr e) (fold_stmt a) (fold_stmt b)
  fold_stmt (While e bound body place) = while_term (fold_expr e) bound (fold_stmt body) place
  fold_stmt Pause = Pause
  fold_stmt (Par branches) = Par (fold_branches branches)
  fold_stmt (Enter weak immediate e body) = Enter weak immediate (fold_expr e) (fold_stmt body)
  fold_stmt (Return e) = Return (fold_expr e)

  pub fold_stmts : Stmts → Stmts
  fold_stmts no_stmts = no_stmts
  fold_stmts (more_stmts s rest) = unless_nop (fold_stmt s) (fold_stmts rest)

-- ---- kernels

-- the bodies are folded, and the shape stays
abbrev pub folded_kernel : PlainKernel → PlainKernel
folded_kernel k = record { shape = k.shape; threads = map fold_stmt k.threads; functions = map fold_stmt k.functions }

-- one kernel is another one with its constants folded
abbrev pub IsFoldedKernel : PlainKernel → PlainKernel → Type 0
IsFoldedKernel k k' = k' ≡ folded_kernel k
