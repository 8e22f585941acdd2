-- The worst case of a tick: the most units that a term costs in one, whatever its values are and whichever way it goes.
use Rattle.std.specs.Prelude.{ℕ, zero, suc, ◌+◌, ◌-◌, ◌*◌, max, Option, Some, None, List, [], ◌∷◌, length}
use Rattle.forec_kernel.specs.Terms.{Expr, Num, Local, LocalAt, Var, SharedAt, TableAt, Un, Bin, And, Or, Choose, Call, Exprs, no_exprs, more_exprs, Branch, Stmt, Nop, Set, SetAt, PutAt, Clear, Seq, If, While, Pause, Par, Enter, Return, Stmts, no_stmts, more_stmts}
use Rattle.forec_kernel.specs.Shapes.{PlainKernel}
use Rattle.forec_kernel.specs.Texts.{uses_of, body_of}
use Rattle.forec_kernel.specs.Combining.{variable_of}
use Rattle.forec_kernel.specs.WellFormed.{users, threads_in, function_body}

-- the bounds of what a term names: the body of each int function, and of each thread
pub record Bounds : Type 0 where
  pub function : ℕ → ℕ
  pub thread : ℕ → ℕ

-- ---- expressions

abbrev mutual
  pub expr_bound : (ℕ → ℕ) → Expr → ℕ
  expr_bound f (Num n) = 1
  expr_bound f (Local slot) = 1
  expr_bound f (LocalAt slot n i place) = 1 + expr_bound f i
  expr_bound f (Var v) = 1
  expr_bound f (SharedAt v n i place) = 1 + expr_bound f i
  expr_bound f (TableAt t i place) = 1 + expr_bound f i
  expr_bound f (Un op a) = 1 + expr_bound f a
  expr_bound f (Bin op a b place) = 1 + expr_bound f a + expr_bound f b
  expr_bound f (And a b) = 1 + expr_bound f a + expr_bound f b
  expr_bound f (Or a b) = 1 + expr_bound f a + expr_bound f b
  expr_bound f (Choose t a b) = 1 + expr_bound f t + max (expr_bound f a) (expr_bound f b)
  expr_bound f (Call g args) = 1 + exprs_bound f args + f g

  pub exprs_bound : (ℕ → ℕ) → Exprs → ℕ
  exprs_bound f no_exprs = 0
  exprs_bound f (more_exprs e es) = expr_bound f e + exprs_bound f es

-- ---- what a par costs: the arguments and the bodies of its branches, and combining

abbrev pub args_bound : (ℕ → ℕ) → List Branch → ℕ
args_bound f [] = 0
args_bound f (b ∷ bs) = exprs_bound f b.args + args_bound f bs

abbrev pub bodies_bound : (ℕ → ℕ) → List ℕ → ℕ
bodies_bound thread [] = 0
bodies_bound thread (t ∷ ts) = thread t + bodies_bound thread ts

-- the values of m branches are combined by at most m - 1 calls
abbrev pub calls_bound : (ℕ → ℕ) → Option ℕ → ℕ → ℕ
calls_bound f None m = 0
calls_bound f (Some g) m = (m - 1) * (1 + f g)

-- of the variables of the parent
abbrev pub join_bound : PlainKernel → (ℕ → ℕ) → List ℕ → List ℕ → ℕ
join_bound k f branches [] = 0
join_bound k f branches (v ∷ vs) = calls_bound f (variable_of k v).combine (users k branches v) + join_bound k f branches vs

-- ---- statements of a thread that uses these variables, or of an int function

-- A test that fails comes after the last turn. A loop without bound finishes one turn, and pauses in the next, in one tick.
abbrev pub loop_bound : Option ℕ → ℕ → ℕ
loop_bound (Some n) turn = (n + 1) * turn
loop_bound None turn = 2 * turn

abbrev mutual
  pub stmt_bound : PlainKernel → Bounds → List ℕ → Stmt → ℕ
  stmt_bound k b uses Nop = 0
  stmt_bound k b uses (Set to e) = expr_bound b.function e + 1
  stmt_bound k b uses (SetAt slot n i e place) = expr_bound b.function i + expr_bound b.function e + 1
  stmt_bound k b uses (PutAt v n i e place) = expr_bound b.function i + expr_bound b.function e + 1
  stmt_bound k b uses (Clear slot n) = n
  stmt_bound k b uses (Seq list) = stmts_bound k b uses list
  stmt_bound k b uses (If e s r) = expr_bound b.function e + 1 + max (stmt_bound k b uses s) (stmt_bound k b uses r)
  stmt_bound k b uses (While e bound body place) = loop_bound bound (expr_bound b.function e + 1 + stmt_bound k b uses body)
  stmt_bound k b uses Pause = 1
  stmt_bound k b uses (Par branches) =
      args_bound b.function branches + 1 + bodies_bound b.thread (threads_in branches) + join_bound k b.function (threads_in branches) uses
  stmt_bound k b uses (Enter weak immediate e body) = 2 * (expr_bound b.function e + 1) + stmt_bound k b uses body
  stmt_bound k b uses (Return e) = expr_bound b.function e

  pub stmts_bound : PlainKernel → Bounds → List ℕ → Stmts → ℕ
  stmts_bound k b uses no_stmts = 0
  stmts_bound k b uses (more_stmts s rest) = stmt_bound k b uses s + stmts_bound k b uses rest

-- ---- int functions, threads, the kernel

-- at most so many calls deep: no function reaches itself, so as many as there are functions is enough
abbrev pub function_within : PlainKernel → ℕ → ℕ → ℕ
function_within k zero f = 0
function_within k (suc deep) f = stmt_bound k (record { function = function_within k deep; thread = λ t. 0 }) [] (function_body k f)

abbrev pub function_bound : PlainKernel → ℕ → ℕ
function_bound k = function_within k (length k.functions)

-- at most so many pars deep: branches have greater numbers than their parent
abbrev pub thread_within : PlainKernel → ℕ → ℕ → ℕ
thread_within k zero t = 0
thread_within k (suc deep) t =
    stmt_bound k (record { function = function_bound k; thread = thread_within k deep }) (uses_of k t) (body_of k t)

abbrev pub thread_bound : PlainKernel → ℕ → ℕ
thread_bound k = thread_within k (length k.threads)

-- of a tick of all threads
unfoldable pub worst_case : PlainKernel → ℕ
worst_case k = thread_bound k 0
