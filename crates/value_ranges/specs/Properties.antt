-- Terms of a kernel in which each number has a property, and each place at which a trap can be has one.
use Rattle.std.specs.Prelude.{IsTrue, Option, ℤ, List, [], ◌∷◌}
use Rattle.std.specs.List.{AllByRecursion}
use Rattle.forec_base.specs.declared.Place.{Place}
use Rattle.forec_base.specs.declared.operators.Binary.{Binary}
use Rattle.forec_kernel.specs.Terms.{Expr, Num, Local, LocalAt, Var, SharedAt, TableAt, Un, Bin, And, Or, Choose, Call, Exprs, no_exprs, more_exprs, Branch, Stmt, Nop, Set, SetAt, PutAt, Clear, Seq, If, While, Pause, Par, Enter, Return, Stmts, no_stmts, more_stmts}
use Rattle.forec_kernel.specs.Shapes.{PlainKernel}
use Rattle.forec_kernel.specs.Values.{place_or}
use Rattle.forec_kernel.specs.WellFormed.{can_divide}

-- a property of numbers, and one of places
pub record Property : Type 1 where
  pub OfNumber : ℤ → Type 0
  pub OfPlace : Place → Type 0

module _ (has : Property) where
  -- where an operator can divide, it has such a place
  abbrev pub DividesAt : Binary → Option Place → Type 0
  DividesAt op place = IsTrue (can_divide op) → has.OfPlace (place_or place)

  -- ---- terms

  abbrev mutual
    pub ExprHolds : Expr → Type 0
    ExprHolds (Num n) = has.OfNumber n
    ExprHolds (Local slot) = Unit {0}
    ExprHolds (LocalAt slot n i place) = ExprHolds i × has.OfPlace place
    ExprHolds (Var v) = Unit {0}
    ExprHolds (SharedAt v n i place) = ExprHolds i × has.OfPlace place
    ExprHolds (TableAt t i place) = ExprHolds i × has.OfPlace place
    ExprHolds (Un op a) = ExprHolds a
    ExprHolds (Bin op a b place) = ExprHolds a × ExprHolds b × DividesAt op place
    ExprHolds (And a b) = ExprHolds a × ExprHolds b
    ExprHolds (Or a b) = ExprHolds a × ExprHolds b
    ExprHolds (Choose t a b) = ExprHolds t × ExprHolds a × ExprHolds b
    ExprHolds (Call f args) = ExprsHolds args

    pub ExprsHolds : Exprs → Type 0
    ExprsHolds no_exprs = Unit {0}
    ExprsHolds (more_exprs e es) = ExprHolds e × ExprsHolds es

  abbrev pub BranchesHolds : List Branch → Type 0
  BranchesHolds [] = Unit {0}
  BranchesHolds (b ∷ bs) = ExprsHolds b.args × BranchesHolds bs

  abbrev mutual
    pub StmtHolds : Stmt → Type 0
    StmtHolds Nop = Unit {0}
    StmtHolds (Set to e) = ExprHolds e
    StmtHolds (SetAt slot n i e place) = ExprHolds i × ExprHolds e × has.OfPlace place
    StmtHolds (PutAt v n i e place) = ExprHolds i × ExprHolds e × has.OfPlace place
    StmtHolds (Clear slot n) = Unit {0}
    StmtHolds (Seq list) = StmtsHolds list
    StmtHolds (If e a b) = ExprHolds e × StmtHolds a × StmtHolds b
    StmtHolds (While e bound body place) = ExprHolds e × StmtHolds body × has.OfPlace place
    StmtHolds Pause = Unit {0}
    StmtHolds (Par branches) = BranchesHolds branches
    StmtHolds (Enter weak immediate e body) = ExprHolds e × StmtHolds body
    StmtHolds (Return e) = ExprHolds e

    pub StmtsHolds : Stmts → Type 0
    StmtsHolds no_stmts = Unit {0}
    StmtsHolds (more_stmts s rest) = StmtHolds s × StmtsHolds rest

  -- ---- a kernel

  -- each number and each such place in a body
  pub record BodiesHold (k : PlainKernel) : Type 0 where
    pub threads : AllByRecursion StmtHolds k.threads
    pub functions : AllByRecursion StmtHolds k.functions
