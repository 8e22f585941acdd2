-- What is asked of the calls in a term: each is of an allowed function, with as many arguments as it has parameters.
use Rattle.std.proofs.Common.{arith}
use Rattle.std.specs.Prelude.{ℕ, zero, suc, ◌≡◌, ◌≤◌, ℤ, Bool, true, false, Some, None, List, [], slice_get, replicate}
use Rattle.forec_kernel.specs.declared.terms.Spot.TheVariants as spot
use Rattle.forec_kernel.specs.Terms.{Expr, Num, Local, LocalAt, Var, SharedAt, TableAt, Un, Bin, And, Or, Choose, Call, Exprs, no_exprs, more_exprs, count_exprs, Stmt, Nop, Set, SetAt, PutAt, Clear, Seq, If, While, Pause, Par, Enter, Return, Stmts, no_stmts, more_stmts}
use Rattle.forec_kernel.specs.Shapes.{PlainKernel}
use Rattle.forec_kernel.specs.WellFormed.{TermScope, IsSharedArray, FineExpr}
use Rattle.forec_kernel.specs.Values.{Value, fresh_words}
use Rattle.thread_code.specs.Plain.{PlainBlock, PlainCode}
use Rattle.thread_code.specs.Valid.{function_arguments}
use Rattle.thread_code.specs.Machine.{Frame, Own, On, returned}
use Rattle.code_gen.proofs.Stretch.{point, Yields}

module _ (c : PlainCode) (ok : ℕ → Bool) where
  pub record FitsCall (f n : ℕ) : Type 0 where
    pub allowed : ok f ≡ true
    pub block : PlainBlock
    pub is : slice_get c.functions f ≡ Some block
    pub arity : function_arguments c f ≡ n

  abbrev mutual
    pub Fits : Expr → Type 0
    Fits (Num n) = Unit {0}
    Fits (Local x) = Unit {0}
    Fits (LocalAt x n i place) = Fits i
    Fits (Var v) = Unit {0}
    Fits (SharedAt v n i place) = Fits i
    Fits (TableAt t i place) = Fits i
    Fits (Un op a) = Fits a
    Fits (Bin op a b place) = Fits a × Fits b
    Fits (And a b) = Fits a × Fits b
    Fits (Or a b) = Fits a × Fits b
    Fits (Choose t a b) = Fits t × Fits a × Fits b
    Fits (Call f args) = FitsCall f (count_exprs args) × AllFit args

    pub AllFit : Exprs → Type 0
    AllFit no_exprs = Unit {0}
    AllFit (more_exprs e rest) = Fits e × AllFit rest

-- each allowed function's block, entered with arguments, gives what the function gives
abbrev pub CallsRun : PlainCode → ℕ → (ℕ → Bool) → (ℕ → List ℤ → Value) → Type 0
CallsRun c t ok call =
    (f : ℕ) → ok f ≡ true → (b : PlainBlock) → slice_get c.functions f ≡ Some b → (args : List ℤ) (fs : List Frame) (o : Own) (u : ℕ) →
    Yields c t (On (point b.steps 0 [] (fresh_words args b.words) (replicate b.counters 0)) fs o u) u (λ n v. returned c t n fs o v) (call f args)

-- an int function uses no variable, so no element of a shared array
pub no_elements : (k : PlainKernel) (words v n : ℕ) → IsSharedArray (record { kernel = k; words = words; uses = [] }) v n → ⊥
no_elements k words v zero h = let some : 1 ≤ 0 = h.some in absurd (omega arith)
no_elements k words v (suc n) h = let used : false ≡ true = h.used in cc

-- What stands in an int function's body: it reads no variable.
module _ (c : PlainCode) (ok : ℕ → Bool) (z : TermScope) where
  -- an expression of a function
  pub record Own_expression (e : Expr) : Type 0 where
    pub fits : Fits c ok e
    pub fine : FineExpr z e

  abbrev mutual
    pub BodyFits : Stmt → Type 0
    BodyFits Nop = Unit {0}
    BodyFits (Set (spot.Local x) e) = Own_expression e
    BodyFits (Set (spot.Variable v) e) = ⊥
    BodyFits (SetAt x n i e place) = Own_expression i × Own_expression e
    BodyFits (PutAt v n i e place) = ⊥
    BodyFits (Clear x n) = Unit {0}
    BodyFits (Seq list) = BodiesFit list
    BodyFits (If e then other) = Own_expression e × BodyFits then × BodyFits other
    BodyFits (While e None body place) = ⊥
    BodyFits (While e (Some n) body place) = Own_expression e × BodyFits body
    BodyFits Pause = ⊥
    BodyFits (Par branches) = ⊥
    BodyFits (Enter weak immediate e body) = ⊥
    BodyFits (Return e) = Own_expression e

    pub BodiesFit : Stmts → Type 0
    BodiesFit no_stmts = Unit {0}
    BodiesFit (more_stmts s rest) = BodyFits s × BodiesFit rest
