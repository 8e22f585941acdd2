-- What a kernel keeps: each number names something, threads and pars fit together, int functions end, and all is within the limits.
use Rattle.std.specs.Prelude.{ℕ, zero, suc, ◌+◌, ◌≡◌, ◌≢◌, ◌<◌, ◌≤◌, ◌==◌, max, Bool, true, false, cond, ◌&&◌, ◌||◌, IsTrue, nat_lt, ℤ, Option, Some, None, IsSome, IsNone, List, [], ◌∷◌, ◌++◌, map, length, get_or, sum}
use Rattle.forec_base.specs.declared.operators.Binary.{Binary}
use Rattle.forec_base.specs.declared.operators.Binary.TheVariants.{Div, Rem}
use Rattle.forec_base.specs.declared.Place.{Place}
use Rattle.forec_base.specs.declared.limits.TheConstants.{MAX_ARRAY_LENGTH, MAX_TURNS, MAX_WORDS, MAX_DEPTH, MAX_PARAMS, MAX_THREADS, MAX_GLOBALS, MAX_FUNCTIONS, MAX_INPUTS, MAX_OUTPUTS, MAX_TABLE_WORDS, MAX_TERMS}
use Rattle.forec_kernel.specs.declared.terms.Spot.{Spot}
use Rattle.forec_kernel.specs.declared.terms.Spot.TheVariants as spot
use Rattle.forec_kernel.specs.declared.shape.Variable.{Variable}
use Rattle.forec_kernel.specs.declared.shape.KernelParts.{KernelParts}
use Rattle.forec_kernel.specs.Terms.{Expr, Num, Local, LocalAt, Var, SharedAt, TableAt, Un, Bin, And, Or, Choose, Call, Exprs, no_exprs, more_exprs, count_exprs, Branch, Stmt, Nop, Set, SetAt, PutAt, Clear, Seq, If, While, Pause, Par, Enter, Return, Stmts, no_stmts, more_stmts}
use Rattle.forec_kernel.specs.Shapes.{PlainKernel, PlainThread, plain_kernel}
use Rattle.forec_kernel.specs.Values.{function_words}
use Rattle.forec_kernel.specs.Texts.{uses_of, words_of, body_of}
use Rattle.forec_kernel.specs.Combining.{contains, variable_of}
use Rattle.forec_kernel.specs.Weight.{expr_weight, branches_weight}

-- ---- lists of numbers

-- each number is greater than the one before it
abbrev pub ascends : List ℕ → Bool
ascends [] = true
ascends (a ∷ []) = true
ascends (a ∷ b ∷ rest) = nat_lt a b && ascends (b ∷ rest)

abbrev pub count_up : ℕ → ℕ → List ℕ
count_up from zero = []
count_up from (suc n) = from ∷ count_up (suc from) n

abbrev pub distinct : List ℕ → Bool
distinct [] = true
distinct (a ∷ rest) = cond (contains a rest) false (distinct rest)

abbrev pub all_in : List ℕ → List ℕ → Bool
all_in [] bs = true
all_in (a ∷ rest) bs = contains a bs && all_in rest bs

abbrev pub all_below : ℕ → List ℕ → Bool
all_below n [] = true
all_below n (a ∷ rest) = nat_lt a n && all_below n rest

abbrev pub greatest : (ℕ → ℕ) → List ℕ → ℕ
greatest f [] = 0
greatest f (a ∷ rest) = max (f a) (greatest f rest)

-- ---- terms in range

-- what a term may name: the kernel's tables and functions, so many words, these variables
pub record TermScope : Type 0 where
  pub kernel : PlainKernel
  pub words : ℕ
  pub uses : List ℕ

abbrev pub function_params : PlainKernel → ℕ → ℕ
function_params k f = (get_or k.shape.functions f (record { params = 0; words = 0 })).params

abbrev pub blank_thread : PlainThread
blank_thread = record { parent = None; par = None; name = None; params = 0; words = 0; uses = [] }

abbrev pub thread_of : PlainKernel → ℕ → PlainThread
thread_of k t = get_or k.shape.threads t blank_thread

abbrev pub can_divide : Binary → Bool
can_divide Div = true
can_divide Rem = true
can_divide _ = false

abbrev pub has_place : Option Place → Bool
has_place (Some place) = true
has_place None = false

pub record IsArray (s : TermScope) (slot n : ℕ) : Type 0 where
  pub within : slot + n ≤ s.words
  pub some : 1 ≤ n
  pub most : n ≤ MAX_ARRAY_LENGTH

-- the elements of a shared array: n variables that stand in a row, each with a copy
pub record IsSharedArray (s : TermScope) (v n : ℕ) : Type 0 where
  pub used : IsTrue (all_in (count_up v n) s.uses)
  pub some : 1 ≤ n
  pub most : n ≤ MAX_ARRAY_LENGTH

abbrev mutual
  pub FineExpr : TermScope → Expr → Type 0
  FineExpr s (Num n) = Unit {0}
  FineExpr s (Local slot) = slot < s.words
  FineExpr s (LocalAt slot n i place) = IsArray s slot n × FineExpr s i
  FineExpr s (Var v) = IsTrue (contains v s.uses)
  FineExpr s (SharedAt v n i place) = IsSharedArray s v n × FineExpr s i
  FineExpr s (TableAt t i place) = (t < length s.kernel.shape.tables) × FineExpr s i
  FineExpr s (Un op a) = FineExpr s a
  FineExpr s (Bin op a b place) = (has_place place ≡ can_divide op) × FineExpr s a × FineExpr s b
  FineExpr s (And a b) = FineExpr s a × FineExpr s b
  FineExpr s (Or a b) = FineExpr s a × FineExpr s b
  FineExpr s (Choose t a b) = FineExpr s t × FineExpr s a × FineExpr s b
  FineExpr s (Call f args) =
      (f < length s.kernel.functions) × (count_exprs args ≡ function_params s.kernel f) × FineExprs s args

  pub FineExprs : TermScope → Exprs → Type 0
  FineExprs s no_exprs = Unit {0}
  FineExprs s (more_exprs e es) = FineExpr s e × FineExprs s es

abbrev pub FineSpot : TermScope → Spot → Type 0
FineSpot s (spot.Local slot) = slot < s.words
FineSpot s (spot.Variable v) = IsTrue (contains v s.uses)

pub record FineBranch (s : TermScope) (b : Branch) : Type 0 where
  pub named : b.thread < length s.kernel.threads
  pub count : count_exprs b.args ≡ (thread_of s.kernel b.thread).params
  pub args : FineExprs s b.args

abbrev pub FineBranches : TermScope → List Branch → Type 0
FineBranches s [] = Unit {0}
FineBranches s (b ∷ bs) = FineBranch s b × FineBranches s bs

abbrev pub FineBound : Bool → Option ℕ → Type 0
FineBound function (Some n) = n ≤ MAX_TURNS
FineBound function None = IsTrue (cond function false true)

-- a statement of an int function, or of a thread
abbrev mutual
  pub FineStmt : (function : Bool) → TermScope → Stmt → Type 0
  FineStmt f s Nop = Unit {0}
  FineStmt f s (Set to e) = FineSpot s to × FineExpr s e
  FineStmt f s (SetAt slot n i e place) = IsArray s slot n × FineExpr s i × FineExpr s e
  FineStmt f s (PutAt v n i e place) = IsSharedArray s v n × FineExpr s i × FineExpr s e
  FineStmt f s (Clear slot n) = IsArray s slot n
  FineStmt f s (Seq list) = FineStmts f s list
  FineStmt f s (If e a b) = FineExpr s e × FineStmt f s a × FineStmt f s b
  FineStmt f s (While e bound body place) = FineBound f bound × FineExpr s e × FineStmt f s body
  FineStmt f s Pause = IsTrue (cond f false true)
  FineStmt f s (Par branches) = IsTrue (cond f false true) × (branches ≢ []) × FineBranches s branches
  FineStmt f s (Enter weak immediate e body) = IsTrue (cond f false true) × FineExpr s e × FineStmt f s body
  FineStmt f s (Return e) = IsTrue f × FineExpr s e

  pub FineStmts : (function : Bool) → TermScope → Stmts → Type 0
  FineStmts f s no_stmts = Unit {0}
  FineStmts f s (more_stmts a rest) = FineStmt f s a × FineStmts f s rest

-- ---- the pars of a body, each as the threads of its branches

abbrev pub threads_in : List Branch → List ℕ
threads_in = map (λ b. b.thread)

abbrev mutual
  pub pars_of : Stmt → List (List ℕ)
  pars_of Nop = []
  pars_of (Set to e) = []
  pars_of (SetAt slot n i e place) = []
  pars_of (PutAt v n i e place) = []
  pars_of (Clear slot n) = []
  pars_of (Seq list) = pars_in list
  pars_of (If e a b) = pars_of a ++ pars_of b
  pars_of (While e bound body place) = pars_of body
  pars_of Pause = []
  pars_of (Par branches) = threads_in branches ∷ []
  pars_of (Enter weak immediate e body) = pars_of body
  pars_of (Return e) = []

  pub pars_in : Stmts → List (List ℕ)
  pars_in no_stmts = []
  pars_in (more_stmts a rest) = pars_of a ++ pars_in rest

abbrev pub joined_lists : List (List ℕ) → List ℕ
joined_lists [] = []
joined_lists (xs ∷ rest) = xs ++ joined_lists rest

abbrev pub is_par : Option ℕ → ℕ → Bool
is_par None n = false
is_par (Some m) n = m == n

-- the threads with a par's number, in ascending order
abbrev pub branches_of : List PlainThread → ℕ → ℕ → List ℕ
branches_of [] t n = []
branches_of (s ∷ ss) t n = cond (is_par s.par n) (t ∷ branches_of ss (suc t) n) (branches_of ss (suc t) n)

-- Pars are numbered in the order of their first branches: each thread's par was seen before, or is the next one.
abbrev pub numbered : ℕ → List PlainThread → Bool
numbered next [] = true
numbered next (s ∷ ss) = elim s.par [ None ↦ numbered next ss | Some n ↦ (nat_lt n next && numbered next ss) || (n == next && numbered (suc next) ss) ]

pub record FinePar (k : PlainKernel) (t : ℕ) (branches : List ℕ) : Type 0 where
  pub number : ℕ
  pub are : branches ≡ branches_of k.shape.threads 0 number
  pub parent : (b : ℕ) → IsTrue (contains b branches) → (thread_of k b).parent ≡ Some t

-- ---- int functions: the calls in a body, and whether it returns

abbrev mutual
  pub calls_of : Expr → List ℕ
  calls_of (Num n) = []
  calls_of (Local slot) = []
  calls_of (LocalAt slot n i place) = calls_of i
  calls_of (Var v) = []
  calls_of (SharedAt v n i place) = calls_of i
  calls_of (TableAt t i place) = calls_of i
  calls_of (Un op a) = calls_of a
  calls_of (Bin op a b place) = calls_of a ++ calls_of b
  calls_of (And a b) = calls_of a ++ calls_of b
  calls_of (Or a b) = calls_of a ++ calls_of b
  calls_of (Choose t a b) = calls_of t ++ calls_of a ++ calls_of b
  calls_of (Call f args) = f ∷ calls_in args

  pub calls_in : Exprs → List ℕ
  calls_in no_exprs = []
  calls_in (more_exprs e es) = calls_of e ++ calls_in es

abbrev pub branch_calls : List Branch → List ℕ
branch_calls [] = []
branch_calls (b ∷ bs) = calls_in b.args ++ branch_calls bs

abbrev mutual
  pub stmt_calls : Stmt → List ℕ
  stmt_calls Nop = []
  stmt_calls (Set to e) = calls_of e
  stmt_calls (SetAt slot n i e place) = calls_of i ++ calls_of e
  stmt_calls (PutAt v n i e place) = calls_of i ++ calls_of e
  stmt_calls (Clear slot n) = []
  stmt_calls (Seq list) = stmts_calls list
  stmt_calls (If e a b) = calls_of e ++ stmt_calls a ++ stmt_calls b
  stmt_calls (While e bound body place) = calls_of e ++ stmt_calls body
  stmt_calls Pause = []
  stmt_calls (Par branches) = branch_calls branches
  stmt_calls (Enter weak immediate e body) = calls_of e ++ stmt_calls body
  stmt_calls (Return e) = calls_of e

  pub stmts_calls : Stmts → List ℕ
  stmts_calls no_stmts = []
  stmts_calls (more_stmts a rest) = stmt_calls a ++ stmts_calls rest

abbrev mutual
  pub returns : Stmt → Bool
  returns Nop = false
  returns (Set to e) = false
  returns (SetAt slot n i e place) = false
  returns (PutAt v n i e place) = false
  returns (Clear slot n) = false
  returns (Seq list) = some_returns list
  returns (If e a b) = returns a && returns b
  returns (While e bound body place) = false
  returns Pause = false
  returns (Par branches) = false
  returns (Enter weak immediate e body) = false
  returns (Return e) = true

  pub some_returns : Stmts → Bool
  some_returns no_stmts = false
  some_returns (more_stmts a rest) = returns a || some_returns rest

abbrev pub function_body : PlainKernel → ℕ → Stmt
function_body k f = get_or k.functions f Nop

-- the combine functions that a par's branches may call: those of the variables that two or more of them use
abbrev pub users : PlainKernel → List ℕ → ℕ → ℕ
users k [] v = 0
users k (t ∷ ts) v = cond (contains v (uses_of k t)) (suc (users k ts v)) (users k ts v)

abbrev pub combine_calls : PlainKernel → List ℕ → List ℕ → List ℕ
combine_calls k branches [] = []
combine_calls k branches (v ∷ vs) =
    elim (variable_of k v).combine [
      | None ↦ combine_calls k branches vs
      | Some f ↦ cond (nat_lt 1 (users k branches v)) (f ∷ combine_calls k branches vs) (combine_calls k branches vs)
    ]

abbrev pub par_calls : PlainKernel → List ℕ → List (List ℕ) → List ℕ
par_calls k uses [] = []
par_calls k uses (bs ∷ rest) = combine_calls k bs uses ++ par_calls k uses rest

-- all int functions that a thread's body can call
abbrev pub thread_calls : PlainKernel → ℕ → List ℕ
thread_calls k t = stmt_calls (body_of k t) ++ par_calls k (uses_of k t) (pars_of (body_of k t))

-- the greatest sum of a measure of functions along a chain of calls of at most so many functions
abbrev pub chain : (ℕ → ℕ) → PlainKernel → ℕ → ℕ → ℕ
chain own k zero f = 0
chain own k (suc deep) f = own f + greatest (chain own k deep) (stmt_calls (function_body k f))

-- ---- how many terms, and how deep

abbrev mutual
  pub stmt_terms : Stmt → ℕ
  stmt_terms Nop = 1
  stmt_terms (Set to e) = 1 + expr_weight e
  stmt_terms (SetAt slot n i e place) = 1 + expr_weight i + expr_weight e
  stmt_terms (PutAt v n i e place) = 1 + expr_weight i + expr_weight e
  stmt_terms (Clear slot n) = 1
  stmt_terms (Seq list) = 1 + stmts_terms list
  stmt_terms (If e a b) = 1 + expr_weight e + stmt_terms a + stmt_terms b
  stmt_terms (While e bound body place) = 1 + expr_weight e + stmt_terms body
  stmt_terms Pause = 1
  stmt_terms (Par branches) = 1 + branches_weight branches
  stmt_terms (Enter weak immediate e body) = 1 + expr_weight e + stmt_terms body
  stmt_terms (Return e) = 1 + expr_weight e

  pub stmts_terms : Stmts → ℕ
  stmts_terms no_stmts = 0
  stmts_terms (more_stmts a rest) = stmt_terms a + stmts_terms rest

abbrev pub bodies_terms : List Stmt → ℕ
bodies_terms [] = 0
bodies_terms (a ∷ rest) = stmt_terms a + bodies_terms rest

abbrev mutual
  pub expr_depth : Expr → ℕ
  expr_depth (Num n) = 1
  expr_depth (Local slot) = 1
  expr_depth (LocalAt slot n i place) = 1 + expr_depth i
  expr_depth (Var v) = 1
  expr_depth (SharedAt v n i place) = 1 + expr_depth i
  expr_depth (TableAt t i place) = 1 + expr_depth i
  expr_depth (Un op a) = 1 + expr_depth a
  expr_depth (Bin op a b place) = 1 + max (expr_depth a) (expr_depth b)
  expr_depth (And a b) = 1 + max (expr_depth a) (expr_depth b)
  expr_depth (Or a b) = 1 + max (expr_depth a) (expr_depth b)
  expr_depth (Choose t a b) = 1 + max (expr_depth t) (max (expr_depth a) (expr_depth b))
  expr_depth (Call f args) = 1 + exprs_depth args

  pub exprs_depth : Exprs → ℕ
  exprs_depth no_exprs = 0
  exprs_depth (more_exprs e es) = max (expr_depth e) (exprs_depth es)

abbrev pub branches_depth : List Branch → ℕ
branches_depth [] = 0
branches_depth (b ∷ bs) = max (exprs_depth b.args) (branches_depth bs)

abbrev mutual
  pub stmt_depth : Stmt → ℕ
  stmt_depth Nop = 1
  stmt_depth (Set to e) = 1 + expr_depth e
  stmt_depth (SetAt slot n i e place) = 1 + max (expr_depth i) (expr_depth e)
  stmt_depth (PutAt v n i e place) = 1 + max (expr_depth i) (expr_depth e)
  stmt_depth (Clear slot n) = 1
  stmt_depth (Seq list) = 1 + stmts_depth list
  stmt_depth (If e a b) = 1 + max (expr_depth e) (max (stmt_depth a) (stmt_depth b))
  stmt_depth (While e bound body place) = 1 + max (expr_depth e) (stmt_depth body)
  stmt_depth Pause = 1
  stmt_depth (Par branches) = 1 + branches_depth branches
  stmt_depth (Enter weak immediate e body) = 1 + max (expr_depth e) (stmt_depth body)
  stmt_depth (Return e) = 1 + expr_depth e

  pub stmts_depth : Stmts → ℕ
  stmts_depth no_stmts = 0
  stmts_depth (more_stmts a rest) = max (stmt_depth a) (stmts_depth rest)

-- ---- the conditions

pub record FineThread (k : PlainKernel) (t : ℕ) : Type 0 where
  pub params : (thread_of k t).params ≤ words_of k t
  pub uses : IsTrue (ascends (uses_of k t))
  pub body : FineStmt false (record { kernel = k; words = words_of k t; uses = uses_of k t }) (body_of k t)
  pub pars : (branches : List ℕ) (i : ℕ) → i < length (pars_of (body_of k t)) → branches ≡ get_or (pars_of (body_of k t)) i [] → FinePar k t branches
  pub words : words_of k t + greatest (chain (function_words k.shape.functions) k (length k.functions)) (thread_calls k t) ≤ MAX_WORDS
  pub depth : stmt_depth (body_of k t) + greatest (chain (λ f. stmt_depth (function_body k f)) k (length k.functions)) (thread_calls k t) ≤ MAX_DEPTH

-- a thread but 0
pub record FineChild (k : PlainKernel) (t : ℕ) : Type 0 where
  pub parent : ℕ
  pub is : (thread_of k t).parent ≡ Some parent
  pub below : parent < t
  pub par : IsSome (thread_of k t).par
  pub uses : IsTrue (all_in (uses_of k t) (uses_of k parent))

pub record FineRoot (k : PlainKernel) : Type 0 where
  pub parent : IsNone (thread_of k 0).parent
  pub par : IsNone (thread_of k 0).par
  pub params : (thread_of k 0).params ≡ 0
  pub uses : uses_of k 0 ≡ count_up 0 (length k.shape.variables)

pub record FineFunction (k : PlainKernel) (f : ℕ) : Type 0 where
  pub params : function_params k f ≤ function_words k.shape.functions f
  pub few : function_params k f ≤ MAX_PARAMS
  pub body : FineStmt true (record { kernel = k; words = function_words k.shape.functions f; uses = [] }) (function_body k f)
  pub returns : IsTrue (returns (function_body k f))
  pub depth : chain (λ g. stmt_depth (function_body k g)) k (length k.functions) f ≤ MAX_DEPTH

-- no function reaches itself: a rank falls along each call
pub record Ranked (k : PlainKernel) : Type 0 where
  pub rank : ℕ → ℕ
  pub falls : (f g : ℕ) → f < length k.functions → IsTrue (contains g (stmt_calls (function_body k f))) → rank g < rank f

pub record FineVariable (k : PlainKernel) (v : Variable) : Type 0 where
  pub combine : (f : ℕ) → v.combine ≡ Some f → (f < length k.functions) × (function_params k f ≡ 2)

pub record FineTable (table : List ℤ) : Type 0 where
  pub some : 1 ≤ length table
  pub most : length table ≤ MAX_ARRAY_LENGTH

pub record WellFormed (k : PlainKernel) : Type 0 where
  pub bodies : length k.threads ≡ length k.shape.threads
  pub functions : length k.functions ≡ length k.shape.functions
  pub some : 0 < length k.threads
  pub root : FineRoot k
  pub each_thread : (t : ℕ) → t < length k.threads → FineThread k t
  pub each_child : (t : ℕ) → 0 < t → t < length k.threads → FineChild k t
  pub each_function : (f : ℕ) → f < length k.functions → FineFunction k f
  pub each_variable : (v : ℕ) → v < length k.shape.variables → FineVariable k (variable_of k v)
  pub each_table : (t : ℕ) → t < length k.shape.tables → FineTable (get_or k.shape.tables t [])
  pub ranked : Ranked k
  pub once : IsTrue (distinct (joined_lists (map joined_lists (map pars_of k.threads))))
  pub in_order : IsTrue (numbered 0 k.shape.threads)
  pub inputs_named : IsTrue (all_below (length k.shape.variables) k.shape.inputs)
  pub inputs_once : IsTrue (distinct k.shape.inputs)
  pub outputs_named : IsTrue (all_below (length k.shape.variables) k.shape.outputs)
  pub outputs_once : IsTrue (distinct k.shape.outputs)
  pub names : length k.shape.names ≡ length k.shape.variables
  pub few_threads : length k.threads ≤ MAX_THREADS
  pub few_variables : length k.shape.variables ≤ MAX_GLOBALS
  pub few_functions : length k.functions ≤ MAX_FUNCTIONS
  pub few_inputs : length k.shape.inputs ≤ MAX_INPUTS
  pub few_outputs : length k.shape.outputs ≤ MAX_OUTPUTS
  pub few_table_words : sum (map (λ table. length table) k.shape.tables) ≤ MAX_TABLE_WORDS
  pub few_terms : bodies_terms k.threads + bodies_terms k.functions ≤ MAX_TERMS

abbrev pub IsKernel : KernelParts → Type 0
IsKernel parts = WellFormed (plain_kernel parts)
