-- The instructions of a statement, from an address of its block on. It begins and ends with an empty stack.
use Rattle.std.specs.Prelude.{ℕ, zero, suc, ◌+◌, Bool, true, false, Option, Some, None, List, [], ◌∷◌, ◌++◌, length}
use Rattle.forec_base.specs.declared.Place.{Place}
use Rattle.forec_kernel.specs.declared.terms.Spot.{Spot}
use Rattle.forec_kernel.specs.declared.terms.Spot.TheVariants as spot
use Rattle.forec_kernel.specs.Terms.{Expr, Branch, Stmt, Nop, Set, SetAt, PutAt, Clear, Seq, If, While, Pause, Par, Enter, Return, Stmts, no_stmts, more_stmts}
use Rattle.forec_kernel.specs.Shapes.{PlainThread}
use Rattle.thread_code.specs.declared.instruction.Instruction.{Instruction}
use Rattle.thread_code.specs.declared.instruction.Instruction.TheVariants as instruction
use Rattle.code_gen.specs.Expressions.{expression_code, expressions_code}

-- ---- what stands round a statement

-- the innermost first: a loop with a bound, or an abort with the address after it
pub data Around : Type 0 where
  Outside : Around
  InLoop : (bound : ℕ) → Around → Around
  InAbort : (weak : Bool) → (test : Expr) → (exit : ℕ) → Around → Around

-- how many loops with a bound stand round a statement: the counter of the next one
abbrev pub loops : Around → ℕ
loops Outside = 0
loops (InLoop n a) = suc (loops a)
loops (InAbort weak e x a) = loops a

-- how many weak aborts stand round a statement: the flag of the next one
abbrev pub weaks : Around → ℕ
weaks Outside = 0
weaks (InLoop n a) = weaks a
weaks (InAbort false e x a) = weaks a
weaks (InAbort true e x a) = suc (weaks a)

-- ---- pauses

-- Before a pause: out of the innermost weak abort whose flag is set.
abbrev pub checks : Around → List Instruction
checks Outside = []
checks (InLoop n a) = checks a
checks (InAbort false e x a) = checks a
checks (InAbort true e x a) = instruction.Flagged (weaks a) x ∷ checks a

-- after an abort's test: a strong one leaves at once, a weak one sets its flag
abbrev pub guard : Bool → ℕ → ℕ → Instruction
guard false flag x = instruction.NonZero x
guard true flag x = instruction.Keep flag

-- At a wake, from the outside in: the tests of the aborts, and the turns of the loops anew.
abbrev pub prologue : ℕ → Around → List Instruction
prologue w Outside = []
prologue w (InLoop n a) = prologue w a ++ instruction.Fill (loops a) n ∷ []
prologue w (InAbort weak e x a) =
    let outer = prologue w a in
    outer ++ (expression_code (w + length outer) e ++ guard weak (weaks a) x ∷ [])

-- out of weak aborts, else the pause, and what is done at each wake
abbrev pub wait_code : ℕ → Around → List Instruction
wait_code p a =
    let w = p + length (checks a) + 1 in
    checks a ++ instruction.Pause w ∷ prologue w a

abbrev pub pause_code : ℕ → Around → List Instruction
pause_code p a =
    let w = p + 1 + length (checks a) + 1 in
    instruction.Unit 1 ∷ (checks a ++ instruction.Pause w ∷ prologue w a)

-- A fork at q, its arguments on the stack. Where all branches have ended it goes to the end, else it pauses; at a wake the branches go on.
abbrev pub fork_code : ℕ → ℕ → Around → List Instruction
fork_code j q a =
    let c = length (checks a) in
    let w = q + 1 + 1 + c + 1 in
    let g = w + length (prologue w a) in
    let end = g + 1 + 1 + c + 1 in
    instruction.Fork j (q + 1 + 1) ∷ instruction.Jump end ∷ (checks a ++ instruction.Pause w ∷ (prologue w a ++ instruction.Again j (g + 1 + 1) ∷ instruction.Jump end ∷ (checks a ++ instruction.Pause w ∷ [])))

-- ---- the parts of a statement

abbrev pub set_code : Spot → Instruction
set_code (spot.Local x) = instruction.Store x
set_code (spot.Variable v) = instruction.Put v

abbrev pub if_code : ℕ → List Instruction → (ℕ → List Instruction) → (ℕ → List Instruction) → List Instruction
if_code p test then other =
    let q = p + length test + 1 in
    let r = q + length (then q) + 1 in
    test ++ (instruction.Zero r ∷ (then q ++ instruction.Jump (r + length (other r)) ∷ other r))

-- a loop with a bound is counted
abbrev pub inner : Option ℕ → Around → Around
inner None a = a
inner (Some n) a = InLoop n a

abbrev pub fill_code : Option ℕ → ℕ → List Instruction
fill_code None w = []
fill_code (Some n) w = instruction.Fill w n ∷ []

abbrev pub turn_code : Option ℕ → ℕ → Place → List Instruction
turn_code None w place = []
turn_code (Some n) w place = instruction.Turn w place ∷ []

-- a loop from its test at h on
abbrev pub loop_code : ℕ → List Instruction → List Instruction → (ℕ → List Instruction) → List Instruction
loop_code h test turn body =
    let b = h + length test + 1 + length turn in
    let x = b + length (body b) + 1 in
    test ++ (instruction.Zero x ∷ (turn ++ (body b ++ instruction.Jump h ∷ [])))

-- the start of an abort: its test where it is immediate
abbrev pub enter_code : Bool → Bool → ℕ → ℕ → List Instruction → List Instruction
enter_code false false flag x test = []
enter_code true false flag x test = instruction.Flag flag false ∷ []
enter_code weak true flag x test = test ++ guard weak flag x ∷ []

-- the start of an abort at p
abbrev pub entry_code : Bool → Bool → ℕ → ℕ → ℕ → Expr → List Instruction
entry_code weak immediate flag x p e = enter_code weak immediate flag x (expression_code p e)

-- the number of a par: its branches have it
abbrev pub par_in : List PlainThread → ℕ → Option ℕ
par_in [] t = None
par_in (s ∷ ss) zero = s.par
par_in (s ∷ ss) (suc t) = par_in ss t

abbrev pub bound_or_zero : Option ℕ → ℕ
bound_or_zero None = 0
bound_or_zero (Some n) = n

abbrev pub par_number : List PlainThread → List Branch → ℕ
par_number ts [] = 0
par_number ts (b ∷ bs) = bound_or_zero (par_in ts b.thread)

-- the arguments of all branches, in order
abbrev pub arguments_code : ℕ → List Branch → List Instruction
arguments_code p [] = []
arguments_code p (b ∷ bs) = let first = expressions_code p b.args in first ++ arguments_code (p + length first) bs

-- ---- statements

abbrev mutual
  pub statement_code : List PlainThread → Around → ℕ → Stmt → List Instruction
  statement_code ts a p Nop = []
  statement_code ts a p (Set to e) = expression_code p e ++ set_code to ∷ []
  statement_code ts a p (SetAt x n i e place) =
      let index = expression_code p i in
      index ++ (expression_code (p + length index) e ++ instruction.StoreAt x n place ∷ [])
  statement_code ts a p (PutAt v n i e place) =
      let index = expression_code p i in
      index ++ (expression_code (p + length index) e ++ instruction.PutAt v n place ∷ [])
  statement_code ts a p (Clear x n) = instruction.Clear x n ∷ []
  statement_code ts a p (Seq list) = statements_code ts a p list
  statement_code ts a p (If e then other) = if_code p (expression_code p e) (λ q. statement_code ts a q then) (λ r. statement_code ts a r other)
  statement_code ts a p (While e bound body place) =
      let fill = fill_code bound (loops a) in
      let h = p + length fill in
      fill ++ loop_code h (expression_code h e) (turn_code bound (loops a) place) (λ b. statement_code ts (inner bound a) b body)
  statement_code ts a p Pause = pause_code p a
  statement_code ts a p (Par branches) =
      let args = arguments_code p branches in
      args ++ fork_code (par_number ts branches) (p + length args) a
  -- (how long the body's code is does not depend on where it ends)
  statement_code ts a p (Enter weak immediate e body) =
      let q = p + length (enter_code weak immediate (weaks a) 0 (expression_code p e)) in
      let x = q + length (statement_code ts (InAbort weak e 0 a) q body) in
      enter_code weak immediate (weaks a) x (expression_code p e) ++ statement_code ts (InAbort weak e x a) q body
  statement_code ts a p (Return e) = expression_code p e ++ instruction.Return ∷ []

  pub statements_code : List PlainThread → Around → ℕ → Stmts → List Instruction
  statements_code ts a p no_stmts = []
  statements_code ts a p (more_stmts s rest) =
      let first = statement_code ts a p s in
      first ++ statements_code ts a (p + length first) rest
