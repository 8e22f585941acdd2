-- The instructions of an expression, from an address of its block on: they leave its number on the stack.
use Rattle.std.specs.Prelude.{ℕ, ◌+◌, pos, List, [], ◌∷◌, ◌++◌, length}
use Rattle.forec_kernel.specs.Terms.{Expr, Num, Local, LocalAt, Var, SharedAt, TableAt, Un, Bin, And, Or, Choose, Call, Exprs, no_exprs, more_exprs}
use Rattle.thread_code.specs.declared.instruction.Instruction.{Instruction}
use Rattle.thread_code.specs.declared.instruction.Instruction.TheVariants as instruction

abbrev mutual
  pub expression_code : ℕ → Expr → List Instruction
  expression_code p (Num n) = instruction.Push n ∷ []
  expression_code p (Local x) = instruction.Load x ∷ []
  expression_code p (LocalAt x n i place) = expression_code p i ++ instruction.LoadAt x n place ∷ []
  expression_code p (Var v) = instruction.Get v ∷ []
  expression_code p (SharedAt v n i place) = expression_code p i ++ instruction.GetAt v n place ∷ []
  expression_code p (TableAt t i place) = expression_code p i ++ instruction.Table t place ∷ []
  expression_code p (Un op a) = expression_code p a ++ instruction.Unary op ∷ []
  expression_code p (Bin op a b place) =
      let left = expression_code p a in
      let right = expression_code (p + length left) b in
      left ++ (right ++ instruction.Binary op place ∷ [])
  -- the left side; where it is 0, past the right side to a 0
  expression_code p (And a b) =
      let left = expression_code p a in
      let q = p + length left + 1 in
      let right = expression_code q b in
      let r = q + length right in
      left ++ (instruction.Zero (r + 1 + 1) ∷ (right ++ instruction.Truth ∷ instruction.Jump (r + 1 + 1 + 1) ∷ instruction.Quiet (pos 0) ∷ []))
  -- the left side; where it isn't 0, past the right side to a 1
  expression_code p (Or a b) =
      let left = expression_code p a in
      let q = p + length left + 1 in
      let right = expression_code q b in
      let r = q + length right in
      left ++ (instruction.NonZero (r + 1 + 1) ∷ (right ++ instruction.Truth ∷ instruction.Jump (r + 1 + 1 + 1) ∷ instruction.Quiet (pos 1) ∷ []))
  expression_code p (Choose t a b) =
      let test = expression_code p t in
      let q = p + length test + 1 in
      let then = expression_code q a in
      let r = q + length then + 1 in
      let other = expression_code r b in
      test ++ (instruction.Zero r ∷ (then ++ instruction.Jump (r + length other) ∷ other))
  expression_code p (Call f args) = expressions_code p args ++ instruction.Call f ∷ []

  -- one after the other
  pub expressions_code : ℕ → Exprs → List Instruction
  expressions_code p no_exprs = []
  expressions_code p (more_exprs e rest) = let first = expression_code p e in first ++ expressions_code (p + length first) rest
