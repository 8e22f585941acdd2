-- Sizes that are counted are the lengths of the code.
use Rattle.std.proofs.Common.{◌≡◌, ℕ, ◌+◌, List, [], ◌∷◌, ◌++◌, length, Option, Some, None, Bool, true, false, refl, length-append, arith}
use Rattle.forec_kernel.specs.Terms.{Expr, Num, Local, LocalAt, Var, SharedAt, TableAt, Un, Bin, And, Or, Choose, Call, Exprs, no_exprs, more_exprs, Branch, Stmt, Nop, Set, SetAt, PutAt, Clear, Seq, If, While, Pause, Par, Enter, Return, Stmts, no_stmts, more_stmts}
use Rattle.forec_kernel.specs.Shapes.{PlainThread}
use Rattle.thread_code.specs.declared.instruction.Instruction.TheVariants as instruction
use Rattle.code_gen.specs.Expressions.{expression_code, expressions_code}
use Rattle.code_gen.specs.Statements.{Around, Outside, InAbort, loops, weaks, checks, guard, prologue, fork_code, inner, fill_code, turn_code, loop_code, enter_code, par_number, arguments_code, statement_code, statements_code}
use Rattle.code_sizes.specs.Sizes.{expression_length, expressions_length, arguments_length, count_if, counted_loops, entry_length, statement_length, statements_length}
use Rattle.code_gen.proofs.Lengths.{loop_length, if_length, fork_length}

mutual
  pub expression_is : (p : ℕ) (e : Expr) → length (expression_code p e) ≡ expression_length e
  expression_is p (Num n) = refl
  expression_is p (Local x) = refl
  expression_is p (LocalAt x n i place) = omega (arith, expression_is p i, length-append (expression_code p i) (instruction.LoadAt x n place ∷ []))
  expression_is p (Var v) = refl
  expression_is p (SharedAt v n i place) = omega (arith, expression_is p i, length-append (expression_code p i) (instruction.GetAt v n place ∷ []))
  expression_is p (TableAt t i place) = omega (arith, expression_is p i, length-append (expression_code p i) (instruction.Table t place ∷ []))
  expression_is p (Un op a) = omega (arith, expression_is p a, length-append (expression_code p a) (instruction.Unary op ∷ []))
  expression_is p (Bin op a b place) =
      let left = expression_code p a in
      let right = expression_code (p + length left) b in
      omega (arith, expression_is p a, expression_is (p + length left) b, length-append left (right ++ instruction.Binary op place ∷ []), length-append right (instruction.Binary op place ∷ []))
  expression_is p (And a b) =
      let left = expression_code p a in
      let q = p + length left + 1 in
      let right = expression_code q b in
      let r = q + length right in
      let last = instruction.Truth ∷ instruction.Jump (r + 1 + 1 + 1) ∷ instruction.Quiet (Rattle.std.specs.Prelude.pos 0) ∷ [] in
      omega (arith, expression_is p a, expression_is q b, length-append left (instruction.Zero (r + 1 + 1) ∷ (right ++ last)), length-append right last)
  expression_is p (Or a b) =
      let left = expression_code p a in
      let q = p + length left + 1 in
      let right = expression_code q b in
      let r = q + length right in
      let last = instruction.Truth ∷ instruction.Jump (r + 1 + 1 + 1) ∷ instruction.Quiet (Rattle.std.specs.Prelude.pos 1) ∷ [] in
      omega (arith, expression_is p a, expression_is q b, length-append left (instruction.NonZero (r + 1 + 1) ∷ (right ++ last)), length-append right last)
  expression_is p (Choose t a b) =
      let test = expression_code p t in
      let q = p + length test + 1 in
      let then = expression_code q a in
      let r = q + length then + 1 in
      let other = expression_code r b in
      omega (arith, expression_is p t, expression_is q a, expression_is r b, length-append test (instruction.Zero r ∷ (then ++ instruction.Jump (r + length other) ∷ other)), length-append then (instruction.Jump (r + length other) ∷ other))
  expression_is p (Call f args) = omega (arith, expressions_are p args, length-append (expressions_code p args) (instruction.Call f ∷ []))

  pub expressions_are : (p : ℕ) (es : Exprs) → length (expressions_code p es) ≡ expressions_length es
  expressions_are p no_exprs = refl
  expressions_are p (more_exprs e rest) =
      let first = expression_code p e in
      omega (arith, expression_is p e, expressions_are (p + length first) rest, length-append first (expressions_code (p + length first) rest))

arguments_are : (p : ℕ) (bs : List Branch) → length (arguments_code p bs) ≡ arguments_length bs
arguments_are p [] = refl
arguments_are p (b ∷ bs) =
    let first = expressions_code p b.args in
    omega (arith, expressions_are p b.args, arguments_are (p + length first) bs, length-append first (arguments_code (p + length first) bs))

-- what stands round a statement: so many instructions before a pause, and so many after it
pub record Surrounds (a : Around) (c w : ℕ) : Type 0 where
  pub before : length (checks a) ≡ c
  pub behind : (p : ℕ) → length (prologue p a) ≡ w

pub outside_none : Surrounds Outside 0 0
outside_none = record { before = refl; behind = λ p. refl }

in_loop : (n : Option ℕ) (a : Around) (c w : ℕ) → Surrounds a c w → Surrounds (inner n a) c (w + counted_loops n)
in_loop None a c w s = record { before = s.before; behind = λ p. let h = s.behind p in omega arith }
in_loop (Some n) a c w s =
    record { before = s.before; behind = λ p. let h = s.behind p in omega (arith, h, length-append (prologue p a) (instruction.Fill (loops a) n ∷ [])) }

before_abort : (weak : Bool) (e : Expr) (x : ℕ) (a : Around) (c : ℕ) → length (checks a) ≡ c → length (checks (InAbort weak e x a)) ≡ c + count_if weak
before_abort false e x a c h = omega (arith, h)
before_abort true e x a c h = omega (arith, h)

in_abort : (weak : Bool) (e : Expr) (x : ℕ) (a : Around) (c w : ℕ) → Surrounds a c w → Surrounds (InAbort weak e x a) (c + count_if weak) (w + (expression_length e + 1))
in_abort weak e x a c w s =
    record {
      before = before_abort weak e x a c s.before;
      behind = λ p.
          let outer = prologue p a in
          let test = expression_code (p + length outer) e in
          let h = s.behind p in
          omega (arith, h, expression_is (p + length outer) e, length-append outer (test ++ guard weak (weaks a) x ∷ []), length-append test (guard weak (weaks a) x ∷ []));
    }

fill_is : (n : Option ℕ) (i : ℕ) → length (fill_code n i) ≡ counted_loops n
fill_is None i = refl
fill_is (Some n) i = refl

turn_is : (n : Option ℕ) (i : ℕ) (place : Rattle.forec_base.specs.declared.Place.Place) → length (turn_code n i place) ≡ counted_loops n
turn_is None i place = refl
turn_is (Some n) i place = refl

enter_is : (weak immediate : Bool) (j x p : ℕ) (e : Expr) → length (enter_code weak immediate j x (expression_code p e)) ≡ entry_length weak immediate (expression_length e)
enter_is false false j x p e = refl
enter_is true false j x p e = refl
enter_is weak true j x p e = omega (arith, expression_is p e, length-append (expression_code p e) (guard weak j x ∷ []))

module _ (ts : List PlainThread) where
  mutual
    pub statement_is : (s : Stmt) (a : Around) (p c w : ℕ) → Surrounds a c w → length (statement_code ts a p s) ≡ statement_length c w s
    statement_is Nop a p c w h = refl
    statement_is (Set to e) a p c w h = omega (arith, expression_is p e, length-append (expression_code p e) (Rattle.code_gen.specs.Statements.set_code to ∷ []))
    statement_is (SetAt x n i e place) a p c w h =
        let index = expression_code p i in
        let value = expression_code (p + length index) e in
        omega (arith, expression_is p i, expression_is (p + length index) e, length-append index (value ++ instruction.StoreAt x n place ∷ []), length-append value (instruction.StoreAt x n place ∷ []))
    statement_is (PutAt v n i e place) a p c w h =
        let index = expression_code p i in
        let value = expression_code (p + length index) e in
        omega (arith, expression_is p i, expression_is (p + length index) e, length-append index (value ++ instruction.PutAt v n place ∷ []), length-append value (instruction.PutAt v n place ∷ []))
    statement_is (Clear x n) a p c w h = refl
    statement_is (Seq list) a p c w h = statements_are list a p c w h
    statement_is (If t x y) a p c w h =
        let test = expression_code p t in
        let q = p + length test + 1 in
        let r = q + length (statement_code ts a q x) + 1 in
        omega (arith, expression_is p t, statement_is x a q c w h, statement_is y a r c w h, if_length p test (λ q. statement_code ts a q x) (λ r. statement_code ts a r y))
    statement_is (While t n k place) a p c w h =
        let fill = fill_code n (loops a) in
        let turn = turn_code n (loops a) place in
        let start = p + length fill in
        let test = expression_code start t in
        let b = start + length test + 1 + length turn in
        omega (
          arith,
          fill_is n (loops a),
          turn_is n (loops a) place,
          expression_is start t,
          statement_is k (inner n a) b c (w + counted_loops n) (in_loop n a c w h),
          loop_length start test turn (λ i. statement_code ts (inner n a) i k),
          length-append fill (loop_code start test turn (λ i. statement_code ts (inner n a) i k)),
        )
    statement_is Pause a p c w h =
        let wake = p + 1 + length (checks a) + 1 in
        omega (arith, h.before, h.behind wake, length-append (checks a) (instruction.Pause wake ∷ prologue wake a))
    statement_is (Par bs) a p c w h =
        let args = arguments_code p bs in
        let j = par_number ts bs in
        let q = p + length args in
        omega (arith, arguments_are p bs, h.before, h.behind (q + 1 + 1 + length (checks a) + 1), fork_length j q a, length-append args (fork_code j q a))
    statement_is (Enter weak immediate t k) a p c w h =
        let first = enter_code weak immediate (weaks a) 0 (expression_code p t) in
        let q = p + length first in
        let x = q + length (statement_code ts (InAbort weak t 0 a) q k) in
        let entry = enter_code weak immediate (weaks a) x (expression_code p t) in
        omega (
          arith,
          enter_is weak immediate (weaks a) x p t,
          statement_is k (InAbort weak t x a) q (c + count_if weak) (w + (expression_length t + 1)) (in_abort weak t x a c w h),
          length-append entry (statement_code ts (InAbort weak t x a) q k),
        )
    statement_is (Return e) a p c w h = omega (arith, expression_is p e, length-append (expression_code p e) (instruction.Return ∷ []))

    pub statements_are : (list : Stmts) (a : Around) (p c w : ℕ) → Surrounds a c w → length (statements_code ts a p list) ≡ statements_length c w list
    statements_are no_stmts a p c w h = refl
    statements_are (more_stmts s rest) a p c w h =
        let first = statement_code ts a p s in
        omega (arith, statement_is s a p c w h, statements_are rest a (p + length first) c w h, length-append first (statements_code ts a (p + length first) rest))

pub outside_is : (ts : List PlainThread) (s : Stmt) → length (statement_code ts Outside 0 s) ≡ statement_length 0 0 s
outside_is ts s = statement_is ts s Outside 0 0 0 outside_none
