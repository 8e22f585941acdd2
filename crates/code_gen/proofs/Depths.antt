-- The depth of the stack before each instruction of a term's code.
use Rattle.std.proofs.Common.{◌≡◌, ℕ, suc, ◌+◌, List, [], ◌∷◌, ◌++◌, length, Option, Some, None, Bool, true, false, refl, ap, ◌∙◌, arith, length-append}
use Rattle.std.specs.Prelude.{pos}
use Rattle.forec_kernel.specs.Terms.{Expr, Num, Local, LocalAt, Var, SharedAt, TableAt, Un, Bin, And, Or, Choose, Call, Exprs, no_exprs, more_exprs, count_exprs, Branch, Stmt, Nop, Set, SetAt, PutAt, Clear, Seq, If, While, Pause, Par, Enter, Return, Stmts, no_stmts, more_stmts}
use Rattle.forec_kernel.specs.Shapes.{PlainThread}
use Rattle.thread_code.specs.declared.instruction.Instruction.TheVariants as instruction
use Rattle.code_gen.specs.Expressions.{expression_code, expressions_code}
use Rattle.code_gen.specs.Statements.{Around, Outside, InLoop, InAbort, loops, weaks, checks, guard, prologue, fork_code, set_code, inner, fill_code, turn_code, loop_code, enter_code, par_number, arguments_code, statement_code, statements_code}
use Rattle.code_gen.proofs.Lengths.{loop_length, if_length, fork_length}

abbrev mutual
  pub expression_depths : ℕ → Expr → List ℕ
  expression_depths d (Num n) = d ∷ []
  expression_depths d (Local x) = d ∷ []
  expression_depths d (LocalAt x n i place) = expression_depths d i ++ (d + 1) ∷ []
  expression_depths d (Var v) = d ∷ []
  expression_depths d (SharedAt v n i place) = expression_depths d i ++ (d + 1) ∷ []
  expression_depths d (TableAt t i place) = expression_depths d i ++ (d + 1) ∷ []
  expression_depths d (Un op a) = expression_depths d a ++ (d + 1) ∷ []
  expression_depths d (Bin op a b place) = expression_depths d a ++ (expression_depths (d + 1) b ++ (d + 1 + 1) ∷ [])
  expression_depths d (And a b) = expression_depths d a ++ ((d + 1) ∷ (expression_depths d b ++ (d + 1) ∷ (d + 1) ∷ d ∷ []))
  expression_depths d (Or a b) = expression_depths d a ++ ((d + 1) ∷ (expression_depths d b ++ (d + 1) ∷ (d + 1) ∷ d ∷ []))
  expression_depths d (Choose t a b) = expression_depths d t ++ ((d + 1) ∷ (expression_depths d a ++ (d + 1) ∷ expression_depths d b))
  expression_depths d (Call f args) = expressions_depths d args ++ (d + count_exprs args) ∷ []

  pub expressions_depths : ℕ → Exprs → List ℕ
  expressions_depths d no_exprs = []
  expressions_depths d (more_exprs e rest) = expression_depths d e ++ expressions_depths (d + 1) rest

abbrev pub arguments_depths : ℕ → List Branch → List ℕ
arguments_depths d [] = []
arguments_depths d (b ∷ bs) = expressions_depths d b.args ++ arguments_depths (d + count_exprs b.args) bs

abbrev pub count_all : List Branch → ℕ
count_all [] = 0
count_all (b ∷ bs) = count_exprs b.args + count_all bs

-- (weak aborts have a check more)
abbrev pub flag_depths : Bool → List ℕ → List ℕ
flag_depths false ds = ds
flag_depths true ds = 0 ∷ ds

abbrev pub checks_depths : Around → List ℕ
checks_depths Outside = []
checks_depths (InLoop n a) = checks_depths a
checks_depths (InAbort weak e x a) = flag_depths weak (checks_depths a)

abbrev pub prologue_depths : Around → List ℕ
prologue_depths Outside = []
prologue_depths (InLoop n a) = prologue_depths a ++ 0 ∷ []
prologue_depths (InAbort weak e x a) = prologue_depths a ++ (expression_depths 0 e ++ 1 ∷ [])

-- (loops with a bound have a refill more)
abbrev pub turn_depths : Option ℕ → List ℕ → List ℕ
turn_depths None ds = ds
turn_depths (Some n) ds = ds ++ 0 ∷ []

abbrev pub fill_depths : Option ℕ → List ℕ
fill_depths None = []
fill_depths (Some n) = 0 ∷ []

abbrev pub enter_depths : Bool → Bool → Expr → List ℕ
enter_depths false false e = []
enter_depths true false e = 0 ∷ []
enter_depths weak true e = expression_depths 0 e ++ 1 ∷ []

-- cs and ps are the depths of the checks and of the prologue round a statement
abbrev pub pause_depths : List ℕ → List ℕ → List ℕ
pause_depths cs ps = 0 ∷ (cs ++ 0 ∷ ps)

abbrev pub fork_depths : ℕ → List ℕ → List ℕ → List ℕ
fork_depths n cs ps = n ∷ 0 ∷ (cs ++ 0 ∷ (ps ++ 0 ∷ 0 ∷ (cs ++ 0 ∷ [])))

abbrev mutual
  pub statement_depths : List ℕ → List ℕ → Stmt → List ℕ
  statement_depths cs ps Nop = []
  statement_depths cs ps (Set to e) = expression_depths 0 e ++ 1 ∷ []
  statement_depths cs ps (SetAt x n i e place) = expression_depths 0 i ++ (expression_depths 1 e ++ 2 ∷ [])
  statement_depths cs ps (PutAt v n i e place) = expression_depths 0 i ++ (expression_depths 1 e ++ 2 ∷ [])
  statement_depths cs ps (Clear x n) = 0 ∷ []
  statement_depths cs ps (Seq list) = statements_depths cs ps list
  statement_depths cs ps (If e then other) = expression_depths 0 e ++ (1 ∷ (statement_depths cs ps then ++ 0 ∷ statement_depths cs ps other))
  statement_depths cs ps (While e bound body place) = fill_depths bound ++ (expression_depths 0 e ++ (1 ∷ (fill_depths bound ++ (statement_depths cs (turn_depths bound ps) body ++ 0 ∷ []))))
  statement_depths cs ps Pause = pause_depths cs ps
  statement_depths cs ps (Par branches) = arguments_depths 0 branches ++ fork_depths (count_all branches) cs ps
  statement_depths cs ps (Enter weak immediate e body) = enter_depths weak immediate e ++ statement_depths (flag_depths weak cs) (ps ++ (expression_depths 0 e ++ 1 ∷ [])) body
  statement_depths cs ps (Return e) = expression_depths 0 e ++ 1 ∷ []

  pub statements_depths : List ℕ → List ℕ → Stmts → List ℕ
  statements_depths cs ps no_stmts = []
  statements_depths cs ps (more_stmts s rest) = statement_depths cs ps s ++ statements_depths cs ps rest

-- ---- as many depths as instructions

mutual
  pub same_length : (x : Expr) (d p : ℕ) → length (expression_depths d x) ≡ length (expression_code p x)
  same_length (Num v) d p = refl
  same_length (Local v) d p = refl
  same_length (LocalAt x n i place) d p = omega (arith, same_length i d p, length-append (expression_depths d i) ((d + 1) ∷ []), length-append (expression_code p i) (instruction.LoadAt x n place ∷ []))
  same_length (Var v) d p = refl
  same_length (SharedAt v n i place) d p = omega (arith, same_length i d p, length-append (expression_depths d i) ((d + 1) ∷ []), length-append (expression_code p i) (instruction.GetAt v n place ∷ []))
  same_length (TableAt t i place) d p = omega (arith, same_length i d p, length-append (expression_depths d i) ((d + 1) ∷ []), length-append (expression_code p i) (instruction.Table t place ∷ []))
  same_length (Un op a) d p = omega (arith, same_length a d p, length-append (expression_depths d a) ((d + 1) ∷ []), length-append (expression_code p a) (instruction.Unary op ∷ []))
  same_length (Bin op a b place) d p =
      let q = p + length (expression_code p a) in
      omega (arith, same_length a d p, same_length b (d + 1) q, length-append (expression_depths d a) (expression_depths (d + 1) b ++ (d + 1 + 1) ∷ []), length-append (expression_depths (d + 1) b) ((d + 1 + 1) ∷ []), length-append (expression_code p a) (expression_code q b ++ instruction.Binary op place ∷ []), length-append (expression_code q b) (instruction.Binary op place ∷ []))
  same_length (And a b) d p =
      let q = p + length (expression_code p a) + 1 in
      let r = q + length (expression_code q b) in
      let tail = instruction.Truth ∷ instruction.Jump (r + 1 + 1 + 1) ∷ instruction.Quiet (pos 0) ∷ [] in
      let ends = (d + 1) ∷ (d + 1) ∷ d ∷ [] in
      omega (arith, same_length a d p, same_length b d q, length-append (expression_depths d a) ((d + 1) ∷ (expression_depths d b ++ ends)), length-append (expression_depths d b) ends, length-append (expression_code p a) (instruction.Zero (r + 1 + 1) ∷ (expression_code q b ++ tail)), length-append (expression_code q b) tail)
  same_length (Or a b) d p =
      let q = p + length (expression_code p a) + 1 in
      let r = q + length (expression_code q b) in
      let tail = instruction.Truth ∷ instruction.Jump (r + 1 + 1 + 1) ∷ instruction.Quiet (pos 1) ∷ [] in
      let ends = (d + 1) ∷ (d + 1) ∷ d ∷ [] in
      omega (arith, same_length a d p, same_length b d q, length-append (expression_depths d a) ((d + 1) ∷ (expression_depths d b ++ ends)), length-append (expression_depths d b) ends, length-append (expression_code p a) (instruction.NonZero (r + 1 + 1) ∷ (expression_code q b ++ tail)), length-append (expression_code q b) tail)
  same_length (Choose t a b) d p =
      let q = p + length (expression_code p t) + 1 in
      let r = q + length (expression_code q a) + 1 in
      let j = instruction.Jump (r + length (expression_code r b)) in
      omega (arith, same_length t d p, same_length a d q, same_length b d r, length-append (expression_depths d t) ((d + 1) ∷ (expression_depths d a ++ (d + 1) ∷ expression_depths d b)), length-append (expression_depths d a) ((d + 1) ∷ expression_depths d b), length-append (expression_code p t) (instruction.Zero r ∷ (expression_code q a ++ j ∷ expression_code r b)), length-append (expression_code q a) (j ∷ expression_code r b))
  same_length (Call f args) d p =
      omega (arith, same_lengths args d p, length-append (expressions_depths d args) ((d + count_exprs args) ∷ []), length-append (expressions_code p args) (instruction.Call f ∷ []))

  pub same_lengths : (xs : Exprs) (d p : ℕ) → length (expressions_depths d xs) ≡ length (expressions_code p xs)
  same_lengths no_exprs d p = refl
  same_lengths (more_exprs x rest) d p =
      let q = p + length (expression_code p x) in
      omega (arith, same_length x d p, same_lengths rest (d + 1) q, length-append (expression_depths d x) (expressions_depths (d + 1) rest), length-append (expression_code p x) (expressions_code q rest))

pub arguments_length : (bs : List Branch) (d p : ℕ) → length (arguments_depths d bs) ≡ length (arguments_code p bs)
arguments_length [] d p = refl
arguments_length (b ∷ bs) d p =
    let q = p + length (expressions_code p b.args) in
    omega (arith, same_lengths b.args d p, arguments_length bs (d + count_exprs b.args) q, length-append (expressions_depths d b.args) (arguments_depths (d + count_exprs b.args) bs), length-append (expressions_code p b.args) (arguments_code q bs))

pub checks_length : (a : Around) → length (checks_depths a) ≡ length (checks a)
checks_length Outside = refl
checks_length (InLoop n a) = checks_length a
checks_length (InAbort false e x a) = checks_length a
checks_length (InAbort true e x a) = ap suc (checks_length a)

pub checks_inner : (n : Option ℕ) (a : Around) → checks_depths a ≡ checks_depths (inner n a)
checks_inner None a = refl
checks_inner (Some n) a = refl

pub prologue_inner : (n : Option ℕ) (a : Around) → turn_depths n (prologue_depths a) ≡ prologue_depths (inner n a)
prologue_inner None a = refl
prologue_inner (Some n) a = refl

pub prologue_length : (w : ℕ) (a : Around) → length (prologue_depths a) ≡ length (prologue w a)
prologue_length w Outside = refl
prologue_length w (InLoop n a) = omega (arith, prologue_length w a, length-append (prologue_depths a) (0 ∷ []), length-append (prologue w a) (instruction.Fill (loops a) n ∷ []))
prologue_length w (InAbort weak e x a) =
    let q = w + length (prologue w a) in
    let g = guard weak (weaks a) x ∷ [] in
    omega (arith, prologue_length w a, same_length e 0 q, length-append (prologue_depths a) (expression_depths 0 e ++ 1 ∷ []), length-append (expression_depths 0 e) (1 ∷ []), length-append (prologue w a) (expression_code q e ++ g), length-append (expression_code q e) g)

pub fill_length : (n : Option ℕ) (w : ℕ) → length (fill_depths n) ≡ length (fill_code n w)
fill_length None w = refl
fill_length (Some n) w = refl

pub turn_length : (n : Option ℕ) (w : ℕ) (place : _) → length (fill_depths n) ≡ length (turn_code n w place)
turn_length None w place = refl
turn_length (Some n) w place = refl

pub enter_depths_length : (weak immediate : Bool) (e : Expr) (f x p : ℕ) → length (enter_depths weak immediate e) ≡ length (enter_code weak immediate f x (expression_code p e))
enter_depths_length false false e f x p = refl
enter_depths_length true false e f x p = refl
enter_depths_length weak true e f x p = omega (arith, same_length e 0 p, length-append (expression_depths 0 e) (1 ∷ []), length-append (expression_code p e) (guard weak f x ∷ []))

pub fork_depths_length : (n j r : ℕ) (a : Around) → length (fork_depths n (checks_depths a) (prologue_depths a)) ≡ length (fork_code j r a)
fork_depths_length n j r a =
    let w = r + 1 + 1 + length (checks a) + 1 in
    let last = checks_depths a ++ 0 ∷ [] in
    let tail = 0 ∷ 0 ∷ last in
    omega (arith, fork_length j r a, checks_length a, prologue_length w a, length-append (checks_depths a) (0 ∷ (prologue_depths a ++ tail)), length-append (prologue_depths a) tail, length-append (checks_depths a) (0 ∷ []))

module _ (ts : List PlainThread) where
  mutual
    pub statement_length : (x : Stmt) (a : Around) (p : ℕ) (cs ps : List ℕ) → cs ≡ checks_depths a → ps ≡ prologue_depths a → length (statement_depths cs ps x) ≡ length (statement_code ts a p x)
    statement_length Nop a p cs ps hc hp = refl
    statement_length (Set to e) a p cs ps hc hp = omega (arith, same_length e 0 p, length-append (expression_depths 0 e) (1 ∷ []), length-append (expression_code p e) (set_code to ∷ []))
    statement_length (SetAt x n i e place) a p cs ps hc hp =
        let q = p + length (expression_code p i) in
        omega (arith, same_length i 0 p, same_length e 1 q, length-append (expression_depths 0 i) (expression_depths 1 e ++ 2 ∷ []), length-append (expression_depths 1 e) (2 ∷ []), length-append (expression_code p i) (expression_code q e ++ instruction.StoreAt x n place ∷ []), length-append (expression_code q e) (instruction.StoreAt x n place ∷ []))
    statement_length (PutAt v n i e place) a p cs ps hc hp =
        let q = p + length (expression_code p i) in
        omega (arith, same_length i 0 p, same_length e 1 q, length-append (expression_depths 0 i) (expression_depths 1 e ++ 2 ∷ []), length-append (expression_depths 1 e) (2 ∷ []), length-append (expression_code p i) (expression_code q e ++ instruction.PutAt v n place ∷ []), length-append (expression_code q e) (instruction.PutAt v n place ∷ []))
    statement_length (Clear x n) a p cs ps hc hp = refl
    statement_length (Seq list) a p cs ps hc hp = statements_length list a p cs ps hc hp
    statement_length (If e x y) a p cs ps hc hp =
        let q = p + length (expression_code p e) + 1 in
        let r = q + length (statement_code ts a q x) + 1 in
        omega (arith, same_length e 0 p, statement_length x a q cs ps hc hp, statement_length y a r cs ps hc hp, if_length p (expression_code p e) (λ q. statement_code ts a q x) (λ r. statement_code ts a r y), length-append (expression_depths 0 e) (1 ∷ (statement_depths cs ps x ++ 0 ∷ statement_depths cs ps y)), length-append (statement_depths cs ps x) (0 ∷ statement_depths cs ps y))
    statement_length (While e n x place) a p cs ps hc hp =
        let fill = fill_code n (loops a) in
        let turn = turn_code n (loops a) place in
        let h = p + length fill in
        let b = h + length (expression_code h e) + 1 + length turn in
        let ds = statement_depths cs (turn_depths n ps) x in
        let inside = ds ++ 0 ∷ [] in
        omega (
          arith,
          fill_length n (loops a),
          turn_length n (loops a) place,
          same_length e 0 h,
          statement_length x (inner n a) b cs (turn_depths n ps) (hc ∙ checks_inner n a) (ap (turn_depths n) hp ∙ prologue_inner n a),
          loop_length h (expression_code h e) turn (λ b. statement_code ts (inner n a) b x),
          length-append fill (loop_code h (expression_code h e) turn (λ b. statement_code ts (inner n a) b x)),
          length-append (fill_depths n) (expression_depths 0 e ++ (1 ∷ (fill_depths n ++ inside))),
          length-append (expression_depths 0 e) (1 ∷ (fill_depths n ++ inside)),
          length-append (fill_depths n) inside,
          length-append ds (0 ∷ []),
        )
    statement_length Pause a p cs ps hc hp =
        let w = p + 1 + length (checks a) + 1 in
        omega (arith, checks_length a, ap (λ l. length l) hc, ap (λ l. length l) hp, prologue_length w a, length-append cs (0 ∷ ps), length-append (checks a) (instruction.Pause w ∷ prologue w a))
    statement_length (Par bs) a p cs ps hc hp =
        let r = p + length (arguments_code p bs) in
        let same : length (fork_depths (count_all bs) cs ps) ≡ length (fork_depths (count_all bs) (checks_depths a) (prologue_depths a)) = ap (λ l. length (fork_depths (count_all bs) l ps)) hc ∙ ap (λ l. length (fork_depths (count_all bs) (checks_depths a) l)) hp in
        omega (arith, same, arguments_length bs 0 p, fork_depths_length (count_all bs) (par_number ts bs) r a, length-append (arguments_depths 0 bs) (fork_depths (count_all bs) cs ps), length-append (arguments_code p bs) (fork_code (par_number ts bs) r a))
    statement_length (Enter weak immediate e x) a p cs ps hc hp =
        let q = p + length (enter_code weak immediate (weaks a) 0 (expression_code p e)) in
        let y = q + length (statement_code ts (InAbort weak e 0 a) q x) in
        let inside = statement_length x (InAbort weak e y a) q (flag_depths weak cs) (ps ++ (expression_depths 0 e ++ 1 ∷ [])) (ap (flag_depths weak) hc) (ap (λ l. l ++ (expression_depths 0 e ++ 1 ∷ [])) hp) in
        omega (arith, enter_depths_length weak immediate e (weaks a) y p, inside, length-append (enter_depths weak immediate e) (statement_depths (flag_depths weak cs) (ps ++ (expression_depths 0 e ++ 1 ∷ [])) x), length-append (enter_code weak immediate (weaks a) y (expression_code p e)) (statement_code ts (InAbort weak e y a) q x))
    statement_length (Return e) a p cs ps hc hp = omega (arith, same_length e 0 p, length-append (expression_depths 0 e) (1 ∷ []), length-append (expression_code p e) (instruction.Return ∷ []))

    pub statements_length : (list : Stmts) (a : Around) (p : ℕ) (cs ps : List ℕ) → cs ≡ checks_depths a → ps ≡ prologue_depths a → length (statements_depths cs ps list) ≡ length (statements_code ts a p list)
    statements_length no_stmts a p cs ps hc hp = refl
    statements_length (more_stmts x rest) a p cs ps hc hp =
        let q = p + length (statement_code ts a p x) in
        omega (arith, statement_length x a p cs ps hc hp, statements_length rest a q cs ps hc hp, length-append (statement_depths cs ps x) (statements_depths cs ps rest), length-append (statement_code ts a p x) (statements_code ts a q rest))
