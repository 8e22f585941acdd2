-- How long code is: it doesn't depend on where the aborts round it end.
use Rattle.std.proofs.Common.{◌≡◌, ℕ, suc, ◌+◌, List, [], ◌∷◌, ◌++◌, length, Option, Some, None, Bool, true, false, refl, ap, ◌∙◌, length-append, arith}
use Rattle.forec_kernel.specs.Terms.{Expr, Stmt, Nop, Set, SetAt, PutAt, Clear, Seq, If, While, Pause, Par, Enter, Return, Stmts, no_stmts, more_stmts}
use Rattle.forec_kernel.specs.Shapes.{PlainThread}
use Rattle.thread_code.specs.declared.instruction.Instruction.{Instruction}
use Rattle.thread_code.specs.declared.instruction.Instruction.TheVariants as instruction
use Rattle.code_gen.specs.Expressions.{expression_code}
use Rattle.code_gen.specs.Statements.{Around, Outside, InLoop, InAbort, loops, weaks, checks, guard, prologue, fork_code, if_code, inner, fill_code, turn_code, loop_code, enter_code, par_number, arguments_code, statement_code, statements_code}

-- the length of a loop's code
pub loop_length : (h : ℕ) (test turn : List Instruction) (body : ℕ → List Instruction) → length (loop_code h test turn body) ≡ length test + 1 + length turn + length (body (h + length test + 1 + length turn)) + 1
loop_length h test turn body =
    let b = h + length test + 1 + length turn in
    let x = b + length (body b) + 1 in
    omega (arith, length-append test (instruction.Zero x ∷ (turn ++ (body b ++ instruction.Jump h ∷ []))), length-append turn (body b ++ instruction.Jump h ∷ []), length-append (body b) (instruction.Jump h ∷ []))

pub if_length : (p : ℕ) (test : List Instruction) (first second : ℕ → List Instruction) → length (if_code p test first second) ≡ length test + 1 + length (first (p + length test + 1)) + 1 + length (second (p + length test + 1 + length (first (p + length test + 1)) + 1))
if_length p test first second =
    let q = p + length test + 1 in
    let r = q + length (first q) + 1 in
    omega (arith, length-append test (instruction.Zero r ∷ (first q ++ instruction.Jump (r + length (second r)) ∷ second r)), length-append (first q) (instruction.Jump (r + length (second r)) ∷ second r))

pub enter_length : (weak immediate : Bool) (j j' x x' : ℕ) (test : List Instruction) → length (enter_code weak immediate j x test) ≡ length (enter_code weak immediate j' x' test)
enter_length false false j j' x x' test = refl
enter_length true false j j' x x' test = refl
enter_length weak true j j' x x' test = omega (arith, length-append test (guard weak j x ∷ []), length-append test (guard weak j' x' ∷ []))

pub fork_length : (j q : ℕ) (a : Around) → length (fork_code j q a) ≡ length (checks a) + length (prologue (q + 1 + 1 + length (checks a) + 1) a) + length (checks a) + 6
fork_length j q a =
    let c = length (checks a) in
    let w = q + 1 + 1 + c + 1 in
    let g = w + length (prologue w a) in
    let end = g + 1 + 1 + c + 1 in
    let last = checks a ++ instruction.Pause w ∷ [] in
    let tail = instruction.Again j (g + 1 + 1) ∷ instruction.Jump end ∷ last in
    omega (arith, length-append (checks a) (instruction.Pause w ∷ (prologue w a ++ tail)), length-append (prologue w a) tail, length-append (checks a) (instruction.Pause w ∷ []))

-- ---- the same exits or others

abbrev pub Alike : Around → Around → Type 0
Alike Outside Outside = Unit {0}
Alike Outside (InLoop n b) = ⊥
Alike Outside (InAbort w e x b) = ⊥
Alike (InLoop m a) Outside = ⊥
Alike (InLoop m a) (InLoop n b) = (m ≡ n) × Alike a b
Alike (InLoop m a) (InAbort w e x b) = ⊥
Alike (InAbort w e x a) Outside = ⊥
Alike (InAbort w e x a) (InLoop n b) = ⊥
Alike (InAbort w e x a) (InAbort w' e' x' b) = (w ≡ w') × (e ≡ e') × Alike a b

pub alike_self : (a : Around) → Alike a a
alike_self Outside = tt
alike_self (InLoop n a) = (refl, alike_self a)
alike_self (InAbort w e x a) = (refl, refl, alike_self a)

alike_loops : (a b : Around) → Alike a b → loops a ≡ loops b
alike_loops Outside Outside h = refl
alike_loops Outside (InLoop n b) h = absurd h
alike_loops Outside (InAbort w e x b) h = absurd h
alike_loops (InLoop m a) Outside h = absurd h
alike_loops (InLoop m a) (InLoop n b) h = ap suc (alike_loops a b h.1)
alike_loops (InLoop m a) (InAbort w e x b) h = absurd h
alike_loops (InAbort w e x a) Outside h = absurd h
alike_loops (InAbort w e x a) (InLoop n b) h = absurd h
alike_loops (InAbort w e x a) (InAbort w' e' x' b) h = alike_loops a b h.2

checks_abort : (w w' : Bool) (e e' : Expr) (x x' : ℕ) (a b : Around) → w ≡ w' → length (checks a) ≡ length (checks b) → length (checks (InAbort w e x a)) ≡ length (checks (InAbort w' e' x' b))
checks_abort true true e e' x x' a b h g = ap suc g
checks_abort false false e e' x x' a b h g = g
checks_abort true false e e' x x' a b h g = cc
checks_abort false true e e' x x' a b h g = cc

alike_checks : (a b : Around) → Alike a b → length (checks a) ≡ length (checks b)
alike_checks Outside Outside h = refl
alike_checks Outside (InLoop n b) h = absurd h
alike_checks Outside (InAbort w e x b) h = absurd h
alike_checks (InLoop m a) Outside h = absurd h
alike_checks (InLoop m a) (InLoop n b) h = alike_checks a b h.1
alike_checks (InLoop m a) (InAbort w e x b) h = absurd h
alike_checks (InAbort w e x a) Outside h = absurd h
alike_checks (InAbort w e x a) (InLoop n b) h = absurd h
alike_checks (InAbort w e x a) (InAbort w' e' x' b) h = checks_abort w w' e e' x x' a b h.0 (alike_checks a b h.2)

-- the length of a test and one instruction after other code
guard_length : (p : ℕ) (c d : List Instruction) (e e' : Expr) (i j : Instruction) → length c ≡ length d → e ≡ e' → length (c ++ (expression_code (p + length c) e ++ i ∷ [])) ≡ length (d ++ (expression_code (p + length d) e' ++ j ∷ []))
guard_length p c d e e' i j h he =
    let same : length (expression_code (p + length c) e) ≡ length (expression_code (p + length d) e') = ap (λ n. length (expression_code (p + n) e)) h ∙ ap (λ x. length (expression_code (p + length d) x)) he in
    omega (arith, same, h, length-append c (expression_code (p + length c) e ++ i ∷ []), length-append d (expression_code (p + length d) e' ++ j ∷ []), length-append (expression_code (p + length c) e) (i ∷ []), length-append (expression_code (p + length d) e') (j ∷ []))

alike_prologue : (w : ℕ) (a b : Around) → Alike a b → length (prologue w a) ≡ length (prologue w b)
alike_prologue w Outside Outside h = refl
alike_prologue w Outside (InLoop n b) h = absurd h
alike_prologue w Outside (InAbort k e x b) h = absurd h
alike_prologue w (InLoop m a) Outside h = absurd h
alike_prologue w (InLoop m a) (InLoop n b) h =
    omega (arith, alike_prologue w a b h.1, length-append (prologue w a) (instruction.Fill (loops a) m ∷ []), length-append (prologue w b) (instruction.Fill (loops b) n ∷ []))
alike_prologue w (InLoop m a) (InAbort k e x b) h = absurd h
alike_prologue w (InAbort k e x a) Outside h = absurd h
alike_prologue w (InAbort k e x a) (InLoop n b) h = absurd h
alike_prologue w (InAbort k e x a) (InAbort k' e' x' b) h =
    guard_length w (prologue w a) (prologue w b) e e' (guard k (weaks a) x) (guard k' (weaks b) x') (alike_prologue w a b h.2) h.1

alike_inner : (n : Option ℕ) (a b : Around) → Alike a b → Alike (inner n a) (inner n b)
alike_inner None a b h = h
alike_inner (Some n) a b h = (refl, h)

module _ (ts : List PlainThread) where
  mutual
    -- the length of a statement's code
    pub alike_length : (k : Stmt) (a b : Around) (p q : ℕ) → p ≡ q → Alike a b → length (statement_code ts a p k) ≡ length (statement_code ts b q k)
    alike_length Nop a b p q e h = refl
    alike_length (Set to x) a b p q e h = ap (λ n. length (statement_code ts a n (Set to x))) e
    alike_length (SetAt x n i y place) a b p q e h = ap (λ m. length (statement_code ts a m (SetAt x n i y place))) e
    alike_length (PutAt v n i y place) a b p q e h = ap (λ m. length (statement_code ts a m (PutAt v n i y place))) e
    alike_length (Clear x n) a b p q e h = refl
    alike_length (Seq list) a b p q e h = alike_lengths list a b p q e h
    alike_length (If t x y) a b p q e h =
        let ht : length (expression_code p t) ≡ length (expression_code q t) = ap (λ n. length (expression_code n t)) e in
        let m : p + length (expression_code p t) + 1 ≡ q + length (expression_code q t) + 1 = omega (arith, ht, e) in
        let hx = alike_length x a b _ _ m h in
        let m2 : p + length (expression_code p t) + 1 + length (statement_code ts a (p + length (expression_code p t) + 1) x) + 1 ≡ q + length (expression_code q t) + 1 + length (statement_code ts b (q + length (expression_code q t) + 1) x) + 1 = omega (arith, hx, m) in
        let hy = alike_length y a b _ _ m2 h in
        omega (arith, ht, hx, hy, if_length p (expression_code p t) (λ q. statement_code ts a q x) (λ r. statement_code ts a r y), if_length q (expression_code q t) (λ q. statement_code ts b q x) (λ r. statement_code ts b r y))
    alike_length (While t n k pl) a b p q e h =
        let fa = fill_code n (loops a) in
        let fb = fill_code n (loops b) in
        let l = alike_loops a b h in
        let ta = turn_code n (loops a) pl in
        let tb = turn_code n (loops b) pl in
        let hf : length fa ≡ length fb = ap (λ i. length (fill_code n i)) l in
        let hu : length ta ≡ length tb = ap (λ i. length (turn_code n i pl)) l in
        let m : p + length fa ≡ q + length fb = omega (arith, hf, e) in
        let ht : length (expression_code (p + length fa) t) ≡ length (expression_code (q + length fb) t) = ap (λ i. length (expression_code i t)) m in
        let m2 : p + length fa + length (expression_code (p + length fa) t) + 1 + length ta ≡ q + length fb + length (expression_code (q + length fb) t) + 1 + length tb = omega (arith, m, ht, hu) in
        let hk = alike_length k (inner n a) (inner n b) _ _ m2 (alike_inner n a b h) in
        omega (
          arith,
          hf,
          hu,
          ht,
          hk,
          loop_length (p + length fa) (expression_code (p + length fa) t) ta (λ i. statement_code ts (inner n a) i k),
          loop_length (q + length fb) (expression_code (q + length fb) t) tb (λ i. statement_code ts (inner n b) i k),
          length-append fa (loop_code (p + length fa) (expression_code (p + length fa) t) ta (λ i. statement_code ts (inner n a) i k)),
          length-append fb (loop_code (q + length fb) (expression_code (q + length fb) t) tb (λ i. statement_code ts (inner n b) i k)),
        )
    alike_length Pause a b p q e h =
        let hc = alike_checks a b h in
        let wa = p + 1 + length (checks a) + 1 in
        let wb = q + 1 + length (checks b) + 1 in
        let w : wa ≡ wb = omega (arith, hc, e) in
        let hp : length (prologue wa a) ≡ length (prologue wb b) = alike_prologue wa a b h ∙ ap (λ i. length (prologue i b)) w in
        omega (arith, hc, hp, length-append (checks a) (instruction.Pause wa ∷ prologue wa a), length-append (checks b) (instruction.Pause wb ∷ prologue wb b))
    alike_length (Par bs) a b p q e h =
        let j = par_number ts bs in
        let ca = arguments_code p bs in
        let cb = arguments_code q bs in
        let hc : length ca ≡ length cb = ap (λ i. length (arguments_code i bs)) e in
        let hk = alike_checks a b h in
        let wa = p + length ca + 1 + 1 + length (checks a) + 1 in
        let wb = q + length cb + 1 + 1 + length (checks b) + 1 in
        let w : wa ≡ wb = omega (arith, hk, hc, e) in
        let hp : length (prologue wa a) ≡ length (prologue wb b) = alike_prologue wa a b h ∙ ap (λ i. length (prologue i b)) w in
        omega (arith, hc, hk, hp, fork_length j (p + length ca) a, fork_length j (q + length cb) b, length-append ca (fork_code j (p + length ca) a), length-append cb (fork_code j (q + length cb) b))
    alike_length (Enter weak immediate t k) a b p q e h =
        let ea = enter_code weak immediate (weaks a) 0 (expression_code p t) in
        let eb = enter_code weak immediate (weaks b) 0 (expression_code q t) in
        let he : length ea ≡ length eb = enter_length weak immediate (weaks a) (weaks b) 0 0 (expression_code p t) ∙ ap (λ i. length (enter_code weak immediate (weaks b) 0 (expression_code i t))) e in
        let m : p + length ea ≡ q + length eb = omega (arith, he, e) in
        let xa = p + length ea + length (statement_code ts (InAbort weak t 0 a) (p + length ea) k) in
        let xb = q + length eb + length (statement_code ts (InAbort weak t 0 b) (q + length eb) k) in
        let ca = enter_code weak immediate (weaks a) xa (expression_code p t) in
        let cb = enter_code weak immediate (weaks b) xb (expression_code q t) in
        let hx : length ca ≡ length ea = enter_length weak immediate (weaks a) (weaks a) xa 0 (expression_code p t) in
        let hy : length cb ≡ length eb = enter_length weak immediate (weaks b) (weaks b) xb 0 (expression_code q t) in
        let hk = alike_length k (InAbort weak t xa a) (InAbort weak t xb b) _ _ m (refl, refl, h) in
        omega (arith, he, hx, hy, hk, length-append ca (statement_code ts (InAbort weak t xa a) (p + length ea) k), length-append cb (statement_code ts (InAbort weak t xb b) (q + length eb) k))
    alike_length (Return x) a b p q e h = ap (λ n. length (statement_code ts a n (Return x))) e

    pub alike_lengths : (list : Stmts) (a b : Around) (p q : ℕ) → p ≡ q → Alike a b → length (statements_code ts a p list) ≡ length (statements_code ts b q list)
    alike_lengths no_stmts a b p q e h = refl
    alike_lengths (more_stmts x rest) a b p q e h =
        let hx = alike_length x a b p q e h in
        let m : p + length (statement_code ts a p x) ≡ q + length (statement_code ts b q x) = omega (arith, hx, e) in
        let hy = alike_lengths rest a b _ _ m h in
        omega (arith, hx, hy, length-append (statement_code ts a p x) (statements_code ts a (p + length (statement_code ts a p x)) rest), length-append (statement_code ts b q x) (statements_code ts b (q + length (statement_code ts b q x)) rest))
