-- Each instruction of a statement's code is fine.
use Rattle.std.proofs.Common.{◌≡◌, ℕ, suc, ◌+◌, ◌-◌, ◌<◌, ◌≤◌, List, [], ◌∷◌, ◌++◌, length, Option, Some, None, Bool, true, false, cond, refl, sym, ap, ◌∙◌, subst, arith, length-append}
use Rattle.std.specs.Prelude.{IsTrue, IsSome, IsNone}
use Rattle.forec_base.specs.declared.Place.{Place}
use Rattle.forec_kernel.specs.declared.terms.Spot as spot_type
use Rattle.forec_kernel.specs.declared.terms.Spot.TheVariants as spot
use Rattle.forec_kernel.specs.Terms.{Expr, Num, Local, LocalAt, Var, SharedAt, TableAt, Un, Bin, And, Or, Choose, Call, Exprs, no_exprs, more_exprs, count_exprs, Branch, Stmt, Nop, Set, SetAt, PutAt, Clear, Seq, If, While, Pause, Par, Enter, Return, Stmts, no_stmts, more_stmts}
use Rattle.forec_kernel.specs.Shapes.{PlainKernel}
use Rattle.forec_kernel.specs.WellFormed as kernel
use Rattle.forec_kernel.specs.WellFormed.{FineExpr, FineExprs, FineStmt, FineStmts, FineBranches, threads_in, thread_of}
use Rattle.thread_code.specs.declared.instruction.Instruction.{Instruction}
use Rattle.thread_code.specs.declared.instruction.Instruction.TheVariants as instruction
use Rattle.thread_code.specs.Plain.{PlainBlock}
use Rattle.thread_code.specs.Valid.{HasDepth, IsFine, IsParOf, branches_in, arguments_of}
use Rattle.thread_code.proofs.AllFine.{fine_join}
use Rattle.code_gen.specs.Expressions.{expression_code, expressions_code}
use Rattle.code_gen.specs.Statements.{Around, Outside, InLoop, InAbort, loops, weaks, checks, guard, prologue, pause_code, fork_code, set_code, inner, fill_code, turn_code, loop_code, enter_code, par_number, arguments_code, statement_code, statements_code}
use Rattle.code_gen.specs.Blocks.{loop_nesting, counters_in, counters_of, flagged, flags_in, flags_of}
use Rattle.code_gen.proofs.Lengths.{loop_length, if_length, enter_length, fork_length, alike_self, alike_length}
use Rattle.code_gen.proofs.Stretch.{HasAt, has_front, has_back}
use Rattle.code_gen.proofs.Depths.{expression_depths, expressions_depths, arguments_depths, count_all, flag_depths, checks_depths, prologue_depths, turn_depths, fill_depths, enter_depths, pause_depths, fork_depths, statement_depths, statements_depths, same_length, same_lengths, arguments_length, checks_length, checks_inner, prologue_inner, prologue_length, fill_length, turn_length, enter_depths_length, statement_length, statements_length}
use Rattle.code_gen.proofs.FineExpressions.{back_at, first_costs, lead_to, starts, scope, z, Fine, expression_fine, expressions_fine}

-- ---- the first depth of a statement

abbrev Begins : ℕ → List ℕ → Type 0
Begins d [] = ⊥
Begins d (e ∷ ds) = e ≡ d

begins_append : (d : ℕ) (xs ys : List ℕ) → Begins d xs → Begins d (xs ++ ys)
begins_append d [] ys h = absurd h
begins_append d (x ∷ xs) ys h = h

mutual
  expression_begins : (x : Expr) (d : ℕ) → Begins d (expression_depths d x)
  expression_begins (Num n) d = refl
  expression_begins (Local x) d = refl
  expression_begins (LocalAt x n i place) d = begins_append d (expression_depths d i) _ (expression_begins i d)
  expression_begins (Var v) d = refl
  expression_begins (SharedAt v n i place) d = begins_append d (expression_depths d i) _ (expression_begins i d)
  expression_begins (TableAt t i place) d = begins_append d (expression_depths d i) _ (expression_begins i d)
  expression_begins (Un op a) d = begins_append d (expression_depths d a) _ (expression_begins a d)
  expression_begins (Bin op a b place) d = begins_append d (expression_depths d a) _ (expression_begins a d)
  expression_begins (And a b) d = begins_append d (expression_depths d a) _ (expression_begins a d)
  expression_begins (Or a b) d = begins_append d (expression_depths d a) _ (expression_begins a d)
  expression_begins (Choose t a b) d = begins_append d (expression_depths d t) _ (expression_begins t d)
  expression_begins (Call f args) d = expressions_begin args d []

  expressions_begin : (xs : Exprs) (d : ℕ) (rest : List ℕ) → Begins d (expressions_depths d xs ++ (d + count_exprs xs) ∷ rest)
  expressions_begin no_exprs d rest = let e : d + 0 ≡ d = omega arith in e
  expressions_begin (more_exprs x xs) d rest = begins_append d (expressions_depths d (more_exprs x xs)) _ (begins_append d (expression_depths d x) _ (expression_begins x d))

-- the first depth is 0, if there is one
abbrev pub First : List ℕ → Type 0
First [] = Unit {0}
First (d ∷ ds) = d ≡ 0

first_begins : (ds : List ℕ) → Begins 0 ds → First ds
first_begins [] h = absurd h
first_begins (d ∷ ds) h = h

first_append : (xs ys : List ℕ) → First xs → First ys → First (xs ++ ys)
first_append [] ys h g = g
first_append (x ∷ xs) ys h g = h

test_first : (e : Expr) (rest : List ℕ) → First (expression_depths 0 e ++ rest)
test_first e rest = first_begins (expression_depths 0 e ++ rest) (begins_append 0 (expression_depths 0 e) rest (expression_begins e 0))

checks_first : (a : Around) → First (checks_depths a)
checks_first Outside = tt
checks_first (InLoop n a) = checks_first a
checks_first (InAbort false e x a) = checks_first a
checks_first (InAbort true e x a) = refl

prologue_first : (a : Around) → First (prologue_depths a)
prologue_first Outside = tt
prologue_first (InLoop n a) = first_append (prologue_depths a) _ (prologue_first a) refl
prologue_first (InAbort weak e x a) = first_append (prologue_depths a) _ (prologue_first a) (test_first e (1 ∷ []))

arguments_begin : (bs : List Branch) (d : ℕ) (rest : List ℕ) → Begins d (arguments_depths d bs ++ (d + count_all bs) ∷ rest)
arguments_begin [] d rest = let e : d + 0 ≡ d = omega arith in e
arguments_begin (b ∷ bs) d rest = pick b.args (arguments_begin bs (d + count_exprs b.args) rest)
  where
    pick : (args : Exprs) → Begins (d + count_exprs args) (arguments_depths (d + count_exprs args) bs ++ (d + count_exprs args + count_all bs) ∷ rest) →
        Begins d ((expressions_depths d args ++ arguments_depths (d + count_exprs args) bs) ++ (d + (count_exprs args + count_all bs)) ∷ rest)
    pick no_exprs h =
        let e : d + 0 ≡ d = omega arith in
        let f : d + 0 + count_all bs ≡ d + (0 + count_all bs) = omega arith in
        let g = subst (λ n. Begins n (arguments_depths (d + 0) bs ++ (d + 0 + count_all bs) ∷ rest)) e h in
        subst (λ n. Begins d (arguments_depths (d + 0) bs ++ n ∷ rest)) f g
    pick (more_exprs x xs) h = begins_append d (expressions_depths d (more_exprs x xs) ++ arguments_depths (d + count_exprs (more_exprs x xs)) bs) _ (begins_append d (expressions_depths d (more_exprs x xs)) _ (begins_append d (expression_depths d x) _ (expression_begins x d)))

mutual
  pub statement_first : (x : Stmt) (cs ps : List ℕ) → First (statement_depths cs ps x)
  statement_first Nop cs ps = tt
  statement_first (Set to e) cs ps = test_first e (1 ∷ [])
  statement_first (SetAt x n i e place) cs ps = test_first i _
  statement_first (PutAt v n i e place) cs ps = test_first i _
  statement_first (Clear x n) cs ps = refl
  statement_first (Seq list) cs ps = statements_first list cs ps
  statement_first (If e a b) cs ps = test_first e _
  statement_first (While e None body place) cs ps = test_first e _
  statement_first (While e (Some n) body place) cs ps = refl
  statement_first Pause cs ps = refl
  statement_first (Par bs) cs ps =
      let rest = 0 ∷ (cs ++ 0 ∷ (ps ++ 0 ∷ 0 ∷ (cs ++ 0 ∷ []))) in
      let e : 0 + count_all bs ≡ count_all bs = omega arith in
      subst (λ n. First (arguments_depths 0 bs ++ n ∷ rest)) e (first_begins (arguments_depths 0 bs ++ (0 + count_all bs) ∷ rest) (arguments_begin bs 0 rest))
  statement_first (Enter false false e body) cs ps = statement_first body (flag_depths false cs) (ps ++ (expression_depths 0 e ++ 1 ∷ []))
  statement_first (Enter true false e body) cs ps = refl
  statement_first (Enter weak true e body) cs ps = first_append (expression_depths 0 e ++ 1 ∷ []) _ (test_first e (1 ∷ [])) (statement_first body (flag_depths weak cs) (ps ++ (expression_depths 0 e ++ 1 ∷ [])))
  statement_first (Return e) cs ps = test_first e (1 ∷ [])

  statements_first : (list : Stmts) (cs ps : List ℕ) → First (statements_depths cs ps list)
  statements_first no_stmts cs ps = tt
  statements_first (more_stmts x rest) cs ps = first_append (statement_depths cs ps x) _ (statement_first x cs ps) (statements_first rest cs ps)

fill_first : (n : Option ℕ) → First (fill_depths n)
fill_first None = tt
fill_first (Some n) = refl

-- where a stretch begins the depth is 0, if it is after it
pub lead_first : (depths : List ℕ) (p n : ℕ) (ds : List ℕ) → First ds → length ds ≡ n → HasAt depths p ds → HasDepth depths (p + n) 0 → HasDepth depths p 0
lead_first depths p n [] f e h g = let z : p + n ≡ p = omega (arith, e) in subst (λ i. HasDepth depths i 0) z g
lead_first depths p n (d ∷ ds) f e h g = subst (HasDepth depths p) f h.0

-- ---- what a block is of

-- an int function has no thread, a thread's block has one
abbrev pub IsOf : Option ℕ → Bool → Type 0
IsOf None true = Unit {0}
IsOf None false = ⊥
IsOf (Some t) true = ⊥
IsOf (Some t) false = Unit {0}

pub in_thread : (o : Option ℕ) (f : Bool) → IsOf o f → IsTrue (cond f false true) → IsSome o
in_thread None true h e = let no : false ≡ true = e in cc
in_thread None false h e = absurd h
in_thread (Some t) true h e = absurd h
in_thread (Some t) false h e = refl

in_function : (o : Option ℕ) (f : Bool) → IsOf o f → IsTrue f → IsNone o
in_function None true h e = refl
in_function None false h e = absurd h
in_function (Some t) true h e = absurd h
in_function (Some t) false h e = let no : false ≡ true = e in cc

module _ (k : PlainKernel) (thread : Option ℕ) (b : PlainBlock) (depths : List ℕ) where
  -- a loop with a bound has its counter
  abbrev counted_in : Option ℕ → ℕ → Type 0
  counted_in None w = Unit {0}
  counted_in (Some n) w = w < b.counters

  -- ---- what stands round

  -- each abort round a stretch ends at or after its end
  abbrev pub Encloses : ℕ → Around → Type 0
  Encloses e Outside = Unit {0}
  Encloses e (InLoop n a) = Encloses e a
  Encloses e (InAbort weak t x a) = IsSome thread × FineExpr (z k thread b depths) t × (e ≤ x) × HasDepth depths x 0 × Encloses e a

  enclosed : (a : Around) (d e : ℕ) → d ≤ e → Encloses e a → Encloses d a
  enclosed Outside d e le h = tt
  enclosed (InLoop n a) d e le h = enclosed a d e le h
  enclosed (InAbort weak t x a) d e le h = (h.0, h.1, omega (arith, le, h.2), h.3, enclosed a d e le h.4)

  -- one instruction at the end
  then_one : (p : ℕ) (c : List Instruction) (i : Instruction) (ds : List ℕ) (d : ℕ) → Fine k thread b depths p c ds → Fine k thread b depths (p + length c) (i ∷ []) (d ∷ []) → Fine k thread b depths p (c ++ i ∷ []) (ds ++ d ∷ [])
  then_one p c i ds d h g = fine_join (scope k thread b depths) b depths p c (i ∷ []) ds (d ∷ []) h g

  lead : (p q d e : ℕ) → p ≡ q → d ≡ e → HasDepth depths p d → HasDepth depths q e
  lead p q d e hp hd h = lead_to depths p q d e hp hd h

  -- ---- pauses

  checks_fine : (a : Around) (p e : ℕ) → Encloses e a → p + length (checks a) ≤ e → weaks a ≤ b.flags → HasAt depths p (checks_depths a) → HasDepth depths (p + length (checks a)) 0 → Fine k thread b depths p (checks a) (checks_depths a)
  checks_fine Outside p e h le fl has end = tt
  checks_fine (InLoop n a) p e h le fl has end = checks_fine a p e h le fl has end
  checks_fine (InAbort false t x a) p e h le fl has end = checks_fine a p e h.4 le fl has end
  checks_fine (InAbort true t x a) p e h le fl has end =
      let n : p + 1 + length (checks a) ≡ p + suc (length (checks a)) = omega arith in
      let end' = lead _ _ 0 0 (sym n) refl end in
      let next = lead_first depths (p + 1) (length (checks a)) (checks_depths a) (checks_first a) (checks_length a) has.1 end' in
      ((h.0, omega (arith, fl), (next, h.3, omega (arith, le, h.2))), checks_fine a (p + 1) e h.4 (omega (arith, le)) (omega (arith, fl)) has.1 end')

  guard_fine : (weak : Bool) (f x q e : ℕ) → IsSome thread → HasDepth depths x 0 → f < b.flags → HasDepth depths (q + 1) 0 → Fine k thread b depths q (guard weak f x ∷ []) (1 ∷ [])
  guard_fine false f x q e some exit fl next = let less : 0 ≡ 1 - 1 = omega arith in ((omega arith, lead _ _ _ _ refl less next, lead _ _ _ _ refl less exit), tt)
  guard_fine true f x q e some exit fl next = let less : 0 ≡ 1 - 1 = omega arith in ((some, fl, omega arith, lead _ _ _ _ refl less next), tt)

  -- (a strong abort's guard names no flag)
  strong_fine : (f x q : ℕ) → HasDepth depths x 0 → HasDepth depths (q + 1) 0 → Fine k thread b depths q (guard false f x ∷ []) (1 ∷ [])
  strong_fine f x q exit next = let less : 0 ≡ 1 - 1 = omega arith in ((omega arith, lead _ _ _ _ refl less next, lead _ _ _ _ refl less exit), tt)

  -- a test and its guard
  guarded_fine : (weak : Bool) (t : Expr) (f x p : ℕ) → IsSome thread → FineExpr (z k thread b depths) t → HasDepth depths x 0 → (weak ≡ true → f < b.flags) → HasAt depths p (expression_depths 0 t ++ 1 ∷ []) → HasDepth depths (p + length (expression_code p t ++ guard weak f x ∷ [])) 0 →
      Fine k thread b depths p (expression_code p t ++ guard weak f x ∷ []) (expression_depths 0 t ++ 1 ∷ [])
  guarded_fine weak t f x p some fit exit fl has end =
      let c = expression_code p t in
      let g = guard weak f x in
      let here = back_at depths p (expression_depths 0 t) (1 ∷ []) (length c) (same_length t 0 p) has in
      let n : p + length (c ++ g ∷ []) ≡ p + length c + 1 = omega (arith, length-append c (g ∷ [])) in
      then_one p c g (expression_depths 0 t) 1 (expression_fine k thread b depths t 0 p fit (has_front depths p (expression_depths 0 t) _ has) here.0) (pick weak refl (lead _ _ _ _ n refl end))
    where
      pick : (w : Bool) → weak ≡ w → HasDepth depths (p + length (expression_code p t) + 1) 0 → Fine k thread b depths (p + length (expression_code p t)) (guard w f x ∷ []) (1 ∷ [])
      pick false e next = strong_fine f x _ exit next
      pick true e next = guard_fine true f x _ 0 some exit (fl e) next

  flag_there : (weak : Bool) (t : Expr) (x : ℕ) (a : Around) (n : ℕ) → weaks (InAbort weak t x a) ≤ n → weak ≡ true → weaks a < n
  flag_there true t x a n h e = omega (arith, h)
  flag_there false t x a n h e = cc

  weaks_outer : (weak : Bool) (t : Expr) (x : ℕ) (a : Around) (n : ℕ) → weaks (InAbort weak t x a) ≤ n → weaks a ≤ n
  weaks_outer true t x a n h = omega (arith, h)
  weaks_outer false t x a n h = h

  prologue_fine : (a : Around) (w e : ℕ) → Encloses e a → loops a ≤ b.counters → weaks a ≤ b.flags → HasAt depths w (prologue_depths a) → HasDepth depths (w + length (prologue w a)) 0 → Fine k thread b depths w (prologue w a) (prologue_depths a)
  prologue_fine Outside w e h lo fl has end = tt
  prologue_fine (InLoop n a) w e h lo fl has end =
      let c = prologue w a in
      let i = instruction.Fill (loops a) n in
      let here = back_at depths w (prologue_depths a) (0 ∷ []) (length c) (prologue_length w a) has in
      let m : w + length (c ++ i ∷ []) ≡ w + length c + 1 = omega (arith, length-append c (i ∷ [])) in
      then_one w c i (prologue_depths a) 0 (prologue_fine a w e h (omega (arith, lo)) fl (has_front depths w (prologue_depths a) _ has) here.0) ((omega (arith, lo), lead _ _ _ _ m refl end), tt)
  prologue_fine (InAbort weak t x a) w e h lo fl has end =
      let c = prologue w a in
      let q = w + length c in
      let g = expression_code q t ++ guard weak (weaks a) x ∷ [] in
      let rest = expression_depths 0 t ++ 1 ∷ [] in
      let here = back_at depths w (prologue_depths a) rest (length c) (prologue_length w a) has in
      let m : w + length (c ++ g) ≡ q + length g = omega (arith, length-append c g) in
      fine_join (scope k thread b depths) b depths w c g (prologue_depths a) rest
      (prologue_fine a w e h.4 lo (weaks_outer weak t x a b.flags fl) (has_front depths w (prologue_depths a) _ has) (starts depths t 0 q (has_front depths q (expression_depths 0 t) _ here)))
      (guarded_fine weak t (weaks a) x q h.0 h.1 h.3 (flag_there weak t x a b.flags fl) here (lead _ _ _ _ m refl end))

  pause_fine : (a : Around) (p : ℕ) → IsSome thread → Encloses (p + length (pause_code p a)) a → loops a ≤ b.counters → weaks a ≤ b.flags → HasAt depths p (pause_depths (checks_depths a) (prologue_depths a)) → HasDepth depths (p + length (pause_code p a)) 0 →
      Fine k thread b depths p (pause_code p a) (pause_depths (checks_depths a) (prologue_depths a))
  pause_fine a p some h lo fl has end =
      let c = checks a in
      let j = p + 1 + length c in
      let w = j + 1 in
      let pr = prologue w a in
      let ds = checks_depths a in
      let here = back_at depths (p + 1) ds (0 ∷ prologue_depths a) (length c) (checks_length a) has.1 in
      let n : p + length (pause_code p a) ≡ w + length pr = omega (arith, length-append c (instruction.Pause w ∷ pr)) in
      let end' = lead _ _ 0 0 n refl end in
      let wake = lead_first depths w (length pr) (prologue_depths a) (prologue_first a) (prologue_length w a) here.1 end' in
      let first = lead_first depths (p + 1) (length c) ds (checks_first a) (checks_length a) (has_front depths (p + 1) ds _ has.1) here.0 in (
        first,
        fine_join (scope k thread b depths) b depths (p + 1) c (instruction.Pause w ∷ pr) ds (0 ∷ prologue_depths a)
            (checks_fine a (p + 1) (p + length (pause_code p a)) h (omega (arith, n)) fl (has_front depths (p + 1) ds _ has.1) here.0)
            ((some, wake), prologue_fine a w (p + length (pause_code p a)) h lo fl here.1 end'),
      )

  -- ---- a fork

  fork_fine : (j n r : ℕ) (a : Around) → IsParOf k.shape thread j → arguments_of k.shape (branches_in k.shape j) ≡ n → IsSome thread → Encloses (r + length (fork_code j r a)) a → loops a ≤ b.counters → weaks a ≤ b.flags → HasAt depths r (fork_depths n (checks_depths a) (prologue_depths a)) → HasDepth depths (r + length (fork_code j r a)) 0 →
      Fine k thread b depths r (fork_code j r a) (fork_depths n (checks_depths a) (prologue_depths a))
  fork_fine j n r a par arity some h lo fl has end =
      let c = checks a in
      let ds = checks_depths a in
      let ps = prologue_depths a in
      let cp = r + 1 + 1 in
      let w = cp + length c + 1 in
      let pr = prologue w a in
      let g = w + length pr in
      let out = g + 1 + 1 + length c + 1 in
      let last = c ++ instruction.Pause w ∷ [] in
      let tail = instruction.Again j (g + 1 + 1) ∷ instruction.Jump out ∷ last in
      let tail_ds = 0 ∷ 0 ∷ (ds ++ 0 ∷ []) in
      let e = r + length (fork_code j r a) in
      let len : e ≡ out = omega (arith, fork_length j r a) in
      let end' : HasDepth depths out 0 = lead _ _ _ _ len refl end in
      let h1 = back_at depths cp ds (0 ∷ (ps ++ tail_ds)) (length c) (checks_length a) has.1.1 in
      let h2 = back_at depths w ps tail_ds (length pr) (prologue_length w a) h1.1 in
      let h3 = back_at depths (g + 1 + 1) ds (0 ∷ []) (length c) (checks_length a) h2.1.1 in
      let first = lead_first depths cp (length c) ds (checks_first a) (checks_length a) (has_front depths cp ds _ has.1.1) h1.0 in
      let wake = lead_first depths w (length pr) ps (prologue_first a) (prologue_length w a) (has_front depths w ps _ h1.1) h2.0 in
      let second = lead_first depths (g + 1 + 1) (length c) ds (checks_first a) (checks_length a) (has_front depths (g + 1 + 1) ds _ h2.1.1) h3.0 in
      let less : 0 ≡ n - arguments_of k.shape (branches_in k.shape j) = omega (arith, arity) in (
        (par, omega (arith, arity), (lead _ _ _ _ refl less has.1.0, lead _ _ _ _ refl less first, omega arith)),
        (
          (end', λ le. absurd (omega (arith, le))),
          fine_join (scope k thread b depths) b depths cp c (instruction.Pause w ∷ (pr ++ tail)) ds (0 ∷ (ps ++ tail_ds))
              (checks_fine a cp e h (omega (arith, len)) fl (has_front depths cp ds _ has.1.1) h1.0) (
                (some, wake),
                fine_join (scope k thread b depths) b depths w pr tail ps tail_ds (prologue_fine a w e h lo fl (has_front depths w ps _ h1.1) h2.0) (
                  (par, (h2.1.0, second, omega arith)),
                  (
                    (end', λ le. absurd (omega (arith, le))),
                    fine_join (scope k thread b depths) b depths (g + 1 + 1) c (instruction.Pause w ∷ []) ds (0 ∷ [])
                        (checks_fine a (g + 1 + 1) e h (omega (arith, len)) fl (has_front depths (g + 1 + 1) ds _ h2.1.1) h3.0)
                        ((some, wake), tt),
                  ),
                ),
              ),
        ),
      )

  -- ---- statements

  -- what is known of a par: its branches are those of the shape, with the thread as their parent
  pub record ParFine (bs : List Branch) : Type 0 where
    pub is_par : IsParOf k.shape thread (par_number k.shape.threads bs)
    pub arity : arguments_of k.shape (branches_in k.shape (par_number k.shape.threads bs)) ≡ count_all bs

  abbrev mutual
    pub ParsFine : Stmt → Type 0
    ParsFine Nop = Unit {0}
    ParsFine (Set to e) = Unit {0}
    ParsFine (SetAt x n i e place) = Unit {0}
    ParsFine (PutAt v n i e place) = Unit {0}
    ParsFine (Clear x n) = Unit {0}
    ParsFine (Seq list) = AllParsFine list
    ParsFine (If e x y) = ParsFine x × ParsFine y
    ParsFine (While e bound body place) = ParsFine body
    ParsFine Pause = Unit {0}
    ParsFine (Par bs) = ParFine bs
    ParsFine (Enter weak immediate e body) = ParsFine body
    ParsFine (Return e) = Unit {0}

    pub AllParsFine : Stmts → Type 0
    AllParsFine no_stmts = Unit {0}
    AllParsFine (more_stmts x rest) = ParsFine x × AllParsFine rest

  arguments_fine : (bs : List Branch) (d p : ℕ) → FineBranches (z k thread b depths) bs → HasAt depths p (arguments_depths d bs) → HasDepth depths (p + length (arguments_code p bs)) (d + count_all bs) → Fine k thread b depths p (arguments_code p bs) (arguments_depths d bs)
  arguments_fine [] d p ok has end = tt
  arguments_fine (x ∷ bs) d p ok has end =
      let c = expressions_code p x.args in
      let q = p + length c in
      let cs = arguments_code q bs in
      let n = d + count_exprs x.args in
      let ds = expressions_depths d x.args in
      let es = arguments_depths n bs in
      let len : p + length (c ++ cs) ≡ q + length cs = omega (arith, length-append c cs) in
      let m : d + (count_exprs x.args + count_all bs) ≡ n + count_all bs = omega arith in
      let h1 = back_at depths p ds es (length c) (same_lengths x.args d p) has in
      let end' = lead _ _ _ _ len m end in
      let fit = ok.0 in
      fine_join (scope k thread b depths) b depths p c cs ds es (expressions_fine k thread b depths x.args d p fit.args (has_front depths p ds es has) (begins bs n q h1 end')) (arguments_fine bs n q ok.1 h1 end')
    where
      of_exprs : (xs : Exprs) (d q : ℕ) (rest : List ℕ) → HasAt depths q ((expressions_depths d xs) ++ rest) → (HasAt depths q rest → HasDepth depths q (d + count_exprs xs)) → HasDepth depths q d
      of_exprs no_exprs d q rest h f = let e : d + 0 ≡ d = omega arith in subst (HasDepth depths q) e (f h)
      of_exprs (more_exprs y ys) d q rest h f = starts depths y d q (has_front depths q (expression_depths d y) _ (has_front depths q (expressions_depths d (more_exprs y ys)) rest h))

      begins : (bs : List Branch) (d q : ℕ) → HasAt depths q (arguments_depths d bs) → HasDepth depths (q + length (arguments_code q bs)) (d + count_all bs) → HasDepth depths q d
      begins [] d q h e = let n : q + 0 ≡ q = omega arith in let m : d + 0 ≡ d = omega arith in lead _ _ _ _ n m e
      begins (y ∷ ys) d q h e = of_args y.args h (λ g e'. begins ys (d + count_exprs y.args) q g e') e
        where
          of_args : (xs : Exprs) → HasAt depths q (expressions_depths d xs ++ arguments_depths (d + count_exprs xs) ys) → (HasAt depths q (arguments_depths (d + count_exprs xs) ys) → HasDepth depths (q + length (arguments_code q ys)) (d + count_exprs xs + count_all ys) → HasDepth depths q (d + count_exprs xs)) →
              HasDepth depths (q + length (expressions_code q xs ++ arguments_code (q + length (expressions_code q xs)) ys)) (d + (count_exprs xs + count_all ys)) → HasDepth depths q d
          of_args no_exprs h f e =
              let n : q + length (arguments_code (q + 0) ys) ≡ q + length (arguments_code q ys) = (let z : q + 0 ≡ q = omega arith in ap (λ i. q + length (arguments_code i ys)) z) in
              let m : d + (0 + count_all ys) ≡ d + 0 + count_all ys = omega arith in
              let same : d + 0 ≡ d = omega arith in
              subst (HasDepth depths q) same (f h (lead _ _ _ _ n m e))
          of_args (more_exprs x xs) h f e = starts depths x d q (has_front depths q (expression_depths d x) _ (has_front depths q (expressions_depths d (more_exprs x xs)) _ h))

  fill_fine : (n : Option ℕ) (w p : ℕ) → (counted_in n w) → HasDepth depths (p + length (fill_code n w)) 0 → Fine k thread b depths p (fill_code n w) (fill_depths n)
  fill_fine None w p lt end = tt
  fill_fine (Some n) w p lt end = ((lt, end), tt)

  turn_fine : (n : Option ℕ) (w p : ℕ) (place : Place) → (counted_in n w) → HasDepth depths (p + length (turn_code n w place)) 0 → Fine k thread b depths p (turn_code n w place) (fill_depths n)
  turn_fine None w p place lt end = tt
  turn_fine (Some n) w p place lt end = ((lt, end), tt)

  -- a test and a jump after it
  test_fine : (e : Expr) (d p : ℕ) (i : Instruction) (rest : List Instruction) (ds : List ℕ) → FineExpr (z k thread b depths) e → HasAt depths p (expression_depths 0 e ++ d ∷ ds) → d ≡ 1 → Fine k thread b depths (p + length (expression_code p e)) (i ∷ rest) (d ∷ ds) → Fine k thread b depths p (expression_code p e ++ i ∷ rest) (expression_depths 0 e ++ d ∷ ds)
  test_fine e d p i rest ds ok has is g =
      let c = expression_code p e in
      let here = back_at depths p (expression_depths 0 e) (d ∷ ds) (length c) (same_length e 0 p) has in
      fine_join (scope k thread b depths) b depths p c (i ∷ rest) (expression_depths 0 e) (d ∷ ds) (expression_fine k thread b depths e 0 p ok (has_front depths p (expression_depths 0 e) _ has) (lead _ _ _ _ refl is here.0)) g

  -- ---- all of them

  counted_here : (n : Option ℕ) (i m : ℕ) → i + loop_nesting n m ≤ b.counters → counted_in n i
  counted_here None i m h = tt
  counted_here (Some n) i m h = omega (arith, h)

  counted_inside : (n : Option ℕ) (a : Around) (m : ℕ) → loops a + loop_nesting n m ≤ b.counters → loops (inner n a) + m ≤ b.counters
  counted_inside None a m h = h
  counted_inside (Some n) a m h = omega (arith, h)

  weaks_inner : (n : Option ℕ) (a : Around) → weaks (inner n a) ≡ weaks a
  weaks_inner None a = refl
  weaks_inner (Some n) a = refl

  encloses_inner : (n : Option ℕ) (a : Around) (e : ℕ) → Encloses e a → Encloses e (inner n a)
  encloses_inner None a e h = h
  encloses_inner (Some n) a e h = h

  flagged_inside : (weak : Bool) (t : Expr) (x : ℕ) (a : Around) (m : ℕ) → weaks a + flagged weak m ≤ b.flags → weaks (InAbort weak t x a) + m ≤ b.flags
  flagged_inside false t x a m h = h
  flagged_inside true t x a m h = omega (arith, h)

  flagged_here : (weak : Bool) (i m : ℕ) → i + flagged weak m ≤ b.flags → weak ≡ true → i < b.flags
  flagged_here false i m h e = cc
  flagged_here true i m h e = omega (arith, h)

  set_fine : (to : spot_type.Spot) (e : Expr) (p : ℕ) → kernel.FineSpot (z k thread b depths) to → FineExpr (z k thread b depths) e → HasAt depths p (expression_depths 0 e ++ 1 ∷ []) → HasDepth depths (p + length (expression_code p e ++ set_code to ∷ [])) 0 →
      Fine k thread b depths p (expression_code p e ++ set_code to ∷ []) (expression_depths 0 e ++ 1 ∷ [])
  set_fine to e p fit ok has end = test_fine e 1 p (set_code to) [] [] ok has refl (pick to fit (lead _ _ _ _ n less end))
    where
      n : p + length (expression_code p e ++ set_code to ∷ []) ≡ p + length (expression_code p e) + 1
      n = omega (arith, length-append (expression_code p e) (set_code to ∷ []))

      less : 0 ≡ 1 - 1
      less = omega arith

      pick : (to : spot_type.Spot) → kernel.FineSpot (z k thread b depths) to → HasDepth depths (p + length (expression_code p e) + 1) (1 - 1) → Fine k thread b depths (p + length (expression_code p e)) (set_code to ∷ []) (1 ∷ [])
      pick (spot.Local x) fit next = ((fit, omega arith, next), tt)
      pick (spot.Variable v) fit next = ((fit, omega arith, next), tt)

  -- an index and a value in front of an instruction
  element_fine : (i e : Expr) (p : ℕ) (last : Instruction) → FineExpr (z k thread b depths) i → FineExpr (z k thread b depths) e → HasAt depths p (expression_depths 0 i ++ (expression_depths 1 e ++ 2 ∷ [])) →
      HasDepth depths (p + length (expression_code p i ++ (expression_code (p + length (expression_code p i)) e ++ last ∷ []))) 0 → ((q : ℕ) → HasDepth depths (q + 1) (2 - 2) → IsFine (scope k thread b depths) b depths q 2 last) →
      Fine k thread b depths p (expression_code p i ++ (expression_code (p + length (expression_code p i)) e ++ last ∷ [])) (expression_depths 0 i ++ (expression_depths 1 e ++ 2 ∷ []))
  element_fine i e p last oki oke has end fine =
      let ci = expression_code p i in
      let q = p + length ci in
      let ce = expression_code q e in
      let h1 = back_at depths p (expression_depths 0 i) (expression_depths 1 e ++ 2 ∷ []) (length ci) (same_length i 0 p) has in
      let h2 = back_at depths q (expression_depths 1 e) (2 ∷ []) (length ce) (same_length e 1 q) h1 in
      let n : p + length (ci ++ (ce ++ last ∷ [])) ≡ q + length ce + 1 = omega (arith, length-append ci (ce ++ last ∷ []), length-append ce (last ∷ [])) in
      let less : 0 ≡ 2 - 2 = omega arith in
      let one : 1 ≡ 0 + 1 = omega arith in
      let two : 2 ≡ 1 + 1 = omega arith in
      fine_join (scope k thread b depths) b depths p ci (ce ++ last ∷ []) (expression_depths 0 i) (expression_depths 1 e ++ 2 ∷ [])
      (expression_fine k thread b depths i 0 p oki (has_front depths p (expression_depths 0 i) _ has) (lead _ _ _ _ refl one (starts depths e 1 q (has_front depths q (expression_depths 1 e) _ h1))))
      (then_one q ce last (expression_depths 1 e) 2 (expression_fine k thread b depths e 1 q oke (has_front depths q (expression_depths 1 e) _ h1) (lead _ _ _ _ refl two h2.0)) (fine (q + length ce) (lead _ _ _ _ n less end), tt))

  enter_fine : (weak immediate : Bool) (e : Expr) (f x p : ℕ) → IsSome thread → FineExpr (z k thread b depths) e → HasDepth depths x 0 → (weak ≡ true → f < b.flags) → HasAt depths p (enter_depths weak immediate e) → HasDepth depths (p + length (enter_code weak immediate f x (expression_code p e))) 0 →
      Fine k thread b depths p (enter_code weak immediate f x (expression_code p e)) (enter_depths weak immediate e)
  enter_fine false false e f x p some ok exit fl has end = tt
  enter_fine true false e f x p some ok exit fl has end = ((some, fl refl, end), tt)
  enter_fine false true e f x p some ok exit fl has end = guarded_fine false e f x p some ok exit fl has end
  enter_fine true true e f x p some ok exit fl has end = guarded_fine true e f x p some ok exit fl has end

  mutual
    pub statement_fine : (x : Stmt) (a : Around) (p : ℕ) (kind : Bool) (cs ps : List ℕ) → IsOf thread kind → FineStmt kind (z k thread b depths) x → ParsFine x → Encloses (p + length (statement_code k.shape.threads a p x)) a → loops a + counters_in x ≤ b.counters → weaks a + flags_in x ≤ b.flags → cs ≡ checks_depths a → ps ≡ prologue_depths a →
        HasAt b.steps p (statement_code k.shape.threads a p x) → HasAt depths p (statement_depths cs ps x) → HasDepth depths (p + length (statement_code k.shape.threads a p x)) 0 → Fine k thread b depths p (statement_code k.shape.threads a p x) (statement_depths cs ps x)
    statement_fine Nop a p kind cs ps is ok par round lo fl hc hp code has end = tt
    statement_fine (Set to e) a p kind cs ps is ok par round lo fl hc hp code has end = set_fine to e p ok.0 ok.1 has end
    statement_fine (SetAt x n i e place) a p kind cs ps is ok par round lo fl hc hp code has end =
        let array = ok.0 in
        element_fine i e p (instruction.StoreAt x n place) ok.1 ok.2 has end (λ q g. (array.within, omega arith, g))
    statement_fine (PutAt v n i e place) a p kind cs ps is ok par round lo fl hc hp code has end =
        let array = ok.0 in
        element_fine i e p (instruction.PutAt v n place) ok.1 ok.2 has end (λ q g. (array.used, omega arith, g))
    statement_fine (Clear x n) a p kind cs ps is ok par round lo fl hc hp code has end = ((ok.within, end), tt)
    statement_fine (Seq list) a p kind cs ps is ok par round lo fl hc hp code has end = statements_fine list a p kind cs ps is ok par round lo fl hc hp code has end
    statement_fine (If e x y) a p kind cs ps is ok par round lo fl hc hp code has end =
        let ts = k.shape.threads in
        let test = expression_code p e in
        let j = p + length test in
        let q = j + 1 in
        let cx = statement_code ts a q x in
        let r = q + length cx + 1 in
        let cy = statement_code ts a r y in
        let dx = statement_depths cs ps x in
        let dy = statement_depths cs ps y in
        let out = r + length cy in
        let whole = p + length (statement_code ts a p (If e x y)) in
        let len : whole ≡ out = omega (arith, if_length p test (λ q. statement_code ts a q x) (λ r. statement_code ts a r y)) in
        let h1 = back_at depths p (expression_depths 0 e) (1 ∷ (dx ++ 0 ∷ dy)) (length test) (same_length e 0 p) has in
        let h2 = back_at depths q dx (0 ∷ dy) (length cx) (statement_length ts x a q cs ps hc hp) h1.1 in
        let s1 = has_back b.steps p test _ code in
        let s2 = has_back b.steps q cx _ s1.1 in
        let end' : HasDepth depths out 0 = lead _ _ _ _ len refl end in
        let less : 0 ≡ 1 - 1 = omega arith in
        let first_x = lead_first depths q (length cx) dx (statement_first x cs ps) (statement_length ts x a q cs ps hc hp) (has_front depths q dx _ h1.1) h2.0 in
        let first_y = lead_first depths r (length cy) dy (statement_first y cs ps) (statement_length ts y a r cs ps hc hp) h2.1 end' in
        test_fine e 1 p (instruction.Zero r) (cx ++ instruction.Jump out ∷ cy) (dx ++ 0 ∷ dy) ok.0 has refl (
          (omega arith, lead _ _ _ _ refl less first_x, lead _ _ _ _ refl less first_y),
          fine_join (scope k thread b depths) b depths q cx (instruction.Jump out ∷ cy) dx (0 ∷ dy)
              (statement_fine x a q kind cs ps is ok.1 par.0 (enclosed a (q + length cx) whole (omega (arith, len)) round) (omega (arith, lo)) (omega (arith, fl)) hc hp (has_front b.steps q cx _ s1.1) (has_front depths q dx _ h1.1) h2.0) (
                (end', λ le. absurd (omega (arith, le))),
                statement_fine y a r kind cs ps is ok.2 par.1 (enclosed a out whole (omega (arith, len)) round) (omega (arith, lo)) (omega (arith, fl)) hc hp s2.1 h2.1 end',
              ),
        )
    statement_fine (While e n x place) a p kind cs ps is ok par round lo fl hc hp code has end =
        let ts = k.shape.threads in
        let fill = fill_code n (loops a) in
        let h = p + length fill in
        let test = expression_code h e in
        let j = h + length test in
        let t = j + 1 in
        let turn = turn_code n (loops a) place in
        let q = t + length turn in
        let cx = statement_code ts (inner n a) q x in
        let l = q + length cx in
        let out = l + 1 in
        let fd = fill_depths n in
        let ps' = turn_depths n ps in
        let dx = statement_depths cs ps' x in
        let back = instruction.Jump h in
        let whole = p + length (statement_code ts a p (While e n x place)) in
        let len : whole ≡ out = omega (arith, length-append fill (loop_code h test turn (λ b. statement_code ts (inner n a) b x)), loop_length h test turn (λ b. statement_code ts (inner n a) b x)) in
        let hc' = hc ∙ checks_inner n a in
        let hp' = ap (turn_depths n) hp ∙ prologue_inner n a in
        let long = statement_length ts x (inner n a) q cs ps' hc' hp' in
        let body_ds = fd ++ (dx ++ 0 ∷ []) in
        let h1 = back_at depths p fd (expression_depths 0 e ++ (1 ∷ body_ds)) (length fill) (fill_length n (loops a)) has in
        let h2 = back_at depths h (expression_depths 0 e) (1 ∷ body_ds) (length test) (same_length e 0 h) h1 in
        let h3 = back_at depths t fd (dx ++ 0 ∷ []) (length turn) (turn_length n (loops a) place) h2.1 in
        let h4 = back_at depths q dx (0 ∷ []) (length cx) long h3 in
        let s1 = has_back b.steps p fill _ code in
        let s2 = has_back b.steps h test _ s1 in
        let s3 = has_back b.steps t turn _ s2.1 in
        let end' : HasDepth depths out 0 = lead _ _ _ _ len refl end in
        let less : 0 ≡ 1 - 1 = omega arith in
        let here = counted_here n (loops a) (counters_in x) lo in
        let begin_test = starts depths e 0 h (has_front depths h (expression_depths 0 e) _ h1) in
        let begin_body = lead_first depths q (length cx) dx (statement_first x cs ps') long (has_front depths q dx _ h3) h4.0 in
        let turn_end : HasDepth depths t 0 = lead_first depths t (length turn) fd (fill_first n) (turn_length n (loops a) place) (has_front depths t fd _ h2.1) begin_body in
        fine_join (scope k thread b depths) b depths p fill (loop_code h test turn (λ b. statement_code ts (inner n a) b x)) fd (expression_depths 0 e ++ (1 ∷ body_ds)) (fill_fine n (loops a) p here begin_test)
        (test_fine e 1 h (instruction.Zero out) (turn ++ (cx ++ back ∷ [])) body_ds ok.1 h1 refl (
          (omega arith, lead _ _ _ _ refl less turn_end, lead _ _ _ _ refl less end'),
          fine_join (scope k thread b depths) b depths t turn (cx ++ back ∷ []) fd (dx ++ 0 ∷ []) (turn_fine n (loops a) t place here begin_body)
              (then_one q cx back dx 0
              (statement_fine x (inner n a) q kind cs ps' is ok.2 par (encloses_inner n a l (enclosed a l whole (omega (arith, len)) round)) (counted_inside n a (counters_in x) lo) (omega (arith, fl, weaks_inner n a)) hc' hp' (has_front b.steps q cx _ s3) (has_front depths q dx _ h3) h4.0)
              ((begin_test, λ le. first_costs b.steps e h (has_front b.steps h test _ s1)), tt)),
        ))
    statement_fine Pause a p kind cs ps is ok par round lo fl hc hp code has end =
        let has' = subst (λ l. HasAt depths p (pause_depths (checks_depths a) l)) hp (subst (λ l. HasAt depths p (pause_depths l ps)) hc has) in
        subst (λ l. Fine k thread b depths p (pause_code p a) (pause_depths l ps)) (sym hc)
        (subst (λ l. Fine k thread b depths p (pause_code p a) (pause_depths (checks_depths a) l)) (sym hp)
        (pause_fine a p (in_thread thread kind is ok) round (omega (arith, lo)) (omega (arith, fl)) has' end))
    statement_fine (Par bs) a p kind cs ps is ok par round lo fl hc hp code has end =
        let j = par_number k.shape.threads bs in
        let n = count_all bs in
        let args = arguments_code p bs in
        let r = p + length args in
        let fork = fork_code j r a in
        let ds = arguments_depths 0 bs in
        let whole = p + length (args ++ fork) in
        let len : whole ≡ r + length fork = omega (arith, length-append args fork) in
        let zero_more : n ≡ 0 + n = omega arith in
        let same = subst (λ l. HasAt depths p (ds ++ fork_depths n (checks_depths a) l)) hp (subst (λ l. HasAt depths p (ds ++ fork_depths n l ps)) hc has) in
        let h1 = back_at depths p ds (fork_depths n (checks_depths a) (prologue_depths a)) (length args) (arguments_length bs 0 p) same in
        subst (λ l. Fine k thread b depths p (args ++ fork) (ds ++ fork_depths n l ps)) (sym hc)
        (subst (λ l. Fine k thread b depths p (args ++ fork) (ds ++ fork_depths n (checks_depths a) l)) (sym hp)
        (fine_join (scope k thread b depths) b depths p args fork ds (fork_depths n (checks_depths a) (prologue_depths a))
        (arguments_fine bs 0 p ok.2 (has_front depths p ds _ same) (lead _ _ _ _ refl zero_more h1.0))
        (fork_fine j n r a par.is_par par.arity (in_thread thread kind is ok.0) (enclosed a (r + length fork) whole (omega (arith, len)) round) (omega (arith, lo)) (omega (arith, fl)) h1 (lead _ _ _ _ len refl end))))
    statement_fine (Enter weak immediate e x) a p kind cs ps is ok par round lo fl hc hp code has end =
        let ts = k.shape.threads in
        let plain = enter_code weak immediate (weaks a) 0 (expression_code p e) in
        let q = p + length plain in
        let y = q + length (statement_code ts (InAbort weak e 0 a) q x) in
        let pre = enter_code weak immediate (weaks a) y (expression_code p e) in
        let around = InAbort weak e y a in
        let body = statement_code ts around q x in
        let whole = p + length (pre ++ body) in
        let same : length pre ≡ length plain = enter_length weak immediate (weaks a) (weaks a) y 0 (expression_code p e) in
        let start : p + length pre ≡ q = ap (λ n. p + n) same in
        let long : length body ≡ length (statement_code ts (InAbort weak e 0 a) q x) = alike_length ts x around (InAbort weak e 0 a) q q refl (refl, refl, alike_self a) in
        let finish : q + length body ≡ y = ap (λ n. q + n) long in
        let len : whole ≡ y = omega (arith, length-append pre body, long, same) in
        let cs' = flag_depths weak cs in
        let ps' = ps ++ (expression_depths 0 e ++ 1 ∷ []) in
        let hc' : cs' ≡ checks_depths around = ap (flag_depths weak) hc in
        let hp' : ps' ≡ prologue_depths around = ap (λ l. l ++ (expression_depths 0 e ++ 1 ∷ [])) hp in
        let ed = enter_depths weak immediate e in
        let dx = statement_depths cs' ps' x in
        let some = in_thread thread kind is ok.0 in
        let exit : HasDepth depths y 0 = lead _ _ _ _ len refl end in
        let h1 : HasAt depths q dx = subst (λ n. HasAt depths n dx) start (back_at depths p ed dx (length pre) (enter_depths_length weak immediate e (weaks a) y p) has) in
        let s1 : HasAt b.steps q body = subst (λ n. HasAt b.steps n body) start (has_back b.steps p pre body code) in
        let body_end : HasDepth depths (q + length body) 0 = lead _ _ _ _ (sym finish) refl exit in
        let begin_body = lead_first depths q (length body) dx (statement_first x cs' ps') (statement_length ts x around q cs' ps' hc' hp') h1 body_end in
        let round' : Encloses (q + length body) around = (some, ok.1, omega (arith, finish), exit, enclosed a (q + length body) whole (omega (arith, len, finish)) round) in
        fine_join (scope k thread b depths) b depths p pre body ed dx
        (enter_fine weak immediate e (weaks a) y p some ok.1 exit (flagged_here weak (weaks a) (flags_in x) fl) (has_front depths p ed dx has) (lead _ _ _ _ (sym start) refl begin_body))
        (subst (λ n. Fine k thread b depths n body dx) (sym start) (statement_fine x around q kind cs' ps' is ok.2 par round' lo (flagged_inside weak e y a (flags_in x) fl) hc' hp' s1 h1 body_end))
    statement_fine (Return e) a p kind cs ps is ok par round lo fl hc hp code has end =
        test_fine e 1 p instruction.Return [] [] ok.1 has refl ((in_function thread kind is ok.0, omega arith), tt)

    pub statements_fine : (list : Stmts) (a : Around) (p : ℕ) (kind : Bool) (cs ps : List ℕ) → IsOf thread kind → FineStmts kind (z k thread b depths) list → AllParsFine list → Encloses (p + length (statements_code k.shape.threads a p list)) a → loops a + counters_of list ≤ b.counters → weaks a + flags_of list ≤ b.flags → cs ≡ checks_depths a → ps ≡ prologue_depths a →
        HasAt b.steps p (statements_code k.shape.threads a p list) → HasAt depths p (statements_depths cs ps list) → HasDepth depths (p + length (statements_code k.shape.threads a p list)) 0 → Fine k thread b depths p (statements_code k.shape.threads a p list) (statements_depths cs ps list)
    statements_fine no_stmts a p kind cs ps is ok par round lo fl hc hp code has end = tt
    statements_fine (more_stmts x rest) a p kind cs ps is ok par round lo fl hc hp code has end =
        let ts = k.shape.threads in
        let cx = statement_code ts a p x in
        let q = p + length cx in
        let more = statements_code ts a q rest in
        let dx = statement_depths cs ps x in
        let ds = statements_depths cs ps rest in
        let whole = p + length (cx ++ more) in
        let len : whole ≡ q + length more = omega (arith, length-append cx more) in
        let h1 = back_at depths p dx ds (length cx) (statement_length ts x a p cs ps hc hp) has in
        let end' = lead _ _ 0 0 len refl end in
        let begin_rest = lead_first depths q (length more) ds (statements_first rest cs ps) (statements_length ts rest a q cs ps hc hp) h1 end' in
        fine_join (scope k thread b depths) b depths p cx more dx ds
        (statement_fine x a p kind cs ps is ok.0 par.0 (enclosed a q whole (omega (arith, len)) round) (omega (arith, lo)) (omega (arith, fl)) hc hp (has_front b.steps p cx more code) (has_front depths p dx ds has) begin_rest)
        (statements_fine rest a q kind cs ps is ok.1 par.1 (enclosed a (q + length more) whole (omega (arith, len)) round) (omega (arith, lo)) (omega (arith, fl)) hc hp (has_back b.steps p cx more code) h1 end')
