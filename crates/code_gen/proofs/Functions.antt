-- The code of an int function gives what the function gives.
use Rattle.std.proofs.Common.{◌≡◌, ℕ, zero, suc, ◌+◌, ◌<◌, ◌≤◌, List, [], ◌∷◌, ◌++◌, length, Option, Some, None, Bool, true, false, cond, not, refl, ap, ◌∙◌, subst, arith, length-append, get_or}
use Rattle.std.specs.Prelude.{ℤ, pos, slice_get, slice_set}
use Rattle.forec_base.specs.Numbers.{is_zero, truth, unary_of, binary_of}
use Rattle.forec_base.specs.declared.Place.{Place}
use Rattle.forec_base.specs.declared.Trap.TheVariants.{Index, Turns}
use Rattle.forec_kernel.specs.declared.terms.Spot.TheVariants as spot
use Rattle.forec_kernel.specs.Terms.{Expr, Num, Local, LocalAt, Var, SharedAt, TableAt, Un, Bin, And, Or, Choose, Call, Exprs, no_exprs, more_exprs, Stmt, Nop, Set, SetAt, PutAt, Clear, Seq, If, While, Pause, Par, Enter, Return, Stmts, no_stmts, more_stmts}
use Rattle.forec_kernel.specs.Shapes.{PlainKernel, PlainThread}
use Rattle.forec_kernel.specs.Values.{word, index_in, Value, Gives, Raises, more_units, value_then, first_then, values_then, Setting, Sight, divided, at_index, val, vals, Flow, Goes, Returns, Breaks, more_flow, flow_with, flow_then, words_alone, cleared, stored_at, turns, flow, flows, flow_value}
use Rattle.forec_kernel.specs.WellFormed.{TermScope, FineExpr, FineExprs}
use Rattle.thread_code.specs.declared.instruction.Instruction.{Instruction}
use Rattle.thread_code.specs.declared.instruction.Instruction.TheVariants as instruction
use Rattle.thread_code.specs.Plain.{PlainCode}
use Rattle.thread_code.specs.Machine as machine
use Rattle.thread_code.specs.Machine.{Frame, Own, Machine, On, Trapped, unless_none, turn_taken, put_at, onward, code_uses}
use Rattle.code_gen.specs.Expressions.{expression_code}
use Rattle.code_gen.specs.Statements.{Around, Outside, InLoop, loops, loop_code, statement_code, statements_code}
use Rattle.code_gen.proofs.Cells.{put_same, put_other}
use Rattle.code_gen.proofs.Lengths.{loop_length, if_length}
use Rattle.code_gen.proofs.Fits.{Own_expression, BodyFits, BodiesFit, CallsRun, no_elements}
use Rattle.code_gen.proofs.Stretch.{HasAt, has_front, has_back, point, Comes, stays, comes_on, comes_at, one, Yields}
use Rattle.code_gen.proofs.Exprs.{expression_runs}

-- an expression that reads no variable does not look at the copies
module _ (s : Setting) (words : List ℤ) (e : Sight) (k : PlainKernel) (n : ℕ) (same : e.words ≡ words) where
  abbrev z : TermScope
  z = record { kernel = k; words = n; uses = [] }

  mutual
    pub same_value : (x : Expr) → FineExpr z x → val s e x ≡ val s (words_alone words) x
    same_value (Num v) h = refl
    same_value (Local v) h = ap (λ w. Gives (word w v) 1) same
    same_value (LocalAt v m i place) h =
        ap (λ r. value_then r (λ k. at_index (index_in m k) (λ j. word e.words (v + j)) place)) (same_value i h.1)
        ∙ ap (λ w. value_then (val s (words_alone words) i) (λ k. at_index (index_in m k) (λ j. word w (v + j)) place)) same
    same_value (Var v) h = let e : false ≡ true = h in cc
    same_value (SharedAt v m i place) h = absurd (no_elements k n v m h.0)
    same_value (TableAt v i place) h =
        ap (λ r. value_then r (λ k. let table = get_or s.tables v [] in at_index (index_in (length table) k) (λ j. word table j) place)) (same_value i h.1)
    same_value (Un op a) h = ap (λ r. value_then r (λ x. Gives (unary_of op x) 1)) (same_value a h)
    same_value (Bin op a b place) h =
        ap (λ r. value_then r (λ x. value_then (val s e b) (λ y. divided (binary_of op x y) place))) (same_value a h.1)
        ∙ ap (λ r. value_then (val s (words_alone words) a) (λ x. value_then r (λ y. divided (binary_of op x y) place))) (same_value b h.2)
    same_value (And a b) h =
        ap (λ r. value_then r (λ x. elim (is_zero x) [ true ↦ Gives (pos 0) 1 | false ↦ more_units 1 (value_then (val s e b) (λ y. Gives (truth (not (is_zero y))) 0)) ])) (same_value a h.0)
        ∙ ap (λ r. value_then (val s (words_alone words) a) (λ x. elim (is_zero x) [ true ↦ Gives (pos 0) 1 | false ↦ more_units 1 (value_then r (λ y. Gives (truth (not (is_zero y))) 0)) ])) (same_value b h.1)
    same_value (Or a b) h =
        ap (λ r. value_then r (λ x. elim (is_zero x) [ true ↦ more_units 1 (value_then (val s e b) (λ y. Gives (truth (not (is_zero y))) 0)) | false ↦ Gives (pos 1) 1 ])) (same_value a h.0)
        ∙ ap (λ r. value_then (val s (words_alone words) a) (λ x. elim (is_zero x) [ true ↦ more_units 1 (value_then r (λ y. Gives (truth (not (is_zero y))) 0)) | false ↦ Gives (pos 1) 1 ])) (same_value b h.1)
    same_value (Choose t a b) h =
        ap (λ r. value_then r (λ x. elim (is_zero x) [ true ↦ more_units 1 (val s e b) | false ↦ more_units 1 (val s e a) ])) (same_value t h.0)
        ∙ ap (λ r. value_then (val s (words_alone words) t) (λ x. elim (is_zero x) [ true ↦ more_units 1 r | false ↦ more_units 1 (val s e a) ])) (same_value b h.2)
        ∙ ap (λ r. value_then (val s (words_alone words) t) (λ x. elim (is_zero x) [ true ↦ more_units 1 (val s (words_alone words) b) | false ↦ more_units 1 r ])) (same_value a h.1)
    same_value (Call f args) h = ap (λ r. values_then r (λ ns. more_units 1 (s.call f ns))) (same_values args h.2)

    pub same_values : (xs : Exprs) → FineExprs z xs → vals s e xs ≡ vals s (words_alone words) xs
    same_values no_exprs h = refl
    same_values (more_exprs x rest) h =
        ap (λ r. first_then r (vals s e rest)) (same_value x h.0) ∙ ap (λ r. first_then (val s (words_alone words) x) r) (same_values rest h.1)

module _ (c : PlainCode) (t : ℕ) (call : ℕ → List ℤ → Value) (ok : ℕ → Bool) (run : CallsRun c t ok call) (ts : List PlainThread) (k : PlainKernel) (size : ℕ) (s : List Instruction) (fs : List Frame) (o : Own) where
  abbrev set : Setting
  set = record { tables = c.shape.tables; call = call }

  abbrev z' : TermScope
  z' = record { kernel = k; words = size; uses = [] }

  -- inside the function, and after its return
  abbrev inn : ℕ → List ℤ → List ℕ → ℕ → Machine
  inn p w cs u = On (point s p [] w cs) fs o u

  abbrev out : ℤ → ℕ → Machine
  out n u = machine.returned c t n fs o u

  pub record Lands (i q : ℕ) (w : List ℤ) (cs : List ℕ) (m : Machine) (u : ℕ) : Type 0 where
    pub cs' : List ℕ
    pub comes : Comes c t m (inn q w cs' u)
    pub below : (j : ℕ) → j < i → get_or cs' j 0 ≡ get_or cs j 0

  -- what the code of a statement does
  abbrev Does : ℕ → ℕ → List ℕ → Machine → ℕ → Flow → Type 0
  Does i q cs m u (Goes w v) = Lands i q w cs m (u + v)
  Does i q cs m u (Returns n v) = Comes c t m (out n (u + v))
  Does i q cs m u (Breaks place trap v) = Comes c t m (Trapped place trap (u + v))

  does_from : (i q : ℕ) (cs : List ℕ) (m m1 : Machine) (u : ℕ) (b : Flow) → Comes c t m m1 → Does i q cs m1 u b → Does i q cs m u b
  does_from i q cs m m1 u (Goes w v) h g = record { cs' = g.cs'; comes = comes_on c t h g.comes; below = g.below }
  does_from i q cs m m1 u (Returns n v) h g = comes_on c t h g
  does_from i q cs m m1 u (Breaks place trap v) h g = comes_on c t h g

  does_after : (i q : ℕ) (cs : List ℕ) (m : Machine) (v u : ℕ) (b : Flow) → Does i q cs m (u + v) b → Does i q cs m u (more_flow v b)
  does_after i q cs m v u (Goes w x) g = let h : u + v + x ≡ u + (v + x) = omega arith in subst (λ y. Lands i q w cs m y) h g
  does_after i q cs m v u (Returns n x) g = let h : u + v + x ≡ u + (v + x) = omega arith in comes_at c t (ap (out n) h) g
  does_after i q cs m v u (Breaks place trap x) g = let h : u + v + x ≡ u + (v + x) = omega arith in comes_at c t (ap (Trapped place trap) h) g

  does_test : (i q : ℕ) (cs : List ℕ) (m : Machine) (u : ℕ) (mid : ℤ → ℕ → Machine) (r : Value) (go : ℤ → Flow) → Yields c t m u mid r → ((n : ℤ) (w : ℕ) → Does i q cs (mid n w) w (go n)) → Does i q cs m u (flow_with r go)
  does_test i q cs m u mid (Gives n v) go g h = does_after i q cs m v u (go n) (does_from i q cs m (mid n (u + v)) (u + v) (go n) g (h n (u + v)))
  does_test i q cs m u mid (Raises place trap v) go g h = g

  -- other counters of what is inside
  does_under : (i i' q : ℕ) (cs cs1 : List ℕ) (m : Machine) (u : ℕ) (b : Flow) → i ≤ i' → ((j : ℕ) → j < i → get_or cs1 j 0 ≡ get_or cs j 0) → Does i' q cs1 m u b → Does i q cs m u b
  does_under i i' q cs cs1 m u (Goes w v) le same g = record { cs' = g.cs'; comes = g.comes; below = λ j lt. g.below j (omega arith) ∙ same j lt }
  does_under i i' q cs cs1 m u (Returns n v) le same g = g
  does_under i i' q cs cs1 m u (Breaks place trap v) le same g = g

  does_then : (i q q' : ℕ) (cs : List ℕ) (m : Machine) (u : ℕ) (b : Flow) (go : List ℤ → Flow) → Does i q cs m u b → ((w : List ℤ) (cs1 : List ℕ) (v : ℕ) → Does i q' cs1 (inn q w cs1 v) v (go w)) → Does i q' cs m u (flow_then b go)
  does_then i q q' cs m u (Goes w v) go g h =
      does_after i q' cs m v u (go w) (does_from i q' cs m (inn q w g.cs' (u + v)) (u + v) (go w) g.comes (does_under i i q' cs g.cs' _ (u + v) (go w) (omega arith) g.below (h w g.cs' (u + v))))
  does_then i q q' cs m u (Returns n v) go g h = g
  does_then i q q' cs m u (Breaks place trap v) go g h = g

  does_to : (i q q' : ℕ) (cs : List ℕ) (m : Machine) (u : ℕ) (b : Flow) → ((w : List ℤ) (cs1 : List ℕ) (v : ℕ) → Comes c t (inn q w cs1 v) (inn q' w cs1 v)) → Does i q cs m u b → Does i q' cs m u b
  does_to i q q' cs m u (Goes w v) h g = record { cs' = g.cs'; comes = comes_on c t g.comes (h w g.cs' (u + v)); below = g.below }
  does_to i q q' cs m u (Returns n v) h g = g
  does_to i q q' cs m u (Breaks place trap v) h g = g

  lands : (i q : ℕ) (w : List ℤ) (cs : List ℕ) (m : Machine) (u : ℕ) → Comes c t m (inn q w cs u) → Lands i q w cs m u
  lands i q w cs m u h = record { cs' = cs; comes = h; below = λ j lt. refl }

  go_at : (p q : ℕ) → p ≡ q → (w : List ℤ) (cs : List ℕ) (u : ℕ) → Comes c t (inn p w cs u) (inn q w cs u)
  go_at p q h w cs u = comes_at c t (ap (λ n. inn n w cs u) h) (stays c t (inn p w cs u))

  -- an expression, with these numbers on the stack
  test_does : (x : Expr) (p : ℕ) (st : List ℤ) (w : List ℤ) (cs : List ℕ) (u : ℕ) → Own_expression c ok z' x → HasAt s p (expression_code p x) →
      Yields c t (On (point s p st w cs) fs o u) u (λ n v. On (point s (p + length (expression_code p x)) (n ∷ st) w cs) fs o v) (val set (words_alone w) x)
  test_does x p st w cs u fit has =
      subst (λ r. Yields c t (On (point s p st w cs) fs o u) u (λ n v. On (point s (p + length (expression_code p x)) (n ∷ st) w cs) fs o v) r)
      (same_value set w (record { words = w; uses = code_uses c t; copies = o.copies }) k size refl x fit.fine)
      (expression_runs c t call ok run s w cs fs o x p st u fit.fits has)

  branch : (b : Bool) (i q : ℕ) (cs : List ℕ) (r j : ℕ) (w : List ℤ) (m : Machine) (u : ℕ) (x y : Flow) → Comes c t m (inn (cond b r j) w cs (u + 1)) → Does i q cs (inn r w cs (u + 1)) u x → Does i q cs (inn j w cs (u + 1)) u y →
      Does i q cs m u (elim b [ true ↦ x | false ↦ y ])
  branch true i q cs r j w m u x y k g h = does_from i q cs m (inn r w cs (u + 1)) u x k g
  branch false i q cs r j w m u x y k g h = does_from i q cs m (inn j w cs (u + 1)) u y k h

  -- an element's instruction
  stored_does : (x : Option ℕ) (v : ℤ) (place : Place) (slot i p q : ℕ) (w : List ℤ) (cs : List ℕ) (m : Machine) (u : ℕ) → p + 1 ≡ q →
      Comes c t m (unless_none x place Index (u + 1) (λ j. inn (p + 1) (slice_set w (slot + j) v) cs (u + 1))) → Does i q cs m u (stored_at w slot x v place)
  stored_does None v place slot i p q w cs m u h k = k
  stored_does (Some j) v place slot i p q w cs m u h k = lands i q (slice_set w (slot + j) v) cs m (u + 1) (comes_at c t (ap (λ n. inn n (slice_set w (slot + j) v) cs (u + 1)) h) k)

  -- the body of a loop, the jump back and the other turns
  turn_then : (b : Flow) (go : List ℤ → Flow) (i left j h x : ℕ) (cs cs1 : List ℕ) (m : Machine) (u : ℕ) → Does (suc i) j cs1 m u b → get_or cs1 i 0 ≡ left → ((n : ℕ) → n < i → get_or cs1 n 0 ≡ get_or cs n 0) → slice_get s j ≡ Some (instruction.Jump h) →
      ((w : List ℤ) (cs2 : List ℕ) (n : ℕ) → get_or cs2 i 0 ≡ left → Does i x cs2 (inn h w cs2 n) n (go w)) → Does i x cs m u (flow_then b go)
  turn_then (Goes w n) go i left j h x cs cs1 m u g is same jump next =
      does_after i x cs m n u (go w)
      (does_from i x cs m (inn h w g.cs' (u + n)) (u + n) (go w) (comes_on c t g.comes (one c t (instruction.Jump h) (point s j [] w g.cs') fs o (u + n) jump))
      (does_under i i x cs g.cs' _ (u + n) (go w) (omega arith) (λ a lt. g.below a (omega arith) ∙ same a lt) (next w g.cs' (u + n) (g.below i (omega arith) ∙ is))))
  turn_then (Returns v n) go i left j h x cs cs1 m u g is same jump next = g
  turn_then (Breaks place trap n) go i left j h x cs cs1 m u g is same jump next = g

  module _ (a : Around) (n : ℕ) (x : Expr) (body : Stmt) (place : Place) (h : ℕ) (fit : Own_expression c ok z' x) (has : HasAt s h (loop_code h (expression_code h x) (instruction.Turn (loops a) place ∷ []) (λ b. statement_code ts (InLoop n a) b body))) (does_body : (w : List ℤ) (cs : List ℕ) (u : ℕ) → Does (suc (loops a)) (h + length (expression_code h x) + 1 + 1 + length (statement_code ts (InLoop n a) (h + length (expression_code h x) + 1 + 1) body)) cs (inn (h + length (expression_code h x) + 1 + 1) w cs u) u (flow set body w)) where
    abbrev at : ℕ
    at = h + length (expression_code h x)

    abbrev bb : ℕ
    bb = at + 1 + 1

    abbrev ex : ℕ
    ex = bb + length (statement_code ts (InLoop n a) bb body) + 1

    after_test : HasAt s at (instruction.Zero ex ∷ instruction.Turn (loops a) place ∷ (statement_code ts (InLoop n a) bb body ++ instruction.Jump h ∷ []))
    after_test = has_back s h (expression_code h x) _ has

    abbrev rest : ℕ → List ℤ → Flow
    rest m w = turns m (λ w. val set (words_alone w) x) (flow set body) place w

    turns_do : (m : ℕ) (w : List ℤ) (cs : List ℕ) (u : ℕ) → get_or cs (loops a) 0 ≡ m → Does (loops a) ex cs (inn h w cs u) u (rest m w)
    turns_do zero w cs u left =
        does_test (loops a) ex cs (inn h w cs u) u (λ v i. On (point s at (v ∷ []) w cs) fs o i) (val set (words_alone w) x) _ (test_does x h [] w cs u fit (has_front s h (expression_code h x) _ has))
        (λ v i. branch (is_zero v) (loops a) ex cs ex (at + 1) w (On (point s at (v ∷ []) w cs) fs o i) i (Goes w 1) (Breaks place Turns 1)
        (one c t (instruction.Zero ex) (point s at (v ∷ []) w cs) fs o i after_test.0)
        (lands (loops a) ex w cs _ (i + 1) (stays c t _))
        (comes_at c t (ap (λ y. turn_taken y place (i + 1) (λ y. inn (at + 1 + 1) w (put_at 0 cs (loops a) y) (i + 1))) left)
        (one c t (instruction.Turn (loops a) place) (point s (at + 1) [] w cs) fs o (i + 1) after_test.1.0)))
    turns_do (suc m) w cs u left =
        does_test (loops a) ex cs (inn h w cs u) u (λ v i. On (point s at (v ∷ []) w cs) fs o i) (val set (words_alone w) x) _ (test_does x h [] w cs u fit (has_front s h (expression_code h x) _ has))
        (λ v i. branch (is_zero v) (loops a) ex cs ex (at + 1) w (On (point s at (v ∷ []) w cs) fs o i) i (Goes w 1) (more_flow 1 (flow_then (flow set body w) (rest m)))
        (one c t (instruction.Zero ex) (point s at (v ∷ []) w cs) fs o i after_test.0)
        (lands (loops a) ex w cs _ (i + 1) (stays c t _))
        (let cs1 = put_at 0 cs (loops a) m in
        does_after (loops a) ex cs (inn (at + 1) w cs (i + 1)) 1 i (flow_then (flow set body w) (rest m))
        (does_from (loops a) ex cs (inn (at + 1) w cs (i + 1)) (inn bb w cs1 (i + 1)) (i + 1) (flow_then (flow set body w) (rest m))
        (comes_at c t (ap (λ y. turn_taken y place (i + 1) (λ y. inn (at + 1 + 1) w (put_at 0 cs (loops a) y) (i + 1))) left)
        (one c t (instruction.Turn (loops a) place) (point s (at + 1) [] w cs) fs o (i + 1) after_test.1.0))
        (turn_then (flow set body w) (rest m) (loops a) m (bb + length (statement_code ts (InLoop n a) bb body)) h ex cs cs1 (inn bb w cs1 (i + 1)) (i + 1)
        (does_body w cs1 (i + 1)) (put_same 0 cs (loops a) m) (λ y lt. put_other 0 cs (loops a) m y (λ e. omega arith)) (has_back s bb (statement_code ts (InLoop n a) bb body) _ after_test.1.1).0
        (λ w' cs2 n' l. turns_do m w' cs2 n' l)))))

  mutual
    pub body_does : (b : Stmt) (a : Around) (p : ℕ) (w : List ℤ) (cs : List ℕ) (u : ℕ) → BodyFits c ok z' b → HasAt s p (statement_code ts a p b) →
        Does (loops a) (p + length (statement_code ts a p b)) cs (inn p w cs u) u (flow set b w)
    body_does Nop a p w cs u fit has =
        let e : p ≡ p + 0 = omega arith in
        let v : u ≡ u + 0 = omega arith in
        lands (loops a) (p + 0) w cs _ (u + 0) (comes_at c t (ap (λ n. inn (p + 0) w cs n) v) (go_at p (p + 0) e w cs u))
    body_does (Set (spot.Variable x) e) a p w cs u fit has = absurd fit
    body_does (Set (spot.Local x) e) a p w cs u fit has =
        let ce = expression_code p e in
        let j = p + length ce in
        let len : j + 1 ≡ p + length (ce ++ instruction.Store x ∷ []) = omega (arith, length-append ce (instruction.Store x ∷ [])) in
        does_test (loops a) _ cs (inn p w cs u) u (λ v n. On (point s j (v ∷ []) w cs) fs o n) (val set (words_alone w) e) _ (test_does e p [] w cs u fit (has_front s p ce _ has))
        (λ v n. lands (loops a) _ (slice_set w x v) cs _ (n + 1)
        (comes_on c t (one c t (instruction.Store x) (point s j (v ∷ []) w cs) fs o n (has_back s p ce _ has).0) (go_at (j + 1) _ len (slice_set w x v) cs (n + 1))))
    body_does (SetAt x n i e place) a p w cs u fit has =
        let ci = expression_code p i in
        let q = p + length ci in
        let ce = expression_code q e in
        let j = q + length ce in
        let hb = has_back s p ci _ has in
        let len : j + 1 ≡ p + length (statement_code ts a p (SetAt x n i e place)) = omega (arith, length-append ci (ce ++ instruction.StoreAt x n place ∷ []), length-append ce (instruction.StoreAt x n place ∷ [])) in
        does_test (loops a) _ cs (inn p w cs u) u (λ v m. On (point s q (v ∷ []) w cs) fs o m) (val set (words_alone w) i) _ (test_does i p [] w cs u fit.0 (has_front s p ci _ has))
        (λ b m. does_test (loops a) _ cs (On (point s q (b ∷ []) w cs) fs o m) m (λ v m. On (point s j (v ∷ b ∷ []) w cs) fs o m) (val set (words_alone w) e) _ (test_does e q (b ∷ []) w cs m fit.1 (has_front s q ce _ hb))
        (λ v m. stored_does (index_in n b) v place x (loops a) j _ w cs (On (point s j (v ∷ b ∷ []) w cs) fs o m) m len
        (one c t (instruction.StoreAt x n place) (point s j (v ∷ b ∷ []) w cs) fs o m (has_back s q ce _ hb).0)))
    body_does (PutAt v n i e place) a p w cs u fit has = absurd fit
    body_does (Clear x n) a p w cs u fit has = lands (loops a) (p + 1) (cleared w x n) cs _ (u + n) (one c t (instruction.Clear x n) (point s p [] w cs) fs o u has.0)
    body_does (Seq list) a p w cs u fit has = bodies_do list a p w cs u fit has
    body_does (If e then other) a p w cs u fit has =
        let ce = expression_code p e in
        let at = p + length ce in
        let cy = statement_code ts a (at + 1) then in
        let j = at + 1 + length cy in
        let cz = statement_code ts a (j + 1) other in
        let r = j + 1 + length cz in
        let g = has_back s p ce _ has in
        let g2 = has_back s (at + 1) cy _ g.1 in
        let len : r ≡ p + length (statement_code ts a p (If e then other)) = omega (arith, if_length p ce (λ q. statement_code ts a q then) (λ q. statement_code ts a q other)) in
        does_test (loops a) _ cs (inn p w cs u) u (λ v m. On (point s at (v ∷ []) w cs) fs o m) (val set (words_alone w) e) _ (test_does e p [] w cs u fit.0 (has_front s p ce _ has))
        (λ v n. branch (is_zero v) (loops a) _ cs (j + 1) (at + 1) w (On (point s at (v ∷ []) w cs) fs o n) n (more_flow 1 (flow set other w)) (more_flow 1 (flow set then w))
        (one c t (instruction.Zero (j + 1)) (point s at (v ∷ []) w cs) fs o n g.0)
        (does_after (loops a) _ cs (inn (j + 1) w cs (n + 1)) 1 n (flow set other w)
        (does_to (loops a) r _ cs _ (n + 1) (flow set other w) (λ w2 cs2 i. go_at _ _ len w2 cs2 i) (body_does other a (j + 1) w cs (n + 1) fit.2 g2.1)))
        (does_after (loops a) _ cs (inn (at + 1) w cs (n + 1)) 1 n (flow set then w)
        (does_to (loops a) j _ cs _ (n + 1) (flow set then w) (λ w2 cs2 i. comes_on c t (one c t (instruction.Jump r) (point s j [] w2 cs2) fs o i g2.0) (go_at _ _ len w2 cs2 i)) (body_does then a (at + 1) w cs (n + 1) fit.1 (has_front s (at + 1) cy _ g.1)))))
    body_does (While e None body place) a p w cs u fit has = absurd fit
    body_does (While e (Some n) body place) a p w cs u fit has =
        let i = loops a in
        let h = p + 1 in
        let cs1 = put_at 0 cs i n in
        let turn = instruction.Turn i place ∷ [] in
        let bb = h + length (expression_code h e) + 1 + 1 in
        let len : bb + length (statement_code ts (InLoop n a) bb body) + 1 ≡ p + length (statement_code ts a p (While e (Some n) body place)) =
        omega (arith, loop_length h (expression_code h e) turn (λ b. statement_code ts (InLoop n a) b body)) in
        let g1 = has_back s h (expression_code h e) _ has.1 in
        let inside = λ (w : List ℤ) (cs : List ℕ) (u : ℕ). body_does body (InLoop n a) bb w cs u fit.1 (has_front s bb (statement_code ts (InLoop n a) bb body) _ g1.1.1) in
        let all = turns n (λ w. val set (words_alone w) e) (flow set body) place w in
        does_to i _ _ cs _ u all (λ w2 cs2 j. go_at _ _ len w2 cs2 j)
        (does_from i _ cs (inn p w cs u) (inn h w cs1 u) u all (one c t (instruction.Fill i n) (point s p [] w cs) fs o u has.0)
        (does_under i i _ cs cs1 (inn h w cs1 u) u all (omega arith) (λ j lt. put_other 0 cs i n j (λ e. omega arith))
        (turns_do a n e body place h fit.0 has.1 inside n w cs1 u (put_same 0 cs i n))))
    body_does Pause a p w cs u fit has = absurd fit
    body_does (Par branches) a p w cs u fit has = absurd fit
    body_does (Enter weak immediate e body) a p w cs u fit has = absurd fit
    body_does (Return e) a p w cs u fit has =
        let ce = expression_code p e in
        let j = p + length ce in
        does_test (loops a) _ cs (inn p w cs u) u (λ v m. On (point s j (v ∷ []) w cs) fs o m) (val set (words_alone w) e) _ (test_does e p [] w cs u fit (has_front s p ce _ has))
        (λ v n. let e : n ≡ n + 0 = omega arith in comes_at c t (ap (out v) e) (one c t instruction.Return (point s j (v ∷ []) w cs) fs o n (has_back s p ce _ has).0))

    pub bodies_do : (list : Stmts) (a : Around) (p : ℕ) (w : List ℤ) (cs : List ℕ) (u : ℕ) → BodiesFit c ok z' list → HasAt s p (statements_code ts a p list) →
        Does (loops a) (p + length (statements_code ts a p list)) cs (inn p w cs u) u (flows set list w)
    bodies_do no_stmts a p w cs u fit has =
        let e : p ≡ p + 0 = omega arith in
        let v : u ≡ u + 0 = omega arith in
        lands (loops a) (p + 0) w cs _ (u + 0) (comes_at c t (ap (λ n. inn (p + 0) w cs n) v) (go_at p (p + 0) e w cs u))
    bodies_do (more_stmts x rest) a p w cs u fit has =
        let cx = statement_code ts a p x in
        let m = p + length cx in
        let cy = statements_code ts a m rest in
        let len : m + length cy ≡ p + length (cx ++ cy) = omega (arith, length-append cx cy) in
        does_then (loops a) m _ cs (inn p w cs u) u (flow set x w) (flows set rest) (body_does x a p w cs u fit.0 (has_front s p cx _ has))
        (λ w1 cs1 n. does_to (loops a) (m + length cy) _ cs1 _ n (flows set rest w1) (λ w2 cs2 i. go_at _ _ len w2 cs2 i) (bodies_do rest a m w1 cs1 n fit.1 (has_back s p cx _ has)))

  -- a whole function: where its body does not return, it gives 0
  pub function_does : (b : Stmt) (p : ℕ) (w : List ℤ) (cs : List ℕ) (u : ℕ) → BodyFits c ok z' b → p ≡ 0 →
      HasAt s p (statement_code ts Outside p b ++ instruction.Quiet (pos 0) ∷ instruction.Return ∷ []) → Yields c t (inn p w cs u) u out (flow_value (flow set b w))
  function_does b p w cs u fit start has = given (flow set b w) (body_does b Outside p w cs u fit (has_front s p (statement_code ts Outside p b) _ has))
    where
      q : ℕ
      q = p + length (statement_code ts Outside p b)

      given : (f : Flow) → Does 0 (p + length (statement_code ts Outside p b)) cs (inn p w cs u) u f → Yields c t (inn p w cs u) u out (flow_value f)
      given (Goes w' n) g =
          let tail = has_back s p (statement_code ts Outside p b) _ has in
          let at = p + length (statement_code ts Outside p b) in
          comes_on c t g.comes (comes_on c t (one c t (instruction.Quiet (pos 0)) (point s at [] w' g.cs') fs o (u + n) tail.0)
          (one c t instruction.Return (point s (at + 1) (pos 0 ∷ []) w' g.cs') fs o (u + n) tail.1.0))
      given (Returns v n) g = g
      given (Breaks place trap n) g = g
