-- The code of an expression computes its number, units and trap.
use Rattle.std.proofs.Common.{◌≡◌, ℕ, suc, ◌+◌, List, [], ◌∷◌, ◌++◌, length, Option, Some, None, Bool, true, false, cond, not, refl, sym, ap, ◌∙◌, subst, arith, append-nil, length-append, get_or}
use Rattle.std.specs.Prelude.{ℤ, pos, slice_get, replicate}
use Rattle.forec_base.specs.Numbers.{is_zero, truth, unary_of, binary_of}
use Rattle.forec_base.specs.declared.Place.{Place}
use Rattle.forec_base.specs.declared.Trap.TheVariants.{Divide, Index}
use Rattle.forec_kernel.specs.Terms.{Expr, Num, Local, LocalAt, Var, SharedAt, TableAt, Un, Bin, And, Or, Choose, Call, Exprs, no_exprs, more_exprs, count_exprs}
use Rattle.forec_kernel.specs.Values.{word, copy_of, index_in, Value, Gives, Raises, Values, AllGive, OneRaises, more_units, value_then, first_then, Setting, Sight, place_or, divided, at_index, val, vals, fresh_words}
use Rattle.thread_code.specs.declared.instruction.Instruction.{Instruction}
use Rattle.thread_code.specs.declared.instruction.Instruction.TheVariants as instruction
use Rattle.thread_code.specs.Plain.{PlainCode}
use Rattle.thread_code.specs.Valid.{function_arguments}
use Rattle.thread_code.specs.Machine.{Frame, Caller, Own, Machine, On, act, with_arguments, unless_none, entered, code_uses}
use Rattle.code_gen.specs.Expressions.{expression_code, expressions_code}
use Rattle.code_gen.proofs.Fits.{FitsCall, Fits, AllFit, CallsRun}
use Rattle.code_gen.proofs.Stretch.{HasAt, has_front, has_back, SameCount, point, Comes, stays, comes_on, comes_at, one, Yields, YieldsAll, yields_from, yields_to, yields_after, yields_value, yields_then, yields_all_then, yields_both}

-- numbers on the stack, the last one on top
abbrev pub push_all : List ℤ → List ℤ → List ℤ
push_all [] st = st
push_all (v ∷ vs) st = push_all vs (v ∷ st)

pub arguments_are : (n : ℕ) (vs st args : List ℤ) (u : ℕ) (go : List ℤ → List ℤ → Machine) → with_arguments (n + length vs) (push_all vs st) args u go ≡ with_arguments n st (vs ++ args) u go
arguments_are n [] st args u go = let e : n + 0 ≡ n = omega arith in ap (λ k. with_arguments k st args u go) e
arguments_are n (v ∷ vs) st args u go =
    let e : n + length (v ∷ vs) ≡ suc n + length vs = omega arith in
    ap (λ k. with_arguments k (push_all vs (v ∷ st)) args u go) e ∙ arguments_are (suc n) vs (v ∷ st) args u go

-- all arguments, off the stack
pub all_arguments : (n : ℕ) (vs st : List ℤ) (u : ℕ) (go : List ℤ → List ℤ → Machine) → n ≡ length vs → with_arguments n (push_all vs st) [] u go ≡ go vs st
all_arguments n vs st u go h =
    let k : n ≡ 0 + length vs = omega (arith, h) in
    let nil : vs ++ [] ≡ vs = simp append-nil in
    ap (λ i. with_arguments i (push_all vs st) [] u go) k ∙ arguments_are 0 vs st [] u go ∙ ap (λ xs. go xs st) nil

one_more_count : (n : ℕ) (r : Value) (rs : Values) → SameCount n rs → SameCount (suc n) (first_then r rs)
one_more_count n (Gives x u) (AllGive ns v) h = ap suc h
one_more_count n (Gives x u) (OneRaises place trap v) h = tt
one_more_count n (Raises place trap u) rs h = tt

-- the numbers are as many as the expressions
pub same_count : (s : Setting) (e : Sight) (es : Exprs) → SameCount (count_exprs es) (vals s e es)
same_count s e no_exprs = refl
same_count s e (more_exprs x rest) = one_more_count (count_exprs rest) (val s e x) (vals s e rest) (same_count s e rest)

module _ (c : PlainCode) (t : ℕ) (call : ℕ → List ℤ → Value) (ok : ℕ → Bool) (run : CallsRun c t ok call) (s : List Instruction) (words : List ℤ) (counters : List ℕ) (fs : List Frame) (o : Own) where
  -- the machine at an address of this block
  abbrev pub here : ℕ → List ℤ → ℕ → Machine
  here p st u = On (point s p st words counters) fs o u

  -- a number on the stack, at this address
  abbrev pub top_at : ℕ → List ℤ → ℤ → ℕ → Machine
  top_at p st n u = On (point s p (n ∷ st) words counters) fs o u

  abbrev pub seen : Expr → Value
  seen = val (record { tables = c.shape.tables; call = call }) (record { words = words; uses = code_uses c t; copies = o.copies })

  abbrev pub all_seen : Exprs → Values
  all_seen = vals (record { tables = c.shape.tables; call = call }) (record { words = words; uses = code_uses c t; copies = o.copies })

  ends_at : (m : Machine) (u p q : ℕ) (st : List ℤ) (r : Value) → p ≡ q → Yields c t m u (top_at p st) r → Yields c t m u (top_at q st) r
  ends_at m u p q st r h g = subst (λ n. Yields c t m u (top_at n st) r) h g

  -- the operator's instruction
  divided_at : (x : Option ℤ) (place : Option Place) (p q : ℕ) (st : List ℤ) (m : Machine) (u : ℕ) → p + 1 ≡ q →
      Comes c t m (unless_none x (place_or place) Divide (u + 1) (λ n. here (p + 1) (n ∷ st) (u + 1))) → Yields c t m u (top_at q st) (divided x place)
  divided_at None place p q st m u h k = k
  divided_at (Some n) place p q st m u h k = comes_at c t (ap (λ i. here i (n ∷ st) (u + 1)) h) k

  -- an element
  element_at : (x : Option ℕ) (get : ℕ → ℤ) (place : Place) (p q : ℕ) (st : List ℤ) (m : Machine) (u : ℕ) → p + 1 ≡ q →
      Comes c t m (unless_none x place Index (u + 1) (λ k. here (p + 1) (get k ∷ st) (u + 1))) → Yields c t m u (top_at q st) (at_index x get place)
  element_at None get place p q st m u h k = k
  element_at (Some i) get place p q st m u h k = comes_at c t (ap (λ j. here j (get i ∷ st) (u + 1)) h) k

  -- a jump to one of two addresses, which costs a unit
  skip_or : (b : Bool) (q q' w : ℕ) (st : List ℤ) (m : Machine) (to : ℤ → ℕ → Machine) (r r' : Value) → Comes c t m (here (cond b q q') st (w + 1)) →
      Yields c t (here q st (w + 1)) w to r → Yields c t (here q' st (w + 1)) w to r' → Yields c t m w to (elim b [ true ↦ r | false ↦ r' ])
  skip_or true q q' w st m to r r' k g g' = yields_from c t m (here q st (w + 1)) w to r k g
  skip_or false q q' w st m to r r' k g g' = yields_from c t m (here q' st (w + 1)) w to r' k g'

  -- a number to 0 or 1, and a jump past the next one
  truth_then_jump : (r : Value) (m : Machine) (u p q : ℕ) (st : List ℤ) → slice_get s p ≡ Some instruction.Truth → slice_get s (p + 1) ≡ Some (instruction.Jump q) → Yields c t m u (top_at p st) r →
      Yields c t m u (top_at q st) (value_then r (λ y. Gives (truth (not (is_zero y))) 0))
  truth_then_jump r m u p q st h0 h1 g =
      yields_then c t m u (top_at p st) (top_at q st) r (λ y. Gives (truth (not (is_zero y))) 0) g (λ y w.
      yields_value c t (top_at p st y w) w (top_at q st) (truth (not (is_zero y)))
      (comes_on c t (one c t instruction.Truth (point s p (y ∷ st) words counters) fs o w h0) (one c t (instruction.Jump q) (point s (p + 1) (truth (not (is_zero y)) ∷ st) words counters) fs o w h1)))

  -- the call's instruction
  called : (f n p q : ℕ) (vs st : List ℤ) (u : ℕ) → FitsCall c ok f n → length vs ≡ n → p + 1 ≡ q → slice_get s p ≡ Some (instruction.Call f) →
      Yields c t (here p (push_all vs st) u) u (top_at q st) (more_units 1 (call f vs))
  called f n p q vs st u fit len h at =
      let back : List ℤ → List Frame = λ rest. Caller (point s (p + 1) rest words counters) ∷ fs in
      let e : act c t (Some (instruction.Call f)) (point s p (push_all vs st) words counters) fs o u ≡ entered (Some fit.block) vs (back st) o u =
      all_arguments (function_arguments c f) vs st u (λ args rest. entered (slice_get c.functions f) args (back rest) o u) (fit.arity ∙ sym len)
      ∙ ap (λ b. entered b vs (back st) o u) fit.is in
      let m : Machine = On (point fit.block.steps 0 [] (fresh_words vs fit.block.words) (replicate fit.block.counters 0)) (back st) o (u + 1) in
      yields_after c t (here p (push_all vs st) u) 1 u (top_at q st) (call f vs)
      (ends_at (here p (push_all vs st) u) (u + 1) (p + 1) q st (call f vs) h
      (yields_from c t (here p (push_all vs st) u) m (u + 1) (top_at (p + 1) st) (call f vs)
      (comes_at c t e (one c t (instruction.Call f) (point s p (push_all vs st) words counters) fs o u at))
      (run f fit.allowed fit.block fit.is vs (back st) o (u + 1))))

  mutual
    pub expression_runs : (x : Expr) (p : ℕ) (st : List ℤ) (u : ℕ) → Fits c ok x → HasAt s p (expression_code p x) → Yields c t (here p st u) u (top_at (p + length (expression_code p x)) st) (seen x)
    expression_runs (Num v) p st u fit has = one c t (instruction.Push v) (point s p st words counters) fs o u has.0
    expression_runs (Local x) p st u fit has = one c t (instruction.Load x) (point s p st words counters) fs o u has.0
    expression_runs (LocalAt x n i place) p st u fit has =
        let ci = expression_code p i in
        let q = p + length ci in
        let len : q + 1 ≡ p + length (ci ++ instruction.LoadAt x n place ∷ []) = omega (arith, length-append ci (instruction.LoadAt x n place ∷ [])) in
        yields_then c t (here p st u) u (top_at q st) (top_at _ st) (seen i) (λ k. at_index (index_in n k) (λ j. word words (x + j)) place)
        (expression_runs i p st u fit (has_front s p ci _ has))
        (λ k w. element_at (index_in n k) (λ j. word words (x + j)) place q _ st (top_at q st k w) w len
        (one c t (instruction.LoadAt x n place) (point s q (k ∷ st) words counters) fs o w (has_back s p ci _ has).0))
    expression_runs (Var v) p st u fit has = one c t (instruction.Get v) (point s p st words counters) fs o u has.0
    expression_runs (SharedAt v n i place) p st u fit has =
        let ci = expression_code p i in
        let q = p + length ci in
        let len : q + 1 ≡ p + length (ci ++ instruction.GetAt v n place ∷ []) = omega (arith, length-append ci (instruction.GetAt v n place ∷ [])) in
        let get : ℕ → ℤ = λ j. (copy_of (code_uses c t) o.copies (v + j)).value in
        yields_then c t (here p st u) u (top_at q st) (top_at _ st) (seen i) (λ k. at_index (index_in n k) get place)
        (expression_runs i p st u fit (has_front s p ci _ has))
        (λ k w. element_at (index_in n k) get place q _ st (top_at q st k w) w len
        (one c t (instruction.GetAt v n place) (point s q (k ∷ st) words counters) fs o w (has_back s p ci _ has).0))
    expression_runs (TableAt n i place) p st u fit has =
        let ci = expression_code p i in
        let q = p + length ci in
        let table = get_or c.shape.tables n [] in
        let len : q + 1 ≡ p + length (ci ++ instruction.Table n place ∷ []) = omega (arith, length-append ci (instruction.Table n place ∷ [])) in
        yields_then c t (here p st u) u (top_at q st) (top_at _ st) (seen i) (λ k. at_index (index_in (length table) k) (λ j. word table j) place)
        (expression_runs i p st u fit (has_front s p ci _ has))
        (λ k w. element_at (index_in (length table) k) (λ j. word table j) place q _ st (top_at q st k w) w len
        (one c t (instruction.Table n place) (point s q (k ∷ st) words counters) fs o w (has_back s p ci _ has).0))
    expression_runs (Un op a) p st u fit has =
        let ca = expression_code p a in
        let q = p + length ca in
        let len : q + 1 ≡ p + length (ca ++ instruction.Unary op ∷ []) = omega (arith, length-append ca (instruction.Unary op ∷ [])) in
        yields_then c t (here p st u) u (top_at q st) (top_at _ st) (seen a) (λ x. Gives (unary_of op x) 1)
        (expression_runs a p st u fit (has_front s p ca _ has))
        (λ x w. comes_at c t (ap (λ i. here i (unary_of op x ∷ st) (w + 1)) len) (one c t (instruction.Unary op) (point s q (x ∷ st) words counters) fs o w (has_back s p ca _ has).0))
    expression_runs (Bin op a b place) p st u fit has =
        let ca = expression_code p a in
        let q = p + length ca in
        let cb = expression_code q b in
        let hb = has_back s p ca _ has in
        let len : q + length cb + 1 ≡ p + length (expression_code p (Bin op a b place)) =
        omega (arith, length-append ca (cb ++ instruction.Binary op place ∷ []), length-append cb (instruction.Binary op place ∷ [])) in
        yields_then c t (here p st u) u (top_at q st) (top_at _ st) (seen a) (λ x. value_then (seen b) (λ y. divided (binary_of op x y) place))
        (expression_runs a p st u fit.0 (has_front s p ca _ has))
        (λ x w. yields_then c t (here q (x ∷ st) w) w (top_at (q + length cb) (x ∷ st)) (top_at _ st) (seen b) (λ y. divided (binary_of op x y) place)
        (expression_runs b q (x ∷ st) w fit.1 (has_front s q cb _ hb))
        (λ y v. divided_at (binary_of op x y) place (q + length cb) _ st (top_at (q + length cb) (x ∷ st) y v) v len
        (one c t (instruction.Binary op place) (point s (q + length cb) (y ∷ x ∷ st) words counters) fs o v (has_back s q cb _ hb).0)))
    expression_runs (And a b) p st u fit has =
        let ca = expression_code p a in
        let q = p + length ca in
        let cb = expression_code (q + 1) b in
        let r = q + 1 + length cb in
        let tail = instruction.Truth ∷ instruction.Jump (r + 1 + 1 + 1) ∷ instruction.Quiet (pos 0) ∷ [] in
        let h = has_back s p ca _ has in
        let h2 = has_back s (q + 1) cb tail h.1 in
        let len : r + 1 + 1 + 1 ≡ p + length (expression_code p (And a b)) = omega (arith, length-append ca (instruction.Zero (r + 1 + 1) ∷ (cb ++ tail)), length-append cb tail) in
        ends_at (here p st u) u (r + 1 + 1 + 1) _ st (seen (And a b)) len
        (yields_then c t (here p st u) u (top_at q st) (top_at (r + 1 + 1 + 1) st) (seen a)
        (λ x. elim (is_zero x) [ true ↦ Gives (pos 0) 1 | false ↦ more_units 1 (value_then (seen b) (λ y. Gives (truth (not (is_zero y))) 0)) ])
        (expression_runs a p st u fit.0 (has_front s p ca _ has))
        (λ x w. skip_or (is_zero x) (r + 1 + 1) (q + 1) w st (top_at q st x w) (top_at (r + 1 + 1 + 1) st) (Gives (pos 0) 1) (more_units 1 (value_then (seen b) (λ y. Gives (truth (not (is_zero y))) 0)))
        (one c t (instruction.Zero (r + 1 + 1)) (point s q (x ∷ st) words counters) fs o w h.0)
        (one c t (instruction.Quiet (pos 0)) (point s (r + 1 + 1) st words counters) fs o (w + 1) h2.1.1.0)
        (yields_after c t (here (q + 1) st (w + 1)) 1 w (top_at (r + 1 + 1 + 1) st) (value_then (seen b) (λ y. Gives (truth (not (is_zero y))) 0))
        (truth_then_jump (seen b) (here (q + 1) st (w + 1)) (w + 1) r (r + 1 + 1 + 1) st h2.0 h2.1.0 (expression_runs b (q + 1) st (w + 1) fit.1 (has_front s (q + 1) cb tail h.1))))))
    expression_runs (Or a b) p st u fit has =
        let ca = expression_code p a in
        let q = p + length ca in
        let cb = expression_code (q + 1) b in
        let r = q + 1 + length cb in
        let tail = instruction.Truth ∷ instruction.Jump (r + 1 + 1 + 1) ∷ instruction.Quiet (pos 1) ∷ [] in
        let h = has_back s p ca _ has in
        let h2 = has_back s (q + 1) cb tail h.1 in
        let len : r + 1 + 1 + 1 ≡ p + length (expression_code p (Or a b)) = omega (arith, length-append ca (instruction.NonZero (r + 1 + 1) ∷ (cb ++ tail)), length-append cb tail) in
        ends_at (here p st u) u (r + 1 + 1 + 1) _ st (seen (Or a b)) len
        (yields_then c t (here p st u) u (top_at q st) (top_at (r + 1 + 1 + 1) st) (seen a)
        (λ x. elim (is_zero x) [ true ↦ more_units 1 (value_then (seen b) (λ y. Gives (truth (not (is_zero y))) 0)) | false ↦ Gives (pos 1) 1 ])
        (expression_runs a p st u fit.0 (has_front s p ca _ has))
        (λ x w. skip_or (is_zero x) (q + 1) (r + 1 + 1) w st (top_at q st x w) (top_at (r + 1 + 1 + 1) st) (more_units 1 (value_then (seen b) (λ y. Gives (truth (not (is_zero y))) 0))) (Gives (pos 1) 1)
        (one c t (instruction.NonZero (r + 1 + 1)) (point s q (x ∷ st) words counters) fs o w h.0)
        (yields_after c t (here (q + 1) st (w + 1)) 1 w (top_at (r + 1 + 1 + 1) st) (value_then (seen b) (λ y. Gives (truth (not (is_zero y))) 0))
        (truth_then_jump (seen b) (here (q + 1) st (w + 1)) (w + 1) r (r + 1 + 1 + 1) st h2.0 h2.1.0 (expression_runs b (q + 1) st (w + 1) fit.1 (has_front s (q + 1) cb tail h.1))))
        (one c t (instruction.Quiet (pos 1)) (point s (r + 1 + 1) st words counters) fs o (w + 1) h2.1.1.0)))
    expression_runs (Choose x a b) p st u fit has =
        let ct = expression_code p x in
        let q = p + length ct in
        let ca = expression_code (q + 1) a in
        let j = q + 1 + length ca in
        let cb = expression_code (j + 1) b in
        let r = j + 1 + length cb in
        let h = has_back s p ct _ has in
        let h2 = has_back s (q + 1) ca _ h.1 in
        let len : r ≡ p + length (expression_code p (Choose x a b)) = omega (arith, length-append ct (instruction.Zero (j + 1) ∷ (ca ++ instruction.Jump r ∷ cb)), length-append ca (instruction.Jump r ∷ cb)) in
        ends_at (here p st u) u r _ st (seen (Choose x a b)) len
        (yields_then c t (here p st u) u (top_at q st) (top_at r st) (seen x) (λ n. elim (is_zero n) [ true ↦ more_units 1 (seen b) | false ↦ more_units 1 (seen a) ])
        (expression_runs x p st u fit.0 (has_front s p ct _ has))
        (λ n w. skip_or (is_zero n) (j + 1) (q + 1) w st (top_at q st n w) (top_at r st) (more_units 1 (seen b)) (more_units 1 (seen a))
        (one c t (instruction.Zero (j + 1)) (point s q (n ∷ st) words counters) fs o w h.0)
        (yields_after c t (here (j + 1) st (w + 1)) 1 w (top_at r st) (seen b) (expression_runs b (j + 1) st (w + 1) fit.2 h2.1))
        (yields_after c t (here (q + 1) st (w + 1)) 1 w (top_at r st) (seen a)
        (yields_to c t (here (q + 1) st (w + 1)) (w + 1) (top_at j st) (top_at r st) (seen a)
        (λ v n'. one c t (instruction.Jump r) (point s j (v ∷ st) words counters) fs o n' h2.0)
        (expression_runs a (q + 1) st (w + 1) fit.1 (has_front s (q + 1) ca _ h.1))))))
    expression_runs (Call f args) p st u fit has =
        let ca = expressions_code p args in
        let q = p + length ca in
        let len : q + 1 ≡ p + length (ca ++ instruction.Call f ∷ []) = omega (arith, length-append ca (instruction.Call f ∷ [])) in
        yields_all_then c t (count_exprs args) (here p st u) u (λ vs w. here q (push_all vs st) w) (top_at _ st) (all_seen args) (λ vs. more_units 1 (call f vs))
        (same_count (record { tables = c.shape.tables; call = call }) (record { words = words; uses = code_uses c t; copies = o.copies }) args)
        (expressions_run args p st u fit.1 (has_front s p ca _ has))
        (λ vs w n. called f (count_exprs args) q _ vs st w fit.0 n len (has_back s p ca _ has).0)

    pub expressions_run : (xs : Exprs) (p : ℕ) (st : List ℤ) (u : ℕ) → AllFit c ok xs → HasAt s p (expressions_code p xs) →
        YieldsAll c t (here p st u) u (λ vs w. here (p + length (expressions_code p xs)) (push_all vs st) w) (all_seen xs)
    expressions_run no_exprs p st u fit has =
        let n : p ≡ p + 0 = omega arith in
        let w : u ≡ u + 0 = omega arith in
        comes_at c t (ap (λ k. here k st u) n ∙ ap (λ k. here (p + 0) st k) w) (stays c t (here p st u))
    expressions_run (more_exprs x rest) p st u fit has =
        let first = expression_code p x in
        let q = p + length first in
        let more = expressions_code q rest in
        let n : q + length more ≡ p + length (first ++ more) = omega (arith, length-append first more) in
        yields_both c t (here p st u) u (top_at q st) (λ vs w. here (p + length (first ++ more)) (push_all vs st) w) (λ v vs w. here (q + length more) (push_all vs (v ∷ st)) w) (seen x) (all_seen rest)
        (λ v vs w. ap (λ k. here k (push_all vs (v ∷ st)) w) n)
        (expression_runs x p st u fit.0 (has_front s p first _ has))
        (λ v w. expressions_run rest q (v ∷ st) w fit.1 (has_back s p first more has))
