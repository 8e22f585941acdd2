-- The machine does each step of a thread's text.
use Rattle.std.proofs.Common.{◌≡◌, ℕ, zero, suc, ◌+◌, List, [], ◌∷◌, ◌++◌, length, Option, Some, None, Bool, true, false, cond, not, refl, sym, ap, ◌∙◌, subst, arith, length-append, get_or}
use Rattle.std.specs.Prelude.{ℤ, slice_set}
use Rattle.forec_base.specs.Numbers.{is_zero}
use Rattle.forec_base.specs.declared.Place.{Place}
use Rattle.forec_base.specs.declared.Trap.TheVariants.{Index}
use Rattle.forec_kernel.specs.declared.shape.VarCopy.{VarCopy}
use Rattle.forec_kernel.specs.declared.terms.Spot.{Spot}
use Rattle.forec_kernel.specs.declared.terms.Spot.TheVariants as spot
use Rattle.forec_kernel.specs.Terms.{Expr, Branch, Stmt, Nop, Set, SetAt, PutAt, Clear, Seq, If, While, Pause, Par, Enter, Return}
use Rattle.forec_kernel.specs.Shapes.{PlainKernel}
use Rattle.forec_kernel.specs.Values.{Value, Gives, Raises, setting, Sight, call, cleared, index_in}
use Rattle.forec_kernel.specs.Texts.{Loop, After, Go_on, Again, RunningText, Done, Run, Then, Turning, Resting, Fork, Held, Watch, Last, text_of, texts_of, after_text, uses_of, put_copy}
use Rattle.forec_kernel.specs.WellFormed.{distinct, threads_in}
use Rattle.forec_kernel.specs.Steps.{Move, Finished, Halts, Moves, Traps, more_move, move_with, Owner, evaluated, assigned, assigned_at, shared_at, turned_loop, entered_abort, Arguments, Ready, Refused, arguments, started, forked, statement_move, loop_move, move_before, move_watched, move_last, text_move}
use Rattle.forec_kernel.specs.Solo.{seeds_for}
use Rattle.thread_code.specs.declared.instruction.Instruction.{Instruction}
use Rattle.thread_code.specs.declared.instruction.Instruction.TheVariants as instruction
use Rattle.thread_code.specs.Valid.{branches_in, arguments_of}
use Rattle.thread_code.specs.Machine.{Machine, On, Waits, Trapped, act, awaited, starts, with_arguments, unless_none, turn_taken, put_at, put_value}
use Rattle.code_gen.specs.Expressions.{expression_code}
use Rattle.code_gen.specs.Statements.{Around, InLoop, InAbort, loops, weaks, checks, guard, prologue, pause_code, fork_code, inner, turn_code, loop_code, enter_code, par_number, arguments_code, statement_code}
use Rattle.code_gen.specs.Blocks.{kernel_code}
use Rattle.code_gen.proofs.Cells.{put_same, put_other}
use Rattle.code_gen.proofs.Lengths.{loop_length, if_length, enter_length, fork_length, alike_self, alike_length}
use Rattle.code_gen.proofs.Fits.{Fits, CallsRun}
use Rattle.code_gen.proofs.Stretch.{HasAt, has_front, has_back, has_join, point, Comes, stays, comes_on, comes_at, one, Yields}
use Rattle.code_gen.proofs.Exprs.{push_all, all_arguments, expression_runs}
use Rattle.code_gen.proofs.Forks.{joined, Fitting, numbers_started, running_started, awaits_started, some_started, starts_are, arguments_count, arguments_fit, YieldsLists, arguments_run}
use Rattle.code_gen.proofs.MachinePoints.{Store, Marks, own, numbers, ok, ParFits, same_below, Left, Unset, inside, Turns_left, Here, At_fork, on, machine_at, Ends, ends_here, ends_on, ends_jump, StatementAt, LoopAt, BehindAt, ForkAt, At, WakeAt, text_at, texts_at, ReachesText, goes, goes_from, goes_at, none_more, goes_then, goes_watch, goes_last}

module _ (k : PlainKernel) (t : ℕ) (run : CallsRun (kernel_code k) t (ok k) (call k)) (s : List Instruction) where
  abbrev o : Owner
  o = record { kernel = k; uses = uses_of k t }

  abbrev seen : Store → Expr → Value
  seen st e = evaluated o st.words st.copies e

  -- the machine does what a step of the text does
  abbrev pub Follows : Around → RunningText → ℕ → Store → List ℕ → Marks → Machine → ℕ → Move → Type 0
  Follows a R q st c f m u Finished = Comes (kernel_code k) t m (on k t s q st c f u)
  Follows a R q st c f m u Halts =
      (p : ℕ) × (w : ℕ) × Comes (kernel_code k) t m (on k t s p st c f u) × HasAt s p (checks a ++ instruction.Pause w ∷ []) × WakeAt k t s a R w q f.live
  Follows a R q st c f m u (Moves R' words copies v) = ReachesText k t s false a R' q (record { words = words; copies = copies }) c f m (u + v)
  Follows a R q st c f m u (Traps place trap v) = Comes (kernel_code k) t m (Trapped place trap (u + v))

  -- a step that goes on or traps
  abbrev pub Advances : Move → Type 0
  Advances Finished = ⊥
  Advances Halts = ⊥
  Advances (Moves R words copies v) = Unit {0}
  Advances (Traps place trap v) = Unit {0}

  pub follows_from : (a : Around) (R : RunningText) (q : ℕ) (st : Store) (c : List ℕ) (f : Marks) (m m1 : Machine) (u : ℕ) (mv : Move) → Comes (kernel_code k) t m m1 → Follows a R q st c f m1 u mv → Follows a R q st c f m u mv
  follows_from a R q st c f m m1 u Finished h g = comes_on (kernel_code k) t h g
  follows_from a R q st c f m m1 u Halts h g = (g.0, g.1, comes_on (kernel_code k) t h g.2, g.3, g.4)
  follows_from a R q st c f m m1 u (Moves R' words copies v) h g = goes_from k t s h g
  follows_from a R q st c f m m1 u (Traps place trap v) h g = comes_on (kernel_code k) t h g

  follows_after : (a : Around) (R : RunningText) (q : ℕ) (st : Store) (c : List ℕ) (f : Marks) (m : Machine) (v u : ℕ) (mv : Move) → Advances mv → Follows a R q st c f m (u + v) mv → Follows a R q st c f m u (more_move v mv)
  follows_after a R q st c f m v u Finished ok g = absurd ok
  follows_after a R q st c f m v u Halts ok g = absurd ok
  follows_after a R q st c f m v u (Moves R' words copies w) ok g = let e : u + v + w ≡ u + (v + w) = omega arith in goes_at k t s e g
  follows_after a R q st c f m v u (Traps place trap w) ok g = let e : u + v + w ≡ u + (v + w) = omega arith in comes_at (kernel_code k) t (ap (Trapped place trap) e) g

  follows_with : (a : Around) (R : RunningText) (q : ℕ) (st : Store) (c : List ℕ) (f : Marks) (m : Machine) (u : ℕ) (mid : ℤ → ℕ → Machine) (r : Value) (go : ℤ → Move) → ((n : ℤ) → Advances (go n)) → Yields (kernel_code k) t m u mid r → ((n : ℤ) (w : ℕ) → Follows a R q st c f (mid n w) w (go n)) → Follows a R q st c f m u (move_with r go)
  follows_with a R q st c f m u mid (Gives n v) go ok g h =
      follows_after a R q st c f m v u (go n) (ok n) (follows_from a R q st c f m (mid n (u + v)) (u + v) (go n) g (h n (u + v)))
  follows_with a R q st c f m u mid (Raises place trap v) go ok g h = g

  -- an expression's code
  test_runs : (x : Expr) (p : ℕ) (stack : List ℤ) (st : Store) (c : List ℕ) (f : Marks) (u : ℕ) → Fits (kernel_code k) (ok k) x → HasAt s p (expression_code p x) →
      Yields (kernel_code k) t (On (point s p stack st.words c) [] (own st f) u) u (λ n w. On (point s (p + length (expression_code p x)) (n ∷ stack) st.words c) [] (own st f) w) (seen st x)
  test_runs x p stack st c f u fit has = expression_runs (kernel_code k) t (call k) (ok k) run s st.words c [] (own st f) x p stack u fit has

  -- ---- each statement

  set_runs : (to : Spot) (e : Expr) (a : Around) (p q : ℕ) (st : Store) (c : List ℕ) (f : Marks) (u : ℕ) → StatementAt k t s a (Set to e) p q → Follows a (Run (Set to e)) q st c f (on k t s p st c f u) u (statement_move o st.words st.copies (Set to e))
  set_runs (spot.Local x) e a p q st c f u h =
      let ce = expression_code p e in
      let j = p + length ce in
      let len : j + 1 ≡ p + length (ce ++ instruction.Store x ∷ []) = omega (arith, length-append ce (instruction.Store x ∷ [])) in
      follows_with a (Run (Set (spot.Local x) e)) q st c f (on k t s p st c f u) u (λ n w. On (point s j (n ∷ []) st.words c) [] (own st f) w) (seen st e) (λ n. assigned o st.words st.copies (spot.Local x) n) (λ n. tt)
      (test_runs e p [] st c f u h.fits (has_front s p ce _ h.has))
      (λ n w. goes k t s false a Done (j + 1) q (record { words = slice_set st.words x n; copies = st.copies }) c f _ (w + 1) (ends_on k t s (ends_here k t s _ _ len) h.ends)
      (one (kernel_code k) t (instruction.Store x) (point s j (n ∷ []) st.words c) [] (own st f) w (has_back s p ce _ h.has).0))
  set_runs (spot.Variable v) e a p q st c f u h =
      let ce = expression_code p e in
      let j = p + length ce in
      let len : j + 1 ≡ p + length (ce ++ instruction.Put v ∷ []) = omega (arith, length-append ce (instruction.Put v ∷ [])) in
      follows_with a (Run (Set (spot.Variable v) e)) q st c f (on k t s p st c f u) u (λ n w. On (point s j (n ∷ []) st.words c) [] (own st f) w) (seen st e) (λ n. assigned o st.words st.copies (spot.Variable v) n) (λ n. tt)
      (test_runs e p [] st c f u h.fits (has_front s p ce _ h.has))
      (λ n w. goes k t s false a Done (j + 1) q (record { words = st.words; copies = put_copy (uses_of k t) st.copies v (record { value = n; modified = true }) }) c f _ (w + 1) (ends_on k t s (ends_here k t s _ _ len) h.ends)
      (one (kernel_code k) t (instruction.Put v) (point s j (n ∷ []) st.words c) [] (own st f) w (has_back s p ce _ h.has).0))

  advances_at : (words : List ℤ) (copies : List VarCopy) (x : ℕ) (i : Option ℕ) (n : ℤ) (place : Place) → Advances (assigned_at words copies x i n place)
  advances_at words copies x None n place = tt
  advances_at words copies x (Some i) n place = tt

  advances_with : (r : Value) (go : ℤ → Move) → ((n : ℤ) → Advances (go n)) → Advances (move_with r go)
  advances_with (Gives n v) go h = more v (go n) (h n)
    where
      more : (v : ℕ) (mv : Move) → Advances mv → Advances (more_move v mv)
      more v Finished h = h
      more v Halts h = h
      more v (Moves R words copies w) h = tt
      more v (Traps place trap w) h = tt
  advances_with (Raises place trap v) go h = tt

  stored_runs : (i : Option ℕ) (n : ℤ) (place : Place) (x : ℕ) (a : Around) (R : RunningText) (j q : ℕ) (st : Store) (c : List ℕ) (f : Marks) (m : Machine) (u : ℕ) → Ends k t s (j + 1) q →
      Comes (kernel_code k) t m (unless_none i place Index (u + 1) (λ b. On (point s (j + 1) [] (slice_set st.words (x + b) n) c) [] (own st f) (u + 1))) →
      Follows a R q st c f m u (assigned_at st.words st.copies x i n place)
  stored_runs None n place x a R j q st c f m u ends h = h
  stored_runs (Some b) n place x a R j q st c f m u ends h = goes k t s false a Done (j + 1) q (record { words = slice_set st.words (x + b) n; copies = st.copies }) c f m (u + 1) ends h

  advances_shared : (words : List ℤ) (copies : List VarCopy) (v : ℕ) (i : Option ℕ) (n : ℤ) (place : Place) → Advances (shared_at o words copies v i n place)
  advances_shared words copies v None n place = tt
  advances_shared words copies v (Some i) n place = tt

  shared_runs : (i : Option ℕ) (n : ℤ) (place : Place) (v : ℕ) (a : Around) (R : RunningText) (j q : ℕ) (st : Store) (c : List ℕ) (f : Marks) (m : Machine) (u : ℕ) → Ends k t s (j + 1) q →
      Comes (kernel_code k) t m (unless_none i place Index (u + 1) (λ b. On (point s (j + 1) [] st.words c) [] (put_value (uses_of k t) (v + b) n (own st f)) (u + 1))) →
      Follows a R q st c f m u (shared_at o st.words st.copies v i n place)
  shared_runs None n place v a R j q st c f m u ends h = h
  shared_runs (Some b) n place v a R j q st c f m u ends h =
      goes k t s false a Done (j + 1) q (record { words = st.words; copies = put_copy (uses_of k t) st.copies (v + b) (record { value = n; modified = true }) }) c f m (u + 1) ends h

  -- an index and a value in front of the instruction that sets an element
  element_runs : (i e : Expr) (last : Instruction) (go : ℤ → ℤ → Move) (a : Around) (R : RunningText) (p q : ℕ) (st : Store) (c : List ℕ) (f : Marks) (u : ℕ) → Fits (kernel_code k) (ok k) i → Fits (kernel_code k) (ok k) e →
      HasAt s p (expression_code p i ++ (expression_code (p + length (expression_code p i)) e ++ last ∷ [])) → Ends k t s (p + length (expression_code p i ++ (expression_code (p + length (expression_code p i)) e ++ last ∷ []))) q → ((b v : ℤ) → Advances (go b v)) →
      ((j : ℕ) (b v : ℤ) (m : Machine) (w : ℕ) → Ends k t s (j + 1) q → Comes (kernel_code k) t m (act (kernel_code k) t (Some last) (point s j (v ∷ b ∷ []) st.words c) [] (own st f) w) → Follows a R q st c f m w (go b v)) →
      Follows a R q st c f (on k t s p st c f u) u (move_with (seen st i) (λ b. move_with (seen st e) (go b)))
  element_runs i e last go a R p q st c f u fit_i fit_e has ends ok_go runs =
      let ci = expression_code p i in
      let r = p + length ci in
      let ce = expression_code r e in
      let j = r + length ce in
      let hb = has_back s p ci _ has in
      let len : j + 1 ≡ p + length (ci ++ (ce ++ last ∷ [])) = omega (arith, length-append ci (ce ++ last ∷ []), length-append ce (last ∷ [])) in
      follows_with a R q st c f (on k t s p st c f u) u (λ b w. On (point s r (b ∷ []) st.words c) [] (own st f) w) (seen st i) (λ b. move_with (seen st e) (go b))
      (λ b. advances_with (seen st e) (go b) (ok_go b))
      (test_runs i p [] st c f u fit_i (has_front s p ci _ has))
      (λ b w. follows_with a R q st c f (On (point s r (b ∷ []) st.words c) [] (own st f) w) w (λ v w. On (point s j (v ∷ b ∷ []) st.words c) [] (own st f) w) (seen st e) (go b)
      (ok_go b)
      (test_runs e r (b ∷ []) st c f w fit_e (has_front s r ce _ hb))
      (λ v w. runs j b v (On (point s j (v ∷ b ∷ []) st.words c) [] (own st f) w) w (ends_on k t s (ends_here k t s _ _ len) ends)
      (one (kernel_code k) t last (point s j (v ∷ b ∷ []) st.words c) [] (own st f) w (has_back s r ce _ hb).0)))

  set_at_runs : (x n : ℕ) (i e : Expr) (place : Place) (a : Around) (p q : ℕ) (st : Store) (c : List ℕ) (f : Marks) (u : ℕ) → StatementAt k t s a (SetAt x n i e place) p q → Follows a (Run (SetAt x n i e place)) q st c f (on k t s p st c f u) u (statement_move o st.words st.copies (SetAt x n i e place))
  set_at_runs x n i e place a p q st c f u h =
      let fit = h.fits in
      let R = Run (SetAt x n i e place) in
      element_runs i e (instruction.StoreAt x n place) (λ b v. assigned_at st.words st.copies x (index_in n b) v place) a R p q st c f u fit.0 fit.1 h.has h.ends
      (λ b v. advances_at st.words st.copies x (index_in n b) v place)
      (λ j b v m w ends g. stored_runs (index_in n b) v place x a R j q st c f m w ends g)

  put_at_runs : (x n : ℕ) (i e : Expr) (place : Place) (a : Around) (p q : ℕ) (st : Store) (c : List ℕ) (f : Marks) (u : ℕ) → StatementAt k t s a (PutAt x n i e place) p q → Follows a (Run (PutAt x n i e place)) q st c f (on k t s p st c f u) u (statement_move o st.words st.copies (PutAt x n i e place))
  put_at_runs x n i e place a p q st c f u h =
      let fit = h.fits in
      let R = Run (PutAt x n i e place) in
      element_runs i e (instruction.PutAt x n place) (λ b v. shared_at o st.words st.copies x (index_in n b) v place) a R p q st c f u fit.0 fit.1 h.has h.ends
      (λ b v. advances_shared st.words st.copies x (index_in n b) v place)
      (λ j b v m w ends g. shared_runs (index_in n b) v place x a R j q st c f m w ends g)

  -- after a test
  side : (b : Bool) (a : Around) (x y : Stmt) (m : Machine) (j r q : ℕ) (st : Store) (c : List ℕ) (f : Marks) (u : ℕ) → Comes (kernel_code k) t m (on k t s (cond b r j) st c f (u + 1)) → StatementAt k t s a x j q → StatementAt k t s a y r q →
      ReachesText k t s false a (cond b (text_of y) (text_of x)) q st c f m (u + 1)
  side true a x y m j r q st c f u h hx hy = goes k t s false a (text_of y) r q st c f m (u + 1) (text_at k t s y a r q c f hy) h
  side false a x y m j r q st c f u h hx hy = goes k t s false a (text_of x) j q st c f m (u + 1) (text_at k t s x a j q c f hx) h

  if_runs : (e : Expr) (x y : Stmt) (a : Around) (p q : ℕ) (st : Store) (c : List ℕ) (f : Marks) (u : ℕ) → StatementAt k t s a (If e x y) p q → Follows a (Run (If e x y)) q st c f (on k t s p st c f u) u (statement_move o st.words st.copies (If e x y))
  if_runs e x y a p q st c f u h =
      let ce = expression_code p e in
      let at = p + length ce in
      let cx = statement_code k.shape.threads a (at + 1) x in
      let j = at + 1 + length cx in
      let cy = statement_code k.shape.threads a (j + 1) y in
      let r = j + 1 + length cy in
      let g = has_back s p ce _ h.has in
      let g2 = has_back s (at + 1) cx _ g.1 in
      let fit = h.fits in
      let len : r ≡ p + length (statement_code k.shape.threads a p (If e x y)) = omega (arith, if_length p ce (λ q. statement_code k.shape.threads a q x) (λ q. statement_code k.shape.threads a q y)) in
      let end : Ends k t s r q = ends_on k t s (ends_here k t s _ _ len) h.ends in
      let at_x : StatementAt k t s a x (at + 1) q = record { has = has_front s (at + 1) cx _ g.1; ends = ends_on k t s (ends_jump k t s j r g2.0) end; fits = fit.1 } in
      let at_y : StatementAt k t s a y (j + 1) q = record { has = g2.1; ends = end; fits = fit.2 } in
      follows_with a (Run (If e x y)) q st c f (on k t s p st c f u) u (λ n w. On (point s at (n ∷ []) st.words c) [] (own st f) w) (seen st e) (λ n. Moves (cond (is_zero n) (text_of y) (text_of x)) st.words st.copies 1) (λ n. tt)
      (test_runs e p [] st c f u fit.0 (has_front s p ce _ h.has))
      (λ n w. side (is_zero n) a x y _ (at + 1) (j + 1) q st c f w (one (kernel_code k) t (instruction.Zero (j + 1)) (point s at (n ∷ []) st.words c) [] (own st f) w g.0) at_x at_y)

  pause_runs : (a : Around) (p q : ℕ) (st : Store) (c : List ℕ) (f : Marks) (u : ℕ) → StatementAt k t s a Pause p q → ReachesText k t s false a Resting q st c f (on k t s p st c f u) (u + 1)
  pause_runs a p q st c f u h =
      let ch = checks a in
      let j = p + 1 + length ch in
      let w = j + 1 in
      let has = h.has in
      let g = has_back s (p + 1) ch _ has.1 in
      let len : w + length (prologue w a) ≡ p + length (pause_code p a) = omega (arith, length-append ch (instruction.Pause w ∷ prologue w a)) in
      goes k t s false a Resting (p + 1) q st c f _ (u + 1)
      (record { w = w; pause = has_join s (p + 1) ch (instruction.Pause w ∷ []) (has_front s (p + 1) ch _ has.1) (g.0, tt); start = g.1; ends = ends_on k t s (ends_here k t s _ _ len) h.ends })
      (one (kernel_code k) t (instruction.Unit 1) (point s p [] st.words c) [] (own st f) u has.0)

  while_runs : (n : Option ℕ) (e : Expr) (x : Stmt) (place : Place) (a : Around) (p q : ℕ) (st : Store) (c : List ℕ) (f : Marks) (u : ℕ) → StatementAt k t s a (While e n x place) p q →
      ReachesText k t s false a (Turning (record { test = e; bound = n; left = n; body = x; place = place })) q st c f (on k t s p st c f u) (u + 0)
  while_runs None e x place a p q st c f u h =
      let z : p ≡ p + 0 = omega arith in
      let code = λ (b : ℕ). statement_code k.shape.threads a b x in
      let len : p + 0 + length (expression_code (p + 0) e) + 1 + 0 + length (code (p + 0 + length (expression_code (p + 0) e) + 1 + 0)) + 1 ≡ p + length (statement_code k.shape.threads a p (While e None x place)) =
      omega (arith, loop_length (p + 0) (expression_code (p + 0) e) [] code) in
      let fit = h.fits in
      goes k t s false a _ (p + 0) q st c f _ (u + 0) (
        record {
          has = subst (λ n. HasAt s n (loop_code (p + 0) (expression_code (p + 0) e) [] code)) z h.has;
          ends = λ y is. ends_on k t s (ends_here k t s y _ (is ∙ len)) h.ends;
          fits = fit.0;
          body = fit.1;
        },
        tt,
      )
      (none_more k t s (p + 0) st c f _ u ((ends_here k t s p (p + 0) z).by st c f u))
  while_runs (Some n) e x place a p q st c f u h =
      let w = loops a in
      let turn = instruction.Turn w place ∷ [] in
      let code = λ (b : ℕ). statement_code k.shape.threads (InLoop n a) b x in
      let len : p + 1 + length (expression_code (p + 1) e) + 1 + 1 + length (code (p + 1 + length (expression_code (p + 1) e) + 1 + 1)) + 1 ≡ p + length (statement_code k.shape.threads a p (While e (Some n) x place)) =
      omega (arith, loop_length (p + 1) (expression_code (p + 1) e) turn code) in
      let fit = h.fits in
      let has = h.has in
      record {
        at = Here (p + 1);
        c' = put_at 0 c w n;
        f' = f;
        comes = none_more k t s (p + 1) st (put_at 0 c w n) f _ u (one (kernel_code k) t (instruction.Fill w n) (point s p [] st.words c) [] (own st f) u has.0);
        here = (record { has = has.1; ends = λ y is. ends_on k t s (ends_here k t s y _ (is ∙ len)) h.ends; fits = fit.0; body = fit.1 }, put_same 0 c w n);
        below = record { counters = λ i lt. put_other 0 c w n i (λ e. omega arith); flags = λ i lt. refl };
      }

  -- ---- aborts

  -- where the body of an abort begins, and where the abort ends
  abbrev body_start : Bool → Bool → Expr → Around → ℕ → ℕ
  body_start weak immediate e a p = p + length (enter_code weak immediate (weaks a) 0 (expression_code p e))

  abbrev abort_exit : Bool → Bool → Expr → Stmt → Around → ℕ → ℕ
  abort_exit weak immediate e x a p =
      let j = body_start weak immediate e a p in
      j + length (statement_code k.shape.threads (InAbort weak e 0 a) j x)

  enter_body : (weak immediate : Bool) (e : Expr) (x : Stmt) (a : Around) (p q : ℕ) → StatementAt k t s a (Enter weak immediate e x) p q →
      StatementAt k t s (InAbort weak e (abort_exit weak immediate e x a p) a) x (body_start weak immediate e a p) (abort_exit weak immediate e x a p) × Ends k t s (abort_exit weak immediate e x a p) q
  enter_body weak immediate e x a p q h =
      let j = body_start weak immediate e a p in
      let y = abort_exit weak immediate e x a p in
      let pre = enter_code weak immediate (weaks a) y (expression_code p e) in
      let body = statement_code k.shape.threads (InAbort weak e y a) j x in
      let same : length pre ≡ length (enter_code weak immediate (weaks a) 0 (expression_code p e)) = enter_length weak immediate (weaks a) (weaks a) y 0 (expression_code p e) in
      let start : p + length pre ≡ j = ap (λ n. p + n) same in
      let long : length body ≡ length (statement_code k.shape.threads (InAbort weak e 0 a) j x) = alike_length k.shape.threads x (InAbort weak e y a) (InAbort weak e 0 a) j j refl (refl, refl, alike_self a) in
      let len : y ≡ p + length (pre ++ body) = omega (arith, length-append pre body, long, same) in
      let fit = h.fits in
      (record { has = subst (λ n. HasAt s n body) start (has_back s p pre body h.has); ends = ends_here k t s _ _ (ap (λ n. j + n) long); fits = fit.1 }, ends_on k t s (ends_here k t s _ _ len) h.ends)

  enter_plain : (weak : Bool) (e : Expr) (x : Stmt) (a : Around) (p q : ℕ) (st : Store) (c : List ℕ) (f : Marks) (u : ℕ) → StatementAt k t s a (Enter weak false e x) p q → ReachesText k t s false a (Watch weak e (text_of x)) q st c f (on k t s p st c f u) (u + 0)
  enter_plain false e x a p q st c f u h =
      let b = enter_body false false e x a p q h in
      let z : p ≡ p + 0 = omega arith in
      let y = abort_exit false false e x a p in
      let fit = h.fits in
      goes k t s false a (Watch false e (text_of x)) (p + 0) q st c f _ (u + 0) (y, text_at k t s x (InAbort false e y a) (p + 0) y c f b.0, b.1, fit.0, tt)
      (none_more k t s (p + 0) st c f _ u ((ends_here k t s p (p + 0) z).by st c f u))
  enter_plain true e x a p q st c f u h =
      let b = enter_body true false e x a p q h in
      let j = weaks a in
      let y = abort_exit true false e x a p in
      let f1 : Marks = record { flags = put_at false f.flags j false; live = f.live } in
      let fit = h.fits in
      let has = h.has in
      record {
        at = Here (p + 1);
        c' = c;
        f' = f1;
        comes = none_more k t s (p + 1) st c f1 _ u (one (kernel_code k) t (instruction.Flag j false) (point s p [] st.words c) [] (own st f) u has.0);
        here = (y, text_at k t s x (InAbort true e y a) (p + 1) y c f1 b.0, b.1, fit.0, put_same false f.flags j false);
        below = record { counters = λ i lt. refl; flags = λ i lt. put_other false f.flags j false i (λ e. omega arith) };
      }

  -- the length of a test and a guard
  test_length : (p : ℕ) (e : Expr) (i : Instruction) → p + length (expression_code p e) + 1 ≡ p + length (expression_code p e ++ i ∷ [])
  test_length p e i = omega (arith, length-append (expression_code p e) (i ∷ []))

  -- an abort that tests at its start, after the test
  entered_strong : (b : Bool) (e : Expr) (x : Stmt) (a : Around) (j y q : ℕ) (st : Store) (c : List ℕ) (f : Marks) (m : Machine) (w : ℕ) → StatementAt k t s (InAbort false e y a) x j y → Ends k t s y q → Fits (kernel_code k) (ok k) e → Comes (kernel_code k) t m (on k t s (cond b j y) st c f w) →
      ReachesText k t s false a (cond b (Watch false e (text_of x)) Done) q st c f m w
  entered_strong true e x a j y q st c f m w h ends fit g = goes k t s false a (Watch false e (text_of x)) j q st c f m w (y, text_at k t s x (InAbort false e y a) j y c f h, ends, fit, tt) g
  entered_strong false e x a j y q st c f m w h ends fit g = goes k t s false a Done y q st c f m w ends g

  entered_weak : (b : Bool) (e : Expr) (x : Stmt) (a : Around) (j y q : ℕ) (st : Store) (c : List ℕ) (f : Marks) (m : Machine) (w : ℕ) → StatementAt k t s (InAbort true e y a) x j y → Ends k t s y q → Fits (kernel_code k) (ok k) e →
      Comes (kernel_code k) t m (on k t s j st c (record { flags = put_at false f.flags (weaks a) (not b); live = f.live }) w) → ReachesText k t s false a (cond b (Watch true e (text_of x)) (Last (text_of x))) q st c f m w
  entered_weak true e x a j y q st c f m w h ends fit g =
      let f1 : Marks = record { flags = put_at false f.flags (weaks a) false; live = f.live } in
      record {
        at = Here j;
        c' = c;
        f' = f1;
        comes = g;
        here = (y, text_at k t s x (InAbort true e y a) j y c f1 h, ends, fit, put_same false f.flags (weaks a) false);
        below = record { counters = λ i lt. refl; flags = λ i lt. put_other false f.flags (weaks a) false i (λ e. omega arith) };
      }
  entered_weak false e x a j y q st c f m w h ends fit g =
      let f1 : Marks = record { flags = put_at false f.flags (weaks a) true; live = f.live } in
      record {
        at = Here j;
        c' = c;
        f' = f1;
        comes = g;
        here = (e, y, text_at k t s x (InAbort true e y a) j y c f1 h, ends, put_same false f.flags (weaks a) true);
        below = record { counters = λ i lt. refl; flags = λ i lt. put_other false f.flags (weaks a) true i (λ e. omega arith) };
      }

  choose_at : (b : Bool) (p p' y : ℕ) (st : Store) (c : List ℕ) (f : Marks) (m : Machine) (w : ℕ) → p ≡ p' → Comes (kernel_code k) t m (on k t s (cond b p y) st c f w) → Comes (kernel_code k) t m (on k t s (cond b p' y) st c f w)
  choose_at b p p' y st c f m w e g = subst (λ n. Comes (kernel_code k) t m (on k t s (cond b n y) st c f w)) e g

  enter_now : (weak : Bool) (e : Expr) (x : Stmt) (a : Around) (p q : ℕ) (st : Store) (c : List ℕ) (f : Marks) (u : ℕ) → StatementAt k t s a (Enter weak true e x) p q → Follows a (Run (Enter weak true e x)) q st c f (on k t s p st c f u) u (statement_move o st.words st.copies (Enter weak true e x))
  enter_now false e x a p q st c f u h =
      let b = enter_body false true e x a p q h in
      let y = abort_exit false true e x a p in
      let ce = expression_code p e in
      let pre = has_front s p (ce ++ guard false (weaks a) y ∷ []) _ h.has in
      let fit = h.fits in
      follows_with a (Run (Enter false true e x)) q st c f (on k t s p st c f u) u (λ n w. On (point s (p + length ce) (n ∷ []) st.words c) [] (own st f) w) (seen st e) (λ n. Moves (entered_abort false e x n) st.words st.copies 1) (λ n. tt)
      (test_runs e p [] st c f u fit.0 (has_front s p ce _ pre))
      (λ n w. entered_strong (is_zero n) e x a (body_start false true e a p) y q st c f _ (w + 1) b.0 b.1 fit.0
      (choose_at (is_zero n) _ _ y st c f _ (w + 1) (test_length p e (guard false (weaks a) 0)) (one (kernel_code k) t (instruction.NonZero y) (point s (p + length ce) (n ∷ []) st.words c) [] (own st f) w (has_back s p ce _ pre).0)))
  enter_now true e x a p q st c f u h =
      let b = enter_body true true e x a p q h in
      let y = abort_exit true true e x a p in
      let ce = expression_code p e in
      let pre = has_front s p (ce ++ guard true (weaks a) y ∷ []) _ h.has in
      let fit = h.fits in
      follows_with a (Run (Enter true true e x)) q st c f (on k t s p st c f u) u (λ n w. On (point s (p + length ce) (n ∷ []) st.words c) [] (own st f) w) (seen st e) (λ n. Moves (entered_abort true e x n) st.words st.copies 1) (λ n. tt)
      (test_runs e p [] st c f u fit.0 (has_front s p ce _ pre))
      (λ n w. entered_weak (is_zero n) e x a (body_start true true e a p) y q st c f _ (w + 1) b.0 b.1 fit.0
      (comes_on (kernel_code k) t (one (kernel_code k) t (instruction.Keep (weaks a)) (point s (p + length ce) (n ∷ []) st.words c) [] (own st f) w (has_back s p ce _ pre).0)
      ((ends_here k t s _ _ (test_length p e (guard true (weaks a) 0))).by st c (record { flags = put_at false f.flags (weaks a) (not (is_zero n)); live = f.live }) (w + 1))))

  -- ---- a par

  -- the code of a fork
  fork_here : (j : ℕ) (bs : List ℕ) (a : Around) (r q : ℕ) → branches_in k.shape j ≡ bs → distinct bs ≡ true → HasAt s r (fork_code j r a) → Ends k t s (r + length (fork_code j r a)) q → ForkAt k t s a bs (r + 1) (r + 1 + 1) q
  fork_here j bs a r q named apart has end =
      let c = length (checks a) in
      let w = r + 1 + 1 + c + 1 in
      let g = w + length (prologue w a) in
      let out = g + 1 + 1 + c + 1 in
      let b = has_back s (r + 1 + 1) (checks a) _ has.1.1 in
      let tail = has_back s w (prologue w a) _ b.1 in
      let len : out ≡ r + length (fork_code j r a) = omega (arith, fork_length j r a) in
      let ends : Ends k t s out q = ends_on k t s (ends_here k t s _ _ len) end in
      record {
        j = j;
        named = named;
        apart = apart;
        w = w;
        ends = ends_on k t s (ends_jump k t s (r + 1) out has.1.0) ends;
        pause = has_join s (r + 1 + 1) (checks a) (instruction.Pause w ∷ []) (has_front s (r + 1 + 1) (checks a) _ has.1.1) (b.0, tt);
        held = record {
          start = has_front s w (prologue w a) _ b.1;
          to = g + 1 + 1;
          again = tail.0;
          pause = tail.1.1;
          ends = ends_on k t s (ends_jump k t s (g + 1) out tail.1.0) ends;
        };
      }

  par_starts : (bs : List Branch) (a : Around) (R : RunningText) (r q : ℕ) (st : Store) (c : List ℕ) (f : Marks) (m : Machine) (u : ℕ) (args : Arguments) → ParFits k bs → Fitting k bs args → HasAt s r (fork_code (par_number k.shape.threads bs) r a) → Ends k t s (r + length (fork_code (par_number k.shape.threads bs) r a)) q →
      YieldsLists k t run s st.words c (own st f) m u (λ lists w. On (point s r (push_all (joined lists) []) st.words c) [] (own st f) w) args → Follows a R q st c f m u (forked o st.words st.copies bs args)
  par_starts bs a R r q st c f m u (Refused place trap v) fit fits has end h = h
  par_starts bs a R r q st c f m u (Ready lists v) fit fits has end h =
      let j = par_number k.shape.threads bs in
      let cs = started o st.copies bs lists in
      let w : ℕ = u + v in
      let z : u + v + 1 ≡ u + (v + 1) = omega arith in
      record {
        at = At_fork (r + 1) (r + 1 + 1);
        c' = c;
        f' = f;
        comes = comes_at (kernel_code k) t (forks_to w ∙ ap (machine_at k t s false cs (At_fork (r + 1) (r + 1 + 1)) st c f) z)
            (comes_on (kernel_code k) t h (one (kernel_code k) t (instruction.Fork j (r + 1 + 1)) (point s r (push_all (joined lists) []) st.words c) [] (own st f) w has.0));
        here = (fork_here j (numbers cs) a r q (fit.named ∙ sym named) (subst (λ l. distinct l ≡ true) (sym named) fit.apart) has end, record { some = some_started k (uses_of k t) st.copies bs lists fit.some fits; awaits = awaits_started k (uses_of k t) st.copies f.live bs lists });
        below = same_below (loops a) (weaks a) c f;
      }
    where
      named : numbers (started o st.copies bs lists) ≡ threads_in bs
      named = numbers_started k (uses_of k t) st.copies bs lists fits

      state : List ℕ → List ℤ → List ℤ → ℕ → Machine
      state branches args rest w = Waits (awaited branches (starts (kernel_code k) t st.copies branches args) (point s r (push_all (joined lists) []) st.words c) (r + 1 + 1) rest) (own st f) w

      forks_to : (w : ℕ) → act (kernel_code k) t (Some (instruction.Fork (par_number k.shape.threads bs) (r + 1 + 1))) (point s r (push_all (joined lists) []) st.words c) [] (own st f) w ≡ machine_at k t s false (started o st.copies bs lists) (At_fork (r + 1) (r + 1 + 1)) st c f (w + 1)
      forks_to w =
          ap (λ branches. with_arguments (arguments_of k.shape branches) (push_all (joined lists) []) [] w (λ args rest. Waits (awaited branches (starts (kernel_code k) t st.copies branches args) (point s r (push_all (joined lists) []) st.words c) (r + 1 + 1) rest) (own st f) (w + 1))) fit.named
          ∙ all_arguments (arguments_of k.shape (threads_in bs)) (joined lists) [] w (λ args rest. Waits (awaited (threads_in bs) (starts (kernel_code k) t st.copies (threads_in bs) args) (point s r (push_all (joined lists) []) st.words c) (r + 1 + 1) rest) (own st f) (w + 1)) (arguments_count k bs lists fits)
          ∙ ap (λ seeds. Waits (awaited (threads_in bs) seeds (point s r (push_all (joined lists) []) st.words c) (r + 1 + 1) []) (own st f) (w + 1)) (starts_are k t st.copies bs lists fits)
          ∙ ap (λ branches. Waits (awaited branches (seeds_for k false (started o st.copies bs lists)) (point s r (push_all (joined lists) []) st.words c) (r + 1 + 1) []) (own st f) (w + 1)) (sym (running_started k (uses_of k t) st.copies bs lists fits))

  par_runs : (bs : List Branch) (a : Around) (p q : ℕ) (st : Store) (c : List ℕ) (f : Marks) (u : ℕ) → StatementAt k t s a (Par bs) p q → Follows a (Run (Par bs)) q st c f (on k t s p st c f u) u (statement_move o st.words st.copies (Par bs))
  par_runs bs a p q st c f u h =
      let j = par_number k.shape.threads bs in
      let args = arguments_code p bs in
      let r = p + length args in
      let e : Sight = record { words = st.words; uses = uses_of k t; copies = st.copies } in
      let fit = h.fits in
      let fork : HasAt s r (fork_code j r a) = has_back s p args _ h.has in
      let len : r + length (fork_code j r a) ≡ p + length (statement_code k.shape.threads a p (Par bs)) = omega (arith, length-append args (fork_code j r a)) in
      par_starts bs a (Run (Par bs)) r q st c f (on k t s p st c f u) u (arguments (setting k) e bs) fit (arguments_fit k (setting k) e bs fit.args) fork (ends_on k t s (ends_here k t s _ _ len) h.ends)
      (arguments_run k t run s st.words c (own st f) bs p [] u fit.args (has_front s p args _ h.has))

  statement_runs : (x : Stmt) (a : Around) (p q : ℕ) (st : Store) (c : List ℕ) (f : Marks) (u : ℕ) → StatementAt k t s a x p q → Follows a (Run x) q st c f (on k t s p st c f u) u (statement_move o st.words st.copies x)
  statement_runs Nop a p q st c f u h = let e : p ≡ p + 0 = omega arith in (ends_on k t s (ends_here k t s p (p + 0) e) h.ends).by st c f u
  statement_runs (Set to e) a p q st c f u h = set_runs to e a p q st c f u h
  statement_runs (SetAt x n i e place) a p q st c f u h = set_at_runs x n i e place a p q st c f u h
  statement_runs (PutAt x n i e place) a p q st c f u h = put_at_runs x n i e place a p q st c f u h
  statement_runs (Clear x n) a p q st c f u h =
      let has = h.has in
      goes k t s false a Done (p + 1) q (record { words = cleared st.words x n; copies = st.copies }) c f _ (u + n) h.ends (one (kernel_code k) t (instruction.Clear x n) (point s p [] st.words c) [] (own st f) u has.0)
  statement_runs (Seq list) a p q st c f u h =
      goes k t s false a (texts_of list) p q st c f _ (u + 0) (texts_at k t s list a p q c f (record { has = h.has; ends = h.ends; fits = h.fits })) (none_more k t s p st c f _ u (stays (kernel_code k) t _))
  statement_runs (If e x y) a p q st c f u h = if_runs e x y a p q st c f u h
  statement_runs (While e n x place) a p q st c f u h = while_runs n e x place a p q st c f u h
  statement_runs Pause a p q st c f u h = pause_runs a p q st c f u h
  statement_runs (Par bs) a p q st c f u h = par_runs bs a p q st c f u h
  statement_runs (Enter weak false e x) a p q st c f u h = enter_plain weak e x a p q st c f u h
  statement_runs (Enter weak true e x) a p q st c f u h = enter_now weak e x a p q st c f u h
  statement_runs (Return e) a p q st c f u h = absurd h.fits

  -- ---- loops in progress

  advances_test : (b : Bool) (loop : Loop) (words : List ℤ) (copies : List VarCopy) (left : Option ℕ) → Advances (elim b [ true ↦ Moves Done words copies 1 | false ↦ turned_loop loop left words copies ])
  advances_test true loop words copies left = tt
  advances_test false loop words copies None = tt
  advances_test false loop words copies (Some zero) = tt
  advances_test false loop words copies (Some (suc m)) = tt

  turned_runs : (n m : Option ℕ) (e : Expr) (x : Stmt) (place : Place) (a : Around) (p q : ℕ) (st : Store) (c : List ℕ) (f : Marks) (mach : Machine) (w : ℕ) →
      LoopAt k t s a (record { test = e; bound = n; left = m; body = x; place = place }) p q → Left n m (loops a) c → Comes (kernel_code k) t mach (on k t s (p + length (expression_code p e) + 1) st c f (w + 1)) →
      Follows a (Turning (record { test = e; bound = n; left = m; body = x; place = place })) q st c f mach w (turned_loop (record { test = e; bound = n; left = m; body = x; place = place }) m st.words st.copies)
  turned_runs None None e x place a p q st c f mach w h left g =
      let at = p + length (expression_code p e) in
      let b = at + 1 + 0 in
      let cb = statement_code k.shape.threads a b x in
      let z : at + 1 ≡ at + 1 + 0 = omega arith in
      let body = subst (λ i. HasAt s i (cb ++ instruction.Jump p ∷ [])) z (has_back s p (expression_code p e) _ h.has).1 in
      goes k t s false a _ b q st c f mach (w + 1)
      (b + length cb, text_at k t s x a b (b + length cb) c f (record { has = has_front s b cb _ body; ends = ends_here k t s _ _ refl; fits = h.body }), (p, (has_back s b cb _ body).0, record { has = h.has; ends = h.ends; fits = h.fits; body = h.body }), tt)
      (comes_on (kernel_code k) t g ((ends_here k t s (at + 1) b z).by st c f (w + 1)))
  turned_runs None (Some m) e x place a p q st c f mach w h left g = absurd left
  turned_runs (Some n) None e x place a p q st c f mach w h left g = absurd left
  turned_runs (Some n) (Some zero) e x place a p q st c f mach w h left g =
      let at = p + length (expression_code p e) in
      let i = loops a in
      let turn = (has_back s p (expression_code p e) _ h.has).1.0 in
      comes_on (kernel_code k) t g (comes_at (kernel_code k) t
      (ap (λ y. turn_taken y place (w + 1) (λ y. On (point s (at + 1 + 1) [] st.words (put_at 0 c i y)) [] (own st f) (w + 1))) left)
      (one (kernel_code k) t (instruction.Turn i place) (point s (at + 1) [] st.words c) [] (own st f) (w + 1) turn))
  turned_runs (Some n) (Some (suc m)) e x place a p q st c f mach w h left g =
      let at = p + length (expression_code p e) in
      let i = loops a in
      let b = at + 1 + 1 in
      let cb = statement_code k.shape.threads (InLoop n a) b x in
      let g1 = (has_back s p (expression_code p e) _ h.has).1 in
      let c1 = put_at 0 c i m in
      record {
        at = Here b;
        c' = c1;
        f' = f;
        comes = comes_on (kernel_code k) t g (comes_at (kernel_code k) t
            (ap (λ y. turn_taken y place (w + 1) (λ y. On (point s (at + 1 + 1) [] st.words (put_at 0 c i y)) [] (own st f) (w + 1))) left)
            (one (kernel_code k) t (instruction.Turn i place) (point s (at + 1) [] st.words c) [] (own st f) (w + 1) g1.0));
        here = (b + length cb, text_at k t s x (InLoop n a) b (b + length cb) c1 f (record { has = has_front s b cb _ g1.1; ends = ends_here k t s _ _ refl; fits = h.body }), (p, (has_back s b cb _ g1.1).0, record { has = h.has; ends = h.ends; fits = h.fits; body = h.body }), put_same 0 c i m);
        below = record { counters = λ j lt. put_other 0 c i m j (λ e. omega arith); flags = λ j lt. refl };
      }

  tested : (b : Bool) (n m : Option ℕ) (e : Expr) (x : Stmt) (place : Place) (a : Around) (p y q : ℕ) (st : Store) (c : List ℕ) (f : Marks) (mach : Machine) (w : ℕ) →
      LoopAt k t s a (record { test = e; bound = n; left = m; body = x; place = place }) p q → Left n m (loops a) c → Ends k t s y q → Comes (kernel_code k) t mach (on k t s (cond b y (p + length (expression_code p e) + 1)) st c f (w + 1)) →
      Follows a (Turning (record { test = e; bound = n; left = m; body = x; place = place })) q st c f mach w (elim b [ true ↦ Moves Done st.words st.copies 1 | false ↦ turned_loop (record { test = e; bound = n; left = m; body = x; place = place }) m st.words st.copies ])
  tested true n m e x place a p y q st c f mach w h left ends g = goes k t s false a Done y q st c f mach (w + 1) ends g
  tested false n m e x place a p y q st c f mach w h left ends g = turned_runs n m e x place a p q st c f mach w h left g

  loop_runs : (loop : Loop) (a : Around) (p q : ℕ) (st : Store) (c : List ℕ) (f : Marks) (u : ℕ) → LoopAt k t s a loop p q → Left loop.bound loop.left (loops a) c → Follows a (Turning loop) q st c f (on k t s p st c f u) u (loop_move o st.words st.copies loop)
  loop_runs loop a p q st c f u h left =
      let e = loop.test in
      let at = p + length (expression_code p e) in
      let b = at + 1 + length (turn_code loop.bound (loops a) loop.place) in
      let y = b + length (statement_code k.shape.threads (inner loop.bound a) b loop.body) + 1 in
      follows_with a (Turning loop) q st c f (on k t s p st c f u) u (λ n w. On (point s at (n ∷ []) st.words c) [] (own st f) w) (seen st e) (λ n. elim (is_zero n) [ true ↦ Moves Done st.words st.copies 1 | false ↦ turned_loop loop loop.left st.words st.copies ])
      (λ n. advances_test (is_zero n) loop st.words st.copies loop.left)
      (test_runs e p [] st c f u h.fits (has_front s p (expression_code p e) _ h.has))
      (λ n w. tested (is_zero n) loop.bound loop.left e loop.body loop.place a p y q st c f _ w h left (h.ends y refl)
      (one (kernel_code k) t (instruction.Zero y) (point s at (n ∷ []) st.words c) [] (own st f) w (has_back s p (expression_code p e) _ h.has).0))

  -- ---- a step in a context

  behind_goes : (b : After) (a : Around) (m q : ℕ) (st : Store) (c : List ℕ) (f : Marks) (mach : Machine) (u : ℕ) → BehindAt k t s a b m q → Turns_left a b c → Comes (kernel_code k) t mach (on k t s m st c f u) → ReachesText k t s false a (after_text b) q st c f mach (u + 0)
  behind_goes (Go_on list) a m q st c f mach u h l g = goes k t s false a (texts_of list) m q st c f mach (u + 0) (texts_at k t s list a m q c f h) (none_more k t s m st c f mach u g)
  behind_goes (Again loop) a m q st c f mach u h l g =
      goes k t s false a (Turning loop) h.0 q st c f mach (u + 0) (h.2, l) (none_more k t s h.0 st c f mach u (comes_on (kernel_code k) t g ((ends_jump k t s m h.0 h.1).by st c f u)))

  checks_inside : (b : After) (a : Around) → checks (inside a b) ≡ checks a
  checks_inside (Go_on list) a = refl
  checks_inside (Again loop) a = pick loop.bound
    where
      pick : (n : Option ℕ) → checks (inner n a) ≡ checks a
      pick None = refl
      pick (Some n) = refl

  pub then_runs : (b : After) (a : Around) (R : RunningText) (m q : ℕ) (st : Store) (c : List ℕ) (f : Marks) (mach : Machine) (u : ℕ) (mv : Move) → BehindAt k t s a b m q → Turns_left a b c → Follows (inside a b) R m st c f mach u mv →
      Follows a (Then R b) q st c f mach u (move_before b st.words st.copies mv)
  then_runs b a R m q st c f mach u Finished h l g = behind_goes b a m q st c f mach u h l g
  then_runs b a R m q st c f mach u Halts h l g =
      (g.0, g.1, g.2, subst (λ ch. HasAt s g.0 (ch ++ instruction.Pause g.1 ∷ [])) (checks_inside b a) g.3, (m, g.4, h))
  then_runs b a R m q st c f mach u (Moves R' words copies v) h l g = goes_then k t s false b a R' m q (record { words = words; copies = copies }) c f mach (u + v) h l g
  then_runs b a R m q st c f mach u (Traps place trap v) h l g = g

  pub watch_runs : (weak : Bool) (e : Expr) (a : Around) (R : RunningText) (x q : ℕ) (st : Store) (c : List ℕ) (f : Marks) (mach : Machine) (u : ℕ) (mv : Move) → Ends k t s x q → Fits (kernel_code k) (ok k) e → Unset weak (weaks a) f → Follows (InAbort weak e x a) R x st c f mach u mv →
      Follows a (Watch weak e R) q st c f mach u (move_watched weak e st.words st.copies mv)
  watch_runs weak e a R x q st c f mach u Finished ends fit unset g = goes k t s false a Done x q st c f mach (u + 0) ends (none_more k t s x st c f mach u g)
  watch_runs false e a R x q st c f mach u Halts ends fit unset g = (g.0, g.1, g.2, g.3, (x, g.4, ends, fit))
  watch_runs true e a R x q st c f mach u Halts ends fit unset g =
      let pass : Comes (kernel_code k) t (on k t s g.0 st c f u) (on k t s (g.0 + 1) st c f u) =
      comes_at (kernel_code k) t (ap (λ b. on k t s (cond b x (g.0 + 1)) st c f u) unset) (one (kernel_code k) t (instruction.Flagged (weaks a) x) (point s g.0 [] st.words c) [] (own st f) u g.3.0) in
      (g.0 + 1, g.1, comes_on (kernel_code k) t g.2 pass, g.3.1, (x, g.4, ends, fit))
  watch_runs weak e a R x q st c f mach u (Moves R' words copies v) ends fit unset g = goes_watch k t s false weak e a R' x q (record { words = words; copies = copies }) c f mach (u + v) ends fit unset g
  watch_runs weak e a R x q st c f mach u (Traps place trap v) ends fit unset g = g

  pub last_runs : (e : Expr) (a : Around) (R : RunningText) (x q : ℕ) (st : Store) (c : List ℕ) (f : Marks) (mach : Machine) (u : ℕ) (mv : Move) → Ends k t s x q → get_or f.flags (weaks a) false ≡ true → Follows (InAbort true e x a) R x st c f mach u mv →
      Follows a (Last R) q st c f mach u (move_last st.words st.copies mv)
  last_runs e a R x q st c f mach u Finished ends set g = goes k t s false a Done x q st c f mach (u + 0) ends (none_more k t s x st c f mach u g)
  last_runs e a R x q st c f mach u Halts ends set g =
      let out : Comes (kernel_code k) t (on k t s g.0 st c f u) (on k t s x st c f u) =
      comes_at (kernel_code k) t (ap (λ b. on k t s (cond b x (g.0 + 1)) st c f u) set) (one (kernel_code k) t (instruction.Flagged (weaks a) x) (point s g.0 [] st.words c) [] (own st f) u g.3.0) in
      goes k t s false a Done x q st c f mach (u + 0) ends (none_more k t s x st c f mach u (comes_on (kernel_code k) t g.2 out))
  last_runs e a R x q st c f mach u (Moves R' words copies v) ends set g = goes_last k t s false e a R' x q (record { words = words; copies = copies }) c f mach (u + v) ends set g
  last_runs e a R x q st c f mach u (Traps place trap v) ends set g = g

  -- the machine does each step of a text
  pub text_runs : (R : RunningText) (a : Around) (p q : ℕ) (st : Store) (c : List ℕ) (f : Marks) (u : ℕ) → At k t s a R (Here p) q c f → Follows a R q st c f (on k t s p st c f u) u (text_move k [] (uses_of k t) st.words st.copies R)
  text_runs Done a p q st c f u h = h.by st c f u
  text_runs (Run x) a p q st c f u h = statement_runs x a p q st c f u h
  text_runs (Then R b) a p q st c f u h = then_runs b a R h.0 q st c f _ u (text_move k [] (uses_of k t) st.words st.copies R) h.2 h.3 (text_runs R (inside a b) p h.0 st c f u h.1)
  text_runs (Turning loop) a p q st c f u h = loop_runs loop a p q st c f u h.0 h.1
  text_runs Resting a p q st c f u h = (p, h.w, stays (kernel_code k) t _, h.pause, (h.start, h.ends))
  text_runs (Fork cs) a p q st c f u h = absurd h
  text_runs (Held cs) a p q st c f u h = let g = h.0 in (p, g.w, stays (kernel_code k) t _, g.pause, (g.j, g.named, g.apart, g.held, h.1))
  text_runs (Watch weak e R) a p q st c f u h = watch_runs weak e a R h.0 q st c f _ u (text_move k [] (uses_of k t) st.words st.copies R) h.2 h.3 h.4 (text_runs R (InAbort weak e h.0 a) p h.0 st c f u h.1)
  text_runs (Last R) a p q st c f u h = last_runs h.0 a R h.1 q st c f _ u (text_move k [] (uses_of k t) st.words st.copies R) h.3 h.4 (text_runs R (InAbort true h.0 h.1 a) p h.1 st c f u h.2)
