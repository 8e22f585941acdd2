-- One step of a text, and what the folded text does meanwhile: a step like it, or nothing.
use Rattle.std.proofs.Common.{ℕ, zero, suc, ◌+◌, ◌<◌, ◌≤◌, ◌≡◌, ◌⊎◌, inl, inr, ℤ, Bool, true, false, cond, Option, Some, None, List, [], ◌∷◌, refl, ap, sym, subst, ◌∙◌, arith}
use Rattle.forec_base.specs.Numbers.{is_zero}
use Rattle.forec_base.specs.declared.Place.{Place}
use Rattle.forec_base.specs.declared.Trap.{Trap}
use Rattle.forec_kernel.specs.declared.terms.Spot.{Spot}
use Rattle.forec_kernel.specs.declared.terms.Spot.TheVariants as spot
use Rattle.forec_kernel.specs.declared.shape.VarCopy.{VarCopy}
use Rattle.forec_kernel.specs.Terms.{Expr, Branch, Stmt, Nop, Set, SetAt, PutAt, Clear, Seq, If, While, Pause, Par, Enter, Return, Stmts, no_stmts}
use Rattle.forec_kernel.specs.Shapes.{PlainKernel}
use Rattle.forec_kernel.specs.Values.{index_in, Value, Gives, Raises, Values, AllGive, OneRaises, Sight, setting, vals, call}
use Rattle.forec_kernel.specs.Texts.{Loop, Go_on, Again, RunningText, Done, Run, Then, Turning, Resting, Fork, Held, Watch, Last, Threads, text_of, texts_of, all_over, first_trap, ended_are_gone, body_of}
use Rattle.forec_kernel.specs.Combining.{Cost, Costs, Fails, join_cost}
use Rattle.forec_kernel.specs.Steps.{Move, Finished, Halts, Moves, Traps, more_move, move_with, Owner, evaluated, assigned, assigned_at, shared_at, turned_loop, entered_abort, Arguments, Ready, Refused, one_more_list, arguments_then, arguments, started, forked, statement_move, loop_move, combined, joined, move_before, Path, text_move}
use Rattle.fold_laws.specs.Laws.{NoWorse}
use Rattle.fold_laws.specs.Folding.{constant_of, chosen_stmt, fold_expr, fold_exprs, is_nop, never_turns, fold_branches, fold_stmt, fold_stmts, folded_kernel}
use Rattle.fold_laws.proofs.Values.{ValuesLike, is_number, expr_like, exprs_like}
use Rattle.fold_laws.proofs.Flows.{call_like}
use Rattle.fold_laws.proofs.Texts.{fold_loop, text_ends, Quiet, Like, LikeThreads, text_of_sequence, quiet_text, quiet_texts, quiet_like, like_text, like_texts, like_body, sequence_nop, all_over_like, first_trap_like, gone_like}
use Rattle.fold_laws.proofs.Joins.{CostLike, copies_like, join_like}
use Rattle.fold_laws.proofs.Rests.{stmt_rest, stmts_rest, text_rest, text_of_rest, texts_of_rest}

-- ---- what goes with a step

-- The folded text takes a step like it: the same, with texts that go together, and no more units. S is the folded text before.
abbrev pub MoveLike : RunningText → Move → Move → Type 0
MoveLike S Finished Finished = text_ends S ≡ true
MoveLike S Halts Halts = Unit {0}
MoveLike S (Moves R w c u) (Moves R' w' c' v) = Like R R' × (w' ≡ w) × (c' ≡ c) × (v ≤ u)
MoveLike S (Traps place trap u) (Traps place' trap' v) = (place' ≡ place) × (trap' ≡ trap) × (v ≤ u)
MoveLike S _ _ = ⊥

-- The folded text doesn't step: what has become of the text goes with it still, and less than n is left.
abbrev pub Waits : ℕ → List ℤ → List VarCopy → RunningText → Move → Type 0
Waits n w c S (Moves R w' c' u) = Like R S × (w' ≡ w) × (c' ≡ c) × (text_rest R < n)
Waits n w c S _ = ⊥

abbrev pub StepLike : ℕ → List ℤ → List VarCopy → RunningText → Move → Move → Type 0
StepLike n w c S m m' = Waits n w c S m ⊎ MoveLike S m m'

-- a step of a text all of which was folded away
abbrev pub QuietMove : ℕ → List ℤ → List VarCopy → Move → Type 0
QuietMove n w c Finished = Unit {0}
QuietMove n w c Halts = ⊥
QuietMove n w c (Moves R w' c' u) = Quiet R × (w' ≡ w) × (c' ≡ c) × (text_rest R < n)
QuietMove n w c (Traps place trap u) = ⊥

-- ---- after a number

more_move_like : (S : RunningText) (a b : ℕ) (m n : Move) → b ≤ a → MoveLike S m n → MoveLike S (more_move a m) (more_move b n)
more_move_like S a b Finished Finished h l = l
more_move_like S a b Halts Halts h l = tt
more_move_like S a b (Moves R w c u) (Moves R' w' c' v) h l = let le = l.3 in (l.0, l.1, l.2, omega arith)
more_move_like S a b (Traps place trap u) (Traps place' trap' v) h l = let le = l.2 in (l.0, l.1, omega arith)
more_move_like S a b _ _ h l = absurd l

pub with_like : (S : RunningText) (v w : Value) (go go' : ℤ → Move) → NoWorse v w → ((n : ℤ) → MoveLike S (go n) (go' n)) →
    MoveLike S (move_with v go) (move_with w go')
with_like S (Gives n u) (Gives m v) go go' l f =
    more_move_like S u v (go n) (go' m) l.1 (subst (λ x. MoveLike S (go n) (go' x)) (sym l.0) (f n))
with_like S (Gives n u) (Raises place trap v) go go' l f = absurd l
with_like S (Raises place trap u) (Gives m v) go go' l f = absurd l
with_like S (Raises place trap u) (Raises place' trap' v) go go' l f = l

more_waits : (n : ℕ) (w : List ℤ) (c : List VarCopy) (S : RunningText) (a : ℕ) (m : Move) → Waits n w c S m → Waits n w c S (more_move a m)
more_waits n w c S a Finished l = l
more_waits n w c S a Halts l = l
more_waits n w c S a (Moves R w' c' u) l = l
more_waits n w c S a (Traps place trap u) l = l

number_waits : (n : ℕ) (w : List ℤ) (c : List VarCopy) (S : RunningText) (v : Value) (x : ℤ) (go : ℤ → Move) → NoWorse v (Gives x 1) →
    Waits n w c S (go x) → Waits n w c S (move_with v go)
number_waits n w c S (Gives y u) x go l f = more_waits n w c S u (go y) (subst (λ z. Waits n w c S (go z)) l.0 f)
number_waits n w c S (Raises place trap u) x go l f = absurd l

more_quiet : (n : ℕ) (w : List ℤ) (c : List VarCopy) (a : ℕ) (m : Move) → QuietMove n w c m → QuietMove n w c (more_move a m)
more_quiet n w c a Finished l = l
more_quiet n w c a Halts l = l
more_quiet n w c a (Moves R w' c' u) l = l
more_quiet n w c a (Traps place trap u) l = l

number_quiet : (n : ℕ) (w : List ℤ) (c : List VarCopy) (v : Value) (x : ℤ) (go : ℤ → Move) → NoWorse v (Gives x 1) →
    QuietMove n w c (go x) → QuietMove n w c (move_with v go)
number_quiet n w c (Gives y u) x go l f = more_quiet n w c u (go y) (subst (λ z. QuietMove n w c (go z)) l.0 f)
number_quiet n w c (Raises place trap u) x go l f = absurd l

-- a text that was folded away goes on to its end, while the folded one is at its end
pub quiet_waits : (n : ℕ) (w : List ℤ) (c : List VarCopy) (S : RunningText) (m : Move) → text_ends S ≡ true → QuietMove n w c m → StepLike n w c S m Finished
quiet_waits n w c S Finished e q = inr e
quiet_waits n w c S Halts e q = absurd q
quiet_waits n w c S (Moves R w' c' u) e q = inl (quiet_like R S q.0 e, q.1, q.2, q.3)
quiet_waits n w c S (Traps place trap u) e q = absurd q

module _ (k : PlainKernel) (uses : List ℕ) (w : List ℤ) (c : List VarCopy) where
  abbrev o : Owner
  o = record { kernel = k; uses = uses }

  abbrev o' : Owner
  o' = record { kernel = folded_kernel k; uses = uses }

  abbrev sight : Sight
  sight = record { words = w; uses = uses; copies = c }

  pub value_like : (e : Expr) → NoWorse (evaluated o w c e) (evaluated o' w c (fold_expr e))
  value_like e = expr_like k.shape.tables (call k) (call (folded_kernel k)) (call_like k) sight e

  given : (e : Expr) (x : ℤ) → constant_of (fold_expr e) ≡ Some x → NoWorse (evaluated o w c e) (Gives x 1)
  given e x h = subst (λ a. NoWorse (evaluated o w c e) (evaluated o' w c a)) (is_number (fold_expr e) x h) (value_like e)

  -- ---- the folded text at its end

  pub end_move : (path : Path) (S : RunningText) → text_ends S ≡ true → text_move (folded_kernel k) path uses w c S ≡ Finished
  end_move path Done h = refl
  end_move path (Run Nop) h = refl
  end_move path (Run (Return e)) h = refl
  end_move path (Run (Set to e)) h = cc
  end_move path (Run (SetAt slot n i e place)) h = cc
  end_move path (Run (PutAt v n i e place)) h = cc
  end_move path (Run (Clear slot n)) h = cc
  end_move path (Run (Seq list)) h = cc
  end_move path (Run (If e a b)) h = cc
  end_move path (Run (While e bound body place)) h = cc
  end_move path (Run Pause) h = cc
  end_move path (Run (Par branches)) h = cc
  end_move path (Run (Enter weak immediate e body)) h = cc
  end_move path (Then R a) h = cc
  end_move path (Turning loop) h = cc
  end_move path Resting h = cc
  end_move path (Fork cs) h = cc
  end_move path (Held cs) h = cc
  end_move path (Watch weak e R) h = cc
  end_move path (Last R) h = cc

  -- ---- what was folded away

  abbrev turn_test : Loop → Bool → Move
  turn_test loop z = elim z [ true ↦ Moves Done w c 1 | false ↦ turned_loop loop loop.left w c ]

  loop_quiet : (loop : Loop) → never_turns (constant_of (fold_expr loop.test)) ≡ true → QuietMove 1 w c (loop_move o w c loop)
  loop_quiet loop h = pick (constant_of (fold_expr loop.test)) refl h
    where
      pick : (q : Option ℤ) → constant_of (fold_expr loop.test) ≡ q → never_turns q ≡ true → QuietMove 1 w c (loop_move o w c loop)
      pick None e h = cc
      pick (Some x) e h =
          number_quiet 1 w c (evaluated o w c loop.test) x (λ n. turn_test loop (is_zero n)) (given loop.test x e)
          (subst (λ z. QuietMove 1 w c (turn_test loop z)) (sym h) (tt, refl, refl, omega arith))

  if_quiet : (e : Expr) (a b : Stmt) (q : Option ℤ) → constant_of (fold_expr e) ≡ q →
      chosen_stmt q (fold_stmt a) (fold_stmt b) (If (fold_expr e) (fold_stmt a) (fold_stmt b)) ≡ Nop →
      QuietMove (stmt_rest a + stmt_rest b + 1) w c (statement_move o w c (If e a b))
  if_quiet e a b None i h = cc
  if_quiet e a b (Some x) i h =
      number_quiet (stmt_rest a + stmt_rest b + 1) w c (evaluated o w c e) x (λ n. Moves (cond (is_zero n) (text_of b) (text_of a)) w c 1)
      (given e x i) (pick (is_zero x) h)
    where
      pick : (z : Bool) → cond z (fold_stmt b) (fold_stmt a) ≡ Nop →
          QuietMove (stmt_rest a + stmt_rest b + 1) w c (Moves (cond z (text_of b) (text_of a)) w c 1)
      pick true h = (quiet_text b h, refl, refl, omega (arith, text_of_rest b))
      pick false h = (quiet_text a h, refl, refl, omega (arith, text_of_rest a))

  while_never : (b : Bool) (s : Stmt) → is_nop s ≡ false → cond b Nop s ≡ Nop → b ≡ true
  while_never true s n h = refl
  while_never false s n h = let e : is_nop s ≡ true = ap is_nop h in cc

  statement_quiet : (s : Stmt) → fold_stmt s ≡ Nop → QuietMove (stmt_rest s) w c (statement_move o w c s)
  statement_quiet Nop h = tt
  statement_quiet (Set to e) h = cc
  statement_quiet (SetAt slot n i e place) h = cc
  statement_quiet (PutAt v n i e place) h = cc
  statement_quiet (Clear slot n) h = cc
  statement_quiet (Seq list) h = (quiet_texts list (sequence_nop list h), refl, refl, omega (arith, texts_of_rest list))
  statement_quiet (If e a b) h = if_quiet e a b (constant_of (fold_expr e)) refl h
  statement_quiet (While e bound body place) h =
      (while_never (never_turns (constant_of (fold_expr e))) (While (fold_expr e) bound (fold_stmt body) place) refl h, refl, refl, omega arith)
  statement_quiet Pause h = cc
  statement_quiet (Par branches) h = cc
  statement_quiet (Enter weak immediate e body) h = cc
  statement_quiet (Return e) h = cc

  then_quiet : (list : Stmts) → fold_stmts list ≡ no_stmts → (n : ℕ) (m : Move) → QuietMove n w c m →
      QuietMove (n + 1 + stmts_rest list) w c (move_before (Go_on list) w c m)
  then_quiet list e n Finished q = (quiet_texts list e, refl, refl, omega (arith, texts_of_rest list))
  then_quiet list e n Halts q = absurd q
  then_quiet list e n (Moves R w' c' u) q = let less = q.3 in ((q.0, e), q.1, q.2, omega arith)
  then_quiet list e n (Traps place trap u) q = absurd q

  pub quiet_move : (path : Path) (R : RunningText) → Quiet R → QuietMove (text_rest R) w c (text_move k path uses w c R)
  quiet_move path Done q = tt
  quiet_move path (Run s) q = statement_quiet s q
  quiet_move path (Then R (Go_on list)) q = then_quiet list q.1 (text_rest R) (text_move k path uses w c R) (quiet_move path R q.0)
  quiet_move path (Then R (Again loop)) q = absurd q
  quiet_move path (Turning loop) q = loop_quiet loop q
  quiet_move path Resting q = absurd q
  quiet_move path (Fork cs) q = absurd q
  quiet_move path (Held cs) q = absurd q
  quiet_move path (Watch weak e R) q = absurd q
  quiet_move path (Last R) q = absurd q

  -- ---- statements

  assigned_like : (S : RunningText) (to : Spot) (n : ℤ) → MoveLike S (assigned o w c to n) (assigned o' w c to n)
  assigned_like S (spot.Local slot) n = (refl, refl, refl, omega arith)
  assigned_like S (spot.Variable v) n = (refl, refl, refl, omega arith)

  assigned_at_like : (S : RunningText) (slot : ℕ) (i : Option ℕ) (x : ℤ) (place : Place) →
      MoveLike S (assigned_at w c slot i x place) (assigned_at w c slot i x place)
  assigned_at_like S slot (Some i) x place = (refl, refl, refl, omega arith)
  assigned_at_like S slot None x place = (refl, refl, omega arith)

  shared_at_like : (S : RunningText) (v : ℕ) (i : Option ℕ) (x : ℤ) (place : Place) →
      MoveLike S (shared_at o w c v i x place) (shared_at o' w c v i x place)
  shared_at_like S v (Some i) x place = (refl, refl, refl, omega arith)
  shared_at_like S v None x place = (refl, refl, omega arith)

  abbrev ArgumentsLike : Arguments → Arguments → Type 0
  ArgumentsLike (Ready lists u) (Ready lists' v) = (lists' ≡ lists) × (v ≤ u)
  ArgumentsLike (Ready lists u) (Refused place trap v) = ⊥
  ArgumentsLike (Refused place trap u) (Ready lists' v) = ⊥
  ArgumentsLike (Refused place trap u) (Refused place' trap' v) = (place' ≡ place) × (trap' ≡ trap) × (v ≤ u)

  one_list_like : (ns ms : List ℤ) (a b : ℕ) (x y : Arguments) → ms ≡ ns → b ≤ a → ArgumentsLike x y →
      ArgumentsLike (one_more_list ns a x) (one_more_list ms b y)
  one_list_like ns ms a b (Ready lists u) (Ready lists' v) e h l =
      let le = l.1 in (ap (λ x. x ∷ lists') e ∙ ap (λ xs. ns ∷ xs) l.0, omega arith)
  one_list_like ns ms a b (Ready lists u) (Refused place trap v) e h l = absurd l
  one_list_like ns ms a b (Refused place trap u) (Ready lists' v) e h l = absurd l
  one_list_like ns ms a b (Refused place trap u) (Refused place' trap' v) e h l = let le = l.2 in (l.0, l.1, omega arith)

  arguments_then_like : (v x : Values) (a b : Arguments) → ValuesLike v x → ArgumentsLike a b → ArgumentsLike (arguments_then v a) (arguments_then x b)
  arguments_then_like (AllGive ns u) (AllGive ms v) a b l r = one_list_like ns ms u v a b l.0 l.1 r
  arguments_then_like (AllGive ns u) (OneRaises place trap v) a b l r = absurd l
  arguments_then_like (OneRaises place trap u) (AllGive ms v) a b l r = absurd l
  arguments_then_like (OneRaises place trap u) (OneRaises place' trap' v) a b l r = l

  arguments_like : (bs : List Branch) → ArgumentsLike (arguments (setting k) sight bs) (arguments (setting (folded_kernel k)) sight (fold_branches bs))
  arguments_like [] = (refl, omega arith)
  arguments_like (b ∷ bs) =
      arguments_then_like (vals (setting k) sight b.args) (vals (setting (folded_kernel k)) sight (fold_exprs b.args))
      (arguments (setting k) sight bs) (arguments (setting (folded_kernel k)) sight (fold_branches bs))
      (exprs_like k.shape.tables (call k) (call (folded_kernel k)) (call_like k) sight b.args) (arguments_like bs)

  started_like : (bs : List Branch) (lists : List (List ℤ)) → LikeThreads (started o c bs lists) (started o' c (fold_branches bs) lists)
  started_like [] lists = refl
  started_like (b ∷ bs) [] = refl
  started_like (b ∷ bs) (ns ∷ lists) =
      (text_of (body_of (folded_kernel k) b.thread), started o' c (fold_branches bs) lists, like_body k b.thread, started_like bs lists, refl)

  forked_like : (S : RunningText) (bs : List Branch) (x y : Arguments) → ArgumentsLike x y →
      MoveLike S (forked o w c bs x) (forked o' w c (fold_branches bs) y)
  forked_like S bs (Ready lists u) (Ready lists' v) l =
      let le = l.1 in
      let same = ap (λ x. Fork (started o' c (fold_branches bs) x)) l.0 in
      ((started o' c (fold_branches bs) lists, started_like bs lists, same), refl, refl, omega arith)
  forked_like S bs (Ready lists u) (Refused place trap v) l = absurd l
  forked_like S bs (Refused place trap u) (Ready lists' v) l = absurd l
  forked_like S bs (Refused place trap u) (Refused place' trap' v) l = l

  entered_like : (S : RunningText) (weak : Bool) (e : Expr) (body : Stmt) (n : ℤ) →
      MoveLike S (Moves (entered_abort weak e body n) w c 1) (Moves (entered_abort weak (fold_expr e) (fold_stmt body) n) w c 1)
  entered_like S false e body n = pick (is_zero n)
    where
      pick : (z : Bool) →
          MoveLike S (Moves (cond z (Watch false e (text_of body)) Done) w c 1) (Moves (cond z (Watch false (fold_expr e) (text_of (fold_stmt body))) Done) w c 1)
      pick true = ((text_of (fold_stmt body), like_text body, refl), refl, refl, omega arith)
      pick false = (refl, refl, refl, omega arith)
  entered_like S true e body n = pick (is_zero n)
    where
      pick : (z : Bool) →
          MoveLike S (Moves (cond z (Watch true e (text_of body)) (Last (text_of body))) w c 1)
          (Moves (cond z (Watch true (fold_expr e) (text_of (fold_stmt body))) (Last (text_of (fold_stmt body)))) w c 1)
      pick true = ((text_of (fold_stmt body), like_text body, refl), refl, refl, omega arith)
      pick false = ((text_of (fold_stmt body), like_text body, refl), refl, refl, omega arith)

  if_like : (path : Path) (e : Expr) (a b : Stmt) (q : Option ℤ) → constant_of (fold_expr e) ≡ q →
      (let S = text_of (chosen_stmt q (fold_stmt a) (fold_stmt b) (If (fold_expr e) (fold_stmt a) (fold_stmt b))) in
      StepLike (stmt_rest a + stmt_rest b + 1) w c S (statement_move o w c (If e a b)) (text_move (folded_kernel k) path uses w c S))
  if_like path e a b None i =
      inr (with_like (Run (If (fold_expr e) (fold_stmt a) (fold_stmt b))) (evaluated o w c e) (evaluated o' w c (fold_expr e)) _ _ (value_like e) (λ n. pick (is_zero n)))
    where
      pick : (z : Bool) →
          MoveLike (Run (If (fold_expr e) (fold_stmt a) (fold_stmt b))) (Moves (cond z (text_of b) (text_of a)) w c 1)
          (Moves (cond z (text_of (fold_stmt b)) (text_of (fold_stmt a))) w c 1)
      pick true = (like_text b, refl, refl, omega arith)
      pick false = (like_text a, refl, refl, omega arith)
  if_like path e a b (Some x) i =
      inl (number_waits (stmt_rest a + stmt_rest b + 1) w c (text_of (cond (is_zero x) (fold_stmt b) (fold_stmt a))) (evaluated o w c e) x
      (λ n. Moves (cond (is_zero n) (text_of b) (text_of a)) w c 1) (given e x i) (pick (is_zero x)))
    where
      pick : (z : Bool) →
          Waits (stmt_rest a + stmt_rest b + 1) w c (text_of (cond z (fold_stmt b) (fold_stmt a))) (Moves (cond z (text_of b) (text_of a)) w c 1)
      pick true = (like_text b, refl, refl, omega (arith, text_of_rest b))
      pick false = (like_text a, refl, refl, omega (arith, text_of_rest a))

  while_like : (path : Path) (e : Expr) (bound : Option ℕ) (body : Stmt) (place : Place) (z : Bool) → never_turns (constant_of (fold_expr e)) ≡ z →
      (let S = text_of (cond z Nop (While (fold_expr e) bound (fold_stmt body) place)) in
      StepLike 2 w c S (statement_move o w c (While e bound body place)) (text_move (folded_kernel k) path uses w c S))
  while_like path e bound body place true h = inl (inl (h, refl), refl, refl, omega arith)
  while_like path e bound body place false h = inr (inr refl, refl, refl, omega arith)

  pub statement_like : (path : Path) (s : Stmt) →
      StepLike (stmt_rest s) w c (text_of (fold_stmt s)) (statement_move o w c s) (text_move (folded_kernel k) path uses w c (text_of (fold_stmt s)))
  statement_like path Nop = inr refl
  statement_like path (Set to e) =
      inr (with_like (Run (Set to (fold_expr e))) (evaluated o w c e) (evaluated o' w c (fold_expr e)) _ _ (value_like e) (λ n. assigned_like (Run (Set to (fold_expr e))) to n))
  statement_like path (SetAt slot n i e place) =
      let S = Run (SetAt slot n (fold_expr i) (fold_expr e) place) in
      inr (with_like S (evaluated o w c i) (evaluated o' w c (fold_expr i)) _ _ (value_like i) (λ j.
      with_like S (evaluated o w c e) (evaluated o' w c (fold_expr e)) _ _ (value_like e) (λ x. assigned_at_like S slot (index_in n j) x place)))
  statement_like path (PutAt v n i e place) =
      let S = Run (PutAt v n (fold_expr i) (fold_expr e) place) in
      inr (with_like S (evaluated o w c i) (evaluated o' w c (fold_expr i)) _ _ (value_like i) (λ j.
      with_like S (evaluated o w c e) (evaluated o' w c (fold_expr e)) _ _ (value_like e) (λ x. shared_at_like S v (index_in n j) x place)))
  statement_like path (Clear slot n) = inr (refl, refl, refl, omega arith)
  statement_like path (Seq list) =
      inl (subst (λ S. Like (texts_of list) S) (sym (text_of_sequence (fold_stmts list))) (like_texts list), refl, refl, omega (arith, texts_of_rest list))
  statement_like path (If e a b) = if_like path e a b (constant_of (fold_expr e)) refl
  statement_like path (While e bound body place) = while_like path e bound body place (never_turns (constant_of (fold_expr e))) refl
  statement_like path Pause = inr (refl, refl, refl, omega arith)
  statement_like path (Par branches) =
      inr (forked_like (Run (Par (fold_branches branches))) branches (arguments (setting k) sight branches)
      (arguments (setting (folded_kernel k)) sight (fold_branches branches)) (arguments_like branches))
  statement_like path (Enter weak false e body) = inr ((text_of (fold_stmt body), like_text body, refl), refl, refl, omega arith)
  statement_like path (Enter weak true e body) =
      let S = Run (Enter weak true (fold_expr e) (fold_stmt body)) in
      inr (with_like S (evaluated o w c e) (evaluated o' w c (fold_expr e)) _ _ (value_like e) (λ n. entered_like S weak e body n))
  statement_like path (Return e) = inr refl

  -- ---- loops

  turned_like : (S : RunningText) (loop : Loop) (left : Option ℕ) → MoveLike S (turned_loop loop left w c) (turned_loop (fold_loop loop) left w c)
  turned_like S loop None = ((text_of (fold_stmt loop.body), like_text loop.body, refl), refl, refl, omega arith)
  turned_like S loop (Some zero) = (refl, refl, omega arith)
  turned_like S loop (Some (suc m)) = ((text_of (fold_stmt loop.body), like_text loop.body, refl), refl, refl, omega arith)

  pub loop_like : (loop : Loop) → MoveLike (Turning (fold_loop loop)) (loop_move o w c loop) (loop_move o' w c (fold_loop loop))
  loop_like loop =
      with_like (Turning (fold_loop loop)) (evaluated o w c loop.test) (evaluated o' w c (fold_expr loop.test)) _ _ (value_like loop.test) (λ n. pick (is_zero n))
    where
      pick : (z : Bool) →
          MoveLike (Turning (fold_loop loop)) (elim z [ true ↦ Moves Done w c 1 | false ↦ turned_loop loop loop.left w c ])
          (elim z [ true ↦ Moves Done w c 1 | false ↦ turned_loop (fold_loop loop) loop.left w c ])
      pick true = (refl, refl, refl, omega arith)
      pick false = turned_like (Turning (fold_loop loop)) loop loop.left

  -- ---- a fork none of whose children is running

  combined_like : (S : RunningText) (cs ds : Threads) → LikeThreads cs ds → (x y : Cost) → CostLike x y →
      MoveLike S (combined o w c cs x) (combined o' w c ds y)
  combined_like S cs ds l (Costs u) (Costs v) h = (
    subst (λ b. Like (cond (all_over cs) Done (Held (ended_are_gone cs))) (cond b Done (Held (ended_are_gone ds)))) (sym (all_over_like cs ds l)) (pick (all_over cs)),
    refl,
    copies_like k cs ds uses c l,
    h,
  )
    where
      pick : (z : Bool) → Like (cond z Done (Held (ended_are_gone cs))) (cond z Done (Held (ended_are_gone ds)))
      pick true = refl
      pick false = (ended_are_gone ds, gone_like cs ds l, refl)
  combined_like S cs ds l (Costs u) (Fails place trap v) h = absurd h
  combined_like S cs ds l (Fails place trap u) (Costs v) h = absurd h
  combined_like S cs ds l (Fails place trap u) (Fails place' trap' v) h = h

  pub joined_like : (S : RunningText) (cs ds : Threads) → LikeThreads cs ds →
      MoveLike S (joined o w c cs (first_trap cs)) (joined o' w c ds (first_trap ds))
  joined_like S cs ds l =
      subst (λ x. MoveLike S (joined o w c cs (first_trap cs)) (joined o' w c ds x)) (sym (first_trap_like cs ds l)) (pick (first_trap cs))
    where
      pick : (x : Option (Place × Trap)) → MoveLike S (joined o w c cs x) (joined o' w c ds x)
      pick (Some p) = (refl, refl, omega arith)
      pick None = combined_like S cs ds l (join_cost k cs uses c) (join_cost (folded_kernel k) ds uses c) (join_like k cs ds uses c l)
