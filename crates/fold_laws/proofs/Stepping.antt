-- A step of a running text, along any path: the folded text takes a step like it along the same path, or waits.
use Rattle.std.proofs.Common.{ℕ, zero, suc, ◌+◌, ◌<◌, ◌≤◌, ◌≡◌, ◌⊎◌, inl, inr, ℤ, Bool, true, false, cond, List, [], ◌∷◌, refl, ap, sym, subst, ◌∙◌, arith}
use Rattle.forec_kernel.specs.declared.shape.VarCopy.{VarCopy}
use Rattle.forec_kernel.specs.Terms.{Expr, Stmt, Stmts, no_stmts, more_stmts}
use Rattle.forec_kernel.specs.Shapes.{PlainKernel}
use Rattle.forec_kernel.specs.Texts.{Loop, Go_on, Again, Status, Trapped, RunningText, Done, Run, Then, Turning, Resting, Fork, Held, Watch, Last, Threads, no_threads, child, child_of, texts_of, then_list, some_running, first_running, runs_at, first_trap, uses_of}
use Rattle.forec_kernel.specs.Steps.{Move, Finished, Halts, Moves, Traps, joined, move_before, move_watched, move_last, thread_after, move_units, SteppedChildren, Path, child_place, path_below, text_move, child_move}
use Rattle.fold_laws.specs.Folding.{fold_expr, fold_stmts, folded_kernel}
use Rattle.fold_laws.proofs.Texts.{fold_loop, going, skipped, Like, LikeThreads, quiet_texts, quiet_like, like_texts, some_running_like, first_running_like, runs_at_like}
use Rattle.fold_laws.proofs.Rests.{stmts_rest, text_rest, threads_rest, texts_of_rest}
use Rattle.fold_laws.proofs.Moves.{StepLike, QuietMove, quiet_waits, end_move, quiet_move, statement_like, loop_like, joined_like}

-- ---- where a path leads

place_like : (path : Path) (cs ds : Threads) → LikeThreads cs ds → child_place path ds ≡ child_place path cs
place_like [] cs ds l = first_running_like cs ds l
place_like (i ∷ path) cs ds l =
    ap (λ b. cond b i (first_running ds)) (runs_at_like i cs ds l) ∙ ap (cond (runs_at i cs) i) (first_running_like cs ds l)

below_like : (path : Path) (cs ds : Threads) → LikeThreads cs ds → path_below path ds ≡ path_below path cs
below_like [] cs ds l = refl
below_like (i ∷ path) cs ds l = ap (λ b. cond b path []) (runs_at_like i cs ds l)

-- ---- a step of the child at a place

-- the children go together afterwards; or the folded ones wait, and less than n is left
abbrev pub ChildLike : ℕ → Threads → SteppedChildren → SteppedChildren → Type 0
ChildLike n ds s s' =
    (LikeThreads s.children ds × (threads_rest s.children < n)) ⊎ (LikeThreads s.children s'.children × (s'.units ≤ s.units))

module _ (w : List ℤ) (c : List VarCopy) where
  -- ---- steps in a context

  module _ (list : Stmts) where
    -- nothing is left of the folded list
    before_nothing : (S : RunningText) → fold_stmts list ≡ no_stmts → (n : ℕ) (m m' : Move) → StepLike n w c S m m' →
        StepLike (n + 1 + stmts_rest list) w c S (move_before (Go_on list) w c m) m'
    before_nothing S e n Finished m' (inl l) = absurd l
    before_nothing S e n Halts m' (inl l) = absurd l
    before_nothing S e n (Moves R w' c' u) m' (inl l) = let less = l.3 in inl (going S l.0 (sym (ap (then_list S) e)), l.1, l.2, omega arith)
    before_nothing S e n (Traps place trap u) m' (inl l) = absurd l
    before_nothing S e n Finished Finished (inr l) = inl (quiet_like (texts_of list) S (quiet_texts list e) l, refl, refl, omega (arith, texts_of_rest list))
    before_nothing S e n Halts Halts (inr l) = inr tt
    before_nothing S e n (Moves R w' c' u) (Moves R' w1 c1 v) (inr l) = inr (going R' l.0 (sym (ap (then_list R') e)), l.1, l.2, l.3)
    before_nothing S e n (Traps place trap u) (Traps place' trap' v) (inr l) = inr l
    before_nothing S e n _ _ (inr l) = absurd l

    before_more : (S : RunningText) (x : Stmt) (rest : Stmts) → fold_stmts list ≡ more_stmts x rest → (n : ℕ) (m m' : Move) → StepLike n w c S m m' →
        StepLike (n + 1 + stmts_rest list) w c (Then S (Go_on (more_stmts x rest))) (move_before (Go_on list) w c m) (move_before (Go_on (more_stmts x rest)) w c m')
    before_more S x rest e n Finished m' (inl l) = absurd l
    before_more S x rest e n Halts m' (inl l) = absurd l
    before_more S x rest e n (Moves R w' c' u) m' (inl l) = let less = l.3 in inl (going S l.0 (sym (ap (then_list S) e)), l.1, l.2, omega arith)
    before_more S x rest e n (Traps place trap u) m' (inl l) = absurd l
    before_more S x rest e n Finished Finished (inr l) = inr (subst (λ xs. Like (texts_of list) (texts_of xs)) e (like_texts list), refl, refl, omega arith)
    before_more S x rest e n Halts Halts (inr l) = inr tt
    before_more S x rest e n (Moves R w' c' u) (Moves R' w1 c1 v) (inr l) = inr (going R' l.0 (sym (ap (then_list R') e)), l.1, l.2, l.3)
    before_more S x rest e n (Traps place trap u) (Traps place' trap' v) (inr l) = inr l
    before_more S x rest e n _ _ (inr l) = absurd l

    -- the folded list has begun
    before_skipped : (S : RunningText) → S ≡ texts_of (fold_stmts list) → (n : ℕ) (m m' : Move) → QuietMove n w c m →
        StepLike (n + 1 + stmts_rest list) w c S (move_before (Go_on list) w c m) m'
    before_skipped S e n Finished m' q =
        inl (subst (λ T. Like (texts_of list) T) (sym e) (like_texts list), refl, refl, omega (arith, texts_of_rest list))
    before_skipped S e n Halts m' q = absurd q
    before_skipped S e n (Moves R w' c' u) m' q = let less = q.3 in inl (skipped q.0 e, q.1, q.2, omega arith)
    before_skipped S e n (Traps place trap u) m' q = absurd q

  before_again : (loop : Loop) (S : RunningText) (n : ℕ) (m m' : Move) → StepLike n w c S m m' →
      StepLike (n + 1) w c (Then S (Again (fold_loop loop))) (move_before (Again loop) w c m) (move_before (Again (fold_loop loop)) w c m')
  before_again loop S n Finished m' (inl l) = absurd l
  before_again loop S n Halts m' (inl l) = absurd l
  before_again loop S n (Moves R w' c' u) m' (inl l) = let less = l.3 in inl ((S, l.0, refl), l.1, l.2, omega arith)
  before_again loop S n (Traps place trap u) m' (inl l) = absurd l
  before_again loop S n Finished Finished (inr l) = inr (inr refl, refl, refl, omega arith)
  before_again loop S n Halts Halts (inr l) = inr tt
  before_again loop S n (Moves R w' c' u) (Moves R' w1 c1 v) (inr l) = inr ((R', l.0, refl), l.1, l.2, l.3)
  before_again loop S n (Traps place trap u) (Traps place' trap' v) (inr l) = inr l
  before_again loop S n _ _ (inr l) = absurd l

  watched_like : (weak : Bool) (e : Expr) (S : RunningText) (n : ℕ) (m m' : Move) → StepLike n w c S m m' →
      StepLike (n + 1) w c (Watch weak (fold_expr e) S) (move_watched weak e w c m) (move_watched weak (fold_expr e) w c m')
  watched_like weak e S n Finished m' (inl l) = absurd l
  watched_like weak e S n Halts m' (inl l) = absurd l
  watched_like weak e S n (Moves R w' c' u) m' (inl l) = let less = l.3 in inl ((S, l.0, refl), l.1, l.2, omega arith)
  watched_like weak e S n (Traps place trap u) m' (inl l) = absurd l
  watched_like weak e S n Finished Finished (inr l) = inr (refl, refl, refl, omega arith)
  watched_like weak e S n Halts Halts (inr l) = inr tt
  watched_like weak e S n (Moves R w' c' u) (Moves R' w1 c1 v) (inr l) = inr ((R', l.0, refl), l.1, l.2, l.3)
  watched_like weak e S n (Traps place trap u) (Traps place' trap' v) (inr l) = inr l
  watched_like weak e S n _ _ (inr l) = absurd l

  last_like : (S : RunningText) (n : ℕ) (m m' : Move) → StepLike n w c S m m' → StepLike (n + 1) w c (Last S) (move_last w c m) (move_last w c m')
  last_like S n Finished m' (inl l) = absurd l
  last_like S n Halts m' (inl l) = absurd l
  last_like S n (Moves R w' c' u) m' (inl l) = let less = l.3 in inl ((S, l.0, refl), l.1, l.2, omega arith)
  last_like S n (Traps place trap u) m' (inl l) = absurd l
  last_like S n Finished Finished (inr l) = inr (refl, refl, refl, omega arith)
  last_like S n Halts Halts (inr l) = inr (refl, refl, refl, omega arith)
  last_like S n (Moves R w' c' u) (Moves R' w1 c1 v) (inr l) = inr ((R', l.0, refl), l.1, l.2, l.3)
  last_like S n (Traps place trap u) (Traps place' trap' v) (inr l) = inr l
  last_like S n _ _ (inr l) = absurd l

  -- ---- children

  module _ (t : ℕ) (R : RunningText) (st : Status) (rest : Threads) (S : RunningText) (es : Threads) (l : Like R S) (r : LikeThreads rest es) where
    abbrev here : Move → SteppedChildren
    here m =
        record {
          children = child_of (thread_after (record { number = t; text = R; words = w; copies = c; status = st }) m) rest;
          units = move_units m;
        }

    abbrev there : Move → SteppedChildren
    there m =
        record {
          children = child_of (thread_after (record { number = t; text = S; words = w; copies = c; status = st }) m) es;
          units = move_units m;
        }

    one_like : (n : ℕ) (m m' : Move) → StepLike n w c S m m' → ChildLike (n + threads_rest rest) (child t S w c st es) (here m) (there m')
    one_like n Finished m' (inl h) = absurd h
    one_like n Halts m' (inl h) = absurd h
    one_like n (Moves R1 w1 c1 u) m' (inl h) =
        let less = h.3 in
        inl ((S, es, h.0, r, sym (ap (λ x. child t S x c1 st es) h.1 ∙ ap (λ x. child t S w x st es) h.2)), omega arith)
    one_like n (Traps place trap u) m' (inl h) = absurd h
    one_like n Finished Finished (inr h) = inr ((S, es, l, r, refl), omega arith)
    one_like n Halts Halts (inr h) = inr ((S, es, l, r, refl), omega arith)
    one_like n (Moves R1 w1 c1 u) (Moves S1 w2 c2 v) (inr h) =
        inr ((S1, es, h.0, r, ap (λ x. child t S1 x c2 st es) h.1 ∙ ap (λ x. child t S1 w1 x st es) h.2), h.3)
    one_like n (Traps place trap u) (Traps place' trap' v) (inr h) =
        inr ((S, es, l, r, ap (λ x. child t S w c (Trapped x trap') es) h.0 ∙ ap (λ x. child t S w c (Trapped place x) es) h.1), h.2)
    one_like n _ _ (inr h) = absurd h

    later_like : (n : ℕ) (s s' : SteppedChildren) → ChildLike n es s s' →
        ChildLike (text_rest R + n) (child t S w c st es)
        (record { children = child t R w c st s.children; units = s.units }) (record { children = child t S w c st s'.children; units = s'.units })
    later_like n s s' (inl h) = let less = h.1 in inl ((S, es, l, h.0, refl), omega arith)
    later_like n s s' (inr h) = inr ((S, s'.children, l, h.0, refl), h.1)

module _ (k : PlainKernel) where
  abbrev fork_step : PlainKernel → Path → ℕ → List ℕ → List ℤ → List VarCopy → Threads → Bool → Move
  fork_step j path i uses w c cs b =
      elim b [
        | true ↦ let s = child_move j path i cs in Moves (Fork s.children) w c s.units
        | false ↦ joined (record { kernel = j; uses = uses }) w c cs (first_trap cs)
      ]

  fork_like : (path : Path) (i : ℕ) (uses : List ℕ) (w : List ℤ) (c : List VarCopy) (cs ds : Threads) → LikeThreads cs ds →
      ChildLike (threads_rest cs) ds (child_move k path i cs) (child_move (folded_kernel k) path i ds) → (b : Bool) →
      StepLike (threads_rest cs) w c (Fork ds) (fork_step k path i uses w c cs b) (fork_step (folded_kernel k) path i uses w c ds b)
  fork_like path i uses w c cs ds l h true = pick h
    where
      pick : ChildLike (threads_rest cs) ds (child_move k path i cs) (child_move (folded_kernel k) path i ds) →
          StepLike (threads_rest cs) w c (Fork ds) (fork_step k path i uses w c cs true) (fork_step (folded_kernel k) path i uses w c ds true)
      pick (inl x) = inl ((ds, x.0, refl), refl, refl, x.1)
      pick (inr x) = inr (((child_move (folded_kernel k) path i ds).children, x.0, refl), refl, refl, x.1)
  fork_like path i uses w c cs ds l h false = inr (joined_like k uses w c (Fork ds) cs ds l)

  -- the folded children step at the same place, along the same path
  fork_same : (path : Path) (uses : List ℕ) (w : List ℤ) (c : List VarCopy) (cs ds : Threads) (l : LikeThreads cs ds) →
      fork_step (folded_kernel k) (path_below path ds) (child_place path ds) uses w c ds (some_running ds)
      ≡ fork_step (folded_kernel k) (path_below path cs) (child_place path cs) uses w c ds (some_running cs)
  fork_same path uses w c cs ds l =
      ap (λ p. fork_step (folded_kernel k) p (child_place path ds) uses w c ds (some_running ds)) (below_like path cs ds l)
      ∙ ap (λ i. fork_step (folded_kernel k) (path_below path cs) i uses w c ds (some_running ds)) (place_like path cs ds l)
      ∙ ap (λ b. fork_step (folded_kernel k) (path_below path cs) (child_place path cs) uses w c ds b) (some_running_like cs ds l)

  -- the step of the folded text
  abbrev pub step' : Path → List ℕ → List ℤ → List VarCopy → RunningText → Move
  step' path uses w c S = text_move (folded_kernel k) path uses w c S

  -- a text before a list
  list_like : (path : Path) (uses : List ℕ) (w : List ℤ) (c : List VarCopy) (list : Stmts) (S : RunningText) (n : ℕ) (m : Move) →
      StepLike n w c S m (step' path uses w c S) → (xs : Stmts) → fold_stmts list ≡ xs →
      StepLike (n + 1 + stmts_rest list) w c (then_list S xs) (move_before (Go_on list) w c m) (step' path uses w c (then_list S xs))
  list_like path uses w c list S n m h no_stmts e = before_nothing w c list S e n m (step' path uses w c S) h
  list_like path uses w c list S n m h (more_stmts x rest) e = before_more w c list S x rest e n m (step' path uses w c S) h

  mutual
    pub step_like : (path : Path) (uses : List ℕ) (w : List ℤ) (c : List VarCopy) (R S : RunningText) → Like R S →
        StepLike (text_rest R) w c S (text_move k path uses w c R) (step' path uses w c S)
    step_like path uses w c Done S l = subst (λ m. StepLike 0 w c S Finished m) (sym (end_move k uses w c path S l)) (inr l)
    step_like path uses w c (Run s) S (inl q) =
        subst (λ m. StepLike (text_rest (Run s)) w c S (text_move k path uses w c (Run s)) m) (sym (end_move k uses w c path S q.1))
        (quiet_waits (text_rest (Run s)) w c S (text_move k path uses w c (Run s)) q.1 (quiet_move k uses w c path (Run s) q.0))
    step_like path uses w c (Run s) S (inr e) =
        subst (λ T. StepLike (text_rest (Run s)) w c T (text_move k path uses w c (Run s)) (step' path uses w c T)) (sym e) (statement_like k uses w c path s)
    step_like path uses w c (Then R (Go_on list)) S (going T l e) =
        subst (λ U. StepLike (text_rest (Then R (Go_on list))) w c U (text_move k path uses w c (Then R (Go_on list))) (step' path uses w c U)) (sym e)
        (list_like path uses w c list T (text_rest R) (text_move k path uses w c R) (step_like path uses w c R T l) (fold_stmts list) refl)
    step_like path uses w c (Then R (Go_on list)) S (skipped q e) =
        before_skipped w c list S e (text_rest R) (text_move k path uses w c R) (step' path uses w c S) (quiet_move k uses w c path R q)
    step_like path uses w c (Then R (Again loop)) S l =
        subst (λ U. StepLike (text_rest (Then R (Again loop))) w c U (text_move k path uses w c (Then R (Again loop))) (step' path uses w c U)) (sym l.2)
        (before_again w c loop l.0 (text_rest R) (text_move k path uses w c R) (step' path uses w c l.0) (step_like path uses w c R l.0 l.1))
    step_like path uses w c (Turning loop) S (inl q) =
        subst (λ m. StepLike 1 w c S (text_move k path uses w c (Turning loop)) m) (sym (end_move k uses w c path S q.1))
        (quiet_waits 1 w c S (text_move k path uses w c (Turning loop)) q.1 (quiet_move k uses w c path (Turning loop) q.0))
    step_like path uses w c (Turning loop) S (inr e) =
        subst (λ U. StepLike 1 w c U (text_move k path uses w c (Turning loop)) (step' path uses w c U)) (sym e) (inr (loop_like k uses w c loop))
    step_like path uses w c Resting S l =
        subst (λ U. StepLike 0 w c U Halts (step' path uses w c U)) (sym l) (inr tt)
    step_like path uses w c (Fork cs) S l =
        subst (λ U. StepLike (threads_rest cs) w c U (text_move k path uses w c (Fork cs)) (step' path uses w c U)) (sym l.2)
        (subst (λ m. StepLike (threads_rest cs) w c (Fork l.0) (text_move k path uses w c (Fork cs)) m) (sym (fork_same path uses w c cs l.0 l.1))
        (fork_like (path_below path cs) (child_place path cs) uses w c cs l.0 l.1 (child_like (path_below path cs) (child_place path cs) cs l.0 l.1) (some_running cs)))
    step_like path uses w c (Held cs) S l =
        subst (λ U. StepLike 0 w c U Halts (step' path uses w c U)) (sym l.2) (inr tt)
    step_like path uses w c (Watch weak e R) S l =
        subst (λ U. StepLike (text_rest R + 1) w c U (text_move k path uses w c (Watch weak e R)) (step' path uses w c U)) (sym l.2)
        (watched_like w c weak e l.0 (text_rest R) (text_move k path uses w c R) (step' path uses w c l.0) (step_like path uses w c R l.0 l.1))
    step_like path uses w c (Last R) S l =
        subst (λ U. StepLike (text_rest R + 1) w c U (text_move k path uses w c (Last R)) (step' path uses w c U)) (sym l.2)
        (last_like w c l.0 (text_rest R) (text_move k path uses w c R) (step' path uses w c l.0) (step_like path uses w c R l.0 l.1))

    child_like : (path : Path) (i : ℕ) (cs ds : Threads) → LikeThreads cs ds →
        ChildLike (threads_rest cs) ds (child_move k path i cs) (child_move (folded_kernel k) path i ds)
    child_like path i no_threads ds l =
        subst (λ es. ChildLike 0 es (child_move k path i no_threads) (child_move (folded_kernel k) path i es)) (sym l) (inr (refl, omega arith))
    child_like path zero (child t R w c st rest) ds l =
        subst (λ es. ChildLike (threads_rest (child t R w c st rest)) es (child_move k path zero (child t R w c st rest)) (child_move (folded_kernel k) path zero es)) (sym l.4)
        (one_like w c t R st rest l.0 l.1 l.2 l.3 (text_rest R) (text_move k path (uses_of k t) w c R) (step' path (uses_of k t) w c l.0)
        (step_like path (uses_of k t) w c R l.0 l.2))
    child_like path (suc i) (child t R w c st rest) ds l =
        subst (λ es. ChildLike (threads_rest (child t R w c st rest)) es (child_move k path (suc i) (child t R w c st rest)) (child_move (folded_kernel k) path (suc i) es)) (sym l.4)
        (later_like w c t R st rest l.0 l.1 l.2 l.3 (threads_rest rest) (child_move k path i rest) (child_move (folded_kernel k) path i l.1)
        (child_like path i rest l.1 l.3))
