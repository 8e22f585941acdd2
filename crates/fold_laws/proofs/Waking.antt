-- Texts that go together wake together, and the folded one takes no more units.
use Rattle.std.proofs.Common.{ℕ, ◌+◌, ◌≤◌, ◌≡◌, inl, inr, ℤ, Bool, true, false, cond, List, refl, ap, sym, subst, ◌∙◌, arith}
use Rattle.forec_base.specs.Numbers.{is_zero}
use Rattle.forec_kernel.specs.declared.shape.VarCopy.{VarCopy}
use Rattle.forec_kernel.specs.Terms.{Expr, Stmt, Nop, Set, SetAt, PutAt, Clear, Seq, If, While, Pause, Par, Enter, Return, Stmts, no_stmts, more_stmts}
use Rattle.forec_kernel.specs.Shapes.{PlainKernel}
use Rattle.forec_kernel.specs.Values.{Value, Gives, Raises}
use Rattle.forec_kernel.specs.Texts.{Go_on, Again, Running, Paused, Ended, Gone, Trapped, RunningText, Done, Run, Then, Turning, Resting, Fork, Held, Watch, Last, Threads, no_threads, child, text_of, texts_of, then_list, uses_of, handed_down}
use Rattle.forec_kernel.specs.Steps.{Woken, Wakes, Stays, more_woken, woken_in, woken_with, watched_on, text_if, status_of, waking_units, woken, woken_children, evaluated, SteppedChildren}
use Rattle.fold_laws.specs.Laws.{NoWorse}
use Rattle.fold_laws.specs.Folding.{fold_expr, fold_stmt, fold_stmts, folded_kernel}
use Rattle.fold_laws.proofs.Texts.{fold_loop, text_ends, Quiet, going, skipped, Like, LikeThreads}
use Rattle.fold_laws.proofs.Moves.{value_like}

abbrev pub WokenLike : Woken → Woken → Type 0
WokenLike (Wakes R u) (Wakes S v) = Like R S × (v ≤ u)
WokenLike (Wakes R u) (Stays place trap v) = ⊥
WokenLike (Stays place trap u) (Wakes S v) = ⊥
WokenLike (Stays place trap u) (Stays place' trap' v) = (place' ≡ place) × (trap' ≡ trap) × (v ≤ u)

more_woken_like : (a b : ℕ) (x y : Woken) → b ≤ a → WokenLike x y → WokenLike (more_woken a x) (more_woken b y)
more_woken_like a b (Wakes R u) (Wakes S v) h l = let le = l.1 in (l.0, omega arith)
more_woken_like a b (Wakes R u) (Stays place trap v) h l = absurd l
more_woken_like a b (Stays place trap u) (Wakes S v) h l = absurd l
more_woken_like a b (Stays place trap u) (Stays place' trap' v) h l = let le = l.2 in (l.0, l.1, omega arith)

with_woken : (v w : Value) (go go' : ℤ → Woken) → NoWorse v w → ((n : ℤ) → WokenLike (go n) (go' n)) →
    WokenLike (woken_with v go) (woken_with w go')
with_woken (Gives n u) (Gives m v) go go' l f =
    more_woken_like u v (go n) (go' m) l.1 (subst (λ x. WokenLike (go n) (go' x)) (sym l.0) (f n))
with_woken (Gives n u) (Raises place trap v) go go' l f = absurd l
with_woken (Raises place trap u) (Gives m v) go go' l f = absurd l
with_woken (Raises place trap u) (Raises place' trap' v) go go' l f = l

inside : (f g : RunningText → RunningText) → ((R S : RunningText) → Like R S → Like (f R) (g S)) → (x y : Woken) → WokenLike x y → WokenLike (woken_in f x) (woken_in g y)
inside f g h (Wakes R u) (Wakes S v) l = (h R S l.0, l.1)
inside f g h (Wakes R u) (Stays place trap v) l = absurd l
inside f g h (Stays place trap u) (Wakes S v) l = absurd l
inside f g h (Stays place trap u) (Stays place' trap' v) l = l

watched_like : (weak : Bool) (e : Expr) (x y : Woken) → WokenLike x y → (n : ℤ) → WokenLike (watched_on weak e n x) (watched_on weak (fold_expr e) n y)
watched_like false e x y l n = pick (is_zero n)
  where
    pick : (z : Bool) → WokenLike (cond z (woken_in (Watch false e) x) (Wakes Done 0)) (cond z (woken_in (Watch false (fold_expr e)) y) (Wakes Done 0))
    pick true = inside (Watch false e) (Watch false (fold_expr e)) (λ R S h. (S, h, refl)) x y l
    pick false = (refl, omega arith)
watched_like true e x y l n = pick (is_zero n)
  where
    pick : (z : Bool) → WokenLike (cond z (woken_in (Watch true e) x) (woken_in Last x)) (cond z (woken_in (Watch true (fold_expr e)) y) (woken_in Last y))
    pick true = inside (Watch true e) (Watch true (fold_expr e)) (λ R S h. (S, h, refl)) x y l
    pick false = inside Last Last (λ R S h. (S, h, refl)) x y l

module _ (k : PlainKernel) (uses : List ℕ) (w : List ℤ) (c : List VarCopy) where
  -- ---- texts that a waking leaves as they are

  mutual
    text_awake : (s : Stmt) → woken k uses w c (text_of s) ≡ Wakes (text_of s) 0
    text_awake Nop = refl
    text_awake (Set to e) = refl
    text_awake (SetAt slot n i e place) = refl
    text_awake (PutAt v n i e place) = refl
    text_awake (Clear slot n) = refl
    text_awake (Seq list) = texts_awake list
    text_awake (If e a b) = refl
    text_awake (While e bound body place) = refl
    text_awake Pause = refl
    text_awake (Par branches) = refl
    text_awake (Enter weak immediate e body) = refl
    text_awake (Return e) = refl

    texts_awake : (list : Stmts) → woken k uses w c (texts_of list) ≡ Wakes (texts_of list) 0
    texts_awake no_stmts = refl
    texts_awake (more_stmts s no_stmts) = text_awake s
    texts_awake (more_stmts s (more_stmts r rest)) = ap (woken_in (λ R. Then R (Go_on (more_stmts r rest)))) (text_awake s)

  quiet_awake : (R : RunningText) → Quiet R → woken k uses w c R ≡ Wakes R 0
  quiet_awake Done q = refl
  quiet_awake (Run s) q = refl
  quiet_awake (Then R (Go_on list)) q = ap (woken_in (λ S. Then S (Go_on list))) (quiet_awake R q.0)
  quiet_awake (Then R (Again loop)) q = absurd q
  quiet_awake (Turning loop) q = refl
  quiet_awake Resting q = absurd q
  quiet_awake (Fork cs) q = absurd q
  quiet_awake (Held cs) q = absurd q
  quiet_awake (Watch weak e R) q = absurd q
  quiet_awake (Last R) q = absurd q

  end_awake : (S : RunningText) → text_ends S ≡ true → woken k uses w c S ≡ Wakes S 0
  end_awake Done h = refl
  end_awake (Run s) h = refl
  end_awake (Then R a) h = cc
  end_awake (Turning loop) h = cc
  end_awake Resting h = cc
  end_awake (Fork cs) h = cc
  end_awake (Held cs) h = cc
  end_awake (Watch weak e R) h = cc
  end_awake (Last R) h = cc

  -- what is before a list wakes, and the list waits
  list_wakes : (S : RunningText) (xs : Stmts) → (y : Woken) → woken k uses w c S ≡ y →
      woken k uses w c (then_list S xs) ≡ woken_in (λ T. then_list T xs) y
  list_wakes S no_stmts (Wakes R u) h = h
  list_wakes S no_stmts (Stays place trap u) h = h
  list_wakes S (more_stmts x rest) y h = ap (woken_in (λ T. Then T (Go_on (more_stmts x rest)))) h

status_like : (x y : Woken) → WokenLike x y → status_of y ≡ status_of x
status_like (Wakes R u) (Wakes S v) l = refl
status_like (Wakes R u) (Stays place trap v) l = absurd l
status_like (Stays place trap u) (Wakes S v) l = absurd l
status_like (Stays place trap u) (Stays place' trap' v) l = ap (λ x. Trapped x trap') l.0 ∙ ap (λ x. Trapped place x) l.1

text_if_like : (R S : RunningText) → Like R S → (x y : Woken) → WokenLike x y → Like (text_if R x) (text_if S y)
text_if_like R S h (Wakes R' u) (Wakes S' v) l = l.0
text_if_like R S h (Wakes R' u) (Stays place trap v) l = absurd l
text_if_like R S h (Stays place trap u) (Wakes S' v) l = absurd l
text_if_like R S h (Stays place trap u) (Stays place' trap' v) l = h

units_like : (x y : Woken) → WokenLike x y → waking_units y ≤ waking_units x
units_like (Wakes R u) (Wakes S v) l = l.1
units_like (Wakes R u) (Stays place trap v) l = absurd l
units_like (Stays place trap u) (Wakes S v) l = absurd l
units_like (Stays place trap u) (Stays place' trap' v) l = l.2

-- what a thread becomes by waking
pub record AwakeLike (R S : RunningText) (x y : Woken) : Type 0 where
  pub text : Like (text_if R x) (text_if S y)
  pub status : status_of y ≡ status_of x
  pub units : waking_units y ≤ waking_units x

pub awake_like : (R S : RunningText) → Like R S → (x y : Woken) → WokenLike x y → AwakeLike R S x y
awake_like R S h x y l = record { text = text_if_like R S h x y l; status = status_like x y l; units = units_like x y l }

module _ (k : PlainKernel) where
  abbrev woken' : List ℕ → List ℤ → List VarCopy → RunningText → Woken
  woken' uses w c S = woken (folded_kernel k) uses w c S

  abbrev ChildrenLike : SteppedChildren → SteppedChildren → Type 0
  ChildrenLike s s' = LikeThreads s.children s'.children × (s'.units ≤ s.units)

  list_like : (uses : List ℕ) (w : List ℤ) (c : List VarCopy) (R S : RunningText) (list : Stmts) → WokenLike (woken k uses w c R) (woken' uses w c S) →
      WokenLike (woken k uses w c (Then R (Go_on list))) (woken' uses w c (then_list S (fold_stmts list)))
  list_like uses w c R S list l =
      subst (λ y. WokenLike (woken k uses w c (Then R (Go_on list))) y) (sym (list_wakes (folded_kernel k) uses w c S (fold_stmts list) (woken' uses w c S) refl))
      (inside (λ T. Then T (Go_on list)) (λ T. then_list T (fold_stmts list)) (λ A B h. going B h refl) (woken k uses w c R) (woken' uses w c S) l)

  gone_child : (t : ℕ) (R : RunningText) (w : List ℤ) (c : List VarCopy) (S : RunningText) → Like R S → (s s' : SteppedChildren) → ChildrenLike s s' →
      ChildrenLike (record { children = child t R w c Gone s.children; units = s.units }) (record { children = child t S w c Gone s'.children; units = s'.units })
  gone_child t R w c S h s s' l = ((S, s'.children, h, l.0, refl), l.1)

  woken_child : (t : ℕ) (R : RunningText) (w : List ℤ) (c : List VarCopy) (S : RunningText) (x y : Woken) → AwakeLike R S x y → (s s' : SteppedChildren) → ChildrenLike s s' →
      ChildrenLike (record { children = child t (text_if R x) w c (status_of x) s.children; units = waking_units x + s.units })
      (record { children = child t (text_if S y) w c (status_of y) s'.children; units = waking_units y + s'.units })
  woken_child t R w c S x y a s s' l =
      let less = a.units in
      let more = l.1 in
      ((text_if S y, s'.children, a.text, l.0, ap (λ st. child t (text_if S y) w c st s'.children) a.status), omega arith)

  mutual
    pub woken_like : (uses : List ℕ) (w : List ℤ) (c : List VarCopy) (R S : RunningText) → Like R S → WokenLike (woken k uses w c R) (woken' uses w c S)
    woken_like uses w c Done S l = subst (λ y. WokenLike (Wakes Done 0) y) (sym (end_awake (folded_kernel k) uses w c S l)) (l, omega arith)
    woken_like uses w c (Run s) S (inl q) = subst (λ y. WokenLike (Wakes (Run s) 0) y) (sym (end_awake (folded_kernel k) uses w c S q.1)) (inl q, omega arith)
    woken_like uses w c (Run s) S (inr e) =
        subst (λ T. WokenLike (Wakes (Run s) 0) (woken' uses w c T)) (sym e)
        (subst (λ y. WokenLike (Wakes (Run s) 0) y) (sym (text_awake (folded_kernel k) uses w c (fold_stmt s))) (inr refl, omega arith))
    woken_like uses w c (Then R (Go_on list)) S (going T l e) =
        subst (λ U. WokenLike (woken k uses w c (Then R (Go_on list))) (woken' uses w c U)) (sym e) (list_like uses w c R T list (woken_like uses w c R T l))
    woken_like uses w c (Then R (Go_on list)) S (skipped q e) =
        subst (λ x. WokenLike x (woken' uses w c S)) (sym (ap (woken_in (λ T. Then T (Go_on list))) (quiet_awake k uses w c R q)))
        (subst (λ T. WokenLike (Wakes (Then R (Go_on list)) 0) (woken' uses w c T)) (sym e)
        (subst (λ y. WokenLike (Wakes (Then R (Go_on list)) 0) y) (sym (texts_awake (folded_kernel k) uses w c (fold_stmts list))) (skipped q refl, omega arith)))
    woken_like uses w c (Then R (Again loop)) S l =
        subst (λ U. WokenLike (woken k uses w c (Then R (Again loop))) (woken' uses w c U)) (sym l.2)
        (inside (λ T. Then T (Again (record loop { left = loop.bound }))) (λ T. Then T (Again (record (fold_loop loop) { left = loop.bound })))
        (λ A B h. (B, h, refl)) (woken k uses w c R) (woken' uses w c l.0) (woken_like uses w c R l.0 l.1))
    woken_like uses w c (Turning loop) S (inl q) =
        subst (λ y. WokenLike (Wakes (Turning loop) 0) y) (sym (end_awake (folded_kernel k) uses w c S q.1)) (inl q, omega arith)
    woken_like uses w c (Turning loop) S (inr e) =
        subst (λ T. WokenLike (Wakes (Turning loop) 0) (woken' uses w c T)) (sym e) (inr refl, omega arith)
    woken_like uses w c Resting S l = subst (λ T. WokenLike (Wakes Done 0) (woken' uses w c T)) (sym l) (refl, omega arith)
    woken_like uses w c (Fork cs) S l =
        subst (λ T. WokenLike (Wakes (Fork cs) 0) (woken' uses w c T)) (sym l.2) ((l.0, l.1, refl), omega arith)
    woken_like uses w c (Held cs) S l =
        subst (λ T. WokenLike (woken k uses w c (Held cs)) (woken' uses w c T)) (sym l.2)
        (held_like (woken_children k uses c cs) (woken_children (folded_kernel k) uses c l.0) (children_like uses c cs l.0 l.1))
      where
        held_like : (s s' : SteppedChildren) → ChildrenLike s s' → WokenLike (Wakes (Fork s.children) s.units) (Wakes (Fork s'.children) s'.units)
        held_like s s' h = ((s'.children, h.0, refl), h.1)
    woken_like uses w c (Watch weak e R) S l =
        subst (λ T. WokenLike (woken k uses w c (Watch weak e R)) (woken' uses w c T)) (sym l.2)
        (with_woken (evaluated (record { kernel = k; uses = uses }) w c e) (evaluated (record { kernel = folded_kernel k; uses = uses }) w c (fold_expr e)) _ _
        (value_like k uses w c e) (λ n. more_woken_like 1 1 _ _ (omega arith)
        (watched_like weak e (woken k uses w c R) (woken' uses w c l.0) (woken_like uses w c R l.0 l.1) n)))
    woken_like uses w c (Last R) S l = subst (λ T. WokenLike (Wakes (Last R) 0) (woken' uses w c T)) (sym l.2) ((l.0, l.1, refl), omega arith)

    children_like : (uses : List ℕ) (c : List VarCopy) (cs ds : Threads) → LikeThreads cs ds →
        ChildrenLike (woken_children k uses c cs) (woken_children (folded_kernel k) uses c ds)
    children_like uses c no_threads ds l =
        subst (λ es. ChildrenLike (woken_children k uses c no_threads) (woken_children (folded_kernel k) uses c es)) (sym l) (refl, omega arith)
    children_like uses c (child t R w c' Gone rest) ds l =
        subst (λ es. ChildrenLike (woken_children k uses c (child t R w c' Gone rest)) (woken_children (folded_kernel k) uses c es)) (sym l.4)
        (gone_child t R w c' l.0 l.2 (woken_children k uses c rest) (woken_children (folded_kernel k) uses c l.1) (children_like uses c rest l.1 l.3))
    children_like uses c (child t R w c' Running rest) ds l =
        subst (λ es. ChildrenLike (woken_children k uses c (child t R w c' Running rest)) (woken_children (folded_kernel k) uses c es)) (sym l.4)
        (let c1 = handed_down uses c (uses_of k t) in
        woken_child t R w c1 l.0 (woken k (uses_of k t) w c1 R) (woken' (uses_of k t) w c1 l.0)
        (awake_like R l.0 l.2 (woken k (uses_of k t) w c1 R) (woken' (uses_of k t) w c1 l.0) (woken_like (uses_of k t) w c1 R l.0 l.2))
        (woken_children k uses c rest) (woken_children (folded_kernel k) uses c l.1) (children_like uses c rest l.1 l.3))
    children_like uses c (child t R w c' Paused rest) ds l =
        subst (λ es. ChildrenLike (woken_children k uses c (child t R w c' Paused rest)) (woken_children (folded_kernel k) uses c es)) (sym l.4)
        (let c1 = handed_down uses c (uses_of k t) in
        woken_child t R w c1 l.0 (woken k (uses_of k t) w c1 R) (woken' (uses_of k t) w c1 l.0)
        (awake_like R l.0 l.2 (woken k (uses_of k t) w c1 R) (woken' (uses_of k t) w c1 l.0) (woken_like (uses_of k t) w c1 R l.0 l.2))
        (woken_children k uses c rest) (woken_children (folded_kernel k) uses c l.1) (children_like uses c rest l.1 l.3))
    children_like uses c (child t R w c' Ended rest) ds l =
        subst (λ es. ChildrenLike (woken_children k uses c (child t R w c' Ended rest)) (woken_children (folded_kernel k) uses c es)) (sym l.4)
        (let c1 = handed_down uses c (uses_of k t) in
        woken_child t R w c1 l.0 (woken k (uses_of k t) w c1 R) (woken' (uses_of k t) w c1 l.0)
        (awake_like R l.0 l.2 (woken k (uses_of k t) w c1 R) (woken' (uses_of k t) w c1 l.0) (woken_like (uses_of k t) w c1 R l.0 l.2))
        (woken_children k uses c rest) (woken_children (folded_kernel k) uses c l.1) (children_like uses c rest l.1 l.3))
    children_like uses c (child t R w c' (Trapped place trap) rest) ds l =
        subst (λ es. ChildrenLike (woken_children k uses c (child t R w c' (Trapped place trap) rest)) (woken_children (folded_kernel k) uses c es)) (sym l.4)
        (let c1 = handed_down uses c (uses_of k t) in
        woken_child t R w c1 l.0 (woken k (uses_of k t) w c1 R) (woken' (uses_of k t) w c1 l.0)
        (awake_like R l.0 l.2 (woken k (uses_of k t) w c1 R) (woken' (uses_of k t) w c1 l.0) (woken_like (uses_of k t) w c1 R l.0 l.2))
        (woken_children k uses c rest) (woken_children (folded_kernel k) uses c l.1) (children_like uses c rest l.1 l.3))
