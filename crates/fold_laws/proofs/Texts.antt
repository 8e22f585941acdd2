-- Running texts of a kernel, and those of the folded kernel that go with them.
use Rattle.std.proofs.Common.{ℕ, zero, suc, ◌≡◌, ◌⊎◌, inl, inr, Bool, true, false, cond, ◌&&◌, ◌∷◌, refl, ap, sym, subst, ◌∙◌}
use Rattle.forec_kernel.specs.Terms.{Stmt, Nop, Set, SetAt, PutAt, Clear, Seq, If, While, Pause, Par, Enter, Return, Stmts, no_stmts, more_stmts}
use Rattle.forec_kernel.specs.Shapes.{PlainKernel}
use Rattle.forec_kernel.specs.Texts.{Loop, Go_on, Again, RunningText, Done, Run, Then, Turning, Resting, Fork, Held, Watch, Last, Threads, no_threads, child, text_of, texts_of, then_list, is_active, is_running, is_over, some_running, all_over, first_running, runs_at, first_some, trap_of, first_trap, ended_are_gone, uses_of, body_of}
use Rattle.forec_kernel.specs.Combining.{Share, contains, shares, count_threads}
use Rattle.forec_kernel.specs.Values.{copy_of}
use Rattle.fold_laws.specs.Folding.{constant_of, fold_expr, is_nop, unless_nop, in_sequence, never_turns, fold_stmt, fold_stmts, folded_kernel}
use Rattle.fold_laws.proofs.Flows.{is_nop_only, body_folded}

abbrev pub fold_loop : Loop → Loop
fold_loop loop =
    record { test = fold_expr loop.test; bound = loop.bound; left = loop.left; body = fold_stmt loop.body; place = loop.place }

-- nothing is left to do: `nop`, or a `return`, which no thread of a well-formed kernel has
abbrev pub stmt_ends : Stmt → Bool
stmt_ends Nop = true
stmt_ends (Return e) = true
stmt_ends _ = false

abbrev pub text_ends : RunningText → Bool
text_ends Done = true
text_ends (Run s) = stmt_ends s
text_ends _ = false

-- all that is left was folded away
abbrev pub Quiet : RunningText → Type 0
Quiet Done = Unit {0}
Quiet (Run s) = fold_stmt s ≡ Nop
Quiet (Then R (Go_on list)) = Quiet R × (fold_stmts list ≡ no_stmts)
Quiet (Then R (Again loop)) = ⊥
Quiet (Turning loop) = never_turns (constant_of (fold_expr loop.test)) ≡ true
Quiet Resting = ⊥
Quiet (Fork cs) = ⊥
Quiet (Held cs) = ⊥
Quiet (Watch weak e R) = ⊥
Quiet (Last R) = ⊥

-- A text before a list: the folded one before the folded list. Where all that is left of the text was folded away, the folded list may have begun.
pub data Follows (Before : Type 0) (L : RunningText → Type 0) (list : Stmts) (R' : RunningText) : Type 0 where
  going : (S : RunningText) → L S → R' ≡ then_list S list → Follows Before L list R'
  skipped : Before → R' ≡ texts_of list → Follows Before L list R'

abbrev mutual
  pub Like : RunningText → RunningText → Type 0
  Like Done R' = text_ends R' ≡ true
  Like (Run s) R' = ((fold_stmt s ≡ Nop) × (text_ends R' ≡ true)) ⊎ (R' ≡ text_of (fold_stmt s))
  Like (Then R (Go_on list)) R' = Follows (Quiet R) (λ S. Like R S) (fold_stmts list) R'
  Like (Then R (Again loop)) R' = (S : RunningText) × Like R S × (R' ≡ Then S (Again (fold_loop loop)))
  Like (Turning loop) R' =
      ((never_turns (constant_of (fold_expr loop.test)) ≡ true) × (text_ends R' ≡ true)) ⊎ (R' ≡ Turning (fold_loop loop))
  Like Resting R' = R' ≡ Resting
  Like (Fork cs) R' = (ds : Threads) × LikeThreads cs ds × (R' ≡ Fork ds)
  Like (Held cs) R' = (ds : Threads) × LikeThreads cs ds × (R' ≡ Held ds)
  Like (Watch weak e R) R' = (S : RunningText) × Like R S × (R' ≡ Watch weak (fold_expr e) S)
  Like (Last R) R' = (S : RunningText) × Like R S × (R' ≡ Last S)

  pub LikeThreads : Threads → Threads → Type 0
  LikeThreads no_threads ds = ds ≡ no_threads
  LikeThreads (child t R w c st rest) ds =
      (S : RunningText) × (es : Threads) × Like R S × LikeThreads rest es × (ds ≡ child t S w c st es)

-- ---- lists without `nop`

pub text_of_sequence : (list : Stmts) → text_of (in_sequence list) ≡ texts_of list
text_of_sequence no_stmts = refl
text_of_sequence (more_stmts s no_stmts) = refl
text_of_sequence (more_stmts s (more_stmts r rest)) = refl

unless_empty : (x : Stmt) (rest : Stmts) → unless_nop x rest ≡ no_stmts → (x ≡ Nop) × (rest ≡ no_stmts)
unless_empty x rest = pick (is_nop x) refl
  where
    pick : (b : Bool) → is_nop x ≡ b → cond b rest (more_stmts x rest) ≡ no_stmts → (x ≡ Nop) × (rest ≡ no_stmts)
    pick true e h = (is_nop_only x e, h)
    pick false e h = cc

abbrev NoNop : Stmts → Type 0
NoNop no_stmts = Unit {0}
NoNop (more_stmts s rest) = (is_nop s ≡ false) × NoNop rest

no_nop : (list : Stmts) → NoNop (fold_stmts list)
no_nop no_stmts = tt
no_nop (more_stmts s rest) = pick (is_nop (fold_stmt s)) refl (no_nop rest)
  where
    pick : (b : Bool) → is_nop (fold_stmt s) ≡ b → NoNop (fold_stmts rest) →
        NoNop (cond b (fold_stmts rest) (more_stmts (fold_stmt s) (fold_stmts rest)))
    pick true e h = h
    pick false e h = (e, h)

both : (b : Bool) → b ≡ true → b ≡ false → ⊥
both true e f = cc
both false e f = cc

sequence_empty : (list : Stmts) → NoNop list → in_sequence list ≡ Nop → list ≡ no_stmts
sequence_empty no_stmts n h = refl
sequence_empty (more_stmts s no_stmts) n h = absurd (both (is_nop s) (ap is_nop h) n.0)
sequence_empty (more_stmts s (more_stmts r rest)) n h = cc

pub sequence_nop : (list : Stmts) → in_sequence (fold_stmts list) ≡ Nop → fold_stmts list ≡ no_stmts
sequence_nop list h = sequence_empty (fold_stmts list) (no_nop list) h

-- ---- what was folded away

mutual
  pub quiet_text : (s : Stmt) → fold_stmt s ≡ Nop → Quiet (text_of s)
  quiet_text Nop h = tt
  quiet_text (Set to e) h = h
  quiet_text (SetAt slot n i e place) h = h
  quiet_text (PutAt v n i e place) h = h
  quiet_text (Clear slot n) h = h
  quiet_text (Seq list) h = quiet_texts list (sequence_nop list h)
  quiet_text (If e a b) h = h
  quiet_text (While e bound body place) h = h
  quiet_text Pause h = h
  quiet_text (Par branches) h = h
  quiet_text (Enter weak immediate e body) h = h
  quiet_text (Return e) h = h

  pub quiet_texts : (list : Stmts) → fold_stmts list ≡ no_stmts → Quiet (texts_of list)
  quiet_texts no_stmts h = tt
  quiet_texts (more_stmts s no_stmts) h = quiet_text s (unless_empty (fold_stmt s) no_stmts h).0
  quiet_texts (more_stmts s (more_stmts r rest)) h =
      let d = unless_empty (fold_stmt s) (fold_stmts (more_stmts r rest)) h in (quiet_text s d.0, d.1)

pub quiet_like : (R S : RunningText) → Quiet R → text_ends S ≡ true → Like R S
quiet_like Done S q e = e
quiet_like (Run s) S q e = inl (q, e)
quiet_like (Then R (Go_on list)) S q e = going S (quiet_like R S q.0 e) (sym (ap (then_list S) q.1))
quiet_like (Then R (Again loop)) S q e = absurd q
quiet_like (Turning loop) S q e = inl (q, e)
quiet_like Resting S q e = absurd q
quiet_like (Fork cs) S q e = absurd q
quiet_like (Held cs) S q e = absurd q
quiet_like (Watch weak b R) S q e = absurd q
quiet_like (Last R) S q e = absurd q

-- ---- a statement and the folded one

one_like : (s x : Stmt) → Like (text_of s) (text_of x) → Like (text_of s) (texts_of (unless_nop x no_stmts))
one_like s x l = pick (is_nop x) refl
  where
    pick : (b : Bool) → is_nop x ≡ b → Like (text_of s) (texts_of (cond b no_stmts (more_stmts x no_stmts)))
    pick true e = subst (λ y. Like (text_of s) (text_of y)) (is_nop_only x e) l
    pick false e = l

first_like : (s : Stmt) (list : Stmts) → Like (text_of s) (text_of (fold_stmt s)) →
    Follows (Quiet (text_of s)) (λ S. Like (text_of s) S) list (texts_of (unless_nop (fold_stmt s) list))
first_like s list l = pick (is_nop (fold_stmt s)) refl
  where
    pick : (b : Bool) → is_nop (fold_stmt s) ≡ b →
        Follows (Quiet (text_of s)) (λ S. Like (text_of s) S) list (texts_of (cond b list (more_stmts (fold_stmt s) list)))
    pick true e = skipped (quiet_text s (is_nop_only (fold_stmt s) e)) refl
    pick false e = going (text_of (fold_stmt s)) l refl

mutual
  pub like_text : (s : Stmt) → Like (text_of s) (text_of (fold_stmt s))
  like_text Nop = refl
  like_text (Set to e) = inr refl
  like_text (SetAt slot n i e place) = inr refl
  like_text (PutAt v n i e place) = inr refl
  like_text (Clear slot n) = inr refl
  like_text (Seq list) = subst (λ S. Like (texts_of list) S) (sym (text_of_sequence (fold_stmts list))) (like_texts list)
  like_text (If e a b) = inr refl
  like_text (While e bound body place) = inr refl
  like_text Pause = inr refl
  like_text (Par branches) = inr refl
  like_text (Enter weak immediate e body) = inr refl
  like_text (Return e) = inr refl

  pub like_texts : (list : Stmts) → Like (texts_of list) (texts_of (fold_stmts list))
  like_texts no_stmts = refl
  like_texts (more_stmts s no_stmts) = one_like s (fold_stmt s) (like_text s)
  like_texts (more_stmts s (more_stmts r rest)) = first_like s (fold_stmts (more_stmts r rest)) (like_text s)

-- the body of a thread
pub like_body : (k : PlainKernel) (t : ℕ) → Like (text_of (body_of k t)) (text_of (body_of (folded_kernel k) t))
like_body k t =
    subst (λ s. Like (text_of (body_of k t)) (text_of s)) (sym (body_folded k.threads t)) (like_text (body_of k t))

-- ---- what a parent reads of its children

pub some_running_like : (cs ds : Threads) → LikeThreads cs ds → some_running ds ≡ some_running cs
some_running_like no_threads ds l = ap some_running l
some_running_like (child t R w c st rest) ds l =
    ap some_running l.4 ∙ ap (cond (is_running st) true) (some_running_like rest l.1 l.3)

pub all_over_like : (cs ds : Threads) → LikeThreads cs ds → all_over ds ≡ all_over cs
all_over_like no_threads ds l = ap all_over l
all_over_like (child t R w c st rest) ds l =
    ap all_over l.4 ∙ ap (λ b. cond (is_over st) b false) (all_over_like rest l.1 l.3)

pub first_running_like : (cs ds : Threads) → LikeThreads cs ds → first_running ds ≡ first_running cs
first_running_like no_threads ds l = ap first_running l
first_running_like (child t R w c st rest) ds l =
    ap first_running l.4 ∙ ap (λ n. cond (is_running st) 0 (suc n)) (first_running_like rest l.1 l.3)

pub runs_at_like : (i : ℕ) (cs ds : Threads) → LikeThreads cs ds → runs_at i ds ≡ runs_at i cs
runs_at_like i no_threads ds l = ap (runs_at i) l
runs_at_like zero (child t R w c st rest) ds l = ap (runs_at zero) l.4
runs_at_like (suc i) (child t R w c st rest) ds l = ap (runs_at (suc i)) l.4 ∙ runs_at_like i rest l.1 l.3

pub first_trap_like : (cs ds : Threads) → LikeThreads cs ds → first_trap ds ≡ first_trap cs
first_trap_like no_threads ds l = ap first_trap l
first_trap_like (child t R w c st rest) ds l =
    ap first_trap l.4 ∙ ap (first_some (trap_of st)) (first_trap_like rest l.1 l.3)

pub count_like : (cs ds : Threads) → LikeThreads cs ds → count_threads ds ≡ count_threads cs
count_like no_threads ds l = ap count_threads l
count_like (child t R w c st rest) ds l = ap count_threads l.4 ∙ ap suc (count_like rest l.1 l.3)

pub gone_like : (cs ds : Threads) → LikeThreads cs ds → LikeThreads (ended_are_gone cs) (ended_are_gone ds)
gone_like no_threads ds l = ap ended_are_gone l
gone_like (child t R w c st rest) ds l =
    (l.0, ended_are_gone l.1, l.2, gone_like rest l.1 l.3, ap ended_are_gone l.4)

pub shares_like : (k : PlainKernel) (v j : ℕ) (cs ds : Threads) → LikeThreads cs ds → shares (folded_kernel k) v j ds ≡ shares k v j cs
shares_like k v j no_threads ds l = ap (shares (folded_kernel k) v j) l
shares_like k v j (child t R w c st rest) ds l =
    let mine : Share = record { from = j; copy = copy_of (uses_of k t) c v } in
    ap (shares (folded_kernel k) v j) l.4
    ∙ ap (λ xs. cond (is_active st && contains v (uses_of k t)) (mine ∷ xs) xs) (shares_like k v (suc j) rest l.1 l.3)
