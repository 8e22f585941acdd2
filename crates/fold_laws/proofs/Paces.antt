-- A paced kernel stays paced: where the folded body of a loop came to its end in the tick of its start, so would the body.
use Rattle.std.proofs.Common.{ℕ, zero, suc, ◌<◌, inl, inr, ℤ, Bool, true, false, cond, Option, Some, None, List, sym, subst, arith}
use Rattle.std.proofs.lemmas.List.{length-map}
use Rattle.forec_kernel.specs.declared.shape.VarCopy.{VarCopy}
use Rattle.forec_base.specs.Numbers.{is_zero}
use Rattle.forec_kernel.specs.Terms.{Stmt, Nop, Set, SetAt, PutAt, Clear, Seq, If, While, Pause, Par, Enter, Return, Stmts, no_stmts, more_stmts}
use Rattle.forec_kernel.specs.Shapes.{PlainKernel}
use Rattle.forec_kernel.specs.Texts.{RunningText, text_of, uses_of, words_of, body_of}
use Rattle.forec_kernel.specs.Steps.{Move, Finished, Halts, Moves, Traps, Path, text_move}
use Rattle.forec_kernel.specs.WellFormed.{function_body}
use Rattle.bound_laws.specs.Paced.{NotEnded, KeepsOn, NeverEnds, PacedLoop, PacedStmt, PacedStmts, Bounded, AllBounded, Paced}
use Rattle.fold_laws.specs.Folding.{constant_of, chosen_stmt, fold_expr, is_nop, in_sequence, never_turns, fold_stmt, fold_stmts, folded_kernel}
use Rattle.fold_laws.proofs.Flows.{body_folded}
use Rattle.fold_laws.proofs.Texts.{Like, like_text}
use Rattle.fold_laws.proofs.Rests.{text_rest}
use Rattle.fold_laws.proofs.Moves.{StepLike}
use Rattle.fold_laws.proofs.Stepping.{step_like}

module _ (k : PlainKernel) (uses : List ℕ) where
  abbrev Always : RunningText → List ℤ → List VarCopy → Type 0
  Always R w c = (n : ℕ) → KeepsOn k uses n R w c

  abbrev AlwaysAfter : Move → Type 0
  AlwaysAfter m = (n : ℕ) → NotEnded (KeepsOn k uses n) m

  abbrev Keeps' : ℕ → RunningText → List ℤ → List VarCopy → Type 0
  Keeps' m S w c = KeepsOn (folded_kernel k) uses m S w c

  module _ (m : ℕ) (ih : (R S : RunningText) (w : List ℤ) (c : List VarCopy) → Like R S → Always R w c → Keeps' m S w c) (path : Path) (S : RunningText) (w : List ℤ) (c : List VarCopy) where
    -- what the folded text's step comes to
    abbrev Next : Type 0
    Next = NotEnded (Keeps' m) (text_move (folded_kernel k) path uses w c S)

    after_step : (n : ℕ) (x y : Move) → StepLike n w c S x y → AlwaysAfter x →
        ((R : RunningText) → text_rest R < n → Like R S → Always R w c → NotEnded (Keeps' m) y) → NotEnded (Keeps' m) y
    after_step n Finished y (inl l) h more = absurd l
    after_step n Halts y (inl l) h more = absurd l
    after_step n (Moves R w1 c1 u) y (inl l) h more =
        more R l.3 l.0 (λ i. subst (λ ws. KeepsOn k uses i R ws c) l.1 (subst (λ cs. KeepsOn k uses i R w1 cs) l.2 (h i)))
    after_step n (Traps place trap u) y (inl l) h more = absurd l
    after_step n Finished Finished (inr l) h more = h 0
    after_step n Halts Halts (inr l) h more = tt
    after_step n (Moves R w1 c1 u) (Moves S1 w2 c2 v) (inr l) h more =
        subst (λ ws. Keeps' m S1 ws c2) (sym l.1) (subst (λ cs. Keeps' m S1 w1 cs) (sym l.2) (ih R S1 w1 c1 l.0 h))
    after_step n (Traps place trap u) (Traps place' trap' v) (inr l) h more = tt
    after_step n _ _ (inr l) h more = absurd l

    -- the text goes on until the folded one steps
    catch_up : (b : ℕ) (R : RunningText) → text_rest R < b → Like R S → Always R w c → Next
    catch_up zero R less l h = absurd (omega arith)
    catch_up (suc b) R less l h =
        after_step (text_rest R) (text_move k path uses w c R) (text_move (folded_kernel k) path uses w c S) (step_like k path uses w c R S l)
        (λ n. h (suc n) path) (λ R1 fewer l1 h1. catch_up b R1 (omega arith) l1 h1)

  keeps_like : (m : ℕ) (R S : RunningText) (w : List ℤ) (c : List VarCopy) → Like R S → Always R w c → Keeps' m S w c
  keeps_like zero R S w c l h = tt
  keeps_like (suc m) R S w c l h =
      λ path. catch_up m (λ R1 S1 w1 c1 l1 h1. keeps_like m R1 S1 w1 c1 l1 h1) path S w c (suc (text_rest R)) R (omega arith) l h

  never_like : (size : ℕ) (s : Stmt) → NeverEnds k size uses s → NeverEnds (folded_kernel k) size uses (fold_stmt s)
  never_like size s h m words copies e =
      keeps_like m (text_of s) (text_of (fold_stmt s)) words copies (like_text s) (λ n. h n words copies e)

  -- ---- statements

  module _ (size : ℕ) where
    abbrev P : Stmt → Type 0
    P s = PacedStmt (folded_kernel k) size uses s

    loop_paced : (bound : Option ℕ) (s : Stmt) → PacedLoop k size uses bound s → PacedLoop (folded_kernel k) size uses bound (fold_stmt s)
    loop_paced (Some n) s h = tt
    loop_paced None s h = never_like size s h

    either_paced : (b : Bool) (s r : Stmt) → P s → P r → P (cond b s r)
    either_paced true s r h g = h
    either_paced false s r h g = g

    chosen_paced : (o : Option ℤ) (a b other : Stmt) → P a → P b → P other → P (chosen_stmt o a b other)
    chosen_paced (Some x) a b other h g i = either_paced (is_zero x) b a g h
    chosen_paced None a b other h g i = i

    sequence_paced : (list : Stmts) → PacedStmts (folded_kernel k) size uses list → P (in_sequence list)
    sequence_paced no_stmts h = tt
    sequence_paced (more_stmts s no_stmts) h = h.0
    sequence_paced (more_stmts s (more_stmts r rest)) h = h

    unless_paced : (b : Bool) (s : Stmt) (rest : Stmts) → P s → PacedStmts (folded_kernel k) size uses rest →
        PacedStmts (folded_kernel k) size uses (cond b rest (more_stmts s rest))
    unless_paced true s rest h g = g
    unless_paced false s rest h g = (h, g)

    mutual
      stmt_paced : (s : Stmt) → PacedStmt k size uses s → P (fold_stmt s)
      stmt_paced Nop h = tt
      stmt_paced (Set to e) h = tt
      stmt_paced (SetAt slot n i e place) h = tt
      stmt_paced (PutAt v n i e place) h = tt
      stmt_paced (Clear slot n) h = tt
      stmt_paced (Seq list) h = sequence_paced (fold_stmts list) (stmts_paced list h)
      stmt_paced (If e a b) h =
          chosen_paced (constant_of (fold_expr e)) (fold_stmt a) (fold_stmt b) (If (fold_expr e) (fold_stmt a) (fold_stmt b))
          (stmt_paced a h.0) (stmt_paced b h.1) (stmt_paced a h.0, stmt_paced b h.1)
      stmt_paced (While e bound body place) h =
          either_paced (never_turns (constant_of (fold_expr e))) Nop (While (fold_expr e) bound (fold_stmt body) place) tt
          (loop_paced bound body h.0, stmt_paced body h.1)
      stmt_paced Pause h = tt
      stmt_paced (Par branches) h = tt
      stmt_paced (Enter weak immediate e body) h = stmt_paced body h
      stmt_paced (Return e) h = tt

      stmts_paced : (list : Stmts) → PacedStmts k size uses list → PacedStmts (folded_kernel k) size uses (fold_stmts list)
      stmts_paced no_stmts h = tt
      stmts_paced (more_stmts s rest) h = unless_paced (is_nop (fold_stmt s)) (fold_stmt s) (fold_stmts rest) (stmt_paced s h.0) (stmts_paced rest h.1)

-- ---- int functions

either_bounded : (b : Bool) (s r : Stmt) → Bounded s → Bounded r → Bounded (cond b s r)
either_bounded true s r h g = h
either_bounded false s r h g = g

chosen_bounded : (o : Option ℤ) (a b other : Stmt) → Bounded a → Bounded b → Bounded other → Bounded (chosen_stmt o a b other)
chosen_bounded (Some x) a b other h g i = either_bounded (is_zero x) b a g h
chosen_bounded None a b other h g i = i

sequence_bounded : (list : Stmts) → AllBounded list → Bounded (in_sequence list)
sequence_bounded no_stmts h = tt
sequence_bounded (more_stmts s no_stmts) h = h.0
sequence_bounded (more_stmts s (more_stmts r rest)) h = h

unless_bounded : (b : Bool) (s : Stmt) (rest : Stmts) → Bounded s → AllBounded rest → AllBounded (cond b rest (more_stmts s rest))
unless_bounded true s rest h g = g
unless_bounded false s rest h g = (h, g)

mutual
  stmt_bounded : (s : Stmt) → Bounded s → Bounded (fold_stmt s)
  stmt_bounded Nop h = tt
  stmt_bounded (Set to e) h = tt
  stmt_bounded (SetAt slot n i e place) h = tt
  stmt_bounded (PutAt v n i e place) h = tt
  stmt_bounded (Clear slot n) h = tt
  stmt_bounded (Seq list) h = sequence_bounded (fold_stmts list) (stmts_bounded list h)
  stmt_bounded (If e a b) h =
      chosen_bounded (constant_of (fold_expr e)) (fold_stmt a) (fold_stmt b) (If (fold_expr e) (fold_stmt a) (fold_stmt b))
      (stmt_bounded a h.0) (stmt_bounded b h.1) (stmt_bounded a h.0, stmt_bounded b h.1)
  stmt_bounded (While e bound body place) h =
      either_bounded (never_turns (constant_of (fold_expr e))) Nop (While (fold_expr e) bound (fold_stmt body) place) tt (h.0, stmt_bounded body h.1)
  stmt_bounded Pause h = tt
  stmt_bounded (Par branches) h = tt
  stmt_bounded (Enter weak immediate e body) h = stmt_bounded body h
  stmt_bounded (Return e) h = tt

  stmts_bounded : (list : Stmts) → AllBounded list → AllBounded (fold_stmts list)
  stmts_bounded no_stmts h = tt
  stmts_bounded (more_stmts s rest) h = unless_bounded (is_nop (fold_stmt s)) (fold_stmt s) (fold_stmts rest) (stmt_bounded s h.0) (stmts_bounded rest h.1)

-- ---- the kernel

pub folded_paced : (k : PlainKernel) → Paced k → Paced (folded_kernel k)
folded_paced k p =
    record {
      threads = λ t h.
          subst (λ s. PacedStmt (folded_kernel k) (words_of k t) (uses_of k t) s) (sym (body_folded k.threads t))
          (stmt_paced k (uses_of k t) (words_of k t) (body_of k t) (p.threads t (subst (λ n. t < n) (length-map k.threads fold_stmt) h)));
      functions = λ f h.
          subst Bounded (sym (body_folded k.functions f))
          (stmt_bounded (function_body k f) (p.functions f (subst (λ n. f < n) (length-map k.functions fold_stmt) h)));
    }
