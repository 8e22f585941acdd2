-- A kernel that is paced, and a body that is only with its thread's words.
use Rattle.std.proofs.Common.{ℕ, zero, suc, ◌<◌, ◌≡◌, ℤ, pos, false, Some, None, List, [], ◌∷◌, length, slice_set, int_lt, refl, subst, arith}
use Rattle.forec_kernel.specs.declared.shape.VarCopy.{VarCopy}
use Rattle.forec_base.specs.Numbers.{truth, is_zero}
use Rattle.forec_base.specs.declared.operators.Binary.TheVariants as binary
use Rattle.forec_kernel.specs.declared.terms.Spot.TheVariants as spot
use Rattle.forec_kernel.specs.Terms.{Num, Local, Bin, Stmt, Set, While, Pause, no_stmts, more_stmts}
use Rattle.forec_kernel.specs.Values.{Gives}
use Rattle.forec_kernel.specs.Texts.{text_of, uses_of, words_of, body_of}
use Rattle.forec_kernel.specs.Steps.{evaluated}
use Rattle.forec_kernel.specs.WellFormed.{function_body}
use Rattle.forec_kernel.proofs.Worked.{at, counter, two, plus_number}
use Rattle.bound_laws.specs.Paced.{Bounded, KeepsOn, NeverEnds, Paced, PacedStmt}
use Rattle.bound_laws.proofs.Never.{Holds, pause_never, first_never, rest_never, counted_never}

-- ---- paced kernels

counter_is_paced : Paced counter
counter_is_paced = record { threads = each; functions = none }
  where
    each : (t : ℕ) → t < 1 → PacedStmt counter (words_of counter t) (uses_of counter t) (body_of counter t)
    each zero h =
        let uses = 0 ∷ [] in
        let pauses : NeverEnds counter 0 uses (two (plus_number 0 (pos 1)) Pause) =
        rest_never counter 0 uses (plus_number 0 (pos 1)) (more_stmts Pause no_stmts)
        (first_never counter 0 uses Pause no_stmts (pause_never counter 0 uses)) in
        (pauses, (tt, (tt, tt)))
    each (suc t) h = absurd (omega arith)

    none : (f : ℕ) → f < 0 → Bounded (function_body counter f)
    none f h = absurd (omega arith)

-- while (1) { for (int i = 5; i > 3; i = i - 1) pause; } needs that the thread has its word: the for pauses where it is there
abbrev down : Stmt
down =
    two (Set (spot.Local 0) (Num (pos 5)))
    (While (Bin binary.Gt (Local 0) (Num (pos 3)) None) (Some 2)
    (two Pause (Set (spot.Local 0) (Bin binary.Sub (Local 0) (Num (pos 1)) None))) at)

down_never : NeverEnds counter 1 [] down
down_never =
    counted_never counter 1 [] 0 (Num (pos 5)) (Bin binary.Gt (Local 0) (Num (pos 3)) None) (Some 2)
    (two Pause (Set (spot.Local 0) (Bin binary.Sub (Local 0) (Num (pos 1)) None))) at holds
    (first_never counter 1 [] Pause (more_stmts (Set (spot.Local 0) (Bin binary.Sub (Local 0) (Num (pos 1)) None)) no_stmts)
    (pause_never counter 1 []))
  where
    holds : (w : List ℤ) (c : List VarCopy) (n : ℤ) (u : ℕ) → length w ≡ 1 →
        evaluated (record { kernel = counter; uses = [] }) w c (Num (pos 5)) ≡ Gives n u →
        Holds (evaluated (record { kernel = counter; uses = [] }) (slice_set w 0 n) c (Bin binary.Gt (Local 0) (Num (pos 3)) None))
    holds [] c n u z e = cc
    holds (x ∷ rest) c n u z e = let is : pos 5 ≡ n = cc in subst (λ i. is_zero (truth (int_lt (pos 3) i)) ≡ false) is refl

-- with no word at all it would end in the tick of its start
down_ends_without_words : KeepsOn counter [] 5 (text_of down) [] [] → ⊥
down_ends_without_words h = h [] [] [] [] []
