-- Threads after a step of their focus, and forks after a step of a child.
use Rattle.std.proofs.Common.{◌≡◌, ◌∙◌, ℕ, zero, suc, ◌+◌, ◌-◌, ◌<◌, ◌==◌, ℤ, true, false, cond, Option, Some, None, Result, Ok, Err, List, [], ◌∷◌, refl, ap, sym, subst, arith}
use Rattle.std.proofs.lemmas.Bool.Decides.{nat_tests}
use Rattle.forec_base.specs.declared.Place.{Place}
use Rattle.forec_base.specs.declared.Trap.{Trap}
use Rattle.forec_kernel.specs.declared.terms.Spot.TheVariants as spot
use Rattle.forec_kernel.specs.declared.shape.VarCopy.{VarCopy}
use Rattle.forec_kernel.specs.Shapes.{PlainKernel}
use Rattle.forec_kernel.specs.Texts as plain
use Rattle.forec_kernel.specs.Texts.{RunningText, Fork, Thread, Threads, child_of, some_running, is_running, first_running, uses_of}
use Rattle.forec_kernel.specs.Steps.{Path, Move, Finished, Halts, Moves, Traps, thread_after, move_units, text_move, child_move, SteppedChildren, path_below, child_place, thread_move}
use Rattle.forec_kernel.proofs.Commute.{fork_step}
use Rattle.running_texts.specs.declared.meter.Halt.{Halt}
use Rattle.running_texts.specs.declared.meter.Halt.TheVariants.{Trapped, Over, OutOfMemory}
use Rattle.running_threads.specs.declared.threads.Frame.{Frame}
use Rattle.running_threads.specs.declared.threads.Frame.TheVariants as frame
use Rattle.running_threads.specs.Views.{plugged}
use Rattle.running_threads.specs.Moves.{framed_move, plugged_move}
use Rattle.running_threads.proofs.Plugs.{move_plugged, plugged_goes, plugged_traps}
use Rattle.running_steps.specs.declared.moving.Step.{Step}
use Rattle.running_steps.specs.declared.moving.Step.TheVariants as step
use Rattle.running_steps.specs.Moving.{Origin, leads, IsMoved, IsThread, after_move, AreStepped, IsChildStep, place_or_first, place_behind, first_is_here}

-- ---- units

framed_units : (f : Frame) (w : List ℤ) (c : List VarCopy) (m : Move) → move_units (framed_move f w c m) ≡ move_units m
framed_units (frame.Rest list) w c Finished = refl
framed_units (frame.Rest list) w c Halts = refl
framed_units (frame.Rest list) w c (Moves R w' c' u) = refl
framed_units (frame.Rest list) w c (Traps place trap u) = refl
framed_units (frame.Again turn) w c Finished = refl
framed_units (frame.Again turn) w c Halts = refl
framed_units (frame.Again turn) w c (Moves R w' c' u) = refl
framed_units (frame.Again turn) w c (Traps place trap u) = refl
framed_units (frame.Watch weak e) w c Finished = refl
framed_units (frame.Watch weak e) w c Halts = refl
framed_units (frame.Watch weak e) w c (Moves R w' c' u) = refl
framed_units (frame.Watch weak e) w c (Traps place trap u) = refl
framed_units frame.Last w c Finished = refl
framed_units frame.Last w c Halts = refl
framed_units frame.Last w c (Moves R w' c' u) = refl
framed_units frame.Last w c (Traps place trap u) = refl

plugged_units : (fs : List Frame) (w : List ℤ) (c : List VarCopy) (m : Move) → move_units (plugged_move fs w c m) ≡ move_units m
plugged_units [] w c m = refl
plugged_units (f ∷ fs) w c m = framed_units f w c (plugged_move fs w c m) ∙ plugged_units fs w c m

-- what a move of the focus leaves is what the thread's leaves
plugged_left : (old new : ℕ) (fs : List Frame) (w : List ℤ) (c : List VarCopy) (m : Move) (u : ℕ) → move_units m ≡ u → new + u ≡ old →
    new + move_units (plugged_move fs w c m) ≡ old
plugged_left old new fs w c m u v l = let p = plugged_units fs w c m in omega (arith, p, v, l)

-- ---- a thread after a step of its focus

pub after_ok : {A : Type 0} (s : Origin) (a : Step) (old new : ℕ) (m : Move) (t now : Thread) (fs : List Frame) (x : A) → IsMoved s old new (Ok a) m →
    ((u : ℕ) → now ≡ thread_after t (plugged_move fs s.words s.copies (leads s a u))) →
    IsThread old new now (Ok x) (after_move t (plugged_move fs s.words s.copies m))
after_ok s a old new m t now fs x h e =
    record {
      by = (
        e h.by.units ∙ ap (λ n. thread_after t (plugged_move fs s.words s.copies n)) (sym h.by.is),
        plugged_left old new fs s.words s.copies m (move_units m) refl h.by.left,
      );
    }

pub after_goes : (t now : Thread) (fs : List Frame) (w w' : List ℤ) (c c' : List VarCopy) (R : RunningText) (u : ℕ) →
    now ≡ record t { text = plugged fs R; words = w'; copies = c' } → now ≡ thread_after t (plugged_move fs w c (Moves R w' c' u))
after_goes t now fs w w' c c' R u e = e ∙ ap (thread_after t) (sym (plugged_goes fs w w' c c' R u))

pub after_trap : {A : Type 0} (s : Origin) (old new : ℕ) (m : Move) (t now : Thread) (fs : List Frame) (x : A) (place : Place) (trap : Trap) →
    IsMoved s old new (Err (Trapped place trap)) m → now ≡ record t { status = plain.Trapped place trap } →
    IsThread old new now (Ok x) (after_move t (plugged_move fs s.words s.copies m))
after_trap s old new m t now fs x place trap h e =
    record {
      by = (
        e ∙ ap (thread_after t) (sym (plugged_traps fs s.words s.copies place trap h.by.units))
            ∙ ap (λ n. thread_after t (plugged_move fs s.words s.copies n)) (sym h.by.is),
        plugged_left old new fs s.words s.copies m h.by.units (ap move_units h.by.is) h.by.left,
      );
    }

pub after_err : {A : Type 0} (s : Origin) (old new : ℕ) (h : Halt) (m : Move) (t now : Thread) (fs : List Frame) →
    ((place : Place) (trap : Trap) → h ≡ Trapped place trap → ⊥) → IsMoved s old new (Err h) m →
    IsThread {A = A} old new now (Err h) (after_move t (plugged_move fs s.words s.copies m))
after_err s old new (Trapped place trap) m t now fs out h = absurd (out place trap refl)
after_err s old new Over m t now fs out h = let u = plugged_units fs s.words s.copies m in let l = h.by in record { by = omega arith }
after_err s old new OutOfMemory m t now fs out h = record { by = tt }

-- ---- a thread

-- a step of the focus, as a step of the thread's text
pub quiet_step : {A : Type 0} (k : PlainKernel) (path : Path) (old new : ℕ) (t now : Thread) (fs : List Frame) (R : RunningText) (r : Result A Halt) →
    t.text ≡ plugged fs R →
    IsThread old new now r (after_move t (plugged_move fs t.words t.copies (text_move k path (uses_of k t.number) t.words t.copies R))) →
    IsThread old new now r (after_move t (thread_move k path t))
quiet_step k path old new t now fs R r e h =
    subst (λ m. IsThread old new now r (after_move t m))
    (sym (ap (text_move k path (uses_of k t.number) t.words t.copies) e ∙ move_plugged k path (uses_of k t.number) t.words t.copies fs R)) h

forked_by : {A : Type 0} (old new : ℕ) (t now : Thread) (fs : List Frame) (R' : RunningText) (r : Result A Halt) (inner : Move) →
    now ≡ record t { text = plugged fs R' } → IsChildStep old new t.words t.copies R' r inner →
    IsThread old new now r (after_move t (plugged_move fs t.words t.copies inner))
forked_by old new t now fs R' (Ok x) inner same h =
    record {
      by = (
        after_goes t now fs t.words t.words t.copies t.copies R' h.by.units same
            ∙ ap (λ n. thread_after t (plugged_move fs t.words t.copies n)) (sym h.by.is),
        plugged_left old new fs t.words t.copies inner h.by.units (ap move_units h.by.is) h.by.left,
      );
    }
forked_by old new t now fs R' (Err (Trapped place trap)) inner same h = record { by = h.by }
forked_by old new t now fs R' (Err Over) inner same h =
    let u = plugged_units fs t.words t.copies inner in let l = h.by in record { by = omega arith }
forked_by old new t now fs R' (Err OutOfMemory) inner same h = record { by = tt }

pub forked_step : {A : Type 0} (k : PlainKernel) (path : Path) (old new : ℕ) (t now : Thread) (fs : List Frame) (R R' : RunningText) (r : Result A Halt) →
    t.text ≡ plugged fs R → now ≡ record t { text = plugged fs R' } →
    IsChildStep old new t.words t.copies R' r (text_move k path (uses_of k t.number) t.words t.copies R) →
    IsThread old new now r (after_move t (thread_move k path t))
forked_step k path old new t now fs R R' r e same h =
    quiet_step k path old new t now fs R r e (forked_by old new t now fs R' r (text_move k path (uses_of k t.number) t.words t.copies R) same h)

-- ---- a fork

pub fork_goes : {A : Type 0} (k : PlainKernel) (path below : Path) (place : ℕ) (uses : List ℕ) (w : List ℤ) (c : List VarCopy) (cs now : Threads)
    (old new : ℕ) (r : Result A Halt) → some_running cs ≡ true → below ≡ path_below path cs → place ≡ child_place path cs →
    AreStepped old new now r (child_move k below place cs) → IsChildStep old new w c (Fork now) r (text_move k path uses w c (Fork cs))
fork_goes k path below place uses w c cs now old new r some b p s =
    subst (IsChildStep old new w c (Fork now) r) (sym (fork_step k path uses w c cs place below (child_move k below place cs) some (sym p) (sym b) refl))
    (at r (child_move k below place cs) s)
  where
    at : {A : Type 0} (r : Result A Halt) (s : SteppedChildren) → AreStepped old new now r s → IsChildStep old new w c (Fork now) r (Moves (Fork s.children) w c s.units)
    at (Ok x) s h = record { by = record { units = s.units; is = ap (λ l. Moves (Fork l) w c s.units) (sym h.by.0); left = h.by.1 } }
    at (Err (Trapped place trap)) s h = record { by = h.by }
    at (Err Over) s h = record { by = h.by }
    at (Err OutOfMemory) s h = record { by = tt }

-- ---- children

here_zero : (at : Option ℕ) (t : Thread) (rest : Threads) → first_is_here at (child_of t rest) ≡ true → place_or_first at (child_of t rest) ≡ 0
here_zero None t rest e = ap (λ b. cond b 0 (suc (first_running rest))) e
here_zero (Some i) t rest e = grind (arith, nat_tests)

here_behind : (at : Option ℕ) (t : Thread) (rest : Threads) → first_is_here at (child_of t rest) ≡ false →
    place_or_first at (child_of t rest) ≡ suc (place_or_first (place_behind at) rest)
here_behind None t rest e = ap (λ b. cond b 0 (suc (first_running rest))) e
here_behind (Some zero) t rest e = let z : (zero == 0) ≡ true = refl in cc
here_behind (Some (suc i)) t rest e = omega arith

pub first_steps : {A : Type 0} (k : PlainKernel) (path : Path) (at : Option ℕ) (old new : ℕ) (t now : Thread) (rest : Threads) (r : Result A Halt) →
    first_is_here at (child_of t rest) ≡ true → IsThread old new now r (after_move t (thread_move k path t)) →
    AreStepped old new (child_of now rest) r (child_move k path (place_or_first at (child_of t rest)) (child_of t rest))
first_steps k path at old new t now rest r e h =
    subst (λ i. AreStepped old new (child_of now rest) r (child_move k path i (child_of t rest))) (sym (here_zero at t rest e)) (by_case r h)
  where
    by_case : {A : Type 0} (r : Result A Halt) → IsThread old new now r (after_move t (thread_move k path t)) →
        AreStepped old new (child_of now rest) r (child_move k path 0 (child_of t rest))
    by_case (Ok x) h = record { by = (ap (λ n. child_of n rest) h.by.0, h.by.1) }
    by_case (Err (Trapped place trap)) h = record { by = h.by }
    by_case (Err Over) h = record { by = h.by }
    by_case (Err OutOfMemory) h = record { by = tt }

pub others_step : {A : Type 0} (k : PlainKernel) (path : Path) (at : Option ℕ) (old new : ℕ) (t : Thread) (rest now : Threads) (r : Result A Halt) →
    first_is_here at (child_of t rest) ≡ false → AreStepped old new now r (child_move k path (place_or_first (place_behind at) rest) rest) →
    AreStepped old new (child_of t now) r (child_move k path (place_or_first at (child_of t rest)) (child_of t rest))
others_step k path at old new t rest now r e h =
    subst (λ i. AreStepped old new (child_of t now) r (child_move k path i (child_of t rest))) (sym (here_behind at t rest e)) (by_case r h)
  where
    by_case : {A : Type 0} (r : Result A Halt) → AreStepped old new now r (child_move k path (place_or_first (place_behind at) rest) rest) →
        AreStepped old new (child_of t now) r (child_move k path (suc (place_or_first (place_behind at) rest)) (child_of t rest))
    by_case (Ok x) h = record { by = (ap (child_of t) h.by.0, h.by.1) }
    by_case (Err (Trapped place trap)) h = record { by = h.by }
    by_case (Err Over) h = record { by = h.by }
    by_case (Err OutOfMemory) h = record { by = tt }

-- ---- a focus

pub after_write : {A : Type 0} (s : Origin) (a : Step) (old new : ℕ) (m : Move) (t now : Thread) (fs : List Frame) (w' : List ℤ) (c' : List VarCopy) (R : RunningText) (x : A) →
    IsMoved s old new (Ok a) m → ((u : ℕ) → leads s a u ≡ Moves R w' c' u) → now ≡ record t { text = plugged fs R; words = w'; copies = c' } →
    IsThread old new now (Ok x) (after_move t (plugged_move fs s.words s.copies m))
after_write s a old new m t now fs w' c' R x h e same =
    after_ok s a old new m t now fs x h
    (λ u. after_goes t now fs s.words w' s.copies c' R u same ∙ ap (λ n. thread_after t (plugged_move fs s.words s.copies n)) (sym (e u)))
