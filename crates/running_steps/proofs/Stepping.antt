-- Steps after tests and arguments, under one allowance.
use Rattle.std.proofs.Common.{◌≡◌, ◌∙◌, ℕ, ◌+◌, ◌≤◌, ◌<◌, ℤ, Option, Some, None, Result, Ok, Err, List, map, refl, ap, sym, subst, arith, Vec, Global}
use Rattle.forec_base.specs.declared.Place.{Place}
use Rattle.forec_base.specs.declared.Trap.{Trap}
use Rattle.forec_kernel.specs.declared.shape.VarCopy.{VarCopy}
use Rattle.forec_kernel.specs.declared.terms.Spot.{Spot}
use Rattle.forec_kernel.specs.declared.terms.Spot.TheVariants as spot
use Rattle.forec_kernel.specs.Shapes.{PlainKernel}
use Rattle.forec_kernel.specs.Values.{Value, Gives, Raises}
use Rattle.forec_kernel.specs.Texts as plain
use Rattle.forec_kernel.specs.Steps.{Move, Finished, Halts, Moves, Traps, more_move, move_with, move_units, Arguments, Ready, Refused, Owner, forked, started, assigned, assigned_at, shared_at}
use Rattle.forec_kernel.specs.Terms.{Branch}
use Rattle.running_texts.specs.declared.meter.Halt.{Halt}
use Rattle.running_texts.specs.declared.meter.Halt.TheVariants.{Trapped, Over, OutOfMemory}
use Rattle.running_texts.specs.Metered.{IsMetered, value_kind, value_units}
use Rattle.running_texts.proofs.MeteredLemmas.{tested_gives}
use Rattle.running_texts.proofs.Tests.{AfterTest}
use Rattle.running_threads.specs.declared.frames.NextText.{NextText}
use Rattle.running_threads.specs.Moves.{next_text}
use Rattle.running_steps.specs.declared.moving.Step.{Step}
use Rattle.running_steps.specs.declared.moving.Step.TheVariants as step
use Rattle.running_steps.specs.Moving.{Origin, leads, IsMoved, lists}

module _ (s : Origin) where
  -- a step of these units, whatever they are
  pub went : (old new u : ℕ) (next : NextText) → new + u ≡ old → IsMoved s old new (Ok (step.Becomes next)) (Moves (next_text next) s.words s.copies u)
  went old new u next e = record { by = record { units = u; is = refl; left = e } }

  pub step_tested : (old mid : ℕ) (n : ℤ) (v : Value) (go : ℤ → Move) (next : NextText) →
      AfterTest old mid (Ok n) v → go n ≡ Moves (next_text next) s.words s.copies 1 → IsMoved s old mid (Ok (step.Becomes next)) (move_with v go)
  step_tested old mid n v go next t e =
      let given = tested_gives old mid n v t in
      let l = given.left in
      subst (λ m. IsMoved s old mid (Ok (step.Becomes next)) m) (sym (ap (λ x. move_with x go) given.is ∙ ap (more_move given.units) e))
      (went old mid (given.units + 1) next (omega arith))

  pub step_trapped : (old mid : ℕ) (n : ℤ) (v : Value) (go : ℤ → Move) (place : Place) (trap : Trap) →
      AfterTest old mid (Ok n) v → go n ≡ Traps place trap 1 → IsMoved s old mid (Err (Trapped place trap)) (move_with v go)
  step_trapped old mid n v go place trap t e =
      let given = tested_gives old mid n v t in
      record {
        by = record {
          units = given.units + 1;
          is = ap (λ x. move_with x go) given.is ∙ ap (more_move given.units) e;
          left = let l = given.left in omega arith;
        };
      }

  units_more : (u : ℕ) (m : Move) → 1 ≤ move_units m → move_units (more_move u m) ≡ u + move_units m
  units_more u Finished h = absurd (omega arith)
  units_more u Halts h = absurd (omega arith)
  units_more u (Moves R words copies w) h = refl
  units_more u (Traps place trap w) h = refl

  pub step_failed : (old new : ℕ) (h : Halt) (v : Value) (go : ℤ → Move) → ((x : ℤ) → 1 ≤ move_units (go x)) →
      AfterTest old new (Err h) v → IsMoved s old new (Err h) (move_with v go)
  step_failed old new (Trapped place trap) (Gives n u) go least t = let e : Gives n (u + 1) ≡ Raises place trap t.by.units = t.by.is in absurd (cc)
  step_failed old new (Trapped place trap) (Raises p q u) go least t =
      let e : Raises p q u ≡ Raises place trap t.by.units = t.by.is in
      record { by = record { units = t.by.units; is = ap (λ x. move_with x go) e; left = t.by.left } }
  step_failed old new Over (Gives n u) go least t =
      let h : old < u + 1 = t.by in record { by = omega (arith, units_more u (go n) (least n), least n) }
  step_failed old new Over (Raises p q u) go least t = record { by = t.by }
  step_failed old new OutOfMemory v go least t = record { by = tt }

-- ---- an operand before the one that decides

-- where a move is neither done nor halted, units may be added to it
abbrev pub HasUnits : Move → Type 0
HasUnits Finished = ⊥
HasUnits Halts = ⊥
HasUnits (Moves R words copies u) = Unit {0}
HasUnits (Traps place trap u) = Unit {0}

pub more_has_units : (u : ℕ) (m : Move) → HasUnits m → HasUnits (more_move u m)
more_has_units u Finished g = g
more_has_units u Halts g = g
more_has_units u (Moves R words copies w) g = tt
more_has_units u (Traps place trap w) g = tt

pub with_has_units : (v : Value) (go : ℤ → Move) → ((x : ℤ) → HasUnits (go x)) → HasUnits (move_with v go)
with_has_units (Gives n u) go h = more_has_units u (go n) (h n)
with_has_units (Raises place trap u) go h = tt

units_add : (u : ℕ) (m : Move) → HasUnits m → move_units (more_move u m) ≡ u + move_units m
units_add u Finished g = absurd g
units_add u Halts g = absurd g
units_add u (Moves R words copies w) g = refl
units_add u (Traps place trap w) g = refl

more_leads : (s : Origin) (a : Step) (u w : ℕ) → HasUnits (leads s a w) → more_move u (leads s a w) ≡ leads s a (u + w)
more_leads s step.Finishes u w g = absurd g
more_leads s step.Halts u w g = absurd g
more_leads s (step.Sets (spot.Local slot) n) u w g = refl
more_leads s (step.Sets (spot.Variable v) n) u w g = refl
more_leads s (step.SetsAt at n) u w g = refl
more_leads s (step.Puts v n) u w g = refl
more_leads s (step.Clears slot n) u w g = refl
more_leads s (step.Joins copies) u w g = refl
more_leads s (step.Becomes next) u w g = refl

pub more_moved : (s : Origin) (old mid new u : ℕ) (r : Result Step Halt) (m : Move) → mid + u ≡ old → HasUnits m → IsMoved s mid new r m → IsMoved s old new r (more_move u m)
more_moved s old mid new u (Ok a) m e g h =
    let l = h.by.left in
    let add = units_add u m g in
    record {
      by = record {
        units = u + h.by.units;
        is = ap (more_move u) h.by.is ∙ more_leads s a u h.by.units (subst HasUnits h.by.is g);
        left = omega arith;
      };
    }
more_moved s old mid new u (Err (Trapped place trap)) m e g h =
    record { by = record { units = u + h.by.units; is = ap (more_move u) h.by.is; left = let l = h.by.left in omega arith } }
more_moved s old mid new u (Err Over) m e g h = let l = h.by in record { by = omega (arith, units_add u m g) }
more_moved s old mid new u (Err OutOfMemory) m e g h = record { by = tt }

pub operand_ok : (s : Origin) (old mid new : ℕ) (x : ℤ) (r : Result Step Halt) (v : Value) (go : ℤ → Move) →
    IsMetered value_kind old mid (Ok x) v → HasUnits (go x) → IsMoved s mid new r (go x) → IsMoved s old new r (move_with v go)
operand_ok s old mid new x r v go m g n =
    subst (λ w. IsMoved s old new r w) (ap (λ w. move_with w go) (sym m.by.is)) (more_moved s old mid new m.by.units r (go x) m.by.left g n)

units_least : (v : Value) (go : ℤ → Move) → ((x : ℤ) → HasUnits (go x)) → value_units v ≤ move_units (move_with v go)
units_least (Gives n u) go g = at (go n) (g n)
  where
    at : (m : Move) → HasUnits m → u ≤ move_units (more_move u m)
    at Finished g = absurd g
    at Halts g = absurd g
    at (Moves R words copies w) g = omega arith
    at (Traps place trap w) g = omega arith
units_least (Raises place trap u) go g = omega arith

pub operand_err : (s : Origin) (old new : ℕ) (h : Halt) (v : Value) (go : ℤ → Move) → ((x : ℤ) → HasUnits (go x)) →
    IsMetered value_kind old new (Err h) v → IsMoved s old new (Err h) (move_with v go)
operand_err s old new (Trapped place trap) v go g m =
    record { by = record { units = m.by.units; is = ap (λ w. move_with w go) m.by.is; left = m.by.left } }
operand_err s old new Over v go g m = let l = m.by in record { by = omega (arith, units_least v go g) }
operand_err s old new OutOfMemory v go g m = record { by = tt }

pub assigned_at_has_units : (words : List ℤ) (copies : List VarCopy) (slot : ℕ) (i : Option ℕ) (x : ℤ) (place : Place) → HasUnits (assigned_at words copies slot i x place)
assigned_at_has_units words copies slot (Some i) x place = tt
assigned_at_has_units words copies slot None x place = tt

pub shared_at_has_units : (o : Owner) (words : List ℤ) (copies : List VarCopy) (v : ℕ) (i : Option ℕ) (x : ℤ) (place : Place) → HasUnits (shared_at o words copies v i x place)
shared_at_has_units o words copies v (Some i) x place = tt
shared_at_has_units o words copies v None x place = tt

-- ---- forks

pub fork_ok : (s : Origin) (old mid new : ℕ) (o : Owner) (bs : List Branch) (ls : Vec (Vec ℤ Global) Global) (next : NextText) (a : Arguments) →
    IsMetered lists old mid (Ok ls) a → new + 1 ≡ mid → next_text next ≡ plain.Fork (started o s.copies bs (map (λ w. w.items) ls.items)) →
    IsMoved s old new (Ok (step.Becomes next)) (forked o s.words s.copies bs a)
fork_ok s old mid new o bs ls next a m e same =
    let left : new + (m.by.units + 1) ≡ old = let l = m.by.left in omega arith in
    subst (λ x. IsMoved s old new (Ok (step.Becomes next)) (forked o s.words s.copies bs x)) (sym m.by.is)
    (subst (λ R. IsMoved s old new (Ok (step.Becomes next)) (Moves R s.words s.copies (m.by.units + 1))) same (went s old new (m.by.units + 1) next left))

pub fork_over : (s : Origin) (old mid new : ℕ) (h : Halt) (o : Owner) (bs : List Branch) (ls : Vec (Vec ℤ Global) Global) (a : Arguments) →
    IsMetered lists old mid (Ok ls) a → (h ≡ Over) × (mid < 1) → IsMoved s old new (Err h) (forked o s.words s.copies bs a)
fork_over s old mid new h o bs ls a m e =
    let l = m.by.left in
    let low = e.1 in
    let whole : move_units (forked o s.words s.copies bs a) ≡ m.by.units + 1 = ap (λ x. move_units (forked o s.words s.copies bs x)) m.by.is in
    subst (λ k. IsMoved s old new (Err k) (forked o s.words s.copies bs a)) (sym e.0) (record { by = omega arith })

pub fork_err : (s : Origin) (old new : ℕ) (h : Halt) (o : Owner) (bs : List Branch) (a : Arguments) →
    IsMetered lists old new (Err h) a → IsMoved s old new (Err h) (forked o s.words s.copies bs a)
fork_err s old new (Trapped place trap) o bs a m =
    record { by = record { units = m.by.units; is = ap (forked o s.words s.copies bs) m.by.is; left = m.by.left } }
fork_err s old new Over o bs a m = let l = m.by in record { by = omega (arith, fork_least a) }
  where
    fork_least : (a : Arguments) → lists.units a ≤ move_units (forked o s.words s.copies bs a)
    fork_least (Ready ls u) = omega arith
    fork_least (Refused place trap u) = omega arith
fork_err s old new OutOfMemory o bs a m = record { by = tt }

-- ---- steps that cost nothing

pub finishes : (s : Origin) (left : ℕ) → IsMoved s left left (Ok step.Finishes) Finished
finishes s left = record { by = record { units = 0; is = refl; left = omega arith } }

pub halts : (s : Origin) (left : ℕ) → IsMoved s left left (Ok step.Halts) Halts
halts s left = record { by = record { units = 0; is = refl; left = omega arith } }

-- ---- assignments

pub assigned_ok : (k : PlainKernel) (s : Origin) (to : Spot) (n : ℤ) (old mid new : ℕ) (v : Value) → IsMetered value_kind old mid (Ok n) v → new + 1 ≡ mid →
    IsMoved s old new (Ok (step.Sets to n)) (move_with v (λ x. assigned (record { kernel = k; uses = s.uses }) s.words s.copies to x))
assigned_ok k s (spot.Local slot) n old mid new v m e =
    let is = ap (λ y. move_with y (λ x. assigned (record { kernel = k; uses = s.uses }) s.words s.copies (spot.Local slot) x)) m.by.is in
    let u = ap move_units is in
    let l = m.by.left in
    record { by = record { units = m.by.units + 1; is = is; left = omega arith } }
assigned_ok k s (spot.Variable x) n old mid new v m e =
    let is = ap (λ y. move_with y (λ z. assigned (record { kernel = k; uses = s.uses }) s.words s.copies (spot.Variable x) z)) m.by.is in
    let u = ap move_units is in
    let l = m.by.left in
    record { by = record { units = m.by.units + 1; is = is; left = omega arith } }
