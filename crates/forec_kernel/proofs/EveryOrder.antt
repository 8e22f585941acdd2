-- Every endless order of steps ends: a step costs a unit, of which there are so many, or makes the text smaller.
use Rattle.std.proofs.Common.{ℕ, zero, suc, ◌+◌, ◌<◌, ◌≡◌, ℤ, Bool, true, false, List, refl, ap, ◌∙◌, arith}
use Rattle.forec_kernel.specs.Shapes.{PlainKernel}
use Rattle.forec_kernel.specs.Size.{text_size}
use Rattle.forec_kernel.specs.Steps.{Path, thread_move}
use Rattle.forec_kernel.specs.Ticks.{Going, is_stopped, moved, steps_along, TickState, begin}
use Rattle.forec_kernel.specs.Laws.{first_paths, StopsAlong}
use Rattle.forec_kernel.proofs.Ends.{Progress, Stopped, Paid, Smaller, progress, step_moves, tick_in_time}

-- after some number of steps from here the tick has stopped
record EndsFrom (k : PlainKernel) (budget : ℕ) (order : ℕ → Path) (g : Going) : Type 0 where
  pub count : ℕ
  pub stops : is_stopped budget (steps_along k budget (first_paths order count) g) ≡ true

module _ (k : PlainKernel) (budget : ℕ) where
  abbrev later : (ℕ → Path) → ℕ → Path
  later order i = order (suc i)

  abbrev next : (ℕ → Path) → Going → Going
  next order g = moved g (thread_move k (order 0) g.thread)

  ends_here : (order : ℕ → Path) (g : Going) → is_stopped budget g ≡ true → EndsFrom k budget order g
  ends_here order g e = record { count = 0; stops = e }

  ends_later : (order : ℕ → Path) (g : Going) → is_stopped budget g ≡ false → EndsFrom k budget (later order) (next order g) →
      EndsFrom k budget order g
  ends_later order g go r =
      record {
        count = suc r.count;
        stops =
            ap (λ x. is_stopped budget (steps_along k budget (first_paths (later order) r.count) x)) (step_moves k (is_stopped budget) (order 0) g go)
            ∙ r.stops;
      }

  either : (order : ℕ → Path) (g : Going) → EndsFrom k budget (later order) (next order g) → (b : Bool) → is_stopped budget g ≡ b →
      EndsFrom k budget order g
  either order g r true e = ends_here order g e
  either order g r false e = ends_later order g e r

  -- so many units are enough, whatever the order
  abbrev EndsWithin : ℕ → Type 0
  EndsWithin left = (order : ℕ → Path) (g : Going) → budget < g.units + left → EndsFrom k budget order g

  -- so many units are enough for a text of less than this size
  abbrev EndsBelow : ℕ → ℕ → Type 0
  EndsBelow left size = (order : ℕ → Path) (g : Going) → budget < g.units + suc left → text_size g.thread.text < size → EndsFrom k budget order g

  after_step : (left size : ℕ) → EndsWithin left → EndsBelow left size → (order : ℕ → Path) (g g' : Going) →
      budget < g.units + suc left → text_size g.thread.text < suc size → Progress g g' → EndsFrom k budget order g'
  after_step left size paid free order g g' h small (Stopped over) = let t = tick_in_time budget in ends_here order g' (t.done g' over)
  after_step left size paid free order g g' h small (Paid more) = paid order g' (omega arith)
  after_step left size paid free order g g' h small (Smaller same less) = free order g' (omega arith) (omega arith)

  ends_below : (left : ℕ) → EndsWithin left → (size : ℕ) → EndsBelow left size
  ends_below left paid zero order g h small = absurd (omega arith)
  ends_below left paid (suc size) order g h small =
      either order g (after_step left size paid (ends_below left paid size) (later order) g (next order g) h small (progress k (order 0) g)) (is_stopped budget g) refl

  ends_within : (left : ℕ) → EndsWithin left
  ends_within zero order g h = let t = tick_in_time budget in ends_here order g (t.over g (omega arith))
  ends_within (suc left) order g h = ends_below left (ends_within left) (suc (text_size g.thread.text)) order g h (omega arith)

pub every_order_ends : (k : PlainKernel) (budget : ℕ) (old : TickState) (row : List ℤ) (order : ℕ → Path) → StopsAlong k budget old row order
every_order_ends k budget old row order =
    let r = ends_within k budget (suc budget) order (begin k old row) (omega arith) in
    record { count = r.count; stops = r.stops }
