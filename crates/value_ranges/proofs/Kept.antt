-- What holds of thread 0 from tick to tick.
use Rattle.std.proofs.Common.{ℕ, zero, suc, ℤ, Bool, true, false, nat_lt, List, []}
use Rattle.forec_kernel.specs.declared.shape.Outcome.TheVariants as outcome
use Rattle.forec_kernel.specs.Shapes.{PlainKernel}
use Rattle.forec_kernel.specs.Size.{text_size}
use Rattle.forec_kernel.specs.Steps.{thread_move}
use Rattle.forec_kernel.specs.Texts.{Thread, uses_of}
use Rattle.forec_kernel.specs.Ticks.{Going, is_stopped, moved, TickState, Fresh, After_tick, begin, outcome_of, Tick, free_steps, finished, tick, values_of}

abbrev pub StateHas : (Thread → Type 0) → TickState → Type 0
StateHas P Fresh = Unit {0}
StateHas P (After_tick t) = P t

-- what each step keeps, and what holds as the tick begins, holds after it
module _ (k : PlainKernel) (P : Thread → Type 0) (step : (g : Going) → P g.thread → P (moved g (thread_move k [] g.thread)).thread) where
  either_has : (b c : Bool) (g g' g'' : Going) → P g.thread → P g'.thread → P g''.thread →
      let r : Going = elim b [ true ↦ g | false ↦ elim c [ true ↦ g' | false ↦ g'' ] ] in P r.thread
  either_has true c g g' g'' h h' h'' = h
  either_has false true g g' g'' h h' h'' = h'
  either_has false false g g' g'' h h' h'' = h''

  free_has : (stop : Going → Bool) (paid : Going → Going) → ((g : Going) → P g.thread → P (paid g).thread) → (size : ℕ) (g : Going) → P g.thread →
      P (free_steps k stop paid size g).thread
  free_has stop paid keeps zero g h = h
  free_has stop paid keeps (suc size) g h =
      let g' = moved g (thread_move k [] g.thread) in
      either_has (stop g) (nat_lt g.units g'.units) g (paid g') (free_steps k stop paid size g') h (keeps g' (step g h))
      (free_has stop paid keeps size g' (step g h))

  pub finished_has : (stop : Going → Bool) (left : ℕ) (g : Going) → P g.thread → P (finished k stop left g).thread
  finished_has stop zero g h = h
  finished_has stop (suc left) g h =
      free_has stop (finished k stop left) (λ g' h'. finished_has stop left g' h') (suc (text_size g.thread.text)) g h

  pub tick_keeps : (budget : ℕ) (old : TickState) (row : List ℤ) → StateHas P old → P (begin k old row).thread → StateHas P (tick k budget old row).state
  tick_keeps budget old row h now =
      let g = finished k (is_stopped budget) (suc budget) (begin k old row) in
      pick (nat_lt budget g.units) g (finished_has (is_stopped budget) (suc budget) (begin k old row) now)
    where
      pick : (b : Bool) (g : Going) → P g.thread →
          let r : Tick =
          elim b [
            | true ↦ record { outcome = outcome.Over; outputs = []; state = old }
            | false ↦ record {
              outcome = outcome_of g.thread.status;
              outputs = values_of (uses_of k 0) g.thread.copies k.shape.outputs;
              state = After_tick g.thread;
            }
          ] in
          StateHas P r.state
      pick true g f = h
      pick false g f = f
