-- The ticks over a trace pause, but for the last.
use Rattle.std.proofs.Common.{◌≡◌, ℕ, Bool, true, false, List, [], ◌∷◌, if◌then◌else◌, refl}
use Rattle.forec_kernel.specs.Composed.{TickInput}
use Rattle.forec_kernel.specs.Shapes.{PlainKernel}
use Rattle.forec_kernel.specs.Ticks.{TickState, Fresh, Tick, tick, goes_on}
use Rattle.exchange_meaning.specs.LogOf.{AllButLastPause}
use Rattle.trace_rows.specs.Trace.{Row}
use Rattle.trace_ticks.specs.Report.{turns_from, trace_turns}
use Rattle.trace_ticks.proofs.Advancing.{paused}

abbrev turn_at : ℕ → Row → TickInput
turn_at budget row = record { row = row; budget = budget }

turns_pause : (k : PlainKernel) (budget : ℕ) (s : TickState) (rows : List Row) → AllButLastPause k s (turns_from k budget s rows)
turns_pause k budget s [] = tt
turns_pause k budget s (row ∷ []) = by (goes_on (tick k budget s row).outcome)
  where
    by : (b : Bool) → AllButLastPause k s (turn_at budget row ∷ (if b then [] else []))
    by true = tt
    by false = tt
turns_pause k budget s (row ∷ next ∷ rows) = by (goes_on (tick k budget s row).outcome) refl (turns_pause k budget (tick k budget s row).state (next ∷ rows))
  where
    by : (b : Bool) → goes_on (tick k budget s row).outcome ≡ b → AllButLastPause k (tick k budget s row).state (turns_from k budget (tick k budget s row).state (next ∷ rows)) →
        AllButLastPause k s (turn_at budget row ∷ (if b then turns_from k budget (tick k budget s row).state (next ∷ rows) else []))
    by true e h = (paused (tick k budget s row).outcome e, h)
    by false e h = tt

pub trace_pauses : (limit : ℕ) (k : PlainKernel) (budget : ℕ) (bytes : List ℕ) → AllButLastPause k Fresh (trace_turns limit k budget bytes)
unfolding trace_turns
trace_pauses limit k budget bytes = turns_pause k budget Fresh _
