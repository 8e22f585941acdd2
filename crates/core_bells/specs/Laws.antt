-- What every order of steps on a queue of hints keeps. The rule holds at the start, and each step of a pass leads from a state that
-- meets it to one that does. The steps are of four kinds, and of no other.
use Rattle.std.specs.Prelude.{◌≡◌, ℕ, [], ◌∷◌, true, false}
use Rattle.crossbeam_queue.specs.Fifo.{Pushes, Pops, Forks, Merges, Learns}
use Rattle.core_bells.specs.declared.hints.HintLog.{HintLog}
use Rattle.core_bells.specs.Hints.{KeepsHints, Knows, new_log, with_pushed, with_popped, with_log}

-- `id`, `v`: the number of a pass, and its log. `room`: the capacity of the queue
pub record EveryHintStep : Type 0 where
  -- the queue is empty, and its one pass did nothing
  pub start : KeepsHints [] (new_log true ∷ [])
  pub push : (room id : ℕ) (v : HintLog) (hint : ℕ) → Pushes KeepsHints room id v hint (λ w. w ≡ with_pushed v hint)
  pub pop : (id : ℕ) (v : HintLog) → v.may_pop ≡ true → Pops KeepsHints id v (λ hint w. w ≡ with_popped v hint)
  -- a pass is split: the new one did nothing
  pub split : (id : ℕ) (v : HintLog) → Forks KeepsHints id v v (new_log false)
  -- two passes are joined, and the second is spent
  pub join : (id : ℕ) (v : HintLog) (other : ℕ) (w : HintLog) → Merges KeepsHints id v other w (with_log v w) (new_log false)
  -- between any two steps
  pub between : (id : ℕ) (v : HintLog) → Learns KeepsHints id v (Knows v)
