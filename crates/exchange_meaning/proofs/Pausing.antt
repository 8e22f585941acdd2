-- Ticks that pause, one after the other.
use Rattle.std.proofs.Common.{◌≡◌, List, [], ◌∷◌, ◌++◌}
use Rattle.forec_kernel.specs.declared.shape.Outcome.TheVariants as outcome
use Rattle.forec_kernel.specs.Shapes.{PlainKernel}
use Rattle.forec_kernel.specs.Ticks.{TickState, tick}
use Rattle.forec_kernel.specs.Composed.{TickInput, next_state, state_after}
use Rattle.exchange_meaning.specs.LogOf.{AllButLastPause}

-- each tick pauses
abbrev pub AllPause : PlainKernel → TickState → List TickInput → Type 0
AllPause k old [] = Unit {0}
AllPause k old (turn ∷ turns) = ((tick k turn.budget old turn.row).outcome ≡ outcome.Paused) × AllPause k (next_state k old turn) turns

-- then any tick may come
pub pauses_then : (k : PlainKernel) (old : TickState) (turns : List TickInput) (turn : TickInput) → AllPause k old turns → AllButLastPause k old (turns ++ turn ∷ [])
pauses_then k old [] turn h = tt
pauses_then k old (a ∷ []) turn h = (h.0, tt)
pauses_then k old (a ∷ b ∷ turns) turn h = (h.0, pauses_then k (next_state k old a) (b ∷ turns) turn h.1)

-- and where it pauses too, all do
pub pauses_more : (k : PlainKernel) (old : TickState) (turns : List TickInput) (turn : TickInput) → AllPause k old turns → (tick k turn.budget (state_after k old turns) turn.row).outcome ≡ outcome.Paused →
    AllPause k old (turns ++ turn ∷ [])
pauses_more k old [] turn h p = (p, tt)
pauses_more k old (a ∷ turns) turn h p = (h.0, pauses_more k (next_state k old a) turns turn h.1 p)

pub all_but_last : (k : PlainKernel) (old : TickState) (turns : List TickInput) → AllPause k old turns → AllButLastPause k old turns
all_but_last k old [] h = tt
all_but_last k old (a ∷ []) h = tt
all_but_last k old (a ∷ b ∷ turns) h = (h.0, all_but_last k (next_state k old a) (b ∷ turns) h.1)
