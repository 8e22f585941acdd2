-- The numbers of the jobs that ticks give to thread 0 are in range.
use Rattle.forec_kernel.specs.Shapes.{PlainKernel}
use Rattle.forec_kernel.specs.Ticks.{TickState, Fresh, After_tick}
use Rattle.forec_kernel.specs.Composed.{TickInput, tick_job}
use Rattle.exchange_meaning.specs.OfShape.{HasJobNumbers}
use Rattle.value_ranges.specs.Words.{KernelWords}
use Rattle.value_ranges.proofs.Ticks.{StateFits, begin_fits}
use Rattle.log_ranges.specs.Laws.{TurnFits}
use Rattle.log_ranges.proofs.Solos.{values_fits}

module _ (k : PlainKernel) (numbers : KernelWords k) where
  pub job_numbers : (old : TickState) (turn : TickInput) → StateFits old → TurnFits turn → HasJobNumbers (tick_job k old turn)
  job_numbers Fresh turn h f = (tt, values_fits _ (begin_fits k numbers Fresh turn.row h f.row).copies, f.budget)
  job_numbers (After_tick t) turn h f = (values_fits _ (begin_fits k numbers (After_tick t) turn.row h f.row).copies, f.budget)
