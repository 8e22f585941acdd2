use Rattle.bound_laws.proofs.TickBound.{within_bound, never_over, runs_never_over}
use Rattle.bound_laws.proofs.laws.no_tick_passes_the_bound.Goals as goal

pub returns : goal.returns
returns c = record { units = within_bound; never_over = never_over; runs = runs_never_over }
