use Rattle.std.proofs.Common.{◌≡◌}
use Rattle.forec_kernel.specs.Shapes.{plain_kernel}
use Rattle.thread_places.specs.Lines.{lines_to}
use Rattle.thread_places.proofs.listing.thread_rows.Given as goal

abbrev pub invariant-loop-number : goal.invariant-loop-number
invariant-loop-number l =
    l.text.items ≡ lines_to (plain_kernel l.kernel) l.placement.places l.number
