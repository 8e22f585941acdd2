-- Worked lines, computed.
use Rattle.std.proofs.Common.{◌≡◌, refl, codes}
use Rattle.std.specs.Fmt.{digits}
use Rattle.trace_ticks.specs.Workload.{workload_line}

gen_is : workload_line 3 2502500 ≡ codes "gen 3 ticks 1000 sum 2502500\n"
unfolding workload_line digits
gen_is = refl
