use Rattle.std.proofs.Common.{◌≡◌}
use Rattle.core_host.specs.Hosted.{IsWhole}
use Rattle.core_rows.proofs.hosted.goes_so.Given as goal

abbrev pub invariant-loop-input : goal.invariant-loop-input
invariant-loop-input l = record { whole : IsWhole l.host; code : l.host.code ≡ l.fn.code }
