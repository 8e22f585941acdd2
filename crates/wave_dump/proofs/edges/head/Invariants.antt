use Rattle.std.proofs.Common.{◌≡◌, ◌++◌, drop, string_bytes}
use Rattle.wave_dump.specs.Wave.{scope_lines, declarations}
use Rattle.wave_dump.proofs.edges.head.Given as goal

abbrev pub invariant-loop-k : goal.invariant-loop-k
invariant-loop-k l = string_bytes l.text ++ declarations l.k (drop l.k l.names) ≡ scope_lines ++ declarations 0 l.names
