use Rattle.std.proofs.Common.{◌≡◌, ◌+◌, ◌-◌, ◌^◌, ◌≤◌, min, drop, map}
use Rattle.forec_tree.specs.Plain as plain
use Rattle.text_sizes.specs.TermCounts as counts
use Rattle.text_sizes.proofs.span.locals_slots.Given as goal

abbrev pub invariant-loop-local : goal.invariant-loop-local
invariant-loop-local l =
    record {
      small : l.total ≤ 2 ^ 64 - 1;
      told : min (l.total + counts.locals_slots (map plain.declared (drop l.local-index l.locals))) (2 ^ 64 - 1) ≡ min (counts.locals_slots (map plain.declared l.fn.locals)) (2 ^ 64 - 1);
    }
