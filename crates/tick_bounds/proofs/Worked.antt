-- Worst cases of worked programs, computed by the definitions.
use Rattle.std.proofs.Common.{true, ◌≡◌, refl}
use Rattle.forec_base.specs.declared.Policy.TheVariants as policy
use Rattle.forec_kernel.proofs.Worked.{aborted, counter, joined_sum}
use Rattle.tick_bounds.specs.Bound.{worst_case}

-- while (1) { o = o + 1; pause; }: 2 (1 + 1 + (4 + 1))
counter_bound : worst_case counter ≡ 14
unfolding worst_case
counter_bound = refl

-- a: s = s + 1; pause;   b: s = s + 2; pause;   main: par(a, b), one call of plus
sum_bound : worst_case (joined_sum policy.All) ≡ 15
unfolding worst_case
sum_bound = refl

-- an abort in a loop, of any kind
abort_bound : worst_case (aborted true true) ≡ 50
unfolding worst_case
abort_bound = refl
