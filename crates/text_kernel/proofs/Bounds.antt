-- The bound of each loop of a thread is at most 1,000,000.
use Rattle.std.proofs.Common.{ℕ, zero, suc, ◌≤◌, ◌≡◌, refl, Bool, true, false, cond, ℤ, pos, ◌+ℤ◌, Option, Some, None, [], arith}
use Rattle.forec_base.specs.declared.Place.{Place}
use Rattle.forec_tree.specs.declared.tree.Number.{Number}
use Rattle.forec_tree.specs.Terms.{Term, Statement, For, Perhaps, Text}
use Rattle.forec_tree.specs.Findings.{in_bound}
use Rattle.forec_tree.specs.Rules.{Judging, outside, fault_if, findings_faults}
use Rattle.forec_tree.specs.Turns.{values_passed, is_i32, inferred, turns_by_parts, fits_form, signed_step, VariableNumber, Test, PlainLoopStep, start_of, test_of, step_of}
use Rattle.forec_kernel.specs.WellFormed.{FineBound}
use Rattle.text_kernel.specs.Lowering.{bound_of, or_inferred}
use Rattle.text_kernel.proofs.Fine.{none_left, not_broken}
use Rattle.text_kernel.proofs.Locals.{number_in}

abbrev pub AtMost : ℕ → Option ℕ → Type 0
AtMost most o = (n : ℕ) → o ≡ Some n → n ≤ most

more_turns : (o : Option ℕ) (left : ℕ) → AtMost left o → AtMost (suc left) (elim o [ None ↦ None | Some n ↦ Some (suc n) ])
more_turns None left h n e = cc
more_turns (Some m) left h n e = let g = h m refl in let same : suc m ≡ n = cc in omega (arith, g, same)

-- a run looks at `left` values, and the last one fails
run_short : (left : ℕ) (passes : ℤ → Bool) (step v : ℤ) → AtMost left (values_passed (suc left) passes step v)
unfolding values_passed
run_short zero passes step v = pick (is_i32 v) (passes v)
  where
    pick : (a b : Bool) → AtMost 0 (cond a (cond b None (Some 0)) None)
    pick true true n e = cc
    pick true false n e = let same : 0 ≡ n = cc in omega (arith, same)
    pick false b n e = cc
run_short (suc left) passes step v = pick (is_i32 v) (passes v) (more_turns (values_passed (suc left) passes step (v +ℤ step)) left (run_short left passes step (v +ℤ step)))
  where
    pick : (a b : Bool) → AtMost (suc left) (elim (values_passed (suc left) passes step (v +ℤ step)) [ None ↦ None | Some n ↦ Some (suc n) ]) →
        AtMost (suc left) (cond a (cond b (elim (values_passed (suc left) passes step (v +ℤ step)) [ None ↦ None | Some n ↦ Some (suc n) ]) (Some 0)) None)
    pick true true h n e = h n e
    pick true false h n e = let same : 0 ≡ n = cc in omega (arith, same)
    pick false b h n e = cc

turns_short : (text : Text) (body : Statement) (a : Option VariableNumber) (t : Option Test) (s : Option PlainLoopStep) → AtMost 1000000 (turns_by_parts text body a t s)
turns_short text body None t s n e = cc
turns_short text body (Some a) None s n e = cc
turns_short text body (Some a) (Some t) None n e = cc
turns_short text body (Some a) (Some t) (Some s) n e = pick (fits_form text body a t s) n e
  where
    pick : (b : Bool) → AtMost 1000000 (cond b (values_passed 1000001 t.passes (signed_step s) a.number) None)
    pick true m d = run_short 1000000 t.passes (signed_step s) a.number m d
    pick false m d = cc

pub inferred_short : (text : Text) (at : Place) (start : Perhaps) (test : Option Term) (step : Perhaps) (bound : Option Number) (body : Statement) →
    AtMost 1000000 (inferred text (For at start test step bound body))
inferred_short text at start test step bound body = turns_short text body (start_of start) (test_of test) (step_of step)

pub written_short : (j : Judging) (bound : Option Number) → findings_faults j (in_bound bound) ≡ [] → AtMost 1000000 (bound_of bound)
written_short j None h n e = cc
written_short j (Some b) h n e =
    let r = number_in 1000000 b.value (omega arith) (not_broken (outside (pos 1000000) b.value) b.place 19 (none_left (fault_if (outside (pos 1000000) b.value) b.place 19) [] h)) in
    let same : Rattle.text_kernel.specs.Bindings.number_of b ≡ n = cc in omega (arith, r.high, same)

fine_bound : (o : Option ℕ) → AtMost 1000000 o → FineBound false o
fine_bound None h = refl
fine_bound (Some n) h = h n refl

either_short : (o i : Option ℕ) → AtMost 1000000 o → AtMost 1000000 i → AtMost 1000000 (or_inferred o i)
either_short None i h g = g
either_short (Some n) i h g = h

pub while_bound : (j : Judging) (bound : Option Number) → findings_faults j (in_bound bound) ≡ [] → FineBound false (bound_of bound)
while_bound j bound h = fine_bound (bound_of bound) (written_short j bound h)

pub for_bound : (text : Text) (j : Judging) (at : Place) (start : Perhaps) (test : Option Term) (step : Perhaps) (bound : Option Number) (body : Statement) →
    findings_faults j (in_bound bound) ≡ [] → FineBound false (or_inferred (bound_of bound) (inferred text (For at start test step bound body)))
for_bound text j at start test step bound body h =
    fine_bound _ (either_short (bound_of bound) (inferred text (For at start test step bound body)) (written_short j bound h) (inferred_short text at start test step bound body))
