use Rattle.std.proofs.Common.{rules, ◌≡◌, ◌+◌, ◌-◌, ◌<◌, ◌∙◌, ℕ, length, get_or, drop, Some, subst, arith, length-set}
use Rattle.std.specs.Prelude.{slice_get, IsTrue}
use Rattle.forec_kernel.specs.Combining.{contains}
use Rattle.thread_state.specs.Kept.{place_of}
use Rattle.thread_state.proofs.Indexed.{one_more}
use Rattle.thread_state.proofs.own.places_of.Goals as goal

pub loop-i-preserved : goal.loop-i-preserved
loop-i-preserved c =
    let uses = c.args.uses.now in
    let places = c.loop-i.places.items in
    let j = c.loop-i.i - 1 in
    let n : c.loop-i.i ≡ j + 1 = omega arith in
    let lt : j < length uses = omega (arith, c.loop-i.invariant.within) in
    let within : get_or uses j 0 < length places = search rules in
    let h = subst (λ k. (v : ℕ) → IsTrue (contains v (drop k uses)) → slice_get places v ≡ Some (k + place_of (drop k uses) v)) n c.loop-i.invariant.placed in
    record {
      long = length-set _ _ _ ∙ c.loop-i.invariant.long;
      within = omega (arith, c.loop-i.invariant.within);
      placed = one_more uses places j lt within h;
    }
