use Rattle.std.proofs.Common.{◌≡◌, ◌+◌, false, drop}
use Rattle.forec_check.specs.CallSites.{site_maps, instances_around, outermost, SameTables, HoldsEffects}
use Rattle.forec_check.proofs.instances.propagate.propagate_effects.Given as goal

abbrev pub invariant-loop-number : goal.invariant-loop-number
invariant-loop-number l =
    let t = site_maps l.fn.tables in
    record {
      same : l.moved ≡ false → SameTables l.fn.tables l.tables;
      settled : l.moved ≡ false → HoldsEffects t l.f (l.number + 1) (instances_around l.around) (drop l.number l.effects) → HoldsEffects t l.f 1 (outermost t l.f) l.fn.effects;
    }
