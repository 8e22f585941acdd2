use Rattle.std.proofs.Common.{◌≡◌, ◌≢◌, ◌<◌, ℕ, false, get_or}
use Rattle.loop_check.specs.Views.{indexed_text}
use Rattle.forec_check.specs.CallSites.{site_maps, no_sites, SameTables, body_settled}
use Rattle.forec_check.proofs.instances.propagate.propagate.Given as goal

abbrev pub invariant-loop-f : goal.invariant-loop-f
invariant-loop-f l =
    let t = site_maps l.fn.tables in
    record {
      began : l.moved ≡ false → l.initial.moved ≡ false;
      same : l.moved ≡ false → SameTables l.fn.tables l.tables;
      bodies : l.moved ≡ false → (k : ℕ) → k < l.f-index → t.calls (get_or l.functions k 0) ≢ no_sites → body_settled (indexed_text l.index) t (get_or l.functions k 0);
    }
