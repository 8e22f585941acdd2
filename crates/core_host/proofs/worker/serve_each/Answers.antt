use Rattle.std.proofs.Common.{ap, ◌∙◌, get_or, length-set}
use Rattle.std.proofs.lemmas.Option.{get_or_from_slice_get}
use Rattle.core_host.specs.Hosted.{standing}
use Rattle.core_host.proofs.HostedLemmas.{same_standing, standing_set}
use Rattle.core_host.proofs.worker.serve_each.Goals as goal

pub loop-at-preserved : goal.loop-at-preserved
loop-at-preserved g c =
    let old = c.index-hosts-at.result in
    let new = c.serve_beside-worked.new.self in (
      standing_set c.loop-at.hosts c.loop-at.at new
          (λ y at. same_standing (get_or c.loop-at.hosts c.loop-at.at old) new c.serve_beside-worked.ensures.same ∙ ap standing (get_or_from_slice_get c.loop-at.hosts c.loop-at.at y old at))
          ∙ c.loop-at.invariant.0,
      length-set c.loop-at.hosts c.loop-at.at new ∙ c.loop-at.invariant.1,
    )
