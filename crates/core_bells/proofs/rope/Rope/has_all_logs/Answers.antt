use Rattle.std.proofs.Common.{◌≡◌, true, ap, ◌∙◌, subst}
use Rattle.core_bells.specs.Ropes.{RopeState, own_log, placed_on}
use Rattle.core_bells.specs.declared.hints.HintLog.{HintLog}
use Rattle.core_bells.proofs.Lists.{get_there}
use Rattle.core_bells.proofs.Hanging.{log_is, within}
use Rattle.core_bells.proofs.rope.Rope.has_all_logs.Goals as goal

pub returns-clause-own : goal.returns-clause-own
returns-clause-own c =
    let s = c.self.inside in let h = c.self.invariant.0 in let passes = s.passes.items in
    let at = get_there passes s.core (within (placed_on s.belfry.now.cores s.belfry.now.places.items) s.belfry.now.queues.items s.core passes s.core h h.core_below).1 in
    subst (λ (r : RopeState). (own_log r).may_pop ≡ true) c.self.view_is (ap (λ (v : HintLog). v.may_pop) (log_is passes s.core at.0 at.1) ∙ h.own at.0 at.1)
