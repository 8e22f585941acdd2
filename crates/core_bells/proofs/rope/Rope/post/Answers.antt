use Rattle.std.proofs.Common.{◌<◌, sym, ap, ◌∙◌, subst}
use Rattle.crossbeam_queue.specs.Passes.{view}
use Rattle.core_bells.specs.Hints.{after_push}
use Rattle.core_bells.specs.Ropes.{RopeState, WasFull, after_ring, placed_on}
use Rattle.core_bells.proofs.Lists.{at_index}
use Rattle.core_bells.proofs.Hanging.{within, fits_set, state_set, full_at, count_push, may_push}
use Rattle.core_bells.proofs.rope.Rope.post.Goals as goal

pub invariant_of-self : goal.invariant_of-self
invariant_of-self g c =
    let s = c.self.inside in let h = c.self.invariant in let placement = placed_on s.belfry.now.cores s.belfry.now.places.items in let queues = s.belfry.now.queues.items in let passes = s.passes.items in
    let k = c.args.core in let q = c.index.result.now in let old = c.index_mut.result.now in let push = c.push-fits in let new = push.new.pass in
    let below = subst (λ (r : RopeState). k < r.placement.cores) (sym c.self.view_is) c.requires in
    let near = within placement queues s.core passes k h.0 below in
    let there = at_index queues k q near.0 c.index.ensures in let at = at_index passes k old near.1 c.index_mut.ensures.value in (
      fits_set placement queues s.core passes k q old new there at push.ensures.pass (may_push push.result c.args.mailbox (view old) (view new) push.ensures.log) h.0,
      count_push passes k old new at s.pushed h.1 push.result c.args.mailbox c.counted-self-inside.result push.ensures.log c.counted-self-inside.ensures,
    )

pub returns-clause-state : goal.returns-clause-state
returns-clause-state g c =
    let s = c.self.inside in let h = c.self.invariant in let placement = placed_on s.belfry.now.cores s.belfry.now.places.items in let queues = s.belfry.now.queues.items in let passes = s.passes.items in
    let k = c.args.core in let old = c.index_mut.result.now in let push = c.push-fits in
    let below = subst (λ (r : RopeState). k < r.placement.cores) (sym c.self.view_is) c.requires in
    let at = at_index passes k old (within placement queues s.core passes k h.0 below).1 c.index_mut.ensures.value in
    state_set placement queues s.core passes k old push.new.pass (after_push push.result c.args.mailbox) at push.ensures.log ∙ ap (after_ring k c.args.mailbox push.result) c.self.view_is

pub returns-clause-full : goal.returns-clause-full
returns-clause-full g c full =
    let s = c.self.inside in let h = c.self.invariant in let placement = placed_on s.belfry.now.cores s.belfry.now.places.items in let queues = s.belfry.now.queues.items in let passes = s.passes.items in
    let k = c.args.core in let q = c.index.result.now in let old = c.index_mut.result.now in
    let below = subst (λ (r : RopeState). k < r.placement.cores) (sym c.self.view_is) c.requires in
    let near = within placement queues s.core passes k h.0 below in
    subst (λ (r : RopeState). WasFull k r) c.self.view_is
    (full_at placement queues s.core passes k q old (at_index queues k q near.0 c.index.ensures) (at_index passes k old near.1 c.index_mut.ensures.value) (c.push-fits.ensures.full full))
