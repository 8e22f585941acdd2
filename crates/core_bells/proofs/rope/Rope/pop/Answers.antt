use Rattle.std.proofs.Common.{sym, ap, ◌∙◌, subst}
use Rattle.crossbeam_queue.specs.Passes.{view}
use Rattle.core_bells.specs.Hints.{after_pop}
use Rattle.core_bells.specs.Ropes.{RopeState, IsSameRope, WasEmpty, after_rope_pop, placed_on}
use Rattle.core_bells.proofs.Lists.{at_index}
use Rattle.core_bells.proofs.Hanging.{within, fits_set, state_set, empty_at, count_pop, may_pop, pop_same}
use Rattle.core_bells.proofs.rope.Rope.pop.Goals as goal

pub invariant_of-self : goal.invariant_of-self
invariant_of-self g c =
    let s = c.self.inside in let h = c.self.invariant in let placement = placed_on s.belfry.now.cores s.belfry.now.places.items in let queues = s.belfry.now.queues.items in let passes = s.passes.items in
    let k = s.core in let q = c.index.result.now in let old = c.index_mut.result.now in let pop = c.pop in let new = pop.new.pass in
    let near = within placement queues k passes k h.0 h.0.core_below in
    let there = at_index queues k q near.0 c.index.ensures in let at = at_index passes k old near.1 c.index_mut.ensures.value in (
      fits_set placement queues k passes k q old new there at pop.ensures.pass (may_pop pop.result (view old) (view new) pop.ensures.log) h.0,
      count_pop passes k old new at s.pushed h.1 pop.result pop.ensures.log,
    )

pub returns-clause-state : goal.returns-clause-state
returns-clause-state g c =
    let s = c.self.inside in let h = c.self.invariant in let placement = placed_on s.belfry.now.cores s.belfry.now.places.items in let queues = s.belfry.now.queues.items in let passes = s.passes.items in
    let old = c.index_mut.result.now in
    let at = at_index passes s.core old (within placement queues s.core passes s.core h.0 h.0.core_below).1 c.index_mut.ensures.value in
    state_set placement queues s.core passes s.core old c.pop.new.pass (after_pop c.pop.result) at c.pop.ensures.log ∙ ap (after_rope_pop c.pop.result) c.self.view_is

pub returns-clause-empty : goal.returns-clause-empty
returns-clause-empty g c none =
    let s = c.self.inside in let h = c.self.invariant in let placement = placed_on s.belfry.now.cores s.belfry.now.places.items in let queues = s.belfry.now.queues.items in let passes = s.passes.items in
    let old = c.index_mut.result.now in
    let at = at_index passes s.core old (within placement queues s.core passes s.core h.0 h.0.core_below).1 c.index_mut.ensures.value in
    subst (λ (r : RopeState). WasEmpty r) c.self.view_is (empty_at placement queues s.core passes old at (h.0.own old at) (c.pop.ensures.empty none))

pub returns-clause-same : goal.returns-clause-same
returns-clause-same g c =
    let s = c.self.inside in let h = c.self.invariant in let placement = placed_on s.belfry.now.cores s.belfry.now.places.items in let queues = s.belfry.now.queues.items in let passes = s.passes.items in
    let old = c.index_mut.result.now in
    let at = at_index passes s.core old (within placement queues s.core passes s.core h.0 h.0.core_below).1 c.index_mut.ensures.value in
    subst (IsSameRope c.args.self.now) (sym (state_set placement queues s.core passes s.core old c.pop.new.pass (after_pop c.pop.result) at c.pop.ensures.log ∙ ap (after_rope_pop c.pop.result) c.self.view_is)) (pop_same c.pop.result c.args.self.now)
