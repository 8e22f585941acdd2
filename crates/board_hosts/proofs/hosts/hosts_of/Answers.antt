use Rattle.std.proofs.Common.{◌<◌, length, sym, ap, ◌∙◌, subst, arith}
use Rattle.std.proofs.lemmas.Option.{get_or_from_slice_get}
use Rattle.board_hosts.specs.CoreHosts.{AreNewRopes, root_core}
use Rattle.board_hosts.proofs.Roped.{all_roped, next_roped, later_roped}
use Rattle.board_hosts.proofs.Made.{RestLoads, some_thread, all_rest, next_loads, later_loads, none_made, root_made, root_is, is_root}
use Rattle.board_hosts.proofs.hosts.hosts_of.Goals as goal

pub core-root_core-requires : goal.core-root_core-requires
core-root_core-requires c = some_thread c.args.code.now c.args.placement.now _ c.requires.ports (let some = c.cores-cores.ensures.some in let cores = c.cores-cores.ensures.value in omega (arith, some, cores))

pub loop-core-init : goal.loop-core-init
loop-core-init c = record {
  rest = rw c.into_iter-ports.ensures.rest (subst (λ l. RestLoads c.args.code.now c.args.placement.now 0 l) (sym c.in_ok-ports.ensures) (all_rest c.args.code.now c.args.placement.now _ c.requires.ports));
  len = let len = c.into_iter-ports.ensures.len in let rest = ap length c.into_iter-ports.ensures.rest in let sized = c.in_ok-ports.field-0.ok.0 in omega (arith, len, rest, sized);
  roped = subst (AreNewRopes c.args.code.now c.args.placement.now 0) (sym c.into_iter-ropes.ensures.rest) (all_roped c.args.code.now c.args.placement.now _ (c.in_ok-ropes.ensures ∙ c.requires.ropes));
  roped_len = let len = c.into_iter-ropes.ensures.len in let rest = ap length c.into_iter-ropes.ensures.rest in let sized = c.in_ok-ropes.field-0.ok.0 in omega (arith, len, rest, sized);
  made = none_made c.args.code.now c.args.placement.now c.new-2.result.items c.new-2.ensures.items;
}

pub make_next-requires-clause-port : goal.make_next-requires-clause-port
make_next-requires-clause-port c =
    next_loads _ c.args.code.now c.args.placement.now c.loop-core.core _ c.in-Some.port _ c.in-Some.ensures.items c.loop-core.invariant.rest

pub make_next-requires-clause-rope : goal.make_next-requires-clause-rope
make_next-requires-clause-rope c = next_roped c.args.code.now c.args.placement.now c.loop-core.core _ _ c.in-Some-next.rope c.in-Some-next.ensures.items c.loop-core.invariant.roped

pub loop-core-preserved : goal.loop-core-preserved
loop-core-preserved c = record {
  rest = later_loads _ c.args.code.now c.args.placement.now c.loop-core.core _ c.in-Some.port _ c.in-Some.ensures.items c.loop-core.invariant.rest;
  len = let had = c.loop-core.invariant.len in let now = c.in-Some.ensures.len in let rest = ap length c.in-Some.ensures.items in omega (arith, had, now, rest);
  roped = later_roped c.args.code.now c.args.placement.now c.loop-core.core _ _ c.in-Some-next.rope c.in-Some-next.ensures.items c.loop-core.invariant.roped;
  roped_len = let had = c.loop-core.invariant.roped_len in let now = c.in-Some-next.ensures.len in let rest = ap length c.in-Some-next.ensures.items in omega (arith, had, now, rest);
  made = c.in_ok-make_next.ensures c.loop-core.invariant.made;
}

pub unreachable-requires-in_default-root : goal.unreachable-requires-in_default-root
unreachable-requires-in_default-root c =
    let places = c.args.placement.now.places in
    let root = get_or_from_slice_get places 0 c.core-root_core.result 0 c.core-root_core.ensures.value in
    let below : root_core places < c.loop-core.core =
    (let inside = c.core-root_core.ensures.below in let cores = c.cores-cores.ensures.value in let end = c.loop-core-test.false in omega (arith, inside, cores, end, root)) in
    root_made c.args.code.now c.args.placement.now c.loop-core.core c.loop-core.made.root c.loop-core.made.others.items c.loop-core.invariant.made below c.in_default-root.is

pub returns-clause-root : goal.returns-clause-root
returns-clause-root c =
    is_root c.args.code.now c.args.placement.now c.in-Some-root.root
    (root_is c.args.code.now c.args.placement.now c.loop-core.core c.loop-core.made.root c.loop-core.made.others.items c.loop-core.invariant.made c.in-Some-root.root c.in-Some-root.is)
