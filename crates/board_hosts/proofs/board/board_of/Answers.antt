use Rattle.std.proofs.Common.{map, sym, ap, ◌∙◌, subst}
use Rattle.std.proofs.lemmas.Option.{get_or_from_slice_get}
use Rattle.combine_tree.specs.Plain.{plain_packet}
use Rattle.tick_jobs.proofs.Lists.{ok_then}
use Rattle.slot_board.specs.Dealt.{new_ports}
use Rattle.board_hosts.specs.Boards.{ArePorts}
use Rattle.board_hosts.specs.CoreHosts.{root_core}
use Rattle.board_hosts.proofs.Ports.{board_ports}
use Rattle.board_hosts.proofs.board.board_of.Goals as goal

pub returns-clause-ports : goal.returns-clause-ports
returns-clause-ports c =
    let placement = c.args.placement.now in
    let packets = c.in_ok-packets.packets.items in
    let ends = c.in_ok-ends.ends.items in
    let plain = map plain_packet packets in
    let root = sym (get_or_from_slice_get placement.places 0 c.core.result 0 c.core.ensures.value) in
    ok_then c.new.result c.new.ensures.ports (λ b is.
    let z = b.board.shared.table_id in
    subst (λ l. ArePorts c.args.code.now placement l)
    (sym (is
    ∙ ap (λ e. new_ports z c.of.result plain e c.core.result c.cores.result) c.deref.ensures.value
    ∙ ap (λ core. new_ports z c.of.result plain ends core c.cores.result) root
    ∙ ap (λ n. new_ports z c.of.result plain ends (root_core placement.places) n) c.cores.ensures.value))
    (board_ports c.args.code.now c.of.result packets placement ends z c.of.ensures c.in_ok-packets.ensures.count c.in_ok-packets.ensures.each c.requires c.in_ok-ends.ensures))
