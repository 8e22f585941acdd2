use Rattle.std.proofs.Common.{◌≡◌, suc, ◌+◌, drop, sym, ap, ◌∙◌, arith}
use Rattle.forec_kernel.specs.Combining.{contains}
use Rattle.board_hosts.proofs.Placed.{contains_here, contains_later}
use Rattle.board_hosts.proofs.hosts.has_threads.Goals as goal

pub returns-then-core : goal.returns-then-core
returns-then-core c =
    sym (c.loop-thread.invariant ∙ contains_here c.args.core c.args.placement.now.places c.loop-thread.thread c.core.result c.core.ensures.value c.if-core.true)

pub loop-thread-preserved : goal.loop-thread-preserved
loop-thread-preserved c =
    let one : suc c.loop-thread.thread ≡ c.loop-thread.thread + 1 = omega arith in
    c.loop-thread.invariant
    ∙ contains_later c.args.core c.args.placement.now.places c.loop-thread.thread c.core.result c.core.ensures.value c.if-core.false
    ∙ ap (λ n. contains c.args.core (drop n c.args.placement.now.places)) one
