use Rattle.std.proofs.Common.{◌≡◌, ◌<◌, ap, ⊎_elim, length, map, get_or, arith}
use Rattle.std.proofs.lemmas.Bool.{cases_lt}
use Rattle.thread_code.specs.Plain.{PlainBlock, plain_block}
use Rattle.thread_steps.specs.BlockRun.{no_block}
use Rattle.thread_state.proofs.Living.{read_plain}
use Rattle.thread_rooms.proofs.room.are_short.Goals as goal

pub loop-function-preserved : goal.loop-function-preserved
loop-function-preserved c = λ f lt.
    let blocks = c.args.code.now.functions.items in
    let i = c.loop-function.function in
    let n : i < length blocks = omega arith in
    let e = read_plain plain_block blocks i c.index.result.now no_block n c.index.ensures in
    ⊎_elim
    (λ less. c.loop-function.invariant f less)
    (λ more.
    let k : f ≡ i = omega (arith, lt, more) in
    let l = ap (λ (b : PlainBlock). length b.steps) e in
    let m = ap (λ j. length (get_or (map plain_block blocks) j no_block).steps) k in
    omega (arith, l, m, c.is_short.ensures.short c.if-not-is_short.false))
    (cases_lt f i)
