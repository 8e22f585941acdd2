use Rattle.std.proofs.Common.{◌≡◌, length, subst, arith}
use Rattle.std.proofs.lemmas.List.{with_items_is}
use Rattle.thread_code.specs.Plain.{plain_code, plain_block}
use Rattle.thread_rooms.specs.Depths.{IsMost}
use Rattle.thread_rooms.proofs.Spreading.{has_first, holds_first, most_is_greatest}
use Rattle.thread_rooms.proofs.depths.deepest.Goals as goal

pub loop-depths-init : goal.loop-depths-init
loop-depths-init c =
    let code = plain_code c.args.code.now in
    let block = plain_block c.args.block.now in
    let made = c.in_ok-depths.ensures in
    let count : c.len.result ≡ length block.steps = omega (arith, c.len.ensures, c.args.block.now.steps.ok.0) in
    holds_first code block c.in_ok-depths.depths.items (omega (arith, made.long, count)) (has_first code block c.requires.sound) made.start (λ p some lt. made.others p some (omega (arith, lt, count)))

pub returns : goal.returns
returns c =
    let code = plain_code c.args.code.now in
    let block = plain_block c.args.block.now in
    let depths = c.pass.new.depths in
    let holds = c.in_ok-pass.ensures.holds in
    let back = with_items_is c.loop-depths.depths depths (omega (arith, holds.long, c.loop-depths.invariant.long, c.loop-depths.depths.ok.0)) in
    let value = c.deref.ensures.value in
    let same : c.deref.result.now ≡ depths = cc in
    most_is_greatest code block c.requires.sound depths holds (c.in_ok-pass.ensures.followed c.if-branch.false) c.greatest.result
    (subst (λ ds. IsMost ds (length ds) c.greatest.result) same c.greatest.ensures)
