use Rattle.std.proofs.Common.{◌+◌, ◌∙◌, ap, length}
use Rattle.thread_code.specs.Plain.{plain_code, plain_block}
use Rattle.thread_steps.specs.BlockRun.{depth_after}
use Rattle.thread_rooms.specs.Depths.{jump_target}
use Rattle.thread_rooms.proofs.Spreading.{next_on, next_to, next_within, named_within, holds_spread}
use Rattle.thread_rooms.proofs.depths.visit.Goals as goal

pub spread-requires-clause-next : goal.spread-requires-clause-next
spread-requires-clause-next c = λ on.
    let step = c.step_at-step.result.now in
    let at = c.args.at in
    next_within (plain_code c.args.code.now) (plain_block c.args.block.now) c.requires.sound c.args.depths.now c.requires.holds at step (at + 1) (λ e. c.in-Some.ensures.known (c.in-Some.ensures.same ∙ e))
    c.step_at-step.ensures (next_on at step on)

pub spread-requires-clause-named : goal.spread-requires-clause-named
spread-requires-clause-named c =
    let step = c.step_at-step.result.now in
    let at = c.args.at in
    named_within (jump_target step) (length c.args.depths.now)
    (λ q e.
    next_within (plain_code c.args.code.now) (plain_block c.args.block.now) c.requires.sound c.args.depths.now c.requires.holds at step q (λ e. c.in-Some.ensures.known (c.in-Some.ensures.same ∙ e))
    c.step_at-step.ensures (next_to at step q e))

pub returns-clause-holds : goal.returns-clause-holds
returns-clause-holds c =
    let code = plain_code c.args.code.now in
    let step = c.step_at-step.result.now in
    holds_spread code (plain_block c.args.block.now) c.args.depths.now c.args.at step c.step_at-step.ensures c.in_ok-behind.behind c.spread.new.depths c.spread.result c.spread.ensures c.requires.holds
    (λ e. c.in-Some.ensures.known (c.in-Some.ensures.same ∙ e))
    (c.in_ok-behind.ensures.same ∙ c.depth_behind.ensures ∙ ap (λ d. depth_after code d step) c.in-Some.ensures.same)
