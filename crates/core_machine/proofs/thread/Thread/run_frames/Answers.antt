use Rattle.std.proofs.Common.{◌∙◌, refl, sym, subst}
use Rattle.thread_code.specs.Plain.{plain_code}
use Rattle.thread_code.specs.Fused.{AreFused}
use Rattle.thread_steps.specs.BlockRun.{block_for}
use Rattle.thread_steps.proofs.Nearing.{fused_block}
use Rattle.thread_steps.specs.declared.block_run.Stop.TheVariants as stop
use Rattle.core_machine.specs.RunParts.{Moved, RunsBlock, Calls, Returns, ComesToEvent, over, CanStop}
use Rattle.core_machine.proofs.Moving.{moved_then, comes_then}
use Rattle.core_machine.proofs.thread.Thread.run_frames.Goals as goal
use Rattle.core_machine.proofs.thread.Thread.run_frames.Goals.{After-run_frame}

-- what the frame's run did, and where the thread has come by it
ran_at : (c : goal.After-run_frame) → RunsBlock (plain_code c.args.code.now) c.loop-function.self c.run_frame.new.self c.run_frame.result
ran_at c = subst (λ p. RunsBlock (plain_code p) c.loop-function.self c.run_frame.new.self c.run_frame.result) c.parts-parts.ensures.same c.run_frame.ensures

moved_at : (c : goal.After-run_frame) → Moved (plain_code c.args.code.now) c.args.self.now c.run_frame.new.self
moved_at c = moved_then _ _ _ _ c.loop-function.invariant.moved (ran_at c).moved

pub loop-function-preserved-in-Calls : goal.loop-function-preserved-in-Calls
loop-function-preserved-in-Calls c =
    let code = plain_code c.args.code.now in
    let old = c.args.self.now in
    let h = c.run_frame.new.self in
    let ran = ran_at (goal.at.loop-function-preserved-in-Calls c).After-run_frame in
    let made = subst (λ p. Calls (plain_code p) h c.call.new.self) c.parts-parts.ensures.same c.call.ensures in
    record {
      moved = moved_then code old h c.call.new.self (moved_at (goal.at.loop-function-preserved-in-Calls c).After-run_frame) made.goes.moved;
      running = made.goes.phase ∙ ran.phase ∙ c.loop-function.invariant.running;
    }

pub loop-function-preserved : goal.loop-function-preserved
loop-function-preserved c =
    let code = plain_code c.args.code.now in
    let old = c.args.self.now in
    let h = c.run_frame.new.self in
    let ran = ran_at (goal.at.loop-function-preserved c).After-run_frame in
    let made = subst (λ p. Returns (plain_code p) h c.return_to_caller.new.self) c.parts-parts.ensures.same c.return_to_caller.ensures in
    record {
      moved = moved_then code old h c.return_to_caller.new.self (moved_at (goal.at.loop-function-preserved c).After-run_frame) made.goes.moved;
      running = made.goes.phase ∙ ran.phase ∙ c.loop-function.invariant.running;
    }

pub returns-in-Pauses : goal.returns-in-Pauses
returns-in-Pauses c =
    let code = plain_code c.args.code.now in
    let h = c.run_frame.new.self in
    comes_then code c.args.self.now h c.pause.new.self (moved_at (goal.at.returns-in-Pauses c).After-run_frame) c.pause.result (subst (λ p. ComesToEvent (plain_code p) h c.pause.new.self c.pause.result) c.parts-parts.ensures.same c.pause.ensures)

pub returns-in-Ends : goal.returns-in-Ends
returns-in-Ends c =
    let code = plain_code c.args.code.now in
    let h = c.run_frame.new.self in
    comes_then code c.args.self.now h c.end.new.self (moved_at (goal.at.returns-in-Ends c).After-run_frame) c.end.result (subst (λ p. ComesToEvent (plain_code p) h c.end.new.self c.end.result) c.parts-parts.ensures.same c.end.ensures)

pub returns-in-Forks : goal.returns-in-Forks
returns-in-Forks c =
    let code = plain_code c.args.code.now in
    let h = c.run_frame.new.self in
    comes_then code c.args.self.now h c.fork.new.self (moved_at (goal.at.returns-in-Forks c).After-run_frame) c.fork.result (subst (λ p. ComesToEvent (plain_code p) h c.fork.new.self c.fork.result) c.parts-parts.ensures.same c.fork.ensures)

pub returns-in-Traps : goal.returns-in-Traps
returns-in-Traps c =
    let code = plain_code c.args.code.now in
    let h = c.run_frame.new.self in
    comes_then code c.args.self.now h c.trap.new.self (moved_at (goal.at.returns-in-Traps c).After-run_frame) c.trap.result (subst (λ p. ComesToEvent (plain_code p) h c.trap.new.self c.trap.result) c.parts-parts.ensures.same c.trap.ensures)

pub returns-in-Over : goal.returns-in-Over
returns-in-Over c =
    let code = plain_code c.args.code.now in
    let h = c.run_frame.new.self in
    let ran = subst (λ p. RunsBlock (plain_code p) c.loop-function.self h stop.Over) c.parts-parts.ensures.same c.in-Over.ensures in
    let m = moved_then code c.args.self.now c.loop-function.self h c.loop-function.invariant.moved ran.moved in
    record {
      moved = m;
      shown = over ran.shows;
      stops = subst CanStop (sym (ran.phase ∙ c.loop-function.invariant.running)) refl;
      none = λ before e. let k = sym e ∙ (ran.phase ∙ c.loop-function.invariant.running) in cc;
    }

pub run_frame-requires-clause-fused : goal.run_frame-requires-clause-fused
run_frame-requires-clause-fused c =
    let h = c.loop-function.self in
    subst (λ p. AreFused (block_for (plain_code p) h.number h.function).steps c.fused-fused.result.now) (sym c.parts-parts.ensures.same)
    (fused_block (plain_code c.args.code.now) h.number h.function c.fused-fused.result.now c.fused-fused.ensures)
