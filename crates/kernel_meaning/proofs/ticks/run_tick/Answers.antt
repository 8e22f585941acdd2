use Rattle.std.proofs.Common.{◌≡◌, ◌∙◌, true, sym}
use Rattle.forec_kernel.specs.Shapes.{plain_kernel}
use Rattle.forec_kernel.specs.Texts.{is_running}
use Rattle.running_threads.specs.Views.{plain_running_thread, plain_status}
use Rattle.kernel_meaning.proofs.Running.{then_goes, outer_falls}
use Rattle.kernel_meaning.proofs.ticks.run_tick.Goals as goal

pub steps-preserved : goal.steps-preserved
steps-preserved c = λ budget from a. c.in-Ok.ensures.on.on budget from (c.steps.invariant budget from a)

pub steps-smaller : goal.steps-smaller
steps-smaller c =
    let runs : is_running (plain_status c.steps.main.status) ≡ true = sym c.runs.ensures ∙ c.steps-test.true in
    outer_falls _ _ (is_running (plain_status c.steps.main.status)) (is_running (plain_status c.run_free.new.main.status)) runs c.in-Ok.ensures.paid.0 c.in-Ok.ensures.paid.1

pub returns-in-Err : goal.returns-in-Err
returns-in-Err c =
    record {
      on = then_goes (plain_kernel c.args.kernel.now) (plain_running_thread c.args.main.now) (plain_running_thread c.steps.main) _ _ _ _ _ c.steps.invariant c.in-Err.ensures.on;
      stopped = tt;
    }

pub returns : goal.returns
returns c = record { on = record { on = c.steps.invariant }; stopped = sym c.runs.ensures ∙ c.steps-test.false }
