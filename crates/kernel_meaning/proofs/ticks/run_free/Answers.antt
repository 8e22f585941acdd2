use Rattle.std.proofs.Common.{◌≡◌, ◌∙◌, true, sym, arith}
use Rattle.forec_kernel.specs.Shapes.{plain_kernel}
use Rattle.forec_kernel.specs.Texts.{is_running}
use Rattle.running_threads.specs.Views.{plain_running_thread, plain_status}
use Rattle.kernel_meaning.proofs.Running.{advance_goes, advance_pays, then_goes, free_falls}
use Rattle.kernel_meaning.proofs.ticks.run_free.Goals as goal

pub free-preserved : goal.free-preserved
free-preserved c =
    let runs : is_running (plain_status c.free.main.status) ≡ true = sym c.runs.ensures ∙ c.free-test.true in
    let pays = advance_pays (plain_kernel c.args.kernel.now) _ _ _ _ _ c.in-Ok.ensures in
    let left = c.free.invariant.same in
    record {
      on = λ budget from a. (advance_goes (plain_kernel c.args.kernel.now) _ _ _ _ _ runs c.in-Ok.ensures).on budget from (c.free.invariant.on budget from a);
      same = omega arith;
    }

pub free-smaller : goal.free-smaller
free-smaller c =
    let runs : is_running (plain_status c.free.main.status) ≡ true = sym c.runs.ensures ∙ c.free-test.true in
    let pays = advance_pays (plain_kernel c.args.kernel.now) _ _ _ _ _ c.in-Ok.ensures in
    let left = c.free.invariant.same in
    free_falls (plain_kernel c.args.kernel.now) _ _ _ _ _ runs c.in-Ok.ensures (omega arith)

pub returns-then-left-before : goal.returns-then-left-before
returns-then-left-before c =
    let runs : is_running (plain_status c.free.main.status) ≡ true = sym c.runs.ensures ∙ c.free-test.true in
    record {
      on = then_goes (plain_kernel c.args.kernel.now) (plain_running_thread c.args.main.now) (plain_running_thread c.free.main) _ _ _ _ _ c.free.invariant.on
          (advance_goes (plain_kernel c.args.kernel.now) _ _ _ _ _ runs c.in-Ok.ensures);
      paid = (omega arith, λ _. c.if-left-before.true);
    }

pub returns-in-Err : goal.returns-in-Err
returns-in-Err c =
    let runs : is_running (plain_status c.free.main.status) ≡ true = sym c.runs.ensures ∙ c.free-test.true in
    record {
      on = then_goes (plain_kernel c.args.kernel.now) (plain_running_thread c.args.main.now) (plain_running_thread c.free.main) _ _ _ _ _ c.free.invariant.on
          (advance_goes (plain_kernel c.args.kernel.now) _ _ _ _ _ runs c.in-Err.ensures);
      paid = tt;
    }

pub returns : goal.returns
returns c =
    let stopped = sym c.runs.ensures ∙ c.free-test.false in
    let left = c.free.invariant.same in
    record { on = record { on = c.free.invariant.on }; paid = (omega arith, λ r. absurd (cc)) }
