use Rattle.std.proofs.Common.{◌≡◌, length, ap, arith}
use Rattle.std.proofs.lemmas.List.{length-map}
use Rattle.forec_kernel.specs.declared.shape.Shape.{Shape}
use Rattle.forec_kernel.specs.Shapes.{plain_thread}
use Rattle.thread_code.specs.Plain.{plain_code}
use Rattle.exchange_replay.proofs.NewLemmas.{all_passed}
use Rattle.exchange_replay.proofs.walk.Walk.new.Goals as goal

pub returns-clause-passed : goal.returns-clause-passed
returns-clause-passed c pairs has =
    let mapped = length-map c.args.code.now.shape.threads.items plain_thread in
    let same : length c.shape-shape.result.now.threads.items ≡ length c.args.code.now.shape.threads.items = ap (λ (s : Shape). length s.threads.items) c.shape-shape.ensures.same in
    let count : length c.loop-thread.branches.items ≡ length (plain_code c.args.code.now).shape.threads =
    omega (arith, mapped, same, c.loop-thread.invariant.count, c.loop-thread-test.false, c.loop-thread.auto.thread-end, c.len-thread-end.ensures, c.shape-shape.result.now.threads.ok.0) in
    all_passed (plain_code c.args.code.now).shape c.args.log.now c.args.t c.shape-shape.ensures.valid.shape c.loop-thread.branches.items count c.loop-thread.invariant.made pairs has
