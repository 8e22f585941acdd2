use Rattle.std.proofs.Common.{◌≡◌, true, length, ap, arith}
use Rattle.forec_kernel.specs.declared.shape.Shape.{Shape}
use Rattle.forec_kernel.specs.Packets.{PlainPacket}
use Rattle.thread_code.specs.Plain.{plain_code}
use Rattle.tick_jobs.proofs.TickOutcome.{blank_of}
use Rattle.exchange_replay.specs.declared.replayer.Replayer.{Replayer}
use Rattle.exchange_replay.proofs.RootLemmas.{none_replayed}
use Rattle.exchange_replay.proofs.replayer.Replayer.new.Goals as goal

pub new-requires-clause-thread : goal.new-requires-clause-thread
new-requires-clause-thread c = let v = c.shape.ensures.valid in let some = v.shape.some in omega (arith, some, v.threads)

pub returns-clause-none : goal.returns-clause-none
returns-clause-none c pairs has =
    let w = c.in_ok-new.ensures in
    let same = ap (λ (s : Shape). length s.variables.items) c.shape.ensures.same in
    let count : c.len-variables.result ≡ length c.args.code.now.shape.variables.items = omega (arith, c.len-variables.ensures, c.shape.result.now.variables.ok.0, same) in
    let r : Replayer = record { walk = c.in_ok-new.field-0; root = c.in_ok-new-2.field-0; live = true } in
    none_replayed (plain_code c.args.code.now) c.shape.ensures.valid c.args.log.now pairs r w.loaded w.number w.resting w.stands (w.passed pairs has) c.len-variables.result count c.in_ok-new-2.ensures
    (blank_of c.in_ok-new-2.field-0.kind (ap (λ (q : PlainPacket). q.kind) c.in_ok-new-2.ensures))
