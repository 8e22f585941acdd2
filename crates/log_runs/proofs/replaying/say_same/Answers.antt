use Rattle.std.proofs.Common.{◌++◌, ℕ, List, codes, ap, ◌∙◌}
use Rattle.log_runs.proofs.SayingLemmas.{said_front, said_behind}
use Rattle.log_runs.proofs.replaying.say_same.Goals as goal

pub returns-in-Err-clause-says : goal.returns-in-Err-clause-says
returns-in-Err-clause-says g c =
    said_front g.K.Sink.held g.K.Sink.faults g.K.Sink.down c.args.waiting.now.bytes.items (codes "replay ok\n") c.args.end c.args.out.now c.flush.new.out c.flush.new.out c.in-Err.ensures.cause.failed c.in-Err.ensures.err

pub returns-clause-says : goal.returns-clause-says
returns-clause-says g c =
    let line : List ℕ = codes "replay ok\n" in
    said_behind g.K.Sink.held g.K.Sink.faults g.K.Sink.down c.args.waiting.now.bytes.items line c.args.end c.args.out.now c.flush.new.out c.finish.new.out c.put.new.self.bytes.items c.finish.result
    (c.put.ensures.bytes_are ∙ ap (λ (b : List ℕ). b ++ line) c.in_default.ensures.empty) c.in_default.ensures.ok c.in_default.ensures.cause.later c.finish.ensures.says c.finish.ensures.memory
