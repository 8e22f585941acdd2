use Rattle.std.proofs.Common.{◌++◌, ℕ, List, ap, ◌∙◌}
use Rattle.trace_ticks.specs.declared.status.Status.TheVariants as status
use Rattle.log_runs.specs.ReplayRuns.{difference_line}
use Rattle.log_runs.proofs.SayingLemmas.{said_front, said_behind}
use Rattle.log_runs.proofs.replaying.say_difference.Goals as goal

pub returns-in-Err-clause-says : goal.returns-in-Err-clause-says
returns-in-Err-clause-says g c =
    said_front g.K.Sink.held g.K.Sink.faults g.K.Sink.down c.args.waiting.now.bytes.items (difference_line c.args.at.thread c.args.at.number) status.Refused c.args.out.now c.flush.new.out c.flush.new.out c.in-Err.ensures.cause.failed c.in-Err.ensures.err

pub returns-clause-says : goal.returns-clause-says
returns-clause-says g c =
    let line : List ℕ = difference_line c.args.at.thread c.args.at.number in
    said_behind g.K.Sink.held g.K.Sink.faults g.K.Sink.down c.args.waiting.now.bytes.items line status.Refused c.args.out.now c.flush.new.out c.finish.new.out c.put_difference.new.waiting.bytes.items c.finish.result
    (c.put_difference.ensures.bytes_are ∙ ap (λ (b : List ℕ). b ++ line) c.in_default.ensures.empty) c.in_default.ensures.ok c.in_default.ensures.cause.later c.finish.ensures.says c.finish.ensures.memory
