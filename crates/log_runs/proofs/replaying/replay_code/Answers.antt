use Rattle.std.proofs.Common.{◌≡◌, ℕ, List, Ok, Some, subst}
use Rattle.forec_base.specs.declared.limits.TheConstants.{MAX_ROWS}
use Rattle.thread_code.specs.Plain.{plain_code}
use Rattle.trace_ticks.specs.Prints.{PrintsReport}
use Rattle.trace_ticks.specs.declared.status.Status.TheVariants as status
use Rattle.log_runs.specs.ReplayRuns.{differing}
use Rattle.log_runs.proofs.ReplayLemmas.{thread_said}
use Rattle.log_runs.proofs.replaying.replay_code.Goals as goal

pub returns-in-Ok : goal.returns-in-Ok
returns-in-Ok g c = λ text k from fine stands.
    let at = c.in-Ok-Some.at in
    let whole = c.in-Ok-Some.is in
    let outer = c.in-Ok-Some.field-0-is in
    let inner = c.in-Ok-Some.at-is in
    let is : c.first_difference.result ≡ Ok (Some c.in-Ok-Some.at) = cc in
    thread_said g.S.Source.left g.S.Source.faults g.S.Source.down g.K.Sink.held g.K.Sink.faults g.K.Sink.down MAX_ROWS k c.args.budget text c.args.trace.now c.args.out.now c.say_difference.new.out (plain_code c.args.code.now)
    at.thread at.number c.args.log.now c.say_difference.result fine stands from (c.first_difference.ensures.some at.thread at.number is from.log from.pairs)
    (subst (λ (b : List ℕ). PrintsReport g.K.Sink.held g.K.Sink.faults g.K.Sink.down (differing b at.thread at.number) (status.Refused ≡ status.Usage) c.args.out.now c.say_difference.new.out c.say_difference.result) c.in-Ok.ensures.empty
    c.say_difference.ensures.says)
