use Rattle.std.proofs.Common.{◌≡◌, ◌++◌, ℕ, List, codes, decimal, ap, subst, ◌∙◌}
use Rattle.trace_ticks.specs.Prints.{PrintsReport}
use Rattle.trace_ticks.specs.declared.status.Status.TheVariants as status
use Rattle.log_runs.specs.ReplayRuns.{no_log}
use Rattle.log_runs.proofs.replaying.say_no_log.Goals as goal

pub returns : goal.returns
returns g c =
    let n = c.args.line in
    let first = c.put.ensures.bytes_are ∙ ap (λ (b : List ℕ). b ++ codes "refused log ") c.in-Ok.ensures.empty in
    let bytes : c.put-2.new.self.bytes.items ≡ (no_log n).bytes =
    c.put-2.ensures.bytes_are ∙ ap (λ (b : List ℕ). b ++ codes "\n") (c.put_number.ensures.number.bytes_are ∙ ap (λ (b : List ℕ). b ++ decimal n) first) in
    subst (λ (b : List ℕ). PrintsReport g.K.Sink.held g.K.Sink.faults g.K.Sink.down (record { bytes = b; status = status.Refused }) (status.Refused ≡ status.Usage) c.args.out.now c.finish.new.out c.finish.result) bytes c.finish.ensures.says
