use Rattle.std.proofs.Common.{◌<◌, length, List, ℕ, subst, ◌∙◌, arith}
use Rattle.forec_kernel.specs.Shapes.{plain_kernel}
use Rattle.command_words.specs.Requests.{plain_running}
use Rattle.workload.specs.Text.{workload_text}
use Rattle.forec_engine.specs.Commands.{Of_refusal, Of_accepted, IsRefusal, WorkloadReport}
use Rattle.forec_engine.specs.Ends.{AcceptedSo}
use Rattle.forec_engine.specs.Placing.{IsRefusedRun}
use Rattle.text_verdict.specs.Judging.{Accepts, Judged, too_long, most_text_bytes}
use Rattle.text_verdict.specs.declared.refusal.Refusal.TheVariants as refusal
use Rattle.trace_ticks.proofs.Printing.{prints_as}
use Rattle.forec_engine.proofs.command.run_workload_text.Goals as goal

pub returns-in-Ok-accepted_text : goal.returns-in-Ok-accepted_text
returns-in-Ok-accepted_text g c =
    let a = c.in-Ok-accepted_text.accepted in
    let k = plain_kernel a.kernel in
    let running = plain_running c.args.running in
    let judged = subst (λ (t : List ℕ). Judged t (Accepts a.counts k)) (c.deref.ensures.value ∙ c.in-Ok.ensures) c.in-Ok-accepted_text.ensures.ok in
    prints_as g.K.Sink.held g.K.Sink.faults g.K.Sink.down _ _ _ _ _ c.args.out.now c.answer_workload.new.out Unit (WorkloadReport c.args.threads running) (AcceptedSo (λ k. IsRefusedRun k running) (workload_text c.args.threads)) ⊥ ⊥
    c.answer_workload.result (λ t. t) (λ t r is. Of_accepted a.counts k judged is) (λ m. (a.counts, k, judged, m)) (λ n. n) (λ n. n) (rw c.in-Ok-accepted_text.ensures.kept at c.answer_workload.ensures)

pub returns-then-len-gt-MAX_TEXT_BYTES : goal.returns-then-len-gt-MAX_TEXT_BYTES
returns-then-len-gt-MAX_TEXT_BYTES g c =
    let running = plain_running c.args.running in
    let long : most_text_bytes < length c.in-Ok.text.items = omega arith in
    let judged = too_long (subst (λ (t : List ℕ). most_text_bytes < length t) c.in-Ok.ensures long) in
    prints_as g.K.Sink.held g.K.Sink.faults g.K.Sink.down _ _ _ _ _ c.args.out.now c.refuse.new.out Unit (WorkloadReport c.args.threads running) (AcceptedSo (λ k. IsRefusedRun k running) (workload_text c.args.threads)) ⊥ ⊥
    c.refuse.result (λ t. t) (λ t r is. Of_refusal refusal.Long judged is) (λ n. absurd n) (λ n. n) (λ n. n) c.refuse.ensures

pub returns : goal.returns
returns g c =
    let running = plain_running c.args.running in
    prints_as g.K.Sink.held g.K.Sink.faults g.K.Sink.down _ _ _ _ _ c.args.out.now c.accepted_text.new.out Unit (WorkloadReport c.args.threads running) (AcceptedSo (λ k. IsRefusedRun k running) (workload_text c.args.threads)) ⊥ ⊥
    c.in-Err.end (λ t. t) (λ t r is. let why = subst (λ (t : List ℕ). IsRefusal t r) (c.deref.ensures.value ∙ c.in-Ok.ensures) is in Of_refusal why.0 why.1 why.2) (λ n. absurd n) (λ n. n) (λ n. n) c.in-Err.ensures.err
