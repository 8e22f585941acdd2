use Rattle.std.proofs.Common.{◌+◌, Some, length, sym, ap, ◌∙◌, subst, ⊎_elim}
use Rattle.std.specs.Prelude.{slice_get}
use Rattle.thread_code.specs.Plain.{plain_code}
use Rattle.tick_jobs.proofs.Lists.{get_then, length_then}
use Rattle.one_core.specs.Loads.{IsNewThread}
use Rattle.one_core.proofs.load.seats_of.Goals as goal

pub loop-thread-preserved : goal.loop-thread-preserved
loop-thread-preserved c =
    let items = c.in_ok-push.ensures.items in
    let made = c.in_ok-thread_of.field-0 in
    record {
      count = ap length items ∙ length_then c.loop-thread.seats.items (Some made) ∙ ap (λ n. n + 1) c.loop-thread.invariant.count;
      each = λ t s at.
          ⊎_elim (λ p. (made, p.1, subst (λ n. IsNewThread (plain_code c.args.code.now) n made) (sym (p.0 ∙ c.loop-thread.invariant.count)) c.in_ok-thread_of.ensures))
          (λ old. c.loop-thread.invariant.each t s old) (get_then c.loop-thread.seats.items (Some made) t s (ap (λ l. slice_get l t) (sym items) ∙ at));
    }
