use Rattle.std.specs.Prelude.{codes}
use Rattle.std.proofs.Common.{◌≡◌, ◌+◌, ◌++◌, ◌∷◌, ℕ, false, List, [], length, rules, refl, sym, ap, subst, ◌∙◌, arith}
use Rattle.std.proofs.lemmas.List.{with_items_is, places}
use Rattle.forec_kernel.specs.Shapes.{PlainKernel}
use Rattle.forec_kernel.specs.declared.shape.Outcome.{Outcome}
use Rattle.forec_kernel.specs.declared.shape.Outcome.TheVariants as outcome
use Rattle.forec_kernel.specs.Ticks.{Tick, goes_on, tick}
use Rattle.tick_jobs.specs.Outcomes.{HasOutputs}
use Rattle.trace_rows.specs.Report.{trap_words, over_words}
use Rattle.trace_rows.specs.Trace.{Row}
use Rattle.trace_ticks.specs.Formats.{last_written}
use Rattle.trace_ticks.specs.Progress.{IsPut}
use Rattle.trace_ticks.specs.Ticking.{Starts}
use Rattle.trace_ticks.specs.WaitingRoom.{GainsBytes, HasRoomFor}
use Rattle.trace_ticks.specs.Workload.{ticked_report, ticks_report, workload_line, zero_row}
use Rattle.trace_ticks.specs.declared.waiting.Waiting.{Waiting}
use Rattle.trace_ticks.specs.declared.status.Status.{Status}
use Rattle.trace_ticks.specs.declared.status.Status.TheVariants as status
use Rattle.trace_ticks.proofs.TickingLemmas.{Gone, gone_none, gone_more, stopped, number, total_is, ended, made_outcome, made_outputs, made_turns, put_report}
use Rattle.trace_ticks.proofs.generated.run_workload.Given.{Over}
use Rattle.trace_ticks.proofs.generated.run_workload.Goals.{In-Ok}
use Rattle.trace_ticks.proofs.generated.run_workload.Goals as goal

pub loop-tick-init : goal.loop-tick-init
loop-tick-init g c =
    record {
      gone = λ k s. gone_none k c.args.budget (g.T.Ticker.follows c.args.ticker.now k) s.fresh;
      shape = refl;
      live = c.requires.live;
      ready = c.requires.ready;
      waits = refl;
      row = c.requires.zeros;
      outputs = c.requires.outputs;
    }

pub put_workload-requires : goal.put_workload-requires
put_workload-requires g c = subst (λ (w : Waiting). HasRoomFor w 128) (sym c.loop-tick.invariant.waits) c.requires.room

pub put_workload-requires-2 : goal.put_workload-requires-2
put_workload-requires-2 g c = subst (λ (w : Waiting). HasRoomFor w 128) (sym c.loop-tick.invariant.waits) c.requires.room

pub put_trap-requires : goal.put_trap-requires
put_trap-requires g c = let room = subst (λ (w : Waiting). HasRoomFor w 128) (sym c.loop-tick.invariant.waits) c.requires.room in omega (arith, room)

pub put_over-requires : goal.put_over-requires
put_over-requires g c = let room = subst (λ (w : Waiting). HasRoomFor w 128) (sym c.loop-tick.invariant.waits) c.requires.room in omega (arith, room)

-- ---- a tick was run

module _ (g : Over) (c : In-Ok g) (k : PlainKernel) (s : Starts (g.T.Ticker.shape c.args.ticker.now) (g.T.Ticker.follows c.args.ticker.now) k) where
  -- the ticks before it
  abbrev before : Gone k c.args.budget (g.T.Ticker.follows c.loop-tick.ticker k) c.loop-tick.tick c.loop-tick.sum
  before = c.loop-tick.invariant.gone k s

  zeros : c.deref.result.now ≡ zero_row k.shape
  zeros = c.deref.ensures.value ∙ c.loop-tick.invariant.row ∙ ap zero_row (sym s.shaped)

  went : c.in-Ok.outcome ≡ (tick k c.args.budget before.state (zero_row k.shape)).outcome
  went = made_outcome k c.args.budget before.turns before.state before.led c.deref.result.now zeros c.in-Ok.outcome (c.in-Ok.ensures.tick.outcome k before.turns before.follows)

  told : HasOutputs c.in-Ok.outcome → c.tick.new.outputs ≡ (tick k c.args.budget before.state (zero_row k.shape)).outputs
  told has = made_outputs k c.args.budget before.turns before.state before.led c.deref.result.now zeros c.tick.new.outputs (c.in-Ok.ensures.tick.outputs k before.turns before.follows has)

  -- the last tick has the last line
  last_line : (new : Waiting) (o : Outcome) (words : ℕ → List ℕ) (end : Status) → c.in-Ok.outcome ≡ o → goes_on o ≡ false →
      ((ticks : List Tick) → ticks_report c.args.threads c.args.budget ticks o ≡ record { bytes = words (length ticks) ++ codes "\n"; status = end }) →
      GainsBytes c.loop-tick.waiting new (last_written c.loop-tick.waiting.format (words (c.loop-tick.tick + 1))) → IsPut c.args.waiting.now new (ticked_report c.args.threads k c.args.budget) end
  last_line new o words end is off says put =
      let i = c.loop-tick.invariant in
      let n = c.loop-tick.tick in
      let F = g.T.Ticker.follows c.loop-tick.ticker k in
      let plain = ap (λ (w : Waiting). w.format) i.waits ∙ c.requires.plain.1 in
      put_report c.loop-tick.waiting c.args.waiting.now new (last_written c.loop-tick.waiting.format (words (n + 1))) _ _ end i.waits
      (stopped k c.args.budget F n c.loop-tick.sum before c.args.threads o c.loop-tick-test.true (sym is ∙ went) off ∙ says (before.done ++ tick k c.args.budget before.state (zero_row k.shape) ∷ []))
      (ap (λ f. last_written f (words (n + 1))) plain ∙ ap (λ m. words m ++ codes "\n") (sym (number k c.args.budget F n c.loop-tick.sum before))) refl put

pub loop-tick-preserved : goal.loop-tick-preserved
loop-tick-preserved g c =
    let at = (goal.at.loop-tick-preserved g c).In-Ok in
    let i = c.loop-tick.invariant in
    let on = ap goes_on c.in-Paused.is in
    let kept : length c.tick.new.outputs ≡ length c.loop-tick.image.outputs.items = search rules in
    record {
      gone = λ k s.
          let b = before g at k s in
          let values = c.deref-in-Paused.ensures.value ∙ with_items_is c.loop-tick.image.outputs c.tick.new.outputs (search (rules, places)) ∙ told g at k s (subst HasOutputs (sym c.in-Paused.is) tt) in
          let F = g.T.Ticker.follows c.tick.new.self k in
          gone_more k c.args.budget (g.T.Ticker.follows c.loop-tick.ticker k) c.loop-tick.tick c.loop-tick.sum b F c.deref-in-Paused.result.now c.with_values-sum.result c.loop-tick-test.true (sym (went g at k s) ∙ c.in-Paused.is) values c.with_values-sum.ensures
          (made_turns k c.args.budget b.turns b.state b.led c.deref.result.now (zeros g at k s) F (c.in-Ok.ensures.tick.follows k b.turns b.follows));
      shape = c.tick.ensures.shape ∙ i.shape;
      live = c.in-Ok.ensures.live on;
      ready = c.tick.ensures.ready ∙ i.ready;
      waits = i.waits;
      row = i.row;
      outputs = ap (λ (v : Row). length v) (with_items_is c.loop-tick.image.outputs c.tick.new.outputs (search (rules, places))) ∙ kept ∙ i.outputs;
    }

pub returns-in-Trapped-clause-report : goal.returns-in-Trapped-clause-report
returns-in-Trapped-clause-report g c = λ k s.
    last_line g (goal.at.returns-in-Trapped-clause-report g c).In-Ok k s c.put_trap.new.self (outcome.Trapped c.in-Trapped.place c.in-Trapped.trap) (λ n. trap_words n c.in-Trapped.place c.in-Trapped.trap) status.Trapped c.in-Trapped.is refl
    (λ ticks. refl) c.put_trap.ensures

pub returns-in-Over-clause-report : goal.returns-in-Over-clause-report
returns-in-Over-clause-report g c = λ k s.
    last_line g (goal.at.returns-in-Over-clause-report g c).In-Ok k s c.put_over.new.self outcome.Over (λ n. over_words n c.args.budget) status.Over c.in-Over.is refl (λ ticks. refl) c.put_over.ensures

pub returns-in-Ended-clause-report : goal.returns-in-Ended-clause-report
returns-in-Ended-clause-report g c = λ k s.
    let at = (goal.at.returns-in-Ended-clause-report g c).In-Ok in
    let b = before g at k s in
    let count = c.loop-tick.tick in
    let F = g.T.Ticker.follows c.loop-tick.ticker k in
    let values = c.deref-in-Ended.ensures.value ∙ with_items_is c.loop-tick.image.outputs c.tick.new.outputs (search (rules, places)) ∙ told g at k s (subst HasOutputs (sym c.in-Ended.is) tt) in
    let total = total_is k c.args.budget F count c.loop-tick.sum b c.deref-in-Ended.result.now c.with_values.result values c.with_values.ensures in
    put_report c.loop-tick.waiting c.args.waiting.now c.put_workload.new.self (workload_line c.args.threads c.with_values.result) _ _ status.Done c.loop-tick.invariant.waits
    (stopped k c.args.budget F count c.loop-tick.sum b c.args.threads outcome.Ended c.loop-tick-test.true (sym c.in-Ended.is ∙ went g at k s) refl) (ap (workload_line c.args.threads) total) refl c.put_workload.ensures

pub returns-clause-report : goal.returns-clause-report
returns-clause-report g c = λ k s.
    let i = c.loop-tick.invariant in
    let gone = i.gone k s in
    let F = g.T.Ticker.follows c.loop-tick.ticker k in
    put_report c.loop-tick.waiting c.args.waiting.now c.put_workload-2.new.self (workload_line c.args.threads c.loop-tick.sum) _ _ status.Done i.waits
    (ended k c.args.budget F c.loop-tick.tick c.loop-tick.sum gone c.args.threads c.loop-tick-test.false) (ap (workload_line c.args.threads) gone.summed) refl c.put_workload-2.ensures
