use Rattle.std.proofs.Common.{◌≡◌, List, ℕ, rules, sym, ap, subst, ◌∙◌, refl, []}
use Rattle.std.proofs.lemmas.List.{with_items_is, places}
use Rattle.forec_kernel.specs.Shapes.{PlainKernel}
use Rattle.forec_kernel.specs.Ticks.{goes_on}
use Rattle.trace_rows.specs.SourceReads.{NextTook, ReadsBytes, none}
use Rattle.trace_rows.specs.Trace.{Row}
use Rattle.trace_ticks.specs.Progress.{GoesOnFrom}
use Rattle.trace_ticks.specs.Ticking.{Starts}
use Rattle.trace_ticks.proofs.Asking.{Going, MayAsk, going_start, going_sent, going_reads, going_more, reads_then}
use Rattle.trace_ticks.proofs.AtRow.{at_first, at_next}
use Rattle.trace_ticks.proofs.NextRows.{Gave, gave_row}
use Rattle.trace_ticks.proofs.Running.{OnceMore, Run, failed, fell_since, front_cut, front_now, run_of, stops, whole_end, whole_fault, whole_stop}
use Rattle.trace_ticks.proofs.ticks.run_rows.Given.{Over}
use Rattle.trace_ticks.proofs.ticks.run_rows.Goals.{After-next, After-put_outcome, After-tick}
use Rattle.trace_ticks.proofs.ticks.run_rows.Goals as goal

pub ticks-init : goal.ticks-init
ticks-init g c = record {
  going = λ k s. going_start g.S.Source.left g.S.Source.faults g.S.Source.down (λ turns. Unit {0}) (run_of c.args.session.now c.args.rows.now k) (g.T.Ticker.follows c.args.ticker.now k) (g.K.Sink.held c.args.out.now)
      c.args.session.now.waiting.bytes.items c.args.trace.now s.fresh c.requires.rows.number c.requires.session.opened;
  shape = refl;
  ready = refl;
  live = c.requires.going;
  kept = at_first c.requires.rows c.requires.ended;
}

-- ---- the sink failed

pub returns-in-Err-clause-write : goal.returns-in-Err-clause-write
returns-in-Err-clause-write g c = λ _. fell_since _ (g.K.Sink.faults c.ticks.out) _ _ c.ticks.invariant.kept.written c.in-Err.ensures.cause.failed

pub returns-in-Err-clause-front : goal.returns-in-Err-clause-front
returns-in-Err-clause-front g c = λ _ k s. front_cut (c.ticks.invariant.going k s).reached (g.K.Sink.held c.send_due.new.out) c.in-Err.ensures.err

pub returns-in-Err-clause-trace : goal.returns-in-Err-clause-trace
returns-in-Err-clause-trace g c = λ k s.
    let a = c.ticks.invariant.going k s in
    (a.given, reads_then g.S.Source.left g.S.Source.faults g.S.Source.down (GoesOnFrom c.args.session.now.waiting.format k c.args.session.now.budget c.args.rows.now) _ c.args.trace.now c.args.trace.now [] none (λ came may. may.0) a.reads)

-- ---- the lines were sent, and the next row was asked for

module _ (g : Over) (c : After-next g) (k : PlainKernel) (s : Starts (g.T.Ticker.shape c.args.ticker.now) (g.T.Ticker.follows c.args.ticker.now) k) where
  abbrev run : Run
  run = run_of c.args.session.now c.args.rows.now k

  so_far : Going g.S.Source.left g.S.Source.faults g.S.Source.down (λ turns. Unit {0}) run (g.T.Ticker.follows c.ticks.ticker k) c.ticks.rows (g.K.Sink.held c.args.out.now) (g.K.Sink.held c.send_due.new.out)
      c.send_due.new.waiting.bytes.items c.send_due.new.waiting.format c.ticks.row c.args.trace.now c.ticks.trace
  so_far = going_sent (c.ticks.invariant.going k s) c.send_due.ensures.format c.in_default.ensures.ok

  reads : (given : List ℕ) × ReadsBytes g.S.Source.left g.S.Source.faults g.S.Source.down (GoesOnFrom run.format k run.budget run.first) c.args.trace.now given c.next.new.source
  reads =
      let r = going_reads so_far (λ turns f. tt) c.next.new.source (NextTook c.ticks.rows c.next.new.self c.next.new.row c.next.result) c.next.ensures.reads in
      (r.0, reads_then g.S.Source.left g.S.Source.faults g.S.Source.down (GoesOnFrom run.format k run.budget run.first) (MayAsk (λ turns. Unit {0}) run) c.args.trace.now c.args.trace.now [] none (λ came may. may.0) r.1)

-- ---- the source failed

pub returns-in-ReadFault-clause-trace : goal.returns-in-ReadFault-clause-trace
returns-in-ReadFault-clause-trace g c = reads g (goal.at.returns-in-ReadFault-clause-trace g c).After-next

pub returns-in-ReadFault-clause-read : goal.returns-in-ReadFault-clause-read
returns-in-ReadFault-clause-read g c = λ _. fell_since _ (g.S.Source.faults c.ticks.trace) _ _ c.ticks.invariant.kept.read ((rw c.in-ReadFault.is at c.in-Err-next.ensures.fault) refl)

pub returns-in-ReadFault-clause-wanted : goal.returns-in-ReadFault-clause-wanted
returns-in-ReadFault-clause-wanted g c = λ _ k s.
    failed (so_far g (goal.at.returns-in-ReadFault-clause-wanted g c).After-next k s).reached c.next.new.self (g.S.Source.left c.next.new.source) (rw c.in-ReadFault.is at c.in-Err-next.ensures.bytes) c.in_default.ensures.all

-- ---- the trace has no further row: the last lines wait

pub returns-in-Ok-End-clause-trace : goal.returns-in-Ok-End-clause-trace
returns-in-Ok-End-clause-trace g c = reads g (goal.at.returns-in-Ok-End-clause-trace g c).After-next

pub returns-in-Ok-End-clause-own : goal.returns-in-Ok-End-clause-own
returns-in-Ok-End-clause-own g c = λ own k s.
    whole_end (so_far g (goal.at.returns-in-Ok-End-clause-own g c).After-next k s).reached (g.S.Source.left c.next.new.source) c.put_rows.new.self.bytes.items (rw c.in-Ok-End.field-0-is at c.in-Ok-End.ensures.trace) c.put_rows.ensures.bytes_are

pub returns-in_default-fault-clause-trace : goal.returns-in_default-fault-clause-trace
returns-in_default-fault-clause-trace g c = reads g (goal.at.returns-in_default-fault-clause-trace g c).After-next

pub returns-in_default-fault-clause-own : goal.returns-in_default-fault-clause-own
returns-in_default-fault-clause-own g c = λ own k s.
    let e = c.in-Err-next.ensures in
    whole_fault (so_far g (goal.at.returns-in_default-fault-clause-own g c).After-next k s).reached c.next.new.self c.next.new.row (g.S.Source.left c.next.new.source) c.put_row.new.self.bytes.items c.in-Err-next.fault
    e.trace c.in_default-fault.not-ReadFault e.memory c.put_row.ensures.bytes_are

-- ---- memory is wanting between two ticks

pub returns-in_default-tick-clause-trace : goal.returns-in_default-tick-clause-trace
returns-in_default-tick-clause-trace g c = reads g (goal.at.returns-in_default-tick-clause-trace g c).After-next

pub returns-in_default-tick-clause-ready : goal.returns-in_default-tick-clause-ready
returns-in_default-tick-clause-ready g c = λ _. sym c.ticks.invariant.ready ∙ c.in_default-tick.ensures.memory

pub returns-in_default-tick-clause-memory : goal.returns-in_default-tick-clause-memory
returns-in_default-tick-clause-memory g c = λ _ k s. front_now (so_far g (goal.at.returns-in_default-tick-clause-memory g c).After-next k s).reached

-- ---- a row was given, and its tick was run

gave : (g : Over) (c : After-tick g) → Gave c.ticks.rows c.next.new.self (g.S.Source.left c.ticks.trace) (g.S.Source.left c.next.new.source) c.next.new.row
gave g c =
    let e = c.in-Ok-Row.ensures in
    let row : Row = c.next.new.row in
    gave_row c.ticks.rows c.next.new.self row (g.S.Source.left c.ticks.trace) (g.S.Source.left c.next.new.source) (rw c.in-Ok-Row.field-0-is at e.bytes) (rw c.in-Ok-Row.field-0-is at e.trace) (rw c.in-Ok-Row.field-0-is at e.goes) e.same e.stays

once : (g : Over) (c : After-put_outcome g) (k : PlainKernel) →
    OnceMore k (g.T.Ticker.follows c.ticks.ticker k) (g.T.Ticker.follows c.tick.new.self k) (record { row = c.next.new.row; budget = c.args.session.now.budget }) c.in-Ok.outcome c.deref-in-ticks.result.now
once g c k =
    let are : c.deref.result.now ≡ c.next.new.row = c.deref.ensures.value ∙ with_items_is c.ticks.session.image.inputs c.next.new.row (search (rules, places)) in
    let outputs : c.deref-in-ticks.result.now ≡ c.tick.new.outputs = c.deref-in-ticks.ensures.value ∙ with_items_is c.ticks.session.image.outputs c.tick.new.outputs (search (rules, places)) in
    let t = c.in-Ok.ensures.tick in
    subst (λ (row : Row). OnceMore k (g.T.Ticker.follows c.ticks.ticker k) (g.T.Ticker.follows c.tick.new.self k) (record { row = row; budget = c.args.session.now.budget }) c.in-Ok.outcome c.deref-in-ticks.result.now) are
    (record { outcome = t.outcome k; outputs = λ turns f has. outputs ∙ t.outputs k turns f has; follows = t.follows k })

pub returns-in_default-outcome-clause-trace : goal.returns-in_default-outcome-clause-trace
returns-in_default-outcome-clause-trace g c = reads g (goal.at.returns-in_default-outcome-clause-trace g c).After-next

pub returns-in_default-outcome-clause-own : goal.returns-in_default-outcome-clause-own
returns-in_default-outcome-clause-own g c = λ own k s.
    let at = goal.at.returns-in_default-outcome-clause-own g c in
    whole_stop (so_far g at.After-next k s).reached (gave g at.After-tick) (once g at.After-put_outcome k) c.put_outcome.new.self.bytes.items (λ xs are. (c.put_outcome.ensures.lines xs are).bytes_are)
    c.last_status.result c.last_status.ensures (stops c.in-Ok.outcome c.in_default-outcome.not-Paused)

pub ticks-preserved : goal.ticks-preserved
ticks-preserved g c =
    let at = goal.at.ticks-preserved g c in
    let i = c.ticks.invariant in
    let e = c.in-Ok-Row.ensures in
    let there = gave g at.After-tick in
    let on = ap goes_on c.in-Paused.is in
    let told = c.put_outcome.ensures.format on in
    record {
      going = λ k s. going_more (so_far g at.After-next k s) (λ turns f. tt) c.next.new.source there (rw c.in-Ok-Row.field-0-is at e.reads) (once g at.After-put_outcome k)
          c.put_outcome.new.self.bytes.items (λ xs are. (c.put_outcome.ensures.lines xs are).bytes_are) on c.put_outcome.new.self.format told;
      shape = c.tick.ensures.shape ∙ i.shape;
      ready = c.tick.ensures.ready ∙ i.ready;
      live = c.in-Ok.ensures.live on;
      kept = at_next i.kept there refl refl c.send_due.ensures.format c.deref-in-ticks.result.now told e.ended e.later c.in_default.ensures.cause.later;
    }
