use Rattle.std.proofs.Common.{◌≡◌, ◌-◌, List, ℕ, rules, length, ap, subst, ◌∙◌, refl, arith, ◌++◌, ◌∷◌, [], length-append}
use Rattle.std.proofs.lemmas.List.{with_items_is, places}
use Rattle.forec_kernel.specs.Shapes.{PlainKernel}
use Rattle.forec_kernel.specs.Ticks.{goes_on}
use Rattle.thread_code.specs.Plain.{plain_code}
use Rattle.exchange_meaning.specs.Logged.{ExchangeLog}
use Rattle.exchange_replay.specs.Rooted.{CannotTick, HasReplayed, goes_on_after}
use Rattle.exchange_replay.specs.declared.replayer.Step.TheVariants as step
use Rattle.tick_jobs.specs.Outcomes.{HasOutputs}
use Rattle.trace_rows.specs.SourceReads.{NextTook, ReadsBytes}
use Rattle.trace_rows.specs.Trace.{Row}
use Rattle.trace_ticks.proofs.Asking.{Going, going_start, going_sent, going_reads, going_more}
use Rattle.trace_ticks.proofs.AtRow.{at_first, at_next}
use Rattle.trace_ticks.proofs.NextRows.{Gave, gave_row}
use Rattle.trace_ticks.proofs.Running.{OnceMore, Run, at_end, at_fault, at_stop, failed, fell_since, row_within, run_of, stops, turn_of, waits_so}
use Rattle.log_runs.specs.RootWalks.{IsHeldTo, MayReadFrom, RootRuns}
use Rattle.log_runs.proofs.RootTicks.{once_replayed}
use Rattle.log_runs.proofs.RowWalks.{differs_at, going_failed, has_walked, own_after, some_all, ticks_before, was_cut}
use Rattle.log_runs.proofs.replaying.replay_rows.Given.{Over}
use Rattle.log_runs.proofs.replaying.replay_rows.Goals.{After-next, After-put_outcome, After-tick-step}
use Rattle.log_runs.proofs.replaying.replay_rows.Goals as goal

pub ticks-init : goal.ticks-init
ticks-init g c =
    let C = plain_code c.args.code.now in
    record {
      going = λ k pairs holds. going_start g.S.Source.left g.S.Source.faults g.S.Source.down (RootRuns C pairs) (run_of c.args.session.now c.args.rows.now k) (HasReplayed C c.args.log.now pairs c.args.replayer.now) (g.K.Sink.held c.args.out.now)
          c.args.session.now.waiting.bytes.items c.args.trace.now (c.requires.fresh pairs holds.pairs) c.requires.rows.number c.requires.session.opened;
      some = λ pairs has. ([], c.requires.fresh pairs has);
      live = c.requires.live;
      kept = at_first c.requires.rows c.requires.ended;
    }

-- ---- a tick can be replayed

pub tick-step-requires : goal.tick-step-requires
tick-step-requires g c =
    let some = c.ticks.invariant.some c.requires.log.log c.requires.log.pairs in
    let inputs : length c.deref.result.now ≡ length (plain_code c.args.code.now).shape.inputs = search rules in
    let places : length c.deref_mut-in-ticks.result.now ≡ length (plain_code c.args.code.now).shape.outputs = search rules in
    record {
      can = record {
        is = record { log = c.requires.log.log; turns = some.0; has = some.1 };
        live = c.ticks.invariant.live;
        inputs = inputs;
        places = places;
        small = c.requires.session.small;
      };
    }

-- ---- the sink failed

pub returns-in-Err-clause-went : goal.returns-in-Err-clause-went
returns-in-Err-clause-went g c = λ k pairs holds.
    let a = c.ticks.invariant.going k pairs holds in was_cut a.reached (plain_code c.args.code.now) pairs a.reached.follows.run (g.K.Sink.held c.send_due.new.out) c.in-Err.ensures.err

pub returns-in-Err-clause-ends : goal.returns-in-Err-clause-ends
returns-in-Err-clause-ends g c = fell_since _ (g.K.Sink.faults c.ticks.out) _ _ c.ticks.invariant.kept.written c.in-Err.ensures.cause.failed

pub returns-in-Err-clause-trace : goal.returns-in-Err-clause-trace
returns-in-Err-clause-trace g c = λ k pairs holds.
    let a = c.ticks.invariant.going k pairs holds in (a.given, a.reads)

-- ---- the lines were sent, and the next row was asked for

module _ (g : Over) (c : After-next g) (k : PlainKernel) (pairs : ExchangeLog) (holds : IsHeldTo (plain_code c.args.code.now) c.args.log.now k pairs) where
  abbrev run : Run
  run = run_of c.args.session.now c.args.rows.now k

  so_far : Going g.S.Source.left g.S.Source.faults g.S.Source.down (RootRuns (plain_code c.args.code.now) pairs) run (HasReplayed (plain_code c.args.code.now) c.args.log.now pairs c.ticks.replayer) c.ticks.rows (g.K.Sink.held c.args.out.now)
      (g.K.Sink.held c.send_due.new.out) c.send_due.new.waiting.bytes.items c.send_due.new.waiting.format c.ticks.row c.args.trace.now c.ticks.trace
  so_far = going_sent (c.ticks.invariant.going k pairs holds) c.send_due.ensures.format c.in_default.ensures.ok

  reads : (given : List ℕ) × ReadsBytes g.S.Source.left g.S.Source.faults g.S.Source.down (MayReadFrom (plain_code c.args.code.now) pairs run.format k run.budget run.first) c.args.trace.now given c.next.new.source
  reads = going_reads so_far (λ turns f. f.run) c.next.new.source (NextTook c.ticks.rows c.next.new.self c.next.new.row c.next.result) c.next.ensures.reads

-- ---- the source failed

pub returns-in-ReadFault-clause-trace : goal.returns-in-ReadFault-clause-trace
returns-in-ReadFault-clause-trace g c = reads g (goal.at.returns-in-ReadFault-clause-trace g c).After-next

pub returns-in-ReadFault-clause-went : goal.returns-in-ReadFault-clause-went
returns-in-ReadFault-clause-went g c = λ k pairs holds. some_all (g.S.Source.left c.args.trace.now) _ (λ x. tt)

pub returns-in-ReadFault-clause-ends : goal.returns-in-ReadFault-clause-ends
returns-in-ReadFault-clause-ends g c = fell_since _ (g.S.Source.faults c.ticks.trace) _ _ c.ticks.invariant.kept.read ((rw c.in-ReadFault.is at c.in-Err-next.ensures.fault) refl)

pub returns-in-ReadFault-clause-wanted : goal.returns-in-ReadFault-clause-wanted
returns-in-ReadFault-clause-wanted g c = λ _ k pairs holds.
    failed (so_far g (goal.at.returns-in-ReadFault-clause-wanted g c).After-next k pairs holds).reached c.next.new.self (g.S.Source.left c.next.new.source) (rw c.in-ReadFault.is at c.in-Err-next.ensures.bytes) c.in_default.ensures.all

pub returns-in-ReadFault-clause-comes : goal.returns-in-ReadFault-clause-comes
returns-in-ReadFault-clause-comes g c = λ _ k pairs holds.
    going_failed (so_far g (goal.at.returns-in-ReadFault-clause-comes g c).After-next k pairs holds) (λ turns f. f.run) c.next.new.self (g.S.Source.left c.next.new.source) (rw c.in-ReadFault.is at c.in-Err-next.ensures.bytes)

-- ---- the trace has no further row: the last lines wait

pub returns-in-Ok-End-clause-trace : goal.returns-in-Ok-End-clause-trace
returns-in-Ok-End-clause-trace g c = reads g (goal.at.returns-in-Ok-End-clause-trace g c).After-next

pub returns-in-Ok-End-clause-went : goal.returns-in-Ok-End-clause-went
returns-in-Ok-End-clause-went g c = λ k pairs holds.
    let a = so_far g (goal.at.returns-in-Ok-End-clause-went g c).After-next k pairs holds in
    has_walked a.reached (HasReplayed (plain_code c.args.code.now) c.args.log.now pairs c.ticks.replayer) a.turns _ c.put_rows.new.self.bytes.items (c.ticks.row - 1)
    (at_end a.reached (g.S.Source.left c.next.new.source) (rw c.in-Ok-End.field-0-is at c.in-Ok-End.ensures.trace)) c.put_rows.ensures.bytes_are a.reached.follows (ticks_before a.reached)

pub returns-in-Ok-End-clause-ends : goal.returns-in-Ok-End-clause-ends
returns-in-Ok-End-clause-ends g c = let high = c.ticks.invariant.kept.high in let rows = c.requires.rows.limit in let most = c.requires.session.rows in (tt, λ e. cc, omega (arith, high, rows, most))

pub returns-in_default-fault-clause-trace : goal.returns-in_default-fault-clause-trace
returns-in_default-fault-clause-trace g c = reads g (goal.at.returns-in_default-fault-clause-trace g c).After-next

pub returns-in_default-fault-clause-went : goal.returns-in_default-fault-clause-went
returns-in_default-fault-clause-went g c = λ k pairs holds.
    let a = so_far g (goal.at.returns-in_default-fault-clause-went g c).After-next k pairs holds in
    let e = c.in-Err-next.ensures in
    has_walked a.reached (HasReplayed (plain_code c.args.code.now) c.args.log.now pairs c.ticks.replayer) a.turns _ c.put_row.new.self.bytes.items (c.ticks.row - 1)
    (at_fault a.reached c.next.new.self c.next.new.row (g.S.Source.left c.next.new.source) c.in-Err-next.fault e.trace c.in_default-fault.not-ReadFault e.memory) c.put_row.ensures.bytes_are a.reached.follows (ticks_before a.reached)

pub returns-in_default-fault-clause-ends : goal.returns-in_default-fault-clause-ends
returns-in_default-fault-clause-ends g c = let high = c.ticks.invariant.kept.high in let rows = c.requires.rows.limit in let most = c.requires.session.rows in (tt, λ e. cc, omega (arith, high, rows, most))

-- ---- a row was given

module _ (g : Over) (c : After-tick-step g) where
  gave : Gave c.ticks.rows c.next.new.self (g.S.Source.left c.ticks.trace) (g.S.Source.left c.next.new.source) c.next.new.row
  gave =
      let e = c.in-Ok-Row.ensures in
      let row : Row = c.next.new.row in
      gave_row c.ticks.rows c.next.new.self row (g.S.Source.left c.ticks.trace) (g.S.Source.left c.next.new.source) (rw c.in-Ok-Row.field-0-is at e.bytes) (rw c.in-Ok-Row.field-0-is at e.trace) (rw c.in-Ok-Row.field-0-is at e.goes) e.same e.stays

  row_is : c.deref.result.now ≡ c.next.new.row
  row_is = c.deref.ensures.value ∙ with_items_is c.ticks.session.image.inputs c.next.new.row (search (rules, places))

-- ---- its tick differs

pub returns-in_default-step-clause-trace : goal.returns-in_default-step-clause-trace
returns-in_default-step-clause-trace g c = reads g (goal.at.returns-in_default-step-clause-trace g c).After-next

pub returns-in_default-step-clause-went : goal.returns-in_default-step-clause-went
returns-in_default-step-clause-went g c = λ k pairs holds.
    let at = goal.at.returns-in_default-step-clause-went g c in
    let a = so_far g at.After-next k pairs holds in
    let C = plain_code c.args.code.now in
    let differs : c.tick-step.result ≡ step.Differs = c.in_default-step.is in
    differs_at a.reached C pairs a.reached.follows.run (gave g at.After-tick-step)
    (subst (λ (row : Row). CannotTick C pairs a.turns (record { row = row; budget = c.args.session.now.budget })) (row_is g at.After-tick-step) (c.tick-step.ensures.differs pairs a.turns differs a.reached.follows))

-- ---- its tick was run

once : (g : Over) (c : After-put_outcome g) → c.deref.result.now ≡ c.next.new.row → (k : PlainKernel) (pairs : ExchangeLog) → IsHeldTo (plain_code c.args.code.now) c.args.log.now k pairs →
    OnceMore k (HasReplayed (plain_code c.args.code.now) c.args.log.now pairs c.ticks.replayer) (HasReplayed (plain_code c.args.code.now) c.args.log.now pairs c.tick-step.new.self)
    (record { row = c.next.new.row; budget = c.args.session.now.budget }) c.in-Done.outcome c.deref-in-ticks.result.now
once g c is k pairs holds =
    let C = plain_code c.args.code.now in
    let lg = c.args.log.now in
    let F = HasReplayed C lg pairs c.ticks.replayer in
    let F' = HasReplayed C lg pairs c.tick-step.new.self in
    let outputs : c.deref-in-ticks.result.now ≡ c.tick-step.new.outputs = c.deref-in-ticks.ensures.value ∙ with_items_is c.ticks.session.image.outputs c.tick-step.new.outputs (search (rules, places)) in
    let done : c.tick-step.result ≡ step.Done c.in-Done.outcome = c.in-Done.is in
    subst (λ (row : Row). OnceMore k F F' (record { row = row; budget = c.args.session.now.budget }) c.in-Done.outcome c.deref-in-ticks.result.now) is
    (once_replayed C lg k pairs holds c.ticks.replayer c.tick-step.new.self (record { row = c.deref.result.now; budget = c.args.session.now.budget }) c.in-Done.outcome c.tick-step.new.outputs c.deref-in-ticks.result.now outputs
    (λ turns f. c.tick-step.ensures.done pairs turns c.in-Done.outcome done f))

pub returns-in_default-outcome-clause-trace : goal.returns-in_default-outcome-clause-trace
returns-in_default-outcome-clause-trace g c = reads g (goal.at.returns-in_default-outcome-clause-trace g c).After-next

pub returns-in_default-outcome-clause-ends : goal.returns-in_default-outcome-clause-ends
returns-in_default-outcome-clause-ends g c =
    let own = own_after c.in-Done.outcome c.last_status.result c.last_status.ensures in
    let within = row_within c.args.rows.now c.ticks.row c.ticks.rows c.ticks.invariant.kept.stands (gave g (goal.at.returns-in_default-outcome-clause-ends g c).After-tick-step).within in
    let rows = c.requires.rows.limit in
    let most = c.requires.session.rows in (own.0, own.1, omega (arith, within, rows, most))

pub returns-in_default-outcome-clause-went : goal.returns-in_default-outcome-clause-went
returns-in_default-outcome-clause-went g c = λ k pairs holds.
    let at = goal.at.returns-in_default-outcome-clause-went g c in
    let a = so_far g at.After-next k pairs holds in
    let there = gave g at.After-tick-step in
    let ran = once g at.After-put_outcome (row_is g at.After-tick-step) k pairs holds in
    let waits : List ℕ = c.put_outcome.new.self.bytes.items in
    let adds = λ (xs : Row) (are : HasOutputs c.in-Done.outcome → xs ≡ c.deref-in-ticks.result.now). (c.put_outcome.ensures.lines xs are).bytes_are in
    let turn = turn_of (run g at.After-next k pairs holds) c.next.new.row in
    let count = ticks_before a.reached in
    let low = c.ticks.invariant.kept.low in
    has_walked a.reached (HasReplayed (plain_code c.args.code.now) c.args.log.now pairs c.tick-step.new.self) (a.turns ++ turn ∷ []) _ waits c.ticks.row
    (at_stop a.reached there ran waits adds c.last_status.result c.last_status.ensures (stops c.in-Done.outcome c.in_default-outcome.not-Paused)) (waits_so a.reached there ran waits adds) (ran.follows a.turns a.reached.follows)
    (let more = length-append a.turns (turn ∷ []) in omega (arith, count, low, more))

pub ticks-preserved : goal.ticks-preserved
ticks-preserved g c =
    let at = goal.at.ticks-preserved g c in
    let i = c.ticks.invariant in
    let e = c.in-Ok-Row.ensures in
    let there = gave g at.After-tick-step in
    let done : c.tick-step.result ≡ step.Done c.in-Done.outcome = c.in-Done.is in
    let on = ap goes_on c.in-Paused.is in
    let told = c.put_outcome.ensures.format on in
    record {
      going = λ k pairs holds. going_more (so_far g at.After-next k pairs holds) (λ turns f. f.run) c.next.new.source there (rw c.in-Ok-Row.field-0-is at e.reads) (once g at.After-put_outcome (row_is g at.After-tick-step) k pairs holds)
          c.put_outcome.new.self.bytes.items (λ xs are. (c.put_outcome.ensures.lines xs are).bytes_are) on c.put_outcome.new.self.format told;
      some = λ pairs has. let s = i.some pairs has in (_, (c.tick-step.ensures.done pairs s.0 c.in-Done.outcome done s.1).replayed);
      live = c.tick-step.ensures.live ∙ ap goes_on_after done ∙ on;
      kept = at_next i.kept there refl refl c.send_due.ensures.format c.deref-in-ticks.result.now told e.ended e.later c.in_default.ensures.cause.later;
    }
