use Rattle.std.proofs.Common.{◌≡◌, List, [], ℕ, arith, ap, refl, ◌∙◌}
use Rattle.forec_kernel.specs.Composed.{TickInput}
use Rattle.forec_kernel.specs.Shapes.{PlainKernel}
use Rattle.thread_code.specs.Plain.{plain_code}
use Rattle.exchange_meaning.specs.Logged.{ExchangeLog}
use Rattle.exchange_replay.specs.Rooted.{HasReplayed}
use Rattle.trace_rows.specs.SourceReads.{ReadsBytes}
use Rattle.trace_ticks.specs.KernelNames.{input_names, inputs_of}
use Rattle.trace_ticks.proofs.AtRow.{rows_behind}
use Rattle.trace_ticks.proofs.Heading.{Started, started, no_header_there, head_fault, head_ran, head_failed, head_wanted}
use Rattle.log_runs.specs.RootWalks.{IsHeldTo, MayRead, RootRuns, WalkedTo}
use Rattle.log_runs.proofs.HeadRuns.{head_both, head_unread, head_given, reads_none, reads_all}
use Rattle.log_runs.proofs.RowWalks.{some_all}
use Rattle.trace_ticks.proofs.Running.{fell_since}
use Rattle.log_runs.proofs.TraceWalks.{ends_as, none_walked}
use Rattle.log_runs.proofs.replaying.replay_root.Given.{Over}
use Rattle.log_runs.proofs.replaying.replay_root.Goals.{After-replay_rows, After-start}
use Rattle.log_runs.proofs.replaying.replay_root.Goals as goal

pub replay_rows-requires-clause-rows : goal.replay_rows-requires-clause-rows
replay_rows-requires-clause-rows g c = rows_behind c.requires.session c.in-Ok.ensures.rows

-- ---- the header was asked for

module _ (g : Over) (c : After-start g) (k : PlainKernel) (pairs : ExchangeLog) (holds : IsHeldTo (plain_code c.args.code.now) c.args.log.now k pairs) where
  same : c.args.session.now.inputs ≡ input_names k
  same = c.requires.session.inputs ∙ ap inputs_of holds.stands.shape

  empty : RootRuns (plain_code c.args.code.now) pairs []
  empty = (c.requires.fresh pairs holds.pairs).run

  none_read : (given : List ℕ) × ReadsBytes g.S.Source.left g.S.Source.faults g.S.Source.down (MayRead (plain_code c.args.code.now) pairs c.args.session.now.limit c.args.session.now.waiting.format k c.args.session.now.budget) c.args.trace.now given
      c.start.new.source
  none_read =
      let s = c.args.session.now in
      reads_none (RootRuns (plain_code c.args.code.now) pairs) empty s.limit s.waiting.format k s.budget g.S.Source.left g.S.Source.faults g.S.Source.down c.args.trace.now c.start.new.source _ c.start.ensures.reads

-- ---- a header, and rows

begun : (g : Over) (c : After-replay_rows g) → Started c.args.session.now.limit c.args.session.now.inputs (g.S.Source.left c.args.trace.now) (g.S.Source.left c.start.new.source) c.in-Ok.rows
begun g c = started c.args.session.now.limit c.args.session.now.inputs (g.S.Source.left c.args.trace.now) (g.S.Source.left c.start.new.source) c.in-Ok.rows c.in-Ok.ensures.trace c.in-Ok.ensures.bytes

pub returns-in-Ok-clause-went : goal.returns-in-Ok-clause-went
returns-in-Ok-clause-went g c = λ k pairs holds.
    let at = goal.at.returns-in-Ok-clause-went g c in
    let C = plain_code c.args.code.now in
    let s = c.args.session.now in
    head_both s.limit s.waiting.format k s.budget s.inputs (same g at.After-start k pairs holds) c.in-Ok.rows _ _ (begun g at.After-replay_rows)
    (λ turns r. WalkedTo C pairs s.waiting.format k s.budget (HasReplayed C c.args.log.now pairs c.replay_rows.new.replayer) (g.K.Sink.held c.args.out.now) (g.K.Sink.held c.replay_rows.new.out) c.replay_rows.new.session.waiting.bytes.items turns r
    c.replay_rows.result)
    (c.replay_rows.ensures.went k pairs holds)

pub returns-in-Ok-clause-ends : goal.returns-in-Ok-clause-ends
returns-in-Ok-clause-ends g c = ends_as _ _ _ _ _ (λ fell. fell_since _ (g.S.Source.faults c.start.new.source) _ _ c.start.ensures.later fell) (λ none. absurd none) c.replay_rows.result c.replay_rows.ensures.ends

pub returns-in-Ok-clause-wanted : goal.returns-in-Ok-clause-wanted
returns-in-Ok-clause-wanted g c = λ is k pairs holds.
    let at = goal.at.returns-in-Ok-clause-wanted g c in
    let s = c.args.session.now in
    head_wanted s.limit s.waiting.format k s.budget s.inputs (same g at.After-start k pairs holds) c.in-Ok.rows _ _ (begun g at.After-replay_rows) c.in-Ok.ensures.rows.1 (g.S.Source.left c.replay_rows.new.trace) (g.K.Sink.held c.args.out.now)
    (g.K.Sink.held c.replay_rows.new.out) (c.replay_rows.ensures.wanted is k pairs holds)

pub returns-in-Ok-clause-given : goal.returns-in-Ok-clause-given
returns-in-Ok-clause-given g c = λ is k pairs holds.
    let at = goal.at.returns-in-Ok-clause-given g c in
    let s = c.args.session.now in
    let led = c.replay_rows.ensures.wanted is k pairs holds in
    head_given (RootRuns (plain_code c.args.code.now) pairs) (empty g at.After-start k pairs holds) s.limit s.waiting.format k s.budget s.inputs (same g at.After-start k pairs holds) c.in-Ok.rows _ _ (g.S.Source.left c.replay_rows.new.trace)
    (begun g at.After-replay_rows) c.in-Ok.ensures.rows.1 led.0 led.2 (c.replay_rows.ensures.comes is k pairs holds)

pub returns-in-Ok-clause-trace : goal.returns-in-Ok-clause-trace
returns-in-Ok-clause-trace g c = λ k pairs holds.
    let at = goal.at.returns-in-Ok-clause-trace g c in
    let s = c.args.session.now in
    reads_all (RootRuns (plain_code c.args.code.now) pairs) (empty g at.After-start k pairs holds) s.limit s.waiting.format k s.budget g.S.Source.left g.S.Source.faults g.S.Source.down s.inputs c.in-Ok.rows c.args.trace.now c.start.new.source
    c.replay_rows.new.trace (same g at.After-start k pairs holds) c.in-Ok.ensures.rows.1 c.in-Ok.ensures.reads (c.replay_rows.ensures.trace k pairs holds)

-- ---- no header

pub returns-in-OutOfMemory-clause-went : goal.returns-in-OutOfMemory-clause-went
returns-in-OutOfMemory-clause-went g c = λ k pairs holds. some_all (g.S.Source.left c.args.trace.now) _ (λ x. tt)

pub returns-in-OutOfMemory-clause-trace : goal.returns-in-OutOfMemory-clause-trace
returns-in-OutOfMemory-clause-trace g c = none_read g (goal.at.returns-in-OutOfMemory-clause-trace g c).After-start

pub returns-in-ReadFault-clause-went : goal.returns-in-ReadFault-clause-went
returns-in-ReadFault-clause-went g c = λ k pairs holds. some_all (g.S.Source.left c.args.trace.now) _ (λ x. tt)

pub returns-in-ReadFault-clause-ends : goal.returns-in-ReadFault-clause-ends
returns-in-ReadFault-clause-ends g c = (rw c.in-ReadFault.is at c.in-Err.ensures.fault) refl

pub returns-in-ReadFault-clause-wanted : goal.returns-in-ReadFault-clause-wanted
returns-in-ReadFault-clause-wanted g c = λ _ k pairs holds.
    let s = c.args.session.now in
    head_failed s.limit s.waiting.format k s.budget s.inputs (same g (goal.at.returns-in-ReadFault-clause-wanted g c).After-start k pairs holds) (g.S.Source.left c.args.trace.now) (g.S.Source.left c.start.new.source) (g.K.Sink.held c.args.out.now)
    (g.K.Sink.held c.args.out.now) refl (rw c.in-ReadFault.is at c.in-Err.ensures.bytes)

pub returns-in-ReadFault-clause-given : goal.returns-in-ReadFault-clause-given
returns-in-ReadFault-clause-given g c = λ _ k pairs holds.
    let s = c.args.session.now in
    head_unread (RootRuns (plain_code c.args.code.now) pairs) (empty g (goal.at.returns-in-ReadFault-clause-given g c).After-start k pairs holds) s.limit s.waiting.format k s.budget (g.S.Source.left c.args.trace.now) (g.S.Source.left c.start.new.source)
    (rw c.in-ReadFault.is at c.in-Err.ensures.bytes)

pub returns-in-ReadFault-clause-trace : goal.returns-in-ReadFault-clause-trace
returns-in-ReadFault-clause-trace g c = none_read g (goal.at.returns-in-ReadFault-clause-trace g c).After-start

pub returns-in_default-clause-trace : goal.returns-in_default-clause-trace
returns-in_default-clause-trace g c = none_read g (goal.at.returns-in_default-clause-trace g c).After-start

pub returns-in_default-clause-went : goal.returns-in_default-clause-went
returns-in_default-clause-went g c = λ k pairs holds.
    let s = c.args.session.now in
    let is = same g (goal.at.returns-in_default-clause-went g c).After-start k pairs holds in
    let l0 = g.S.Source.left c.args.trace.now in
    let l1 = g.S.Source.left c.start.new.source in
    let f = c.in-Err.fault in
    let there = no_header_there s.limit s.inputs l0 l1 f c.in_default.not-ReadFault c.in_default.not-OutOfMemory c.in-Err.ensures.trace in
    none_walked s.limit s.waiting.format k s.budget (HasReplayed (plain_code c.args.code.now) c.args.log.now pairs c.args.replayer.now) l0 (g.K.Sink.held c.args.out.now) f s.waiting.bytes.items c.put_row.new.self.bytes.items
    (c.requires.fresh pairs holds.pairs) c.requires.session.opened c.put_row.ensures.bytes_are (head_fault s.limit s.waiting.format k s.budget s.inputs is l0 l1 f there)
    (head_ran s.limit s.waiting.format k s.budget s.inputs is (λ (ts : List TickInput). ts ≡ []) l0 l1 f there refl)

pub returns-in_default-clause-ends : goal.returns-in_default-clause-ends
returns-in_default-clause-ends g c = (tt, λ e. cc, omega arith)
