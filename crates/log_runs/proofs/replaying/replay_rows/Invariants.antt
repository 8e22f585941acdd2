use Rattle.std.proofs.Common.{◌≡◌, ◌+◌, ◌-◌, true, List}
use Rattle.forec_kernel.specs.Composed.{TickInput}
use Rattle.forec_kernel.specs.Shapes.{PlainKernel}
use Rattle.thread_code.specs.Plain.{plain_code}
use Rattle.exchange_meaning.specs.Logged.{ExchangeLog}
use Rattle.exchange_replay.specs.Rooted.{HasReplayed}
use Rattle.log_text.specs.ReadLogs.{HasPairs}
use Rattle.trace_ticks.proofs.Asking.{Going}
use Rattle.trace_ticks.proofs.AtRow.{AtRow}
use Rattle.trace_ticks.proofs.Running.{run_of}
use Rattle.log_runs.specs.RootWalks.{IsHeldTo, RootRuns}
use Rattle.log_runs.proofs.replaying.replay_rows.Given as goal

abbrev pub invariant-ticks : goal.invariant-ticks
invariant-ticks g l =
    let left = g.S.Source.left in
    let held = g.K.Sink.held in
    let code = plain_code l.fn.code in
    record {
      going : (k : PlainKernel) (pairs : ExchangeLog) → IsHeldTo code l.fn.log k pairs →
          Going left g.S.Source.faults g.S.Source.down (RootRuns code pairs) (run_of l.fn.session l.fn.rows k) (HasReplayed code l.fn.log pairs l.replayer) l.rows (held l.fn.out) (held l.out) l.session.waiting.bytes.items l.session.waiting.format l.row
          l.fn.trace l.trace;
      some : (pairs : ExchangeLog) → HasPairs code.shape l.fn.log pairs → (turns : List TickInput) × HasReplayed code l.fn.log pairs l.replayer turns;
      live : l.replayer.live ≡ true;
      kept : AtRow l.fn.session l.session l.fn.rows l.rows l.row (left l.trace) (g.S.Source.faults l.fn.trace) (g.S.Source.faults l.trace) (g.K.Sink.faults l.fn.out) (g.K.Sink.faults l.out);
    }

abbrev pub decreases-ticks : goal.decreases-ticks
decreases-ticks g l = l.fn.rows.limit + 2 - l.row
