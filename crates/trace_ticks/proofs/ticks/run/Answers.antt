use Rattle.std.proofs.Common.{◌≡◌, false, sym, ap, refl, ◌∙◌}
use Rattle.forec_kernel.specs.Shapes.{PlainKernel}
use Rattle.trace_ticks.specs.KernelNames.{inputs_of}
use Rattle.trace_ticks.specs.Ticking.{Starts}
use Rattle.trace_ticks.proofs.AfterHeader.{Headed, Unheaded, no_memory, no_line, no_header, none_ran, rows_unread, rows_unwritten, rows_parted, rows_cut, rows_told, rows_ran}
use Rattle.trace_ticks.proofs.Asking.{asked_none}
use Rattle.trace_ticks.proofs.AtRow.{rows_behind}
use Rattle.trace_ticks.proofs.Heading.{started}
use Rattle.trace_ticks.proofs.Printing.{own_else}
use Rattle.trace_ticks.proofs.ticks.run.Given.{Over}
use Rattle.trace_ticks.proofs.ticks.run.Goals.{After-run_rows, After-start}
use Rattle.trace_ticks.proofs.ticks.run.Goals as goal

pub run_rows-requires-clause-rows : goal.run_rows-requires-clause-rows
run_rows-requires-clause-rows g c = rows_behind c.requires.session c.in-Ok.ensures.rows

-- ---- a header, and rows

headed : (g : Over) (c : After-run_rows g) (k : PlainKernel) → Starts (g.T.Ticker.shape c.args.ticker.now) (g.T.Ticker.follows c.args.ticker.now) k →
    Headed g.S.Source.left g.S.Source.faults g.S.Source.down c.args.session.now.limit c.args.session.now.waiting.format k c.args.session.now.budget c.args.session.now.inputs c.in-Ok.rows c.args.trace.now c.start.new.source c.run_rows.new.trace
headed g c k s = record {
  same = c.requires.session.inputs ∙ ap inputs_of (sym s.shaped);
  begun = started c.args.session.now.limit c.args.session.now.inputs (g.S.Source.left c.args.trace.now) (g.S.Source.left c.start.new.source) c.in-Ok.rows c.in-Ok.ensures.trace c.in-Ok.ensures.bytes;
  most = c.in-Ok.ensures.rows.1;
  head = c.in-Ok.ensures.reads;
  rows = c.run_rows.ensures.trace k s;
}

pub returns-in-ReadFault-clause-runs : goal.returns-in-ReadFault-clause-runs
returns-in-ReadFault-clause-runs g c = λ k s.
    rows_unread (headed g (goal.at.returns-in-ReadFault-clause-runs g c).After-run_rows k s) g.K.Sink.held g.K.Sink.faults g.K.Sink.down (g.T.Ticker.ready c.args.ticker.now ≡ false) c.args.out.now c.run_rows.new.out
    c.start.ensures.later (c.run_rows.ensures.read c.in-ReadFault.is) (c.run_rows.ensures.wanted c.in-ReadFault.is k s)

pub returns-in-WriteFault-clause-runs : goal.returns-in-WriteFault-clause-runs
returns-in-WriteFault-clause-runs g c = λ k s.
    rows_unwritten (headed g (goal.at.returns-in-WriteFault-clause-runs g c).After-run_rows k s) g.K.Sink.held g.K.Sink.faults g.K.Sink.down (g.T.Ticker.ready c.args.ticker.now ≡ false) c.args.out.now c.run_rows.new.out
    (c.run_rows.ensures.write c.in-WriteFault.is) (c.run_rows.ensures.front c.in-WriteFault.is k s)

pub returns-in-Ok-flush-clause-runs : goal.returns-in-Ok-flush-clause-runs
returns-in-Ok-flush-clause-runs g c = λ k s.
    rows_parted (headed g (goal.at.returns-in-Ok-flush-clause-runs g c).After-run_rows k s) g.K.Sink.held g.K.Sink.faults g.K.Sink.down (g.T.Ticker.ready c.args.ticker.now ≡ false) c.args.out.now c.flush.new.out c.run_rows.new.out
    (c.run_rows.ensures.ready c.in-NoMemory.is) c.run_rows.new.session.waiting.bytes.items (c.run_rows.ensures.memory c.in-NoMemory.is k s) c.in-Ok-flush.ensures.ok

pub returns-in-NoMemory-clause-runs : goal.returns-in-NoMemory-clause-runs
returns-in-NoMemory-clause-runs g c = λ k s.
    rows_cut (headed g (goal.at.returns-in-NoMemory-clause-runs g c).After-run_rows k s) g.K.Sink.held g.K.Sink.faults g.K.Sink.down (g.T.Ticker.ready c.args.ticker.now ≡ false) c.args.out.now c.flush.new.out c.run_rows.new.out
    c.run_rows.new.session.waiting.bytes.items c.run_rows.ensures.later c.in-Err-flush.ensures.cause.failed (c.run_rows.ensures.memory c.in-NoMemory.is k s) c.in-Err-flush.ensures.err

pub finish-requires : goal.finish-requires
finish-requires g c = own_else c.run_rows.result c.in_default.not-ReadFault c.in_default.not-WriteFault c.in_default.not-NoMemory

pub returns-in-Ok-clause-runs : goal.returns-in-Ok-clause-runs
returns-in-Ok-clause-runs g c = λ k s.
    let own = own_else c.run_rows.result c.in_default.not-ReadFault c.in_default.not-WriteFault c.in_default.not-NoMemory in
    rows_told (headed g (goal.at.returns-in-Ok-clause-runs g c).After-run_rows k s) g.K.Sink.held g.K.Sink.faults g.K.Sink.down (g.T.Ticker.ready c.args.ticker.now ≡ false) c.args.out.now c.finish.new.out c.run_rows.new.out
    (g.T.Ticker.follows c.run_rows.new.ticker k) c.run_rows.new.session.waiting.bytes.items c.run_rows.result (c.run_rows.ensures.own own k s) c.finish.result own c.run_rows.ensures.usage c.run_rows.ensures.later c.finish.ensures.says c.finish.ensures.memory

pub returns-in-Ok-clause-ran : goal.returns-in-Ok-clause-ran
returns-in-Ok-clause-ran g c = λ _ k s.
    let own = own_else c.run_rows.result c.in_default.not-ReadFault c.in_default.not-WriteFault c.in_default.not-NoMemory in
    rows_ran (headed g (goal.at.returns-in-Ok-clause-ran g c).After-run_rows k s) g.K.Sink.held g.K.Sink.faults g.K.Sink.down (g.T.Ticker.ready c.args.ticker.now ≡ false) c.args.out.now c.finish.new.out c.run_rows.new.out
    (g.T.Ticker.follows c.run_rows.new.ticker k) c.run_rows.new.session.waiting.bytes.items c.run_rows.result (c.run_rows.ensures.own own k s)

-- ---- no header

unheaded : (g : Over) (c : After-start g) (k : PlainKernel) → Starts (g.T.Ticker.shape c.args.ticker.now) (g.T.Ticker.follows c.args.ticker.now) k →
    Unheaded g.S.Source.left g.S.Source.faults g.S.Source.down c.args.session.now.limit c.args.session.now.waiting.format k c.args.session.now.budget c.args.session.now.inputs c.args.trace.now c.start.new.source
unheaded g c k s =
    let session = c.args.session.now in
    record {
      same = c.requires.session.inputs ∙ ap inputs_of (sym s.shaped);
      asked = asked_none g.S.Source.left g.S.Source.faults g.S.Source.down session.limit session.waiting.format k session.budget c.args.trace.now c.start.new.source _ c.start.ensures.reads;
    }

pub returns-in-OutOfMemory-clause-runs : goal.returns-in-OutOfMemory-clause-runs
returns-in-OutOfMemory-clause-runs g c = λ k s.
    no_memory (unheaded g (goal.at.returns-in-OutOfMemory-clause-runs g c).After-start k s) g.K.Sink.held g.K.Sink.faults g.K.Sink.down (g.T.Ticker.ready c.args.ticker.now ≡ false) c.args.out.now c.args.out.now refl

pub returns-in-ReadFault-fault-clause-runs : goal.returns-in-ReadFault-fault-clause-runs
returns-in-ReadFault-fault-clause-runs g c = λ k s.
    no_line (unheaded g (goal.at.returns-in-ReadFault-fault-clause-runs g c).After-start k s) g.K.Sink.held g.K.Sink.faults g.K.Sink.down (g.T.Ticker.ready c.args.ticker.now ≡ false) c.args.out.now c.args.out.now
    refl ((rw c.in-ReadFault-fault.is at c.in-Err.ensures.fault) refl) (rw c.in-ReadFault-fault.is at c.in-Err.ensures.bytes)

pub returns-clause-runs : goal.returns-clause-runs
returns-clause-runs g c = λ k s.
    no_header (unheaded g (goal.at.returns-clause-runs g c).After-start k s) g.K.Sink.held g.K.Sink.faults g.K.Sink.down (g.T.Ticker.ready c.args.ticker.now ≡ false) c.args.out.now c.finish-in_default-fault.new.out
    c.in-Err.fault c.in-Err.ensures.trace c.in_default-fault.not-ReadFault c.in_default-fault.not-OutOfMemory c.args.session.now.waiting.bytes.items c.put_row.new.self.bytes.items c.finish-in_default-fault.result
    c.requires.session.opened c.put_row.ensures.bytes_are c.finish-in_default-fault.ensures.says c.finish-in_default-fault.ensures.memory

pub returns-clause-ran : goal.returns-clause-ran
returns-clause-ran g c = λ _ k s.
    none_ran (unheaded g (goal.at.returns-clause-ran g c).After-start k s) c.in-Err.fault c.in-Err.ensures.trace c.in_default-fault.not-ReadFault c.in_default-fault.not-OutOfMemory (g.T.Ticker.follows c.args.ticker.now k) s.fresh
