use Rattle.std.proofs.Common.{map}
use Rattle.forec_kernel.specs.Shapes.{plain_kernel}
use Rattle.forec_engine.proofs.FarmPrinting.{run_printed}
use Rattle.forec_engine.proofs.farming.read_and_run.Goals as goal

pub returns-in-Ok-clause-prints : goal.returns-in-Ok-clause-prints
returns-in-Ok-clause-prints g c =
    let traces = c.in-Ok.traces in
    run_printed g.K.Sink.held g.K.Sink.faults g.K.Sink.down c.args.out.now c.run_traces.new.out (g.T.Texts.content c.args.texts.now) (map (λ n. n.now) c.args.names.now) _ c.run_traces.result
    (plain_kernel c.args.kernel.now) c.args.units traces.long.items (map (λ v. v.items) traces.bytes.items) c.in-Ok.ensures.read c.run_traces.ensures
