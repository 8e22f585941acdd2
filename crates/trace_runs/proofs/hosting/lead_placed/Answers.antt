use Rattle.std.proofs.Common.{◌≡◌, length, sym, ap, subst, ◌∙◌}
use Rattle.forec_kernel.specs.Shapes.{PlainShape, plain_kernel}
use Rattle.thread_code.specs.Plain.{plain_code}
use Rattle.trace_runs.proofs.hosting.lead_placed.Goals as goal

pub lead_alone-requires-clause-placed : goal.lead_alone-requires-clause-placed
lead_alone-requires-clause-placed g c =
    let k = plain_kernel c.args.kernel.now in
    let code = plain_code c.in_ok-code.code in
    let threads : length k.threads ≡ length code.threads = c.shape.ensures.well_formed.bodies ∙ ap (λ (s : PlainShape). length s.threads) (sym c.in_ok-code.ensures.shape) ∙ sym c.shape-2.ensures.valid.threads in
    c.requires.placed ∙ threads

pub lead_alone-requires-clause-can : goal.lead_alone-requires-clause-can
lead_alone-requires-clause-can g c = subst (λ (s : PlainShape). g.J.Lead.can c.args.job.now s) (sym c.in_ok-code.ensures.shape) c.requires.can

pub lead_on_cores-requires-clause-placed : goal.lead_on_cores-requires-clause-placed
lead_on_cores-requires-clause-placed g c = λ κs within.
    let k = plain_kernel c.args.kernel.now in
    let code = plain_code c.in_ok-code.code in
    let threads : length k.threads ≡ length code.threads = c.shape.ensures.well_formed.bodies ∙ ap (λ (s : PlainShape). length s.threads) (sym c.in_ok-code.ensures.shape) ∙ sym c.shape-2.ensures.valid.threads in
    c.requires.placed ∙ threads

pub lead_on_cores-requires-clause-can : goal.lead_on_cores-requires-clause-can
lead_on_cores-requires-clause-can g c = λ κs within. subst (λ (s : PlainShape). g.J.Lead.can c.args.job.now s) (sym c.in_ok-code.ensures.shape) c.requires.can
