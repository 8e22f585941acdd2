use Rattle.std.proofs.Common.{length, ap, arith}
use Rattle.std.proofs.lemmas.List.{length-map}
use Rattle.forec_kernel.specs.Shapes.{plain_kernel}
use Rattle.forec_kernel.specs.Plain.{stmt}
use Rattle.forec_kernel.specs.declared.shape.KernelParts.{KernelParts}
use Rattle.tick_bounds.proofs.Visiting.{all_told}
use Rattle.tick_bounds.proofs.functions.function_bounds.Goals as goal

pub returns : goal.returns
returns c =
    let kernel = c.args.kernel.now in
    all_told (plain_kernel kernel) c.loop-function.known.items c.loop-function.function c.loop-function.invariant.right
    (omega (arith, length-map kernel.functions.items stmt, ap (λ (p : KernelParts). length p.functions.items) c.parts.ensures.same))
    c.loop-function.invariant.told
