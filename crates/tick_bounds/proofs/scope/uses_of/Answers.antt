use Rattle.std.proofs.Common.{◌≡◌, ◌∙◌, IsTrue, map, sym, ap, subst}
use Rattle.forec_kernel.specs.Shapes.{plain_kernel, plain_thread}
use Rattle.forec_kernel.specs.Texts.{uses_in, uses_of}
use Rattle.forec_kernel.specs.WellFormed.{ascends}
use Rattle.tick_bounds.proofs.Searching.{uses_found, uses_missing, uses_ascend}
use Rattle.tick_bounds.proofs.scope.uses_of.Goals as goal

pub returns-in-None-clause-same : goal.returns-in-None-clause-same
returns-in-None-clause-same c =
    let list : c.deref.result.now ≡ c.args.kernel.now.shape.threads.items = cc in
    uses_missing c.deref.result.now c.args.thread c.in-None.ensures.lookup.3 ∙ ap (λ l. uses_in (map plain_thread l) c.args.thread) list

pub returns-in-Some-clause-same : goal.returns-in-Some-clause-same
returns-in-Some-clause-same c =
    let list : c.deref.result.now ≡ c.args.kernel.now.shape.threads.items = cc in
    let at = c.in-Some.ensures.lookup.3 in
    c.as_slice.ensures.value
    ∙ uses_found c.deref.result.now c.args.thread c.in-Some.shape.now at.0 (at.1 c.in-Some.shape.now)
    ∙ ap (λ l. uses_in (map plain_thread l) c.args.thread) list

pub returns-in-Some-clause-ascends : goal.returns-in-Some-clause-ascends
returns-in-Some-clause-ascends c =
    let list : c.deref.result.now ≡ c.args.kernel.now.shape.threads.items = cc in
    let at = c.in-Some.ensures.lookup.3 in
    let same : c.as_slice.result.now ≡ uses_of (plain_kernel c.args.kernel.now) c.args.thread =
    c.as_slice.ensures.value
    ∙ uses_found c.deref.result.now c.args.thread c.in-Some.shape.now at.0 (at.1 c.in-Some.shape.now)
    ∙ ap (λ l. uses_in (map plain_thread l) c.args.thread) list in
    subst (λ l. IsTrue (ascends l)) (sym same) (uses_ascend (plain_kernel c.args.kernel.now) c.shape.ensures.well_formed c.args.thread)
