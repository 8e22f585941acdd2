use Rattle.std.proofs.Common.{◌≡◌, ◌∙◌, ◌+◌, ◌<◌, ap, sym, refl, suc, length, map, get_or, Option, Some, arith, ℕ, List}
use Rattle.std.proofs.lemmas.List.{length-map}
use Rattle.std.proofs.lemmas.Option.{get_or_from_slice_get}
use Rattle.forec_kernel.specs.Shapes.{PlainKernel, plain_kernel, plain_thread, PlainThread}
use Rattle.forec_kernel.specs.declared.shape.ThreadShape.{ThreadShape}
use Rattle.forec_kernel.specs.declared.shape.Shape.{Shape}
use Rattle.thread_places.specs.Lines.{lines_to}
use Rattle.thread_places.proofs.Listed.{one_more, shape_at}
use Rattle.thread_places.proofs.listing.thread_rows.Goals as goal

pub loop-number-preserved : goal.loop-number-preserved
loop-number-preserved c =
    let k = plain_kernel c.args.kernel.now in
    let n = c.loop-number.number in
    let shapes : List ThreadShape = c.as_slice-shapes.result.now in
    let are : shapes ≡ c.args.kernel.now.shape.threads.items = c.as_slice-shapes.ensures.value ∙ ap (λ (s : Shape). s.threads.items) c.shape.ensures.same in
    let row = shape_at k shapes n c.index-shapes-number.result (ap (λ (ts : List ThreadShape). map plain_thread ts) (sym are)) c.loop-number-test.true c.index-shapes-number.is in
    c.in_ok-add_row.ensures
    ∙ one_more k c.args.placement.now.places n c.loop-number.text.items _ _ _ _ c.loop-number.invariant (ap (λ (t : PlainThread). t.parent) row) (ap (λ (t : PlainThread). t.name) row)
    (sym (get_or_from_slice_get c.args.placement.now.places n c.core.result 0 c.core.ensures.value)) c.weight.ensures

pub returns : goal.returns
returns c =
    let are : c.as_slice-shapes.result.now ≡ c.args.kernel.now.shape.threads.items = c.as_slice-shapes.ensures.value ∙ ap (λ (s : Shape). s.threads.items) c.shape.ensures.same in
    let k = plain_kernel c.args.kernel.now in
    let shapes_are = length-map c.args.kernel.now.shape.threads.items plain_thread in
    let last : c.loop-number.number ≡ length k.threads = omega (arith, c.loop-number-test.false, c.loop-number.auto.number-end, ap (λ (l : List ThreadShape). length l) are, shapes_are, c.shape.ensures.well_formed.bodies) in
    c.loop-number.invariant ∙ ap (lines_to k c.args.placement.now.places) last
