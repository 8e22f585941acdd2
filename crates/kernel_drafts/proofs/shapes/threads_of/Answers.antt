use Rattle.std.proofs.Common.{◌∙◌, ◌+◌, sym, ap, subst, ◌∷◌, map, drop}
use Rattle.std.proofs.lemmas.List.{drop-map, get_or-map}
use Rattle.lower_names.specs.Views.{of_thread}
use Rattle.kernel_drafts.specs.Drafts.{named_at, marked_from, blank_bare}
use Rattle.kernel_drafts.specs.Marks.{MarksOf, with_uses}
use Rattle.forec_kernel.specs.Shapes.{PlainThread}
use Rattle.lower_names.proofs.Statements.{drop_next}
use Rattle.kernel_drafts.proofs.Assembled.{shape_next, shapes_more, rows_more}
use Rattle.kernel_drafts.proofs.shapes.threads_of.Goals as goal

pub loop-at-preserved : goal.loop-at-preserved
loop-at-preserved c =
    let threads = c.as_slice-threads.result.now in
    let bares = map of_thread threads in
    let at = c.loop-at.at in
    let thread = c.index-threads-at.result in
    let bare = of_thread thread in
    let same = get_or-map of_thread threads at thread blank_bare c.loop-at-test.true ∙ ap of_thread (sym c.index-threads-at.is) in
    let marks : MarksOf c.args.count (named_at bares at bare) c.in_ok-row.row.items = subst (λ b. MarksOf c.args.count (named_at bares at b) c.in_ok-row.row.items) same c.in_ok-row.ensures in
    let next = drop_next threads at thread c.loop-at-test.true (sym c.index-threads-at.is) in
    let rest = drop-map of_thread at threads ∙ (ap (map of_thread) next ∙ ap (λ l. bare ∷ l) (sym (drop-map of_thread (at + 1) threads))) in
    let shape = c.in_ok-shape.ensures ∙ ap (λ m. with_uses c.args.names.now bare (marked_from 0 m)) c.deref.ensures.value in
    record {
      shapes = shapes_more c.loop-at.all.shapes.items c.push.new.self.items c.in_ok-shape.shape (with_uses c.args.names.now bare (marked_from 0 c.in_ok-row.row.items)) _ _ _ c.in_ok-push.ensures.items shape
          (shape_next c.args.names.now c.args.count bares at bare c.in_ok-row.row.items (drop (at + 1) bares) marks rest) c.loop-at.invariant.shapes;
      rows = rows_more c.loop-at.all.rows.items c.push-in-loop-at.new.self.items c.loop-at.all.shapes.items c.push.new.self.items c.in_ok-row.row c.in_ok-shape.shape c.in_ok-push-2.ensures.items c.in_ok-push.ensures.items
          (ap (λ (s : PlainThread). s.uses) (sym shape)) c.loop-at.invariant.rows;
    }
