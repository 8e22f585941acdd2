use Rattle.std.proofs.Common.{◌≡◌, ◌++◌, ◌∷◌, map, drop}
use Rattle.forec_kernel.specs.Shapes.{plain_thread}
use Rattle.lower_names.specs.Views.{of_thread}
use Rattle.kernel_drafts.specs.Drafts.{bare_shapes, main_shape}
use Rattle.kernel_drafts.specs.Marks.{row_uses, shape_uses}
use Rattle.kernel_drafts.proofs.shapes.threads_of.Given as goal

abbrev pub invariant-loop-at : goal.invariant-loop-at
invariant-loop-at l =
    let bares = map of_thread l.threads in
    record {
      shapes : map plain_thread l.all.shapes.items ++ bare_shapes l.names l.count bares l.at (drop l.at bares) ≡ main_shape l.names l.count l.first l.bodies.words ∷ bare_shapes l.names l.count bares 0 bares;
      rows : map row_uses l.all.rows.items ≡ map shape_uses l.all.shapes.items;
    }
