use Rattle.std.proofs.Common.{◌∙◌, ◌-◌, min, max, length, map, sym, ap, subst}
use Rattle.std.proofs.lemmas.List.{get_or-map}
use Rattle.lower_names.specs.Views.{Bare, of_thread}
use Rattle.kernel_drafts.specs.Drafts.{vars_bare, part_at, blank_bare}
use Rattle.lower_names.specs.declared.state.Thread.{Thread}
use Rattle.kernel_drafts.specs.Marks.{MarksOf}
use Rattle.kernel_drafts.proofs.Assembled.{part_same}
use Rattle.kernel_drafts.proofs.shapes.marks_at.Goals as goal

pub returns : goal.returns
returns c =
    let threads = c.args.threads.now in
    let at = c.args.at in
    let thread = c.index-threads-at.result in
    let bares = map of_thread threads in
    let same = get_or-map of_thread threads at thread blank_bare c.requires ∙ ap of_thread (sym c.index-threads-at.is) in
    subst (λ l. MarksOf c.args.count l c.in_ok-marks.marks.items)
    (ap vars_bare (part_same threads at thread.behind c.end_of-end.result c.requires (c.end_of-end.ensures ∙ ap (λ (x : Thread). min (max (x.behind - 1) at) (length threads)) (sym c.index-threads-at.is))) ∙ ap (λ (x : Bare). vars_bare (part_at bares at x.behind)) (sym same)) c.in_ok-marks.ensures
