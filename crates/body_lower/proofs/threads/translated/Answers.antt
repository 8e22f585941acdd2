use Rattle.std.proofs.Common.{◌∙◌, sym, ap, map, List}
use Rattle.forec_tree.specs.Plain.{terms, statements, branch_with}
use Rattle.forec_tree.specs.Terms.{Branches, no_branches, by_call, by_group}
use Rattle.forec_tree.proofs.Rows.{branch-group}
use Rattle.loop_check.specs.Views.{indexed_text}
use Rattle.lower_names.specs.Views.{Bare, bare, made_by}
use Rattle.body_lower.proofs.threads.translated.Goals as goal

pub returns-in_ok-thread-in-Call : goal.returns-in_ok-thread-in-Call
returns-in_ok-thread-in-Call c =
    let text = indexed_text c.args.source.now.globals.index in
    let one = c.args.one in
    let F : Branches → List Bare = λ b. map bare (made_by text one.deep one.parent one.par one.number one.first b) in
    c.in_ok-thread-in-Call.ensures
    ∙ (ap (λ l. F (by_call c.in-Call.name (terms l) no_branches)) c.as_slice-args.ensures ∙ ap (λ b. F (branch_with b no_branches)) (sym c.in-Call.is))

pub returns-in_ok-thread-in-Group : goal.returns-in_ok-thread-in-Group
returns-in_ok-thread-in-Group c =
    let text = indexed_text c.args.source.now.globals.index in
    let one = c.args.one in
    let F : Branches → List Bare = λ b. map bare (made_by text one.deep one.parent one.par one.number one.first b) in
    c.in_ok-thread-in-Group.ensures c.in-Group.place
    ∙ (ap (λ l. F (by_group c.in-Group.place (statements l) no_branches)) c.as_slice-body.ensures
    ∙ (ap F (sym (branch-group c.in-Group.place c.in-Group.body no_branches)) ∙ ap (λ b. F (branch_with b no_branches)) (sym c.in-Group.is)))
