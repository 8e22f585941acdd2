use Rattle.std.proofs.Common.{◌∙◌, sym, ap, subst}
use Rattle.core_machine.specs.declared.branches.Verdict.TheVariants as verdict
use Rattle.core_machine.specs.Branches.{Gathered, with_verdict, first_verdict, with_more_units, AddsReply}
use Rattle.core_machine.specs.Direct.{RepliesBy}
use Rattle.core_machine.proofs.Direct.{adds_over, adds_paused, adds_ended, adds_trap, adds_else}
use Rattle.core_machine.proofs.branches.Branches.settle_with.Goals as goal

pub returns-then-branch : goal.returns-then-branch
returns-then-branch c =
    let g = c.args.self.now in
    let h = c.args.branch.now in
    let e = c.judge.ensures ∙ ap (with_verdict verdict.Over) c.note.ensures in
    subst (AddsReply g (RepliesBy h)) (sym e) (adds_over g h c.if-branch.true)

pub returns-in-Paused : goal.returns-in-Paused
returns-in-Paused c =
    let g = c.args.self.now in
    let h = c.args.branch.now in
    let e = c.count.ensures ∙ ap (with_more_units h.units) c.note-in-Paused.ensures in
    subst (AddsReply g (RepliesBy h)) (sym e) (adds_paused g h c.if-branch.false c.in-Paused.is)

pub returns-in-Ended : goal.returns-in-Ended
returns-in-Ended c =
    let g = c.args.self.now in
    let h = c.args.branch.now in
    let e = c.count-in-Ended.ensures ∙ ap (with_more_units h.units) c.note-in-Ended.ensures in
    subst (AddsReply g (RepliesBy h)) (sym e) (adds_ended g h c.if-branch.false c.in-Ended.is)

pub returns-in-Trapped : goal.returns-in-Trapped
returns-in-Trapped c =
    let g = c.args.self.now in
    let h = c.args.branch.now in
    let place = c.in-Trapped.place in
    let trap = c.in-Trapped.trap in
    let e = c.judge_trap.ensures ∙ ap (λ (g : Gathered). with_verdict (first_verdict g.verdict (verdict.Trap place trap)) g) (c.count-in-Trapped.ensures ∙ ap (with_more_units h.units) c.note-in-Trapped.ensures) in
    subst (AddsReply g (RepliesBy h)) (sym e) (adds_trap g h c.if-branch.false place trap c.in-Trapped.is)

pub returns-in_default-phase : goal.returns-in_default-phase
returns-in_default-phase c =
    let g = c.args.self.now in
    let h = c.args.branch.now in
    let e = c.judge-in_default-phase.ensures ∙ ap (with_verdict verdict.Over) c.note-in_default-phase.ensures in
    subst (AddsReply g (RepliesBy h)) (sym e) (adds_else g h c.if-branch.false c.in_default.not-Paused c.in_default-phase.not-Ended c.in_default-phase.not-Trapped)
