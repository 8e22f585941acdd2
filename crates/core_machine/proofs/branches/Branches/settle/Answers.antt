use Rattle.std.proofs.Common.{◌∙◌, sym, ap, subst}
use Rattle.core_machine.specs.declared.branches.Verdict.TheVariants as verdict
use Rattle.core_machine.specs.Branches.{Gathered, with_verdict, first_verdict, with_more_units, SettlesPacket}
use Rattle.core_machine.proofs.Gathering.{settles_over, settles_trap, settles_ended, settles_else}
use Rattle.core_machine.proofs.branches.Branches.settle.Goals as goal

pub returns-in-Over : goal.returns-in-Over
returns-in-Over c =
    let g = c.args.self.now in
    let p = c.args.packet.now in
    let e = c.judge.ensures ∙ ap (with_verdict verdict.Over) c.note.ensures in
    subst (SettlesPacket g p) (sym e) (settles_over g p c.in-Over.is)

pub returns-in-Trapped : goal.returns-in-Trapped
returns-in-Trapped c =
    let g = c.args.self.now in
    let p = c.args.packet.now in
    let place = c.in-Trapped.place in
    let trap = c.in-Trapped.trap in
    let e = c.judge_trap.ensures ∙ ap (λ (g : Gathered). with_verdict (first_verdict g.verdict (verdict.Trap place trap)) g) (c.count.ensures ∙ ap (with_more_units p.units) c.note-in-Trapped.ensures) in
    subst (SettlesPacket g p) (sym e) (settles_trap g p place trap c.in-Trapped.is)

pub returns-in-Ended : goal.returns-in-Ended
returns-in-Ended c =
    let g = c.args.self.now in
    let p = c.args.packet.now in
    let e = c.count-in-Ended.ensures ∙ ap (with_more_units p.units) c.note-in-Ended.ensures in
    subst (SettlesPacket g p) (sym e) (settles_ended g p c.in-Ended.is)

pub returns-in_default : goal.returns-in_default
returns-in_default c =
    let g = c.args.self.now in
    let p = c.args.packet.now in
    let e = c.count-in_default.ensures ∙ ap (with_more_units p.units) c.note-in_default.ensures in
    subst (SettlesPacket g p) (sym e) (settles_else g p c.in_default.not-Ended c.in_default.not-Trapped c.in_default.not-Over)
