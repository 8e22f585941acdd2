use Rattle.std.proofs.Common.{false, ◌≡◌, ◌∙◌, ◌-◌, sym, ap, subst, arith}
use Rattle.thread_code.specs.Plain.{plain_code}
use Rattle.thread_state.specs.Kept.{PlainOwn, handed_by, with_copies}
use Rattle.core_machine.specs.declared.thread.Thread.{Thread}
use Rattle.core_machine.specs.declared.thread.Phase.TheVariants as phase
use Rattle.core_machine.specs.RunParts.{Begun, woken_by}
use Rattle.core_machine.specs.Direct.{wake_packet}
use Rattle.core_machine.proofs.Direct.{wake_room_is}
use Rattle.core_machine.proofs.Jobs.{wake_begun}
use Rattle.core_machine.proofs.Seeds.{branch_within, branch_uses, branch_places, branch_copies}
use Rattle.core_machine.proofs.thread.Thread.wake_branch.Goals as goal

pub receive_from-requires-clause-branch : goal.receive_from-requires-clause-branch
receive_from-requires-clause-branch c = branch_within (plain_code c.args._code.now) c.args.self.now c.requires.loaded c.requires.fork c.args.k c.requires.index c.at.result c.at.ensures

pub receive_from-requires-clause-places : goal.receive_from-requires-clause-places
receive_from-requires-clause-places c = branch_places (plain_code c.args._code.now) c.args.self.now c.requires.loaded c.requires.fork c.args.k c.requires.index c.at.result c.at.ensures

pub receive_from-requires-clause-room : goal.receive_from-requires-clause-room
receive_from-requires-clause-room c = branch_copies (plain_code c.args._code.now) c.args.self.now c.requires.loaded c.requires.fork c.args.k c.requires.index c.at.result c.at.ensures c.args.branch.now c.requires.branch c.requires.number

pub returns : goal.returns
returns c =
    let code = plain_code c.args._code.now in
    let h = c.args.self.now in
    let b = c.args.branch.now in
    let p = wake_packet code h c.args.k in
    let used = branch_uses code h c.requires.loaded c.requires.fork c.args.k c.requires.index c.at.result c.at.ensures in
    let make : PlainOwn → Thread = λ k. record { number = b.number; phase = phase.Running false; function = b.function; at = b.at; stack = b.stack; own = k; units = 0; allowance = h.allowance - h.units; branches = b.branches; joining = b.joining } in
    let k : c.receive_from.new.self ≡ with_copies p.copies b.own = c.receive_from.ensures ∙ ap (λ vs. with_copies (handed_by h.own vs) b.own) used in
    let room = wake_room_is code h c.requires.loaded c.requires.fork c.args.k c.requires.index b.number c.requires.number in
    let small = c.requires.loaded.small in
    subst (λ k. Begun code b (make k) (woken_by code b p) (h.allowance - h.units)) (sym k) (wake_begun code b c.requires.branch c.requires.paused p room (omega (arith, small)))
