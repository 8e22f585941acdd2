use Rattle.std.proofs.Common.{refl, sym, ap, subst}
use Rattle.thread_code.specs.Plain.{plain_code}
use Rattle.core_machine.specs.Threads.{RunsInPhase}
use Rattle.core_machine.specs.RunParts.{Begun, started_anew, woken_up}
use Rattle.combine_tree.specs.Plain.{plain_kind, plain_packet}
use Rattle.core_machine.proofs.Jobs.{start_stands, wake_stands, can_wake, is_wake}
use Rattle.core_machine.proofs.thread.Thread.begin.Goals as goal

pub returns-in-Start-clause-stands : goal.returns-in-Start-clause-stands
returns-in-Start-clause-stands c =
    let p = c.args.packet.now in
    let same = c.parts-code.ensures.same in
    let valid = c.parts-code.ensures.valid in
    let b = subst (λ k. Begun (plain_code k) c.args.self.now c.start.new.self (started_anew (plain_code k) c.args.self.now p) p.allowance) same c.start.ensures in
    start_stands (plain_code c.args.code.now) valid c.args.self.now c.requires.loaded c.requires.resting (plain_packet p) c.start.new.self b (ap (λ k. plain_kind k) c.in-Start.is)

pub returns-in_default : goal.returns-in_default
returns-in_default c =
    let p = c.args.packet.now in
    let same = c.parts-code.ensures.same in
    let valid = c.parts-code.ensures.valid in
    let b = subst (λ k. Begun (plain_code k) c.args.self.now c.wake.new.self (woken_up (plain_code k) c.args.self.now p) p.allowance) same c.wake.ensures in
    record {
      loaded = b.loaded;
      running = subst (RunsInPhase c.wake.new.self) (sym b.running) refl;
      number = b.number;
      stands = wake_stands (plain_code c.args.code.now) valid c.args.self.now c.requires.loaded c.requires.resting (plain_packet p) c.wake.new.self b (can_wake c.args.self.now p.kind c.in_default.not-Start c.requires.job) (ap (λ k. plain_kind k) (is_wake c.args.self.now p.kind c.in_default.not-Start c.requires.job));
    }
