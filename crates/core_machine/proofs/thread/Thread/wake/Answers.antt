use Rattle.std.proofs.Common.{false, ◌≡◌, ◌∙◌, sym, ap, subst, List}
use Rattle.forec_kernel.specs.declared.shape.VarCopy.{VarCopy}
use Rattle.thread_code.specs.Plain.{plain_code}
use Rattle.thread_state.specs.Kept.{PlainOwn, with_copies}
use Rattle.core_machine.specs.declared.thread.Thread.{Thread}
use Rattle.core_machine.specs.declared.thread.Phase.TheVariants as phase
use Rattle.core_machine.specs.RunParts.{Begun, woken_up}
use Rattle.combine_tree.specs.Plain.{plain_packet}
use Rattle.core_machine.proofs.Jobs.{wake_begun}
use Rattle.core_machine.proofs.thread.Thread.wake.Goals as goal

pub returns : goal.returns
returns c =
    let code = plain_code c.args.code.now in
    let h = c.args.self.now in
    let p = c.args.packet.now in
    let make : PlainOwn → Thread = λ k. record { number = h.number; phase = phase.Running false; function = h.function; at = h.at; stack = h.stack; own = k; units = 0; allowance = p.allowance; branches = h.branches; joining = h.joining } in
    let k : c.receive.new.self ≡ with_copies p.copies.items h.own = c.receive.ensures ∙ ap (λ (xs : List VarCopy). with_copies xs h.own) c.deref.ensures.value in
    subst (λ k. Begun code h (make k) (woken_up code h p) p.allowance) (sym k) (wake_begun code h c.requires.loaded c.requires.paused (plain_packet p) c.requires.room c.requires.small)
