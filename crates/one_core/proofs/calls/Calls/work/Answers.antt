use Rattle.std.proofs.Common.{◌≡◌, Some, List, refl, sym, ap, ◌∙◌, subst}
use Rattle.forec_kernel.specs.Engine.{Exchange}
use Rattle.thread_code.specs.declared.instruction.CodeParts.{CodeParts}
use Rattle.thread_code.specs.Plain.{plain_code}
use Rattle.combine_tree.specs.Plain.{plain_packet}
use Rattle.core_machine.specs.Threads.{StandsFor, RepliesToLast}
use Rattle.one_core.specs.Seats.{Seated, HasAllSeats}
use Rattle.one_core.specs.Resting.{AllRestAfter}
use Rattle.one_core.proofs.RootLemmas.{has_begun, root_replied}
use Rattle.one_core.proofs.calls.Calls.work.Goals as goal

pub finish-requires-clause-begun : goal.finish-requires-clause-begun
finish-requires-clause-begun g c =
    has_begun c.self.inside.code.now c.self.inside.seats.items (subst HasAllSeats (sym c.self.view_is) c.requires.fitted) c.requires.worked.0 (subst (λ s. AllRestAfter s c.requires.worked.0) (sym c.self.view_is) c.requires.worked.1)
    c.index_mut.result.now c.index_mut.ensures.value c.deref_mut-thread.result.now (sym c.take.ensures.value ∙ c.in-Some.is ∙ ap Some (sym c.deref_mut-thread.ensures.value))
    c.take.new.self (plain_packet c.args.packet.now) c.begin.new.self c.begin.ensures.number c.begin.ensures.stands c.requires.is.0 c.requires.is.1

pub returns-clause-replied : goal.returns-clause-replied
returns-clause-replied g c jobs job worked is =
    let code : c.self-2.inside.code.now ≡ c.self.inside.code.now = ap (λ (s : Seated). s.code) c.self-2.view_is ∙ c.finish.ensures.leaves.code in
    let gives : (xs : List Exchange) → StandsFor (plain_code c.self.inside.code.now) c.finish.new.thread xs → RepliesToLast (plain_code c.self.inside.code.now) c.finish.new.thread.number xs (plain_packet c.reply.new.packet) = λ xs st.
    subst (λ (x : CodeParts). RepliesToLast (plain_code x) c.finish.new.thread.number xs (plain_packet c.reply.new.packet)) code
    (c.reply.ensures.gives xs (subst (λ (x : CodeParts). StandsFor (plain_code x) c.finish.new.thread xs) (sym code) st)) in
    root_replied c.self.inside.code.now c.self.inside.seats.items (subst HasAllSeats (sym c.self.view_is) c.requires.fitted) jobs (subst (λ s. AllRestAfter s jobs) (sym c.self.view_is) worked)
    c.index_mut.result.now c.index_mut.ensures.value c.deref_mut-thread.result.now (sym c.take.ensures.value ∙ c.in-Some.is ∙ ap Some (sym c.deref_mut-thread.ensures.value))
    c.take.new.self (plain_packet c.args.packet.now) c.begin.new.self c.begin.ensures.number c.begin.ensures.stands job is
    c.finish.new.self c.finish.ensures.leaves c.finish.new.thread c.finish.ensures.number c.finish.ensures.loaded c.finish.ensures.reply c.finish.ensures.done c.self-2.inside.code.now c.self-2.inside.seats.items c.self-2.view_is (plain_packet c.reply.new.packet) gives (Some c.finish.new.thread) refl
