use Rattle.std.proofs.Common.{Some, refl, sym, ap, ◌∙◌}
use Rattle.core_seats.specs.Keeping.{SchedulerState}
use Rattle.core_seats.proofs.Rooted.{root_loaded, root_begins, root_followed, root_above, root_quiet, root_rests, root_replies}
use Rattle.core_seats.proofs.scheduler.Scheduler.work.Goals as goal

pub begin-requires-clause-loaded : goal.begin-requires-clause-loaded
begin-requires-clause-loaded g c =
    root_loaded c.args.self.now c.requires.fitted.seated.valid c.requires.root c.self.inside.code.now c.self.inside.places.items (g.P.Port.state c.self.inside.port) c.self.inside.seats.items c.self.inside.hands.items c.self.view_is c.index_mut.result.now c.index_mut.ensures.value c.take.result c.take.ensures.value c.deref_mut-thread.result.now (c.in-Some.is ∙ ap Some (sym c.deref_mut-thread.ensures.value))

pub begin-requires-clause-job : goal.begin-requires-clause-job
begin-requires-clause-job g c =
    root_begins c.args.self.now c.requires.fitted.seated.valid c.requires.root c.self.inside.code.now c.self.inside.places.items (g.P.Port.state c.self.inside.port) c.self.inside.seats.items c.self.inside.hands.items c.self.view_is c.index_mut.result.now c.index_mut.ensures.value c.take.result c.take.ensures.value c.deref_mut-thread.result.now (c.in-Some.is ∙ ap Some (sym c.deref_mut-thread.ensures.value))
    c.args.packet.now.kind c.requires.job

pub finish-requires-clause-begun : goal.finish-requires-clause-begun
finish-requires-clause-begun g c =
    root_followed c.args.self.now c.requires.fitted.seated.valid c.requires.root c.self.inside.code.now c.self.inside.places.items (g.P.Port.state c.self.inside.port) c.self.inside.seats.items c.self.inside.hands.items c.self.view_is c.index_mut.result.now c.index_mut.ensures.value c.take.result c.take.ensures.value c.deref_mut-thread.result.now (c.in-Some.is ∙ ap Some (sym c.deref_mut-thread.ensures.value))
    (record { thread = c.take.new.self; job = c.index_mut.result.now.job }) c.args.packet.now c.begin.new.self c.begin.ensures.number c.begin.ensures.stands c.requires.is.0 c.requires.is.1

pub finish-requires-clause-above : goal.finish-requires-clause-above
finish-requires-clause-above g c =
    root_above c.args.self.now c.requires.fitted.seated.valid c.requires.root c.self.inside.code.now c.self.inside.places.items (g.P.Port.state c.self.inside.port) c.self.inside.seats.items c.self.inside.hands.items c.self.view_is c.index_mut.result.now c.index_mut.ensures.value c.take.result c.take.ensures.value c.deref_mut-thread.result.now (c.in-Some.is ∙ ap Some (sym c.deref_mut-thread.ensures.value))
    (record { thread = c.take.new.self; job = c.index_mut.result.now.job }) c.args.packet.now c.begin.new.self c.begin.ensures.number c.begin.ensures.stands c.requires.quiet

pub returns-clause-quiet : goal.returns-clause-quiet
returns-clause-quiet g c =
    root_quiet c.args.self.now c.requires.fitted.seated.valid c.requires.root c.self.inside.code.now c.self.inside.places.items (g.P.Port.state c.self.inside.port) c.self.inside.seats.items c.self.inside.hands.items c.self.view_is c.index_mut.result.now c.index_mut.ensures.value c.take.result c.take.ensures.value c.deref_mut-thread.result.now (c.in-Some.is ∙ ap Some (sym c.deref_mut-thread.ensures.value))
    (record { thread = c.take.new.self; job = c.index_mut.result.now.job }) c.args.packet.now c.begin.new.self c.begin.ensures.number c.begin.ensures.stands
    c.finish.new.self c.finish.new.thread c.finish.ensures.number c.finish.ensures.loaded c.finish.ensures.reply c.finish.ensures.leaves.code c.finish.ensures.leaves.seat_count c.finish.ensures.done
    c.self-2.inside.code.now c.self-2.inside.places.items (g.P.Port.state c.self-2.inside.port) c.self-2.inside.seats.items c.self-2.inside.hands.items c.self-2.view_is
    c.reply.new.packet c.reply.ensures.gives (record { thread = Some c.finish.new.thread; job = c.index_mut-2.result.now.job }) refl c.finish.ensures.above

pub returns-clause-root : goal.returns-clause-root
returns-clause-root g c =
    root_rests c.args.self.now c.requires.fitted.seated.valid c.requires.root c.self.inside.code.now c.self.inside.places.items (g.P.Port.state c.self.inside.port) c.self.inside.seats.items c.self.inside.hands.items c.self.view_is c.index_mut.result.now c.index_mut.ensures.value c.take.result c.take.ensures.value c.deref_mut-thread.result.now (c.in-Some.is ∙ ap Some (sym c.deref_mut-thread.ensures.value))
    (record { thread = c.take.new.self; job = c.index_mut.result.now.job }) c.args.packet.now c.begin.new.self c.begin.ensures.number c.begin.ensures.stands
    c.finish.new.self c.finish.new.thread c.finish.ensures.number c.finish.ensures.loaded c.finish.ensures.reply c.finish.ensures.leaves.code c.finish.ensures.leaves.seat_count c.finish.ensures.done
    c.self-2.inside.code.now c.self-2.inside.places.items (g.P.Port.state c.self-2.inside.port) c.self-2.inside.seats.items c.self-2.inside.hands.items c.self-2.view_is
    c.reply.new.packet c.reply.ensures.gives (record { thread = Some c.finish.new.thread; job = c.index_mut-2.result.now.job }) refl c.requires.is.0 c.requires.is.1

pub returns-clause-replied : goal.returns-clause-replied
returns-clause-replied g c t u jobs job a b done is =
    root_replies c.args.self.now c.requires.fitted.seated.valid c.requires.root c.self.inside.code.now c.self.inside.places.items (g.P.Port.state c.self.inside.port) c.self.inside.seats.items c.self.inside.hands.items c.self.view_is c.index_mut.result.now c.index_mut.ensures.value c.take.result c.take.ensures.value c.deref_mut-thread.result.now (c.in-Some.is ∙ ap Some (sym c.deref_mut-thread.ensures.value))
    (record { thread = c.take.new.self; job = c.index_mut.result.now.job }) c.args.packet.now c.begin.new.self c.begin.ensures.number c.begin.ensures.stands
    c.finish.new.self c.finish.new.thread c.finish.ensures.number c.finish.ensures.loaded c.finish.ensures.reply c.finish.ensures.leaves.code c.finish.ensures.leaves.seat_count c.finish.ensures.done
    c.self-2.inside.code.now c.self-2.inside.places.items (g.P.Port.state c.self-2.inside.port) c.self-2.inside.seats.items c.self-2.inside.hands.items c.self-2.view_is
    c.reply.new.packet c.reply.ensures.gives (record { thread = Some c.finish.new.thread; job = c.index_mut-2.result.now.job }) refl t u jobs job a b done is

pub returns-clause-keeper : goal.returns-clause-keeper
returns-clause-keeper g c = ap (λ (s : SchedulerState). s.mail.root) c.self-2.view_is ∙ c.finish.ensures.leaves.alike.root ∙ ap (λ (s : SchedulerState). s.mail.root) c.self.view_is
