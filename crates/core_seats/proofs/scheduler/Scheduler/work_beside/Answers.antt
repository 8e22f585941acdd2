use Rattle.std.proofs.Common.{Some, refl, sym, ap, ◌∙◌}
use Rattle.core_seats.proofs.Rooted.{root_loaded, root_begins}
use Rattle.core_seats.proofs.BesideLemmas.{TakesUp, ComesDown, up_root, up_seated, up_each, up_all, up_begun, down_code, down_places, down_keeper, down_grown, down_seated, down_here, down_was_here, down_between, down_vacant, down_packets, down_replied, down_rests}
use Rattle.core_seats.proofs.scheduler.Scheduler.work_beside.Given.{Over}
use Rattle.core_seats.proofs.scheduler.Scheduler.work_beside.Goals.{After-begin, After-index_mut-2}
use Rattle.core_seats.proofs.scheduler.Scheduler.work_beside.Goals as goal

pub begin-requires-clause-loaded : goal.begin-requires-clause-loaded
begin-requires-clause-loaded g c = root_loaded c.args.self.now c.requires.seated.valid c.requires.root c.self.inside.code.now c.self.inside.places.items (g.P.Port.state c.self.inside.port) c.self.inside.seats.items c.self.inside.hands.items c.self.view_is c.index_mut.result.now c.index_mut.ensures.value c.take.result c.take.ensures.value c.deref_mut-thread.result.now (c.in-Some.is ∙ ap Some (sym c.deref_mut-thread.ensures.value))

pub begin-requires-clause-job : goal.begin-requires-clause-job
begin-requires-clause-job g c = root_begins c.args.self.now c.requires.seated.valid c.requires.root c.self.inside.code.now c.self.inside.places.items (g.P.Port.state c.self.inside.port) c.self.inside.seats.items c.self.inside.hands.items c.self.view_is c.index_mut.result.now c.index_mut.ensures.value c.take.result c.take.ensures.value c.deref_mut-thread.result.now (c.in-Some.is ∙ ap Some (sym c.deref_mut-thread.ensures.value)) c.args.packet.now.kind c.requires.job

-- ---- out of its seat

abbrev took : (g : Over) (c : After-begin g) → TakesUp c.args.self.now
took g c = record { root = c.requires.root; packets = c.requires.packets; code = c.self.inside.code.now; places = c.self.inside.places.items; mail = g.P.Port.state c.self.inside.port; seats = c.self.inside.seats.items; hands = c.self.inside.hands.items; view = c.self.view_is; x = c.index_mut.result.now; read = c.index_mut.ensures.value; found = c.take.result; value = c.take.ensures.value; h = c.deref_mut-thread.result.now; is = c.in-Some.is ∙ ap Some (sym c.deref_mut-thread.ensures.value); y = record { thread = c.take.new.self; job = c.index_mut.result.now.job }; p = c.args.packet.now; h1 = c.begin.new.self; number = c.begin.ensures.number; stands = c.begin.ensures.stands }

pub finish_beside-requires-clause-seated : goal.finish_beside-requires-clause-seated
finish_beside-requires-clause-seated g c = let b = (goal.at.finish_beside-requires-clause-seated g c).After-begin in up_seated c.args.self.now c.requires.seated (took g b)

pub finish_beside-requires-clause-round : goal.finish_beside-requires-clause-round
finish_beside-requires-clause-round g c = let b = (goal.at.finish_beside-requires-clause-round g c).After-begin in record {
  next = c.requires.round.next;
  each = up_each c.args.self.now c.requires.seated (took g b) c.args.round.now.own.items c.requires.round.each;
  all = up_all c.args.self.now c.requires.seated (took g b) c.requires.round.all;
}

pub finish_beside-requires-clause-root : goal.finish_beside-requires-clause-root
finish_beside-requires-clause-root g c = let b = (goal.at.finish_beside-requires-clause-root g c).After-begin in up_root c.args.self.now c.requires.seated (took g b)

pub finish_beside-requires-clause-begun : goal.finish_beside-requires-clause-begun
finish_beside-requires-clause-begun g c = let b = (goal.at.finish_beside-requires-clause-begun g c).After-begin in (
  c.requires.root.jobs,
  c.requires.is.0,
  up_begun c.args.self.now c.requires.seated (took g b) c.requires.is.0 c.requires.is.1,
)

-- ---- and back

abbrev takes : (g : Over) (c : After-index_mut-2 g) → TakesUp c.args.self.now
takes g c = record { root = c.requires.root; packets = c.requires.packets; code = c.self.inside.code.now; places = c.self.inside.places.items; mail = g.P.Port.state c.self.inside.port; seats = c.self.inside.seats.items; hands = c.self.inside.hands.items; view = c.self.view_is; x = c.index_mut.result.now; read = c.index_mut.ensures.value; found = c.take.result; value = c.take.ensures.value; h = c.deref_mut-thread.result.now; is = c.in-Some.is ∙ ap Some (sym c.deref_mut-thread.ensures.value); y = record { thread = c.take.new.self; job = c.index_mut.result.now.job }; p = c.args.packet.now; h1 = c.begin.new.self; number = c.begin.ensures.number; stands = c.begin.ensures.stands }

abbrev came : (g : Over) (c : After-index_mut-2 g) → ComesDown c.args.self.now c.requires.seated (takes g c)
came g c = record { s3 = c.finish_beside.new.self; h2 = c.finish_beside.new.thread; root2 = c.finish_beside.ensures.root; loaded2 = c.finish_beside.ensures.loaded; replied = c.finish_beside.ensures.reply; keeps = c.finish_beside.ensures.keeps; done3 = c.finish_beside.ensures.done; code2 = c.self-2.inside.code.now; places2 = c.self-2.inside.places.items; mail2 = g.P.Port.state c.self-2.inside.port; seats2 = c.self-2.inside.seats.items; hands2 = c.self-2.inside.hands.items; view2 = c.self-2.view_is; p' = c.reply.new.packet; gives = c.reply.ensures.gives; z = record { thread = Some c.finish_beside.new.thread; job = c.index_mut-2.result.now.job }; sits = refl }

pub returns-clause-seated : goal.returns-clause-seated
returns-clause-seated g c = let d = (goal.at.returns-clause-seated g c).After-index_mut-2 in down_seated c.args.self.now c.requires.seated (takes g d) (came g d)

pub returns-clause-code : goal.returns-clause-code
returns-clause-code g c = let d = (goal.at.returns-clause-code g c).After-index_mut-2 in down_code c.args.self.now c.requires.seated (takes g d) (came g d)

pub returns-clause-places : goal.returns-clause-places
returns-clause-places g c = let d = (goal.at.returns-clause-places g c).After-index_mut-2 in down_places c.args.self.now c.requires.seated (takes g d) (came g d)

pub returns-clause-keeper : goal.returns-clause-keeper
returns-clause-keeper g c = let d = (goal.at.returns-clause-keeper g c).After-index_mut-2 in down_keeper c.args.self.now c.requires.seated (takes g d) (came g d)

pub returns-clause-here : goal.returns-clause-here
returns-clause-here g c = let d = (goal.at.returns-clause-here g c).After-index_mut-2 in down_here c.args.self.now c.requires.seated (takes g d) (came g d)

pub returns-clause-was_here : goal.returns-clause-was_here
returns-clause-was_here g c = let d = (goal.at.returns-clause-was_here g c).After-index_mut-2 in down_was_here c.args.self.now c.requires.seated (takes g d) (came g d)

pub returns-clause-between : goal.returns-clause-between
returns-clause-between g c = let d = (goal.at.returns-clause-between g c).After-index_mut-2 in down_between c.args.self.now c.requires.seated (takes g d) (came g d)

pub returns-clause-vacant : goal.returns-clause-vacant
returns-clause-vacant g c = let d = (goal.at.returns-clause-vacant g c).After-index_mut-2 in down_vacant c.args.self.now c.requires.seated (takes g d) (came g d)

pub returns-clause-root : goal.returns-clause-root
returns-clause-root g c = let d = (goal.at.returns-clause-root g c).After-index_mut-2 in down_rests c.args.self.now c.requires.seated (takes g d) (came g d) c.requires.is.0 c.requires.is.1

pub returns-clause-packets : goal.returns-clause-packets
returns-clause-packets g c = let d = (goal.at.returns-clause-packets g c).After-index_mut-2 in down_packets c.args.self.now c.requires.seated (takes g d) (came g d) c.requires.is.0 c.requires.is.1

pub returns-clause-grown : goal.returns-clause-grown
returns-clause-grown g c = let d = (goal.at.returns-clause-grown g c).After-index_mut-2 in down_grown c.args.self.now c.requires.seated (takes g d) (came g d)

pub returns-clause-replied : goal.returns-clause-replied
returns-clause-replied g c = let d = (goal.at.returns-clause-replied g c).After-index_mut-2 in down_replied c.args.self.now c.requires.seated (takes g d) (came g d)
