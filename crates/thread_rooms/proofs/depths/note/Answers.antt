use Rattle.thread_rooms.proofs.Spreading.{is_unknown, spread_one}
use Rattle.thread_rooms.proofs.depths.note.Goals as goal

pub returns-then-found : goal.returns-then-found
returns-then-found c = spread_one c.args.at c.args.depth c.args.depths.now _ c.requires.within c.requires.known c.if-found.true (is_unknown _ c.if-found.true)
