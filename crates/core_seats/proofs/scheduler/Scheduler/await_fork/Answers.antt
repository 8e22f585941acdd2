use Rattle.std.proofs.Common.{refl, sym, subst}
use Rattle.core_seats.specs.Waiting.{CanDescend}
use Rattle.core_seats.proofs.CallingLemmas.{stays_others}
use Rattle.core_seats.proofs.DescendingLemmas.{kept_round}
use Rattle.core_seats.proofs.GoingOn.{gathers_there}
use Rattle.core_seats.proofs.RoundLemmas.{round_then, round_others}
use Rattle.core_seats.proofs.ServingLemmas.{others_then, others_seated}
use Rattle.core_seats.proofs.scheduler.Scheduler.await_fork.Goals as goal

pub serve_fork-requires-clause-above : goal.serve_fork-requires-clause-above
serve_fork-requires-clause-above g c = subst (CanDescend c.args.self.now) (sym c.requires.root) c.requires.round.all

pub await_replies-requires-clause-seated : goal.await_replies-requires-clause-seated
await_replies-requires-clause-seated g c = others_seated c.args.self.now c.serve_fork.new.self (stays_others c.args.thread.now.number c.args.self.now c.serve_fork.new.self c.requires.root c.serve_fork.ensures.served.stays) c.requires.seated

pub await_replies-requires-clause-round : goal.await_replies-requires-clause-round
await_replies-requires-clause-round g c =
    round_others c.args.self.now c.serve_fork.new.self c.args.round.now c.serve_fork.new.round (stays_others c.args.thread.now.number c.args.self.now c.serve_fork.new.self c.requires.root c.serve_fork.ensures.served.stays)
    (kept_round c.args.round.now c.serve_fork.new.round c.requires.round.next c.serve_fork.ensures.round) c.requires.round

pub await_replies-requires-clause-gathering : goal.await_replies-requires-clause-gathering
await_replies-requires-clause-gathering g c = gathers_there c.args.self.now c.serve_fork.new.self c.args.thread.now c.serve_fork.result c.serve_fork.ensures.served c.requires.told

pub returns-then-not-serve_fork : goal.returns-then-not-serve_fork
returns-then-not-serve_fork g c = record {
  keeps = others_then c.args.self.now c.serve_fork.new.self c.await_replies.new.self (stays_others c.args.thread.now.number c.args.self.now c.serve_fork.new.self c.requires.root c.serve_fork.ensures.served.stays) c.await_replies.ensures.keeps;
  round = round_then c.args.round.now c.serve_fork.new.round c.await_replies.new.round (kept_round c.args.round.now c.serve_fork.new.round c.requires.round.next c.serve_fork.ensures.round) c.await_replies.ensures.round;
  all = λ pairs told. c.await_replies.ensures.all pairs (c.serve_fork.ensures.served.gathering pairs told);
  others = c.await_replies.ensures.others;
}

pub returns-else-not-serve_fork : goal.returns-else-not-serve_fork
returns-else-not-serve_fork g c = record {
  keeps = stays_others c.args.thread.now.number c.args.self.now c.serve_fork.new.self c.requires.root c.serve_fork.ensures.served.stays;
  round = kept_round c.args.round.now c.serve_fork.new.round c.requires.round.next c.serve_fork.ensures.round;
  all = λ pairs told. c.serve_fork.ensures.served.replies c.if-not-serve_fork.false pairs told;
  others = refl;
}
