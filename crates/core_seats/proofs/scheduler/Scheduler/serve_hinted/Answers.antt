use Rattle.std.proofs.Common.{ap, ◌∙◌}
use Rattle.core_seats.proofs.ServingLemmas.{keeps_same, keeps_then, keeps_seated}
use Rattle.core_seats.proofs.RoundLemmas.{round_same, round_then, round_still, round_moved}
use Rattle.core_seats.proofs.Sweeping.{found_none, found_more, found_in}
use Rattle.core_seats.proofs.scheduler.Scheduler.serve_hinted.Goals as goal

pub loop-init : goal.loop-init
loop-init g c = record { keeps = keeps_same c.args.self.now; round = round_same c.args.self.now c.args.round.now c.requires.round; found = found_none c.args.round.now.own.items c.args.self.now }

pub serve_named-found-requires-clause-seated : goal.serve_named-found-requires-clause-seated
serve_named-found-requires-clause-seated g c = keeps_seated c.args.self.now c.loop.self c.loop.invariant.keeps c.requires.seated

pub serve_named-found-requires-clause-round : goal.serve_named-found-requires-clause-round
serve_named-found-requires-clause-round g c =
    round_still c.args.self.now c.loop.self c.args.round.now c.hint.new.self c.loop.invariant.keeps
    (round_then c.args.round.now c.loop.round c.hint.new.self c.loop.invariant.round (round_moved c.loop.round c.hint.new.self c.loop.invariant.round.next c.hint.ensures.own c.hint.ensures.next c.hint.ensures.rope)) c.requires.round

pub loop-preserved : goal.loop-preserved
loop-preserved g c = record {
  keeps = keeps_then c.args.self.now c.loop.self c.serve_named-found.new.self c.loop.invariant.keeps c.serve_named-found.ensures.keeps;
  round = round_then c.args.round.now c.loop.round c.serve_named-found.new.round c.loop.invariant.round
      (round_then c.loop.round c.hint.new.self c.serve_named-found.new.round (round_moved c.loop.round c.hint.new.self c.loop.invariant.round.next c.hint.ensures.own c.hint.ensures.next c.hint.ensures.rope) c.serve_named-found.ensures.round);
  found =
      found_more c.args.round.now.own.items c.args.self.now c.loop.self c.serve_named-found.new.self c.loop.found c.serve_named-found.result c.loop.invariant.keeps c.serve_named-found.ensures.keeps c.loop.invariant.found
      (found_in c.hint.new.self.own.items c.args.round.now.own.items c.loop.self c.serve_named-found.new.self c.serve_named-found.result (ap (λ v. v.items) c.hint.ensures.own ∙ c.loop.invariant.round.own)
      (record { worked = c.serve_named-found.ensures.worked; missed = c.serve_named-found.ensures.missed }));
}

pub returns-in_default-clause-round : goal.returns-in_default-clause-round
returns-in_default-clause-round g c =
    round_then c.args.round.now c.loop.round c.hint.new.self c.loop.invariant.round (round_moved c.loop.round c.hint.new.self c.loop.invariant.round.next c.hint.ensures.own c.hint.ensures.next c.hint.ensures.rope)
