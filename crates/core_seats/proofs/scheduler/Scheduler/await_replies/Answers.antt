use Rattle.std.proofs.Common.{refl, sym, ◌∙◌, subst}
use Rattle.core_seats.specs.Rounds.{IsSameRound}
use Rattle.core_seats.proofs.ServingLemmas.{keeps_seated, others_same, others_then, others_seated}
use Rattle.core_seats.proofs.BesideLemmas.{branches_others, serving_gathering}
use Rattle.core_seats.proofs.RoundLemmas.{round_same, round_then, round_others}
use Rattle.core_seats.proofs.scheduler.Scheduler.await_replies.Goals as goal

pub loop-init : goal.loop-init
loop-init g c = record { keeps = others_same c.args.self.now; round = round_same c.args.self.now c.args.round.now c.requires.round; gathering = λ pairs w. w; others = refl }

pub serve_sweep-mine-requires-clause-seated : goal.serve_sweep-mine-requires-clause-seated
serve_sweep-mine-requires-clause-seated g c = others_seated c.args.self.now c.loop.self c.loop.invariant.keeps c.requires.seated

pub serve_sweep-mine-requires-clause-round : goal.serve_sweep-mine-requires-clause-round
serve_sweep-mine-requires-clause-round g c = round_others c.args.self.now c.loop.self c.args.round.now c.loop.round c.loop.invariant.keeps c.loop.invariant.round c.requires.round

pub gather_replies-requires-clause-seated : goal.gather_replies-requires-clause-seated
gather_replies-requires-clause-seated g c =
    keeps_seated c.loop.self c.serve_sweep-mine.new.self c.serve_sweep-mine.ensures.keeps (others_seated c.args.self.now c.loop.self c.loop.invariant.keeps c.requires.seated)

pub gather_replies-requires-clause-gathering : goal.gather_replies-requires-clause-gathering
gather_replies-requires-clause-gathering g c =
    let it = c.requires.gathering in
    (it.0, serving_gathering c.loop.self c.serve_sweep-mine.new.self c.args.thread.now c.requires.root c.serve_sweep-mine.ensures.keeps it.0 (c.loop.invariant.gathering it.0 it.1))

pub loop-preserved : goal.loop-preserved
loop-preserved g c = record {
  keeps = others_then c.args.self.now c.loop.self c.gather_replies.new.self c.loop.invariant.keeps
      (others_then c.loop.self c.serve_sweep-mine.new.self c.gather_replies.new.self c.serve_sweep-mine.ensures.keeps.others
      (branches_others c.serve_sweep-mine.new.self c.gather_replies.new.self c.args.thread.now.number c.requires.root c.gather_replies.ensures.moves));
  round = subst (IsSameRound c.args.round.now) (sym c.rest.ensures) (round_then c.args.round.now c.loop.round c.serve_sweep-mine.new.round c.loop.invariant.round c.serve_sweep-mine.ensures.round);
  gathering = λ pairs w. c.gather_replies.ensures.gathering c.if-gather_replies.false pairs (serving_gathering c.loop.self c.serve_sweep-mine.new.self c.args.thread.now c.requires.root c.serve_sweep-mine.ensures.keeps pairs (c.loop.invariant.gathering pairs w));
  others = c.serve-theirs.ensures ∙ c.loop.invariant.others;
}

pub returns-then-gather_replies : goal.returns-then-gather_replies
returns-then-gather_replies g c = record {
  keeps = others_then c.args.self.now c.loop.self c.gather_replies.new.self c.loop.invariant.keeps
      (others_then c.loop.self c.serve_sweep-mine.new.self c.gather_replies.new.self c.serve_sweep-mine.ensures.keeps.others
      (branches_others c.serve_sweep-mine.new.self c.gather_replies.new.self c.args.thread.now.number c.requires.root c.gather_replies.ensures.moves));
  round = subst (IsSameRound c.args.round.now) (sym c.rise.ensures) (round_then c.args.round.now c.loop.round c.serve_sweep-mine.new.round c.loop.invariant.round c.serve_sweep-mine.ensures.round);
  all = λ pairs w. c.gather_replies.ensures.all c.if-gather_replies.true pairs (serving_gathering c.loop.self c.serve_sweep-mine.new.self c.args.thread.now c.requires.root c.serve_sweep-mine.ensures.keeps pairs (c.loop.invariant.gathering pairs w));
  others = c.serve-theirs.ensures ∙ c.loop.invariant.others;
}
