use Rattle.std.proofs.Common.{rules, ◌≡◌, length, ap, ◌∙◌, arith}
use Rattle.std.specs.Prelude.{slice_get}
use Rattle.core_seats.proofs.ServingLemmas.{keeps_same, keeps_then, keeps_seated}
use Rattle.core_seats.proofs.RoundLemmas.{round_same, round_then, round_still}
use Rattle.core_seats.proofs.Sweeping.{swept_none, swept_more, swept_all, found_in}
use Rattle.core_seats.proofs.scheduler.Scheduler.sweep.Goals as goal

pub loop-k-init : goal.loop-k-init
loop-k-init g c = record { keeps = keeps_same c.args.self.now; round = round_same c.args.self.now c.args.round.now c.requires.round; swept = swept_none c.args.round.now.own.items c.args.self.now c.args.round.now.up }

pub serve_at-found-requires-clause-seated : goal.serve_at-found-requires-clause-seated
serve_at-found-requires-clause-seated g c = keeps_seated c.args.self.now c.loop-k.self c.loop-k.invariant.keeps c.requires.seated

pub serve_at-found-requires-clause-round : goal.serve_at-found-requires-clause-round
serve_at-found-requires-clause-round g c = round_still c.args.self.now c.loop-k.self c.args.round.now c.loop-k.round c.loop-k.invariant.keeps c.loop-k.invariant.round c.requires.round

pub loop-k-preserved : goal.loop-k-preserved
loop-k-preserved g c = record {
  keeps = keeps_then c.args.self.now c.loop-k.self c.serve_at-found.new.self c.loop-k.invariant.keeps c.serve_at-found.ensures.keeps;
  round = round_then c.args.round.now c.loop-k.round c.serve_at-found.new.round c.loop-k.invariant.round c.serve_at-found.ensures.round;
  swept =
      swept_more c.args.round.now.own.items c.args.self.now c.loop-k.self c.serve_at-found.new.self c.loop-k.found c.serve_at-found.result c.args.round.now.up c.loop-k.k c.index_at.result c.loop-k.invariant.keeps c.serve_at-found.ensures.keeps
      c.loop-k.invariant.swept
      (found_in c.loop-k.round.own.items c.args.round.now.own.items c.loop-k.self c.serve_at-found.new.self c.serve_at-found.result c.loop-k.invariant.round.own
      (record { worked = c.serve_at-found.ensures.worked; missed = c.serve_at-found.ensures.missed }))
      (λ e k at. c.serve_at-found.ensures.idle e k (ap (λ l. slice_get l c.index_at.result) c.loop-k.invariant.round.own ∙ at)) c.index_at.ensures.up (λ down. let d = c.index_at.ensures.down down in omega (arith, d, c.len-count.ensures, c.args.round.now.own.ok.0));
}

pub returns-clause-idle : goal.returns-clause-idle
returns-clause-idle g c e =
    let reached : c.loop-k.k ≡ c.len-count.result = search rules in
    let whole : c.loop-k.k ≡ length c.args.round.now.own.items = omega (arith, reached, c.len-count.ensures, c.args.round.now.own.ok.0) in
    swept_all c.args.round.now.own.items c.args.self.now c.loop-k.self c.loop-k.found c.args.round.now.up c.loop-k.k whole c.loop-k.invariant.swept e
