use Rattle.std.proofs.Common.{◌≡◌, ◌∷◌, [], ℕ, List, refl, ap, ◌∙◌, arith}
use Rattle.std.specs.Prelude.{Some, slice_get}
use Rattle.core_bells.specs.declared.belfry.LooseRope.{LooseRope}
use Rattle.core_bells.specs.Ropes.{new_ropes, states_of}
use Rattle.core_bells.proofs.Loosening.{fit_more, state_more}
use Rattle.core_bells.proofs.bells.loosen.Goals as goal

none_there : (l : List LooseRope) (i : ℕ) (r : LooseRope) → l ≡ [] → slice_get l i ≡ Some r → ⊥
none_there [] i r e at = absurd (cc)
none_there (x ∷ l) i r e at = absurd (cc)

pub loop-core-init : goal.loop-core-init
loop-core-init c = let items = c.new-loose.ensures.items in record {
  firsts = c.requires;
  fit = λ code placement are le i r at. absurd (none_there c.new-loose.result.items i r items at);
  states = λ code placement are. ap (states_of placement c.args.queues.now) items;
}

pub loop-core-preserved : goal.loop-core-preserved
loop-core-preserved c =
    let i = c.loop-core.invariant in let core = c.loop-core.core in let loose = c.loop-core.loose.items in let e = c.in_ok-passes.ensures in let queues = c.args.queues.now in
    let r : LooseRope = record { core = core; passes = c.in_ok-passes.passes; parker = c.in_ok-parker.parker } in let items = c.in_ok-push_back.ensures.items in record {
      firsts = e.firsts;
      fit = λ code placement are le. rw items (fit_more code placement queues are loose r (i.fit code placement are (omega (arith, le))) (omega (arith, le)) e.passes e.logs e.own);
      states = λ code placement are. rw items (state_more code placement queues are loose r core (i.states code placement are) refl e.logs);
    }

pub returns : goal.returns
returns c =
    let i = c.loop-core.invariant in let end = c.loop-core.auto.core-end in let past = c.loop-core-test.false in let all : c.loop-core.core ≡ c.args.cores = omega (arith, end, past) in record {
      fit = λ code placement are le. i.fit code placement are (omega (arith, le, end));
      states = λ code placement are. i.states code placement are ∙ ap (new_ropes code placement) all;
    }
