-- How a round goes on.
use Rattle.std.proofs.Common.{◌≡◌, ℕ, ◌<◌, ◌≤◌, Some, List, length, refl, sym, ap, ◌∙◌, arith}
use Rattle.std.specs.Prelude.{Option, None, get_or, slice_get}
use Rattle.std.proofs.lemmas.Option.{slice_get-get_or}
use Rattle.core_bells.specs.Ropes.{RopeState, IsSameRope}
use Rattle.core_seats.specs.Keeping.{SchedulerState}
use Rattle.core_seats.specs.Waiting.{RestsOrWaits}
use Rattle.core_seats.specs.Serving.{KeepsOthers, KeepsServing}
use Rattle.core_seats.specs.Hung.{KeepsRope}
use Rattle.core_seats.specs.Rounds.{CanServe, IsSameRound}
use Rattle.core_seats.specs.declared.round.Round.{Round}
use Rattle.core_seats.proofs.Seats.{can_keep}

-- ---- the rope

pub same_rope : (r : RopeState) → IsSameRope r r
same_rope r = record { placement = refl; core = refl; rooms = refl; pushed = omega arith }

pub same_then : (r q p : RopeState) → IsSameRope r q → IsSameRope q p → IsSameRope r p
same_then r q p h g =
    let one = h.pushed in
    let two = g.pushed in record { placement = g.placement ∙ h.placement; core = g.core ∙ h.core; rooms = g.rooms ∙ h.rooms; pushed = omega (arith, one, two) }

pub rope_same : (a : Option RopeState) → KeepsRope a a
rope_same None = tt
rope_same (Some r) = same_rope r

pub rope_then : (a b c : Option RopeState) → KeepsRope a b → KeepsRope b c → KeepsRope a c
rope_then None None None h g = tt
rope_then (Some r) (Some q) (Some p) h g = same_then r q p h g
rope_then None (Some q) c h g = absurd h
rope_then (Some r) None c h g = absurd h
rope_then None None (Some p) h g = absurd g
rope_then (Some r) (Some q) None h g = absurd g

-- ---- the round

pub round_same : (s : SchedulerState) (r : Round) → CanServe s r → IsSameRound r r
round_same s r can = record { own = refl; next = can.next; rope = rope_same r.rope }

pub its_turn : (s : SchedulerState) (r : Round) → CanServe s r → (i k : ℕ) → i < length r.own.items → k ≡ get_or r.own.items i k → (k < length s.mail.ends) × RestsOrWaits s k
its_turn s r can i k lt is = can.each i k (slice_get-get_or r.own.items i k lt ∙ ap Some (sym is))

pub round_moved : (a b : Round) → a.next ≤ length a.own.items → b.own ≡ a.own → b.next ≡ a.next → KeepsRope a.rope b.rope → IsSameRound a b
round_moved a b within own next rope =
    let same = ap (λ v. length v.items) own in record { own = ap (λ v. v.items) own; next = omega (arith, within, same, next); rope = rope }

pub round_then : (a b c : Round) → IsSameRound a b → IsSameRound b c → IsSameRound a c
round_then a b c h g = record { own = g.own ∙ h.own; next = g.next; rope = rope_then a.rope b.rope c.rope h.rope g.rope }

pub round_others : (s0 s1 : SchedulerState) (a b : Round) → KeepsOthers s0 s1 → IsSameRound a b → CanServe s0 a → CanServe s1 b
round_others s0 s1 a b keeps same can = record {
  next = same.next;
  each = λ i k at.
      let e = can.each i k (ap (λ l. slice_get l i) (sym same.own) ∙ at) in
      let lt = e.0 in
      let count = keeps.alike.count in (omega (arith, lt, count), keeps.between k e.1);
  all = can_keep s0 s1 0 keeps.alike.count (λ j le w. keeps.between j w) (λ j le v. keeps.vacant j v) can.all;
}

pub round_still : (s0 s1 : SchedulerState) (a b : Round) → KeepsServing s0 s1 → IsSameRound a b → CanServe s0 a → CanServe s1 b
round_still s0 s1 a b keeps = round_others s0 s1 a b keeps.others
