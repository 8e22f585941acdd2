-- The ropes of all cores, one after the other.
use Rattle.std.proofs.Common.{◌≡◌, ℕ, zero, suc, ◌+◌, ◌<◌, ◌==◌, ◌∷◌, ◌++◌, [], List, length, sym, refl, ap, ◌∙◌, subst, ⊎_elim, append_assoc, add-one, arith}
use Rattle.std.specs.Prelude.{Option}
use Rattle.crossbeam_queue.specs.declared.array_queue.Doing.{Doing}
use Rattle.crossbeam_queue.specs.declared.array_queue.Slotted.{Slotted}
use Rattle.thread_code.specs.declared.instruction.CodeParts.{CodeParts}
use Rattle.core_alloc.specs.Places.{Places}
use Rattle.core_bells.specs.declared.belfry.LooseRope.{LooseRope}
use Rattle.core_bells.specs.declared.hints.HintLog.{HintLog}
use Rattle.core_bells.specs.Hints.{new_log}
use Rattle.core_bells.specs.Ropes.{RopesFit, AreQueues, ArePasses, RopeFitsCore, MayPop, RopeState, logs_of, new_logs, new_rope, new_ropes, pushed_hints, rope_state, states_of}
use Rattle.core_bells.proofs.HintLemmas.{total_snoc}
use Rattle.core_bells.proofs.Lists.{map_snoc, snoc_cases}

none_pushed : (core n : ℕ) → pushed_hints (new_logs core n) ≡ 0
none_pushed core zero = refl
none_pushed core (suc n) = let t = total_snoc (λ (v : HintLog). length v.pushed) (new_logs core n) (new_log (n == core)) in let ih = none_pushed core n in omega (arith, t, ih)

module _ {Q A : Type 0} (code : CodeParts) (placement : Places) (queues : List (Slotted (Option ℕ) (Doing ℕ HintLog) Q A)) (are : AreQueues code placement queues) where
  abbrev Fits : LooseRope → Type 0
  Fits r = RopeFitsCore placement queues r.core r.passes.items × (pushed_hints (logs_of r.passes.items) ≡ 0)

  pub fit_more : (ropes : List LooseRope) (r : LooseRope) → RopesFit placement queues ropes → r.core < placement.cores → ArePasses queues r.passes.items → logs_of r.passes.items ≡ new_logs r.core (length queues) → MayPop r.core r.passes.items
      → RopesFit placement queues (ropes ++ r ∷ [])
  fit_more ropes r all below passes logs own i s at = ⊎_elim
      (λ (x : (i ≡ length ropes) × (r ≡ s)). subst Fits x.1 (record { cores = are.cores; core_below = below; placed = are.placed; fit = passes; own = own }, ap pushed_hints logs ∙ none_pushed r.core (length queues)))
      (λ x. all i s x) (snoc_cases ropes r i s at)

  pub state_more : (ropes : List LooseRope) (r : LooseRope) (core : ℕ) → states_of placement queues ropes ≡ new_ropes code placement core → r.core ≡ core → logs_of r.passes.items ≡ new_logs core (length queues)
      → states_of placement queues (ropes ++ r ∷ []) ≡ new_ropes code placement (core + 1)
  state_more ropes r core all is logs = map_snoc (λ (t : LooseRope). rope_state placement queues t.core t.passes.items) ropes r ∙ ((λ i. all i ++ new i ∷ []) ∙ ap (new_ropes code placement) (sym (add-one core)))
    where
      new : rope_state placement queues r.core r.passes.items ≡ new_rope code placement core
      new = λ i. record { placement = placement; core = is i; rooms = are.rooms i; logs = (logs ∙ ap (new_logs core) are.cores) i }

module _ {Q A : Type 0} (placement : Places) (queues : List (Slotted (Option ℕ) (Doing ℕ HintLog) Q A)) where
  pub one_given : (ropes : List RopeState) (r : LooseRope) (rest : List LooseRope) (all : List RopeState) → ropes ++ states_of placement queues (r ∷ rest) ≡ all
      → (ropes ++ rope_state placement queues r.core r.passes.items ∷ []) ++ states_of placement queues rest ≡ all
  one_given ropes r rest all e = append_assoc ropes (rope_state placement queues r.core r.passes.items ∷ []) (states_of placement queues rest) ∙ e
