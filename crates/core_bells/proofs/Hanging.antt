-- A rope's passes and logs, when one of them changes.
use Rattle.std.proofs.Common.{◌≡◌, ℕ, zero, suc, ◌+◌, ◌-◌, ◌^◌, ◌<◌, ◌≤◌, ◌∷◌, [], List, Bool, true, false, length, length-set, map, set, refl, sym, ap, ◌∙◌, subst, ⊎_elim, arith}
use Rattle.std.specs.Prelude.{Option, Some, None, cond, get_or, min, slice_get, slice_set}
use Rattle.std.proofs.lemmas.List.{map-set}
use Rattle.std.proofs.lemmas.Option.{get_or_from_slice_get}
use Rattle.crossbeam_queue.specs.declared.array_queue.Doing.{Doing}
use Rattle.crossbeam_queue.specs.declared.array_queue.Slotted.{Slotted}
use Rattle.crossbeam_queue.specs.Passes.{Pass, IsPassOf, ruled_capacity, view}
use Rattle.crossbeam_queue.specs.Fifo.{Held}
use Rattle.core_alloc.specs.Places.{Places}
use Rattle.core_bells.specs.declared.hints.HintLog.{HintLog}
use Rattle.core_bells.specs.Hints.{Accounts, Knows, after_pop, after_push, new_log}
use Rattle.core_bells.specs.Ropes.{RopeState, RopeFitsCore, IsSameRope, WasEmpty, WasFull, after_ring, after_rope_pop, capped_count, logs_of, pushed_hints, rope_state}
use Rattle.core_bells.proofs.Lists.{length_snoc, same_there, set_cases}

pub get_map : {A B : Type 0} (f : A → B) (l : List A) (k : ℕ) (a : A) → slice_get l k ≡ Some a → slice_get (map f l) k ≡ Some (f a)
get_map f [] k a e = absurd (cc)
get_map f (x ∷ l) zero a e = cc
get_map f (x ∷ l) (suc k) a e = get_map f l k a e

pub or_map : {A B : Type 0} (f : A → B) (l : List A) (k : ℕ) (a : A) (d : B) → slice_get l k ≡ Some a → get_or (map f l) k d ≡ f a
or_map f l k a d e = get_or_from_slice_get (map f l) k (f a) d (get_map f l k a e)

pub logs_set : (passes : List (Pass ℕ HintLog)) (k : ℕ) (old new : Pass ℕ HintLog) (f : HintLog → HintLog) → slice_get passes k ≡ Some old → view new ≡ f (view old)
    → logs_of (set passes k new) ≡ set (logs_of passes) k (f (get_or (logs_of passes) k (new_log false)))
logs_set passes k old new f at is = map-set view passes k new ∙ ap (set (logs_of passes) k) (is ∙ ap f (sym (or_map view passes k old (new_log false) at)))

pub log_is : (passes : List (Pass ℕ HintLog)) (k : ℕ) (p : Pass ℕ HintLog) → slice_get passes k ≡ Some p → get_or (logs_of passes) k (new_log false) ≡ view p
log_is passes k p at = or_map view passes k p (new_log false) at

module _ {Q A : Type 0} where
  pub within : (placement : Places) (queues : List (Slotted (Option ℕ) (Doing ℕ HintLog) Q A)) (core : ℕ) (passes : List (Pass ℕ HintLog)) (k : ℕ) → RopeFitsCore placement queues core passes → k < placement.cores → (k < length queues) × (k < length passes)
  within placement queues core passes k h lt = let a = h.cores in let b = h.fit.long in (omega (arith, a, lt), omega (arith, a, b, lt))

  pub state_set : (placement : Places) (queues : List (Slotted (Option ℕ) (Doing ℕ HintLog) Q A)) (core : ℕ) (passes : List (Pass ℕ HintLog)) (k : ℕ) (old new : Pass ℕ HintLog) (f : HintLog → HintLog)
      → slice_get passes k ≡ Some old → view new ≡ f (view old)
      → rope_state placement queues core (set passes k new) ≡ record (rope_state placement queues core passes) { logs = slice_set (logs_of passes) k (f (get_or (logs_of passes) k (new_log false))) }
  state_set placement queues core passes k old new f at is =
      ap (λ (l : List HintLog). record (rope_state placement queues core passes) { logs = l }) (logs_set passes k old new f at is)

  pub full_at : (placement : Places) (queues : List (Slotted (Option ℕ) (Doing ℕ HintLog) Q A)) (core : ℕ) (passes : List (Pass ℕ HintLog)) (k : ℕ) (q : Slotted (Option ℕ) (Doing ℕ HintLog) Q A) (p : Pass ℕ HintLog)
      → slice_get queues k ≡ Some q → slice_get passes k ≡ Some p → Held (ruled_capacity q) (Knows (view p)) → WasFull k (rope_state placement queues core passes)
  full_at placement queues core passes k q p there at h = subst (λ (z : ℕ × HintLog). Held z.0 (Knows z.1)) (λ i. (sym (or_map ruled_capacity queues k q 0 there) i, sym (log_is passes k p at) i)) h

  pub empty_at : (placement : Places) (queues : List (Slotted (Option ℕ) (Doing ℕ HintLog) Q A)) (core : ℕ) (passes : List (Pass ℕ HintLog)) (p : Pass ℕ HintLog)
      → slice_get passes core ≡ Some p → (view p).may_pop ≡ true → Held 0 (Knows (view p)) → WasEmpty (rope_state placement queues core passes)
  empty_at placement queues core passes p at may h = subst (λ (v : HintLog). Held 0 (Accounts v)) (sym (log_is passes core p at)) (h.0, h.1, h.2 may)

  pub fits_set : (placement : Places) (queues : List (Slotted (Option ℕ) (Doing ℕ HintLog) Q A)) (core : ℕ) (passes : List (Pass ℕ HintLog)) (k : ℕ) (q : Slotted (Option ℕ) (Doing ℕ HintLog) Q A) (old new : Pass ℕ HintLog)
      → slice_get queues k ≡ Some q → slice_get passes k ≡ Some old → IsPassOf q new → (view new).may_pop ≡ (view old).may_pop → RopeFitsCore placement queues core passes → RopeFitsCore placement queues core (set passes k new)
  fits_set placement queues core passes k q old new there was is same h = record {
    cores = h.cores;
    core_below = h.core_below;
    placed = h.placed;
    fit = record {
      long = length-set passes k new ∙ h.fit.long;
      each = λ j r s here at. ⊎_elim
          (λ (x : (j ≡ k) × (new ≡ s)). subst (λ (z : Slotted (Option ℕ) (Doing ℕ HintLog) Q A × Pass ℕ HintLog). IsPassOf z.0 z.1) (λ i. (same_there queues k q r there (ap (slice_get queues) (sym x.0) ∙ here) i, x.1 i)) is)
          (λ x. h.fit.each j r s here x.1) (set_cases passes k new j s at);
    };
    own = λ s at. ⊎_elim
        (λ (x : (core ≡ k) × (new ≡ s)). ap (λ (p : Pass ℕ HintLog). (view p).may_pop) (sym x.1) ∙ (same ∙ h.own old (ap (slice_get passes) x.0 ∙ was)))
        (λ x. h.own s x.1) (set_cases passes k new core s at);
  }

pushed_set : (logs : List HintLog) (k : ℕ) (v w : HintLog) → slice_get logs k ≡ Some v → pushed_hints (set logs k w) + length v.pushed ≡ pushed_hints logs + length w.pushed
pushed_set [] k v w at = absurd (cc)
pushed_set (u ∷ logs) zero v w at = let same : u ≡ v = cc in let e = ap (λ (y : HintLog). length y.pushed) same in omega (arith, e)
pushed_set (u ∷ logs) (suc k) v w at = let t = pushed_set logs k v w at in omega (arith, t)

module _ (passes : List (Pass ℕ HintLog)) (k : ℕ) (old new : Pass ℕ HintLog) (at : slice_get passes k ≡ Some old) (pushed : ℕ) (is : pushed ≡ capped_count (pushed_hints (logs_of passes))) where
  moved : pushed_hints (logs_of (set passes k new)) + length (view old).pushed ≡ pushed_hints (logs_of passes) + length (view new).pushed
  moved = ap (λ l. pushed_hints l + length (view old).pushed) (map-set view passes k new) ∙ pushed_set (logs_of passes) k (view old) (view new) (get_map view passes k old at)

  pub count_push : (fits : Bool) (hint now : ℕ) → view new ≡ after_push fits hint (view old) → now ≡ cond fits (min (pushed + 1) (2 ^ 64 - 1)) pushed → now ≡ capped_count (pushed_hints (logs_of (set passes k new)))
  count_push true hint now log e =
      let m = moved in let n = ap (λ (y : HintLog). length y.pushed) log in let s = length_snoc (view old).pushed hint in omega (arith, m, n, s, is, e)
  count_push false hint now log e = let m = moved in let n = ap (λ (y : HintLog). length y.pushed) log in omega (arith, m, n, is, e)

  pub count_pop : (hint : Option ℕ) → view new ≡ after_pop hint (view old) → pushed ≡ capped_count (pushed_hints (logs_of (set passes k new)))
  count_pop None log = let m = moved in let n = ap (λ (y : HintLog). length y.pushed) log in omega (arith, m, n, is)
  count_pop (Some hint) log = let m = moved in let n = ap (λ (y : HintLog). length y.pushed) log in omega (arith, m, n, is)

pub may_push : (fits : Bool) (hint : ℕ) (v w : HintLog) → w ≡ after_push fits hint v → w.may_pop ≡ v.may_pop
may_push true hint v w e = ap (λ (y : HintLog). y.may_pop) e
may_push false hint v w e = ap (λ (y : HintLog). y.may_pop) e

pub may_pop : (hint : Option ℕ) (v w : HintLog) → w ≡ after_pop hint v → w.may_pop ≡ v.may_pop
may_pop None v w e = ap (λ (y : HintLog). y.may_pop) e
may_pop (Some hint) v w e = ap (λ (y : HintLog). y.may_pop) e

-- ---- what a rope keeps

pushed_more : (logs : List HintLog) (k : ℕ) (f : HintLog → HintLog) → ((v : HintLog) → length v.pushed ≤ length (f v).pushed) → pushed_hints logs ≤ pushed_hints (slice_set logs k (f (get_or logs k (new_log false))))
pushed_more [] k f more = omega arith
pushed_more (u ∷ logs) zero f more = let m = more u in omega (arith, m)
pushed_more (u ∷ logs) (suc k) f more = let t = pushed_more logs k f more in omega (arith, t)

push_more : (fits : Bool) (hint : ℕ) (v : HintLog) → length v.pushed ≤ length (after_push fits hint v).pushed
push_more true hint v = let s = length_snoc v.pushed hint in omega (arith, s)
push_more false hint v = omega arith

pop_more : (hint : Option ℕ) (v : HintLog) → length v.pushed ≤ length (after_pop hint v).pushed
pop_more None v = omega arith
pop_more (Some hint) v = omega arith

pub ring_same : (k hint : ℕ) (fits : Bool) (r : RopeState) → IsSameRope r (after_ring k hint fits r)
ring_same k hint fits r = record { placement = refl; core = refl; rooms = refl; pushed = pushed_more r.logs k (after_push fits hint) (push_more fits hint) }

pub pop_same : (hint : Option ℕ) (r : RopeState) → IsSameRope r (after_rope_pop hint r)
pop_same hint r = record { placement = refl; core = refl; rooms = refl; pushed = pushed_more r.logs r.core (after_pop hint) (pop_more hint) }
