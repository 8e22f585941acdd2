use Rattle.std.proofs.Common.{◌≡◌, ◌-◌, ◌<◌, ℕ, zero, suc, List, length, map, refl, ap, sym, ◌∙◌, subst, arith}
use Rattle.std.specs.Prelude.{All, Option}
use Rattle.crossbeam_queue.specs.declared.array_queue.Doing.{Doing}
use Rattle.crossbeam_queue.specs.declared.array_queue.Slotted.{Slotted}
use Rattle.forec_kernel.specs.declared.shape.Shape.{Shape}
use Rattle.forec_kernel.specs.Shapes.{PlainShape, plain_shape}
use Rattle.thread_code.specs.declared.instruction.CodeParts.{CodeParts}
use Rattle.core_bells.specs.declared.hints.HintLog.{HintLog}
use Rattle.crossbeam_queue.specs.Passes.{ruled_capacity}
use Rattle.thread_code.specs.Plain.{plain_code}
use Rattle.core_alloc.specs.Places.{Places}
use Rattle.core_bells.specs.Rooms.{mailbox_cores, ends_of_first, mailbox_ends, rooms_of_first}
use Rattle.core_bells.specs.Ropes.{RopesFit, AreQueues, new_ropes, placed_on, states_of}
use Rattle.core_bells.proofs.Lists.{length_snoc}
use Rattle.core_bells.proofs.bells.Bells.new.Goals as goal

ends_count : (s : PlainShape) (places : List ℕ) (n : ℕ) → length (ends_of_first s places n) ≡ n
ends_count s places zero = refl
ends_count s places (suc n) = let t = length_snoc (ends_of_first s places n) (mailbox_cores s places n) in let ih = ends_count s places n in omega (arith, t, ih)

pub open_all-requires : goal.open_all-requires
open_all-requires c =
    let s = plain_shape c.shape.result.now in let places = c.deref.result.now in let few = c.shape.ensures.valid.shape.few_threads in
    let same : length (plain_shape c.shape.result.now).threads ≡ length (plain_code c.args.code.now).shape.threads = ap (λ t. length (plain_shape t).threads) c.shape.ensures.same in
    let count = ap length (c.deref-2.ensures.value ∙ c.in_ok-ends.ensures) ∙ ends_count s places (length s.threads - 1) in omega (arith, few, same, count)

-- the queues of these ends are the code's
module _ {Q A : Type 0} (code : CodeParts) (placement : Places) (given found : List (Slotted (Option ℕ) (Doing ℕ HintLog) Q A)) (shape : Shape) (places : List ℕ) (ends : List (ℕ × ℕ)) (cores : ℕ) where
  are : given ≡ found → length found ≡ cores → map ruled_capacity found ≡ rooms_of_first ends cores → ends ≡ mailbox_ends (plain_shape shape) places → shape ≡ code.shape → places ≡ placement.places → cores ≡ placement.cores
      → All (λ c. c < placement.cores) placement.places → AreQueues code placement given
  are same count rooms laid shaped placed whole below = record {
    cores = ap length same ∙ (count ∙ whole);
    rooms = ap (map ruled_capacity) same ∙ (rooms ∙ (λ i. rooms_of_first ((laid ∙ (λ j. mailbox_ends (plain_shape (shaped j)) (placed j))) i) (whole i)));
    placed = below;
  }

pub returns-clause-whole : goal.returns-clause-whole
returns-clause-whole c =
    let e = c.in_ok-queues.ensures in let same = c.deref-3.ensures.value in let cores = c.cores-cores.ensures.value in
    let queues = are c.args.code.now c.args.placement.now c.deref-3.result.now c.in_ok-queues.queues.items c.shape.result.now c.deref.result.now c.deref-2.result.now c.cores-cores.result
    same e.count e.rooms (c.deref-2.ensures.value ∙ c.in_ok-ends.ensures) c.shape.ensures.same (c.deref.ensures.value ∙ c.in_ok-places.ensures.same) cores c.in_ok-places.ensures.placed in
    let at : placed_on c.cores-cores.result c.in_ok-places.places.items ≡ c.args.placement.now = λ i. placed_on (cores i) (c.in_ok-places.ensures.same i) in
    subst (λ (p : Places). RopesFit p c.in_ok-queues.queues.items c.in_ok-loose.loose.items) (sym at)
    (subst (λ q. RopesFit c.args.placement.now q c.in_ok-loose.loose.items) same (c.in_ok-loose.ensures.fit c.args.code.now c.args.placement.now queues (omega (arith, cores))))

pub returns-clause-ropes : goal.returns-clause-ropes
returns-clause-ropes c =
    let e = c.in_ok-queues.ensures in let same = c.deref-3.ensures.value in let cores = c.cores-cores.ensures.value in let back = sym same in
    let queues = are c.args.code.now c.args.placement.now c.deref-3.result.now c.in_ok-queues.queues.items c.shape.result.now c.deref.result.now c.deref-2.result.now c.cores-cores.result
    same e.count e.rooms (c.deref-2.ensures.value ∙ c.in_ok-ends.ensures) c.shape.ensures.same (c.deref.ensures.value ∙ c.in_ok-places.ensures.same) cores c.in_ok-places.ensures.placed in
    let at : placed_on c.cores-cores.result c.in_ok-places.places.items ≡ c.args.placement.now = λ i. placed_on (cores i) (c.in_ok-places.ensures.same i) in
    (λ i. states_of (at i) (back i) c.in_ok-loose.loose.items) ∙ (c.in_ok-loose.ensures.states c.args.code.now c.args.placement.now queues ∙ ap (new_ropes c.args.code.now c.args.placement.now) cores)
