-- A port with every mailbox of a code.
use Rattle.std.proofs.Common.{◌≡◌, ℕ, zero, suc, ◌<◌, ◌≤◌, true, Some, Result, Ok, Err, List, [], ◌∷◌, length, refl, sym, ap, ◌∙◌, subst, ⊎_elim, arith}
use Rattle.std.specs.Prelude.{slice_get, slice_index_or, get_or, map, All, IsTrue, IfOk}
use Rattle.std.proofs.lemmas.Option.{get_or_from_slice_get}
use Rattle.std.proofs.lemmas.List.{length-map}
use Rattle.std.proofs.lemmas.Bool.{cases_lt}
use Rattle.forec_kernel.specs.declared.shape.ThreadShape.{ThreadShape}
use Rattle.forec_kernel.specs.Shapes.{plain_thread}
use Rattle.forec_kernel.specs.Texts.{uses_in, params_in}
use Rattle.forec_kernel.specs.Packets.{PlainPacket}
use Rattle.forec_kernel.specs.Packed.{HasRoom}
use Rattle.forec_kernel.specs.WellFormed.{distinct}
use Rattle.thread_code.specs.declared.instruction.CodeParts.{CodeParts}
use Rattle.thread_code.specs.Plain.{plain_code}
use Rattle.thread_code.specs.Valid.{of_shape}
use Rattle.combine_tree.specs.declared.packet.Packet.{Packet}
use Rattle.combine_tree.specs.Plain.{plain_packet}
use Rattle.copy_slots.specs.Ports.{MailboxEnds, parent_at, child_at}
use Rattle.copy_slots.specs.Fresh.{fresh_ends, new_state}
use Rattle.core_alloc.specs.Places.{Places}
use Rattle.core_seats.specs.declared.work.ForecWork.{ForecWork}
use Rattle.core_seats.specs.Loads.{CanLoad, AreAll, is_on, IsNewParent, IsNewChild}

pub params_at : (l : List ThreadShape) (t : ℕ) (x : ThreadShape) → slice_get l t ≡ Some x → params_in (map plain_thread l) t ≡ x.params
params_at [] zero x e = cc
params_at [] (suc t) x e = cc
params_at (y ∷ l) zero x e = cc
params_at (y ∷ l) (suc t) x e = params_at l t x e

pub uses_at : (l : List ThreadShape) (t : ℕ) (x : ThreadShape) → slice_get l t ≡ Some x → length (uses_in (map plain_thread l) t) ≡ length x.uses.items
uses_at [] zero x e = cc
uses_at [] (suc t) x e = cc
uses_at (y ∷ l) zero x e = cc
uses_at (y ∷ l) (suc t) x e = uses_at l t x e

pub get_within : {A : Type 0} (l : List A) (t : ℕ) → t < length l → (x : A) × (slice_get l t ≡ Some x)
get_within [] t lt = absurd (omega (arith, lt))
get_within (y ∷ l) zero lt = (y, refl)
get_within (y ∷ l) (suc t) lt = get_within l t (omega (arith, lt))

pub params_index : (l : List ThreadShape) (t : ℕ) (x : ThreadShape) → t < length l → x ≡ slice_index_or l t x → params_in (map plain_thread l) t ≡ x.params
params_index l t x lt e = let at = get_within l t lt in
    params_at l t at.0 at.1 ∙ ap (λ (y : ThreadShape). y.params) (sym (e ∙ get_or_from_slice_get l t at.0 x at.1))

pub uses_index : (l : List ThreadShape) (t : ℕ) (x : ThreadShape) → t < length l → x ≡ slice_index_or l t x → length (uses_in (map plain_thread l) t) ≡ length x.uses.items
uses_index l t x lt e = let at = get_within l t lt in
    uses_at l t at.0 at.1 ∙ ap (λ (y : ThreadShape). length y.uses.items) (sym (e ∙ get_or_from_slice_get l t at.0 x at.1))

-- ---- a port with all ends can be loaded with all cores

beyond : (l : List ℕ) (t d : ℕ) → length l ≤ t → get_or l t d ≡ d
beyond [] t d le = refl
beyond (y ∷ l) zero d le = absurd (omega (arith, le))
beyond (y ∷ l) (suc t) d le = beyond l t d (omega (arith, le))

all_on : (places cores : List ℕ) (n : ℕ) → All (λ core. core < n) places → 0 < length places → AreAll n cores → (t : ℕ) → is_on places cores t ≡ true
all_on places cores n placed some all t = all (get_or places t 0)
    (⊎_elim (λ less. placed t 0 less)
    (λ ge. let none = placed 0 0 some in subst (λ z. z < n) (sym (beyond places t 0 ge)) (omega (arith, none))) (cases_lt t (length places)))

abbrev all_ends : {P : Type 0} (l : List P) → List (MailboxEnds PlainPacket)
all_ends l = map (λ p. fresh_ends) l

new_parent : {P : Type 0} (l : List P) (k : ℕ) → k < length l → IsNewParent true (parent_at (all_ends l) k)
new_parent [] k lt = absurd (omega (arith, lt))
new_parent (p ∷ l) zero lt = (refl, refl, refl)
new_parent (p ∷ l) (suc k) lt = new_parent l k (omega (arith, lt))

new_child : {P : Type 0} (l : List P) (k : ℕ) → k < length l → IsNewChild true (child_at (all_ends l) k)
new_child [] k lt = absurd (omega (arith, lt))
new_child (p ∷ l) zero lt = (refl, refl, refl)
new_child (p ∷ l) (suc k) lt = new_child l k (omega (arith, lt))

blank_at : (l : List Packet) (k : ℕ) (p : Packet) → slice_get l k ≡ Some p → slice_get (map plain_packet l) k ≡ Some (plain_packet p)
blank_at [] k p e = cc
blank_at (q ∷ l) zero p e = cc
blank_at (q ∷ l) (suc k) p e = blank_at l k p e

pub serves_all : (code : CodeParts) (work : ForecWork) (blanks : List Packet) (placement : Places) (cores : List ℕ) → work.code.value ≡ code →
    suc (length blanks) ≡ length (plain_code code).threads →
    ((k : ℕ) (p : Packet) → slice_get blanks k ≡ Some p → HasRoom (of_shape (plain_code code).shape) (suc k) (plain_packet p)) →
    length placement.places ≡ length (plain_code code).threads →
    IsTrue (distinct cores) → All (λ core. core < placement.cores) cores → AreAll placement.cores cores →
    CanLoad code placement cores (new_state plain_packet work blanks)
serves_all code work blanks placement cores same count each placed once below all =
    let ends_count : length (all_ends blanks) ≡ length blanks = length-map blanks _ in
    let some : 0 < length placement.places = omega (arith, count, placed) in
    record {
      placed = placed;
      once = once;
      below = below;
      work = same;
      mailboxes = ap suc ends_count ∙ count;
      parents = λ are k t lt branch. subst (λ b. IsNewParent b (parent_at (all_ends blanks) k)) (sym (all_on placement.places cores placement.cores are some all t)) (new_parent blanks k (subst (λ n. k < n) ends_count lt));
      children = λ are k lt. subst (λ b. IsNewChild b (child_at (all_ends blanks) k)) (sym (all_on placement.places cores placement.cores are some all (suc k))) (new_child blanks k (subst (λ n. k < n) ends_count lt));
      blanks = λ k lt. let at = get_within blanks k (subst (λ n. k < n) ends_count lt) in
          record { blank = plain_packet at.0; is = blank_at blanks k at.0 at.1; room = each k at.0 at.1 };
      root = λ on. refl;
    }
