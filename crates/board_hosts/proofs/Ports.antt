-- The port of a core, and the host of that core alone.
use Rattle.std.proofs.Common.{◌≡◌, ℕ, zero, suc, ◌<◌, ◌==◌, Bool, true, false, cond, Some, None, List, [], ◌∷◌, length, refl, sym, ap, ◌∙◌, subst, ⊎_elim, arith}
use Rattle.std.specs.Prelude.{slice_get, get_or, map, All}
use Rattle.std.proofs.Common.{length-append}
use Rattle.std.proofs.lemmas.List.{length-map}
use Rattle.std.proofs.lemmas.Option.{slice_get_within}
use Rattle.std.proofs.lemmas.Bool.Decides.{nat_tests}
use Rattle.atomic_table.specs.Seated.{TableId}
use Rattle.forec_kernel.specs.Packets.{PlainPacket}
use Rattle.forec_kernel.specs.Packed.{HasRoom}
use Rattle.thread_code.specs.declared.instruction.CodeParts.{CodeParts}
use Rattle.thread_code.specs.Plain.{plain_code}
use Rattle.thread_code.specs.Valid.{of_shape}
use Rattle.combine_tree.specs.declared.packet.Packet.{Packet}
use Rattle.combine_tree.specs.Plain.{plain_packet}
use Rattle.copy_slots.specs.Ports.{parent_at, child_at}
use Rattle.copy_slots.specs.Mail.{new_sender, new_taker}
use Rattle.copy_slots.proofs.Seating.{snoc_cases}
use Rattle.slot_board.specs.Dealt.{ends_of_core, core_state, new_ports}
use Rattle.slot_board.specs.Splits.{pick}
use Rattle.slot_board.proofs.Cutting.{get_there}
use Rattle.core_alloc.specs.Places.{Places}
use Rattle.core_seats.specs.declared.work.ForecWork.{ForecWork}
use Rattle.core_seats.specs.Posts.{Mail}
use Rattle.core_seats.specs.Loads.{CanLoad, IsNewParent, IsNewChild}
use Rattle.board_hosts.specs.Boards.{AreEnds, ArePorts}

-- a thread whose core is this number is on this core alone exactly where the numbers are the same
on_core : (core x : ℕ) → cond (core == x) true false ≡ (x == core)
on_core core x = grind (arith, nat_tests)

new_parent : (core : ℕ) (ends : List (ℕ × ℕ)) (k : ℕ) (e : ℕ × ℕ) → slice_get ends k ≡ Some e → IsNewParent (e.0 == core) (parent_at (map (ends_of_core {Q = PlainPacket} core) ends) k)
new_parent core [] zero e at = cc
new_parent core [] (suc k) e at = cc
new_parent core (d ∷ ends) (suc k) e at = new_parent core ends k e at
new_parent core (d ∷ ends) zero e at = subst (λ (x : ℕ × ℕ). IsNewParent (x.0 == core) (pick (d.0 == core) (Some new_sender) None)) (some_end d e at) (either (d.0 == core))
  where
    some_end : (a b : ℕ × ℕ) → Some a ≡ Some b → a ≡ b
    some_end a b e = cc

    either : (b : Bool) → IsNewParent b (pick b (Some new_sender) None)
    either true = (refl, refl, refl)
    either false = tt

new_child : (core : ℕ) (ends : List (ℕ × ℕ)) (k : ℕ) (e : ℕ × ℕ) → slice_get ends k ≡ Some e → IsNewChild (e.1 == core) (child_at (map (ends_of_core {Q = PlainPacket} core) ends) k)
new_child core [] zero e at = cc
new_child core [] (suc k) e at = cc
new_child core (d ∷ ends) (suc k) e at = new_child core ends k e at
new_child core (d ∷ ends) zero e at = subst (λ (x : ℕ × ℕ). IsNewChild (x.1 == core) (pick (d.1 == core) (Some new_taker) None)) (some_end d e at) (either (d.1 == core))
  where
    some_end : (a b : ℕ × ℕ) → Some a ≡ Some b → a ≡ b
    some_end a b e = cc

    either : (b : Bool) → IsNewChild b (pick b (Some new_taker) None)
    either true = (refl, refl, refl)
    either false = tt

blank_at : (l : List Packet) (k : ℕ) (p : Packet) → slice_get l k ≡ Some p → slice_get (map plain_packet l) k ≡ Some (plain_packet p)
blank_at [] zero p e = cc
blank_at [] (suc k) p e = cc
blank_at (q ∷ l) zero p e = cc
blank_at (q ∷ l) (suc k) p e = blank_at l k p e

one_below : (n core : ℕ) → core < n → All (λ c. c < n) (core ∷ [])
one_below n core lt zero d within = lt
one_below n core lt (suc k) d within = absurd (omega (arith, within))

module _ (code : CodeParts) (work : ForecWork) (blanks : List Packet) (placement : Places) (ends : List (ℕ × ℕ)) (z : TableId)
    (same : work.code.value ≡ code) (count : suc (length blanks) ≡ length (plain_code code).threads)
    (room : (k : ℕ) (p : Packet) → slice_get blanks k ≡ Some p → HasRoom (of_shape (plain_code code).shape) (suc k) (plain_packet p))
    (placed : length placement.places ≡ length (plain_code code).threads) (are : AreEnds (plain_code code) placement.places ends) where
  abbrev port : ℕ → Mail
  port core = core_state z work (map plain_packet blanks) ends (get_or placement.places 0 0) core

  core_loads : (core : ℕ) → core < placement.cores → CanLoad code placement (core ∷ []) (port core)
  core_loads core lt =
      let sized : length (port core).ends ≡ length ends = length-map ends (ends_of_core {Q = PlainPacket} core) in
      record {
        placed = placed;
        once = refl;
        below = one_below placement.cores core lt;
        work = same;
        mailboxes = ap suc sized ∙ are.count;
        parents = λ on k t within branch. let at = get_there ends k (subst (λ n. k < n) sized within) in
            subst (λ b. IsNewParent b (parent_at (port core).ends k)) (sym (on_core core (get_or placement.places t 0) ∙ ap (λ x. x == core) (sym (are.parent k t at.0 at.1 branch))))
            (new_parent core ends k at.0 at.1);
        children = λ on k within. let at = get_there ends k (subst (λ n. k < n) sized within) in
            subst (λ b. IsNewChild b (child_at (port core).ends k)) (sym (on_core core (get_or placement.places (suc k) 0) ∙ ap (λ x. x == core) (sym (are.child k at.0 at.1))))
            (new_child core ends k at.0 at.1);
        blanks = λ k within. let ended = are.count in let at = get_there blanks k (omega (arith, within, sized, ended, count)) in
            record { blank = plain_packet at.0; is = blank_at blanks k at.0 at.1; room = room k at.0 at.1 };
        root = λ on. grind (arith, nat_tests);
      }

  abbrev ports : ℕ → List Mail
  ports n = new_ports z work (map plain_packet blanks) ends (get_or placement.places 0 0) n

  ports_count : (n : ℕ) → length (ports n) ≡ n
  ports_count zero = refl
  ports_count (suc n) = let more = length-append (ports n) (port n ∷ []) in let had = ports_count n in omega (arith, more, had)

  port_at : (n core : ℕ) (p : Mail) → slice_get (ports n) core ≡ Some p → p ≡ port core
  port_at zero zero p at = cc
  port_at zero (suc core) p at = cc
  port_at (suc n) core p at = ⊎_elim (λ new. sym new.1 ∙ ap port (sym (new.0 ∙ ports_count n))) (λ old. port_at n core p old) (snoc_cases (ports n) (port n) p core at)

  pub board_ports : ArePorts code placement (ports placement.cores)
  board_ports = record {
    count = ports_count placement.cores;
    each = λ core p at. let near = slice_get_within (ports placement.cores) core p at in let sized = ports_count placement.cores in
        subst (λ (m : Mail). CanLoad code placement (core ∷ []) m) (sym (port_at placement.cores core p at)) (core_loads core (omega (arith, near, sized)));
  }
