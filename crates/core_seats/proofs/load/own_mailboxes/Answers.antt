use Rattle.std.proofs.Common.{rules, ◌≡◌, [], ℕ, ◌+◌, ◌<◌, zero, suc, Some, length, sym, ap, ◌∙◌, subst, arith}
use Rattle.std.specs.Prelude.{slice_get, get_or}
use Rattle.core_seats.specs.Loads.{contains_core}
use Rattle.core_seats.proofs.LoadLemmas.{OwnBelow, own_step}
use Rattle.core_seats.proofs.load.own_mailboxes.Goals as goal

pub loop-mailbox-init : goal.loop-mailbox-init
loop-mailbox-init c =
    let empty = c.new-own.ensures.items in
    record { here = λ i k at. absurd (none i k (ap (λ l. slice_get l i) (sym empty) ∙ at)); all = λ k lt on. absurd (omega (arith, lt)) }
  where
    none : (i k : ℕ) → slice_get [] i ≡ Some k → ⊥
    none zero k e = cc
    none (suc i) k e = cc

pub loop-mailbox-preserved : goal.loop-mailbox-preserved
loop-mailbox-preserved c =
    let lt : c.loop-mailbox.mailbox + 1 < length c.args.places.now = search rules in
    let one : c.loop-mailbox.mailbox + 1 ≡ suc c.loop-mailbox.mailbox = omega arith in
    let here = c.is_among-is_here.ensures ∙ ap (λ n. contains_core (get_or c.args.places.now n 0) c.args.cores.now) one in
    subst (λ l. OwnBelow c.args.places.now c.args.cores.now l (c.loop-mailbox.mailbox + 1)) (sym c.in_ok-push_if.ensures)
    (own_step c.args.places.now c.args.cores.now c.loop-mailbox.own.items c.loop-mailbox.mailbox c.loop-mailbox.invariant lt c.is_among-is_here.result here)
