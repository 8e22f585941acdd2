use Rattle.std.proofs.Common.{◌≡◌, ◌∙◌, ap, length, rules, arith}
use Rattle.core_alloc.specs.Places.{Places}
use Rattle.core_alloc.specs.Balance.{balance_of}
use Rattle.core_alloc.proofs.BalanceLemmas.{order_length, order_total, order_low}
use Rattle.core_alloc.proofs.Loads.{stays_even}
use Rattle.core_alloc.proofs.balanced.balance.Goals as goal

pub returns-clause-even : goal.returns-clause-even
returns-clause-even c =
    let order = c.in_ok-order.order.items in
    let made : c.of.result.places ≡ c.in_ok-places.places.items = ap (λ (p : Places). p.places) c.of.ensures in
    let is = made ∙ c.in_ok-places.ensures.places ∙ ap (λ o. (balance_of o c.args.cores).places) c.deref.ensures.value in
    rw is (stays_even c.args.weights.now order c.args.cores (omega (arith, c.requires.some)) c.in_ok-order.ensures)

pub places_of-requires-clause-threads : goal.places_of-requires-clause-threads
places_of-requires-clause-threads c =
    rw c.deref.ensures.value (order_low c.args.weights.now c.in_ok-order.order.items c.in_ok-order.ensures)

pub places_of-requires-clause-total : goal.places_of-requires-clause-total
places_of-requires-clause-total c =
    rw c.deref.ensures.value (omega (arith, order_total c.args.weights.now c.in_ok-order.order.items c.in_ok-order.ensures, c.requires.total))

pub of-requires-clause-few : goal.of-requires-clause-few
of-requires-clause-few c =
    let same : length c.deref.result.now ≡ length c.in_ok-order.order.items = ap length c.deref.ensures.value in
    omega (arith, c.in_ok-places.ensures.count, same, order_length c.args.weights.now c.in_ok-order.order.items c.in_ok-order.ensures, c.requires.threads)

pub returns-clause-threads : goal.returns-clause-threads
returns-clause-threads c =
    let same : length c.deref.result.now ≡ length c.in_ok-order.order.items = ap length c.deref.ensures.value in
    let made : length c.of.result.places ≡ length c.in_ok-places.places.items = ap (λ (p : Places). length p.places) c.of.ensures in
    made ∙ c.in_ok-places.ensures.count ∙ same ∙ order_length c.args.weights.now c.in_ok-order.order.items c.in_ok-order.ensures
